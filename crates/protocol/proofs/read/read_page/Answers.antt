use mathlib.Core.Path.{◌≡◌, refl, sym, ◌∙◌, ap}
use mathlib.Core.Bool.{true}
use mathlib.Core.List.{List}
use Prim.Native.Nat.{ℕ, ◌+◌, ◌-◌, ◌≤◌}
use native.Mathlib.Omega.{arith}
use lib.ListN.{length, length-drop, drop}
use borrow.Author.Rules.{rules}
use Rattle.std.proofs.Math.Nat.{sub-add-eq}
use Rattle.varint.specs.Stores.{part}
use Rattle.varint.specs.Utf8.{utf8, utf8_at}
use Rattle.varint.proofs.StoreLaws.{length_part}
use Rattle.varint.proofs.Utf8Laws.{utf8_at_in}
use Rattle.protocol.specs.Inner.Loading.{mem, put, laid_as}
use Rattle.protocol.specs.Page.{lay_page}
use Rattle.protocol.specs.Pieces.{words}
use Rattle.protocol.proofs.MessageFields.{page_inside, page_read, page_bad, page_again}
use Rattle.protocol.proofs.MessageReads.{laid_read, laid_refused}
use Rattle.protocol.proofs.RowStores.{part_rest, part_and_rest}
use Rattle.protocol.proofs.read.read_page.Goals.{else-memory-via-then-memory+else-not-is_utf8, else-memory-via-else-memory}
use Rattle.protocol.proofs.read.read_page.Goals as goal

-- the test of what follows the cursor is of all of it
rest_tested : (s : List ℕ) (q n : ℕ) → q ≤ length s → n ≤ length s - q → utf8_at s (q + n) (length s - q - n) ≡ utf8 (drop (q + n) s)
rest_tested s q n h l = utf8_at_in s (q + n) _ (omega arith) ∙ ap utf8 (ap (part s (q + n)) (sym (sub-add-eq (length s) q n)) ∙ part_rest s (q + n))

pub overflow_sub-rest : goal.overflow_sub-rest
overflow_sub-rest c =
    let i = page_inside c.args.s.now (sym c.get_u64_le.ensures ∙ c.in_ok-limit.was) (sym c.get_u32_le.ensures ∙ c.in_ok-len.was) in
    search rules

pub store_text-requires-clause-inside : goal.store_text-requires-clause-inside
store_text-requires-clause-inside c =
    let i = page_inside c.args.s.now (sym c.get_u64_le.ensures ∙ c.in_ok-limit.was) (sym c.get_u32_le.ensures ∙ c.in_ok-len.was) in
    omega arith

pub returns-then-not-is_utf8 : goal.returns-then-not-is_utf8
returns-then-not-is_utf8 c =
    let s = c.args.s.now in
    let h = sym c.get_u64_le.ensures ∙ c.in_ok-limit.was in
    let k = sym c.get_u32_le.ensures ∙ c.in_ok-len.was in
    let l = c.if-rest-len.false in
    ((refl, refl, refl), laid_refused _ _ (ap (laid_as lay_page) (page_bad s h k l (sym (c.is_utf8.ensures ∙ rest_tested s _ _ (page_inside s h k) l) ∙ c.if-not-is_utf8.true))))

pub returns : goal.returns
unfolding lay_page
returns c =
    let s = c.args.s.now in
    let m = mem c.args.memory.now in
    let n = c.in_ok-len.len in
    let q = c.in_ok-len.q in
    let h = sym c.get_u64_le.ensures ∙ c.in_ok-limit.was in
    let k = sym c.get_u32_le.ensures ∙ c.in_ok-len.was in
    let i = page_inside s h k in
    let l = c.if-rest-len.false in
    let a = length_part s q n (omega arith) in
    let b = length-drop (q + n) s ∙ sub-add-eq (length s) q n in
    let u : utf8 (drop (q + n) s) ≡ true = elim c.else-memory.branch [
      | else-memory-via-then-memory+else-not-is_utf8 w ↦ sym (w.is_utf8.ensures ∙ rest_tested s q n i l) ∙ w.if-not-is_utf8.false
      | else-memory-via-else-memory w ↦ page_again s h k l (c.requires.again w.if-memory.false)
    ] in (
      c.store_text.ensures.1.0,
      laid_read (ap (laid_as lay_page) (page_read s h k l u)) m _ (rw (a, b) refl)
          (c.store_text.ensures.1.1 ∙ ap (λ (x : List ℕ). put (words x) m) (part_rest s q ∙ sym (part_and_rest s q n))),
    )
