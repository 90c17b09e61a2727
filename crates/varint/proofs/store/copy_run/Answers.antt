use mathlib.Core.Path.{◌≡◌, refl, sym, ◌∙◌, ap}
use mathlib.Core.List.{List, [], ◌∷◌}
use Prim.Native.Nat.{ℕ, ◌+◌, ◌-◌, ◌<◌}
use native.Mathlib.Omega.{arith}
use lib.ListN.{length, get_or, set}
use lib.Seq.{sets}
use Rattle.varint.specs.Stores.{part}
use Rattle.varint.proofs.StoreLaws.{sets_end, sets_cons, part_cons, part_none}
use borrow.Author.Rules.{rules}
use Rattle.varint.proofs.store.copy_run.Goals as goal

-- a run of one byte
one : (s d : List ℕ) (from len at : ℕ) → from < length s → len ≡ 1 → set d at (get_or s from 0) ≡ sets d at (part s from len)
one s d from len at h l =
    let rest : part s (from + 1) (len - 1) ≡ [] = part_none s (from + 1) (len - 1) (omega arith) in
    sym (sets_cons d at _ _ [] (part_cons s from len h (omega arith) ∙ ap (λ (t : List ℕ). get_or s from 0 ∷ t) rest))

pub loop-k-init : goal.loop-k-init
loop-k-init c = record { inside = omega arith; size = refl; same = ap (sets _ _) (sym (part_none _ _ 0 (omega arith))) }

pub loop-k-preserved : goal.loop-k-preserved
loop-k-preserved c =
    let block = c.before.before in
    let l = block.before.before.before in
    let a = l.args in
    let i = l.loop-k.invariant in
    record {
      inside = omega arith;
      size = search rules;
      same =
          sets_end a.src.now a.dst.now a.from a.at l.loop-k.k (a.from + l.loop-k.k) (a.at + l.loop-k.k) 16 (l.loop-k.k + 16)
          (omega arith)
          i.same
          block.copy_block.ensures;
    }

pub returns-then-len-ge-BLOCK : goal.returns-then-len-ge-BLOCK
returns-then-len-ge-BLOCK c =
    let block = c.before.before in
    let l = block.before.before.before in
    let a = l.args in
    let i = l.loop-k.invariant in
    sets_end a.src.now a.dst.now a.from a.at l.loop-k.k (a.from + a.len - 16) (a.at + a.len - 16) 16 a.len
    (omega arith)
    i.same
    block.copy_block-then-len-ge-BLOCK.ensures

pub returns-then-len-gt0 : goal.returns-then-len-gt0
returns-then-len-gt0 c =
    let a = c.args in
    one a.src.now a.dst.now a.from a.len a.at (omega arith) (omega arith)

pub returns-else-len-gt0 : goal.returns-else-len-gt0
returns-else-len-gt0 c =
    let a = c.args in
    sym (ap (sets a.dst.now a.at) (part_none a.src.now a.from a.len (omega arith)))
