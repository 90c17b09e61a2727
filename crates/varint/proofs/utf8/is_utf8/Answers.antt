use Prim.Native.Nat.{ℕ, ◌+◌, ◌-◌}
use native.Mathlib.Omega.{arith}
use mathlib.Core.Path.{◌≡◌, sym, ◌∙◌, ap}
use mathlib.Core.List.{List}
use lib.ListN.{take, drop}
use Rattle.varint.specs.Stores.{part}
use Rattle.varint.specs.Utf8.{utf8}
use Rattle.varint.proofs.Utf8Laws.{utf8_at_in, utf8_at_out}
use Rattle.varint.proofs.utf8.is_utf8.Goals as goal

-- Past the end of the slice, or a part of it.
pub returns-then-s-from : goal.returns-then-s-from
returns-then-s-from c = let a = c.args in sym (utf8_at_out a.s.now a.from a.len (omega arith))

pub returns-then-s-from-2 : goal.returns-then-s-from-2
returns-then-s-from-2 c = let a = c.args in sym (utf8_at_out a.s.now a.from a.len (omega arith))

part_is : (s : List ℕ) (from n : ℕ) → take (from + n - from) (drop from s) ≡ part s from n
unfolding part
part_is s from n = let e : from + n - from ≡ n = omega arith in ap (λ (k : ℕ). take k (drop from s)) e

pub returns : goal.returns
returns c = let a = c.args in
    c.is_text.ensures ∙ ap utf8 (part_is a.s.now a.from a.len) ∙ sym (utf8_at_in a.s.now a.from a.len (omega arith))
