-- The starred lines of document 01's "Bytes to try", by one computed test over the table.
use mathlib.Core.Bool.{Bool, true, false, ◌&&◌}
use mathlib.Core.Path.{◌≡◌, refl}
use mathlib.Core.List.{List, [], ◌∷◌, ◌++◌}
use Prim.Native.Nat.{ℕ}
use lib.Dec.{eqb}
use borrow.Author.Tests.{eqb-true}
use Rattle.varint.specs.Leb128.{get_u64, read_from}
use Rattle.varint.specs.Tried.{Line, Holds, varint_lines}
use Rattle.varint.proofs.Basics.{both, clash}

unfoldable pub same : List ℕ → List ℕ → Bool
same [] [] = true
same [] (b ∷ y) = false
same (a ∷ x) [] = false
same (a ∷ x) (b ∷ y) = eqb a b && same x y

same_eq : (x y : List ℕ) → same x y ≡ true → x ≡ y
unfolding same
same_eq [] [] h = refl
same_eq [] (b ∷ y) h = clash h refl
same_eq (a ∷ x) [] h = clash h refl
same_eq (a ∷ x) (b ∷ y) h =
    let t = both (eqb a b) (same x y) h in
    rw (eqb-true a b t.0, same_eq x y t.1)

-- do all lines of a table hold?
unfoldable pub agree : List Line → Bool
agree [] = true
agree (l ∷ ls) = same (l.reader l.bytes) l.answer && agree ls

pub agree_holds : (ls : List Line) → agree ls ≡ true → Holds ls
unfolding agree
agree_holds [] h = tt
agree_holds (l ∷ ls) h =
    let t = both (same (l.reader l.bytes) l.answer) (agree ls) h in
    (same_eq (l.reader l.bytes) l.answer t.0, agree_holds ls t.1)

-- the tables of two layers are one table
pub holds_append : (ls ms : List Line) → Holds ls → Holds ms → Holds (ls ++ ms)
holds_append [] ms h k = k
holds_append (l ∷ ls) ms h k = (h.0, holds_append ls ms h.1 k)

pub varint_lines_lem : Holds varint_lines
unfolding agree same get_u64 read_from varint_lines
varint_lines_lem = agree_holds varint_lines refl
