-- Tests of one node, and of a name.
use mathlib.Core.Bool.{Bool, true, false, not, ◌&&◌, ◌||◌}
use mathlib.Core.Path.{◌≡◌, refl, sym}
use mathlib.Core.List.{List}
use Prim.Native.Nat.{ℕ, zero, suc, ◌+◌, ◌/◌, ◌≤◌, ◌<◌}
use Prim.Native.Nat.compare
use lib.Dec.{leb, eqb}
use lib.ListN.{length, get_or}
use borrow.Author.Tests.{lt-ltb, le-ltb}
use Rattle.varint.specs.Choice.{pick}
use Rattle.varint.specs.Gathering.{name_held, text_held}
use Rattle.varint.specs.Utf8.{utf8_at}
use Rattle.varint.specs.declared.error.Fault.TheVariants.{Texts}
use Rattle.varint.specs.declared.error.Refusal.TheVariants.{BadMessage, BadString}
use Rattle.varint.proofs.Utf8Laws.{utf8_at_in}
use Rattle.desc.specs.Emitting.{verdict}
use Rattle.desc.specs.Table.{cell, root_name, discriminant_fits, predicate_fits, is_branch, leaf_fits, node_fits}
use Rattle.desc.specs.Inner.Rows.{row_at}
use Rattle.std.proofs.Common.{Bor}
use Rattle.std.specs.Bool.{then_some}
use Rattle.std.specs.Option.{MatchOption}
use Rattle.std.specs.Prelude.{Ok, Err}

named_by : (root nameless : Bool) → (not root || nameless) ≡ pick root nameless true
named_by true nameless = refl
named_by false nameless = refl

-- at most the greatest number of a column: within 32 bits, or 0
at_most : (used : Bool) (v : ℕ) → leb v (pick used 0xFFFFFFFF 0) ≡ pick used (leb v 0xFFFFFFFF) (eqb v 0)
at_most true v = refl
at_most false zero = refl
at_most false (suc v) = rw compare.suc-zero refl

module _ (nd : List ℕ) (n parent : ℕ) where
  pub fits_not : length nd / 7 ≤ n → false ≡ node_fits nd n parent
  unfolding node_fits
  fits_not h = rw (le-ltb n (length nd / 7) h)

  -- a node that is there fits by the tests of its numbers
  pub fits_parts : (row : List ℕ) {most most₂ : ℕ} {parts : Bool} → row ≡ row_at nd n → n < length nd / 7
      → most ≡ pick (eqb parent 4) 0xFFFFFFFF 0 → most₂ ≡ pick (eqb (get_or row 0 0) 2) 0xFFFFFFFF 0 → parts ≡ (eqb (get_or row 0 0) 3 || eqb (get_or row 0 0) 4)
      → (leb (get_or row 0 0) 5 && (not (eqb parent 0) || (eqb (get_or row 1 0) 0 && eqb (get_or row 2 0) 0)) && leb (get_or row 3 0) most && leb (get_or row 4 0) most₂
      && (parts || (eqb (get_or row 5 0) 0 && eqb (get_or row 6 0) (n + 1))))
      ≡ node_fits nd n parent
  unfolding node_fits root_name discriminant_fits predicate_fits is_branch leaf_fits
  fits_parts row is h p q r =
      rw (
        p,
        q,
        r,
        is,
        lt-ltb n (length nd / 7) h,
        named_by (eqb parent 0) (eqb (cell nd n 1) 0 && eqb (cell nd n 2) 0),
        at_most (eqb parent 4) (cell nd n 3),
        at_most (eqb (cell nd n 0) 2) (cell nd n 4),
      )
      refl

-- a row is given where it fits
pub given : (t : Bool) (row : Bor (List ℕ)) {fits : Bool} {numbers : List ℕ} → t ≡ fits → row.now ≡ numbers
    → MatchOption (then_some t row) (fits ≡ false) (λ x. (fits ≡ true) × (x.now ≡ numbers))
given true row e h = (sym e, h)
given false row e h = sym e

module _ (tx : List ℕ) (start len : ℕ) where
  pub name_past : length tx < start + len → Err (BadMessage Texts) ≡ verdict (name_held tx start len)
  unfolding verdict name_held text_held
  name_past h = rw (lt-ltb (length tx) (start + len) h)

  pub name_good : {t : Bool} → start + len ≤ length tx → t ≡ utf8_at tx start len → t ≡ true → Ok tt ≡ verdict (name_held tx start len)
  unfolding verdict name_held text_held
  name_good h e is = rw (le-ltb (length tx) (start + len) h, ← utf8_at_in tx start len h, ← e, is)

  pub name_bad : {t : Bool} → start + len ≤ length tx → t ≡ utf8_at tx start len → t ≡ false → Err BadString ≡ verdict (name_held tx start len)
  unfolding verdict name_held text_held
  name_bad h e is = rw (le-ltb (length tx) (start + len) h, ← utf8_at_in tx start len h, ← e, is)
