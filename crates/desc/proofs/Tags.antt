-- What tests on a tag say of it.
use mathlib.Core.Bool.{Bool, true, false, ◌||◌}
use mathlib.Core.Path.{◌≡◌, refl}
use mathlib.Core.Logic.{◌≢◌}
use Prim.Native.Nat.{ℕ, zero, suc, ◌≤◌}
use native.Mathlib.Omega.{arith}
use lib.Dec.{leb, eqb}
use borrow.Author.Tests.{leb-true, eqb-true, eqb-false}
use Rattle.varint.specs.Choice.{pick}
use Rattle.varint.proofs.Basics.{clash}
use Rattle.desc.specs.Layout.{NameSpan}
use Rattle.desc.specs.WellFormed.{LeafOk, int, string, fact, bytes, BranchOk, record_type, union_type, LabelOk, field, alternative}

-- a node's name and discriminant, by the tag of the type that it is a part of, 0 for none
pub data Under : ℕ → NameSpan → ℕ → Type 0 where
  root : Under 0 (0, 0) 0
  below : {tag d : ℕ} {name : NameSpan} → LabelOk tag d → Under tag name d

-- a tag that is known, and neither of a fact nor of a type with parts
pub plain_leaf : (tag : ℕ) → tag ≤ 5 → tag ≢ 2 → tag ≢ 3 → tag ≢ 4 → LeafOk tag 0
plain_leaf zero h a b c = int
plain_leaf (suc zero) h a b c = string
plain_leaf (suc (suc zero)) h a b c = absurd (a refl)
plain_leaf (suc (suc (suc zero))) h a b c = absurd (b refl)
plain_leaf (suc (suc (suc (suc zero)))) h a b c = absurd (c refl)
plain_leaf (suc (suc (suc (suc (suc zero))))) h a b c = bytes
plain_leaf (suc (suc (suc (suc (suc (suc n)))))) h a b c = absurd (omega arith)

-- a record's or a union's
pub branch_ok : (tag : ℕ) → (eqb tag 3 || eqb tag 4) ≡ true → BranchOk tag
branch_ok tag h = go (eqb tag 3) (eqb tag 4) refl refl h
  where
    go : (a b : Bool) → eqb tag 3 ≡ a → eqb tag 4 ≡ b → (a || b) ≡ true → BranchOk tag
    go true b e f h = rw (eqb-true tag 3 e) record_type
    go false true e f h = rw (eqb-true tag 4 f) union_type
    go false false e f h = clash h refl

-- neither
pub no_branch : (tag : ℕ) → (eqb tag 3 || eqb tag 4) ≡ false → (tag ≢ 3) × (tag ≢ 4)
no_branch tag h = go (eqb tag 3) (eqb tag 4) refl refl h
  where
    go : (a b : Bool) → eqb tag 3 ≡ a → eqb tag 4 ≡ b → (a || b) ≡ false → (tag ≢ 3) × (tag ≢ 4)
    go false false e f h = (eqb-false tag 3 e, eqb-false tag 4 f)
    go true b e f h = clash refl h
    go false true e f h = clash refl h

-- a tag and a predicate that pass the tests of a type without parts
pub leaf_of : (tag p : ℕ) → tag ≤ 5 → (eqb tag 3 || eqb tag 4) ≡ false → pick (eqb tag 2) (leb p 0xFFFFFFFF) (eqb p 0) ≡ true → LeafOk tag p
leaf_of tag p h b t = go (eqb tag 2) refl t
  where
    go : (a : Bool) → eqb tag 2 ≡ a → pick a (leb p 0xFFFFFFFF) (eqb p 0) ≡ true → LeafOk tag p
    go true e t = let k = leb-true p 0xFFFFFFFF t in rw (eqb-true tag 2 e) (fact {p = p} (omega arith))
    go false e t =
        let n = no_branch tag b in
        rw (eqb-true p 0 t) (plain_leaf tag h (eqb-false tag 2 e) n.0 n.1)

-- those that pass the tests of one with parts: it has no predicate
pub branch_plain : {tag : ℕ} (p : ℕ) → BranchOk tag → pick (eqb tag 2) (leb p 0xFFFFFFFF) (eqb p 0) ≡ true → p ≡ 0
branch_plain p record_type t = eqb-true p 0 t
branch_plain p union_type t = eqb-true p 0 t

-- a discriminant that passes the test below a type with parts
pub label_of : {tag : ℕ} (d : ℕ) → BranchOk tag → pick (eqb tag 4) (leb d 0xFFFFFFFF) (eqb d 0) ≡ true → LabelOk tag d
label_of d record_type t = rw (eqb-true d 0 t) field
label_of d union_type t = let k = leb-true d 0xFFFFFFFF t in alternative {d = d} (omega arith)
