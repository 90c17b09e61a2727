-- A payload as a whole: what is told of bytes left over, and of the version.
use mathlib.Core.Bool.{Bool, true, false}
use mathlib.Core.Path.{◌≡◌, refl, sym, ◌∙◌}
use mathlib.Core.List.{List}
use Prim.Native.Nat.{ℕ, ◌-◌, ◌≤◌, ◌<◌}
use native.Mathlib.Omega.{arith}
use lib.Dec.{ltb}
use lib.ListN.{length}
use borrow.Author.Tests.{ltb-false, le-leb, lt-leb}
use Rattle.std.specs.Prelude.{Ok, Err, Result}
use Rattle.varint.specs.Choice.{pick}
use Rattle.varint.specs.Formats.{Format}
use Rattle.varint.specs.Got.{Got}
use Rattle.varint.specs.declared.error.Mismatch.TheVariants.{Version}
use Rattle.varint.specs.declared.error.Refusal.{Refusal}
use Rattle.varint.specs.declared.error.Refusal.TheVariants.{TrailingBytes, TypeMismatch}
use Rattle.varint.proofs.Basics.{never}
use Rattle.varint.proofs.FormatParts.{went}
use Rattle.varint.proofs.Gots.{got_of}
use Rattle.protocol.specs.Fields.{narrow}
use Rattle.protocol.specs.Inner.Loading.{at_end}
use Rattle.protocol.specs.Startup.{Startup}
use Rattle.protocol.specs.Wholes.{ended, versioned}
use Rattle.protocol.proofs.FieldEnds.{spared, passed}

-- what is told of bytes left over, and of a message whose fields end there
module _ {A : Type 0} (r : Refusal) (a : A) (q : ℕ) {x : Result (Unit {0}) Refusal} where
  over : (b : Bool) {e : Refusal} → x ≡ pick b (Err r) (Ok tt) → x ≡ Err e → pick {A = Got A} b (Err r) (Ok (a, q)) ≡ Err e
  over true h i = let f = sym h ∙ i in cc (f)
  over false h i = never (cc (h, i))

  through : (b : Bool) {u : Unit {0}} → x ≡ pick b (Err r) (Ok tt) → x ≡ Ok u → pick {A = Got A} b (Err r) (Ok (a, q)) ≡ Ok (a, q)
  through true h i = never (cc (h, i))
  through false h i = refl

module _ {A : Type 0} (s : List ℕ) {g : Got A} {a : A} {q : ℕ} (is : g ≡ Ok (a, q)) {x : Result (Unit {0}) Refusal} (end : x ≡ at_end s q) where
  pub ended_refused : {e : Refusal} → x ≡ Err e → ended s g ≡ Err e
  ended_refused i = rw is (over (TrailingBytes (length s - q)) a q (ltb q (length s)) end i)

  pub ended_read : {u : Unit {0}} → x ≡ Ok u → ended s g ≡ Ok (a, q)
  ended_read i = rw is (through (TrailingBytes (length s - q)) a q (ltb q (length s)) end i)

module _ {g : Got Startup} where
  pub version_refused : {e : Refusal} → g ≡ Err e → versioned (λ m. m.version) g ≡ Err e
  version_refused h = rw h

  module _ {m : Startup} {q : ℕ} (h : g ≡ Ok (m, q)) where
    pub version_wide : (m.version < 4294967296 → ⊥) → versioned (λ m. m.version) g ≡ Err (TypeMismatch Version)
    version_wide l = let k : 4294967295 < m.version = omega arith in rw (h, lt-leb m.version 4294967295 k)

    pub version_read : m.version < 4294967296 → versioned (λ m. m.version) g ≡ Ok (m, q)
    version_read l = let k : m.version ≤ 4294967295 = omega arith in rw (h, le-leb m.version 4294967295 k)

-- f reads all of s as a
pub record Whole {A : Type 0} (f : Format A) (s : List ℕ) (a : A) : Type 0 where
  pub next : ℕ
  pub read : f.read s 0 ≡ Ok (a, next)
  pub end : length s ≤ next

-- what is left over was nothing
pub ended_got : {A : Type 0} (f : Format A) (s : List ℕ) (a : A) (q : ℕ) → ended s (f.read s 0) ≡ Ok (a, q) → Whole f s a
ended_got f s a q e =
    let y = went (f.read s 0) _ a q e in
    let z = spared (ltb y.next (length s)) _ _ y.rest in
    let w = got_of z.1 in
    record { next = q; read = y.first ∙ z.1; end = rw (← w.1) (ltb-false y.next (length s) z.0) }

-- nor was the version too wide
pub versioned_got : {A : Type 0} (f : Format A) (version : A → ℕ) (s : List ℕ) (a : A) (q : ℕ)
    → versioned version (ended s (f.read s 0)) ≡ Ok (a, q) → Whole f s a
versioned_got f version s a q e =
    ended_got f s a q (passed (ended s (f.read s 0)) (λ c. narrow (version c)) (λ _. TypeMismatch Version) a q e).0
