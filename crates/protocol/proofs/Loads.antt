-- What a reader that stores tells, and what makes it.
use mathlib.Core.Path.{◌≡◌, refl, sym, ◌∙◌, ap}
use Prim.Native.Nat.{ℕ}
use Rattle.std.specs.Prelude.{Result, Ok, Err}
use Rattle.varint.specs.Got.{Got, got, then}
use Rattle.varint.specs.declared.error.Refusal.{Refusal}
use Rattle.varint.proofs.Basics.{never}
use Rattle.protocol.specs.Inner.Loading.{Mem, put, loaded, failed, told, load, past}
use Rattle.protocol.specs.Pieces.{Piece}

loaded_of : {A : Type 0} {a b : A} {m o : Mem} → loaded a m ≡ loaded b o → (a ≡ b) × (m ≡ o)
loaded_of e = (cc, cc)

-- what was read, answered and left
pub record Had {A B : Type 0} (answer : A → ℕ → Mem → B) (piece : A → Piece) (g : Got A) (m m' : Mem) (b : B) : Type 0 where
  pub value : A
  pub next : ℕ
  pub is : g ≡ Ok (value, next)
  pub says : b ≡ answer value next m
  pub left : m' ≡ put (piece value) m

module _ {A B : Type 0} (answer : A → ℕ → Mem → B) (piece : A → Piece) where
  pub had : (g : Got A) (m m' : Mem) (x : Result B Refusal) {b : B} → told x m' ≡ load answer piece g m → x ≡ Ok b → Had answer piece g m m' b
  unfolding told load
  had g m m' x {b} h i = go g (rw i at h)
    where
      go : (y : Got A) → loaded b m' ≡ load answer piece y m → Had answer piece y m m' b
      go (Ok (a, q)) e = let z = loaded_of e in record { value = a; next = q; is = refl; says = z.0; left = z.1 }
      go (Err e) k = never cc

  pub unread : (g : Got A) (m m' : Mem) (x : Result B Refusal) {e : Refusal} → told x m' ≡ load answer piece g m → x ≡ Err e → g ≡ Err e
  unfolding told load
  unread g m m' x {e} h i = go g (rw i at h)
    where
      go : (y : Got A) → failed e ≡ load answer piece y m → y ≡ Err e
      go (Ok (a, q)) k = never cc
      go (Err r) k = let z : r ≡ e = cc in ap Err z

  pub loads : {g : Got A} (m m' : Mem) {a : A} {q : ℕ} {b : B} → g ≡ Ok (a, q) → b ≡ answer a q m → m' ≡ put (piece a) m → told (Ok b) m' ≡ load answer piece g m
  unfolding told load
  loads m m' i s l = rw i (λ j. loaded (s j) (l j))

  pub fails : {g : Got A} (m m' : Mem) {e : Refusal} → g ≡ Err e → told (Err e) m' ≡ load answer piece g m
  unfolding told load
  fails m m' i = rw i refl

-- what was read up to the place that is answered
pub record Went {A : Type 0} (piece : A → Piece) (g : Got A) (m : Mem) (q : ℕ) (m' : Mem) : Type 0 where
  pub value : A
  pub is : g ≡ Ok (value, q)
  pub left : m' ≡ put (piece value) m

pub went : {A : Type 0} (piece : A → Piece) (g : Got A) (m m' : Mem) (x : Result ℕ Refusal) {q : ℕ} → told x m' ≡ load past piece g m → x ≡ Ok q → Went piece g m q m'
went piece g m m' x h i =
    let w = had past piece g m m' x h i in
    record { value = w.value; is = w.is ∙ ap (λ (z : ℕ). got w.value z) (sym w.says); left = w.left }

-- of what was read something greater is made, whose other parts were put before
pub greater : {A C : Type 0} (piece : A → Piece) (whole : C → Piece) (to : A → C) (g : Got A) (m o : Mem)
    → ((a : A) (q : ℕ) → g ≡ Ok (a, q) → put (piece a) o ≡ put (whole (to a)) m) → load past piece g o ≡ load past whole (then g (λ a q. Ok (to a, q))) m
unfolding load
greater piece whole to (Ok (a, q)) m o h = ap (loaded q) (h a q refl)
greater piece whole to (Err e) m o h = refl
