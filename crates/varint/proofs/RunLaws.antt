-- Laws of runs of varints: how a run goes on behind its first varint, and that a run is what a format of varints reads.
use mathlib.Core.Path.{◌≡◌, refl, sym, ◌∙◌, ap}
use mathlib.Core.List.{List, [], ◌∷◌}
use Prim.Native.Nat.{ℕ, zero, suc, ◌+◌, ◌-◌, ◌≤◌, ◌<◌}
use native.Mathlib.Nat.{zero-add}
use native.Mathlib.Omega.{arith}
use lib.ListN.{length, set, length-set}
use lib.Seq.{sets}
use Rattle.varint.specs.Got.{Got, then}
use Rattle.varint.specs.Formats.{varint, read_times}
use Rattle.varint.specs.Leb128.{get_u64}
use Rattle.varint.specs.Runs.{values_of, end_of}
use Rattle.varint.specs.declared.error.Refusal.{Refusal}
use Rattle.varint.proofs.StoreLaws.{sets_cons}
use Rattle.std.specs.Prelude.{Result, Ok, Err}
use Rattle.varint.proofs.Basics.{never}

module _ (n : ℕ) (s : List ℕ) (p : ℕ) where
  -- no more varints
  pub end_none : n ≤ 0 → end_of n s p ≡ Ok p
  unfolding end_of
  end_none h = let z : n ≡ 0 = omega arith in rw z

  pub values_none : n ≤ 0 → values_of n s p ≡ []
  unfolding values_of
  values_none h = let z : n ≡ 0 = omega arith in rw z

  -- one more, and those behind it
  pub end_more : 0 < n → {v q : ℕ} → get_u64 s p ≡ Ok (v, q) → end_of n s p ≡ end_of (n - 1) s q
  unfolding end_of
  end_more h e = let z : n ≡ suc (n - 1) = omega arith in ap (λ (k : ℕ). end_of k s p) z ∙ rw (e, end_of)

  pub values_more : 0 < n → {v q : ℕ} → get_u64 s p ≡ Ok (v, q) → values_of n s p ≡ v ∷ values_of (n - 1) s q
  unfolding values_of
  values_more h e = let z : n ≡ suc (n - 1) = omega arith in ap (λ (k : ℕ). values_of k s p) z ∙ rw (e, values_of)

  -- one that is refused
  pub end_bad : 0 < n → {r : Refusal} → get_u64 s p ≡ Err r → end_of n s p ≡ Err r
  unfolding end_of
  end_bad h e = let z : n ≡ suc (n - 1) = omega arith in ap (λ (k : ℕ). end_of k s p) z ∙ rw (e, end_of)

  pub values_bad : 0 < n → {r : Refusal} → get_u64 s p ≡ Err r → values_of n s p ≡ []
  unfolding values_of
  values_bad h e = let z : n ≡ suc (n - 1) = omega arith in ap (λ (k : ℕ). values_of k s p) z ∙ rw (e, values_of)

-- the same by what a run of one is
module _ (n : ℕ) (s : List ℕ) (p : ℕ) (h : 0 < n) where
  pub end_on : {q : ℕ} → end_of 1 s p ≡ Ok q → end_of n s p ≡ end_of (n - 1) s q
  unfolding end_of
  end_on {q} e = go (get_u64 s p) refl
    where
      go : (x : Got ℕ) → get_u64 s p ≡ x → end_of n s p ≡ end_of (n - 1) s q
      go (Ok (v, r)) i = let k : r ≡ q = let f : ◌≡◌ {A = Result ℕ Refusal} (Ok r) (Ok q) = sym (end_more 1 s p (omega arith) i) ∙ e in cc in end_more n s p h i ∙ rw k
      go (Err r) i = let f : ◌≡◌ {A = Result ℕ Refusal} (Err r) (Ok q) = sym (end_bad 1 s p (omega arith) i) ∙ e in never cc

  pub end_off : {r : Refusal} → end_of 1 s p ≡ Err r → end_of n s p ≡ Err r
  unfolding end_of
  end_off {r} e = go (get_u64 s p) refl
    where
      go : (x : Got ℕ) → get_u64 s p ≡ x → end_of n s p ≡ Err r
      go (Ok (v, q)) i = let f : ◌≡◌ {A = Result ℕ Refusal} (Ok q) (Err r) = sym (end_more 1 s p (omega arith) i) ∙ e in never cc
      go (Err a) i = end_bad n s p h i ∙ (sym (end_bad 1 s p (omega arith) i) ∙ e)

-- A run of `count` varints from place `at` on is stored in d₀: r of them are, in d, and the others stand from place p on.
pub record Filling (s : List ℕ) (at count : ℕ) (d₀ d : List ℕ) (left p r : ℕ) : Type 0 where
  pub size : length d ≡ length d₀
  pub counted : r + left ≡ count
  pub ends : end_of count s at ≡ end_of left s p
  pub kept : sets d r (values_of left s p) ≡ sets d₀ 0 (values_of count s at)

pub filling_start : (s : List ℕ) (at count : ℕ) (d : List ℕ) → Filling s at count d d count at 0
filling_start s at count d = record { size = refl; counted = zero-add count; ends = refl; kept = refl }

-- the same where `left` is counted by r
pub filling_from : (s : List ℕ) (at count : ℕ) (d : List ℕ) → Filling s at count d d (count - 0) at 0
filling_from s at count d = let e : count - 0 ≡ count = omega arith in rw e (filling_start s at count d)

module _ {s : List ℕ} {at count : ℕ} {d₀ d : List ℕ} {left p r : ℕ} (f : Filling s at count d₀ d left p r) where
  pub filling_more : 0 < left → {v q : ℕ} {d' : List ℕ} → get_u64 s p ≡ Ok (v, q) → d' ≡ set d r v
      → Filling s at count d₀ d' (left - 1) q (r + 1)
  filling_more h {v} {q} e i =
      record {
        size = ap length i ∙ length-set d r v ∙ f.size;
        counted = omega (arith, f.counted);
        ends = f.ends ∙ end_more left s p h e;
        kept = ap (λ (x : List ℕ). sets x (r + 1) (values_of (left - 1) s q)) i
            ∙ sym (sets_cons d r (values_of left s p) v (values_of (left - 1) s q) (values_more left s p h e))
            ∙ f.kept;
      }

  pub filling_next : 0 < left → {v q : ℕ} {d' : List ℕ} → get_u64 s p ≡ Ok (v, q) → d' ≡ set d r v
      → Filling s at count d₀ d' (count - (r + 1)) q (r + 1)
  filling_next h e i = let k : count - (r + 1) ≡ left - 1 = omega (arith, f.counted) in rw k (filling_more h e i)

  -- nothing is left to store
  none_left : values_of left s p ≡ [] → d ≡ sets d₀ 0 (values_of count s at)
  none_left e = sym (ap (sets d r) e) ∙ f.kept

  pub filling_bad : 0 < left → {e : Refusal} → get_u64 s p ≡ Err e
      → (Err e ≡ end_of count s at) × (d ≡ sets d₀ 0 (values_of count s at))
  filling_bad h e = (sym (f.ends ∙ end_bad left s p h e), none_left (values_bad left s p h e))

  pub filling_done : left ≤ 0 → (Ok p ≡ end_of count s at) × (d ≡ sets d₀ 0 (values_of count s at))
  filling_done h = (sym (f.ends ∙ end_none left s p h), none_left (values_none left s p h))

-- A run as the values and the place that a format answers.
abbrev pub got_run : List ℕ → Result ℕ Refusal → Got (List ℕ)
got_run l (Ok q) = Ok (l, q)
got_run l (Err e) = Err e

cons_run : (v : ℕ) (l : List ℕ) (x : Result ℕ Refusal) → then (got_run l x) (λ t q. Ok (v ∷ t, q)) ≡ got_run (v ∷ l) x
cons_run v l (Ok q) = refl
cons_run v l (Err e) = refl

run_suc : (n : ℕ) (s : List ℕ) (at : ℕ) → ((q : ℕ) → read_times varint n s q ≡ got_run (values_of n s q) (end_of n s q)) → (x : Got ℕ) → get_u64 s at ≡ x
    → read_times varint (suc n) s at ≡ got_run (values_of (suc n) s at) (end_of (suc n) s at)
unfolding read_times values_of end_of
run_suc n s at ih (Ok (v, q)) e =
    rw (e, values_of, end_of)
    (ap (λ (g : Got (List ℕ)). then g (λ t p. Ok (v ∷ t, p))) (ih q) ∙ cons_run v (values_of n s q) (end_of n s q))
run_suc n s at ih (Err r) e = rw (e, values_of, end_of)

pub times_run : (n : ℕ) (s : List ℕ) (at : ℕ) → read_times varint n s at ≡ got_run (values_of n s at) (end_of n s at)
unfolding read_times values_of end_of
times_run zero s at = refl
times_run (suc n) s at = run_suc n s at (times_run n s) (get_u64 s at) refl
