-- What stands first in a run of bytes, with the facts that say so.
use mathlib.Core.Path.{◌≡◌, refl, ◌∙◌}
use mathlib.Core.List.{List, ◌++◌}
use Prim.Native.Nat.{ℕ, ◌+◌, ◌≤◌, ◌<◌}
use native.Mathlib.Omega.{arith}
use borrow.Author.Tests.{ltb-true, ltb-false, lt-ltb, le-ltb}
use lib.Dec.{ltb}
use lib.ListN.{length, take, length-append}
use lib.Seq.{take-append-le}
use Rattle.varint.specs.Refusals.{code_of}
use Rattle.varint.specs.declared.error.Refusal.{Refusal}
use Rattle.varint.proofs.Basics.{pick_cases, never}
use Rattle.frame.specs.Frames.{length_of}
use Rattle.frame.specs.Worlds.{Limits, Setup}
use Rattle.frame.specs.Reading.{Verdict, refuse, gather, judge, First, short, bad, whole, first_of, first}

-- ---- what a judgement says

-- a frame that is gathered has room in the hold, and a stop has a number
abbrev Judged : ℕ → Verdict → Type 0
Judged room (refuse e) = 0 < (code_of e).number
Judged room (gather n) = n ≤ room

judged : (l : Limits) (room : ℕ) (hd : List ℕ) → Judged room (judge l room hd)
unfolding judge
judged l room hd =
    pick_cases (Judged room) (ltb l.payload (length_of hd)) (λ e. omega arith)
    (λ e. pick_cases (Judged room) (ltb room (length_of hd)) (λ f. omega arith) (λ f. ltb-false room (length_of hd) f))

pub gather_fits : (l : Limits) (room : ℕ) (hd : List ℕ) (n : ℕ) → judge l room hd ≡ gather n → n ≤ room
gather_fits l room hd n e = rw e at (judged l room hd)

pub stop_number : (l : Limits) (room : ℕ) (hd : List ℕ) (e : Refusal) → judge l room hd ≡ refuse e → 0 < (code_of e).number
stop_number l room hd e d = rw d at (judged l room hd)

-- ---- what stands first

-- fewer than nine bytes; a header and less than its payload; a header that stops the run; a frame
pub data View (l : Limits) (c : Setup) (s : List ℕ) : First → Type 0 where
  v_head : length s < 9 → View l c s short
  v_load : {n : ℕ} → 9 ≤ length s → judge l c.room (take 9 s) ≡ gather n → length s < 9 + n → View l c s short
  v_bad : {e : Refusal} → 9 ≤ length s → judge l c.room (take 9 s) ≡ refuse e → View l c s (bad e)
  v_whole : {n : ℕ} → 9 + n ≤ length s → judge l c.room (take 9 s) ≡ gather n → View l c s (whole n)

module _ (l : Limits) (c : Setup) where
  view_of : (s : List ℕ) (v : Verdict) → judge l c.room (take 9 s) ≡ v → 9 ≤ length s → View l c s (first_of v (length s))
  unfolding first_of
  view_of s (refuse e) d h = v_bad h d
  view_of s (gather n) d h =
      pick_cases (View l c s) (ltb (length s) (9 + n)) (λ t. v_load h d (ltb-true _ _ t)) (λ t. v_whole (ltb-false _ _ t) d)

  pub view : (s : List ℕ) → View l c s (first l c s)
  unfolding first
  view s = pick_cases (View l c s) (ltb (length s) 9) (λ t. v_head (ltb-true _ _ t)) (λ t. view_of s _ refl (ltb-false _ _ t))

  pub viewed : (s : List ℕ) {x : First} → View l c s x → first l c s ≡ x
  unfolding first first_of
  viewed s (v_head h) = rw (lt-ltb _ _ h)
  viewed s (v_load h d m) = rw (le-ltb _ _ h, d, lt-ltb _ _ m)
  viewed s (v_bad h d) = rw (le-ltb _ _ h, d)
  viewed s (v_whole m d) = let h : 9 ≤ length s = omega arith in rw (le-ltb _ _ h, d, le-ltb _ _ m)

  -- a header that is there stays, whatever follows
  pub header : (h p : List ℕ) → 9 ≤ length h → judge l c.room (take 9 (h ++ p)) ≡ judge l c.room (take 9 h)
  header h p m = rw take-append-le

  -- bytes that are held are fewer than the frame that they begin
  pub room : (h p : List ℕ) (n : ℕ) → View l c h short → judge l c.room (take 9 (h ++ p)) ≡ gather n → length h < 9 + n
  room h p n (v_head m) d = omega arith
  room h p n (v_load {n = k} m e f) d = let q : k ≡ n = cc (header h p m) in omega arith

  -- and fewer than a header that stops the run
  pub early : (h p : List ℕ) (e : Refusal) → View l c h short → judge l c.room (take 9 (h ++ p)) ≡ refuse e → length h < 9
  early h p e (v_head m) d = m
  early h p e (v_load m g f) d = never (cc (header h p m))

  -- what stands first stays first, whatever follows
  pub bad_stays : (s y : List ℕ) (e : Refusal) → View l c s (bad e) → View l c (s ++ y) (bad e)
  bad_stays s y e (v_bad h d) = v_bad (omega (arith, length-append s y)) (header s y h ∙ d)

  pub whole_stays : (s y : List ℕ) (n : ℕ) → View l c s (whole n) → View l c (s ++ y) (whole n)
  whole_stays s y n (v_whole m d) = v_whole {n = n} (omega (arith, length-append s y)) (header s y (omega arith) ∙ d)

  pub whole_fits : (s : List ℕ) (n : ℕ) → View l c s (whole n) → 9 + n ≤ length s
  whole_fits s n (v_whole m d) = m
