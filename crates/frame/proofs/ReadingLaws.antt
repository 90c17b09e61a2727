-- The reading's three laws, with no word of steps; what a stop and an empty piece change: nothing.
use mathlib.Core.Path.{◌≡◌, refl, sym, ap, subst, ◌∙◌}
use mathlib.Core.Logic.{◌≢◌}
use mathlib.Core.List.{List, [], ◌∷◌, ◌++◌, append-nil}
use Prim.Native.Nat.{ℕ, zero, suc, ◌+◌, ◌≤◌, ◌<◌}
use native.Mathlib.Omega.{arith}
use lib.ListN.{length, take, drop, length-append, length-drop}
use lib.Seq.{take-append-le, drop-append-le}
use Rattle.varint.specs.Refusals.{code_of}
use Rattle.varint.specs.declared.error.Refusal.{Refusal}
use Rattle.frame.specs.declared.receiver.Outcome.TheVariants.{More}
use Rattle.frame.specs.Worlds.{Limits, Setup, Lent}
use Rattle.frame.specs.Reading.{halt, done, after, lent_by, First, short, bad, whole, first, holding, stopped_at, answered, frame_of, read, reading}
use Rattle.frame.specs.Offering.{offering}
use Rattle.frame.specs.Driving.{joined, steps_in}
use Rattle.frame.proofs.Firsts.{View, v_head, v_load, v_bad, v_whole, view, bad_stays, whole_stays, whole_fits}
use Rattle.frame.proofs.OfferSteps.{step, offer_is}
use Rattle.frame.proofs.ReadSteps.{read_short, read_bad, read_whole, answered_same, frame_same}
use Rattle.frame.proofs.Cutting.{drive_fresh}

module _ (l : Limits) (c : Setup) where
  seen : (s : List ℕ) (x : First) → first l c s ≡ x → View l c s x
  seen s x e = subst (View l c s) e (view l c s)

  -- more steps than bytes change nothing: both readings are the run of the one piece s
  read_steps : (n m : ℕ) (s : List ℕ) (b : Lent) → length s < n → length s < m → read l c n s b ≡ read l c m s b
  unfolding joined
  read_steps n m s b h k =
      let e : s ++ [] ≡ s = append-nil s in
      let f : ℕ = suc (steps_in (s ∷ [])) in
      rw e at (sym (drive_fresh l c f n (s ∷ []) b (omega arith) (rw e h)) ∙ drive_fresh l c f m (s ∷ []) b (omega arith) (rw e k))

  pub reading_short : (s : List ℕ) (b : Lent) → first l c s ≡ short → reading l c s b ≡ done (length s) (holding l c s b)
  unfolding reading
  reading_short s b e = read_short l c (length s) s b (seen s short e)

  pub reading_bad : (s : List ℕ) (b : Lent) (e : Refusal) → first l c s ≡ bad e
      → reading l c s b ≡ after (halt (code_of e)) 9 (done 0 (stopped_at l c (take 9 s) e b))
  unfolding reading
  reading_bad s b e d = read_bad l c (length s) s b e (seen s (bad e) d)

  pub reading_whole : (s : List ℕ) (b : Lent) (n : ℕ) → first l c s ≡ whole n
      → reading l c s b ≡ after (frame_of l c n s b) (9 + n) (reading l c (drop (9 + n) s) (lent_by (answered l c n s b)))
  unfolding reading
  reading_whole s b n e =
      let v : View l c s (whole n) = seen s (whole n) e in
      let k : length (drop (9 + n) s) < length s = rw length-drop (omega (arith, whole_fits l c s n v)) in
      read_whole l c (length s) s b n v ∙ ap (after (frame_of l c n s b) (9 + n)) (read_steps _ _ (drop (9 + n) s) _ k (omega arith))

  -- An empty piece where s is held: the empty rest of a piece after a frame may be offered or not.
  pub offer_empty : (s : List ℕ) (b : Lent) → first l c s ≡ short → offering l (holding l c s b) [] ≡ record { outcome = More; used = 0; world = holding l c s b }
  unfolding step
  offer_empty s b d =
      let v : View l c s short = seen s short d in
      let e : s ++ [] ≡ s = append-nil s in
      offer_is l c s [] b short v (rw e v) ∙ rw e

  -- ---- bytes after a stop

  -- by what stands first in s, with the same for what follows a frame
  stopped_step : (n : ℕ) (s y : List ℕ) (b : Lent) (x : First) → View l c s x → (read l c (suc n) s b).world.receiver.progress.stop ≢ 0
      → ((m : ℕ) (b' : Lent) → 9 + m ≤ length s → (read l c n (drop (9 + m) s) b').world.receiver.progress.stop ≢ 0
      → read l c n (drop (9 + m) s ++ y) b' ≡ read l c n (drop (9 + m) s) b')
      → read l c (suc n) (s ++ y) b ≡ read l c (suc n) s b
  unfolding after done holding
  stopped_step n s y b x (v_head h) k ih = absurd ((rw (read_short l c n s b (v_head h)) at k) refl)
  stopped_step n s y b x (v_load h d m) k ih = absurd ((rw (read_short l c n s b (v_load h d m)) at k) refl)
  stopped_step n s y b x (v_bad {e} h d) k ih =
      rw (read_bad l c n s b e (v_bad h d), read_bad l c n (s ++ y) b e (bad_stays l c s y e (v_bad h d)), take-append-le 9 s y h)
  stopped_step n s y b x (v_whole {n = m} h d) k ih =
      rw (
        read_whole l c n s b m (v_whole h d),
        read_whole l c n (s ++ y) b m (whole_stays l c s y m (v_whole h d)),
        frame_same l c m s y b h,
        answered_same l c m s y b h,
        drop-append-le (9 + m) s y h,
      )
      (ap (after (frame_of l c m s b) (9 + m)) (ih m (lent_by (answered l c m s b)) h (rw (read_whole l c n s b m (v_whole h d)) at k)))

  read_stopped : (n : ℕ) (s y : List ℕ) (b : Lent) → length s < n → (read l c n s b).world.receiver.progress.stop ≢ 0 → read l c n (s ++ y) b ≡ read l c n s b
  read_stopped zero s y b h k = absurd (omega arith)
  read_stopped (suc n) s y b h k =
      stopped_step n s y b (first l c s) (view l c s) k (λ m b' f q. read_stopped n (drop (9 + m) s) y b' (rw length-drop (omega arith)) q)

  pub reading_stopped : (s y : List ℕ) (b : Lent) → (reading l c s b).world.receiver.progress.stop ≢ 0 → reading l c (s ++ y) b ≡ reading l c s b
  unfolding reading
  reading_stopped s y b k =
      let h : length s < suc (length (s ++ y)) = rw length-append (omega arith) in
      let e : read l c (suc (length (s ++ y))) s b ≡ read l c (suc (length s)) s b = read_steps _ _ s b h (omega arith) in
      read_stopped (suc (length (s ++ y))) s y b h (rw e k) ∙ e
