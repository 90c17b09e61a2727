-- The offers after a stop: one for each piece behind the stop's last byte, and each as the stop says.
use mathlib.Core.Path.{◌≡◌, refl, sym, ◌∙◌, ap, subst}
use mathlib.Core.Bool.{Bool, true, false}
use mathlib.Core.Logic.{◌≢◌, ⊎_elim}
use mathlib.Core.List.{List, [], ◌∷◌, ◌++◌, map}
use Prim.Native.Nat.{ℕ, zero, suc, ◌+◌, ◌-◌, ◌≤◌, ◌<◌}
use native.Mathlib.Omega.{arith}
use borrow.Author.Tests.{ne_eqb, eqb-false, le-leb, lt-leb}
use lib.Dec.{eqb}
use lib.ListN.{length, take, drop, length-append, length-drop, length-replicate}
use Rattle.varint.specs.Choice.{pick}
use Rattle.varint.specs.Refusals.{code_of}
use Rattle.varint.specs.declared.error.Refusal.{Refusal}
use Rattle.varint.proofs.Basics.{below}
use Rattle.frame.specs.Worlds.{Limits, Setup, Lent, fresh}
use Rattle.frame.specs.Reading.{Event, done, after, refuse, judge, lent_by, First, short, bad, whole, first, holding, stopped_at, answered}
use Rattle.frame.specs.Offering.{Offer, declined, stop_of}
use Rattle.frame.specs.Driving.{plus, Driven, drive, steps_in, driving}
use Rattle.frame.specs.Runs.{behind, later_pieces}
use Rattle.frame.proofs.HeldLaws.{held_none}
use Rattle.frame.proofs.DrivingLaws.{turn}
use Rattle.frame.proofs.Firsts.{View, v_head, v_load, v_bad, v_whole, view, room, early, stop_number}
use Rattle.frame.proofs.OfferSteps.{step, offer_is}
use Rattle.frame.proofs.ReadSteps.{none_short}
use Rattle.frame.proofs.Stops.{later_stopped}

-- ---- pieces behind a byte

-- u bytes of the first piece are used
behind_rest : (u n : ℕ) (p : List ℕ) (ps : List (List ℕ)) → u ≤ length p → behind (u + n) (p ∷ ps) ≡ behind n (drop u p ∷ ps)
unfolding behind
behind_rest u n p ps k =
    ⊎_elim
    (λ (m : length p < u + n).
    let m' : length p - u < n = omega arith in
    let e : u + n - length p ≡ n - (length p - u) = omega arith in
    rw (length-drop, lt-leb _ _ m, lt-leb _ _ m', e))
    (λ (m : u + n ≤ length p).
    let m' : n ≤ length p - u = omega arith in
    rw (length-drop, le-leb _ _ m, le-leb _ _ m'))
    (below (length p) (u + n))

-- the first piece is used up
behind_next : (n : ℕ) (p : List ℕ) (ps : List (List ℕ)) → 0 < n → behind (length p + n) (p ∷ ps) ≡ behind n ps
unfolding behind
behind_next n p ps k =
    let m : length p < length p + n = omega arith in
    let e : length p + n - length p ≡ n = omega arith in
    rw (lt-leb _ _ m, e)

-- ---- a list of pieces

-- a run that stopped used a byte, and each later piece was offered once
pub record Later (ps : List (List ℕ)) (d : Driven) : Type 0 where
  pub used : d.run.world.receiver.progress.stop ≢ 0 → 0 < d.run.used
  pub again : d.again ≡ map (λ _. declined (stop_of d.run.world.receiver) d.run.world) (later_pieces d.run ps)

same_else : (t : Bool) (x y z : List (List ℕ)) → (t ≡ false → y ≡ z) → pick t x y ≡ pick t x z
same_else true x y z h = refl
same_else false x y z h = h refl

-- an offer that used u bytes, and then the rest
module _ (d : Driven) (qs : List (List ℕ)) (e : Later qs d) (u : ℕ) (ps : List (List ℕ))
    (behinds : 0 < d.run.used → behind (u + d.run.used) ps ≡ behind d.run.used qs) where
  used_more : d.run.world.receiver.progress.stop ≢ 0 → 0 < u + d.run.used
  used_more s = omega (arith, e.used s)

  again_more : (es : List Event)
      → d.again ≡ map (λ _. declined (stop_of d.run.world.receiver) d.run.world) (later_pieces (record { events = es; used = u + d.run.used; world = d.run.world }) ps)
  unfolding later_pieces
  again_more es =
      e.again
      ∙ ap (map (λ _. declined (stop_of d.run.world.receiver) d.run.world))
      (sym (same_else (eqb d.run.world.receiver.progress.stop 0) [] _ _ (λ s. behinds (e.used (eqb-false _ _ s)))))

module _ (l : Limits) (c : Setup) where
  module _ (f : ℕ) (ih : (h : List ℕ) (b : Lent) (ps : List (List ℕ)) → View l c h short → Later ps (drive l f (holding l c h b) ps))
      (h : List ℕ) (b : Lent) (p : List ℕ) (ps : List (List ℕ)) (v : View l c h short) where
    Goal : Offer → Type 0
    Goal o = Later (p ∷ ps) (turn l (drive l f) p ps o)

    at_short : View l c (h ++ p) short → Goal (step l c short h p b)
    unfolding Goal turn step plus
    at_short w =
        let d : Driven = drive l f (holding l c (h ++ p) b) ps in
        let next = behind_next d.run.used p ps in
        record { used = used_more d ps (ih (h ++ p) b ps w) (length p) (p ∷ ps) next; again = again_more d ps (ih (h ++ p) b ps w) (length p) (p ∷ ps) next _ }

    at_bad : (e : Refusal) → 9 ≤ length (h ++ p) → judge l c.room (take 9 (h ++ p)) ≡ refuse e → Goal (step l c (bad e) h p b)
    unfolding Goal turn step stopped_at after done later_pieces behind
    at_bad e m d =
        let k : length h < 9 = early l c h p e v d in
        let z : (code_of e).number ≢ 0 = omega (arith, stop_number l c.room (take 9 (h ++ p)) e d) in
        let n : 9 - length h + 0 ≤ length p = omega (arith, length-append h p) in
        rw (later_stopped l (stopped_at l c (take 9 (h ++ p)) e b) (record { room = length-replicate c.room 0; stop = z }) ps)
        (record { used = λ _. omega arith; again = rw (ne_eqb _ _ z, le-leb _ _ n) })

    at_whole : (m : ℕ) → length h < 9 + m → 9 + m ≤ length (h ++ p) → Goal (step l c (whole m) h p b)
    unfolding Goal turn step after
    at_whole m e k =
        let u : ℕ = 9 + m - length h in
        let b' : Lent = lent_by (answered l c m (h ++ p) b) in
        let d : Driven = drive l f (fresh c b') (drop u p ∷ ps) in
        let i : Later (drop u p ∷ ps) d = rw (← held_none l c b') (ih [] b' (drop u p ∷ ps) (none_short l c)) in
        let n : u ≤ length p = omega (arith, length-append h p) in
        let rest : 0 < d.run.used → behind (u + d.run.used) (p ∷ ps) ≡ behind d.run.used (drop u p ∷ ps) = λ _. behind_rest u d.run.used p ps n in
        record { used = used_more d (drop u p ∷ ps) i u (p ∷ ps) rest; again = again_more d (drop u p ∷ ps) i u (p ∷ ps) rest _ }

    at : (x : First) → View l c (h ++ p) x → Goal (step l c x h p b)
    at x (v_head m) = at_short (v_head m)
    at x (v_load m d k) = at_short (v_load m d k)
    at x (v_bad {e} m d) = at_bad e m d
    at x (v_whole {n = m} k d) = at_whole m (room l c h p m v d) k

    drive_next : Later (p ∷ ps) (drive l (suc f) (holding l c h b) (p ∷ ps))
    unfolding drive Goal turn
    drive_next = subst Goal (sym (offer_is l c h p b (first l c (h ++ p)) v (view l c (h ++ p)))) (at (first l c (h ++ p)) (view l c (h ++ p)))

  -- nothing stops where no offer is made
  none_later : (h : List ℕ) (b : Lent) (ps : List (List ℕ)) → Later ps (record { run = done 0 (holding l c h b); again = [] })
  unfolding done holding later_pieces
  none_later h b ps = record { used = λ s. absurd (s refl); again = refl }

  pub drive_later : (f : ℕ) (h : List ℕ) (b : Lent) (ps : List (List ℕ)) → View l c h short → Later ps (drive l f (holding l c h b) ps)
  unfolding drive
  drive_later zero h b ps v = none_later h b ps
  drive_later (suc f) h b [] v = none_later h b []
  drive_later (suc f) h b (p ∷ ps) v = drive_next f (drive_later f) h b p ps v

  -- so from a fresh receiver
  pub driving_later : (ps : List (List ℕ)) (b : Lent) → Later ps (driving l (fresh c b) ps)
  unfolding driving
  driving_later ps b = rw (← held_none l c b) (drive_later (suc (steps_in ps)) [] b ps (none_short l c))
