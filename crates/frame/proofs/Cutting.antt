-- However a run of bytes is cut into pieces, it comes to what the reading of the whole run says.
use mathlib.Core.Path.{◌≡◌, sym, ap, subst, ◌∙◌}
use mathlib.Core.Logic.{◌≢◌}
use mathlib.Core.List.{List, [], ◌∷◌, ◌++◌, append_assoc, append-nil}
use Prim.Native.Nat.{ℕ, zero, suc, ◌+◌, ◌-◌, ◌≤◌, ◌<◌}
use native.Mathlib.Nat.{add-zero, add_assoc}
use native.Mathlib.Omega.{arith}
use borrow.Author.Tests.{eq-eqb}
use lib.ListN.{length, take, drop, length-append, length-drop, length-replicate, drop_of_length-le}
use lib.Seq.{take-append-le, drop-append-le}
use Rattle.varint.specs.Refusals.{code_of}
use Rattle.varint.specs.declared.error.Refusal.{Refusal}
use Rattle.frame.specs.declared.receiver.Receiver.{Receiver}
use Rattle.frame.specs.Worlds.{Limits, Setup, Lent, editor, fresh}
use Rattle.frame.specs.Reading.{Event, halt, Run, done, after, refuse, judge, lent_by, First, short, bad, whole, first, holding, stopped_at, answered, frame_of, read, reading}
use Rattle.frame.specs.Offering.{Offer, opens}
use Rattle.frame.specs.Driving.{joined, plus, drive, steps_in, driving}
use Rattle.frame.specs.Runs.{opened, Cuts, EveryCut}
use Rattle.frame.proofs.ListLaws.{drop_append}
use Rattle.frame.proofs.HeldLaws.{held_none}
use Rattle.frame.proofs.DrivingLaws.{turn}
use Rattle.frame.proofs.Firsts.{View, v_head, v_load, v_bad, v_whole, view, bad_stays, whole_stays, room, early, stop_number}
use Rattle.frame.proofs.Laters.{driving_later}
use Rattle.frame.proofs.OfferSteps.{step, offer_is}
use Rattle.frame.proofs.ReadSteps.{read_short, read_bad, read_whole, answered_same, frame_same, none_short}
use Rattle.frame.proofs.Stops.{plus_zero, later_stopped}

-- ---- runs

plus_plus : (a c d : ℕ) (r : Run) → a + c ≡ d → plus a (plus c r) ≡ plus d r
unfolding plus
plus_plus a c d r e = rw (← e, add_assoc)

plus_after : (a c d : ℕ) (e : Event) (r : Run) → a + c ≡ d → plus a (after e c r) ≡ after e d r
unfolding plus after
plus_after a c d e r q = rw (← q, add_assoc)

module _ (l : Limits) (c : Setup) where
  -- Pieces offered where h is held, the bytes of h counted too, come to the reading of h and the pieces: with steps enough on both sides.
  abbrev Drives : ℕ → Type 0
  Drives f = (n : ℕ) (h : List ℕ) (b : Lent) (ps : List (List ℕ)) → View l c h short → steps_in ps < f → length (h ++ joined ps) < n
      → plus (length h) (drive l f (holding l c h b) ps).run ≡ read l c n (h ++ joined ps) b

  module _ (f n : ℕ) (ih : Drives f) (h : List ℕ) (b : Lent) (p : List ℕ) (ps : List (List ℕ)) (v : View l c h short)
      (enough : length p + steps_in ps < f) (steps : length (h ++ p ++ joined ps) < suc n) where
    Goal : Offer → Type 0
    Goal o = plus (length h) (turn l (drive l f) p ps o).run ≡ read l c (suc n) (h ++ p ++ joined ps) b

    at_short : View l c (h ++ p) short → Goal (step l c short h p b)
    unfolding Goal turn step
    at_short w = plus_plus (length h) (length p) (length (h ++ p)) _ (sym (length-append h p)) ∙ ih (suc n) (h ++ p) b ps w (omega arith) steps

    at_bad : (e : Refusal) → 9 ≤ length (h ++ p) → judge l c.room (take 9 (h ++ p)) ≡ refuse e → Goal (step l c (bad e) h p b)
    unfolding Goal turn step stopped_at
    at_bad e m d =
        let k : length h < 9 = early l c h p e v d in
        let z : (code_of e).number ≢ 0 = omega (arith, stop_number l c.room (take 9 (h ++ p)) e d) in
        plus_after (length h) (9 - length h) 9 (halt (code_of e)) _ (omega arith)
        ∙ rw (
          later_stopped l (stopped_at l c (take 9 (h ++ p)) e b) (record { room = length-replicate c.room 0; stop = z }) ps,
          read_bad l c n (h ++ p ++ joined ps) b e (bad_stays l c (h ++ p) (joined ps) e (v_bad m d)),
          take-append-le 9 (h ++ p) (joined ps) m,
        )

    -- what is left of the run after the frame is what is left of the pieces
    rest : (m : ℕ) (b' : Lent) → length h < 9 + m → 9 + m ≤ length (h ++ p)
        → (drive l f (fresh c b') (drop (9 + m - length h) p ∷ ps)).run ≡ read l c n (drop (9 + m) (h ++ p ++ joined ps)) b'
    unfolding joined steps_in
    rest m b' e k =
        let z : drop (9 + m) h ≡ [] = drop_of_length-le h {i = 9 + m} (omega arith) in
        let g : length (h ++ p) ≡ length h + length p = length-append h p in
        let a : suc (length (drop (9 + m - length h) p) + steps_in ps) < f = rw length-drop (omega arith) in
        let q : length (drop (9 + m - length h) p ++ joined ps) < n = rw (length-append, length-drop) (omega (arith, length-append (h ++ p) (joined ps))) in
        rw (← held_none l c b', drop-append-le (9 + m) (h ++ p) (joined ps) k, drop_append (9 + m) h p, z)
        (sym (plus_zero _) ∙ ih n [] b' (drop (9 + m - length h) p ∷ ps) (none_short l c) a q)

    at_whole : (m : ℕ) → View l c (h ++ p) (whole m) → length h < 9 + m → 9 + m ≤ length (h ++ p) → Goal (step l c (whole m) h p b)
    unfolding Goal turn step fresh
    at_whole m w e k =
        plus_after (length h) (9 + m - length h) (9 + m) (frame_of l c m (h ++ p) b) _ (omega arith)
        ∙ rw (
          read_whole l c n (h ++ p ++ joined ps) b m (whole_stays l c (h ++ p) (joined ps) m w),
          frame_same l c m (h ++ p) (joined ps) b k,
          answered_same l c m (h ++ p) (joined ps) b k,
        )
        (ap (after (frame_of l c m (h ++ p) b) (9 + m)) (rest m (lent_by (answered l c m (h ++ p) b)) e k))

    at : (x : First) → View l c (h ++ p) x → Goal (step l c x h p b)
    at x (v_head m) = at_short (v_head m)
    at x (v_load m d k) = at_short (v_load m d k)
    at x (v_bad {e} m d) = at_bad e m d
    at x (v_whole {n = m} k d) = at_whole m (v_whole k d) (room l c h p m v d) k

    drive_cons : plus (length h) (drive l (suc f) (holding l c h b) (p ∷ ps)).run ≡ read l c (suc n) (h ++ p ++ joined ps) b
    unfolding drive Goal turn
    drive_cons = subst Goal (sym (offer_is l c h p b (first l c (h ++ p)) v (view l c (h ++ p)))) (at (first l c (h ++ p)) (view l c (h ++ p)))

  drive_nil : (f n : ℕ) (h : List ℕ) (b : Lent) → View l c h short → plus (length h) (drive l (suc f) (holding l c h b) []).run ≡ read l c (suc n) h b
  unfolding drive plus done
  drive_nil f n h b v = rw (add-zero, read_short l c n h b v)

  pub drive_is : (f : ℕ) → Drives f
  unfolding joined steps_in
  drive_is zero n h b ps v a q = absurd (omega arith)
  drive_is (suc f) zero h b ps v a q = absurd (omega arith)
  drive_is (suc f) (suc n) h b [] v a q = rw append-nil (drive_nil f n h b v)
  drive_is (suc f) (suc n) h b (p ∷ ps) v a q = rw append_assoc at (drive_cons f n (drive_is f) h b p ps v (omega arith) (rw append_assoc q))

  -- from a fresh receiver, with steps enough
  pub drive_fresh : (f n : ℕ) (ps : List (List ℕ)) (b : Lent) → steps_in ps < f → length (joined ps) < n → (drive l f (fresh c b) ps).run ≡ read l c n (joined ps) b
  drive_fresh f n ps b k m = rw (← held_none l c b) (sym (plus_zero _) ∙ drive_is f n [] b ps (none_short l c) k m)

  one_run : (ps : List (List ℕ)) (b : Lent) → (driving l (fresh c b) ps).run ≡ reading l c (joined ps) b
  unfolding driving reading
  one_run ps b = drive_fresh (suc (steps_in ps)) (suc (length (joined ps))) ps b (omega arith) (omega arith)

  pub cutting : (ps : List (List ℕ)) (b : Lent) → Cuts ps (driving l (fresh c b) ps) (reading l c (joined ps) b)
  cutting ps b = record { run = one_run ps b; again = rw one_run at (driving_later l c ps b).again }

-- as specs/Runs states it
pub every_cut : EveryCut
unfolding opens fresh
every_cut before table hold lent ps h = rw (eq-eqb _ _ h) (cutting editor (record { table = table; room = length hold }) ps lent)

-- two cuts of one run end alike
pub recut : (before : Receiver) (table hold : List ℕ) (lent : Lent) (ps qs : List (List ℕ)) → length table ≡ 256 → joined ps ≡ joined qs
    → (driving editor (opened (opens before table hold) lent) ps).run ≡ (driving editor (opened (opens before table hold) lent) qs).run
recut before table hold lent ps qs h e = (every_cut before table hold lent ps h).run ∙ rw e (sym (every_cut before table hold lent qs h).run)
