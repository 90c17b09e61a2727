-- The driver's laws, with no word of the number of steps: what a list of pieces gives, by what the first offer gives. With them, how many bytes a frame takes.
use mathlib.Core.Path.{◌≡◌, refl, ◌∙◌, ap}
use mathlib.Core.Bool.{Bool, true, false}
use mathlib.Core.List.{List, [], ◌∷◌, ◌++◌}
use Prim.Native.Nat.{ℕ, zero, suc, ◌+◌, ◌-◌, ◌≤◌, ◌<◌, min}
use native.Mathlib.Nat.{add-zero, add_assoc}
use native.Mathlib.Omega.{arith}
use lib.Dec.{ltb, eqb}
use lib.ListN.{length, take, drop, length-drop}
use Rattle.varint.specs.Choice.{pick}
use Rattle.varint.specs.declared.error.Code.{Code}
use Rattle.varint.proofs.Basics.{pick_both}
use Rattle.frame.specs.declared.FrameHeader.{FrameHeader}
use Rattle.frame.specs.declared.receiver.Outcome.{Outcome}
use Rattle.frame.specs.declared.receiver.Outcome.TheVariants.{More, Handed, Stopped, Refused}
use Rattle.frame.specs.Worlds.{Limits, World}
use Rattle.frame.specs.Reading.{Verdict, refuse, gather, judge, Event, frame, halt, denied, Run, done, after}
use Rattle.frame.specs.Offering.{Offer, header_held, payload_held, impossible, handed, loads, settles, takes, offering}
use Rattle.frame.specs.Driving.{plus, Driven, onward, handing, later, drive, steps_in, driving}
use Rattle.frame.proofs.OfferUses.{Uses, offer_uses, offer_within, handed_uses}
use Rattle.std.specs.Prelude.{Result}
use Rattle.varint.specs.declared.error.Refusal.{Refusal}
use Rattle.protocol.specs.declared.message.Message.{Message}

module _ (l : Limits) where
  -- what follows an offer of p, where `rest` is what other pieces give
  unfoldable pub turn : (rest : World → List (List ℕ) → Driven) → (p : List ℕ) → (ps : List (List ℕ)) → Offer → Driven
  turn rest p ps o =
      elim o.outcome [
        | More ↦ onward o.used (rest o.world ps)
        | Handed h a ↦ handing (frame h a o.world.lent) o.used (rest o.world (drop o.used p ∷ ps))
        | Stopped e ↦ handing (halt e) o.used (later l o.world ps)
        | Refused e ↦ handing (denied e) o.used (rest o.world ps)
      ]

  -- the rest is smaller
  module _ (f g : World → List (List ℕ) → Driven) (p : List ℕ) (ps : List (List ℕ)) (same : (w : World) (qs : List (List ℕ)) → steps_in qs < steps_in (p ∷ ps) → f w qs ≡ g w qs) where
    turns : (x : Outcome) (u : ℕ) (w : World) → Uses x u (length p) → turn f p ps (record { outcome = x; used = u; world = w }) ≡ turn g p ps (record { outcome = x; used = u; world = w })
    unfolding turn steps_in
    turns More u w h = ap (onward u) (same w ps (omega arith))
    turns (Handed hd a) u w h = ap (handing (frame hd a w.lent) u) (same w (drop u p ∷ ps) (rw length-drop (omega arith)))
    turns (Stopped e) u w h = refl
    turns (Refused e) u w h = ap (handing (denied e) u) (same w ps (omega arith))

    turn_same : (w : World) → turn f p ps (offering l w p) ≡ turn g p ps (offering l w p)
    turn_same w = turns (offering l w p).outcome (offering l w p).used (offering l w p).world (offer_uses l w p)

  -- more steps than the pieces' size change nothing
  drive_steps : (f g : ℕ) (w : World) (ps : List (List ℕ)) → steps_in ps < f → steps_in ps < g → drive l f w ps ≡ drive l g w ps
  unfolding drive turn
  drive_steps zero g w ps h k = absurd (omega arith)
  drive_steps (suc f) zero w ps h k = absurd (omega arith)
  drive_steps (suc f) (suc g) w [] h k = refl
  drive_steps (suc f) (suc g) w (p ∷ ps) h k =
      turn_same (drive l f) (drive l g) p ps (λ v qs m. drive_steps f g v qs (omega arith) (omega arith)) w

  pub driving_none : (w : World) → driving l w [] ≡ record { run = done 0 w; again = [] }
  unfolding driving drive
  driving_none w = refl

  module _ (w : World) (p : List ℕ) (ps : List (List ℕ)) where
    driving_turn : driving l w (p ∷ ps) ≡ turn (driving l) p ps (offering l w p)
    unfolding driving drive turn
    driving_turn = turn_same (drive l (steps_in (p ∷ ps))) (driving l) p ps (λ v qs m. drive_steps (steps_in (p ∷ ps)) (suc (steps_in qs)) v qs m (omega arith)) w

    pub driving_more : (offering l w p).outcome ≡ More → driving l w (p ∷ ps) ≡ onward (offering l w p).used (driving l (offering l w p).world ps)
    unfolding turn
    driving_more e = driving_turn ∙ rw (e, turn)

    pub driving_handed : (h : FrameHeader) (a : Result Message Refusal) → (offering l w p).outcome ≡ Handed h a
        → driving l w (p ∷ ps) ≡ handing (frame h a (offering l w p).world.lent) (offering l w p).used (driving l (offering l w p).world (drop (offering l w p).used p ∷ ps))
    unfolding turn
    driving_handed h a e = driving_turn ∙ rw (e, turn)

    pub driving_stopped : (e : Code) → (offering l w p).outcome ≡ Stopped e
        → driving l w (p ∷ ps) ≡ handing (halt e) (offering l w p).used (later l (offering l w p).world ps)
    unfolding turn
    driving_stopped e q = driving_turn ∙ rw (q, turn)

    pub driving_refused : (e : Code) → (offering l w p).outcome ≡ Refused e
        → driving l w (p ∷ ps) ≡ handing (denied e) (offering l w p).used (driving l (offering l w p).world ps)
    unfolding turn
    driving_refused e q = driving_turn ∙ rw (q, turn)

-- ---- a piece, and then the others

-- whether a run has stopped
abbrev pub halts : List Event → Bool
halts [] = false
halts (frame h a b ∷ es) = halts es
halts (halt e ∷ es) = true
halts (denied e ∷ es) = halts es

-- one after the other
abbrev pub joins : Driven → Driven → Driven
joins d e = record {
  run = record { events = d.run.events ++ e.run.events; used = d.run.used + e.run.used; world = e.run.world };
  again = d.again ++ e.again;
}

module _ (l : Limits) (ps : List (List ℕ)) where
  -- the pieces after those that gave a run: "After a stop .. each later piece is offered once"
  abbrev pub next : Run → Driven
  next r = pick (halts r.events) (later l r.world ps) (driving l r.world ps)

  abbrev Splits : World → List ℕ → Type 0
  Splits w p = driving l w (p ∷ ps) ≡ joins (driving l w (p ∷ [])) (next (driving l w (p ∷ [])).run)

  module _ (w : World) (p : List ℕ) (ih : (v : World) (q : List ℕ) → length q < length p → Splits v q) where
    splits : (x : Outcome) → (offering l w p).outcome ≡ x → Splits w p
    unfolding plus after done later
    splits More e = rw (driving_more l w p ps e, driving_more l w p [] e, driving_none, add-zero)
    splits (Handed h a) e =
        let k : length (drop (offering l w p).used p) < length p = rw length-drop (omega (arith, offer_within l w p, handed_uses l w p h a e)) in
        rw (driving_handed l w p ps h a e, driving_handed l w p [] h a e, ih (offering l w p).world (drop (offering l w p).used p) k, add_assoc)
    splits (Stopped e) q = rw (driving_stopped l w p ps e q, driving_stopped l w p [] e q, add-zero)
    splits (Refused e) q = rw (driving_refused l w p ps e q, driving_refused l w p [] e q, driving_none, add-zero)

  splits_by : (f : ℕ) (w : World) (p : List ℕ) → length p < f → Splits w p
  splits_by zero w p h = absurd (omega arith)
  splits_by (suc f) w p h = splits w p (λ v q k. splits_by f v q (omega arith)) (offering l w p).outcome refl

  pub driving_cons : (w : World) (p : List ℕ) → driving l w (p ∷ ps) ≡ joins (driving l w (p ∷ [])) (next (driving l w (p ∷ [])).run)
  driving_cons w p = splits_by (suc (length p)) w p (omega arith)

-- ---- the bytes of a frame

-- of the header bytes that were held before an offer, its outcome, the bytes used and the world after it: a frame takes nine at least, those that were
-- held counted too, and leaves none
abbrev Takes : (before : ℕ) → Outcome → (used : ℕ) → World → Type 0
Takes g More u w = w ≡ w
Takes g (Handed h a) u w = (9 ≤ min 9 g + u) × (w.receiver.progress.header_len ≡ 0)
Takes g (Stopped e) u w = w ≡ w
Takes g (Refused e) u w = w ≡ w

module _ (l : Limits) (w : World) (p : List ℕ) where
  abbrev header : ℕ
  header = w.receiver.progress.header_len

  abbrev Took : Offer → Type 0
  Took o = Takes header o.outcome o.used o.world

  at_settles : (v : Verdict) (hd : List ℕ) (u : ℕ) (q : List ℕ) → 9 ≤ min 9 header + u → Took (settles l v w hd u q)
  unfolding settles loads handed
  at_settles (refuse e) hd u q h = refl
  at_settles (gather n) hd u q h =
      pick_both Took (ltb (length (payload_held w ++ take (n - w.receiver.progress.payload_len) q)) n) refl (omega arith, refl)

  at_takes : Took (takes l w p)
  unfolding takes
  at_takes =
      let hd : List ℕ = header_held w.receiver.progress ++ take (9 - header) p in
      pick_both Took (ltb (length hd) 9) refl (at_settles (judge l w.receiver.progress.hold_len hd) hd (9 - header) (drop (9 - header) p) (omega arith))

  took : Took (offering l w p)
  unfolding offering
  took =
      pick_both Took (eqb (length w.hold) w.receiver.progress.hold_len)
      (pick_both Took (eqb w.receiver.progress.stop 0) (pick_both Took (impossible l w.receiver.progress) refl at_takes) refl)
      refl

  pub handed_takes : (h : FrameHeader) (a : Result Message Refusal) → (offering l w p).outcome ≡ Handed h a
      → (9 ≤ min 9 header + (offering l w p).used) × ((offering l w p).world.receiver.progress.header_len ≡ 0)
  handed_takes h a e = rw e at took
