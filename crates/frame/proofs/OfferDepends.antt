-- An offer depends on the bytes that are held and on no other byte of header and hold.
use mathlib.Core.Path.{◌≡◌, refl, sym, ◌∙◌}
use mathlib.Core.List.{List, ◌++◌}
use mathlib.Core.Bool.{Bool, true, false}
use Prim.Native.Nat.{ℕ, ◌-◌}
use lib.Dec.{ltb, eqb}
use lib.ListN.{length, take, drop, length-append, length-drop}
use lib.Seq.{take-append_seam}
use Rattle.varint.specs.Choice.{pick}
use Rattle.varint.specs.declared.error.Code.{Code}
use Rattle.frame.specs.declared.receiver.Outcome.{Outcome}
use Rattle.frame.specs.Worlds.{Limits, Setup, Lent, World, receiver_of, pad}
use Rattle.frame.specs.Reading.{Verdict, refuse, gather, judge}
use Rattle.frame.specs.Offering.{Offer, declined, stop_of, setup_of, impossible, handed, loads, settles, takes, offering}
use Rattle.frame.specs.Agreeing.{Agree, AgreeAfter}

-- what agrees after either way of a test agrees after the test
after_pick : (t : Bool) {a a' b b' : Offer} → AgreeAfter a a' → AgreeAfter b b' → AgreeAfter (pick t a b) (pick t a' b')
after_pick true h k = h
after_pick false h k = k

-- the same answer, and worlds over the same values but for the headers hd, hd' and the holds x, x'
alike : (o : Outcome) (u : ℕ) (c : Setup) (g n : ℕ) (e : Code) (b : Lent) (hd hd' x x' : List ℕ) → take g hd ≡ take g hd' → length x ≡ length x' → take n x ≡ take n x'
    → AgreeAfter
    (record { outcome = o; used = u; world = record { receiver = receiver_of c hd g n e; hold = x; lent = b } })
    (record { outcome = o; used = u; world = record { receiver = receiver_of c hd' g n e; hold = x'; lent = b } })
alike o u c g n e b hd hd' x x' h r p = record {
  outcome = refl;
  used = refl;
  world = record { setup = refl; header_len = refl; payload_len = refl; stop = refl; lent = refl; room = r; header = h; payload = p };
}

module _ (l : Limits) (c : Setup) (g n : ℕ) (e : Code) (b : Lent) (hd hd' x x' : List ℕ)
    (same_header : take g hd ≡ take g hd') (same_room : length x ≡ length x') (same_payload : take n x ≡ take n x') where
  abbrev one : World
  one = record { receiver = receiver_of c hd g n e; hold = x; lent = b }

  abbrev other : World
  other = record { receiver = receiver_of c hd' g n e; hold = x'; lent = b }

  at_declined : (f : Code) → AgreeAfter (declined f one) (declined f other)
  at_declined f = alike _ _ c g n e b hd hd' x x' same_header same_room same_payload

  at_settles : (v : Verdict) (h : List ℕ) (u : ℕ) (q : List ℕ) → AgreeAfter (settles l v one h u q) (settles l v other h u q)
  unfolding settles loads handed
  at_settles (refuse f) h u q = rw same_room (alike _ _ c 9 0 _ b h h _ _ refl refl refl)
  at_settles (gather m) h u q =
      let y : List ℕ = take n x' ++ take (m - n) q in
      let r : length (y ++ drop (length y) x) ≡ length (y ++ drop (length y) x') = simp (length-append, length-drop, same_room) in
      let k : take (length y) (y ++ drop (length y) x) ≡ take (length y) (y ++ drop (length y) x') = take-append_seam y _ ∙ sym (take-append_seam y _) in
      rw (same_payload, same_room) (after_pick (ltb (length y) m) (alike _ _ c 9 (length y) e b h h _ _ refl r k) (alike _ _ c 0 0 e _ _ _ _ _ refl refl refl))

  at_takes : (p : List ℕ) → AgreeAfter (takes l one p) (takes l other p)
  unfolding takes
  at_takes p =
      let h : List ℕ = take g hd' ++ take (9 - g) p in
      rw same_header
      (after_pick (ltb (length h) 9) (alike _ _ c (length h) 0 e b (pad 9 h) (pad 9 h) x x' refl same_room refl) (at_settles (judge l c.room h) h (9 - g) (drop (9 - g) p)))

  same_counts : impossible l one.receiver.progress ≡ impossible l other.receiver.progress
  unfolding impossible
  same_counts = rw same_header

  at_offering : (p : List ℕ) → AgreeAfter (offering l one p) (offering l other p)
  unfolding offering
  at_offering p =
      rw (same_room, same_counts)
      (after_pick
      (eqb (length x') c.room)
      (after_pick (eqb e.number 0) (after_pick (impossible l other.receiver.progress) (at_declined _) (at_takes p)) (at_declined e))
      (at_declined _))

pub offer_depends : (l : Limits) (w w' : World) (p : List ℕ) → Agree w w' → AgreeAfter (offering l w p) (offering l w' p)
offer_depends l w w' p a =
    let g : ℕ = w.receiver.progress.header_len in
    let n : ℕ = w.receiver.progress.payload_len in
    let eh : take g w.receiver.progress.header ≡ take g w'.receiver.progress.header = rw (← a.header_len) at a.header in
    let ex : take n w.hold ≡ take n w'.hold = rw (← a.payload_len) at a.payload in
    let e : record { receiver = receiver_of (setup_of w.receiver) w'.receiver.progress.header g n (stop_of w.receiver); hold = w'.hold; lent = w.lent } ≡ w' =
    λ i. record { receiver = receiver_of (a.setup i) w'.receiver.progress.header (a.header_len i) (a.payload_len i) (a.stop i); hold = w'.hold; lent = a.lent i } in
    rw (← e) (at_offering l (setup_of w.receiver) g n (stop_of w.receiver) w.lent w.receiver.progress.header w'.receiver.progress.header w.hold w'.hold eh a.room ex p)
