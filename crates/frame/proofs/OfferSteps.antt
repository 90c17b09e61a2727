-- An offer where bytes are held is the first step of the reading of those bytes and the piece.
use mathlib.Core.Path.{◌≡◌, refl, ◌∙◌}
use mathlib.Core.List.{List, [], ◌++◌}
use mathlib.Core.Bool.{false}
use Prim.Native.Nat.{ℕ, ◌+◌, ◌-◌, ◌≤◌, ◌<◌, min}
use native.Mathlib.Nat.{sub-zero}
use native.Mathlib.Omega.{arith}
use borrow.Author.Tests.{eq-eqb, lt-ltb, le-ltb, lt-leb}
use lib.Dec.{ltb}
use lib.ListN.{length, take, drop, length-append, length-take, length-drop, drop_of_length-le}
use lib.Seq.{take_all, take_at}
use Rattle.varint.specs.Choice.{pick}
use Rattle.varint.specs.Refusals.{code_of}
use Rattle.varint.specs.declared.error.Refusal.{Refusal}
use Rattle.frame.specs.declared.receiver.Outcome.TheVariants.{More, Handed, Stopped}
use Rattle.frame.specs.Frames.{header_of}
use Rattle.frame.specs.Worlds.{Limits, Setup, Lent, receiver_of, running, pad, fresh}
use Rattle.frame.specs.Reading.{refuse, gather, judge, First, short, bad, whole, holding, stopped_at, answered, lent_by}
use Rattle.frame.specs.Offering.{Offer, impossible, handed, loads, settles, takes, offering}
use Rattle.frame.proofs.ListLaws.{take_append, drop_append}
use Rattle.frame.proofs.HeldLaws.{pad_length, pad_over, held_head, held_load}
use Rattle.frame.proofs.Firsts.{View, v_head, v_load, v_bad, v_whole, gather_fits, room}

module _ (l : Limits) (c : Setup) where
  -- the first step of the reading of h ++ p, less the bytes of h
  unfoldable pub step : First → (h p : List ℕ) → Lent → Offer
  step short h p b = record { outcome = More; used = length p; world = holding l c (h ++ p) b }
  step (bad e) h p b = record { outcome = Stopped (code_of e); used = 9 - length h; world = stopped_at l c (take 9 (h ++ p)) e b }
  step (whole n) h p b = record {
    outcome = Handed (header_of (take 9 (h ++ p))) (answered l c n (h ++ p) b).answer;
    used = 9 + n - length h;
    world = fresh c (lent_by (answered l c n (h ++ p) b));
  }

  -- ---- bytes that are held pass the three tests

  fits : (h : List ℕ) → View l c h short → length (pad c.room (drop 9 h)) ≡ c.room
  fits h (v_head m) = pad_length c.room (drop 9 h) (rw length-drop (omega arith))
  fits h (v_load {n} m d k) = pad_length c.room (drop 9 h) (rw length-drop (omega (arith, gather_fits l c.room (take 9 h) n d)))

  pub front : (h : List ℕ) → take (min 9 (length h)) (pad 9 (take 9 h)) ≡ take 9 h
  unfolding pad
  front h = take_at (take 9 h) _ (min 9 (length h)) (length-take 9 h)

  possible : (h : List ℕ) (b : Lent) → View l c h short → impossible l (holding l c h b).receiver.progress ≡ false
  unfolding impossible holding
  possible h b (v_head m) =
      let g : min 9 (length h) ≡ length h = omega arith in
      let k : length h - 9 ≡ 0 = omega arith in
      let m' : length h ≤ 9 = omega arith in
      rw (g, k, le-ltb _ _ m', lt-ltb _ _ m)
  possible h b (v_load {n} m d k) =
      let g : min 9 (length h) ≡ 9 = omega arith in
      let k' : length h - 9 < n = omega arith in
      rw (front h, d, g, lt-leb _ _ k')

  module _ (h p : List ℕ) (b : Lent) where
    passes : View l c h short → offering l (holding l c h b) p ≡ takes l (holding l c h b) p
    unfolding offering holding
    passes v = rw (fits h v, eq-eqb c.room c.room refl, possible h b v)

    -- ---- then h and the piece are gathered

    takes_is : takes l (holding l c h b) p
        ≡ pick (ltb (length (take 9 (h ++ p))) 9)
        (record {
          outcome = More;
          used = length p;
          world = record { receiver = receiver_of c (pad 9 (take 9 (h ++ p))) (length (take 9 (h ++ p))) 0 running; hold = pad c.room (drop 9 h); lent = b };
        })
        (settles l (judge l c.room (take 9 (h ++ p))) (holding l c h b) (take 9 (h ++ p)) (9 - length h) (drop (9 - length h) p))
    unfolding takes holding
    takes_is =
        let e : 9 - min 9 (length h) ≡ 9 - length h = omega arith in
        rw (e, front h, take_append 9 h p)

    -- the header stays short
    at_head : length (h ++ p) < 9 → takes l (holding l c h b) p ≡ step short h p b
    unfolding step pad
    at_head m =
        let t : take 9 (h ++ p) ≡ h ++ p = take_all 9 (h ++ p) (omega arith) in
        let d : drop 9 h ≡ [] = drop_of_length-le h {i = 9} (omega (arith, length-append h p)) in
        takes_is ∙ rw (t, lt-ltb _ _ m, d, sub-zero, held_head l c (h ++ p) b m)

    -- the header is there
    settled : 9 ≤ length (h ++ p) → takes l (holding l c h b) p
        ≡ settles l (judge l c.room (take 9 (h ++ p))) (holding l c h b) (take 9 (h ++ p)) (9 - length h) (drop (9 - length h) p)
    settled m =
        let k : 9 ≤ length (take 9 (h ++ p)) = rw length-take (omega arith) in
        takes_is ∙ rw (le-ltb _ _ k)

    -- it stops the run
    at_bad : (e : Refusal) → View l c h short → 9 ≤ length (h ++ p) → judge l c.room (take 9 (h ++ p)) ≡ refuse e
        → takes l (holding l c h b) p ≡ step (bad e) h p b
    unfolding step holding stopped_at settles
    at_bad e v m d = settled m ∙ rw (d, fits h v)

    module _ (n : ℕ) (d : judge l c.room (take 9 (h ++ p)) ≡ gather n) (e : length h < 9 + n) where
      payload_is : take (length h - 9) (pad c.room (drop 9 h)) ++ take (n - (length h - 9)) (drop (9 - length h) p) ≡ take n (drop 9 (h ++ p))
      unfolding pad
      payload_is =
          let k : length (drop 9 h) ≤ n = rw length-drop (omega arith) in
          rw (take_at (drop 9 h) _ (length h - 9) (length-drop 9 h), drop_append, take_append, take_all n (drop 9 h) k, length-drop)

      -- the payload stays short
      at_load : 9 ≤ length (h ++ p) → length (h ++ p) < 9 + n → takes l (holding l c h b) p ≡ step short h p b
      unfolding step holding settles loads
      at_load m f =
          let s : length (h ++ p) ≡ length h + length p = length-append h p in
          let a : length (drop 9 (h ++ p)) ≡ length (h ++ p) - 9 = length-drop 9 (h ++ p) in
          let k : length (drop 9 (h ++ p)) < n = omega arith in
          let t : take n (drop 9 (h ++ p)) ≡ drop 9 (h ++ p) = take_all n (drop 9 (h ++ p)) (omega arith) in
          let u : 9 - length h + (length p - (9 - length h)) ≡ length p = omega arith in
          let r : n ≤ c.room = gather_fits l c.room (take 9 (h ++ p)) n d in
          let o : length (drop 9 h) ≤ length (drop 9 (h ++ p)) = rw (length-drop 9 h) (omega arith) in
          settled m
          ∙ rw (
            d,
            payload_is,
            t,
            lt-ltb _ _ k,
            pad_over c.room (drop 9 h) (drop 9 (h ++ p)) o (omega arith),
            a,
            length-drop (9 - length h) p,
            u,
            held_load l c (h ++ p) b m,
          )

      -- the frame is whole
      at_whole : View l c h short → 9 + n ≤ length (h ++ p) → takes l (holding l c h b) p ≡ step (whole n) h p b
      unfolding step holding settles loads handed answered fresh
      at_whole v f =
          let k : n ≤ length (take n (drop 9 (h ++ p))) = rw (length-take, length-drop) (omega arith) in
          let u : 9 - length h + (n - (length h - 9)) ≡ 9 + n - length h = omega arith in
          settled (omega arith) ∙ rw (d, payload_is, le-ltb _ _ k, u, fits h v)

    pub offer_is : (x : First) → View l c h short → View l c (h ++ p) x → offering l (holding l c h b) p ≡ step x h p b
    offer_is x v (v_head m) = passes v ∙ at_head m
    offer_is x v (v_load {n} m d k) = passes v ∙ at_load n d (room l c h p n v d) m k
    offer_is x v (v_bad {e} m d) = passes v ∙ at_bad e v m d
    offer_is x v (v_whole {n} m d) = passes v ∙ at_whole n d (room l c h p n v d) v m
