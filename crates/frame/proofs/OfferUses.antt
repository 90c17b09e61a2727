-- What a loop over a piece needs of an offer, for every receiver: how many bytes of the piece it uses.
use mathlib.Core.Path.{◌≡◌, refl}
use mathlib.Core.Bool.{false}
use mathlib.Core.Logic.{⊎_elim}
use mathlib.Core.List.{List, ◌++◌, append-nil}
use Prim.Native.Nat.{ℕ, ◌+◌, ◌-◌, ◌≤◌, ◌<◌, min}
use native.Mathlib.Omega.{arith}
use borrow.Author.Tests.{ltb-false, lt-ltb, le-ltb, leb-false}
use lib.Dec.{ltb, eqb}
use lib.ListN.{length, take, drop, length-append, length-take, length-drop}
use Rattle.varint.proofs.Basics.{pick_cases, clash, below}
use Rattle.frame.specs.declared.FrameHeader.{FrameHeader}
use Rattle.frame.specs.declared.receiver.Receiver.{Receiver}
use Rattle.frame.specs.declared.receiver.Outcome.{Outcome}
use Rattle.frame.specs.declared.receiver.Outcome.TheVariants.{More, Handed, Stopped, Refused}
use Rattle.frame.specs.Worlds.{Limits, World}
use Rattle.frame.specs.Reading.{Verdict, refuse, gather, judge}
use Rattle.frame.specs.Offering.{Offer, header_held, payload_held, overfull, impossible, handed, loads, settles, takes, offering}
use Rattle.std.specs.Prelude.{Result}
use Rattle.varint.specs.declared.error.Refusal.{Refusal}
use Rattle.protocol.specs.declared.message.Message.{Message}

-- of the piece's n bytes: all, and more is wanted; some, to a frame's end or a stop; none where the offer is refused
abbrev pub Uses : Outcome → (used n : ℕ) → Type 0
Uses More u n = u ≡ n
Uses (Handed h a) u n = (0 < u) × (u ≤ n)
Uses (Stopped e) u n = (0 < u) × (u ≤ n)
Uses (Refused e) u n = u ≡ 0

pub uses_within : (x : Outcome) (u n : ℕ) → Uses x u n → u ≤ n
uses_within More u n h = omega arith
uses_within (Handed hd a) u n h = h.1
uses_within (Stopped e) u n h = h.1
uses_within (Refused e) u n h = omega arith

-- ---- what the counts say

-- Where u bytes of the piece make the header whole and `have` bytes of payload are held, a verdict leads on by a byte at least.
abbrev Goes : (u have : ℕ) → Verdict → Type 0
Goes u have (refuse e) = 0 < u
Goes u have (gather n) = (have ≤ n) × (0 < u + (n - have))

goes_early : (u : ℕ) (v : Verdict) → 0 < u → Goes u 0 v
goes_early u (refuse e) h = h
goes_early u (gather n) h = (omega arith, omega arith)

goes_late : (have : ℕ) (v : Verdict) → overfull v have ≡ false → Goes 0 have v
goes_late have (refuse e) h = clash refl h
goes_late have (gather n) h = let k : have < n = leb-false n have h in (omega arith, omega arith)

module _ (l : Limits) where
  goes : (r : Receiver) (p : List ℕ) → impossible l r.progress ≡ false
      → (r.progress.header_len ≤ 9) × Goes (9 - r.progress.header_len) r.progress.payload_len (judge l r.progress.hold_len (header_held r.progress ++ take (9 - r.progress.header_len) p))
  unfolding impossible
  goes r p h =
      let g : ℕ = r.progress.header_len in
      let have : ℕ = r.progress.payload_len in
      ⊎_elim
      (λ (k : 9 < g). clash refl (rw (lt-ltb 9 g k) at h))
      (λ (k : g ≤ 9). (
        k,
        ⊎_elim
            (λ (m : g < 9).
            let z : have ≡ 0 = omega (arith, ltb-false 0 have (rw (le-ltb 9 g k, lt-ltb g 9 m) at h)) in
            rw z (goes_early (9 - g) (judge l r.progress.hold_len (header_held r.progress ++ take (9 - g) p)) (omega arith)))
            (λ (m : 9 ≤ g).
            let z : 9 - g ≡ 0 = omega arith in
            rw (z, append-nil) (goes_late have (judge l r.progress.hold_len (header_held r.progress)) (rw (le-ltb 9 g k, le-ltb g 9 m) at h)))
            (below g 9),
      ))
      (below 9 g)

  -- ---- the offer

  module _ (w : World) (p : List ℕ) where
    abbrev Fits : Offer → Type 0
    Fits o = Uses o.outcome o.used (length p)

    at_settles : (v : Verdict) (hd : List ℕ) (u : ℕ) (q : List ℕ) → u + length q ≡ length p → Goes u w.receiver.progress.payload_len v → Fits (settles l v w hd u q)
    unfolding settles loads handed
    at_settles (refuse e) hd u q s g = (g, omega arith)
    at_settles (gather n) hd u q s g =
        let have : ℕ = w.receiver.progress.payload_len in
        let y : List ℕ = payload_held w ++ take (n - have) q in
        let a : length y ≡ min have (length w.hold) + min (n - have) (length q) = rw (length-append, length-take have w.hold, length-take (n - have) q) in
        pick_cases Fits (ltb (length y) n) (λ _. s) (λ t. (g.1, omega (arith, ltb-false (length y) n t)))

    at_takes : impossible l w.receiver.progress ≡ false → Fits (takes l w p)
    unfolding takes
    at_takes h =
        let r : Receiver = w.receiver in
        let lacks : ℕ = 9 - r.progress.header_len in
        let y : List ℕ = header_held r.progress ++ take lacks p in
        let a : length y ≡ min r.progress.header_len (length r.progress.header) + min lacks (length p) = rw (length-append, length-take _ r.progress.header, length-take lacks p) in
        let g : r.progress.header_len ≤ 9 = (goes r p h).0 in
        pick_cases Fits (ltb (length y) 9)
        (λ _. refl)
        (λ t. at_settles (judge l r.progress.hold_len y) y lacks (drop lacks p) (rw length-drop (omega (arith, ltb-false (length y) 9 t))) (goes r p h).1)

    pub offer_uses : Uses (offering l w p).outcome (offering l w p).used (length p)
    unfolding offering
    offer_uses =
        pick_cases Fits (eqb (length w.hold) w.receiver.progress.hold_len)
        (λ _. pick_cases Fits (eqb w.receiver.progress.stop 0) (λ _. pick_cases Fits (impossible l w.receiver.progress) (λ _. refl) at_takes) (λ _. refl))
        (λ _. refl)

    pub offer_within : (offering l w p).used ≤ length p
    offer_within = uses_within (offering l w p).outcome (offering l w p).used (length p) offer_uses

    pub more_uses : (offering l w p).outcome ≡ More → (offering l w p).used ≡ length p
    more_uses e = rw e at offer_uses

    pub handed_uses : (h : FrameHeader) (a : Result Message Refusal) → (offering l w p).outcome ≡ Handed h a → 0 < (offering l w p).used
    handed_uses h a e = (rw e at offer_uses).0
