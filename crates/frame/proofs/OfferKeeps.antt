-- No offer alters the kind table.
use mathlib.Core.Path.{◌≡◌, refl}
use mathlib.Core.List.{List, ◌++◌}
use Prim.Native.Nat.{ℕ, ◌-◌}
use lib.Dec.{ltb, eqb}
use lib.ListN.{length, take, drop}
use Rattle.varint.proofs.Basics.{pick_cases}
use Rattle.frame.specs.declared.receiver.Receiver.{Receiver}
use Rattle.frame.specs.Worlds.{Limits, World}
use Rattle.frame.specs.Reading.{Verdict, refuse, gather, judge}
use Rattle.frame.specs.Offering.{Offer, header_held, payload_held, impossible, handed, loads, settles, takes, offering}

module _ (l : Limits) (w : World) (p : List ℕ) where
  abbrev Keeps : Offer → Type 0
  Keeps o = o.world.receiver.table ≡ w.receiver.table

  settles_keeps : (v : Verdict) (hd : List ℕ) (u : ℕ) (q : List ℕ) → Keeps (settles l v w hd u q)
  unfolding settles loads handed
  settles_keeps (refuse e) hd u q = refl
  settles_keeps (gather n) hd u q = pick_cases Keeps (ltb (length (payload_held w ++ take (n - w.receiver.progress.payload_len) q)) n) (λ _. refl) (λ _. refl)

  takes_keeps : Keeps (takes l w p)
  unfolding takes
  takes_keeps =
      let r : Receiver = w.receiver in
      let lacks : ℕ = 9 - r.progress.header_len in
      let y : List ℕ = header_held r.progress ++ take lacks p in
      pick_cases Keeps (ltb (length y) 9) (λ _. refl) (λ _. settles_keeps (judge l r.progress.hold_len y) y lacks (drop lacks p))

  pub offer_keeps : Keeps (offering l w p)
  unfolding offering
  offer_keeps =
      pick_cases Keeps (eqb (length w.hold) w.receiver.progress.hold_len)
      (λ _. pick_cases Keeps (eqb w.receiver.progress.stop 0) (λ _. pick_cases Keeps (impossible l w.receiver.progress) (λ _. refl) (λ _. takes_keeps)) (λ _. refl))
      (λ _. refl)
