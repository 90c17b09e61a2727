-- After a stop: each offer gives the stop's refusal again, uses nothing and alters nothing.
use mathlib.Core.Path.{◌≡◌, refl}
use mathlib.Core.Logic.{◌≢◌}
use mathlib.Core.List.{List, [], ◌∷◌, map}
use Prim.Native.Nat.{ℕ}
use native.Mathlib.Nat.{zero-add}
use borrow.Author.Tests.{eq-eqb, ne_eqb}
use lib.ListN.{length}
use Rattle.frame.specs.Worlds.{Limits, World}
use Rattle.frame.specs.Reading.{Run, done}
use Rattle.frame.specs.Offering.{declined, stop_of, offering}
use Rattle.frame.specs.Driving.{plus, later}

pub plus_zero : (r : Run) → plus 0 r ≡ r
unfolding plus
plus_zero r = rw zero-add

-- ---- the offers after a stop

-- a stop stands, and the hold has the opening's length
pub record Halted (w : World) : Type 0 where
  pub room : length w.hold ≡ w.receiver.progress.hold_len
  pub stop : w.receiver.progress.stop ≢ 0

module _ (l : Limits) (w : World) (h : Halted w) where
  pub offer_stopped : (p : List ℕ) → offering l w p ≡ declined (stop_of w.receiver) w
  unfolding offering
  offer_stopped p = rw (eq-eqb _ _ h.room, ne_eqb _ _ h.stop)

  pub later_stopped : (ps : List (List ℕ)) → later l w ps ≡ record { run = done 0 w; again = map (λ _. declined (stop_of w.receiver) w) ps }
  unfolding later
  later_stopped [] = refl
  later_stopped (p ∷ ps) = rw (offer_stopped p, later_stopped ps, plus_zero)
