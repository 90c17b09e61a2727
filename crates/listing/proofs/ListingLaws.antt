-- What is printed of pieces is the text of their run, and so of the reading of the joined bytes: how the input was cut never shows.
use mathlib.Core.Path.{◌≡◌, refl, ◌∙◌, ap}
use mathlib.Core.List.{List, [], ◌∷◌, ◌++◌, append_assoc}
use Prim.Native.Nat.{ℕ, zero, suc, ◌+◌, ◌≤◌, ◌<◌}
use native.Mathlib.Omega.{arith}
use borrow.Author.Tests.{eq-eqb}
use lib.ListN.{length, take, drop, length-drop}
use lib.Seq.{sets-eq, take_at}
use Rattle.varint.specs.Outs.{declared}
use Rattle.frame.specs.declared.receiver.Outcome.{Outcome}
use Rattle.frame.specs.declared.receiver.Outcome.TheVariants.{More, Handed, Refused}
use Rattle.frame.specs.declared.receiver.Outcome.TheVariants as O
use Rattle.frame.specs.declared.receiver.Receiver.{Receiver}
use Rattle.frame.specs.Worlds.{World, editor}
use Rattle.frame.specs.Reading.{Run, done, after}
use Rattle.frame.specs.Offering.{opens, offering}
use Rattle.frame.specs.Driving.{plus, later, steps_in, driving}
use Rattle.frame.specs.Runs.{opened}
use Rattle.frame.proofs.OfferUses.{offer_within, handed_uses}
use Rattle.frame.proofs.DrivingLaws.{driving_none, driving_more, driving_handed, driving_stopped, driving_refused}
use Rattle.frame.proofs.Cutting.{every_cut}
use Rattle.listing.specs.declared.Last.TheVariants.{Held, Stopped}
use Rattle.listing.specs.Lines.{held_of, last_line}
use Rattle.listing.proofs.PieceLaws.{furthest, line_by}
use Rattle.listing.specs.Listing.{lines_of, last_of, listed, text_of, printed, EveryListing}

-- what `list_piece` leaves at the page's start, as far as it counts, are the lines, if the page has room for them
pub page_shows : (r : Run) (page : List ℕ) → length page < furthest → (listed r page).len ≤ length page → take (listed r page).len (listed r page).page ≡ lines_of r.events
unfolding listed
page_shows r page h k =
    let x : List ℕ = lines_of r.events in
    let n : declared (length x) ≡ length x = omega arith in
    let f : 0 + length x ≤ length page = omega arith in
    rw (n, sets-eq x page 0 f) (take_at x (drop (0 + length x) page) (length x) refl)

-- nothing is printed after the last line
printed_stopped : (w : World) (n : ℕ) (ps : List (List ℕ)) → printed w (Stopped n) ps ≡ last_line (Stopped n)
unfolding printed
printed_stopped w n [] = refl
printed_stopped w n (p ∷ ps) = refl

abbrev Prints : World → List (List ℕ) → Type 0
Prints w ps = printed w (Held (held_of w.receiver)) ps ≡ text_of (driving editor w ps).run

module _ (w : World) (p : List ℕ) (ps : List (List ℕ)) (ih : (v : World) (qs : List (List ℕ)) → steps_in qs < steps_in (p ∷ ps) → Prints v qs) where
  prints : (x : Outcome) → (offering editor w p).outcome ≡ x → Prints w (p ∷ ps)
  unfolding printed text_of lines_of last_of plus after done later steps_in
  prints More e =
      let i = ih (offering editor w p).world ps (omega arith) in
      rw (driving_more editor w p [] e, driving_none, driving_more editor w p ps e) i
  prints (Handed h a) e =
      let u = handed_uses editor w p h a e in
      let i = ih (offering editor w p).world (drop (offering editor w p).used p ∷ ps) (rw length-drop (omega (arith, offer_within editor w p))) in
      rw (driving_handed editor w p [] h a e, driving_handed editor w p ps h a e, append_assoc, append_assoc) (ap (◌++◌ (line_by h a)) i)
  prints (O.Stopped c) e = rw (driving_stopped editor w p [] c e, driving_stopped editor w p ps c e) (printed_stopped _ _ ps)
  prints (Refused c) e = rw (driving_refused editor w p [] c e, driving_refused editor w p ps c e, driving_none) (printed_stopped _ _ ps)

prints_by : (f : ℕ) (w : World) (ps : List (List ℕ)) → steps_in ps < f → Prints w ps
unfolding printed text_of lines_of last_of done
prints_by zero w ps h = absurd (omega arith)
prints_by (suc f) w [] h = rw (driving_none)
prints_by (suc f) w (p ∷ ps) h = prints w p ps (λ v qs k. prints_by f v qs (omega arith)) (offering editor w p).outcome refl

-- from any world
pub prints_driving : (w : World) (ps : List (List ℕ)) → printed w (Held (held_of w.receiver)) ps ≡ text_of (driving editor w ps).run
prints_driving w ps = prints_by (suc (steps_in ps)) w ps (omega arith)

-- a receiver that was just opened holds nothing
none_held : (before : Receiver) (table hold : List ℕ) → length table ≡ 256 → held_of (opens before table hold).receiver ≡ 0
unfolding opens
none_held before table hold h = rw (eq-eqb _ _ h)

-- as specs/Listing states it
pub every_listing : EveryListing
every_listing before table hold lent ps h =
    rw (none_held before table hold h) at (prints_driving (opened (opens before table hold) lent) ps) ∙ ap text_of (every_cut before table hold lent ps h).run
