use mathlib.Core.Path.{◌≡◌}
use Prim.Native.Nat.{◌-◌}
use lib.ListN.{length}
use Rattle.frame.specs.Offering.{world_of}
use Rattle.listing.specs.Listing.{listed}
use Rattle.listing.proofs.PieceLaws.{run_of, Going}
use Rattle.listing.proofs.list_piece.Given as goal

-- `list_piece` meets its contract: what is left of the piece leads to the same end at each turn, and its length falls.
abbrev pub invariant-loop-header : goal.invariant-loop-header
invariant-loop-header l =
    Going (listed (run_of (world_of l.initial.receiver l.initial.hold l.initial.text l.initial.rows l.initial.nodes) l.piece) l.initial.page) l.piece (world_of l.receiver l.hold l.text l.rows l.nodes) l.page l.at l.len
    × (length l.hold ≡ length l.initial.hold)
    × (length l.text ≡ length l.initial.text)
    × (length l.rows ≡ length l.initial.rows)
    × (length l.nodes ≡ length l.initial.nodes)
    × (length l.page ≡ length l.initial.page)

abbrev pub decreases-loop-header : goal.decreases-loop-header
decreases-loop-header l =
    length l.piece - l.at
