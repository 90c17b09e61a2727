-- What the receiver's inner functions leave in what they are lent.
use Rattle.std.specs.Prelude.{◌≡◌, List, ℕ}
use Rattle.frame.specs.Offering.{Offer, offer_of, world_of}
use Rattle.frame.specs.Worlds.{World}
use Rattle.frame.specs.declared.receiver.Lent.{Lent}
use Rattle.frame.specs.declared.receiver.Offered.{Offered}
use Rattle.frame.specs.declared.receiver.Receiver.{Receiver}

-- the memory of a call
abbrev pub lent_world : Receiver → (hold : List ℕ) → Lent → World
lent_world r hold l = world_of r hold l.text.now l.rows.now l.nodes.now

-- an offer left what is said, in the same three buffers
abbrev pub Leaves : Offered → Receiver → (hold : List ℕ) → (before after : Lent) → Offer → Type 0
Leaves o r hold before after x =
    (after.text.ghost_name ≡ before.text.ghost_name)
    × (after.rows.ghost_name ≡ before.rows.ghost_name)
    × (after.nodes.ghost_name ≡ before.nodes.ghost_name)
    × (offer_of o r hold after.text.now after.rows.now after.nodes.now ≡ x)
