use Rattle.protocol_write.proofs.RowsFine.{body_fine}
use Rattle.protocol_write.proofs.write.Writer.body.Goals as goal

pub counted-requires : goal.counted-requires
counted-requires c = rw c.in-Startup.is at (body_fine _ _ _ _ _ c.requires)

pub counted-requires-in-Ids : goal.counted-requires-in-Ids
counted-requires-in-Ids c = rw c.in-Ids.is at (body_fine _ _ _ _ _ c.requires)

pub counted-requires-in-Types : goal.counted-requires-in-Types
counted-requires-in-Types c = rw c.in-Types.is at (body_fine _ _ _ _ _ c.requires)

pub counted-requires-in-Profile : goal.counted-requires-in-Profile
counted-requires-in-Profile c = rw c.in-Profile.is at (body_fine _ _ _ _ _ c.requires)

pub counted-requires-in-Fetch : goal.counted-requires-in-Fetch
counted-requires-in-Fetch c = rw c.in-Fetch.is at (body_fine _ _ _ _ _ c.requires)
