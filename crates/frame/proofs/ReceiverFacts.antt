-- What every receiver has by its type.
use mathlib.Core.Path.{◌≡◌}
use lib.ListN.{length}
use denote.Laws.{Is}
use denote.Struct.Laws as LL
use Rattle.frame.specs.declared.receiver.Progress.{Progress}
use Rattle.frame.specs.contracts.receiver.Progress as T
use Rattle.frame.proofs.receiver.Progress.TheLaws as T'

-- nine header bytes
pub nine : (p : Progress) → Is T.the_row p (LL.vals T.the_type T'.the_laws p) → length p.header ≡ 9
nine p is = (LL.owed T.the_type T'.the_laws p _ is).0.1.0.1
