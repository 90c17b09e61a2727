-- A known byte whose conversion answers as a function says is read as that function says.
use mathlib.Core.Path.{◌≡◌, ◌∙◌, ap}
use Prim.Native.Nat.{ℕ}
use Rattle.std.specs.Prelude.{Ok, Err, Result}
use Rattle.varint.specs.Got.{Got, then}
use Rattle.varint.specs.declared.error.Refusal.{Refusal}
use Rattle.protocol.specs.Fields.{made_at}
use Rattle.protocol.specs.Inner.Knowing.{Known}

pub known_is : {A : Type 0} (f : ℕ → Result A Refusal) (g : Got ℕ) (r : Got A) → Known (λ b x. x ≡ f b) g r → r ≡ then g (λ b q. made_at (f b) q)
known_is {A} f (Ok (b, q)) r k = k.2 ∙ ap (λ (x : Result A Refusal). made_at x q) k.1
known_is f (Err e) r k = k
