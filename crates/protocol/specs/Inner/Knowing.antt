-- What a reader of a known byte answers, whatever it is that the byte is known for.
use Rattle.std.specs.Prelude.{◌≡◌, ℕ, Result, Ok, Err}
use Rattle.varint.specs.Got.{Got}
use Rattle.varint.specs.declared.error.Refusal.{Refusal}
use Rattle.protocol.specs.Fields.{made_at}

-- the byte's refusal, or what a conversion that answers as `gives` says made of it
abbrev pub Known : {A : Type 0} → (ℕ → Result A Refusal → Type 0) → Got ℕ → Got A → Type 0
Known {A} gives (Ok (b, q)) r = (x : Result A Refusal) × gives b x × (r ≡ made_at x q)
Known gives (Err e) r = r ≡ Err e
