-- A reading that was accepted before: the second reading of a message does not test its texts, and may rely on the first.
use Rattle.std.specs.Prelude.{Bool, false, ◌≡◌, Ok, Err}
use Rattle.varint.specs.Got.{Got}

abbrev pub Accepted : {A : Type 0} → Got A → Type 0
Accepted (Ok (a, q)) = Unit
Accepted (Err e) = ⊥

-- where texts are not tested, the same reading was accepted
abbrev pub Again : {A : Type 0} → Bool → Got A → Type 0
Again check g = check ≡ false → Accepted g
