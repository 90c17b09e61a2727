-- What a writer of a whole buffer answers: "16 TooSmall(which, length needed; .. 5 out)", or the length written.
use Rattle.std.specs.Prelude.{◌≡◌, refl, List, [], ◌∷◌, ℕ, min, ltb, length, Result, Ok, Err}
use Rattle.varint.specs.Choice.{pick}
use Rattle.varint.specs.Gathering.{Held, held, lacks}
use Rattle.varint.specs.Stores.{filled}
use Rattle.varint.specs.declared.error.Buffer.TheVariants.{Out}
use Rattle.varint.specs.declared.error.Refusal.TheVariants.{BlockTooLarge, TooSmall}
use Rattle.varint.specs.declared.error.Refusal.{Refusal}

-- x in the buffer d
unfoldable pub wrote : List ℕ → List ℕ → Result ℕ Refusal
wrote d x = pick (ltb (length d) (length x)) (Err (TooSmall Out (length x))) (Ok (length x))

-- what a writer answers, and the buffer that it was lent
pub record Sent : Type 0 where
  pub answer : Result ℕ Refusal
  pub out : List ℕ

-- "a length over 2^64−1 is declared as 2^64−1"
abbrev pub declared : ℕ → ℕ
declared n = min n 18446744073709551615

-- "12 for a result over 67,108,864 ..; 16(5)": x in the buffer d, where at most max bytes may be
unfoldable pub send : ℕ → List ℕ → List ℕ → Sent
send max x d =
    pick (ltb max (length x))
    (record { answer = Err (BlockTooLarge (declared (length x)) max); out = d })
    (record { answer = wrote d x; out = filled d x })

-- what the memory holds, printed into d; or what is wrong with it, and nothing is written
unfoldable pub sent : {A : Type 0} → ℕ → (A → List ℕ) → Held A → List ℕ → Sent
sent max print (held a) d = send max (print a) d
sent max print (lacks e) d = record { answer = Err e; out = d }

example_short : wrote (9 ∷ []) (1 ∷ 2 ∷ []) ≡ Err (TooSmall Out 2)
unfolding wrote
example_short = refl

example_exact : wrote (9 ∷ 9 ∷ []) (1 ∷ 2 ∷ []) ≡ Ok 2
unfolding wrote
example_exact = refl

example_long : wrote (9 ∷ 9 ∷ 9 ∷ []) (1 ∷ 2 ∷ []) ≡ Ok 2
unfolding wrote
example_long = refl
