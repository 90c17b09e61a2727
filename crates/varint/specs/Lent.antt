-- What a decoder answers, and the memory that it was lent: for messages, and for a descriptor alone.
use Rattle.std.specs.Prelude.{◌≡◌, refl, List, [], ◌∷◌, ℕ, ltb, length, Result, Ok, Err}
use Rattle.varint.specs.Choice.{pick}
use Rattle.varint.specs.Got.{Got}
use Rattle.varint.specs.Stores.{filled}
use Rattle.varint.specs.declared.error.Buffer.TheVariants.{Text, Rows, Nodes}
use Rattle.varint.specs.declared.error.Refusal.{Refusal}
use Rattle.varint.specs.declared.error.Refusal.TheVariants.{TooSmall}

-- an answer, and what was lent
pub record Left (A : Type 0) : Type 0 where
  pub answer : Result A Refusal
  pub text : List ℕ
  pub rows : List ℕ
  pub nodes : List ℕ

-- "Refused: nothing written."
abbrev pub kept : {A : Type 0} → Refusal → List ℕ → List ℕ → List ℕ → Left A
kept e tx rs nd = record { answer = Err e; text = tx; rows = rs; nodes = nd }

-- what is put into the memory
pub record Taken : Type 0 where
  pub text : List ℕ
  pub rows : List ℕ
  pub nodes : List ℕ

-- "last 16 for text, rows, nodes in that order, exactly when the read message needs more than was lent". "Accepted: text holds the message's
-- texts joined in reading order, rows and nodes hold its rows, and all three are zero from there to their ends".
unfoldable pub fitted : {A : Type 0} → A → Taken → List ℕ → List ℕ → List ℕ → Left A
fitted a k tx rs nd =
    pick (ltb (length tx) (length k.text))
    (kept (TooSmall Text (length k.text)) tx rs nd)
    (pick (ltb (length rs) (length k.rows))
    (kept (TooSmall Rows (length k.rows)) tx rs nd)
    (pick (ltb (length nd) (length k.nodes))
    (kept (TooSmall Nodes (length k.nodes)) tx rs nd)
    (record { answer = Ok a; text = filled tx k.text; rows = filled rs k.rows; nodes = filled nd k.nodes })))

-- what was read is put where it fits; a refusal is given before any buffer is looked at
unfoldable pub settled : {A B : Type 0} → (B → ℕ → A) → (B → Taken) → Got B → List ℕ → List ℕ → List ℕ → Left A
settled answer taken (Ok (b, q)) tx rs nd = fitted (answer b q) (taken b) tx rs nd
settled answer taken (Err e) tx rs nd = kept e tx rs nd

abbrev example : Taken
example = record { text = 7 ∷ []; rows = 8 ∷ 9 ∷ []; nodes = [] }

-- the text fits, and a number of rows is one too few
example_short : fitted {A = ℕ} 5 example (1 ∷ 1 ∷ []) (1 ∷ []) (1 ∷ []) ≡ kept (TooSmall Rows 2) (1 ∷ 1 ∷ []) (1 ∷ []) (1 ∷ [])
unfolding fitted
example_short = refl

-- all fits, and zeros stand behind it
example_fits : fitted {A = ℕ} 5 example (1 ∷ 1 ∷ []) (1 ∷ 1 ∷ []) (1 ∷ []) ≡ record { answer = Ok 5; text = 7 ∷ 0 ∷ []; rows = 8 ∷ 9 ∷ []; nodes = 0 ∷ [] }
unfolding fitted filled
example_fits = refl
