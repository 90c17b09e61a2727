-- The two laws of a format: what is printed is read back, and only what is printed is read.
use Rattle.std.specs.Prelude.{true, ◌≡◌, List, [], ◌∷◌, ◌++◌, ℕ, ◌+◌, ◌^◌, ◌≤◌, ◌<◌, length, get_or, drop, Ok}
use Rattle.varint.specs.Got.{Got}
use Rattle.varint.specs.Formats.{Format}
use Rattle.varint.specs.Utf8.{utf8}

-- wherever x stands, it is read as a
abbrev pub Reads : {A : Type 0} → (List ℕ → ℕ → Got A) → List ℕ → A → Type 0
Reads read x a = (before rest : List ℕ) → read (before ++ (x ++ rest)) (length before) ≡ Ok (a, length before + length x)

-- so for what is printed of the things that are Good
pub record Back {A : Type 0} (f : Format A) (Good : A → Type 0) : Type 0 where
  pub back : (a : A) → Good a → Reads f.read (f.print a) a

-- what can be printed and read back: a text that is UTF-8, and a list of such things, of a length that fits
abbrev pub TextOk : List ℕ → Type 0
TextOk t = (length t < 2 ^ 64) × (utf8 t ≡ true)

abbrev pub All : {A : Type 0} → (A → Type 0) → List A → Type 0
All P [] = Unit
All P (a ∷ l) = P a × All P l

abbrev pub ListOk : {A : Type 0} → (A → Type 0) → List A → Type 0
ListOk P l = (length l < 2 ^ 64) × All P l

-- every element is a byte
abbrev pub Bytes : List ℕ → Type 0
Bytes s = (i : ℕ) → get_or s i 0 < 256

-- the bytes x stand in s from `at` to q
pub record Stands (x s : List ℕ) (at q : ℕ) : Type 0 where
  pub bytes : drop at s ≡ x ++ drop q s
  pub next : q ≡ at + length x
  pub inside : q ≤ length s

-- what is read from a list of bytes stands there as it is printed
pub record Forth {A : Type 0} (f : Format A) : Type 0 where
  pub forth : (s : List ℕ) (at : ℕ) (a : A) (q : ℕ) → Bytes s → at ≤ length s → f.read s at ≡ Ok (a, q)
      → Stands (f.print a) s at q
