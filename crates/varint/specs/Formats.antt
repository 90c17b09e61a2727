-- Formats: how a thing is read from bytes at a place, and how it is printed. A message's layout is one format, a line a field,
-- and says both directions at once.
use Rattle.std.specs.Prelude.{◌≡◌, refl, List, [], ◌∷◌, ◌++◌, ℕ, zero, suc, length, Ok, Err}
use Rattle.varint.specs.Fixed.{le, get_le, put_le}
use Rattle.varint.specs.Leb128.{read_from, get_u64, put_by, put_u64}
use Rattle.varint.specs.Stores.{part}
use Rattle.varint.specs.Texts.{skim_text, get_text, get_name}
use Rattle.varint.specs.Utf8.{utf8, scan, lead}
use Rattle.varint.specs.declared.error.Refusal.TheVariants.{LengthOutOfRange}
use Rattle.varint.specs.Got.{Got, then}
use Rattle.varint.specs.declared.text.Span.{Span}

pub record Format (A : Type 0) : Type 0 where
  pub read : List ℕ → ℕ → Got A
  pub print : A → List ℕ

-- a text is its bytes
abbrev pub got_text : List ℕ → Got Span → Got (List ℕ)
got_text s (Ok (t, next)) = Ok (part s t.start t.len, next)
got_text s (Err r) = Err r

abbrev pub print_text : List ℕ → List ℕ
print_text t = put_u64 (length t) ++ t

-- a number as a varint
abbrev pub varint : Format ℕ
varint = record { read = λ s at. get_u64 s at; print = put_u64 }

-- a number in w bytes, the least first
abbrev pub fixed : ℕ → Format ℕ
fixed w = record { read = λ s at. get_le w s at; print = put_le w }

-- a free text: queries, schemas, error texts
abbrev pub text : Format (List ℕ)
text = record { read = λ s at. got_text s (get_text s at); print = print_text }

-- a name
abbrev pub name : Format (List ℕ)
name = record { read = λ s at. got_text s (get_name s at); print = print_text }

-- one after the other
infixr 60 ◌⊗◌
abbrev pub ◌⊗◌ : {A B : Type 0} → Format A → Format B → Format (A × B)
◌⊗◌ f g =
    record {
      read = λ s at. then (f.read s at) (λ a p. then (g.read s p) (λ b q. Ok ((a, b), q)));
      print = λ c. f.print c.0 ++ g.print c.1;
    }

-- the same bytes under another name
abbrev pub named : {A B : Type 0} → (A → B) → (B → A) → Format A → Format B
named to from f = record { read = λ s at. then (f.read s at) (λ a next. Ok (to a, next)); print = λ b. f.print (from b) }

-- n things in a row
unfoldable pub read_times : {A : Type 0} → Format A → ℕ → List ℕ → ℕ → Got (List A)
read_times f zero s at = Ok ([], at)
read_times f (suc n) s at = then (f.read s at) (λ a p. then (read_times f n s p) (λ l q. Ok (a ∷ l, q)))

unfoldable pub print_all : {A : Type 0} → Format A → List A → List ℕ
print_all f [] = []
print_all f (a ∷ l) = f.print a ++ print_all f l

-- a count, and so many things
abbrev pub counted : {A : Type 0} → Format A → Format (List A)
counted f =
    record {
      read = λ s at. then (get_u64 s at) (λ n p. read_times f n s p);
      print = λ l. put_u64 (length l) ++ print_all f l;
    }

-- a number, a field of two bytes, and a list of names
abbrev example : Format (ℕ × (ℕ × List (List ℕ)))
example = varint ⊗ fixed 2 ⊗ counted name

example_printed : example.print (300, (258, (0x68 ∷ 0x69 ∷ []) ∷ [] ∷ [])) ≡ 0xAC ∷ 0x02 ∷ 0x02 ∷ 0x01 ∷ 0x02 ∷ 0x02 ∷ 0x68 ∷ 0x69 ∷ 0x00 ∷ []
unfolding put_u64 put_by put_le print_all
example_printed = refl

example_read : example.read (0xAC ∷ 0x02 ∷ 0x02 ∷ 0x01 ∷ 0x02 ∷ 0x02 ∷ 0x68 ∷ 0x69 ∷ 0x00 ∷ []) 0 ≡ Ok ((300, (258, (0x68 ∷ 0x69 ∷ []) ∷ [] ∷ [])), 9)
unfolding get_u64 read_from get_le le read_times get_name get_text skim_text utf8 scan lead part
example_read = refl

-- the second name has five bytes to come, and only one is there
example_refused : example.read (0xAC ∷ 0x02 ∷ 0x02 ∷ 0x01 ∷ 0x02 ∷ 0x00 ∷ 0x05 ∷ 0x68 ∷ []) 0 ≡ Err (LengthOutOfRange 5 1)
unfolding get_u64 read_from get_le le read_times get_name get_text skim_text utf8 scan lead part
example_refused = refl
