-- The fields that messages are made of, as formats.
use Rattle.std.specs.Prelude.{Bool, true, false, not, ◌≡◌, refl, List, [], ◌∷◌, ◌++◌, ℕ, ◌+◌, ◌-◌, ltb, leb, eqb, length, drop, get_or, Ok, Err, Result}
use Rattle.varint.specs.Choice.{pick}
use Rattle.varint.specs.Fixed.{put_le}
use Rattle.varint.specs.Got.{Got, then}
use Rattle.varint.specs.Formats.{Format, varint, fixed, named, read_times, print_all}
use Rattle.varint.specs.Leb128.{read_from, get_u64, put_u64}
use Rattle.varint.specs.Stores.{part}
use Rattle.varint.specs.Utf8.{utf8}
use Rattle.varint.specs.declared.error.Mismatch.{Mismatch}
use Rattle.varint.specs.declared.error.Mismatch.TheVariants as M
use Rattle.varint.specs.declared.error.Refusal.{Refusal}
use Rattle.varint.specs.declared.error.Refusal.TheVariants.{UnexpectedEof, BadString, TypeMismatch, LengthOutOfRange}
use Rattle.protocol.specs.Codes.{mode_of, mode_byte, error_of, error_byte, op_of, op_byte}
use Rattle.protocol.specs.declared.message.Mode.{Mode}
use Rattle.protocol.specs.declared.message.ErrorCode.{ErrorCode}
use Rattle.protocol.specs.declared.message.ControlOp.{ControlOp}

-- what was read is refused where it is not good
abbrev pub provided : {A : Type 0} → (A → Bool) → (A → Refusal) → Format A → Format A
provided good why f = record { read = λ s at. then (f.read s at) (λ a q. pick (good a) (Ok (a, q)) (Err (why a))); print = f.print }

abbrev pub narrow : ℕ → Bool
narrow n = leb n 0xFFFFFFFF

-- a byte, with what its absence is refused by
abbrev pub byte : Refusal → Format ℕ
byte missing = record { read = λ s at. pick (ltb at (length s)) (Ok (get_or s at 0, at + 1)) (Err missing); print = λ b. b ∷ [] }

-- what was made of a byte, with the place after it
abbrev pub made_at : {A : Type 0} → Result A Refusal → ℕ → Got A
made_at (Ok a) q = Ok (a, q)
made_at (Err e) q = Err e

-- "A missing or unknown mode, code or op byte is 9"
abbrev pub mode : Format Mode
mode = record { read = λ s at. then ((byte (TypeMismatch M.Mode)).read s at) (λ b q. made_at (mode_of b) q); print = λ m. mode_byte m ∷ [] }

abbrev pub error_code : Format ErrorCode
error_code =
    record { read = λ s at. then ((byte (TypeMismatch M.ErrorCode)).read s at) (λ b q. made_at (error_of b) q); print = λ e. error_byte e ∷ [] }

abbrev pub control_op : Format ControlOp
control_op = record { read = λ s at. then ((byte (TypeMismatch M.ControlOp)).read s at) (λ b q. made_at (op_of b) q); print = λ o. op_byte o ∷ [] }

-- "virtual 0 or 1", "full scan 0 or 1": a flag as a number
abbrev pub bit : Bool → ℕ
bit true = 1
bit false = 0

abbrev pub yes : ℕ → Bool
yes n = not (eqb n 0)

-- "a missing flag byte too"; "Flag bytes of 7, 8, 9: nonzero is yes."
abbrev pub flag : Mismatch → Format Bool
flag why = named yes bit (byte (TypeMismatch why))

-- a flag as a varint: "nonzero means yes"
abbrev pub wide_flag : Format Bool
wide_flag = named yes bit varint

-- what may be there
pub data Optional (A : Type 0) : Type 0 where
  absent : Optional A
  present : A → Optional A

-- "has value, value"
abbrev pub optional_on : {A : Type 0} → Format A → Bool → List ℕ → ℕ → Got (Optional A)
optional_on f true s at = then (f.read s at) (λ a q. Ok (present a, q))
optional_on f false s at = Ok (absent, at)

abbrev pub print_optional : {A : Type 0} → Format A → Optional A → List ℕ
print_optional f absent = put_u64 0
print_optional f (present a) = put_u64 1 ++ f.print a

abbrev pub optional : {A : Type 0} → Format A → Format (Optional A)
optional f = record { read = λ s at. then (wide_flag.read s at) (λ b q. optional_on f b s q); print = print_optional f }

-- a count that may not be over a limit, and so many things
abbrev pub counted_to : {A : Type 0} → (List ℕ → ℕ) → (ℕ → ℕ → Refusal) → Format A → Format (List A)
counted_to limit why f =
    record {
      read = λ s at. then (varint.read s at) (λ n p. pick (ltb (limit s) n) (Err (why n (limit s))) (read_times f n s p));
      print = λ l. put_u64 (length l) ++ print_all f l;
    }

-- bytes of any kind behind their length in 4 bytes: "short is 1"
abbrev pub raw : Format (List ℕ)
raw =
    record {
      read = λ s at. then ((fixed 4).read s at) (λ n p. pick (ltb (length s - p) n) (Err UnexpectedEof) (Ok (part s p n, p + n)));
      print = λ x. put_le 4 (length x) ++ x;
    }

-- a text that goes to the end of the bytes
abbrev pub to_end : Format (List ℕ)
to_end = record { read = λ s at. pick (utf8 (drop at s)) (Ok (drop at s, length s)) (Err BadString); print = λ x. x }

-- 7 is yes, and written as 1
example_flag : (flag M.ControlFlag).read (7 ∷ []) 0 ≡ Ok (true, 1)
example_flag = refl

example_missing : (flag M.ControlFlag).read [] 0 ≡ Err (TypeMismatch M.ControlFlag)
example_missing = refl

example_count : (counted_to length LengthOutOfRange varint).read (3 ∷ 0 ∷ []) 0 ≡ Err (LengthOutOfRange 3 2)
unfolding get_u64 read_from
example_count = refl
