-- 9 profile: "count over the whole payload's length is 5; steps of label, examined, flag".
use Rattle.varint.specs.Stores.{part}
use Rattle.varint.specs.Utf8.{utf8, scan, lead}
use Rattle.varint.specs.Texts.{skim_text, get_text, get_name}
use Rattle.varint.specs.Leb128.{read_from, get_u64}
use Rattle.std.specs.Prelude.{◌≡◌, refl, Bool, true, false, List, [], ◌∷◌, ℕ, ◌+◌, leb, length, get_or, Ok, Err}
use Rattle.varint.specs.Got.{Got}
use Rattle.varint.specs.Formats.{Format, varint, name, ◌⊗◌, named, read_times}
use Rattle.varint.specs.Gathering.{Held, held, then_held, text_held, name_held}
use Rattle.varint.specs.declared.error.Mismatch.TheVariants as M
use Rattle.varint.specs.declared.error.Refusal.TheVariants.{LengthOutOfRange}
use Rattle.protocol.specs.Fields.{flag, bit, yes, counted_to}
use Rattle.protocol.specs.Laying.{Laid}
use Rattle.protocol.specs.Pieces.{Piece, words, cells, ◌⊕◌, many}
use Rattle.protocol.specs.RowsHeld.{enough, held_times, all_good, numbers_good}
use Rattle.protocol.specs.Wholes.{ended}
use Rattle.protocol.specs.declared.message.Message.TheVariants as Msg

pub record Step : Type 0 where
  pub label : List ℕ
  pub examined : ℕ
  pub full_scan : Bool

abbrev pub to_step : List ℕ × (ℕ × Bool) → Step
to_step c = record { label = c.0; examined = c.1.0; full_scan = c.1.1 }

abbrev pub from_step : Step → List ℕ × (ℕ × Bool)
from_step m = (m.label, (m.examined, m.full_scan))

abbrev pub step : Format Step
step =
    named to_step from_step
    (name
    ⊗ varint
    ⊗ flag M.FullScan)

abbrev pub profile : Format (List Step)
profile = counted_to length LengthOutOfRange step

unfoldable pub read_profile : List ℕ → Got (List Step)
read_profile s = ended s (profile.read s 0)

-- "step (label start, label length, examined, full scan 0 or 1)"
abbrev pub step_width : ℕ
step_width = 4

abbrev pub lay_step : Step → Piece
lay_step m = cells (λ t n. t ∷ length m.label ∷ m.examined ∷ bit m.full_scan ∷ []) ⊕ words m.label

unfoldable pub lay_profile : List Step → Laid
lay_profile l = record { message = Msg.Profile (length l); piece = many lay_step l }

-- and back. "19(4) a flag over 1"
abbrev pub step_numbers : List ℕ → ℕ → Bool
step_numbers rs r = leb (get_or rs (r + 3) 0) 1

unfoldable pub held_step : List ℕ → List ℕ → ℕ → Held Step
held_step tx rs r =
    then_held (name_held tx (get_or rs r 0) (get_or rs (r + 1) 0))
    (λ x. held (record { label = x; examined = get_or rs (r + 2) 0; full_scan = yes (get_or rs (r + 3) 0) }))

unfoldable pub held_profile : ℕ → List ℕ → List ℕ → Held (List Step)
held_profile count tx rs =
    enough step_width count rs (numbers_good (all_good (step_numbers rs) step_width count 0) (held_times (held_step tx rs) step_width count 0))

example_read : read_profile (1 ∷ 1 ∷ 0x61 ∷ 9 ∷ 0 ∷ []) ≡ Ok ((record { label = 0x61 ∷ []; examined = 9; full_scan = false } ∷ []), 5)
unfolding read_profile read_times get_u64 read_from get_name get_text skim_text utf8 scan lead part
example_read = refl

-- three steps are declared, and the whole payload has two bytes
example_count : read_profile (3 ∷ 0 ∷ []) ≡ Err (LengthOutOfRange 3 2)
unfolding read_profile get_u64 read_from
example_count = refl

-- a step's row: where its label starts, how long it is, how many were examined, and 1 for a full scan
example_rows : (lay_profile (record { label = 0x61 ∷ []; examined = 9; full_scan = true } ∷ [])).piece.rows 0 0 ≡ 0 ∷ 1 ∷ 9 ∷ 1 ∷ []
unfolding lay_profile many
example_rows = refl

-- and back
example_held : held_profile 1 (0x61 ∷ []) (0 ∷ 1 ∷ 9 ∷ 1 ∷ []) ≡ held (record { label = 0x61 ∷ []; examined = 9; full_scan = true } ∷ [])
unfolding held_profile all_good held_times held_step name_held text_held utf8 scan lead part
example_held = refl
