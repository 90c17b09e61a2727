-- 11 fetch: "flag, digest if 1, count (over 4,096 is 12), pairs of predicate and sequence: both are read, then a predicate over 32 bits is
-- 11, then 8". "a pair is good exactly if predicate < 2^24 and sequence < 2^40, raw = predicate × 2^40 + sequence; else 8 with (predicate × 2^40
-- mod 2^64) OR sequence."
use Rattle.std.specs.Prelude.{Bool, ◌&&◌, ◌≡◌, refl, List, [], ◌∷◌, ℕ, ◌+◌, ◌*◌, ◌/◌, ◌%◌, ltb, eqb, length, replicate, Ok, Err, Some, None, Option}
use Rattle.std.specs.Int.Bits.{bit_or}
use Rattle.varint.specs.Choice.{pick}
use Rattle.varint.specs.Got.{Got, then}
use Rattle.varint.specs.Formats.{Format, varint, ◌⊗◌, named}
use Rattle.varint.specs.Gathering.{Held, lacks, then_held, held}
use Rattle.varint.specs.Leb128.{read_from, get_u64, put_u64}
use Rattle.varint.specs.declared.error.Refusal.{Refusal}
use Rattle.varint.specs.declared.error.Refusal.TheVariants.{UnexpectedEof, UnknownPredicate, BadFactId, BlockTooLarge, BadDigestFlag}
use Rattle.protocol.specs.Fields.{provided, narrow, byte, counted_to}
use Rattle.protocol.specs.Ids.{id_width, lay_id, held_id}
use Rattle.protocol.specs.Laying.{Laid}
use Rattle.protocol.specs.Pieces.{many}
use Rattle.protocol.specs.RowsHeld.{enough, held_times}
use Rattle.protocol.specs.Wholes.{ended}
use Rattle.protocol.specs.declared.message.Message.TheVariants as Msg

abbrev pub max_fetch : ℕ
max_fetch = 4096

pub record Fetch : Type 0 where
  pub digest : Option ℕ
  pub ids : List ℕ

abbrev pub to_fetch : Option ℕ × List ℕ → Fetch
to_fetch c = record { digest = c.0; ids = c.1 }

abbrev pub from_fetch : Fetch → Option ℕ × List ℕ
from_fetch m = (m.digest, m.ids)

-- "digest if 1"; "a missing fetch flag is 1", and one that is neither 0 nor 1 is "13 BadDigestFlag(n)"
abbrev pub digest_on : ℕ → List ℕ → ℕ → Got (Option ℕ)
digest_on b s at = pick (eqb b 0) (Ok (None, at)) (pick (eqb b 1) (then (varint.read s at) (λ d q. Ok (Some d, q))) (Err (BadDigestFlag b)))

abbrev pub print_digest : Option ℕ → List ℕ
print_digest None = 0 ∷ []
print_digest (Some d) = 1 ∷ put_u64 d

abbrev pub digest : Format (Option ℕ)
digest = record { read = λ s at. then ((byte UnexpectedEof).read s at) (λ b q. digest_on b s q); print = print_digest }

-- a fact's id and its two halves
abbrev pub join_id : ℕ × ℕ → ℕ
join_id c = c.0 * 1099511627776 + c.1

abbrev pub split_id : ℕ → ℕ × ℕ
split_id i = (i / 1099511627776, i % 1099511627776)

abbrev pub fact_id : ℕ × ℕ → Bool
fact_id c = ltb c.0 16777216 && ltb c.1 1099511627776

abbrev pub bad_fact : ℕ × ℕ → Refusal
bad_fact c = BadFactId (bit_or (c.0 * 1099511627776 % 18446744073709551616) c.1)

abbrev pub pair : Format ℕ
pair = named join_id split_id (provided fact_id bad_fact (provided (λ c. narrow c.0) (λ _. UnknownPredicate) (varint ⊗ varint)))

abbrev pub fetch : Format Fetch
fetch =
    named to_fetch from_fetch
    (digest
    ⊗ counted_to (λ _. max_fetch) BlockTooLarge pair)

unfoldable pub read_fetch : List ℕ → Got Fetch
read_fetch s = ended s (fetch.read s 0)

unfoldable pub lay_fetch : Fetch → Laid
lay_fetch m = record { message = Msg.Fetch m.digest (length m.ids); piece = many lay_id m.ids }

-- "12(count, 4096) for a fetch of over 4,096 ids"
unfoldable pub held_fetch : Option ℕ → ℕ → List ℕ → Held Fetch
held_fetch digest count rs =
    enough id_width count rs
    (pick (ltb max_fetch count)
    (lacks (BlockTooLarge count max_fetch))
    (then_held (held_times (held_id rs) id_width count 0) (λ l. held (record { digest = digest; ids = l }))))

-- predicate 2^24 is too great by one, and its sequence 5 is told with it
example_bad : pair.read (0x80 ∷ 0x80 ∷ 0x80 ∷ 0x08 ∷ 0x05 ∷ []) 0 ≡ Err (BadFactId 5)
unfolding get_u64 read_from
example_bad = refl

example_pair : pair.read (0x02 ∷ 0x05 ∷ []) 0 ≡ Ok (2199023255557, 2)
unfolding get_u64 read_from
example_pair = refl

-- each id is a row of one number
example_rows : (lay_fetch (record { digest = None; ids = 5 ∷ 6 ∷ [] })).piece.rows 0 0 ≡ 5 ∷ 6 ∷ []
unfolding lay_fetch many
example_rows = refl

-- two ids of the three in rows
example_held : held_fetch (Some 7) 2 (5 ∷ 6 ∷ 9 ∷ []) ≡ held (record { digest = Some 7; ids = 5 ∷ 6 ∷ [] })
unfolding held_fetch held_times
example_held = refl

-- the rows are there, and they are one too many
example_many : held_fetch None 4097 (replicate 4097 0) ≡ lacks (BlockTooLarge 4097 4096)
unfolding held_fetch
example_many = refl
