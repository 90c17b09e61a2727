-- Messages with rows, as their readers tell them.
use mathlib.Core.List.{List, [], ◌∷◌}
use mathlib.Core.Path.{◌≡◌, refl, sym, ◌∙◌, ap}
use Prim.Native.Nat.{ℕ, ◌+◌}
use native.Mathlib.Omega.{arith}
use lib.ListN.{length}
use Rattle.std.specs.Prelude.{Result, Ok, Err}
use Rattle.varint.specs.Formats.{varint, read_times}
use Rattle.varint.specs.Runs.{end_of, values_of}
use Rattle.varint.specs.declared.error.Refusal.{Refusal}
use Rattle.varint.proofs.FormatParts.{times_length}
use Rattle.varint.proofs.RunLaws.{got_run, times_run}
use Rattle.protocol.specs.Ids.{lay_id}
use Rattle.protocol.specs.Inner.Loading.{stored, Mem, put, loaded, told, load, past}
use Rattle.protocol.specs.Pieces.{Piece, cells, ◌⊕◌, many}
use Rattle.protocol.specs.Inner.Rows.{Row, row, lay_row}
use Rattle.protocol.specs.declared.message.RowKind.{RowKind}
use Rattle.protocol.proofs.Loads.{unread, went}
use Rattle.protocol.proofs.RowLoads.{put_cells}
use Rattle.protocol.proofs.RowsLaws.{load_rows}

-- the rows that were read, and what they left
pub record Rows (kind : RowKind) (count : ℕ) (s : List ℕ) (at : ℕ) (m : Mem) (next : ℕ) (m' : Mem) : Type 0 where
  pub list : List (Row kind)
  pub is : read_times (row kind m.limit) count s at ≡ Ok (list, next)
  pub counted : count ≡ length list
  pub left : m' ≡ put (many (lay_row kind) list) m

module _ (kind : RowKind) (count : ℕ) (s : List ℕ) (at : ℕ) (m m' : Mem) (x : Result ℕ Refusal) (h : told x m' ≡ load_rows kind count s at m) where
  pub rows_went : {next : ℕ} → x ≡ Ok next → Rows kind count s at m next m'
  rows_went {next} i =
      let w = went (many (lay_row kind)) (read_times (row kind m.limit) count s at) m m' x h i in
      record { list = w.value; is = w.is; counted = sym (times_length (row kind m.limit) count s at w.value next w.is); left = w.left }

  pub no_rows : {e : Refusal} → x ≡ Err e → read_times (row kind m.limit) count s at ≡ Err e
  no_rows = unread past (many (lay_row kind)) (read_times (row kind m.limit) count s at) m m' x h

-- ids have numbers alone: their rows are the ids themselves
ids_piece : (l : List ℕ) → many lay_id l ≡ cells (λ t n. l)
unfolding many
ids_piece [] = refl
ids_piece (i ∷ l) = ap (λ (p : Piece). lay_id i ⊕ p) (ids_piece l)

-- the memory with so many ids from the start of rows on
abbrev with_ids : ℕ → List ℕ → Mem → Mem
with_ids count l m = record { check = m.check; limit = m.limit; text = m.text; t = m.t; rows = stored m.check m.rows 0 l; r = count; nodes = m.nodes; n = m.n }

module _ (count : ℕ) (s : List ℕ) (at : ℕ) (m : Mem) (bare : m.r ≡ 0) where
  ids_put : (next : ℕ) → end_of count s at ≡ Ok next → with_ids count (values_of count s at) m ≡ put (many lay_id (values_of count s at)) m
  ids_put next e =
      let l = values_of count s at in
      let k : length l ≡ count = times_length varint count s at l next (times_run count s at ∙ ap (got_run l) e) in
      let r : count ≡ m.r + length l = omega arith in
      (λ i. record {
        check = m.check;
        limit = m.limit;
        text = m.text;
        t = m.t;
        rows = stored m.check m.rows (sym bare i) l;
        r = r i;
        nodes = m.nodes;
        n = m.n;
      })
      ∙ sym (put_cells (λ t n. l) m)
      ∙ ap (λ (p : Piece). put p m) (sym (ids_piece l))

  pub ids_loaded : (m' : Mem) (x : Result ℕ Refusal) → x ≡ end_of count s at → m' ≡ with_ids count (values_of count s at) m
      → told x m' ≡ load past (many lay_id) (read_times varint count s at) m
  unfolding told load
  ids_loaded m' x h k = rw (h, times_run count s at) (go (end_of count s at) refl)
    where
      go : (y : Result ℕ Refusal) → end_of count s at ≡ y → told y m' ≡ load past (many lay_id) (got_run (values_of count s at) y) m
      go (Ok next) e = ap (loaded next) (k ∙ ids_put next e)
      go (Err e) i = refl
