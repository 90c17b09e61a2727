-- Rows of every kind, one after the other.
use mathlib.Core.Path.{◌≡◌, refl, ap, ◌∙◌}
use mathlib.Core.List.{List, ◌∷◌}
use Prim.Native.Nat.{ℕ, suc, ◌+◌, ◌*◌, ◌≤◌, ◌<◌}
use native.Mathlib.Omega.{arith}
use lib.ListN.{length}
use Rattle.varint.specs.Got.{Got, then}
use Rattle.varint.specs.Formats.{Format, read_times}
use Rattle.varint.specs.declared.error.Refusal.{Refusal}
use Rattle.varint.proofs.FormatEnds.{Ends, varint_ends}
use Rattle.protocol.specs.Ids.{lay_id}
use Rattle.protocol.specs.Inner.Loading.{Mem, put, Loaded, loaded, failed, load, past}
use Rattle.protocol.specs.Pieces.{Piece, many}
use Rattle.protocol.specs.Profile.{lay_step}
use Rattle.protocol.specs.Rows.{width_of}
use Rattle.protocol.specs.Inner.Rows.{Row, row, lay_row}
use Rattle.protocol.specs.Startup.{lay_claim}
use Rattle.protocol.specs.Types.{lay_predicate}
use Rattle.protocol.specs.declared.message.RowKind.{RowKind}
use Rattle.protocol.specs.declared.message.RowKind.TheVariants as K
use Rattle.protocol.proofs.PieceLaws.{Seven, put_none, put_join}
use Rattle.protocol.proofs.RowEnds.{weight, claim_ends, step_ends, fact_ends, predicate_ends, predicate_nodes, predicate_rows}
use Rattle.std.specs.Prelude.{Ok, Err}
use Rattle.varint.proofs.Basics.{never}

-- a row at place `at`, and `count` of them
abbrev pub load_row : RowKind → List ℕ → ℕ → Mem → Loaded ℕ
load_row kind s at m = load past (lay_row kind) ((row kind m.limit).read s at) m

abbrev pub load_rows : RowKind → ℕ → List ℕ → ℕ → Mem → Loaded ℕ
load_rows kind count s at m = load past (many (lay_row kind)) (read_times (row kind m.limit) count s at) m

module _ {A : Type 0} (f : Format A) (piece : A → Piece) (s : List ℕ) where
  some : (n at : ℕ) (m m' : Mem) (q : ℕ) → ((a : A) → Seven (piece a)) → (x : Got A) → f.read s at ≡ x → load past piece x m ≡ loaded q m'
      → load past (many piece) (read_times f (suc n) s at) m ≡ load past (many piece) (read_times f n s q) m'
  unfolding load read_times many
  some n at m m' q seven (Err e) i h = never cc
  some n at m m' q seven (Ok (a, o)) i h =
      let k : o ≡ q = cc in
      let l : put (piece a) m ≡ m' = cc in
      rw (i, k, ← l) (go (read_times f n s q))
    where
      go : (y : Got (List A)) → load past (many piece) (then y (λ b e. Ok (a ∷ b, e))) m ≡ load past (many piece) y (put (piece a) m)
      go (Err e) = refl
      go (Ok (b, e)) = ap (loaded e) (put_join (piece a) (many piece b) m (seven a))

  none_left : (at : ℕ) (m : Mem) → load past (many piece) (read_times f 0 s at) m ≡ loaded at m
  unfolding load read_times many
  none_left at m = ap (loaded at) (put_none m)

  no_more : (n at : ℕ) (m : Mem) (e : Refusal) (x : Got A) → f.read s at ≡ x → load past piece x m ≡ failed e
      → load past (many piece) (read_times f (suc n) s at) m ≡ failed e
  unfolding load read_times
  no_more n at m e (Ok (a, o)) i h = never cc
  no_more n at m e (Err x) i h = rw i h

-- each kind of row
pub row_seven : (kind : RowKind) (a : Row kind) → Seven (lay_row kind a)
row_seven K.Claim a t n = refl
row_seven K.Id a t n = refl
row_seven K.Predicate a t n = predicate_nodes a t n
row_seven K.Step a t n = refl
row_seven K.Pair a t n = refl

-- what was read leaves the depth as it is
stays : {A : Type 0} (piece : A → Piece) (g : Got A) (m m' : Mem) (q : ℕ) → load past piece g m ≡ loaded q m' → m.limit ≡ m'.limit
unfolding load
stays piece (Ok (a, o)) m m' q h =
    let k : put (piece a) m ≡ m' = cc in
    ap (λ (y : Mem). y.limit) k
stays piece (Err e) m m' q h = never cc

module _ (kind : RowKind) where
  pub rows_more : (n : ℕ) (s : List ℕ) (at q : ℕ) (m m' : Mem) → load_row kind s at m ≡ loaded q m'
      → load_rows kind (suc n) s at m ≡ load_rows kind n s q m'
  rows_more n s at q m m' h =
      some (row kind m.limit) (lay_row kind) s n at m m' q (row_seven kind) _ refl h
      ∙ ap (λ (l : ℕ). load past (many (lay_row kind)) (read_times (row kind l) n s q) m') (stays (lay_row kind) _ m m' q h)

  pub rows_none : (s : List ℕ) (at : ℕ) (m : Mem) → load_rows kind 0 s at m ≡ loaded at m
  rows_none s at m = none_left (row kind m.limit) (lay_row kind) s at m

  pub rows_failed : (n : ℕ) (s : List ℕ) (at : ℕ) (m : Mem) (e : Refusal) → load_row kind s at m ≡ failed e
      → load_rows kind (suc n) s at m ≡ failed e
  rows_failed n s at m e h = no_more (row kind m.limit) (lay_row kind) s n at m e _ refl h

-- what a row takes of the bytes, and of memory
pub record Took (s : List ℕ) (at q w : ℕ) (m m' : Mem) : Type 0 where
  pub on : at < q
  pub inside : q ≤ length s
  pub texts : at + (m'.t + m'.n) ≤ q + (m.t + m.n)
  pub numbers : w + 2 * at ≤ 2 * q
  pub rows : m'.r ≡ m.r + w

took : {A : Type 0} {f : Format A} {k : ℕ} (piece : A → Piece) (w : ℕ) → Ends f (λ a. weight (piece a)) k → 0 < k → w ≤ 2 * k
    → ((a : A) (t n : ℕ) → length ((piece a).rows t n) ≡ w)
    → (s : List ℕ) (at q : ℕ) (m m' : Mem) → at ≤ length s → (x : Got A) → f.read s at ≡ x → load past piece x m ≡ loaded q m' → Took s at q w m m'
unfolding load
took piece w F z l wide s at q m m' h (Err e) i g = never cc
took piece w F z l wide s at q m m' h (Ok (a, o)) i g =
    let b = F.ends s at a o h i in
    let b₀ = b.0 in
    let b₁ = b.1 in
    let p : o ≡ q = cc in
    let y : put (piece a) m ≡ m' = cc in
    let t : m.t + length (piece a).text ≡ m'.t = ap (λ (u : Mem). u.t) y in
    let n : m.n + (piece a).size ≡ m'.n = ap (λ (u : Mem). u.n) y in
    let r : m.r + length ((piece a).rows m.t m.n) ≡ m'.r = ap (λ (u : Mem). u.r) y in
    let e = wide a m.t m.n in
    record { on = omega arith; inside = omega arith; texts = omega arith; numbers = omega arith; rows = omega arith }

pub row_took : (kind : RowKind) (s : List ℕ) (at q : ℕ) (m m' : Mem) → at ≤ length s → load_row kind s at m ≡ loaded q m'
    → Took s at q (width_of kind) m m'
row_took K.Claim s at q m m' h g = took lay_claim 3 claim_ends (omega arith) (omega arith) (λ a t n. refl) s at q m m' h _ refl g
row_took K.Id s at q m m' h g = took lay_id 1 varint_ends (omega arith) (omega arith) (λ a t n. refl) s at q m m' h _ refl g
row_took K.Predicate s at q m m' h g = took lay_predicate 6 (predicate_ends m.limit) (omega arith) (omega arith) predicate_rows s at q m m' h _ refl g
row_took K.Step s at q m m' h g = took lay_step 4 step_ends (omega arith) (omega arith) (λ a t n. refl) s at q m m' h _ refl g
row_took K.Pair s at q m m' h g = took lay_id 1 fact_ends (omega arith) (omega arith) (λ a t n. refl) s at q m m' h _ refl g
