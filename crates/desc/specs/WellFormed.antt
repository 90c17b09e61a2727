-- Which trees are descriptors: those that can be written and read back.
use Rattle.std.specs.Prelude.{List, ℕ, zero, suc, ◌^◌, ◌<◌}
use Rattle.std.proofs.Common.{lit<}
use Rattle.varint.specs.Formats.{Format}
use Rattle.desc.specs.Printing.{print}
use Rattle.desc.specs.Reading.{desc}
use Rattle.desc.specs.Trees.{Tree, leaf, branch, Kids, none, more, kid_count}

-- a type without parts, by its tag and predicate: only a fact has one, of 32 bits
pub data LeafOk : ℕ → ℕ → Type 0 where
  int : LeafOk 0 0
  string : LeafOk 1 0
  fact : {p : ℕ} → p < 2 ^ 32 → LeafOk 2 p
  bytes : LeafOk 5 0

-- a type with parts, by its tag
pub data BranchOk : ℕ → Type 0 where
  record_type : BranchOk 3
  union_type : BranchOk 4

-- a part's discriminant, by the tag of the type: only an alternative has one, of 32 bits
pub data LabelOk : ℕ → ℕ → Type 0 where
  field : LabelOk 3 0
  alternative : {d : ℕ} → d < 2 ^ 32 → LabelOk 4 d

-- one of `depth` levels is left for a thing, and P holds of how many are left inside it
abbrev pub Inside : ℕ → (ℕ → Type 0) → Type 0
Inside zero P = ⊥
Inside (suc depth) P = P depth

-- A descriptor of at most `depth` levels, each of whose names is Good. A count of parts is written as a varint, so it is below 2 ^ 64.
unfoldable mutual
  pub Fine : {N : Type 0} → (N → Type 0) → ℕ → Tree N → Type 0
  Fine Good depth (leaf tag p) = Inside depth (λ _. LeafOk tag p)
  Fine Good depth (branch tag ks) = Inside depth (λ d. BranchOk tag × (kid_count ks < 2 ^ 64) × FineKids Good tag d ks)

  -- the parts of a type with this tag
  pub FineKids : {N : Type 0} → (N → Type 0) → ℕ → ℕ → Kids N → Type 0
  FineKids Good tag depth none = Unit
  FineKids Good tag depth (more name d t ks) = Good name × LabelOk tag d × Fine Good depth t × FineKids Good tag depth ks

-- a union of an int and a fact, of two levels
example_fine : Fine {N = ℕ} (λ _. Unit) 2 (branch 4 (more 1 7 (leaf 0 0) (more 2 8 (leaf 2 99) none)))
unfolding Fine kid_count
example_fine = (union_type, lit< tt, (tt, alternative (lit< tt), int, (tt, alternative (lit< tt), fact (lit< tt), tt)))

-- A descriptor as a format, so that a message may hold one.
abbrev pub descriptor : ℕ → Format (Tree (List ℕ))
descriptor limit = record { read = desc limit limit; print = print }
