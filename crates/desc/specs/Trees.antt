-- "Tags: 0 int, 1 string, 2 fact and a predicate, 3 record, 4 union, 5 bytes". A descriptor as a tree.
use Rattle.std.specs.Prelude.{◌≡◌, refl, List, [], ◌∷◌, ℕ, suc, ◌+◌}

mutual
  -- A type whose names are of type N: texts, or places in a text. One without parts has its tag and, a fact, its predicate; one with
  -- parts its tag and them.
  pub data Tree (N : Type 0) : Type 0 where
    leaf : (tag predicate : ℕ) → Tree N
    branch : (tag : ℕ) → Kids N → Tree N

  -- the fields of a record or the alternatives of a union, each with its name and its discriminant, a field's being 0
  pub data Kids (N : Type 0) : Type 0 where
    none : Kids N
    more : N → (discriminant : ℕ) → Tree N → Kids N → Kids N

-- how many children
unfoldable pub kid_count : {N : Type 0} → Kids N → ℕ
kid_count none = 0
kid_count (more name d t ks) = suc (kid_count ks)

unfoldable mutual
  -- how many nodes
  pub size : {N : Type 0} → Tree N → ℕ
  size (leaf tag p) = 1
  size (branch tag ks) = suc (kid_size ks)

  pub kid_size : {N : Type 0} → Kids N → ℕ
  kid_size none = 0
  kid_size (more name d t ks) = size t + kid_size ks

-- a record of an int `a` and a fact `bc` of predicate 7, for the worked examples
abbrev pub sample : Tree (List ℕ)
sample = branch 3 (more (0x61 ∷ []) 0 (leaf 0 0) (more (0x62 ∷ 0x63 ∷ []) 0 (leaf 2 7) none))

-- a union of bytes `x` with discriminant 9
abbrev pub sample_union : Tree (List ℕ)
sample_union = branch 4 (more (0x78 ∷ []) 9 (leaf 5 0) none)

example_size : size sample ≡ 3
unfolding size
example_size = refl
