-- Writing a descriptor: the bytes of a tree.
use Rattle.std.specs.Prelude.{◌≡◌, refl, List, [], ◌∷◌, ◌++◌, ℕ, eqb}
use Rattle.varint.specs.Choice.{pick}
use Rattle.varint.specs.Formats.{print_text}
use Rattle.varint.specs.Leb128.{put_by, put_u64}
use Rattle.desc.specs.Trees.{Tree, leaf, branch, Kids, none, more, kid_count, sample, sample_union}

unfoldable mutual
  pub print : Tree (List ℕ) → List ℕ
  print (leaf tag p) = put_u64 tag ++ pick (eqb tag 2) (put_u64 p) []
  print (branch tag ks) = put_u64 tag ++ (put_u64 (kid_count ks) ++ print_kids tag ks)

  -- the children of a type with this tag
  pub print_kids : ℕ → Kids (List ℕ) → List ℕ
  print_kids tag none = []
  print_kids tag (more name d t ks) = print_text name ++ (pick (eqb tag 4) (put_u64 d) [] ++ (print t ++ print_kids tag ks))

example_record : print sample ≡ 0x03 ∷ 0x02 ∷ 0x01 ∷ 0x61 ∷ 0x00 ∷ 0x02 ∷ 0x62 ∷ 0x63 ∷ 0x02 ∷ 0x07 ∷ []
unfolding print kid_count put_u64 put_by
example_record = refl

example_union : print sample_union ≡ 0x04 ∷ 0x01 ∷ 0x01 ∷ 0x78 ∷ 0x09 ∷ 0x05 ∷ []
unfolding print kid_count put_u64 put_by
example_union = refl
