-- Reading a descriptor at a place: "Record: count, then name and descriptor for each; union: count, then name, discriminant, descriptor.
-- Descriptors nest, the top at depth 1; entering depth 65 is 15, before its tag."
use Rattle.std.specs.Prelude.{◌||◌, ◌≡◌, refl, List, [], ◌∷◌, ℕ, zero, suc, ◌-◌, ltb, eqb, length, Ok, Err}
use Rattle.varint.specs.Choice.{pick}
use Rattle.varint.specs.Got.{Got, then}
use Rattle.varint.specs.Leb128.{read_from, get_u64}
use Rattle.varint.specs.Stores.{part}
use Rattle.varint.specs.Texts.{skim_text, get_text, get_name}
use Rattle.varint.specs.Utf8.{utf8, scan, lead}
use Rattle.varint.specs.declared.error.Refusal.TheVariants.{LengthOutOfRange, UnknownRefForm, UnknownDiscriminant, UnknownPredicate, TooDeep}
use Rattle.desc.specs.declared.head.Head.{Head}
use Rattle.desc.specs.declared.head.Head.TheVariants.{Leaf, Branch}
use Rattle.desc.specs.declared.head.Label.{Label}
use Rattle.desc.specs.Trees.{Tree, leaf, branch, Kids, none, more, sample, sample_union}
use Rattle.varint.specs.declared.text.Span.{Span}

-- "A predicate over 32 bits is 11"
abbrev pub fact_on : Got ℕ → Got Head
fact_on (Ok (n, next)) = pick (ltb 0xFFFFFFFF n) (Err UnknownPredicate) (Ok (Leaf 2 n, next))
fact_on (Err r) = Err r

-- "Count is held against all bytes from the descriptor's own tag on, not those left: 5(count, that length)."
abbrev pub count_on : List ℕ → ℕ → ℕ → Got ℕ → Got Head
count_on s at tag (Ok (n, next)) = pick (ltb (length s - at) n) (Err (LengthOutOfRange n (length s - at))) (Ok (Branch tag n, next))
count_on s at tag (Err r) = Err r

-- "another is 6"
abbrev pub head_on : List ℕ → ℕ → Got ℕ → Got Head
head_on s at (Ok (tag, next)) =
    pick (eqb tag 2)
    (fact_on (get_u64 s next))
    (pick (eqb tag 3 || eqb tag 4) (count_on s at tag (get_u64 s next)) (pick (ltb 5 tag) (Err (UnknownRefForm tag)) (Ok (Leaf tag 0, next))))
head_on s at (Err r) = Err r

-- the start of the descriptor at place `at` of s
unfoldable pub head_at : List ℕ → ℕ → Got Head
head_at s at = head_on s at (get_u64 s at)

-- a child's name and its discriminant
abbrev pub named_label : Span → ℕ → Label
named_label name d = record { name = name; discriminant = d }

-- "a discriminant 7"
abbrev pub discriminant_on : Span → Got ℕ → Got Label
discriminant_on name (Ok (d, next)) = pick (ltb 0xFFFFFFFF d) (Err (UnknownDiscriminant d)) (Ok (named_label name d, next))
discriminant_on name (Err r) = Err r

abbrev pub label_on : List ℕ → ℕ → Got Span → Got Label
label_on s tag (Ok (name, next)) = pick (eqb tag 4) (discriminant_on name (get_u64 s next)) (Ok (named_label name 0, next))
label_on s tag (Err r) = Err r

-- what stands before a child of a type with this tag
unfoldable pub label_at : List ℕ → ℕ → ℕ → Got Label
label_at s tag p = label_on s tag (get_name s p)

abbrev pub with_label : {A : Type 0} → Got Label → (ℕ → ℕ → ℕ → ℕ → Got A) → Got A
with_label (Ok (l, next)) k = k l.name.start l.name.len l.discriminant next
with_label (Err r) k = Err r

-- n children from place p on, where `r` reads a descriptor at a place
unfoldable pub children : (ℕ → Got (Tree (List ℕ))) → List ℕ → ℕ → ℕ → ℕ → Got (Kids (List ℕ))
children r s tag zero p = Ok (none, p)
children r s tag (suc n) p =
    with_label (label_at s tag p)
    (λ start len d q. then (r q) (λ t e. then (children r s tag n e) (λ ks f. Ok (more (part s start len) d t ks, f))))

abbrev pub desc_on : (ℕ → Got (Tree (List ℕ))) → List ℕ → Got Head → Got (Tree (List ℕ))
desc_on r s (Ok (Leaf tag p, next)) = Ok (leaf tag p, next)
desc_on r s (Ok (Branch tag n, next)) = then (children r s tag n next) (λ ks e. Ok (branch tag ks, e))
desc_on r s (Err e) = Err e

-- The descriptor at place `at` of s, where `depth` more levels may nest of `limit` in all.
unfoldable pub desc : ℕ → ℕ → List ℕ → ℕ → Got (Tree (List ℕ))
desc limit zero s at = Err (TooDeep limit)
desc limit (suc depth) s at = desc_on (desc limit depth s) s (head_at s at)

example_record : desc 64 64 (0x03 ∷ 0x02 ∷ 0x01 ∷ 0x61 ∷ 0x00 ∷ 0x02 ∷ 0x62 ∷ 0x63 ∷ 0x02 ∷ 0x07 ∷ 0xFF ∷ []) 0 ≡ Ok (sample, 10)
unfolding desc children head_at label_at get_u64 read_from get_name get_text skim_text utf8 scan lead part
example_record = refl

example_union : desc 64 64 (0x04 ∷ 0x01 ∷ 0x01 ∷ 0x78 ∷ 0x09 ∷ 0x05 ∷ []) 0 ≡ Ok (sample_union, 6)
unfolding desc children head_at label_at get_u64 read_from get_name get_text skim_text utf8 scan lead part
example_union = refl

-- a record in a record where one level may nest: refused before the inner tag is read
example_deep : desc 1 1 (0x03 ∷ 0x01 ∷ 0x00 ∷ []) 0 ≡ Err (TooDeep 1)
unfolding desc children head_at label_at get_u64 read_from get_name get_text skim_text utf8 scan lead part
example_deep = refl

-- a predicate of 33 bits
example_wide : desc 64 64 (0x02 ∷ 0x80 ∷ 0x80 ∷ 0x80 ∷ 0x80 ∷ 0x10 ∷ []) 0 ≡ Err UnknownPredicate
unfolding desc head_at get_u64 read_from
example_wide = refl
