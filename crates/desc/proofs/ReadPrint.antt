-- What is printed is read back: a descriptor that was written is read as the tree that was written, wherever it stands.
use mathlib.Core.Path.{◌≡◌, refl, ◌∙◌, ap, subst}
use mathlib.Core.List.{List, [], ◌++◌, append_assoc, append-nil}
use Prim.Native.Nat.{ℕ, zero, suc, ◌+◌, ◌-◌, ◌^◌, ◌≤◌, ◌<◌}
use native.Mathlib.Nat.{add_assoc}
use native.Mathlib.Omega.{arith}
use lib.Dec.{eqb, lit<}
use lib.ListN.{length, length-append}
use borrow.Author.Tests.{le-ltb}
use Rattle.varint.specs.Choice.{pick}
use Rattle.varint.specs.Got.{Got, then}
use Rattle.varint.specs.Formats.{print_text}
use Rattle.varint.specs.Leb128.{get_u64, put_u64}
use Rattle.varint.specs.RoundTrips.{Reads, TextOk}
use Rattle.varint.specs.Stores.{part}
use Rattle.varint.specs.Texts.{get_name, span}
use Rattle.varint.proofs.FormatBack.{in_a_row, made_of, name_back}
use Rattle.varint.proofs.FormatParts.{text_got, get_name_lem}
use Rattle.varint.proofs.PutLaws.{put_some}
use Rattle.varint.proofs.VarintLaws.{get_put}
use Rattle.desc.specs.declared.head.Head.TheVariants.{Leaf, Branch}
use Rattle.desc.specs.declared.head.Label.{Label}
use Rattle.desc.specs.Printing.{print, print_kids}
use Rattle.desc.specs.Reading.{head_on, head_at, label_at, with_label, children, desc}
use Rattle.desc.specs.Trees.{Tree, leaf, branch, Kids, none, more, kid_count}
use Rattle.desc.specs.WellFormed.{LeafOk, int, string, fact, bytes, BranchOk, record_type, union_type, LabelOk, field, alternative, Fine, FineKids}
use Rattle.std.specs.Prelude.{Ok, Err}

-- a number that stands after another
second : (m n : ℕ) (before rest : List ℕ) → n < 2 ^ 64
    → get_u64 (before ++ (put_u64 m ++ (put_u64 n ++ rest))) (length before + length (put_u64 m))
    ≡ Ok (n, (length before + length (put_u64 m ++ put_u64 n)))
second m n before rest h =
    let e : length before + length (put_u64 m ++ put_u64 n) ≡ length (before ++ put_u64 m) + length (put_u64 n) = simp length-append (omega arith) in
    rw (e, ← append_assoc before (put_u64 m) (put_u64 n ++ rest), ← length-append before (put_u64 m)) (get_put n (before ++ put_u64 m) rest h)

-- the start of a type without parts
head_leaf : {tag p : ℕ} → LeafOk tag p → (before rest : List ℕ)
    → head_at (before ++ (print (leaf tag p) ++ rest)) (length before) ≡ Ok (Leaf tag p, (length before + length (print (leaf tag p))))
unfolding head_at print
head_leaf int before rest = rw (append-nil, get_put 0 before rest (lit< tt))
head_leaf string before rest = rw (append-nil, get_put 1 before rest (lit< tt))
head_leaf bytes before rest = rw (append-nil, get_put 5 before rest (lit< tt))
head_leaf {p = p} (fact h) before rest =
    let small : p < 2 ^ 64 = omega arith in
    let most : p ≤ 0xFFFFFFFF = omega arith in
    rw (append_assoc (put_u64 2) (put_u64 p) rest, get_put 2 before (put_u64 p ++ rest) (lit< tt), second 2 p before rest small, le-ltb 0xFFFFFFFF p most)

-- the start of a type with n parts: there are as many bytes to come
head_branch : {tag : ℕ} (n : ℕ) → BranchOk tag → n < 2 ^ 64 → (before rest : List ℕ) → n ≤ length rest
    → head_at (before ++ ((put_u64 tag ++ put_u64 n) ++ rest)) (length before) ≡ Ok (Branch tag n, (length before + length (put_u64 tag ++ put_u64 n)))
unfolding head_at
head_branch n ok small before rest room = rw append_assoc (go ok)
  where
    fits : (tag : ℕ) → n ≤ length (before ++ (put_u64 tag ++ (put_u64 n ++ rest))) - length before
    fits tag = simp length-append (omega arith)

    go : {tag : ℕ} → BranchOk tag
        → head_on (before ++ (put_u64 tag ++ (put_u64 n ++ rest))) (length before) (get_u64 (before ++ (put_u64 tag ++ (put_u64 n ++ rest))) (length before))
        ≡ Ok (Branch tag n, (length before + length (put_u64 tag ++ put_u64 n)))
    go record_type = rw (get_put 3 before (put_u64 n ++ rest) (lit< tt), second 3 n before rest small, le-ltb _ n (fits 3))
    go union_type = rw (get_put 4 before (put_u64 n ++ rest) (lit< tt), second 4 n before rest small, le-ltb _ n (fits 4))

-- A name and its discriminant

abbrev print_label : ℕ → List ℕ → ℕ → List ℕ
print_label tag x d = print_text x ++ pick (eqb tag 4) (put_u64 d) []

abbrev labelled : ℕ → List ℕ → ℕ → Got (List ℕ × ℕ)
labelled tag s p = with_label (label_at s tag p) (λ start n d q. Ok ((part s start n, d), q))

-- what stands before a part is read back
label_back : {tag d : ℕ} (x : List ℕ) → TextOk x → LabelOk tag d → Reads (labelled tag) (print_label tag x d) (x, d)
unfolding label_at
label_back x ok field before rest =
    let s : List ℕ = before ++ (print_text x ++ rest) in
    let q : ℕ = length before + length (print_text x) in
    let t = text_got s (length before) x q (rw get_name_lem at (name_back.back x ok before rest)) in
    let e : get_name s (length before) ≡ Ok (span t.start t.size, q) = get_name_lem s (length before) ∙ t.is in
    rw (append-nil, e, ← t.bytes)
label_back {d = d} x ok (alternative h) before rest =
    let s : List ℕ = before ++ (print_text x ++ (put_u64 d ++ rest)) in
    let q : ℕ = length before + length (print_text x) in
    let t = text_got s (length before) x q (rw get_name_lem at (name_back.back x ok before (put_u64 d ++ rest))) in
    let e : get_name s (length before) ≡ Ok (span t.start t.size, q) = get_name_lem s (length before) ∙ t.is in
    let small : d < 2 ^ 64 = omega arith in
    let most : d ≤ 0xFFFFFFFF = omega arith in
    let n : get_u64 s q ≡ Ok (d, (q + length (put_u64 d))) =
    rw (← append_assoc before (print_text x) (put_u64 d ++ rest), ← length-append before (print_text x)) (get_put d (before ++ print_text x) rest small) in
    rw (append_assoc (print_text x) (put_u64 d) rest, e, n, le-ltb 0xFFFFFFFF d most, ← t.bytes, length-append (print_text x) (put_u64 d), add_assoc)

-- a part more is a label, a descriptor and the other parts
children_more : (r : ℕ → Got (Tree (List ℕ))) (s : List ℕ) (tag n p : ℕ)
    → children r s tag (suc n) p
    ≡ then (labelled tag s p) (λ c q. then (r q) (λ t e. then (children r s tag n e) (λ ks f. Ok (more c.0 c.1 t ks, f))))
unfolding children
children_more r s tag n p = go (label_at s tag p)
  where
    go : (l : Got Label)
        → with_label l (λ start len d q. then (r q) (λ t e. then (children r s tag n e) (λ ks f. Ok ((more (part s start len) d t ks), f))))
        ≡ then {A = List ℕ × ℕ} (with_label l (λ start len d q. Ok ((part s start len, d), q)))
        (λ c q. then (r q) (λ t e. then (children r s tag n e) (λ ks f. Ok (more c.0 c.1 t ks, f))))
    go (Ok (l, q)) = refl
    go (Err e) = refl

-- The count of the parts is held against all bytes from the tag on: each part takes one at least, so it is never too large.
pub count_small : (tag : ℕ) (ks : Kids (List ℕ)) → kid_count ks ≤ length (print_kids tag ks)
unfolding kid_count print
count_small tag none = omega arith
count_small tag (more x d t ks) =
    let h = count_small tag ks in
    simp length-append (omega (arith, put_some (length x)))

mutual
  unfolding Fine print desc children kid_count

  tree_back : (tr : Tree (List ℕ)) (limit depth : ℕ) → Fine TextOk depth tr → Reads (desc limit depth) (print tr) tr
  tree_back (leaf tag p) limit zero f before rest = absurd f
  tree_back (leaf tag p) limit (suc depth) f before rest = rw (head_leaf f before rest)
  tree_back (branch tag ks) limit zero f before rest = absurd f
  tree_back (branch tag ks) limit (suc depth) f before rest =
      let H : List ℕ = put_u64 tag ++ put_u64 (kid_count ks) in
      let K : List ℕ = print_kids tag ks in
      let room : kid_count ks ≤ length (K ++ rest) = simp length-append (omega (arith, count_small tag ks)) in
      let h = head_branch (kid_count ks) f.0 f.1 before (K ++ rest) room in
      let k = kids_back ks limit depth tag f.2 (before ++ H) rest in
      let e : put_u64 tag ++ (put_u64 (kid_count ks) ++ K) ++ rest ≡ H ++ (K ++ rest) = simp append_assoc in
      rw (e, h, ← length-append before H, ← append_assoc before H (K ++ rest), k) (ap ((λ z0. Ok (branch tag ks, z0))) (simp length-append (omega arith)))

  kids_back : (ks : Kids (List ℕ)) (limit depth tag : ℕ) → FineKids TextOk tag depth ks
      → Reads (λ s. children (desc limit depth s) s tag (kid_count ks)) (print_kids tag ks) ks
  kids_back none limit depth tag f before rest = ap ((λ z0. Ok (none, z0))) (omega arith)
  kids_back (more x d t ks) limit depth tag f before rest =
      let others : List ℕ → ℕ → Got (Kids (List ℕ)) = λ s. children (desc limit depth s) s tag (kid_count ks) in
      let k = made_of others (λ l. more x d t l) (print_kids tag ks) ks (λ b r. kids_back ks limit depth tag f.3 b r) in
      let m =
      in_a_row (desc limit depth) (λ u s e. then (others s e) (λ l g. Ok (more x d u l, g))) (print t) (print_kids tag ks) t (more x d t ks)
      (λ b r. tree_back t limit depth f.2 b r) k in
      let w =
      in_a_row (labelled tag) (λ c s q. then (desc limit depth s q) (λ u e. then (others s e) (λ l g. Ok (more c.0 c.1 u l, g))))
      (print_label tag x d) (print t ++ print_kids tag ks) (x, d) (more x d t ks) (label_back x f.0 f.1) m before rest in
      let e : print_label tag x d ++ (print t ++ print_kids tag ks) ≡ print_kids tag (more x d t ks) =
      append_assoc (print_text x) (pick (eqb tag 4) (put_u64 d) []) (print t ++ print_kids tag ks) in
      subst
      (λ (P : List ℕ). children (desc limit depth (before ++ (P ++ rest))) (before ++ (P ++ rest)) tag (suc (kid_count ks)) (length before) ≡ Ok (more x d t ks, length before + length P))
      e (children_more (desc limit depth _) _ tag (kid_count ks) (length before) ∙ w)

-- reading what was printed gives the tree back
pub read_print : (limit depth : ℕ) (tr : Tree (List ℕ)) → Fine TextOk depth tr → (before rest : List ℕ)
    → desc limit depth (before ++ (print tr ++ rest)) (length before) ≡ Ok (tr, (length before + length (print tr)))
read_print limit depth tr = tree_back tr limit depth
