-- What a message shows, from what it says; and the memory that this needs is what its layout takes.
use mathlib.Core.Path.{◌≡◌, refl, sym, ◌∙◌}
use mathlib.Core.List.{List, [], ◌∷◌, ◌++◌}
use Prim.Native.Nat.{ℕ, ◌+◌, ◌*◌}
use native.Mathlib.Nat.{add-zero, suc-mul}
use native.Mathlib.Omega.{arith}
use lib.ListN.{length, length-append}
use Rattle.desc.specs.Layout.{width, texts, kid_texts}
use Rattle.desc.specs.Trees.{Tree, leaf, branch, Kids, none, more, kid_count, size, kid_size}
use Rattle.protocol.specs.Codes.{mode_byte, error_byte, op_byte}
use Rattle.protocol.specs.Complete.{lay_complete}
use Rattle.protocol.specs.Control.{lay_control}
use Rattle.protocol.specs.Error.{lay_error}
use Rattle.protocol.specs.Fetch.{lay_fetch}
use Rattle.protocol.specs.Fields.{bit, Optional, absent, present}
use Rattle.protocol.specs.Ids.{lay_id, lay_ids}
use Rattle.protocol.specs.Listing.{lay_listing}
use Rattle.protocol.specs.Page.{lay_page}
use Rattle.protocol.specs.Pieces.{Piece, words, ◌⊕◌, many}
use Rattle.protocol.specs.Profile.{Step, lay_step, lay_profile}
use Rattle.protocol.specs.Ready.{lay_ready}
use Rattle.protocol.specs.Reply.{Reply, created, finished, removed, lay_reply}
use Rattle.protocol.specs.Said.{Said, said_startup, said_ready, said_error, said_complete, said_ids, said_types, said_control, said_reply, said_profile, said_page, said_fetch, said_listing, opaque, lay, entry_of}
use Rattle.protocol.specs.Startup.{Claim, lay_claim, lay_startup}
use Rattle.protocol.specs.Types.{Predicate, has_value, lay_value, lay_predicate, lay_types}
use Rattle.protocol.specs.declared.message.ControlOp.TheVariants.{Create, Finish, Remove}
use Rattle.protocol.proofs.RowEnds.{predicate_nodes, predicate_rows}
use Rattle.protocol_laws.specs.Shown.{Entry, number, text, Shown, bare, rowed, digest_shown, lengths, numbers, text_needed, rows_needed, nodes_needed}
use Rattle.protocol.proofs.PieceLaws.{rows_length, many_seven}
use Rattle.std.specs.Prelude.{Some, None, Option}

-- a text with these bytes
abbrev pub text_said : List ℕ → Entry
text_said x = text (length x) x

unfoldable mutual
  -- the nodes of a tree whose root is node n and has this name and discriminant
  pub tree_said : Tree (List ℕ) → ℕ → List ℕ → ℕ → List Entry
  tree_said (leaf tag p) n name d = number tag ∷ text_said name ∷ number d ∷ number p ∷ number 0 ∷ number (n + 1) ∷ []
  tree_said (branch tag ks) n name d =
      (number tag ∷ text_said name ∷ number d ∷ number 0 ∷ number (kid_count ks) ∷ number (n + 1 + kid_size ks) ∷ []) ++ kids_said ks (n + 1)

  -- of children, the first of which is node m
  pub kids_said : Kids (List ℕ) → ℕ → List Entry
  kids_said none m = []
  kids_said (more name d tr ks) m = tree_said tr m name d ++ kids_said ks (m + size tr)

-- Rows, and the nodes of types, where the first node is node n

abbrev pub id_said : ℕ → ℕ → List Entry
id_said i n = number i ∷ []

abbrev pub claim_said : Claim → ℕ → List Entry
claim_said c n = text_said c.name ∷ number c.fingerprint ∷ []

abbrev pub step_said : Step → ℕ → List Entry
step_said m n = text_said m.label ∷ number m.examined ∷ number (bit m.full_scan) ∷ []

abbrev pub predicate_said : Predicate → ℕ → List Entry
predicate_said p n =
    number p.id ∷ text_said p.name ∷ number (bit p.virtual) ∷ number (bit (has_value p.value)) ∷ number n ∷ []

abbrev pub value_said : Optional (Tree (List ℕ)) → ℕ → List Entry
value_said absent n = []
value_said (present v) n = tree_said v n [] 0

abbrev pub type_said : Predicate → ℕ → List Entry
type_said p n = tree_said p.key n [] 0 ++ value_said p.value (n + size p.key)

-- how many nodes
abbrev pub type_size : Predicate → ℕ
type_size p = size p.key + (lay_value p.value).size

unfoldable pub each : {A : Type 0} → (A → ℕ) → (A → ℕ → List Entry) → List A → ℕ → List Entry
each nodes show [] n = []
each nodes show (a ∷ l) n = show a n ++ each nodes show l (n + nodes a)

abbrev pub plainly : {A : Type 0} → (A → ℕ → List Entry) → List A → List Entry
plainly show l = each (λ _. 0) show l 0

abbrev pub reply_said : Reply → List Entry
reply_said (created i) = number (op_byte Create) ∷ text_said i ∷ []
reply_said (finished f) =
    number (op_byte Finish) ∷ number f.fingerprint ∷ number f.facts ∷ number f.bytes ∷ number (bit f.already_complete) ∷ []
reply_said removed = number (op_byte Remove) ∷ []

unfoldable pub shown_said : Said → Shown
shown_said (said_startup m) =
    rowed 1 (number m.version ∷ text_said m.database ∷ number (mode_byte m.mode) ∷ number m.fingerprint ∷ number (length m.claims) ∷ [])
    (plainly claim_said m.claims)
shown_said (said_ready m) = bare 2 (number m.version ∷ number m.fingerprint ∷ number m.predicates ∷ [])
shown_said (said_error m) = bare 3 (number (error_byte m.code) ∷ text_said m.text ∷ [])
shown_said (said_complete m) = bare 4 (number m.first ∷ number m.second ∷ [])
shown_said (said_ids l) = rowed 5 (number (length l) ∷ []) (plainly id_said l)
shown_said (said_types l) =
    record { entry = 6; fields = number (length l) ∷ []; rows = each type_size predicate_said l 0; nodes = each type_size type_said l 0 }
shown_said (said_control m) =
    bare 7 (number (op_byte m.op) ∷ text_said m.database ∷ number (bit m.allow_zero_facts) ∷ text_said m.schema ∷ [])
shown_said (said_reply m) = bare 8 (reply_said m)
shown_said (said_profile l) = rowed 9 (number (length l) ∷ []) (plainly step_said l)
shown_said (said_page m) = bare 10 (number m.limit ∷ text_said m.cursor ∷ text_said m.query ∷ [])
shown_said (said_fetch m) = rowed 11 (digest_shown m.digest ++ (number (length m.ids) ∷ [])) (plainly id_said m.ids)
shown_said (said_listing m) = bare 12 (number m.predicate ∷ number m.digest ∷ [])
shown_said (opaque s) = bare 0 (text_said s ∷ [])

pub said_entry : (m : Said) → (shown_said m).entry ≡ entry_of m
unfolding shown_said entry_of
said_entry (said_startup m) = refl
said_entry (said_ready m) = refl
said_entry (said_error m) = refl
said_entry (said_complete m) = refl
said_entry (said_ids l) = refl
said_entry (said_types l) = refl
said_entry (said_control m) = refl
said_entry (said_reply m) = refl
said_entry (said_profile l) = refl
said_entry (said_page m) = refl
said_entry (said_fetch m) = refl
said_entry (said_listing m) = refl
said_entry (opaque s) = refl

-- The memory that is needed

pub lengths_append : (a b : List Entry) → lengths (a ++ b) ≡ lengths a + lengths b
unfolding lengths
lengths_append [] b = omega arith
lengths_append (number n ∷ a) b = lengths_append a b
lengths_append (text len bytes ∷ a) b = let i = lengths_append a b in omega arith

pub numbers_append : (a b : List Entry) → numbers (a ++ b) ≡ numbers a + numbers b
unfolding numbers
numbers_append [] b = omega arith
numbers_append (number n ∷ a) b = let i = numbers_append a b in omega arith
numbers_append (text len bytes ∷ a) b = let i = numbers_append a b in omega arith

mutual
  unfolding tree_said texts lengths

  tree_lengths : (tr : Tree (List ℕ)) (n : ℕ) (name : List ℕ) (d : ℕ) → lengths (tree_said tr n name d) ≡ length name + length (texts tr)
  tree_lengths (leaf tag p) n name d = refl
  tree_lengths (branch tag ks) n name d = let k = kids_lengths ks (n + 1) in omega arith

  kids_lengths : (ks : Kids (List ℕ)) (m : ℕ) → lengths (kids_said ks m) ≡ length (kid_texts ks)
  kids_lengths none m = refl
  kids_lengths (more name d tr ks) m =
      let t = tree_lengths tr m name d in
      let k = kids_lengths ks (m + size tr) in
      let a = lengths_append (tree_said tr m name d) (kids_said ks (m + size tr)) in
      simp length-append (omega arith)

mutual
  unfolding tree_said size numbers

  tree_numbers : (tr : Tree (List ℕ)) (n : ℕ) (name : List ℕ) (d : ℕ) → numbers (tree_said tr n name d) ≡ size tr * width
  tree_numbers (leaf tag p) n name d = refl
  tree_numbers (branch tag ks) n name d = let k = kids_numbers ks (n + 1) in omega arith

  kids_numbers : (ks : Kids (List ℕ)) (m : ℕ) → numbers (kids_said ks m) ≡ kid_size ks * width
  kids_numbers none m = refl
  kids_numbers (more name d tr ks) m =
      let t = tree_numbers tr m name d in
      let k = kids_numbers ks (m + size tr) in
      let a = numbers_append (tree_said tr m name d) (kids_said ks (m + size tr)) in
      omega arith

-- a sum over rows one after the other
each_sum : {A : Type 0} (f : List Entry → ℕ) → f [] ≡ 0 → ((a b : List Entry) → f (a ++ b) ≡ f a + f b) → (nodes : A → ℕ) (show : A → ℕ → List Entry)
    (w : List A → ℕ) → w [] ≡ 0 → ((a : A) (l : List A) (n : ℕ) → w (a ∷ l) ≡ f (show a n) + w l) → (l : List A) (n : ℕ) → f (each nodes show l n) ≡ w l
unfolding each
each_sum f z f₂ nodes show w w₀ w₁ [] n = z ∙ sym w₀
each_sum f z f₂ nodes show w w₀ w₁ (a ∷ l) n =
    let i = each_sum f z f₂ nodes show w w₀ w₁ l (n + nodes a) in
    let j = w₁ a l n in
    f₂ (show a n) (each nodes show l (n + nodes a)) ∙ omega arith

each_lengths : {A : Type 0} (nodes : A → ℕ) (show : A → ℕ → List Entry) (piece : A → Piece) → ((a : A) (n : ℕ) → lengths (show a n) ≡ length (piece a).text)
    → (l : List A) (n : ℕ) → lengths (each nodes show l n) ≡ length (many piece l).text
unfolding lengths many
each_lengths nodes show piece h =
    each_sum lengths refl lengths_append nodes show (λ l. length (many piece l).text) refl
    (λ a l n. length-append (piece a).text (many piece l).text ∙ rw (h a n) refl)

each_rows : {A : Type 0} (nodes : A → ℕ) (show : A → ℕ → List Entry) (wide : ℕ) → ((a : A) (n : ℕ) → numbers (show a n) ≡ wide)
    → (l : List A) (n : ℕ) → numbers (each nodes show l n) ≡ length l * wide
unfolding numbers
each_rows nodes show wide h =
    each_sum numbers refl numbers_append nodes show (λ l. length l * wide) (omega arith) (λ a l n. rw (h a n, suc-mul) (omega arith))

each_nodes : {A : Type 0} (nodes : A → ℕ) (show : A → ℕ → List Entry) (piece : A → Piece) → ((a : A) (n : ℕ) → numbers (show a n) ≡ (piece a).size * width)
    → (l : List A) (n : ℕ) → numbers (each nodes show l n) ≡ (many piece l).size * width
unfolding numbers many
each_nodes nodes show piece h =
    each_sum numbers refl numbers_append nodes show (λ l. (many piece l).size * width) refl (λ a l n. rw (h a n) (omega arith))

-- a piece that what is shown needs the memory of
abbrev Needs : Shown → Piece → Type 0
Needs s p = (text_needed s ≡ length p.text) × (rows_needed s ≡ length (p.rows 0 0)) × (nodes_needed s ≡ length (p.nodes 0 0))

nodes_none : {A : Type 0} (piece : A → Piece) → ((a : A) (t n : ℕ) → length ((piece a).nodes t n) ≡ 0) → (l : List A) (t n : ℕ)
    → length ((many piece l).nodes t n) ≡ 0
unfolding many
nodes_none piece h [] t n = refl
nodes_none piece h (a ∷ l) t n =
    let i = nodes_none piece h l (t + length (piece a).text) (n + (piece a).size) in
    let j = h a t n in
    simp length-append (omega arith)

-- fields with the text x, and rows without nodes
rows_need : {A : Type 0} (show : A → ℕ → List Entry) (piece : A → Piece) (wide : ℕ) → ((a : A) (n : ℕ) → lengths (show a n) ≡ length (piece a).text)
    → ((a : A) (n : ℕ) → numbers (show a n) ≡ wide) → ((a : A) (t n : ℕ) → length ((piece a).rows t n) ≡ wide)
    → ((a : A) (t n : ℕ) → length ((piece a).nodes t n) ≡ 0)
    → (entry : ℕ) (fields : List Entry) (x : List ℕ) → lengths fields ≡ length x → (l : List A) → Needs (rowed entry fields (plainly show l)) (words x ⊕ many piece l)
unfolding lengths numbers
rows_need show piece wide texts cells cells' nodes₀ entry fields x f l =
    let a = each_lengths (λ _. 0) show piece texts l 0 in
    let b = each_rows (λ _. 0) show wide cells l 0 in
    let c = rows_length piece wide cells' l (0 + length x) 0 in
    let d = nodes_none piece nodes₀ l (0 + length x) 0 in
    (simp length-append (omega arith), b ∙ sym c, sym d)

-- types have texts in rows and in nodes
value_lengths : (v : Optional (Tree (List ℕ))) (n : ℕ) → lengths (value_said v n) ≡ length (lay_value v).text
unfolding lengths
value_lengths absent n = refl
value_lengths (present v) n = tree_lengths v n [] 0 ∙ omega arith

value_numbers : (v : Optional (Tree (List ℕ))) (n : ℕ) → numbers (value_said v n) ≡ (lay_value v).size * width
unfolding numbers
value_numbers absent n = refl
value_numbers (present v) n = tree_numbers v n [] 0

types_lengths : (l : List Predicate) (n : ℕ)
    → lengths (each type_size predicate_said l n) + lengths (each type_size type_said l n) ≡ length (many lay_predicate l).text
unfolding each many lengths
types_lengths [] n = refl
types_lengths (p ∷ l) n =
    let m : ℕ = n + type_size p in
    let a = lengths_append (type_said p n) (each type_size type_said l m) in
    let b = lengths_append (tree_said p.key n [] 0) (value_said p.value (n + size p.key)) in
    let k = tree_lengths p.key n [] 0 in
    let v = value_lengths p.value (n + size p.key) in
    let i = types_lengths l m in
    simp length-append (omega arith)

type_numbers_lem : (p : Predicate) (n : ℕ) → numbers (type_said p n) ≡ (lay_predicate p).size * width
type_numbers_lem p n =
    let k = tree_numbers p.key n [] 0 in
    let v = value_numbers p.value (n + size p.key) in
    numbers_append (tree_said p.key n [] 0) (value_said p.value (n + size p.key)) ∙ omega arith

types_need : (l : List Predicate) → Needs (shown_said (said_types l)) (many lay_predicate l)
unfolding shown_said lengths numbers
types_need l =
    let a = types_lengths l 0 in
    let b = each_rows type_size predicate_said 6 (λ p n. refl) l 0 in
    let c = rows_length lay_predicate 6 predicate_rows l 0 0 in
    let d = each_nodes type_size type_said lay_predicate type_numbers_lem l 0 in
    let e = many_seven lay_predicate predicate_nodes l 0 0 in
    (omega arith, b ∙ sym c, d ∙ sym e)

digest_lengths : (d : Option ℕ) (l : List Entry) → lengths (digest_shown d ++ l) ≡ lengths l
unfolding lengths
digest_lengths None l = refl
digest_lengths (Some d) l = refl

-- what a message shows needs the memory that its layout takes
pub said_needs : (m : Said) → Needs (shown_said m) (lay m).piece
unfolding shown_said lengths numbers lay lay_startup lay_ready lay_error lay_complete lay_ids lay_types lay_control lay_reply lay_profile lay_page lay_fetch lay_listing
said_needs (said_startup m) =
    rows_need claim_said lay_claim 3 (λ c n. omega arith) (λ c n. refl) (λ c t n. refl) (λ c t n. refl) 1 (shown_said (said_startup m)).fields
    m.database (add-zero (length m.database)) m.claims
said_needs (said_ready m) = (refl, refl, refl)
said_needs (said_error m) = (omega arith, refl, refl)
said_needs (said_complete m) = (refl, refl, refl)
said_needs (said_ids l) = rows_need id_said lay_id 1 (λ i n. refl) (λ i n. refl) (λ i t n. refl) (λ i t n. refl) 5 (number (length l) ∷ []) [] refl l
said_needs (said_types l) = types_need l
said_needs (said_control m) = (simp length-append (omega arith), refl, refl)
said_needs (said_reply (created i)) = (omega arith, refl, refl)
said_needs (said_reply (finished f)) = (refl, refl, refl)
said_needs (said_reply removed) = (refl, refl, refl)
said_needs (said_profile l) = rows_need step_said lay_step 4 (λ m n. omega arith) (λ m n. refl) (λ m t n. refl) (λ m t n. refl) 9 (number (length l) ∷ []) [] refl l
said_needs (said_page m) = (simp length-append (omega arith), refl, refl)
said_needs (said_fetch m) =
    rows_need id_said lay_id 1 (λ i n. refl) (λ i n. refl) (λ i t n. refl) (λ i t n. refl) 11 (shown_said (said_fetch m)).fields []
    (digest_lengths m.digest (number (length m.ids) ∷ [])) m.ids
said_needs (said_listing m) = (refl, refl, refl)
said_needs (opaque s) = (omega arith, refl, refl)
