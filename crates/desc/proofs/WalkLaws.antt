-- What a walk answers, one law a return.
use mathlib.Core.Path.{◌≡◌, refl, sym, ◌∙◌}
use mathlib.Core.List.{List}
use Prim.Native.Nat.{ℕ, zero, suc, ◌+◌, ◌-◌, ◌*◌, ◌≤◌}
use native.Mathlib.Omega.{arith}
use native.Mathlib.Nat.{add-zero}
use lib.ListN.{length}
use lib.Seq.{sets}
use Rattle.varint.specs.declared.error.Refusal.{Refusal}
use Rattle.varint.specs.declared.error.Refusal.TheVariants.{TooDeep}
use Rattle.desc.specs.declared.head.Head.TheVariants.{Leaf, Branch}
use Rattle.desc.specs.declared.Walked.{Walked}
use Rattle.desc.specs.Layout.{NameSpan, width, node_of, texts, placed, nodes_of}
use Rattle.desc.specs.Reading.{head_at, children, desc_on, desc}
use Rattle.desc.specs.Trees.{Kids, size}
use Rattle.desc.specs.Inner.Walking.{stored_as, walked_to, outcome, outcome_kids, Agrees}
use Rattle.desc.proofs.HeadLaws.{leaf_inside}
use Rattle.desc.proofs.Outcomes.{close_row, closed_law}
use Rattle.desc.proofs.KidLaws.{kids_many}
use Rattle.desc.proofs.Readings.{walked_of}
use Rattle.varint.proofs.Basics.{never}
use Rattle.varint.specs.Got.{Got}
use Rattle.std.specs.Prelude.{Result, Ok, Err}

pub deeper : (limit depth : ℕ) (s : List ℕ) (at : ℕ) → (depth ≡ 0 → ⊥)
    → desc limit depth s at ≡ desc_on (desc limit (depth - 1) s) s (head_at s at)
unfolding desc
deeper limit zero s at h = absurd (h refl)
deeper limit (suc depth) s at h = let e : suc depth - 1 ≡ depth = omega arith in rw e refl

module _ (limit depth : ℕ) (s : List ℕ) (at : ℕ) (tx : List ℕ) (t : ℕ) (nd : List ℕ) (n : ℕ) (name : NameSpan) (d : ℕ) where
  abbrev Answers : Result Walked Refusal → List ℕ → List ℕ → Type 0
  Answers r tx' nd' = Agrees (outcome (desc limit depth s at) tx t nd n name d) (length s) r tx' nd'

  pub walk_deep : (tx' nd' : List ℕ) → depth ≡ 0 → Answers (Err (TooDeep limit)) tx' nd'
  unfolding Agrees outcome desc
  walk_deep tx' nd' z = rw z refl

  pub walk_bad : (e : Refusal) (tx' nd' : List ℕ) → (depth ≡ 0 → ⊥) → head_at s at ≡ Err e → Answers (Err e) tx' nd'
  unfolding Agrees outcome
  walk_bad e tx' nd' z h = rw (deeper limit depth s at z, h) refl

  pub walk_leaf : (tag p q : ℕ) (nd' : List ℕ) → (depth ≡ 0 → ⊥) → head_at s at ≡ Ok (Leaf tag p, q) → t + n ≤ at
      → nd' ≡ sets nd (n * width) (node_of tag name.0 name.1 d p 0 (n + 1)) → Answers (Ok (walked_to q t (n + 1))) tx nd'
  unfolding Agrees outcome stored_as texts size placed nodes_of
  walk_leaf tag p q nd' z h b e =
      let i = leaf_inside s at tag p q h in
      let i₀ = i.0 in
      rw (deeper limit depth s at z, h, add-zero) (refl, refl, e, omega arith, i.1)

  -- of a type with parts, by what reading these left
  module _ (tag count q : ℕ) (r : Result Walked Refusal) (tx' nd' : List ℕ) (z : depth ≡ 0 → ⊥) (h : head_at s at ≡ Ok (Branch tag count, q))
      (kids : Agrees (outcome_kids (children (desc limit (depth - 1) s) s tag count q) tx t nd (n + 1)) (length s) r tx' nd') where
    pub walk_refused : (e : Refusal) → r ≡ Err e → (tx'' nd'' : List ℕ) → Answers (Err e) tx'' nd''
    unfolding Agrees outcome outcome_kids
    walk_refused e is tx'' nd'' = go (children (desc limit (depth - 1) s) s tag count q) refl kids
      where
        go : (R : Got (Kids (List ℕ))) → children (desc limit (depth - 1) s) s tag count q ≡ R → Agrees (outcome_kids R tx t nd (n + 1)) (length s) r tx' nd'
            → Agrees (outcome (desc limit depth s at) tx t nd n name d) (length s) (Err e) tx'' nd''
        go (Err x) i b = rw (deeper limit depth s at z, h, i) (sym is ∙ b)
        go (Ok (ks, o)) i b = let b₀ = b.0 in never cc

    pub walk_read : (p t' m : ℕ) → r ≡ Ok (walked_to p t' m) → (nd'' : List ℕ) → nd'' ≡ sets nd' (n * width) (node_of tag name.0 name.1 d 0 count m)
        → Answers (Ok (walked_to p t' m)) tx' nd''
    unfolding Agrees outcome_kids close_row
    walk_read p t' m is nd'' e = go (children (desc limit (depth - 1) s) s tag count q) refl kids
      where
        go : (R : Got (Kids (List ℕ))) → children (desc limit (depth - 1) s) s tag count q ≡ R → Agrees (outcome_kids R tx t nd (n + 1)) (length s) r tx' nd'
            → Agrees (outcome (desc limit depth s at) tx t nd n name d) (length s) (Ok (walked_to p t' m)) tx' nd''
        go (Err x) i b = never cc
        go (Ok (ks, o)) i b =
            let w = walked_of (sym b.0 ∙ is) in
            let w₂ = w.2 in
            let c = kids_many (desc limit (depth - 1) s) s tag count q ks o i in
            rw (deeper limit depth s at z, h, i, closed_law tag ks o tx t nd n name d, c) (sym is ∙ b.0, b.1, e ∙ rw (b.2, w₂) refl, b.3, b.4)
