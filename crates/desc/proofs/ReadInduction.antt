-- What holds of every descriptor that is read: it is shown for each form of one, as its parts are read.
use mathlib.Core.Path.{◌≡◌, refl}
use mathlib.Core.List.{List}
use Prim.Native.Nat.{ℕ, zero, suc}
use Rattle.varint.specs.Got.{then, Got}
use Rattle.varint.specs.Stores.{part}
use Rattle.desc.specs.declared.head.Head.{Head}
use Rattle.desc.specs.declared.head.Head.TheVariants.{Leaf, Branch}
use Rattle.desc.specs.declared.head.Label.{Label}
use Rattle.desc.specs.Reading.{head_at, label_at, with_label, children, desc_on, desc, named_label}
use Rattle.desc.specs.Trees.{Tree, leaf, branch, Kids, none, more}
use Rattle.desc.proofs.GotAs.{GotAs, then_got}
use Rattle.std.specs.Prelude.{Ok, Err}
use Rattle.varint.specs.Texts.{span}

module _ (limit : ℕ) (s : List ℕ) where
  -- P is to hold of a tree that is read at a place with so many levels left, Q of n parts of a type with a tag
  pub record Steps (P : ℕ → ℕ → Tree (List ℕ) → ℕ → Type 0) (Q : ℕ → ℕ → ℕ → ℕ → Kids (List ℕ) → ℕ → Type 0) : Type 0 where
    pub on_leaf : (depth at tag p next : ℕ) → head_at s at ≡ Ok (Leaf tag p, next) → P (suc depth) at (leaf tag p) next
    pub on_branch : (depth at tag n next : ℕ) (ks : Kids (List ℕ)) (e : ℕ) → head_at s at ≡ Ok (Branch tag n, next) → Q depth tag n next ks e
        → P (suc depth) at (branch tag ks) e
    pub on_none : (depth tag p : ℕ) → Q depth tag 0 p none p
    pub on_more : (depth tag n p start len d q : ℕ) (t : Tree (List ℕ)) (e : ℕ) (ks : Kids (List ℕ)) (f : ℕ)
        → label_at s tag p ≡ Ok (named_label (span start len) d, q) → P depth q t e → Q depth tag n e ks f → Q depth tag (suc n) p (more (part s start len) d t ks) f

  module _ (P : ℕ → ℕ → Tree (List ℕ) → ℕ → Type 0) (Q : ℕ → ℕ → ℕ → ℕ → Kids (List ℕ) → ℕ → Type 0) (c : Steps P Q) where
    children_as : (depth tag : ℕ) → ((p : ℕ) → GotAs (P depth p) (desc limit depth s p))
        → (n p : ℕ) → GotAs (Q depth tag n p) (children (desc limit depth s) s tag n p)
    unfolding children
    children_as depth tag h zero p = c.on_none depth tag p
    children_as depth tag h (suc n) p = go (children_as depth tag h n) (label_at s tag p) refl
      where
        go : ((e : ℕ) → GotAs (Q depth tag n e) (children (desc limit depth s) s tag n e)) → (l : Got Label) → label_at s tag p ≡ l
            → GotAs (Q depth tag (suc n) p)
            (with_label l
            (λ start len d q.
            then (desc limit depth s q)
            (λ t e. then (children (desc limit depth s) s tag n e) (λ ks f. Ok ((more (part s start len) d t ks), f)))))
        go o (Err e) i = tt
        go o (Ok (l, q)) i =
            then_got (P depth q) (Q depth tag (suc n) p) (desc limit depth s q) _ (h q)
            (λ t e a.
            then_got (Q depth tag n e) (Q depth tag (suc n) p) (children (desc limit depth s) s tag n e) _ (o e)
            (λ ks f b. c.on_more depth tag n p l.name.start l.name.len l.discriminant q t e ks f i a b))

    -- so P holds of whatever is read
    pub desc_as : (depth at : ℕ) → GotAs (P depth at) (desc limit depth s at)
    unfolding desc
    desc_as zero at = tt
    desc_as (suc depth) at = go (desc_as depth) (head_at s at) refl
      where
        go : ((p : ℕ) → GotAs (P depth p) (desc limit depth s p)) → (x : Got Head) → head_at s at ≡ x
            → GotAs (P (suc depth) at) (desc_on (desc limit depth s) s x)
        go h (Err e) i = tt
        go h (Ok (Leaf tag p, next)) i = c.on_leaf depth at tag p next i
        go h (Ok (Branch tag n, next)) i =
            then_got (Q depth tag n next) (P (suc depth) at) (children (desc limit depth s) s tag n next) _ (children_as depth tag h n next)
            (λ ks e a. c.on_branch depth at tag n next ks e i a)
