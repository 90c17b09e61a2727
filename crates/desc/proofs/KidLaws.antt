-- One child more: its label, its own descriptor, and the children after it.
use mathlib.Core.Path.{◌≡◌, refl, ap}
use mathlib.Core.List.{List}
use Prim.Native.Nat.{ℕ, zero, suc, ◌+◌, ◌-◌, ◌<◌}
use native.Mathlib.Omega.{arith}
use Rattle.varint.specs.Got.{Got, then}
use Rattle.varint.specs.Stores.{part}
use Rattle.varint.specs.declared.error.Refusal.{Refusal}
use Rattle.varint.proofs.Gots.{got_of, no_got}
use Rattle.varint.proofs.FormatParts.{went}
use Rattle.desc.specs.Reading.{label_at, with_label, children, named_label}
use Rattle.desc.specs.declared.head.Label.{Label}
use Rattle.desc.specs.Trees.{Tree, Kids, more, kid_count}
use Rattle.std.specs.Prelude.{Ok, Err}
use Rattle.varint.specs.Texts.{span}

-- of the children from number i on, one is left and those after it
pub left_after : {i count : ℕ} → i < count → count - i ≡ suc (count - (i + 1))
left_after h = omega arith

module _ (rd : ℕ → Got (Tree (List ℕ))) (s : List ℕ) (tag k : ℕ) where
  -- a child that was read, and k more from place e on
  abbrev pub before : (from len d : ℕ) → Tree (List ℕ) → ℕ → Got (Kids (List ℕ))
  before from len d tr e = then (children rd s tag k e) (λ ks f. Ok ((more (part s from len) d tr ks), f))

  pub one_more : (p from len d body e : ℕ) (tr : Tree (List ℕ)) → label_at s tag p ≡ Ok (named_label (span from len) d, body) → rd body ≡ Ok (tr, e)
      → children rd s tag (suc k) p ≡ before from len d tr e
  unfolding children
  one_more p from len d body e tr h g = rw (h, g) refl

  pub label_refused : (p : ℕ) (e : Refusal) → label_at s tag p ≡ Err e → children rd s tag (suc k) p ≡ Err e
  unfolding children
  label_refused p e h = rw h refl

  pub kid_refused : (p from len d body : ℕ) (e : Refusal) → label_at s tag p ≡ Ok (named_label (span from len) d, body) → rd body ≡ Err e
      → children rd s tag (suc k) p ≡ Err e
  unfolding children
  kid_refused p from len d body e h g = rw (h, g) refl

-- as many children are read as were asked for
pub kids_many : (rd : ℕ → Got (Tree (List ℕ))) (s : List ℕ) (tag n p : ℕ) (ks : Kids (List ℕ)) (q : ℕ) → children rd s tag n p ≡ Ok (ks, q) → kid_count ks ≡ n
unfolding children kid_count
kids_many rd s tag zero p ks q h = rw (← (got_of h).0) refl
kids_many rd s tag (suc n) p ks q h = go (label_at s tag p) (kids_many rd s tag n) h
  where
    go : (l : Got Label) → ((p : ℕ) (ks : Kids (List ℕ)) (q : ℕ) → children rd s tag n p ≡ Ok (ks, q) → kid_count ks ≡ n)
        → with_label l (λ start len d o. then (rd o) (λ t e. then (children rd s tag n e) (λ ks f. Ok ((more (part s start len) d t ks), f)))) ≡ Ok (ks, q)
        → kid_count ks ≡ suc n
    go (Ok (l, o)) fewer i =
        let w = went (rd o) _ ks q i in
        let v = went (children rd s tag n w.next) _ ks q w.rest in
        rw (← (got_of v.rest).0) (ap suc (fewer w.next v.value v.next v.first))
    go (Err e) fewer i = no_got i
