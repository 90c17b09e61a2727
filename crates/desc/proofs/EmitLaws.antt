-- One turn of the recursive writer over a node's children, and its ways out.
use mathlib.Core.Bool.{Bool, true, false, ◌||◌}
use mathlib.Core.Path.{◌≡◌, refl, sym, ap, ◌∙◌}
use mathlib.Core.List.{List}
use Prim.Native.Nat.{ℕ, zero, suc, ◌+◌, ◌-◌, ◌≤◌, ◌<◌}
use native.Mathlib.Omega.{arith}
use lib.Dec.{eqb}
use lib.ListN.{get_or}
use borrow.Author.Tests.{eq-eqb, ne_eqb, eqb-true, eqb-false}
use Rattle.varint.specs.Choice.{pick}
use Rattle.varint.specs.Got.{Got, then}
use Rattle.varint.specs.Inner.Again.{Accepted, Again}
use Rattle.varint.proofs.Agains.{first as first_of}
use Rattle.varint.specs.declared.error.Fault.TheVariants.{Layout}
use Rattle.varint.specs.declared.error.Refusal.TheVariants.{BadMessage}
use Rattle.varint.proofs.Basics.{test, never, clash}
use Rattle.desc.specs.Emitting.{Pen, put_number}
use Rattle.desc.specs.Inner.Emission.{wrong, done, emission, kids_emission, told, put_before, put_where, put_label, put_tree, put_kids}
use Rattle.desc.specs.Inner.Rows.{row_at}
use Rattle.desc.specs.Layout.{NameSpan}
use Rattle.desc.specs.Table.{cell, node_fits, is_branch, kids_at, closed_at, table}
use Rattle.desc.specs.Trees.{Tree, leaf, Kids, more, kid_count}
use Rattle.desc.proofs.EmitPens.{before_part}
use Rattle.desc.proofs.TableKids.{kid_count_lem}
use Rattle.std.specs.Bool.{then_some}
use Rattle.std.specs.Prelude.{Ok, Err, Some, None, Option}

module _ (tx : List ℕ) (tag : ℕ) (name : NameSpan) (d : ℕ) (s : Pen) where
  more_law : (t : Tree NameSpan) (K : Got (Kids NameSpan))
      → kids_emission tx tag (then K (λ ks f. Ok (more name d t ks, f))) s ≡ kids_emission tx tag K (put_tree tx t (put_label tx tag name d s))
  unfolding kids_emission put_kids
  more_law t (Ok (ks, f)) = refl
  more_law t (Err e) = refl

  abbrev first : Got (Tree NameSpan) → (ℕ → Got (Kids NameSpan)) → Got (Kids NameSpan)
  first D K = then D (λ t e. then (K e) (λ ks f. Ok (more name d t ks, f)))

  first_done : (D : Got (Tree NameSpan)) (K : ℕ → Got (Kids NameSpan)) (m : ℕ) (s₂ : Pen) → done m s₂ ≡ emission tx D (put_label tx tag name d s)
      → kids_emission tx tag (first D K) s ≡ kids_emission tx tag (K m) s₂
  unfolding emission
  first_done (Ok (t, e)) K m s₂ h =
      let p : m ≡ e = cc in
      let q : s₂ ≡ put_tree tx t (put_label tx tag name d s) = cc in
      rw (p, q) (more_law t (K e))
  first_done (Err e) K m s₂ h = never cc

  first_wrong : (D : Got (Tree NameSpan)) (K : ℕ → Got (Kids NameSpan)) → wrong ≡ emission tx D (put_label tx tag name d s) → kids_emission tx tag (first D K) s ≡ wrong
  unfolding emission kids_emission
  first_wrong (Ok (t, e)) K h = never cc
  first_wrong (Err e) K h = refl

-- the tag of a type with parts is none of a root's parent
pub parts_tag : (tag : ℕ) {parts : Bool} → parts ≡ (eqb tag 3 || eqb tag 4) → parts ≡ true → tag ≡ 0 → ⊥
parts_tag tag is b z = clash (sym is ∙ b) (rw z refl)

module _ (r : ℕ → ℕ → Got (Tree NameSpan)) (tx nd : List ℕ) (tag count i m : ℕ) (s : Pen) (R : Option ℕ) (o : Pen) (less : i < count)
    (part : tag ≡ 0 → ⊥) (is : told R o ≡ emission tx (r m tag) (put_before tx tag (row_at nd m) s)) where
  told_after : told R o ≡ emission tx (r m tag) (put_label tx tag (cell nd m 1, cell nd m 2) (cell nd m 3) s)
  told_after = is ∙ ap (emission tx (r m tag)) (before_part tx tag (row_at nd m) s part)

  pub turn_done : (m₂ : ℕ) → R ≡ Some m₂
      → kids_emission tx tag (kids_at r nd tag (count - i) m) s ≡ kids_emission tx tag (kids_at r nd tag (count - (i + 1)) m₂) o
  unfolding told kids_at
  turn_done m₂ h =
      let e : count - i ≡ suc (count - (i + 1)) = omega arith in
      rw e
      (first_done tx tag (cell nd m 1, cell nd m 2) (cell nd m 3) s (r m tag) (kids_at r nd tag (count - (i + 1))) m₂ o
      (ap (λ (x : Option ℕ). told x o) (sym h) ∙ told_after))

  pub turn_wrong : R ≡ None → kids_emission tx tag (kids_at r nd tag (count - i) m) s ≡ told None o
  unfolding told kids_at
  turn_wrong h =
      let e : count - i ≡ suc (count - (i + 1)) = omega arith in
      rw e
      (first_wrong tx tag (cell nd m 1, cell nd m 2) (cell nd m 3) s (r m tag) (kids_at r nd tag (count - (i + 1)))
      (ap (λ (x : Option ℕ). told x o) (sym h) ∙ told_after))

-- no child is left
pub kids_end : (r : ℕ → ℕ → Got (Tree NameSpan)) (tx nd : List ℕ) (tag count i m : ℕ) (s : Pen) → count ≤ i
    → kids_emission tx tag (kids_at r nd tag (count - i) m) s ≡ told (Some m) s
unfolding kids_emission kids_at put_kids told
kids_end r tx nd tag count i m s past = let e : count - i ≡ 0 = omega arith in rw e

deeper : (d : ℕ) (nd : List ℕ) (n parent : ℕ) → (d ≡ 0 → ⊥)
    → table d nd n parent
    ≡ pick (node_fits nd n parent)
    (pick (is_branch nd n)
    (closed_at (cell nd n 0) (cell nd n 6) (kids_at (table (d - 1) nd) nd (cell nd n 0) (cell nd n 5) (n + 1)))
    (Ok ((leaf (cell nd n 0) (cell nd n 4)), n + 1)))
    (Err (BadMessage Layout))
unfolding table
deeper zero nd n parent h = absurd (h refl)
deeper (suc d) nd n parent h = let e : suc d - 1 ≡ d = omega arith in rw e refl

kids_wrong : (tx : List ℕ) (tag end : ℕ) (K : Got (Kids NameSpan)) (s s₁ : Pen) → kids_emission tx tag K s₁ ≡ wrong → wrong ≡ emission tx (closed_at tag end K) s
unfolding kids_emission emission
kids_wrong tx tag end (Ok (ks, m)) s s₁ h = never cc
kids_wrong tx tag end (Err e) s s₁ h = refl

kids_open : (tx : List ℕ) (tag end : ℕ) (K : Got (Kids NameSpan)) (m : ℕ) (s s₁ s₂ : Pen) → kids_emission tx tag K s₁ ≡ done m s₂ → (end ≡ m → ⊥)
    → wrong ≡ emission tx (closed_at tag end K) s
unfolding kids_emission emission
kids_open tx tag end (Ok (ks, e)) m s s₁ s₂ h q = let p : m ≡ e = cc in rw (ne_eqb end e (λ x. q (x ∙ sym p)))
kids_open tx tag end (Err e) m s s₁ s₂ h q = refl

kids_closed : (tx : List ℕ) (tag end count : ℕ) (K : Got (Kids NameSpan)) (m : ℕ) (s s₁ s₂ : Pen)
    → ((ks : Kids NameSpan) (e : ℕ) → K ≡ Ok (ks, e) → kid_count ks ≡ count)
    → kids_emission tx tag K s₁ ≡ done m s₂ → end ≡ m → s₁ ≡ put_number count (put_number tag s) → done m s₂ ≡ emission tx (closed_at tag end K) s
unfolding kids_emission emission put_tree
kids_closed tx tag end count (Ok (ks, e)) m s s₁ s₂ c h q w =
    let p : m ≡ e = cc in
    let f : put_kids tx tag ks s₁ ≡ s₂ = cc in
    rw (eq-eqb end e (q ∙ p), c ks e refl, ← w, f, p)
kids_closed tx tag end count (Err x) m s s₁ s₂ c h q w = never cc

-- The ways out of a node

module _ (nd : List ℕ) (d n parent : ℕ) (z : d ≡ 0 → ⊥) where
  node_unfit : node_fits nd n parent ≡ false → table d nd n parent ≡ Err (BadMessage Layout)
  node_unfit f = rw (deeper d nd n parent z, f)

  -- by the numbers of a node that fits
  module _ (f : node_fits nd n parent ≡ true) (row : List ℕ) (is : row ≡ row_at nd n) {parts : Bool} (test : parts ≡ (eqb (get_or row 0 0) 3 || eqb (get_or row 0 0) 4)) where
    parts_of : parts ≡ is_branch nd n
    unfolding is_branch
    parts_of = rw is at test

    pub node_leaf : parts ≡ false → table d nd n parent ≡ Ok ((leaf (get_or row 0 0) (get_or row 4 0)), n + 1)
    node_leaf b = rw (is, deeper d nd n parent z, f, ← parts_of, b) refl

    -- a type with parts: what is left is to read them, and to compare the end
    pub node_branch : parts ≡ true
        → table d nd n parent ≡ closed_at (get_or row 0 0) (get_or row 6 0) (kids_at (table (d - 1) nd) nd (get_or row 0 0) (get_or row 5 0) (n + 1))
    node_branch b = rw (is, deeper d nd n parent z, f, ← parts_of, b) refl

module _ (tx nd : List ℕ) (d n parent : ℕ) (s o : Pen) where
  pub emit_deep : d ≡ 0 → told None o ≡ emission tx (table d nd n parent) s
  unfolding told emission table
  emit_deep z = rw z

  pub emit_unfit : (d ≡ 0 → ⊥) → node_fits nd n parent ≡ false → told None o ≡ emission tx (table d nd n parent) s
  unfolding told emission
  emit_unfit z f = rw (node_unfit nd d n parent z f)

  pub emit_leaf : (tag p : ℕ) → table d nd n parent ≡ Ok (leaf tag p, n + 1)
      → o ≡ put_where (eqb tag 2) p (put_number tag s) → told (Some (n + 1)) o ≡ emission tx (table d nd n parent) s
  unfolding told emission put_tree
  emit_leaf tag p is w = rw (is, ← w)

  module _ (tag count end : ℕ) (is : table d nd n parent ≡ closed_at tag end (kids_at (table (d - 1) nd) nd tag count (n + 1))) (s₁ : Pen) where
    abbrev kids : Got (Kids NameSpan)
    kids = kids_at (table (d - 1) nd) nd tag count (n + 1)

    pub emit_stopped : told None o ≡ kids_emission tx tag kids s₁ → told None o ≡ emission tx (table d nd n parent) s
    unfolding told
    emit_stopped h = rw is (kids_wrong tx tag end kids s s₁ (sym h))

    module _ (m : ℕ) (ended : told (Some m) o ≡ kids_emission tx tag kids s₁) where
      emit_open : (end ≡ m → ⊥) → told None o ≡ emission tx (table d nd n parent) s
      unfolding told
      emit_open q = rw is (kids_open tx tag end kids m s s₁ o (sym ended) q)

      emit_branch : end ≡ m → s₁ ≡ put_number count (put_number tag s) → told (Some m) o ≡ emission tx (table d nd n parent) s
      unfolding told
      emit_branch q w =
          rw is
          (kids_closed tx tag end count kids m s s₁ o
          (λ ks e h. kid_count_lem (table (d - 1) nd) nd tag count (n + 1) e ks h)
          (sym ended) q w)

      -- by the comparison of its end
      pub emit_closed : (R : Option ℕ) → s₁ ≡ put_number count (put_number tag s) → R ≡ then_some (eqb end m) m
          → told R o ≡ emission tx (table d nd n parent) s
      emit_closed R w h =
          test (eqb end m)
          (λ e. rw (h, e) (emit_branch (eqb-true end m e) w))
          (λ e. rw (h, e) (emit_open (eqb-false end m e)))

-- A table that was found to be laid out

-- its node fits
pub again_fits : {check : Bool} (nd : List ℕ) (d n parent : ℕ) → (d ≡ 0 → ⊥) → Again check (table d nd n parent) → check ≡ false → node_fits nd n parent ≡ true
again_fits nd d n parent z h c =
    test (node_fits nd n parent)
    (λ f. f)
    (λ f. absurd (rw (node_unfit nd d n parent z f) at (h c)))

-- so do the children of one with parts
pub again_closed : {check : Bool} (tag end : ℕ) (D : Got (Tree NameSpan)) (K : Got (Kids NameSpan)) → D ≡ closed_at tag end K → Again check D → Again check K
again_closed tag end D (Ok (ks, m)) e h c = tt
again_closed tag end D (Err x) e h c = rw e at (h c)

module _ {check : Bool} (r : ℕ → ℕ → Got (Tree NameSpan)) (nd : List ℕ) (tag count i m : ℕ) (less : i < count)
    (h : Again check (kids_at r nd tag (count - i) m)) where
  abbrev rest : Got (Tree NameSpan) → Got (Kids NameSpan)
  rest D = then D (λ t e. then (kids_at r nd tag (count - (i + 1)) e) (λ ks f. Ok (more (cell nd m 1, cell nd m 2) (cell nd m 3) t ks, f)))

  here : Again check (rest (r m tag))
  unfolding kids_at
  here = let e : count - i ≡ suc (count - (i + 1)) = omega arith in rw e at h

  pub again_child : Again check (r m tag)
  again_child c = first_of (r m tag) _ (here c)

  pub again_others : (tx : List ℕ) (R : Option ℕ) (o s : Pen) (m₂ : ℕ) → told R o ≡ emission tx (r m tag) s → R ≡ Some m₂
      → Again check (kids_at r nd tag (count - (i + 1)) m₂)
  unfolding told emission
  again_others tx R o s m₂ is g c = go (r m tag) (ap (λ (x : Option ℕ). told x o) (sym g) ∙ is) (here c)
    where
      go : (D : Got (Tree NameSpan)) → told (Some m₂) o ≡ emission tx D s → Accepted (rest D) → Accepted (kids_at r nd tag (count - (i + 1)) m₂)
      go (Ok (t, e)) w a = let q : m₂ ≡ e = cc in rw q (first_of (kids_at r nd tag (count - (i + 1)) e) _ a)
      go (Err x) w a = absurd a
