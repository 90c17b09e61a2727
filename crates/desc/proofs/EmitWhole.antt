-- What a writer of descriptors knows by the answers on the layout and on the names.
use mathlib.Core.Path.{◌≡◌, refl, sym, ap, ◌∙◌}
use mathlib.Core.List.{List}
use Prim.Native.Nat.{ℕ, ◌+◌, ◌-◌}
use lib.ListN.{length}
use lib.Seq.{sets}
use Rattle.varint.specs.Got.{Got, got}
use Rattle.varint.specs.Gathering.{Held, held, lacks}
use Rattle.varint.specs.Outs.{declared}
use Rattle.varint.specs.declared.error.Fault.TheVariants.{Layout}
use Rattle.varint.specs.declared.error.Refusal.{Refusal}
use Rattle.varint.specs.declared.error.Refusal.TheVariants.{BadMessage}
use Rattle.desc.specs.declared.write.Emitted.{Emitted}
use Rattle.desc.specs.Emitting.{Pen, put_bytes, span_size, sized, verdict, names_from, emitted_to}
use Rattle.desc.specs.Inner.Emission.{put_at}
use Rattle.desc.specs.Encoding.{held_in}
use Rattle.desc.specs.Layout.{NameSpan}
use Rattle.desc.specs.Printing.{print}
use Rattle.desc.specs.Table.{table, gather}
use Rattle.desc.specs.Trees.{Tree}
use Rattle.desc.proofs.EmitPrint.{Roomy, put_print}
use Rattle.desc.proofs.EmitSpan.{span_print}
use Rattle.desc.proofs.Emitteds.{emitted_of}
use Rattle.desc.proofs.TableNames.{table_bad, table_verdict}
use Rattle.std.specs.Prelude.{Ok, Err, Result, Some, None, Option}
use Rattle.varint.proofs.Basics.{never}

-- The tree that the table at node n and the text hold, how many bytes it has, and that these are what is written of it.
pub record Whole (tx : List ℕ) (D : Got (Tree NameSpan)) (next place : ℕ) : Type 0 where
  pub tree : Tree (List ℕ)
  pub is : held_in D tx ≡ held tree
  pub size : place ≡ declared (length (print tree))
  pub puts : (s : Pen) → Roomy s → put_at tx D s ≡ put_bytes (print tree) s

whole_of : (tx : List ℕ) (t : Tree NameSpan) (e : ℕ) (H : Held (Tree (List ℕ))) → gather tx t ≡ H → verdict H ≡ Ok tt → Whole tx (Ok (t, e)) e (declared (span_size t))
unfolding held_in put_at verdict
whole_of tx t e (held u) g v =
    record {
      tree = u;
      is = g;
      size = ap declared (span_print tx t u g);
      puts = λ s h. put_print tx t u s g h;
    }
whole_of tx t e (lacks x) g v = never cc

pub refused_of : {A : Type 0} (H : Held A) (e : Refusal) → verdict H ≡ Err e → H ≡ lacks e
unfolding verdict
refused_of (held a) e h = never cc
refused_of (lacks x) e h = cc

module _ (tx : List ℕ) where
  layout_of : (D : Got (Tree NameSpan)) → ((x : Refusal) → D ≡ Err x → x ≡ BadMessage Layout) → sized D ≡ None → held_in D tx ≡ lacks (BadMessage Layout)
  unfolding sized held_in
  layout_of (Ok (t, e)) h w = never cc
  layout_of (Err x) h w = ap lacks (h x refl)

  module _ (e a : ℕ) (v : Result (Unit {0}) Refusal) where
    names_of : (D : Got (Tree NameSpan)) (r : Refusal) → ((t : Tree NameSpan) → D ≡ Ok (t, e) → v ≡ verdict (gather tx t)) → sized D ≡ Some (emitted_to e a) → v ≡ Err r
        → held_in D tx ≡ lacks r
    unfolding sized held_in
    names_of (Ok (t, e₀)) r h w is = let p = emitted_of w in refused_of (gather tx t) r (sym (h t (ap (got t) p.0)) ∙ is)
    names_of (Err x) r h w is = never cc

    good_of : (D : Got (Tree NameSpan)) → ((t : Tree NameSpan) → D ≡ Ok (t, e) → v ≡ verdict (gather tx t)) → sized D ≡ Some (emitted_to e a) → v ≡ Ok tt → Whole tx D e a
    unfolding sized
    good_of (Ok (t, e₀)) h w is =
        let p = emitted_of w in
        rw (← p.1, ← p.0) (whole_of tx t e₀ (gather tx t) refl (sym (h t (ap (got t) p.0)) ∙ is))
    good_of (Err x) h w is = never cc

module _ (tx nd : List ℕ) (limit n : ℕ) (R : Option Emitted) (sizes : R ≡ sized (table limit nd n 0)) where
  -- the table is not laid out as one
  pub layout_bad : R ≡ None → held_in (table limit nd n 0) tx ≡ lacks (BadMessage Layout)
  layout_bad w = layout_of tx (table limit nd n 0) (table_bad tx nd limit n 0) (sym sizes ∙ w)

  module _ (e a : ℕ) (v : Result (Unit {0}) Refusal) (is : R ≡ Some (emitted_to e a)) (names : v ≡ names_from tx nd (n + 1) (e - (n + 1))) where
    verdict_is : (t : Tree NameSpan) → table limit nd n 0 ≡ Ok (t, e) → v ≡ verdict (gather tx t)
    verdict_is t h = names ∙ table_verdict tx nd limit n 0 e t h

    -- a name is refused
    pub names_bad : (r : Refusal) → v ≡ Err r → held_in (table limit nd n 0) tx ≡ lacks r
    names_bad r h = names_of tx e a v (table limit nd n 0) r verdict_is (sym sizes ∙ is) h

    -- all is there
    pub whole : v ≡ Ok tt → Whole tx (table limit nd n 0) e a
    whole h = good_of tx e a v (table limit nd n 0) verdict_is (sym sizes ∙ is) h

-- the buffer after a tree was written
pub whole_stored : {tx : List ℕ} {D : Got (Tree NameSpan)} {e a : ℕ} (w : Whole tx D e a) (s s₁ : Pen) → Roomy s → s₁ ≡ put_at tx D s → s₁.out ≡ sets s.out s.place (print w.tree)
unfolding put_bytes
whole_stored w s s₁ r h = ap (λ (k : Pen). k.out) (h ∙ w.puts s r)
