-- What a reading within other bytes answers and leaves, from what the walk tells; and what its caller learns of it.
use mathlib.Core.Bool.{Bool, true, false}
use mathlib.Core.Path.{◌≡◌, sym, ◌∙◌, ap}
use mathlib.Core.List.{List, []}
use Prim.Native.Nat.{ℕ, ◌+◌}
use lib.ListN.{length}
use Rattle.std.specs.Prelude.{Ok, Err, Result}
use Rattle.varint.specs.Choice.{pick}
use Rattle.varint.specs.Got.{Got, got}
use Rattle.varint.specs.declared.error.Refusal.{Refusal}
use Rattle.varint.specs.Inner.Again.{Accepted}
use Rattle.varint.proofs.Basics.{never}
use Rattle.desc.specs.Inner.Walking.{stored_as, walked_to, outcome, Agrees, Read, reading}
use Rattle.desc.specs.Layout.{texts}
use Rattle.desc.specs.Trees.{Tree, size}
use Rattle.desc.specs.declared.Walked.{Walked}

-- the places where one walk ends
pub walked_of : {o q u t k m : ℕ} → ◌≡◌ {A = Result Walked Refusal} (Ok (walked_to o u k)) (Ok (walked_to q t m)) → (o ≡ q) × (u ≡ t) × (k ≡ m)
walked_of {o} {q} {u} {t} {k} {m} e =
    let w : ◌≡◌ {A = Walked} (walked_to o u k) (walked_to q t m) = cc in
    (ap (λ (x : Walked). x.next) w, ap (λ (x : Walked). x.text) w, ap (λ (x : Walked). x.nodes) w)

-- the reading that checks is a walk that is lent nothing; the other is one that is lent the buffers, and is not refused
module _ (D : Got (Tree (List ℕ))) (tx : List ℕ) (t : ℕ) (nd : List ℕ) (n end : ℕ) (r : Result Walked Refusal) (tx' nd' : List ℕ) where
  pub reads_checking : Agrees (outcome D [] t [] n (0, 0) 0) end r tx' nd' → record { answer = r; text = tx; nodes = nd } ≡ reading true D tx t nd n
  unfolding Agrees outcome reading
  reads_checking = go D
    where
      go : (G : Got (Tree (List ℕ))) → Agrees (outcome G [] t [] n (0, 0) 0) end r tx' nd' → record { answer = r; text = tx; nodes = nd } ≡ reading true G tx t nd n
      go (Err e) a = rw a
      go (Ok (tr, q)) a = rw a.0

  pub reads_storing : Accepted D → Agrees (outcome D tx t nd n (0, 0) 0) end r tx' nd' → record { answer = r; text = tx'; nodes = nd' } ≡ reading false D tx t nd n
  unfolding Agrees outcome reading
  reads_storing = go D
    where
      go : (G : Got (Tree (List ℕ))) → Accepted G → Agrees (outcome G tx t nd n (0, 0) 0) end r tx' nd'
          → record { answer = r; text = tx'; nodes = nd' } ≡ reading false G tx t nd n
      go (Err e) h a = absurd h
      go (Ok (tr, q)) h a = rw (a.0, a.1, a.2)

-- the descriptor that was read, and what it left
pub record Had (check : Bool) (D : Got (Tree (List ℕ))) (tx : List ℕ) (t : ℕ) (nd : List ℕ) (n q t' m : ℕ) (tx' nd' : List ℕ) : Type 0 where
  pub tree : Tree (List ℕ)
  pub is : D ≡ Ok (tree, q)
  pub text_end : t' ≡ t + length (texts tree)
  pub node_end : m ≡ n + size tree
  pub text : tx' ≡ pick check tx (stored_as tree tx t nd n (0, 0) 0).text
  pub nodes : nd' ≡ pick check nd (stored_as tree tx t nd n (0, 0) 0).nodes

module _ (check : Bool) (D : Got (Tree (List ℕ))) (tx : List ℕ) (t : ℕ) (nd : List ℕ) (n : ℕ) {r : Result Walked Refusal} {tx' nd' : List ℕ}
    (a : record { answer = r; text = tx'; nodes = nd' } ≡ reading check D tx t nd n) where
  pub desc_refused : {e : Refusal} → r ≡ Err e → D ≡ Err e
  unfolding reading
  desc_refused {e} = go D a
    where
      go : (G : Got (Tree (List ℕ))) → record { answer = r; text = tx'; nodes = nd' } ≡ reading check G tx t nd n → r ≡ Err e → G ≡ Err e
      go (Err x) b h = let c : r ≡ Err x = ap (λ (y : Read). y.answer) b in let z = sym c ∙ h in cc (z)
      go (Ok (tr, q)) b h = let c : r ≡ Ok (walked_to q (t + length (texts tr)) (n + size tr)) = ap (λ (y : Read). y.answer) b in never cc

  pub desc_had : {q t' m : ℕ} → r ≡ Ok (walked_to q t' m) → Had check D tx t nd n q t' m tx' nd'
  unfolding reading
  desc_had {q} {t'} {m} = go D a
    where
      go : (G : Got (Tree (List ℕ))) → record { answer = r; text = tx'; nodes = nd' } ≡ reading check G tx t nd n → r ≡ Ok (walked_to q t' m)
          → Had check G tx t nd n q t' m tx' nd'
      go (Err x) b h = let c : r ≡ Err x = ap (λ (y : Read). y.answer) b in never cc
      go (Ok (tr, o)) b h =
          let w = walked_of (sym (ap (λ (y : Read). y.answer) b) ∙ h) in
          record {
            tree = tr;
            is = ap (λ (z : ℕ). got tr z) w.0;
            text_end = sym w.1;
            node_end = sym w.2;
            text = ap (λ (y : Read). y.text) b;
            nodes = ap (λ (y : Read). y.nodes) b;
          }
