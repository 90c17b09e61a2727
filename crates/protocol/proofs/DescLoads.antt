-- A descriptor within a message, as its reader tells it.
use mathlib.Core.Path.{◌≡◌, sym}
use mathlib.Core.List.{List}
use Prim.Native.Nat.{ℕ}
use native.Mathlib.Nat.{add-zero}
use Rattle.std.specs.Prelude.{Result, Ok, Err}
use Rattle.varint.specs.declared.error.Refusal.{Refusal}
use Rattle.desc.specs.Inner.Walking.{stored_as, walked_to, reading}
use Rattle.desc.specs.WellFormed.{descriptor}
use Rattle.desc.specs.declared.Walked.{Walked}
use Rattle.desc.proofs.Readings.{desc_had, desc_refused}
use Rattle.protocol.specs.Inner.Loading.{Mem, loaded, failed, told, load, past}
use Rattle.protocol.specs.Pieces.{tree}
use Rattle.protocol.proofs.RowStores.{stored_none}

-- the memory with other text and nodes, and past what stands there
abbrev pub with_tree : List ℕ → ℕ → List ℕ → ℕ → Mem → Mem
with_tree tx t nd n m = record { check = m.check; limit = m.limit; text = tx; t = t; rows = m.rows; r = m.r; nodes = nd; n = n }

module _ (s : List ℕ) (at : ℕ) (m : Mem) {x : Result Walked Refusal} {tx nd : List ℕ}
    (a : record { answer = x; text = tx; nodes = nd } ≡ reading m.check ((descriptor m.limit).read s at) m.text m.t m.nodes m.n) where
  pub desc_failed : {e : Refusal} → x ≡ Err e → failed e ≡ load past tree ((descriptor m.limit).read s at) m
  unfolding load
  desc_failed h = rw (desc_refused m.check ((descriptor m.limit).read s at) m.text m.t m.nodes m.n a h)

  pub desc_loaded : {q t n : ℕ} → x ≡ Ok (walked_to q t n) → told (Ok q) (with_tree tx t nd n m) ≡ load past tree ((descriptor m.limit).read s at) m
  unfolding told load stored_as
  desc_loaded {q} h =
      let w = desc_had m.check ((descriptor m.limit).read s at) m.text m.t m.nodes m.n a h in
      rw w.is
      (λ i. loaded q (record {
        check = m.check;
        limit = m.limit;
        text = w.text i;
        t = w.text_end i;
        rows = sym (stored_none m.check m.rows m.r) i;
        r = sym (add-zero m.r) i;
        nodes = w.nodes i;
        n = w.node_end i;
      }))
