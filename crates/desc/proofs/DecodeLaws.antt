-- What decoding answers and leaves, from what its two readings tell.
use mathlib.Core.Bool.{true, false}
use mathlib.Core.Path.{◌≡◌, ap, refl, ◌∙◌}
use mathlib.Core.List.{List, []}
use Prim.Native.Nat.{ℕ, ◌*◌, ◌≤◌, ◌<◌}
use native.Mathlib.Omega.{arith}
use lib.ListN.{length}
use borrow.Author.Tests.{lt-ltb, le-ltb}
use Rattle.std.specs.Prelude.{Ok, Err, Result}
use Rattle.varint.specs.Got.{Got}
use Rattle.varint.specs.Lent.{Left, kept, settled}
use Rattle.varint.specs.Stores.{clear_from}
use Rattle.varint.specs.declared.error.Buffer.TheVariants.{Text, Nodes}
use Rattle.varint.specs.declared.error.Refusal.{Refusal}
use Rattle.varint.specs.declared.error.Refusal.TheVariants.{BlockTooLarge, TooSmall}
use Rattle.varint.proofs.LentLaws.{Takes, fitted_text, fitted_nodes, fitted_all}
use Rattle.desc.specs.Decoding.{taken_by, settled_desc, decode_desc}
use Rattle.desc.specs.Inner.Walking.{walked_to, stored_as, Read, reading}
use Rattle.desc.specs.Layout.{width}
use Rattle.desc.specs.Reading.{desc}
use Rattle.desc.specs.Trees.{Tree}
use Rattle.desc.specs.declared.Walked.{Walked}
use Rattle.desc.proofs.LayoutLaws.{length_placed}
use Rattle.desc.proofs.Readings.{Had, desc_refused, desc_had}

-- what the first reading told
module _ (max limit : ℕ) (s tx rs nd : List ℕ) where
  abbrev D : Got (Tree (List ℕ))
  D = desc limit limit s 0

  abbrev Decoded : Left ℕ → Type 0
  Decoded x = x ≡ decode_desc max limit s tx rs nd

  pub decode_large : max < length s → Decoded (kept (BlockTooLarge (length s) max) tx rs nd)
  unfolding decode_desc
  decode_large h = rw (lt-ltb max (length s) h) refl

  module _ (small : length s ≤ max) {r : Result Walked Refusal} {tx₀ nd₀ : List ℕ} (first : record { answer = r; text = tx₀; nodes = nd₀ } ≡ reading true D [] 0 [] 0) where
    settles : {g : Got (Tree (List ℕ))} → D ≡ g → settled_desc g tx rs nd ≡ decode_desc max limit s tx rs nd
    unfolding decode_desc
    settles i = rw (le-ltb max (length s) small, i) refl

    pub decode_bad : {e : Refusal} → r ≡ Err e → Decoded (kept e tx rs nd)
    unfolding settled
    decode_bad h = settles (desc_refused true D [] 0 [] 0 first h)

    module _ {q t m : ℕ} (was : r ≡ Ok (walked_to q t m)) where
      had : Had true D [] 0 [] 0 q t m tx₀ nd₀
      had = desc_had true D [] 0 [] 0 first was

      takes : Takes (taken_by had.tree) t 0 (m * width)
      takes =
          let a = had.text_end in
          let b = had.node_end in
          let l = length_placed (had.tree) 0 0 (0, 0) 0 in
          record { text = omega arith; rows = refl; nodes = omega arith }

      pub decode_text : length tx < t → Decoded (kept (TooSmall Text t) tx rs nd)
      unfolding settled
      decode_text h = fitted_text q (taken_by had.tree) takes tx rs nd h ∙ settles had.is

      pub decode_nodes : t ≤ length tx → length nd < m * width → Decoded (kept (TooSmall Nodes (m * width)) tx rs nd)
      unfolding settled
      decode_nodes h k = fitted_nodes q (taken_by had.tree) takes tx rs nd h (omega arith) k ∙ settles had.is

      -- the second stored it
      pub decode_done : t ≤ length tx → m * width ≤ length nd → {x : Result Walked Refusal} {tx₁ nd₁ tx₂ rs₂ nd₂ : List ℕ}
          → record { answer = x; text = tx₁; nodes = nd₁ } ≡ reading false D tx 0 nd 0 → tx₂ ≡ clear_from tx₁ t → rs₂ ≡ clear_from rs 0 → nd₂ ≡ clear_from nd₁ (m * width)
          → Decoded (record { answer = Ok q; text = tx₂; rows = rs₂; nodes = nd₂ })
      unfolding settled reading stored_as
      decode_done h k second e f g =
          let l = rw had.is at second in
          fitted_all q (taken_by had.tree) takes tx rs nd h (omega arith) k (ap (λ (y : Read). y.text) l) refl (ap (λ (y : Read). y.nodes) l) e f g ∙ settles had.is
