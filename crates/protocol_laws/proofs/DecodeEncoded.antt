-- Decoding an encoded message returns its fields and texts.
use mathlib.Core.Path.{◌≡◌, refl, ap}
use mathlib.Core.List.{List, ◌++◌}
use Prim.Native.Nat.{ℕ, ◌-◌, ◌≤◌}
use native.Mathlib.Omega.{arith}
use lib.Dec.{ltb, lit<}
use lib.ListN.{length, take, replicate, length-append, length-replicate}
use lib.Seq.{take-append_seam, drop-append_seam}
use borrow.Author.Tests.{ltb-true, ltb-false}
use Rattle.varint.specs.Gathering.{Held, held, lacks}
use Rattle.varint.specs.Lent.{fitted, settled}
use Rattle.varint.specs.Outs.{Sent, wrote, send, sent}
use Rattle.varint.specs.Stores.{filled}
use Rattle.varint.proofs.Basics.{pick_cases}
use Rattle.varint.proofs.StoreLaws.{filled_fits}
use Rattle.desc.proofs.Undone.{not_wrote}
use Rattle.protocol.specs.Decoding.{taken_by, decode_message}
use Rattle.protocol.specs.Encoding.{held_said, encode_message}
use Rattle.protocol.specs.Laying.{Laid}
use Rattle.protocol.specs.Said.{Said, print_said, lay, entry_of}
use Rattle.protocol.specs.declared.message.Message.{Message}
use Rattle.protocol_laws.specs.Fine.{Narrow, FineSaid}
use Rattle.protocol_laws.specs.Returns.{Cleared, Leaves, text_short, rows_short, nodes_short, same, Encoded, Returns, DecodeEncoded, Returned, LayoutReturns}
use Rattle.protocol_laws.specs.Shown.{Shown, shown, text_needed, rows_needed, nodes_needed}
use Rattle.protocol_laws.proofs.FineHeld.{held_fine}
use Rattle.protocol_laws.proofs.HeldLaid.{fine_sound, held_laid}
use Rattle.protocol_laws.proofs.MessagesBack.{read_printed}
use Rattle.protocol_laws.proofs.ShownHeld.{held_shown}
use Rattle.protocol_laws.proofs.ShownSaid.{shown_said, said_entry, said_needs}
use Rattle.std.specs.Prelude.{Result, Ok}
use Rattle.varint.specs.declared.error.Refusal.{Refusal}

-- where x was sent whole, it is no longer than it may be, and stands in front
module _ (max : ℕ) (x d : List ℕ) (n : ℕ) (d' : List ℕ) where
  stored : wrote d x ≡ Ok n → filled d x ≡ d' → take n d' ≡ x
  unfolding wrote
  stored =
      pick_cases (λ (w : Result ℕ Refusal). w ≡ Ok n → filled d x ≡ d' → take n d' ≡ x) (ltb (length d) (length x)) (λ _ e _. not_wrote e)
      (λ k e o.
      let u : length x ≡ n = cc in
      rw (← o, ← u, filled_fits d x (ltb-false (length d) (length x) k)) (take-append_seam x (replicate (length d - length x) 0)))

  sent_whole : send max x d ≡ record { answer = Ok n; out = d' } → (length x ≤ max) × (take n d' ≡ x)
  unfolding send
  sent_whole =
      pick_cases (λ (s : Sent). s ≡ record { answer = Ok n; out = d' } → (length x ≤ max) × (take n d' ≡ x)) (ltb max (length x))
      (λ _ e. not_wrote (ap (λ (s : Sent). s.answer) e))
      (λ h e. (ltb-false max (length x) h, stored (ap (λ (s : Sent). s.answer) e) (ap (λ (s : Sent). s.out) e)))

-- The longest payload may be any number of 32 bits: a page tells its cursor's length in four bytes.
module _ (max limit : ℕ) (small : Narrow max) (message : Message) (tx rs nd : List ℕ) (n : ℕ) (out' : List ℕ)
    (h : Encoded max limit message tx rs nd n out')
  where
    -- what the memory holds was printed
    record Printed : Type 0 where
      said : Said
      holds : held_said limit message tx rs nd ≡ held said
      bytes : take n out' ≡ print_said said
      short : length (print_said said) ≤ max
      fine : FineSaid limit said

    printed : Printed
    unfolding encode_message sent
    printed = on (held_said limit message tx rs nd) refl h.sent
      where
        on : (x : Held Said) → held_said limit message tx rs nd ≡ x → sent max print_said x h.out ≡ record { answer = Ok n; out = out' } → Printed
        on (lacks r) i e = not_wrote (ap (λ (s : Sent). s.answer) e)
        on (held m) i e =
            let w = sent_whole max (print_said m) h.out n out' e in
            let l = w.0 in
            record {
              said = m;
              holds = i;
              bytes = w.1;
              short = l;
              fine = held_fine limit message tx rs nd m h.typed h.text h.nodes h.rows i (omega arith);
            }

    -- so the bytes are decoded to its layout
    laid : (p : Printed) (t r k : List ℕ) → decode_message max limit (entry_of p.said) (take n out') t r k ≡ fitted (lay p.said).message (taken_by (lay p.said)) t r k
    unfolding decode_message settled
    laid p t r k = rw (p.bytes, read_printed max limit p.said p.fine p.short)

    returned : Returned max limit message tx rs nd (take n out')
    returned = let p = printed in record { said = p.said; holds = p.holds; bytes = p.bytes; decodes = laid p }

-- a buffer that was filled
filled_cleared : (b x : List ℕ) (needed : ℕ) → needed ≡ length x → length x ≤ length b → Cleared b needed (x ++ replicate (length b - length x) 0)
filled_cleared b x needed e room =
    record {
      long = simp (length-append, length-replicate) (omega arith);
      zeros = rw e (drop-append_seam x (replicate (length b - length x) 0));
    }

-- A layout that needs the memory that s does, and shows s wherever it stands in front, fits the buffers as it must.
module _ (s : Shown) (l : Laid) (text : text_needed s ≡ length l.piece.text) (rows : rows_needed s ≡ length (l.piece.rows 0 0))
    (nodes : nodes_needed s ≡ length (l.piece.nodes 0 0))
    (shows : (X Y Z : List ℕ) → shown l.message (l.piece.text ++ X) (l.piece.rows 0 0 ++ Y) (l.piece.nodes 0 0 ++ Z) ≡ s) (t r k : List ℕ)
  where
    fitted_leaves : Leaves s t r k (fitted l.message (taken_by l) t r k)
    unfolding fitted
    fitted_leaves =
        let T : List ℕ = l.piece.text in
        let R : List ℕ = l.piece.rows 0 0 in
        let D : List ℕ = l.piece.nodes 0 0 in
        pick_cases (Leaves s t r k) (ltb (length t) (length T)) (λ e. let i = ltb-true (length t) (length T) e in rw (← text) (text_short (omega arith)))
        (λ e.
        let a = ltb-false (length t) (length T) e in
        let a₁ : text_needed s ≤ length t = omega arith in
        pick_cases (Leaves s t r k) (ltb (length r) (length R)) (λ e. let i = ltb-true (length r) (length R) e in rw (← rows) (rows_short a₁ (omega arith)))
        (λ e.
        let b = ltb-false (length r) (length R) e in
        let b₁ : rows_needed s ≤ length r = omega arith in
        pick_cases (Leaves s t r k) (ltb (length k) (length D)) (λ e. let i = ltb-true (length k) (length D) e in rw (← nodes) (nodes_short a₁ b₁ (omega arith)))
        (λ e.
        let c = ltb-false (length k) (length D) e in
        rw (filled_fits t T a, filled_fits r R b, filled_fits k D c)
        (same a₁ b₁ (omega arith) l.message _ _ _
        (shows (replicate (length t - length T) 0) (replicate (length r - length R) 0) (replicate (length k - length D) 0))
        (filled_cleared t T (text_needed s) text a) (filled_cleared r R (rows_needed s) rows b) (filled_cleared k D (nodes_needed s) nodes c)))))

-- What was encoded is decoded to its layout ..
pub layout_returns : (max limit : ℕ) → Narrow max → LayoutReturns max limit
layout_returns = returned

-- .. and so to a message that shows the same: for every message, all lent memory and all buffers.
pub returns : (max limit : ℕ) → Narrow max → Returns max limit
returns max limit small message tx rs nd n out' h t r k =
    let p = printed max limit small message tx rs nd n out' h in
    let m : Said = p.said in
    let e : shown message tx rs nd ≡ shown_said m = held_shown limit message tx rs nd m p.holds in
    let o = fine_sound limit m p.fine in
    let w = said_needs m in
    let f = fitted_leaves (shown_said m) (lay m) w.0 w.1 w.2
    (λ X Y Z.
    held_shown limit (lay m).message ((lay m).piece.text ++ X) ((lay m).piece.rows 0 0 ++ Y) ((lay m).piece.nodes 0 0 ++ Z) m (held_laid limit m o X Y Z)) t r k in
    let d : decode_message max limit (shown_said m).entry (take n out') t r k ≡ fitted (lay m).message (taken_by (lay m)) t r k =
    rw (said_entry m) (laid max limit small message tx rs nd n out' h p t r k) in
    rw (e, d) f

-- on the wire
pub decode_encoded : DecodeEncoded
decode_encoded = returns 67108864 64 (lit< tt)
