-- Encoding what was decoded gives the bytes again.
use mathlib.Core.Path.{◌≡◌, refl, sym, ◌∙◌, ap}
use mathlib.Core.List.{List, ◌++◌}
use Prim.Native.Nat.{ℕ, ◌-◌}
use lib.Dec.{ltb}
use lib.ListN.{length, replicate}
use borrow.Author.Tests.{ltb-false, le-ltb}
use Rattle.varint.specs.Got.{Got}
use Rattle.varint.specs.Lent.{Left, kept, fitted, settled}
use Rattle.varint.specs.Outs.{send, sent}
use Rattle.varint.specs.declared.error.Refusal.{Refusal}
use Rattle.varint.proofs.Basics.{pick_cases, never}
use Rattle.varint.proofs.StoreLaws.{filled_fits}
use Rattle.protocol.specs.Decoding.{taken_by, decode_message}
use Rattle.protocol.specs.Encoding.{encode_message}
use Rattle.protocol.specs.Laying.{Laid}
use Rattle.protocol.specs.Said.{Said, read_message, print_said, lay}
use Rattle.protocol.specs.declared.message.Message.{Message}
use Rattle.protocol_laws.specs.Returns.{Decoded, BytesReturn, EncodeDecoded}
use Rattle.protocol_laws.proofs.HeldLaid.{Sound, held_laid, read_sound}
use Rattle.protocol_laws.proofs.MessagesForth.{read_whole, read_short, print_as}
use Rattle.std.specs.Prelude.{Ok, Err}

module _ (tx rs nd : List ℕ) (message : Message) (tx' rs' nd' : List ℕ) where
  abbrev accepted : Left Message
  accepted = record { answer = Ok message; text = tx'; rows = rs'; nodes = nd' }

  -- the message is laid out at the start of the memory
  record LaidAs (l : Laid) : Type 0 where
    fields : l.message ≡ message
    text_rest : List ℕ
    text : tx' ≡ l.piece.text ++ text_rest
    rows_rest : List ℕ
    rows : rs' ≡ l.piece.rows 0 0 ++ rows_rest
    nodes_rest : List ℕ
    nodes : nd' ≡ l.piece.nodes 0 0 ++ nodes_rest

  not_kept : {X : Type 0} (e : Refusal) → kept e tx rs nd ≡ accepted → X
  not_kept e h = let a = ap (λ (x : Left Message). x.answer) h in never cc

  fitted_laid : (l : Laid) → fitted l.message (taken_by l) tx rs nd ≡ accepted → LaidAs l
  unfolding fitted
  fitted_laid l =
      let T : List ℕ = l.piece.text in
      let R : List ℕ = l.piece.rows 0 0 in
      let D : List ℕ = l.piece.nodes 0 0 in
      let P : Left Message → Type 0 = λ x. x ≡ accepted → LaidAs l in
      pick_cases P (ltb (length tx) (length T)) (λ _. not_kept _)
      (λ t. pick_cases P (ltb (length rs) (length R)) (λ _. not_kept _)
      (λ r. pick_cases P (ltb (length nd) (length D)) (λ _. not_kept _)
      (λ n h.
      let a = ap (λ (x : Left Message). x.answer) h in
      record {
        fields = cc;
        text_rest = replicate (length tx - length T) 0;
        text = sym (ap (λ (x : Left Message). x.text) h) ∙ filled_fits tx T (ltb-false (length tx) (length T) t);
        rows_rest = replicate (length rs - length R) 0;
        rows = sym (ap (λ (x : Left Message). x.rows) h) ∙ filled_fits rs R (ltb-false (length rs) (length R) r);
        nodes_rest = replicate (length nd - length D) 0;
        nodes = sym (ap (λ (x : Left Message). x.nodes) h) ∙ filled_fits nd D (ltb-false (length nd) (length D) n);
      })))

  -- so an accepted message was read and is laid out
  record Taken (g : Got Said) : Type 0 where
    said : Said
    next : ℕ
    read : g ≡ Ok (said, next)
    laid : LaidAs (lay said)

  settled_laid : (g : Got Said) → settled (λ v q. (lay v).message) (λ v. taken_by (lay v)) g tx rs nd ≡ accepted → Taken g
  unfolding settled
  settled_laid (Ok (m, q)) h = record { said = m; next = q; read = refl; laid = fitted_laid (lay m) h }
  settled_laid (Err e) h = not_kept e h

-- what is laid out there is encoded to its bytes
laid_encoded : (max limit : ℕ) (m : Said) → Sound limit m → (tx rs nd X Y Z d : List ℕ) (message : Message) → (lay m).message ≡ message
    → tx ≡ (lay m).piece.text ++ X → rs ≡ (lay m).piece.rows 0 0 ++ Y → nd ≡ (lay m).piece.nodes 0 0 ++ Z
    → encode_message max limit message tx rs nd d ≡ send max (print_said m) d
unfolding encode_message sent
laid_encoded max limit m o tx rs nd X Y Z d message f t r n = rw (← f, t, r, n, held_laid limit m o X Y Z)

module _ (max limit : ℕ) (s : List ℕ) (message : Message) (tx rs nd : List ℕ) (h : Decoded max limit s message tx rs nd) (out : List ℕ) where
  taken : Taken h.t h.r h.k message tx rs nd (read_message max limit h.entry s)
  unfolding decode_message
  taken = settled_laid h.t h.r h.k message tx rs nd (read_message max limit h.entry s) h.left

  -- encoding it with what these buffers then hold is to send s
  sent_again : encode_message max limit message tx rs nd out ≡ send max s out
  sent_again =
      let l = taken.laid in
      let r = read_whole max limit h.entry s taken.said taken.next h.canonical taken.read in
      laid_encoded max limit taken.said (read_sound limit r h.bytes) tx rs nd l.text_rest l.rows_rest l.nodes_rest out message l.fields l.text
      l.rows l.nodes
      ∙ ap (λ (x : List ℕ). send max x out) (print_as r h.bytes)

-- For any limits: a payload over max is not decoded, so only out may be too short.
pub decoded_sent : (max limit : ℕ) → BytesReturn max limit
unfolding send
decoded_sent max limit s message tx rs nd h out =
    let g = taken max limit s message tx rs nd h out in
    sent_again max limit s message tx rs nd h out
    ∙ rw (le-ltb max (length s) (read_short max limit h.entry s g.said g.next h.canonical g.read))

-- on the wire
pub encode_decoded : EncodeDecoded
encode_decoded = decoded_sent 67108864 64
