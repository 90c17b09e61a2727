-- The ways out of the encoder: a refusal of the message; a payload that is too long, that does not fit, or that is written.
use mathlib.Core.Path.{◌≡◌, refl, sym, ap, ◌∙◌}
use mathlib.Core.List.{List, []}
use Prim.Native.Nat.{ℕ, ◌+◌, ◌≤◌, ◌<◌}
use native.Mathlib.Omega.{arith}
use lib.ListN.{length}
use lib.Seq.{sets}
use Rattle.varint.specs.Gathering.{Held, held, lacks}
use Rattle.varint.specs.Outs.{declared, send, sent}
use Rattle.varint.specs.Stores.{clear_from}
use Rattle.varint.specs.declared.error.Buffer.TheVariants.{Out}
use Rattle.varint.specs.declared.error.Refusal.{Refusal}
use Rattle.varint.specs.declared.error.Refusal.TheVariants.{BlockTooLarge, TooSmall}
use Rattle.desc.specs.Emitting.{Pen, put_bytes, verdict}
use Rattle.desc.proofs.EmitPrint.{Roomy}
use Rattle.desc.proofs.EmitWhole.{refused_of}
use Rattle.protocol.specs.Encoding.{held_said, encode_message}
use Rattle.protocol.specs.Said.{Said, print_said}
use Rattle.protocol.specs.declared.message.Message.{Message}
use Rattle.protocol_write.specs.Inner.Checking.{fine, size_if}
use Rattle.protocol_write.proofs.TypeSizes.{sized_good, sized_bad}
use Rattle.protocol_write.specs.Inner.Writing.{put_message, size_of}
use Rattle.protocol_write.proofs.MessagePrints.{write_said}
use Rattle.protocol_write.proofs.Printing.{Prints}
use Rattle.protocol_write.proofs.Sends.{send_big, send_small, send_done}
use Rattle.protocol_write.proofs.Verdicts.{fine_said}
use Rattle.varint.proofs.Basics.{never}
use Rattle.std.specs.Prelude.{Ok, Err, Result}

-- what is said
record Whole {A : Type 0} (H : Held A) : Type 0 where
  value : A
  is : H ≡ held value

whole : {A : Type 0} (H : Held A) → verdict H ≡ Ok tt → Whole H
unfolding verdict
whole (held a) h = record { value = a; is = refl }
whole (lacks e) h = never cc

module _ (max limit : ℕ) (m : Message) (tx rs nd d : List ℕ) (v : Result ℕ Refusal) (tests : v ≡ size_if (fine limit m tx rs nd) (size_of limit m tx rs nd)) where
  pub encode_refused : (e : Refusal) → v ≡ Err e → record { answer = Err e; out = d } ≡ encode_message max limit m tx rs nd d
  unfolding encode_message sent
  encode_refused e h = rw (refused_of (held_said limit m tx rs nd) e (fine_said limit tx rs nd m ∙ sized_bad _ _ (sym tests ∙ h)))

  module _ (n : ℕ) (good : v ≡ Ok n) where
    pub encode_fine : fine limit m tx rs nd ≡ Ok tt
    encode_fine = (sized_good _ _ (sym tests ∙ good)).0

    said : Whole (held_said limit m tx rs nd)
    said = whole (held_said limit m tx rs nd) (fine_said limit tx rs nd m ∙ encode_fine)

    abbrev bytes : List ℕ
    bytes = print_said said.value

    prints : Prints (put_message limit m tx rs nd) bytes
    prints = write_said limit tx rs nd m said.value said.is

    sends : send max bytes d ≡ encode_message max limit m tx rs nd d
    unfolding encode_message sent
    sends = ap (λ (H : Held Said). sent max print_said H d) (sym said.is)

    size_is : n ≡ declared (length bytes)
    unfolding size_of put_bytes
    size_is =
        let s : Pen = record { out = []; place = 0 } in
        let r : Roomy s = record { short = omega arith; inside = omega arith } in
        let e : 0 + length bytes ≡ length bytes = omega arith in
        (sized_good _ _ (sym tests ∙ good)).1 ∙ ap (λ (k : Pen). k.place) (prints.stores s r) ∙ ap declared e

    pub encode_big : max < n → record { answer = Err (BlockTooLarge n max); out = d } ≡ encode_message max limit m tx rs nd d
    encode_big h = send_big max bytes d n size_is h ∙ sends

    module _ (small : n ≤ max) (bound : max ≤ 4294967296) where
      pub encode_small : length d < n → record { answer = Err (TooSmall Out n); out = d } ≡ encode_message max limit m tx rs nd d
      encode_small h = send_small max bytes d n size_is small bound h ∙ sends

      pub encode_done : (d₁ d₂ : List ℕ) → length d < 18446744073709551616 → n ≤ length d
          → d₁ ≡ (put_message limit m tx rs nd (record { out = d; place = 0 })).out → d₂ ≡ clear_from d₁ n
          → record { answer = Ok n; out = d₂ } ≡ encode_message max limit m tx rs nd d
      unfolding put_bytes
      encode_done d₁ d₂ l h is c =
          let s : Pen = record { out = d; place = 0 } in
          let r : Roomy s = record { short = omega arith; inside = omega arith } in
          let e : d₁ ≡ sets d 0 bytes = is ∙ ap (λ (k : Pen). k.out) (prints.stores s r) in
          send_done max bytes d n size_is small bound h e c ∙ sends
