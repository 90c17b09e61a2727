-- A free text that is held: its bytes are there, and they are UTF-8.
use mathlib.Core.Bool.{Bool, true, false}
use mathlib.Core.Path.{◌≡◌, refl}
use mathlib.Core.List.{List}
use Prim.Native.Nat.{ℕ, ◌+◌}
use borrow.Author.Tests.{ltb-false}
use lib.Dec.{ltb}
use lib.ListN.{length}
use Rattle.varint.specs.Choice.{pick}
use Rattle.varint.specs.Gathering.{held, lacks, text_held}
use Rattle.varint.specs.Stores.{part}
use Rattle.varint.specs.Utf8.{utf8, utf8_at}
use Rattle.varint.specs.declared.error.Fault.TheVariants.{Texts}
use Rattle.varint.specs.declared.error.Refusal.TheVariants.{BadMessage, BadString}
use Rattle.varint.proofs.Utf8Laws.{utf8_at_in}
use Rattle.desc.specs.Emitting.{verdict, then_names}
use Rattle.protocol.specs.Page.{raw_held}
use Rattle.std.specs.Prelude.{Ok, Err}

pub text_told : (tx : List ℕ) (start len : ℕ) → verdict (text_held tx start len) ≡ then_names (verdict (raw_held tx start len)) (pick (utf8_at tx start len) (Ok tt) (Err BadString))
unfolding verdict raw_held text_held then_names
text_told tx start len = go (ltb (length tx) (start + len)) refl
  where
    of : (b : Bool) → verdict {A = List ℕ} (pick b (held (part tx start len)) (lacks BadString)) ≡ pick b (Ok tt) (Err BadString)
    of true = refl
    of false = refl

    go : (b : Bool) → ltb (length tx) (start + len) ≡ b
        → verdict {A = List ℕ} (pick b (lacks (BadMessage Texts)) (pick (utf8 (part tx start len)) (held (part tx start len)) (lacks BadString)))
        ≡ then_names (verdict {A = List ℕ} (pick b (lacks (BadMessage Texts)) (held (part tx start len)))) (pick (utf8_at tx start len) (Ok tt) (Err BadString))
    go true i = refl
    go false i = rw (utf8_at_in tx start len (ltb-false (length tx) (start + len) i)) (of (utf8 (part tx start len)))
