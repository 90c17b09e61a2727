-- A startup's mode, and its version, which is told last.
use mathlib.Core.Path.{◌≡◌, refl, sym, ◌∙◌, ap}
use mathlib.Core.List.{List}
use Rattle.varint.specs.Formats.{name}
use Rattle.varint.specs.Leb128.{get_u64}
use Rattle.varint.specs.declared.text.Span.{Span}
use Rattle.protocol.specs.Inner.Loading.{Mem, put, told, load, laid_as, says}
use Rattle.protocol.specs.Laying.{span_of}
use Rattle.protocol.specs.Pieces.{words, many}
use Rattle.protocol.specs.declared.message.Message.TheVariants as Msg
use Rattle.protocol.specs.declared.message.RowKind.TheVariants as K
use Rattle.protocol.proofs.MessageFields.{startup_read}
use Rattle.protocol.proofs.MessageReads.{laid_read}
use Rattle.protocol.proofs.PieceLaws.{put_join}
use Rattle.protocol.proofs.RowMessages.{Rows}
use Rattle.protocol.proofs.TextsRead.{Kept, kept_span}
use Prim.Native.Nat.{ℕ}
use Rattle.protocol.specs.Fields.{mode}
use Rattle.protocol.specs.Startup.{Startup, startup, read_startup, lay_claim, lay_startup}
use Rattle.protocol.specs.declared.message.Mode.{Mode}
use Rattle.std.specs.Prelude.{Ok}

-- a startup, field by field, and read into a memory of which nothing is taken
module _ (s : List ℕ) (m : Mem) {m₁ m₂ : Mem} {p : ℕ} {database : Span} {q count at e : ℕ} (w : Kept s (name.read s p) p m m₁ database q)
    (v : Rows K.Claim count s at m₁ e m₂) where
  abbrev laid : ℕ → Mode → ℕ → Startup
  laid version b f = record { version = version; database = w.value; mode = b; fingerprint = f; claims = v.list }

  pub startup_fields : {version r f u : ℕ} {b : Mode} → get_u64 s 0 ≡ Ok (version, p) → mode.read s q ≡ Ok (b, r) → get_u64 s r ≡ Ok (f, u) → get_u64 s u ≡ Ok (count, at)
      → startup.read s 0 ≡ Ok (laid version b f, e)
  startup_fields h i j k = startup_read s h w.is i j k v.is

  pub startup_into : {version f n : ℕ} {b : Mode} → read_startup s ≡ Ok (laid version b f, e) → m.t ≡ 0 → n ≡ version
      → told (Ok (Msg.Startup n database b f count)) m₂ ≡ load says (λ l. l.piece) (laid_as lay_startup (read_startup s)) m
  unfolding lay_startup
  startup_into {version} {f} {n} {b} h z i =
      laid_read (ap (laid_as lay_startup) h) m m₂
      (ap (λ (k : ℕ). Msg.Startup k database b f count) i
      ∙ ap (λ (x : Span). Msg.Startup version x b f count) (kept_span w z)
      ∙ ap (Msg.Startup version (span_of 0 w.value) b f) v.counted)
      (v.left ∙ ap (put (many lay_claim v.list)) w.left ∙ sym (put_join (words w.value) (many lay_claim v.list) m (λ t k. refl)))
