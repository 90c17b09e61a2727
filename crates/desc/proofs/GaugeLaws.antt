-- Steps of a gauge, which stores nothing: how far a number, a tag and a name move its pen.
use mathlib.Core.Path.{◌≡◌, sym, ap, ◌∙◌}
use mathlib.Core.List.{List, []}
use Prim.Native.Nat.{ℕ, ◌+◌, ◌≤◌}
use native.Mathlib.Omega.{arith}
use lib.ListN.{length}
use Rattle.varint.specs.Leb128.{put_u64}
use Rattle.varint.specs.Outs.{declared}
use Rattle.varint.specs.Stores.{part}
use Rattle.varint.proofs.StoreLaws.{sets_out}
use Rattle.desc.specs.Emitting.{Pen, put_bytes, put_number, put_name}
use Rattle.desc.specs.Layout.{NameSpan}

module _ (at r : ℕ) where
  past : length {A = ℕ} [] ≤ at
  past = omega arith

  pub number_gauged : (v n : ℕ) → n ≡ length (put_u64 v) → r ≡ declared (at + n) → ◌≡◌ {A = Pen} (record { out = []; place = r }) (put_number v (record { out = []; place = at }))
  unfolding put_number put_bytes
  number_gauged v n e h = λ i. record { out = sym (sets_out (put_u64 v) [] at past) i; place = (h ∙ ap (λ (k : ℕ). declared (at + k)) e) i }

  pub name_gauged : (tx : List ℕ) (name : NameSpan) → r ≡ declared (at + name.1) → ◌≡◌ {A = Pen} (record { out = []; place = r }) (put_name tx name (record { out = []; place = at }))
  unfolding put_name
  name_gauged tx name h = λ i. record { out = sym (sets_out (part tx name.0 name.1) [] at past) i; place = h i }
