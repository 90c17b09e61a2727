-- Zigzag is a bijection between the signed and the unsigned numbers of 64 bits.
use mathlib.Core.Path.{◌≡◌, ◌∙◌, ap}
use mathlib.Core.Logic.{⊎_elim}
use mathlib.Core.List.{List, ◌++◌}
use Prim.Native.Nat.{ℕ, ◌+◌, ◌*◌, ◌/◌, ◌%◌, ◌^◌, ◌≤◌, ◌<◌}
use native.Mathlib.Nat.{eq-zero-or-pos}
use native.Mathlib.Omega.{arith}
use lib.ListN.{length}
use lib.IntN.{ℤ, pos, negsuc}
use mir.Syntax.{w64}
use mir.Val.{SFits}
use borrow.Author.Tests.{ne_eqb}
use Rattle.varint.specs.Leb128.{put_u64}
use Rattle.varint.specs.Stores.{filled}
use Rattle.varint.specs.Zigzag.{zig, unzig, get_i64}
use Rattle.varint.proofs.VarintLaws.{get_put, get_filled}
use Rattle.std.specs.Prelude.{Ok}

pub unzig_even : (u : ℕ) → u % 2 ≡ 0 → unzig u ≡ pos (u / 2)
unfolding unzig
unzig_even u h = rw h

pub unzig_odd : (u : ℕ) → (u % 2 ≡ 0 → ⊥) → unzig u ≡ negsuc (u / 2)
unfolding unzig
unzig_odd u h = rw (ne_eqb (u % 2) 0 h)

-- each undoes the other
pub unzig_zig : (z : ℤ) → unzig (zig z) ≡ z
unfolding zig
unzig_zig (pos n) = unzig_even (n * 2) (omega arith) ∙ ap pos (omega arith)
unzig_zig (negsuc n) = unzig_odd (n * 2 + 1) (λ (h : (n * 2 + 1) % 2 ≡ 0). omega arith) ∙ ap negsuc (omega arith)

pub zig_unzig : (u : ℕ) → zig (unzig u) ≡ u
unfolding zig
zig_unzig u =
    ⊎_elim
    (λ (e : u % 2 ≡ 0). ap zig (unzig_even u e) ∙ omega arith)
    (λ (e : 0 < u % 2). ap zig (unzig_odd u (λ (h : u % 2 ≡ 0). omega arith)) ∙ omega arith)
    (eq-zero-or-pos (u % 2))

-- the signed numbers of 64 bits go to the unsigned ones, and back
pub zig_fits : (z : ℤ) → SFits w64 z → zig z < 2 ^ 64
unfolding zig
zig_fits (pos n) f = let h = f.sfits in omega arith
zig_fits (negsuc n) f = let h = f.sfits in omega arith

pub unzig_fits : (u : ℕ) → u < 2 ^ 64 → SFits w64 (unzig u)
unzig_fits u h =
    ⊎_elim
    (λ (e : u % 2 ≡ 0). rw (unzig_even u e) (record { sfits = omega arith }))
    (λ (e : 0 < u % 2). rw (unzig_odd u (λ (k : u % 2 ≡ 0). omega arith)) (record { sfits = omega arith }))
    (eq-zero-or-pos (u % 2))

-- reading the zigzag varint that was written gives the number back, wherever it stands
pub get_put_signed : (z : ℤ) (before rest : List ℕ) → SFits w64 z
    → get_i64 (before ++ (put_u64 (zig z) ++ rest)) (length before) ≡ Ok (z, (length before + length (put_u64 (zig z))))
get_put_signed z before rest f = rw (get_put (zig z) before rest (zig_fits z f), unzig_zig z)

-- so from the start of a buffer into which it was written alone
pub get_filled_signed : (d : List ℕ) (z : ℤ) → SFits w64 z → 10 ≤ length d → get_i64 (filled d (put_u64 (zig z))) 0 ≡ Ok (z, (length (put_u64 (zig z))))
get_filled_signed d z f room = rw (get_filled d (zig z) (zig_fits z f) room, unzig_zig z)
