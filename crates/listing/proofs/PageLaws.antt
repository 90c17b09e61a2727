-- Stores on a page: behind a part of it, in a part of it, and past its end.
use mathlib.Core.Path.{◌≡◌, sym, ◌∙◌}
use mathlib.Core.Logic.{⊎_elim}
use mathlib.Core.List.{List}
use Prim.Native.Nat.{ℕ, ◌-◌, ◌≤◌, ◌<◌, min}
use native.Mathlib.Omega.{arith}
use borrow.Rule.Slice.PartMut.{mid_of, put_mid}
use lib.ListN.{length}
use lib.Seq.{sets}
use Rattle.varint.proofs.Basics.{below}
use Rattle.varint.proofs.StoreLaws.{sets_out, sets_part}

-- one place past the end is as good as another
pub sets_past : (x d : List ℕ) (at most : ℕ) → length d ≤ most → sets d (min at most) x ≡ sets d at x
sets_past x d at most h =
    ⊎_elim
    (λ (m : most < at).
    let e : min at most ≡ most = omega arith in
    rw e (sets_out x d most h ∙ sym (sets_out x d at (omega arith))))
    (λ (m : at ≤ most). let e : min at most ≡ at = omega arith in rw e)
    (below most at)

-- a text in the part of the page from `from` on, the place `at` or the page's end
pub placed : (x d : List ℕ) (at from : ℕ) {part : List ℕ} → from ≡ min at (length d) → part ≡ sets (mid_of from (length d - from) d) 0 x
    → put_mid from (length d - from) d part ≡ sets d at x
placed x d at from e f =
    let k : from ≤ length d = omega arith in
    rw f (sets_part x d from k ∙ rw e (sets_past x d at (length d) (omega arith)))
