use mathlib.Core.Path.{◌≡◌, sym, ◌∙◌, ap}
use mathlib.Core.List.{List}
use Prim.Native.Nat.{ℕ, ◌-◌, min, ◌≤◌}
use native.Mathlib.Omega.{arith}
use lib.ListN.{length}
use lib.Seq.{sets}
use Rattle.varint.specs.Stores.{part}
use Rattle.varint.proofs.StoreLaws.{sets_out, sets_part_clip, part_past}
use Rattle.varint.proofs.store.copy_bytes.Goals as goal

-- the run that lies inside both is all that is stored
clipped : (s : List ℕ) (from n : ℕ) (d : List ℕ) (at m : ℕ) {d' : List ℕ} → m ≡ min n (min (length s - from) (length d - at))
    → d' ≡ sets d at (part s from m) → d' ≡ sets d at (part s from n)
clipped s from n d at m h e = e ∙ rw h (sets_part_clip s from n d at)

pub returns-then-src-from : goal.returns-then-src-from
returns-then-src-from c =
    let a = c.args in
    let h : length a.src.now ≤ a.from = omega arith in
    sym (ap (sets a.dst.now a.at) (part_past a.src.now a.from a.len h))

pub returns-then-dst-at : goal.returns-then-dst-at
returns-then-dst-at c =
    let a = c.args in
    let h : length a.dst.now ≤ a.at = omega arith in
    sym (sets_out (part a.src.now a.from a.len) a.dst.now a.at h)

pub returns : goal.returns
returns c = let a = c.args in clipped a.src.now a.from a.len a.dst.now a.at c.min-n.result (omega (arith, c.min.ensures, c.min-n.ensures)) c.copy_run.ensures
