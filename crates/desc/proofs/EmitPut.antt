-- What the recursive writer leaves of a table that was found to be laid out.
use mathlib.Core.Path.{◌≡◌}
use mathlib.Core.List.{List}
use Prim.Native.Nat.{ℕ}
use Rattle.varint.specs.Got.{Got}
use Rattle.varint.specs.Inner.Again.{Accepted}
use Rattle.varint.proofs.Basics.{never}
use Rattle.desc.specs.Emitting.{Pen, sized, emitted_to}
use Rattle.desc.specs.Inner.Emission.{emission, told, put_at}
use Rattle.desc.specs.Layout.{NameSpan}
use Rattle.desc.specs.Trees.{Tree}
use Rattle.std.specs.Prelude.{Ok, Err, Some, None, Option}

-- it is written
pub put_told : (tx : List ℕ) (D : Got (Tree NameSpan)) (s o : Pen) (R : Option ℕ) → Accepted D → told R o ≡ emission tx D s → o ≡ put_at tx D s
unfolding told emission put_at
put_told tx (Ok (tree, next)) s o (Some m) a h = cc
put_told tx (Ok (tree, next)) s o None a h = never cc
put_told tx (Err e) s o R a h = absurd a

-- where a size was told
pub laid_out : (D : Got (Tree NameSpan)) {next place : ℕ} → Some (emitted_to next place) ≡ sized D → Accepted D
unfolding sized
laid_out (Ok (tree, next)) h = tt
laid_out (Err e) h = never cc
