-- Only what is printed is read: proved once for each way to build a format.
use mathlib.Core.Path.{◌≡◌, refl, sym, ◌∙◌, ap, subst}
use mathlib.Core.List.{List, ◌++◌, append_assoc}
use Prim.Native.Nat.{ℕ, zero, suc, ◌+◌, ◌-◌, ◌≤◌}
use native.Mathlib.Omega.{arith}
use lib.ListN.{length, drop, length-append, take-append-drop}
use lib.Seq.{drop-drop}
use Rattle.varint.specs.Fixed.{put_le}
use Rattle.varint.specs.Formats.{Format, varint, fixed, text, name, ◌⊗◌, named, print_all, counted}
use Rattle.varint.specs.Leb128.{get_u64, put_u64}
use Rattle.varint.specs.RoundTrips.{Bytes, Stands, Forth}
use Rattle.varint.specs.Stores.{part}
use Rattle.varint.specs.Texts.{get_name}
use Rattle.varint.proofs.FixedLaws.{get_le_ends, get_le_unique}
use Rattle.varint.proofs.FormatParts.{pair_went, named_went, times, times_zero, times_suc, times_length, counted_went, num_inside, text_at, text_inside, text_got}
use Rattle.varint.proofs.StoreLaws.{length_part}
use Rattle.varint.proofs.VarintLaws.{get_unique}
use Rattle.std.specs.Prelude.{Ok}

-- a part of a list stands in it
pub part_stands : (s : List ℕ) (at n q : ℕ) (x : List ℕ) → at + n ≡ q → q ≤ length s → part s at n ≡ x → Stands x s at q
unfolding part
part_stands s at n q x k h e =
    let l : length x ≡ n = sym (ap length e) ∙ length_part s at n (omega arith) in
    record { bytes = sym (take-append-drop n (drop at s)) ∙ rw (e, drop-drop, k); next = omega arith; inside = h }

-- one after the other
pub joined : (x y s : List ℕ) (at p q : ℕ) → Stands x s at p → Stands y s p q → Stands (x ++ y) s at q
joined x y s at p q i j =
    let l = length-append x y in
    record {
      bytes = i.bytes ∙ ap (λ (z : List ℕ). x ++ z) j.bytes ∙ sym (append_assoc x y (drop q s));
      next = omega arith;
      inside = j.inside;
    }

number_stands : (s : List ℕ) (at n q : ℕ) → Bytes s → get_u64 s at ≡ Ok (n, q) → Stands (put_u64 n) s at q
number_stands s at n q B e =
    let i = num_inside s at n q e in
    part_stands s at (q - at) q (put_u64 n) (omega arith) i.1 (get_unique s at n q B e)

pub varint_forth : Forth varint
varint_forth = record { forth = λ s at n q B h e. number_stands s at n q B e }

pub fixed_forth : (w : ℕ) → Forth (fixed w)
fixed_forth w =
    record {
      forth = λ s at n q B h e.
          let i = get_le_ends w s at n q h e in
          part_stands s at w q (put_le w n) (sym i.0) i.1 (get_le_unique w s at n q B e);
    }

pub text_forth : Forth text
text_forth =
    record {
      forth = λ s at t q B h e.
          let x = text_got s at t q e in
          let y = text_at s at x.start x.size q x.is in
          let i = text_inside s at x.start x.size q x.is in
          joined (put_u64 (length t)) t s at x.start q
          (subst (λ (n : ℕ). Stands (put_u64 n) s at x.start) (sym x.long) (number_stands s at x.size x.start B y.size))
          (part_stands s x.start x.size q t y.next i.2 (sym x.bytes));
    }

pub name_forth : Forth name
unfolding get_name
name_forth = text_forth

pub pair_forth : {A B : Type 0} {f : Format A} {g : Format B} → Forth f → Forth g → Forth (f ⊗ g)
pair_forth {f = f} {g = g} F G =
    record {
      forth = λ s at c q B h e.
          let x = pair_went f g s at c q e in
          let i = F.forth s at c.0 x.next B h x.first in
          joined (f.print c.0) (g.print c.1) s at x.next q i (G.forth s x.next c.1 q B i.inside x.second);
    }

pub named_forth : {A B : Type 0} {f : Format A} (to : A → B) (from : B → A) → ((a : A) → from (to a) ≡ a)
    → Forth f → Forth (named to from f)
named_forth {A = A} {f = f} to from same F =
    record {
      forth = λ s at b q B h e.
          let x = named_went to from f s at b q e in
          let v : x.value ≡ from b = sym (ap from x.is ∙ same x.value) in
          subst (λ (a : A). Stands (f.print a) s at q) v (F.forth s at x.value q B h x.read);
    }

pub times_forth : {A : Type 0} {f : Format A} → Forth f → (n : ℕ) → Forth (times f n)
unfolding print_all
times_forth {f = f} F zero =
    record {
      forth = λ s at l q B h e.
          let x = times_zero f s at l q e in
          rw (x.list, x.place) (record { bytes = refl; next = omega arith; inside = h });
    }
times_forth {f = f} F (suc n) =
    record {
      forth = λ s at l q B h e.
          let x = times_suc f n s at l q e in
          let i = F.forth s at x.value x.next B h x.first in
          let j = (times_forth F n).forth s x.next x.others q B i.inside x.rest in
          rw x.list (joined (f.print x.value) (print_all f x.others) s at x.next q i j);
    }

pub counted_forth : {A : Type 0} {f : Format A} → Forth f → Forth (counted f)
counted_forth {f = f} F =
    record {
      forth = λ s at l q B h e.
          let x = counted_went f s at l q e in
          let i = number_stands s at x.count x.next B x.first in
          let j = (times_forth F x.count).forth s x.next l q B i.inside x.rest in
          let n = times_length f x.count s x.next l q x.rest in
          joined (put_u64 (length l)) (print_all f l) s at x.next q (subst (λ (m : ℕ). Stands (put_u64 m) s at x.next) (sym n) i) j;
    }
