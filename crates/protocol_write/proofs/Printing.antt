-- What the writers store is what is printed, for a message that the memory holds.
use mathlib.Core.Bool.{Bool, true, false}
use mathlib.Core.Path.{◌≡◌, refl, ◌∙◌, ap}
use mathlib.Core.List.{List, [], ◌∷◌, ◌++◌}
use Prim.Native.Nat.{ℕ, zero, suc, ◌+◌}
use lib.ListN.{length}
use Rattle.varint.specs.Fixed.{put_le}
use Rattle.varint.specs.Got.{Got}
use Rattle.varint.specs.Formats.{Format, print_text, print_all}
use Rattle.varint.specs.Gathering.{Held, held, lacks, then_held, name_held}
use Rattle.varint.specs.Leb128.{put_by, put_u64}
use Rattle.varint.proofs.Basics.{never}
use Rattle.desc.specs.Emitting.{Pen, put_bytes, put_number}
use Rattle.desc.specs.Encoding.{held_in}
use Rattle.desc.specs.Inner.Emission.{put_at}
use Rattle.desc.specs.Layout.{NameSpan}
use Rattle.desc.specs.Printing.{print}
use Rattle.desc.specs.Trees.{Tree}
use Rattle.desc.proofs.EmitPrint.{Roomy, roomy_put, two, nothing, NameIs, name_is, put_print}
use Rattle.protocol.specs.Fields.{bit}
use Rattle.protocol.specs.Rows.{width_of}
use Rattle.protocol.specs.RowsHeld.{held_times}
use Rattle.protocol.specs.declared.message.RowKind.{RowKind}
use Rattle.protocol_write.specs.Inner.Writing.{put_byte, put_flag, put_fixed, put_two, put_text, put_row, put_rows}
use Rattle.std.specs.Prelude.{Ok, Err}

-- what the memory holds, taken apart
pub record Took {A B : Type 0} (h : Held A) (k : A → Held B) (b : B) : Type 0 where
  pub value : A
  pub is : h ≡ held value
  pub rest : k value ≡ held b

pub took : {A B : Type 0} (h : Held A) (k : A → Held B) (b : B) → then_held h k ≡ held b → Took h k b
took (held a) k b e = record { value = a; is = refl; rest = e }
took (lacks x) k b e = never cc

pub held_same : {A : Type 0} {a b : A} → held a ≡ held b → a ≡ b
held_same e = cc

-- w stores the bytes x
pub record Prints (w : Pen → Pen) (x : List ℕ) : Type 0 where
  pub stores : (s : Pen) → Roomy s → w s ≡ put_bytes x s

-- one writer after another
pub prints_then : {v w : Pen → Pen} {x y : List ℕ} → Prints v x → Prints w y → Prints (λ s. w (v s)) (x ++ y)
prints_then {v} {w} {x} {y} p q =
    record { stores = λ s h. ap w (p.stores s h) ∙ q.stores (put_bytes x s) (roomy_put x s h) ∙ two x y s h }

pub prints_number : (v : ℕ) → Prints (put_number v) (put_u64 v)
unfolding put_number
prints_number v = record { stores = λ s h. refl }

pub number_same : {v w : ℕ} → v ≡ w → Prints (put_number v) (put_u64 w)
number_same {v} {w} e = rw e (prints_number w)

pub prints_two : (v w : ℕ) → Prints (put_two v w) (put_u64 v ++ put_u64 w)
unfolding put_two
prints_two v w = prints_then (prints_number v) (prints_number w)

pub prints_byte : (b : ℕ) → Prints (put_byte b) (b ∷ [])
unfolding put_byte
prints_byte b = record { stores = λ s h. refl }

pub prints_flag : (b : Bool) → Prints (put_flag b) (bit b ∷ [])
unfolding put_flag
prints_flag b = prints_byte (bit b)

-- a flag as a varint is the same byte
wide_flag_lem : (b : Bool) → put_u64 (bit b) ≡ bit b ∷ []
unfolding put_u64 put_by
wide_flag_lem true = refl
wide_flag_lem false = refl

pub prints_wide : (b : Bool) → Prints (put_flag b) (put_u64 (bit b))
prints_wide b = rw (wide_flag_lem b) (prints_flag b)

pub prints_fixed : (w v : ℕ) → Prints (put_fixed w v) (put_le w v)
unfolding put_fixed
prints_fixed w v = record { stores = λ s h. refl }

pub fixed_same : (w : ℕ) {v u : ℕ} → v ≡ u → Prints (put_fixed w v) (put_le w u)
fixed_same w {v} {u} e = rw e (prints_fixed w u)

pub prints_text : (tx : List ℕ) (start len : ℕ) (x : List ℕ) → name_held tx start len ≡ held x → Prints (put_text tx start len) (print_text x)
unfolding put_text
prints_text tx start len x e =
    let n : NameIs tx start len (held x) = rw e at (name_is tx start len) in
    prints_then (number_same n.0) (record { stores = λ s h. n.1 s })

pub prints_tree : (tx : List ℕ) (D : Got (Tree NameSpan)) (u : Tree (List ℕ)) → held_in D tx ≡ held u → Prints (put_at tx D) (print u)
unfolding held_in put_at
prints_tree tx (Ok (t, e)) u h = record { stores = λ s r. put_print tx t u s h r }
prints_tree tx (Err x) u h = never cc

-- Rows

pub times_length : {A : Type 0} (row : ℕ → Held A) (w n r : ℕ) (l : List A) → held_times row w n r ≡ held l → n ≡ length l
unfolding held_times
times_length row w zero r l e = let q : [] ≡ l = held_same e in rw (← q) refl
times_length row w (suc n) r l e =
    let a = took (row r) (λ x. then_held (held_times row w n (r + w)) (λ k. held (x ∷ k))) l e in
    let b = took (held_times row w n (r + w)) (λ k. held (a.value ∷ k)) l a.rest in
    let q : a.value ∷ b.value ≡ l = held_same b.rest in
    ap suc (times_length row w n (r + w) b.value b.is) ∙ ap length q

module _ {A : Type 0} (f : Format A) (row : ℕ → Held A) (kind : RowKind) (limit : ℕ) (tx rs nd : List ℕ)
    (prints : (r : ℕ) (a : A) → row r ≡ held a → Prints (put_row kind limit tx rs nd r) (f.print a)) where
  pub prints_rows : (n r : ℕ) (l : List A) → held_times row (width_of kind) n r ≡ held l → Prints (put_rows kind limit tx rs nd n r) (print_all f l)
  unfolding held_times put_rows print_all
  prints_rows zero r l e = let q : [] ≡ l = held_same e in rw (← q) (record { stores = λ s h. nothing s h })
  prints_rows (suc n) r l e =
      let a = took (row r) (λ x. then_held (held_times row (width_of kind) n (r + width_of kind)) (λ k. held (x ∷ k))) l e in
      let b = took (held_times row (width_of kind) n (r + width_of kind)) (λ k. held (a.value ∷ k)) l a.rest in
      let q : a.value ∷ b.value ≡ l = held_same b.rest in
      rw (← q)
      (prints_then (prints r a.value a.is) (prints_rows n (r + width_of kind) b.value b.is))
