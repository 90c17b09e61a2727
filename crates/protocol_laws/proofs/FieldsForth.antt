-- Only what is printed is read: the fields of the messages that have one encoding.
use mathlib.Core.Bool.{Bool, true}
use mathlib.Core.Path.{◌≡◌, refl, sym, ◌∙◌, ap, subst}
use mathlib.Core.List.{List, [], ◌∷◌, ◌++◌, append-nil}
use Prim.Native.Nat.{ℕ, ◌+◌, ◌-◌, ◌*◌, ◌/◌, ◌%◌, ◌≤◌}
use native.Mathlib.Numerals.{add-one}
use native.Mathlib.Omega.{arith}
use lib.Dec.{ltb, eqb}
use lib.ListN.{length, drop, length-drop}
use lib.Seq.{drop-cons, drop-length}
use borrow.Author.Tests.{ltb-true, ltb-false, eqb-true}
use Rattle.varint.specs.Choice.{pick}
use Rattle.varint.specs.Fixed.{put_le}
use Rattle.varint.specs.Got.{Got, then, got}
use Rattle.varint.specs.Formats.{Format, varint, ◌⊗◌, named, read_times, print_all}
use Rattle.varint.specs.Leb128.{put_u64}
use Rattle.varint.specs.RoundTrips.{Bytes, Stands, Forth}
use Rattle.varint.specs.Stores.{part}
use Rattle.varint.specs.Utf8.{utf8}
use Rattle.varint.specs.declared.error.Mismatch.TheVariants as M
use Rattle.varint.specs.declared.error.Refusal.{Refusal}
use Rattle.varint.specs.declared.error.Refusal.TheVariants.{UnexpectedEof, TypeMismatch, UnknownPredicate}
use Rattle.varint.proofs.Basics.{pick_cases, both}
use Rattle.varint.proofs.FormatForth.{part_stands, joined, varint_forth, fixed_forth, pair_forth, times_forth}
use Rattle.varint.proofs.FormatGives.{Gives}
use Rattle.varint.proofs.FormatParts.{went, named_went, times_length}
use Rattle.varint.proofs.Gots.{no_got, got_of}
use Rattle.varint.proofs.StoreLaws.{length_part}
use Rattle.protocol.specs.Codes.{mode_byte, mode_of}
use Rattle.protocol.specs.Fields.{provided, narrow, byte, made_at, mode, counted_to, raw, to_end}
use Rattle.protocol.specs.Fetch.{digest_on, print_digest, digest, join_id, split_id, fact_id, bad_fact, pair}
use Rattle.protocol.proofs.FieldEnds.{kept, spared, passed, byte_got, made_got, to_end_got}
use Rattle.protocol_laws.proofs.CodeRounds.{mode_only}
use Rattle.std.specs.Prelude.{Ok, Err, Option}

-- Formats

-- y is x and what stands in s from p to q
pub record Behind (x y s : List ℕ) (p q : ℕ) : Type 0 where
  pub rest : List ℕ
  pub whole : y ≡ x ++ rest
  pub stands : Stands rest s p q

-- something is read, and then as it tells
pub chain_forth : {A B : Type 0} {f : Format A} (more : A → List ℕ → ℕ → Got B) (print : B → List ℕ) → Forth f
    → ((s : List ℕ) (p : ℕ) (a : A) (b : B) (q : ℕ) → Bytes s → p ≤ length s → more a s p ≡ Ok (b, q) → Behind (f.print a) (print b) s p q)
    → Forth (record { read = λ s at. then (f.read s at) (λ a p. more a s p); print = print })
chain_forth {f = f} more print F G =
    record {
      forth = λ s at b q B h e.
          let x = went (f.read s at) _ b q e in
          let i = F.forth s at x.value x.next B h x.first in
          let g = G s x.next x.value b q B i.inside x.rest in
          rw g.whole (joined (f.print x.value) g.rest s at x.next q i g.stands);
    }

-- nothing stands at a place
nothing : (s : List ℕ) (p q : ℕ) → p ≤ length s → p ≡ q → Stands [] s p q
nothing s p q h e = record { bytes = ap (λ (k : ℕ). drop k s) e; next = omega arith; inside = omega arith }

pub provided_forth : {A : Type 0} {f : Format A} (good : A → Bool) (why : A → Refusal) → Forth f → Forth (provided good why f)
provided_forth {f = f} good why F =
    record { forth = λ s at a q B h e. F.forth s at a q B h (passed (f.read s at) good why a q e).0 }

pub provided_gives : {A : Type 0} (f : Format A) (good : A → Bool) (why : A → Refusal) → Gives (provided good why f) (λ a. good a ≡ true)
provided_gives f good why = record { gives = λ s at a q B e. (passed (f.read s at) good why a q e).1 }

-- under another name, where only some names can be told from each other
pub named_good_forth : {A B : Type 0} {f : Format A} {P : A → Type 0} (to : A → B) (from : B → A) → ((a : A) → P a → from (to a) ≡ a)
    → Gives f P → Forth f → Forth (named to from f)
named_good_forth {A = A} {f = f} to from same G F =
    record {
      forth = λ s at b q B h e.
          let x = named_went to from f s at b q e in
          let v : from b ≡ x.value = ap from x.is ∙ same x.value (G.gives s at x.value q B x.read) in
          subst (λ (a : A). Stands (f.print a) s at q) (sym v) (F.forth s at x.value q B h x.read);
    }

pub byte_forth : (missing : Refusal) → Forth (byte missing)
byte_forth missing =
    record {
      forth = λ s at b q B h e.
          let x = byte_got missing s at b q e in
          let x₀ = x.0 in
          let x₂ = x.2 in
          record { bytes = drop-cons s at 0 x.0 ∙ cc (add-one at, x.1, x.2); next = omega arith; inside = omega arith };
    }

pub mode_forth : Forth mode
mode_forth =
    chain_forth (λ b s p. made_at (mode_of b) p) (λ m. mode_byte m ∷ []) (byte_forth (TypeMismatch M.Mode))
    (λ s p b m q B h e.
    let x = made_got (mode_of b) p m q e in
    record { rest = []; whole = ap (λ (c : ℕ). c ∷ []) (mode_only b m x.0); stands = nothing s p q h x.1 })

pub counted_to_forth : {A : Type 0} {f : Format A} (limit : List ℕ → ℕ) (why : ℕ → ℕ → Refusal) → Forth f → Forth (counted_to limit why f)
counted_to_forth {f = f} limit why F =
    chain_forth (λ n s p. pick (ltb (limit s) n) (Err (why n (limit s))) (read_times f n s p)) (λ l. put_u64 (length l) ++ print_all f l) varint_forth
    (λ s p n l q B h e.
    let x = spared (ltb (limit s) n) _ _ e in
    record {
      rest = print_all f l;
      whole = ap (λ (k : ℕ). put_u64 k ++ print_all f l) (times_length f n s p l q x.1);
      stands = (times_forth F n).forth s p l q B h x.1;
    })

-- what is read is no longer than may be
pub counted_to_gives : {A : Type 0} (f : Format A) (most : ℕ) (why : ℕ → ℕ → Refusal) → Gives (counted_to (λ _. most) why f) (λ l. length l ≤ most)
counted_to_gives f most why =
    record {
      gives = λ s at l q B e.
          let x = went (varint.read s at) _ l q e in
          let y = spared (ltb most x.value) _ _ x.rest in
          rw (times_length f x.value s x.next l q y.1) (ltb-false most x.value y.0);
    }

pub raw_forth : Forth raw
raw_forth =
    chain_forth (λ n s p. pick (ltb (length s - p) n) (Err UnexpectedEof) (Ok (part s p n, p + n))) (λ x. put_le 4 (length x) ++ x) (fixed_forth 4)
    (λ s p n x q B h e.
    let y = spared (ltb (length s - p) n) _ _ e in
    let room = ltb-false (length s - p) n y.0 in
    let w = got_of y.1 in
    let l : length x ≡ n = sym (ap length w.0) ∙ length_part s p n (omega arith) in
    let w₁ = w.1 in
    record { rest = x; whole = ap (λ (k : ℕ). put_le 4 k ++ x) l; stands = part_stands s p n q x w.1 (omega arith) w.0 })

digest_on_lem : (s : List ℕ) (p b : ℕ) (d : Option ℕ) (q : ℕ) → Bytes s → p ≤ length s → digest_on b s p ≡ Ok (d, q)
    → Behind (b ∷ []) (print_digest d) s p q
digest_on_lem s p b d q B h =
    pick_cases P (eqb b 0)
    (λ t e. let w = got_of e in rw (← w.0, eqb-true b 0 t) (record { rest = []; whole = refl; stands = nothing s p q h w.1 }))
    (λ _. pick_cases P (eqb b 1)
    (λ t e.
    let x = went (varint.read s p) _ d q e in
    let w = got_of x.rest in
    let i = varint_forth.forth s p x.value q B h (x.first ∙ ap (got x.value) w.1) in
    rw (← w.0, eqb-true b 1 t) (record { rest = put_u64 x.value; whole = refl; stands = i }))
    (λ _. no_got))
  where
    P : Got (Option ℕ) → Type 0
    P x = x ≡ Ok (d, q) → Behind (b ∷ []) (print_digest d) s p q

pub digest_forth : Forth digest
digest_forth = chain_forth digest_on print_digest (byte_forth UnexpectedEof) digest_on_lem

-- Halves of an id

split_join : (c : ℕ × ℕ) → fact_id c ≡ true → split_id (join_id c) ≡ c
split_join c t =
    let h = ltb-true c.1 1099511627776 (both (ltb c.0 16777216) (ltb c.1 1099511627776) t).1 in
    let a : (c.0 * 1099511627776 + c.1) / 1099511627776 ≡ c.0 = omega arith in
    let b : (c.0 * 1099511627776 + c.1) % 1099511627776 ≡ c.1 = omega arith in
    λ i. (a i, b i)

pub fact_forth : Forth pair
fact_forth =
    let f : Format (ℕ × ℕ) = provided (λ c. narrow c.0) (λ _. UnknownPredicate) (varint ⊗ varint) in
    let F : Forth f = provided_forth (λ c. narrow c.0) (λ _. UnknownPredicate) (pair_forth varint_forth varint_forth) in
    named_good_forth join_id split_id split_join (provided_gives f fact_id bad_fact) (provided_forth fact_id bad_fact F)

-- The rest of a payload

pub to_end_gives : Gives to_end (λ x. utf8 x ≡ true)
to_end_gives =
    record { gives = λ s at x q B e. ap utf8 (sym (to_end_got s at x q e).0) ∙ (kept (utf8 (drop at s)) _ _ e).0 }

pub to_end_forth : Forth to_end
to_end_forth =
    record {
      forth = λ s at x q B h e.
          let w = to_end_got s at x q e in
          let l = length-drop at s in
          rw (← w.0, ← w.1) (record { bytes = sym (rw drop-length (append-nil (drop at s))); next = omega arith; inside = omega arith });
    }
