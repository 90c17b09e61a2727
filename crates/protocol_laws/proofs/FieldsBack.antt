-- What is printed of each field of a message is read back.
use mathlib.Core.Bool.{Bool, true, false}
use mathlib.Core.Path.{◌≡◌, refl}
use mathlib.Core.List.{List, [], ◌∷◌, ◌++◌, append_assoc}
use Prim.Native.Nat.{ℕ, ◌+◌, ◌-◌, ◌/◌, ◌%◌, ◌^◌, ◌≤◌, ◌<◌}
use native.Mathlib.Omega.{arith}
use lib.Dec.{ltb, lit<}
use lib.ListN.{length, length-append}
use lib.Seq.{get_or-append_seam}
use borrow.Author.Tests.{lt-ltb, le-ltb, le-leb}
use Rattle.varint.specs.Choice.{pick}
use Rattle.varint.specs.Fixed.{put_le}
use Rattle.varint.specs.Got.{then}
use Rattle.varint.specs.Formats.{Format, varint, fixed, print_all, name}
use Rattle.varint.specs.Leb128.{put_u64}
use Rattle.varint.specs.RoundTrips.{Reads, Back, ListOk}
use Rattle.varint.specs.Stores.{part}
use Rattle.varint.specs.declared.error.Mismatch.{Mismatch}
use Rattle.varint.specs.declared.error.Mismatch.TheVariants as M
use Rattle.varint.specs.declared.error.Refusal.{Refusal}
use Rattle.varint.specs.declared.error.Refusal.TheVariants.{UnexpectedEof, UnknownPredicate, TypeMismatch}
use Rattle.varint.proofs.FormatBack.{in_a_row, made_of, varint_back, fixed_back, name_back, pair_back, named_back, counted_back}
use Rattle.varint.proofs.StoreLaws.{part_seam}
use Rattle.protocol.specs.Codes.{mode_of, mode_byte, error_of, error_byte, op_of, op_byte}
use Rattle.protocol.specs.Fetch.{digest_on, digest, join_id, split_id, fact_id, bad_fact, pair}
use Rattle.protocol.specs.Fields.{provided, narrow, byte, made_at, mode, error_code, control_op, bit, yes, flag, wide_flag, Optional, absent, present, optional_on, optional, counted_to, raw}
use Rattle.protocol.specs.Reply.{Reply, created, finished, removed, to_finished, from_finished, finish, reply_on, reply}
use Rattle.protocol.specs.declared.message.ControlOp.TheVariants.{Create, Finish, Remove}
use Rattle.protocol_laws.specs.Fine.{Wide, Narrow, IfPresent, FineDigest, FineReply}
use Rattle.protocol_laws.proofs.CodeRounds.{mode_known, error_known, op_known}
use Rattle.std.specs.Prelude.{Ok, Err, Result, Some, None, Option}

-- nothing is asked of a thing
abbrev Any : {A : Type 0} → A → Type 0
Any a = Unit

-- more may be asked of a thing than its format needs
pub back_by : {A : Type 0} {f : Format A} {P Q : A → Type 0} → ((a : A) → Q a → P a) → Back f P → Back f Q
back_by k F = record { back = λ a h. F.back a (k a h) }

pub provided_back : {A : Type 0} {f : Format A} {P : A → Type 0} (good : A → Bool) (why : A → Refusal)
    → Back f P → Back (provided good why f) (λ a. P a × (good a ≡ true))
provided_back good why F = record { back = λ a h before rest. rw (F.back a h.0 before rest, h.1) }

-- a number of 32 bits
pub narrow_back : (why : ℕ → Refusal) → Back (provided narrow why varint) Narrow
narrow_back why = back_by (λ n h. (omega arith, le-leb n 0xFFFFFFFF (omega arith))) (provided_back narrow why varint_back)

-- Bytes

pub byte_back : (missing : Refusal) → Back (byte missing) Any
byte_back missing =
    record {
      back = λ b h before rest.
          let i : length before < length (before ++ b ∷ rest) = simp length-append (omega arith) in
          rw (lt-ltb (length before) (length (before ++ b ∷ rest)) i, get_or-append_seam before b rest 0);
    }

-- a byte that stands for a thing
coded_back : {A : Type 0} (missing : Refusal) (code : A → ℕ) (of : ℕ → Result A Refusal) → ((a : A) → of (code a) ≡ Ok a)
    → Back (record { read = λ s at. then ((byte missing).read s at) (λ b q. made_at (of b) q); print = λ a. code a ∷ [] }) Any
coded_back missing code of known =
    record { back = λ a h before rest. rw ((byte_back missing).back (code a) tt before rest, known a) }

pub mode_back : Back mode Any
mode_back = coded_back (TypeMismatch M.Mode) mode_byte mode_of mode_known

pub error_code_back : Back error_code Any
error_code_back = coded_back (TypeMismatch M.ErrorCode) error_byte error_of error_known

pub op_back : Back control_op Any
op_back = coded_back (TypeMismatch M.ControlOp) op_byte op_of op_known

yes_bit : (b : Bool) → yes (bit b) ≡ b
yes_bit true = refl
yes_bit false = refl

pub flag_back : (why : Mismatch) → Back (flag why) Any
flag_back why = named_back yes bit yes_bit (byte_back (TypeMismatch why))

pub wide_flag_back : Back wide_flag Any
wide_flag_back = back_by (λ b _. small b) (named_back yes bit yes_bit varint_back)
  where
    small : (b : Bool) → Wide (bit b)
    small true = lit< tt
    small false = lit< tt

-- What may be there

pub optional_back : {A : Type 0} {f : Format A} {P : A → Type 0} → Back f P → Back (optional f) (IfPresent P)
optional_back {A = A} {f = f} {P = P} F = record { back = on }
  where
    on : (o : Optional A) → IfPresent P o → Reads (optional f).read ((optional f).print o) o
    on absent h = λ before rest. rw (wide_flag_back.back false tt before rest)
    on (present a) h =
        in_a_row wide_flag.read (optional_on f) (put_u64 1) (f.print a) true (present a) (wide_flag_back.back true tt)
        (made_of f.read present (f.print a) a (F.back a h))

pub digest_back : Back digest FineDigest
digest_back = record { back = on }
  where
    on : (d : Option ℕ) → FineDigest d → Reads digest.read (digest.print d) d
    on None h = λ before rest. rw ((byte_back UnexpectedEof).back 0 tt before rest)
    on (Some d) h =
        in_a_row (byte UnexpectedEof).read digest_on (1 ∷ []) (put_u64 d) 1 (Some d) ((byte_back UnexpectedEof).back 1 tt)
        (made_of varint.read Some (put_u64 d) d (varint_back.back d h))

finish_back : Back finish (λ f. Wide f.fingerprint × (Wide f.facts × (Wide f.bytes × Unit)))
finish_back = named_back to_finished from_finished (λ f. refl) (pair_back varint_back (pair_back varint_back (pair_back varint_back (flag_back M.AlreadyComplete))))

pub reply_back : Back reply FineReply
reply_back = record { back = on }
  where
    on : (r : Reply) → FineReply r → Reads reply.read (reply.print r) r
    on (created i) h =
        in_a_row control_op.read reply_on (control_op.print Create) (name.print i) Create (created i) (op_back.back Create tt)
        (made_of name.read created (name.print i) i (name_back.back i h))
    on (finished f) h =
        in_a_row control_op.read reply_on (control_op.print Finish) (finish.print f) Finish (finished f) (op_back.back Finish tt)
        (made_of finish.read finished (finish.print f) f (finish_back.back f (h.0, (h.1, (h.2, tt)))))
    on removed h = λ before rest. rw (op_back.back Remove tt before rest)

-- Lists and bytes of any kind

-- A count within a limit, which may depend on all the bytes.
pub counted_to_back : {A : Type 0} {f : Format A} {P : A → Type 0} (limit : List ℕ → ℕ) (why : ℕ → ℕ → Refusal) (Few : List A → Type 0)
    → ((l : List A) (before rest : List ℕ) → Few l → length l ≤ limit (before ++ ((put_u64 (length l) ++ print_all f l) ++ rest)))
    → Back f P → Back (counted_to limit why f) (λ l. ListOk P l × Few l)
counted_to_back {f = f} limit why Few few F =
    record {
      back = λ l h before rest.
          let x : List ℕ = put_u64 (length l) in
          let s : List ℕ = before ++ ((x ++ print_all f l) ++ rest) in
          let v : varint.read s (length before) ≡ Ok (length l, length before + length x) =
          rw (append_assoc x (print_all f l) rest) (varint_back.back (length l) h.0.0 before (print_all f l ++ rest)) in
          let c = (counted_back F).back l h.0 before rest in
          rw (v, le-ltb (limit s) (length l) (few l before rest h.1)) (rw v at c);
    }

pub raw_back : Back raw (λ x. Narrow (length x))
raw_back =
    record {
      back = λ x h.
          in_a_row (fixed 4).read (λ n s p. pick (ltb (length s - p) n) (Err UnexpectedEof) (Ok (part s p n, p + n)))
          (put_le 4 (length x)) x (length x) x ((fixed_back 4).back (length x) h) (bytes x);
    }
  where
    bytes : (x : List ℕ) → Reads (λ s p. pick (ltb (length s - p) (length x)) (Err UnexpectedEof) (Ok (part s p (length x), p + length x))) x x
    bytes x before rest =
        let room : length x ≤ length (before ++ (x ++ rest)) - length before = simp length-append (omega arith) in
        rw (le-ltb (length (before ++ (x ++ rest)) - length before) (length x) room, part_seam before x rest)

-- A fact's id as its two halves

same_id : (i : ℕ) → join_id (split_id i) ≡ i
same_id i = omega arith

halves : (i : ℕ) → Wide i → (i / 1099511627776 < 16777216) × (i % 1099511627776 < 1099511627776)
halves i h = (omega arith, omega arith)

pub pair_id_back : Back pair Wide
pair_id_back =
    back_by (λ i h.
    let b = halves i h in
    let l : i / 1099511627776 < 2 ^ 64 = omega arith in
    let m : i % 1099511627776 < 2 ^ 64 = omega arith in
    let n : i / 1099511627776 ≤ 0xFFFFFFFF = omega arith in
    (((l, m), le-leb _ _ n), rw (lt-ltb (i / 1099511627776) 16777216 b.0, lt-ltb (i % 1099511627776) 1099511627776 b.1)))
    (named_back join_id split_id same_id
    (provided_back fact_id bad_fact (provided_back (λ c. narrow c.0) (λ _. UnknownPredicate) (pair_back varint_back varint_back))))
