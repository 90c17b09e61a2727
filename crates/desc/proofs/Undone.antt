-- The two functions undo each other: bytes that were decoded are encoded to the same bytes, and what was encoded is decoded to the tree
-- that the memory held.
use mathlib.Core.Path.{◌≡◌, refl, sym, ◌∙◌, ap}
use mathlib.Core.List.{List, []}
use Prim.Native.Nat.{ℕ, ◌-◌, ◌*◌, ◌≤◌}
use native.Mathlib.Nat.{zero-add}
use native.Mathlib.Omega.{arith}
use lib.Dec.{ltb}
use lib.ListN.{length, take, drop, replicate}
use lib.Seq.{take-append_seam}
use borrow.Author.Tests.{ltb-false}
use Rattle.varint.specs.Got.{Got}
use Rattle.varint.specs.Gathering.{Held, held, lacks}
use Rattle.varint.specs.Lent.{Left, fitted, settled}
use Rattle.varint.specs.Outs.{Sent, send, wrote, sent}
use Rattle.varint.specs.RoundTrips.{Stands}
use Rattle.varint.specs.Stores.{part, filled}
use Rattle.varint.specs.declared.error.Refusal.{Refusal}
use Rattle.varint.proofs.Basics.{pick_cases, never}
use Rattle.varint.proofs.StoreLaws.{filled_fits, part_seam}
use Rattle.desc.specs.Decoding.{settled_desc, decode_desc}
use Rattle.desc.specs.Encoding.{held_in, encode_desc}
use Rattle.desc.specs.Layout.{width, texts}
use Rattle.desc.specs.Printing.{print}
use Rattle.desc.specs.Reading.{desc}
use Rattle.desc.specs.Returns.{Decodes, DecodeWritten, EncodeDecoded}
use Rattle.desc.specs.Table.{table}
use Rattle.desc.specs.Trees.{Tree, size}
use Rattle.desc.proofs.FineRead.{desc_fine}
use Rattle.desc.proofs.GatherFine.{held_fine}
use Rattle.desc.proofs.OnePrint.{print_read}
use Rattle.desc.proofs.ThereAndBack.{layout, length_layout, decode_whole, held_decoded, encode_laid}
use Rattle.std.specs.Prelude.{Result, Ok, Err}

-- what stands at the start of bytes
stands_part : (x s : List ℕ) (q : ℕ) → Stands x s 0 q → x ≡ part s 0 q
unfolding part
stands_part x s q h =
    let n : q ≡ length x = h.next ∙ zero-add (length x) in
    sym (ap (take q) h.bytes ∙ rw n (take-append_seam x (drop (length x) s)))

-- what was refused was not done
pub not_wrote : {X : Type 0} {e : Refusal} {n : ℕ} → Err e ≡ Ok n → X
not_wrote h = never cc

abbrev Again : ℕ → ℕ → List ℕ → List ℕ → ℕ → Left ℕ → Type 0
Again max limit s out used l = l.answer ≡ Ok used → encode_desc max limit l.text l.nodes out ≡ send max (part s 0 used) out

pub encode_decoded : EncodeDecoded
unfolding decode_desc settled fitted
encode_decoded max limit s tx rs nd out used B =
    pick_cases (Again max limit s out used) (ltb max (length s)) (λ _. not_wrote)
    (λ _. on (desc limit limit s 0) refl)
  where
    on : (x : Got (Tree (List ℕ))) → desc limit limit s 0 ≡ x → Again max limit s out used (settled_desc x tx rs nd)
    on (Err e) i = not_wrote
    on (Ok (tr, q)) i =
        pick_cases (Again max limit s out used) (ltb (length tx) (length (texts tr))) (λ _. not_wrote)
        (λ t.
        pick_cases (Again max limit s out used) (ltb (length rs) 0) (λ _. not_wrote)
        (λ r.
        pick_cases (Again max limit s out used) (ltb (length nd) (length (layout tr))) (λ _. not_wrote)
        (λ n e.
        let u : q ≡ used = cc in
        let f = desc_fine limit limit s 0 tr q i in
        let k : size tr * width ≤ length nd = rw (← length_layout tr) (ltb-false (length nd) (length (layout tr)) n) in
        encode_laid limit tr f max tx nd out (ltb-false (length tx) (length (texts tr)) t) k
        ∙ ap (λ (x : List ℕ). send max x out) (stands_part (print tr) s q (print_read limit limit s 0 tr q B (omega arith) i) ∙ ap (part s 0) u))))

abbrev Written-is : ℕ → ℕ → List ℕ → List ℕ → ℕ → Sent → Type 0
Written-is max limit tx nd n r = r.answer ≡ Ok n → Decodes max limit tx nd (part r.out 0 n)

pub decode_written : DecodeWritten
unfolding encode_desc sent send wrote
decode_written max limit tx nd out n a b = on (held_in (table limit nd 0 0) tx) refl
  where
    on : (x : Held (Tree (List ℕ))) → held_in (table limit nd 0 0) tx ≡ x → Written-is max limit tx nd n (sent max print x out)
    on (lacks e) i = not_wrote
    on (held tr) i =
        pick_cases (Written-is max limit tx nd n) (ltb max (length (print tr))) (λ _. not_wrote)
        (λ h.
        pick_cases (λ (w : Result ℕ Refusal). w ≡ Ok n → Decodes max limit tx nd (part (filled out (print tr)) 0 n)) (ltb (length out) (length (print tr)))
        (λ _. not_wrote)
        (λ k e.
        let most = ltb-false max (length (print tr)) h in
        let room = ltb-false (length out) (length (print tr)) k in
        let u : length (print tr) ≡ n = cc in
        let Z : List ℕ = replicate (length out - length (print tr)) 0 in
        let w : part (filled out (print tr)) 0 n ≡ print tr = rw (← u, filled_fits out (print tr) room) (part_seam [] (print tr) Z) in
        let f = held_fine limit tx nd tr a b i in
        rw w
        (record {
          tree = tr;
          holds = i;
          bytes = refl;
          decodes = λ tx' rs nd'. decode_whole limit tr f max tx' rs nd' most;
          again = held_decoded limit tr f;
        })))
