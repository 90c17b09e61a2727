use mathlib.Core.Path.{◌≡◌}
use mathlib.Core.List.{List}
use Prim.Native.Nat.{ℕ}
use borrow.Author.Rules.{rules}
use native.Mathlib.Omega.{arith}
use Rattle.std.proofs.lemmas.Result.{err_from_is_err_and}
use Rattle.varint.specs.Lent.{Left, kept}
use Rattle.varint.specs.declared.error.Refusal.{Refusal}
use Rattle.varint.proofs.Agains.{accepted}
use Rattle.desc.proofs.Bounds.{desc_bounds}
use Rattle.desc.proofs.DecodeLaws.{decode_large, decode_bad, decode_text, decode_nodes, decode_done}
use Rattle.desc.proofs.Readings.{desc_had}
use Rattle.desc.proofs.decode_desc.Goals as goal

-- a refusal that a function made
told : {e x : Refusal} {tx rs nd : List ℕ} {y : Left ℕ} → e ≡ x → kept x tx rs nd ≡ y → kept e tx rs nd ≡ y
told e h = rw e h

pub returns-then-length-gt-MAX_PAYLOAD : goal.returns-then-length-gt-MAX_PAYLOAD
returns-then-length-gt-MAX_PAYLOAD c = told c.too_large.ensures (decode_large _ _ _ _ _ _ c.if-length-gt-MAX_PAYLOAD.true)

pub returns-in_err-measured : goal.returns-in_err-measured
returns-in_err-measured c =
    let p = err_from_is_err_and c.from_residual.result c.from_residual.ensures.1 in
    rw (p.1, p.2) (decode_bad _ _ _ _ _ _ c.if-length-gt-MAX_PAYLOAD.false c.read_desc.ensures c.in_err-measured.was)

pub returns-then-text-measured : goal.returns-then-text-measured
returns-then-text-measured c = told c.too_small.ensures (decode_text _ _ _ _ _ _ c.if-length-gt-MAX_PAYLOAD.false c.read_desc.ensures c.in_ok-measured.was c.if-text-measured.true)

pub overflow_mul-numbers : goal.overflow_mul-numbers
overflow_mul-numbers c =
    let h = desc_had _ _ _ _ _ _ c.read_desc.ensures c.in_ok-measured.was in
    let b = desc_bounds 64 64 c.args.payload.now 0 h.tree _ (omega arith) h.is in
    let b₀ = b.0 in
    let b₁ = b.1 in
    let n = h.node_end in
    search rules

pub returns-then-nodes-numbers : goal.returns-then-nodes-numbers
returns-then-nodes-numbers c = told c.too_small-then-nodes-numbers.ensures (decode_nodes _ _ _ _ _ _ c.if-length-gt-MAX_PAYLOAD.false c.read_desc.ensures c.in_ok-measured.was c.if-text-measured.false c.if-nodes-numbers.true)

pub read_desc-requires-2-clause-again : goal.read_desc-requires-2-clause-again
read_desc-requires-2-clause-again c z = accepted (desc_had _ _ _ _ _ _ c.read_desc.ensures c.in_ok-measured.was).is

pub returns : goal.returns
returns c = decode_done _ _ _ _ _ _ c.if-length-gt-MAX_PAYLOAD.false c.read_desc.ensures c.in_ok-measured.was c.if-text-measured.false c.if-nodes-numbers.false c.read_desc-2.ensures c.fill_from.ensures c.fill_from-2.ensures c.fill_from-3.ensures
