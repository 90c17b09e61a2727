-- Where rows that were read end: each byte of text and each node costs a byte, and each row some more.
use mathlib.Core.Bool.{Bool, true, false}
use mathlib.Core.Path.{◌≡◌, refl, ap}
use mathlib.Core.List.{List, [], ◌∷◌}
use Prim.Native.Nat.{ℕ, ◌+◌, ◌*◌, ◌≤◌}
use native.Mathlib.Omega.{arith}
use lib.ListN.{length, length-append}
use Rattle.varint.specs.declared.error.Mismatch.TheVariants as M
use Rattle.varint.specs.declared.error.Refusal.TheVariants.{UnknownPredicate}
use Rattle.varint.proofs.FormatEnds.{Ends, varint_ends, name_ends, pair_ends, named_ends}
use Rattle.varint.proofs.Gots.{got_of}
use Rattle.desc.specs.Trees.{Tree}
use Rattle.desc.specs.WellFormed.{descriptor}
use Rattle.desc.proofs.LayoutLaws.{length_placed}
use Rattle.protocol.specs.Fields.{narrow, Optional, absent, present, optional_on, print_optional, optional}
use Rattle.protocol.specs.Fetch.{join_id, split_id, fact_id, bad_fact, pair}
use Rattle.protocol.specs.Pieces.{Piece}
use Rattle.protocol.specs.Profile.{to_step, from_step, step, lay_step}
use Rattle.protocol.specs.Startup.{to_claim, from_claim, claim, lay_claim}
use Rattle.protocol.specs.Types.{Predicate, to_predicate, from_predicate, predicate, lay_value, lay_predicate, type_width}
use Rattle.protocol.proofs.FieldEnds.{descriptor_ends, provided_ends, chain_ends, then_ends, stays, flag_ends, wide_flag_ends}
use Rattle.std.specs.Prelude.{Ok}

-- what a piece has of text and nodes
abbrev pub weight : Piece → ℕ
weight p = length p.text + p.size

pub claim_ends : Ends claim (λ c. weight (lay_claim c)) 2
claim_ends = named_ends to_claim from_claim (λ c. weight (lay_claim c)) (λ c. refl) (pair_ends name_ends varint_ends)

pub step_ends : Ends step (λ c. weight (lay_step c)) 3
step_ends =
    named_ends to_step from_step (λ c. weight (lay_step c)) (λ c. omega arith) (pair_ends name_ends (pair_ends varint_ends (flag_ends M.FullScan)))

pub fact_ends : Ends pair (λ i. 0) 2
fact_ends =
    named_ends join_id split_id (λ i. 0) (λ c. refl)
    (provided_ends fact_id bad_fact (provided_ends (λ c. narrow c.0) (λ _. UnknownPredicate) (pair_ends varint_ends varint_ends)))

module _ (limit : ℕ) where
  pub value_on : (s : List ℕ) (p : ℕ) (b : Bool) (v : Optional (Tree (List ℕ))) (q : ℕ) → p ≤ length s → optional_on (descriptor limit) b s p ≡ Ok (v, q)
      → (p + weight (lay_value v) ≤ q) × (q ≤ length s)
  value_on s p true v q h e = then_ends present (λ u. weight (lay_value u)) (λ tr. refl) (descriptor_ends limit) s p v q h e
  value_on s p false v q h e = let w = got_of e in rw (← w.0) (stays h w.1)

  pub value_ends : Ends (optional (descriptor limit)) (λ v. weight (lay_value v)) 1
  value_ends =
      chain_ends (optional_on (descriptor limit)) (print_optional (descriptor limit)) (λ v. weight (lay_value v)) wide_flag_ends value_on

  pub predicate_ends : Ends (predicate limit) (λ p. weight (lay_predicate p)) 4
  predicate_ends =
      named_ends to_predicate from_predicate (λ p. weight (lay_predicate p)) (λ c. simp length-append (omega arith))
      (pair_ends (provided_ends narrow (λ _. UnknownPredicate) varint_ends)
      (pair_ends name_ends (pair_ends wide_flag_ends (pair_ends (descriptor_ends limit) value_ends))))

pub value_nodes : (v : Optional (Tree (List ℕ))) (t n : ℕ) → length ((lay_value v).nodes t n) ≡ (lay_value v).size * 7
value_nodes absent t n = refl
value_nodes (present v) t n = length_placed v t n (0, 0) 0

pub predicate_nodes : (p : Predicate) (t n : ℕ) → length ((lay_predicate p).nodes t n) ≡ (lay_predicate p).size * 7
predicate_nodes p t n = simp (length-append, length_placed, value_nodes) (omega arith)

-- and its row has its width
value_rows : (v : Optional (Tree (List ℕ))) (t n : ℕ) → (lay_value v).rows t n ≡ []
value_rows absent t n = refl
value_rows (present v) t n = refl

pub predicate_rows : (p : Predicate) (t n : ℕ) → length ((lay_predicate p).rows t n) ≡ type_width
predicate_rows p t n = ap (λ (x : List ℕ). length (0 ∷ 0 ∷ 0 ∷ 0 ∷ 0 ∷ 0 ∷ x)) (value_rows p.value _ _)
