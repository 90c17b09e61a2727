-- What the step of a run of varints answers.
use Rattle.std.specs.Prelude.{◌≡◌, List, ℕ, Ok}
use Rattle.varint.specs.Leb128.{get_u64}

-- a varint of n bytes at the start of s
pub record Passed (s : List ℕ) (n : ℕ) : Type 0 where
  pub value : ℕ
  pub is : get_u64 s 0 ≡ Ok (value, n)
