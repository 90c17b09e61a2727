use mathlib.Core.Path.{sym, ap}
use native.Mathlib.Omega.{arith}
use lib.ListN.{length}
use Rattle.varint.proofs.PutLaws.{put_small, put_length_is}
use Rattle.varint.proofs.len_u64.Goals as goal

pub returns-then-value-lt128 : goal.returns-then-value-lt128
returns-then-value-lt128 c = sym (ap length (put_small _ c.if-value-lt128.true))

pub returns-then-value-lt16384 : goal.returns-then-value-lt16384
returns-then-value-lt16384 c = put_length_is 0 _ (omega arith) (omega arith)

pub returns-then-value-lt2097152 : goal.returns-then-value-lt2097152
returns-then-value-lt2097152 c = put_length_is 1 _ (omega arith) (omega arith)

pub returns-then-value-lt268435456 : goal.returns-then-value-lt268435456
returns-then-value-lt268435456 c = put_length_is 2 _ (omega arith) (omega arith)

pub returns-then-value-lt34359738368 : goal.returns-then-value-lt34359738368
returns-then-value-lt34359738368 c = put_length_is 3 _ (omega arith) (omega arith)

pub returns-then-value-lt4398046511104 : goal.returns-then-value-lt4398046511104
returns-then-value-lt4398046511104 c = put_length_is 4 _ (omega arith) (omega arith)

pub returns-then-value-lt562949953421312 : goal.returns-then-value-lt562949953421312
returns-then-value-lt562949953421312 c = put_length_is 5 _ (omega arith) (omega arith)

pub returns-then-value-lt72057594037927936 : goal.returns-then-value-lt72057594037927936
returns-then-value-lt72057594037927936 c = put_length_is 6 _ (omega arith) (omega arith)

pub returns-then-value-lt9223372036854775808 : goal.returns-then-value-lt9223372036854775808
returns-then-value-lt9223372036854775808 c = put_length_is 7 _ (omega arith) (omega arith)

pub returns : goal.returns
returns c = put_length_is 8 _ (omega arith) (omega arith)
