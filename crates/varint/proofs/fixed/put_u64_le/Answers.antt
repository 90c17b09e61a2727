use mathlib.Core.Path.{◌∙◌, ap}
use lib.Seq.{sets}
use Rattle.varint.specs.Stores.{part}
use Rattle.varint.specs.Fixed.{put_le}
use Rattle.varint.proofs.Digits.{put_le_8}
use Rattle.varint.proofs.FixedLaws.{length_put_le}
use Rattle.varint.proofs.StoreLaws.{part_all}
use Rattle.varint.proofs.fixed.put_u64_le.Goals as goal

pub returns : goal.returns
returns c =
    let e = c.to_le_bytes.ensures ∙ put_le_8 c.args.value in
    c.copy_bytes.ensures ∙ ap (sets c.args.out.now c.args.at) (ap (λ x. part x 0 8) e ∙ rw length_put_le at (part_all (put_le 8 c.args.value)))
