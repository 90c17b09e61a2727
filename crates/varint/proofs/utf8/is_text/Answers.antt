use native.Mathlib.Omega.{arith}
use mathlib.Core.Path.{sym, ◌∙◌}
use lib.ListN.{length}
use Rattle.varint.proofs.Utf8Laws.{utf8_end, ascii_passed}
use Rattle.varint.proofs.utf8.is_text.Goals as goal

pub returns-then-is_short_ascii : goal.returns-then-is_short_ascii
returns-then-is_short_ascii c =
    let s = c.args.s.now in
    let all = ascii_passed s 0 (length s) (omega arith) (omega arith) (c.is_short_ascii.ensures c.if-is_short_ascii.true) in
    sym (all.same ∙ utf8_end s (length s) (omega arith))
