use Rattle.std.proofs.lemmas.Result.{err_from_is_err_and}
use Rattle.protocol.proofs.DecodeLaws.{too_short, long_enough, decode_opaque_short, decode_opaque}
use Rattle.protocol.proofs.decode_opaque.Goals as goal

pub returns-in_err-room : goal.returns-in_err-room
returns-in_err-room c max limit entry o =
    let p = err_from_is_err_and c.from_residual.result c.from_residual.ensures.1 in
    let h = too_short _ _ _ c.room.ensures c.in_err-room.was in
    rw (p.1, p.2, h.1) (decode_opaque_short max limit entry c.args.payload.now c.args.text.now c.args.rows.now c.args.nodes.now o h.0)

pub returns : goal.returns
returns c max limit entry o =
    let t = long_enough _ _ _ c.room.ensures c.in_ok-room.was in
    decode_opaque max limit entry c.args.payload.now c.args.text.now c.args.rows.now c.args.nodes.now o t c.copy_bytes.ensures c.clear_behind.ensures.0 c.clear_behind.ensures.1 c.clear_behind.ensures.2
