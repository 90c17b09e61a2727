use Rattle.std.proofs.lemmas.Result.{err_from_is_err_and}
use Rattle.protocol.specs.Entries.{entry_number}
use Rattle.protocol.proofs.DecodeLaws.{too_short, long_enough, decode_refused, decode_short_text, decode_short_rows, decode_short_nodes, decode_none, decode_again, decode_done, all_none}
use Rattle.protocol.proofs.decode_fitting.Goals as goal

pub returns-in_err-message : goal.returns-in_err-message
returns-in_err-message c =
    let a = c.args in
    let p = err_from_is_err_and c.from_residual.result c.from_residual.ensures.1 in
    rw (p.1, p.2) (decode_refused a.max a.limit (entry_number a.entry) a.payload.now a.text.now a.rows.now a.nodes.now c.requires.1 c.read_into.ensures c.in_err-message.was)

pub read_into-requires-2-clause-again : goal.read_into-requires-2-clause-again
read_into-requires-2-clause-again c =
    let a = c.args in
    decode_again a.max a.limit (entry_number a.entry) a.payload.now a.text.now a.rows.now a.nodes.now c.requires.1 c.read_into.ensures c.in_ok-message.was

pub returns-in_err-room : goal.returns-in_err-room
returns-in_err-room c =
    let a = c.args in
    let p = err_from_is_err_and c.from_residual-in_err-room.result c.from_residual-in_err-room.ensures.1 in
    let h = too_short _ _ _ c.room.ensures c.in_err-room.was in
    rw (p.1, p.2, h.1) (decode_short_text a.max a.limit (entry_number a.entry) a.payload.now a.text.now a.rows.now a.nodes.now c.requires.1 c.read_into.ensures c.in_ok-message.was h.0)

pub returns-in_err-room-2 : goal.returns-in_err-room-2
returns-in_err-room-2 c =
    let a = c.args in
    let p = err_from_is_err_and c.from_residual-in_err-room-2.result c.from_residual-in_err-room-2.ensures.1 in
    let t = long_enough _ _ _ c.room.ensures c.in_ok-room.was in
    let h = too_short _ _ _ c.room-2.ensures c.in_err-room-2.was in
    rw (p.1, p.2, h.1) (decode_short_rows a.max a.limit (entry_number a.entry) a.payload.now a.text.now a.rows.now a.nodes.now c.requires.1 c.read_into.ensures c.in_ok-message.was t h.0)

pub returns-in_err-room-3 : goal.returns-in_err-room-3
returns-in_err-room-3 c =
    let a = c.args in
    let p = err_from_is_err_and c.from_residual-in_err-room-3.result c.from_residual-in_err-room-3.ensures.1 in
    let t = long_enough _ _ _ c.room.ensures c.in_ok-room.was in
    let r = long_enough _ _ _ c.room-2.ensures c.in_ok-room-2.was in
    let h = too_short _ _ _ c.room-3.ensures c.in_err-room-3.was in
    rw (p.1, p.2, h.1) (decode_short_nodes a.max a.limit (entry_number a.entry) a.payload.now a.text.now a.rows.now a.nodes.now c.requires.1 c.read_into.ensures c.in_ok-message.was t r h.0)

pub returns-then-t-r : goal.returns-then-t-r
returns-then-t-r c =
    let a = c.args in
    let z = all_none _ _ _ c.if-t-r.true in
    decode_none a.max a.limit (entry_number a.entry) a.payload.now a.text.now a.rows.now a.nodes.now c.requires.1 c.read_into.ensures c.in_ok-message.was z.0 z.1 z.2 c.clear_behind.ensures.0 c.clear_behind.ensures.1 c.clear_behind.ensures.2

pub returns : goal.returns
returns c =
    let a = c.args in
    let t = long_enough _ _ _ c.room.ensures c.in_ok-room.was in
    let r = long_enough _ _ _ c.room-2.ensures c.in_ok-room-2.was in
    let k = long_enough _ _ _ c.room-3.ensures c.in_ok-room-3.was in
    decode_done a.max a.limit (entry_number a.entry) a.payload.now a.text.now a.rows.now a.nodes.now c.requires.1 c.read_into.ensures c.in_ok-message.was t r k c.read_into-2.ensures c.clear_behind-2.ensures.0 c.clear_behind-2.ensures.1 c.clear_behind-2.ensures.2
