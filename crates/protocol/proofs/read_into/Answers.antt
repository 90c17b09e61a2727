use borrow.Author.Rules.{rules}
use Rattle.std.proofs.lemmas.Result.{err_from_is_err_and}
use Rattle.protocol.specs.Entries.{entry_number}
use Rattle.protocol.specs.Inner.Loading.{mem}
use Rattle.protocol.specs.Said.{read_entry}
use Rattle.protocol.proofs.MessageReads.{from_start, few_nodes, whole_refused}
use Rattle.protocol.proofs.read_into.Goals as goal

pub returns-in_err-message : goal.returns-in_err-message
returns-in_err-message c =
    let a = c.args in
    let p = err_from_is_err_and c.from_residual.result c.from_residual.ensures.1 in
    rw (p.1, p.2)
    (whole_refused a.check a.limit a.payload.now a.text.now a.rows.now a.nodes.now _ (read_entry a.limit (entry_number a.entry) a.payload.now) (rw c.in_err-message.was at c.read_message.ensures.1))

pub overflow_mul-result : goal.overflow_mul-result
overflow_mul-result c =
    let a = c.args in
    let f = few_nodes a.check a.limit a.payload.now a.text.now a.rows.now a.nodes.now (mem c.read_message.new.memory) _ (entry_number a.entry) (rw c.in_ok-message.was at c.read_message.ensures.1) in
    let r = c.requires.short in
    search rules

pub returns : goal.returns
returns c =
    let a = c.args in
    let h = from_start a.check a.limit a.payload.now a.text.now a.rows.now a.nodes.now (mem c.read_message.new.memory) (read_entry a.limit (entry_number a.entry) a.payload.now) (rw c.in_ok-message.was at c.read_message.ensures.1) in
    search rules
