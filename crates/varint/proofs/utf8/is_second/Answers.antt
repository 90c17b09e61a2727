use mathlib.Core.Path.{◌∙◌}
use borrow.Author.Tests.{eq-eqb, ne_eqb}
use Rattle.varint.specs.Inner.Utf8Steps.{second}
use Rattle.varint.proofs.utf8.is_second.Goals as goal

pub returns-then-a-eq224 : goal.returns-then-a-eq224
unfolding second
returns-then-a-eq224 c = c.in_range.ensures ∙ simp (eq-eqb _ 0xE0 c.if-a-eq224.true)

pub returns-then-a-eq237 : goal.returns-then-a-eq237
unfolding second
returns-then-a-eq237 c = c.in_range-then-a-eq237.ensures ∙ simp (ne_eqb _ 0xE0 c.if-a-eq224.false, eq-eqb _ 0xED c.if-a-eq237.true)

pub returns-then-a-eq240 : goal.returns-then-a-eq240
unfolding second
returns-then-a-eq240 c = c.in_range-then-a-eq240.ensures ∙ simp (ne_eqb _ 0xE0 c.if-a-eq224.false, ne_eqb _ 0xED c.if-a-eq237.false, eq-eqb _ 0xF0 c.if-a-eq240.true)

pub returns-then-a-eq244 : goal.returns-then-a-eq244
unfolding second
returns-then-a-eq244 c = c.in_range-then-a-eq244.ensures ∙ simp (ne_eqb _ 0xE0 c.if-a-eq224.false, ne_eqb _ 0xED c.if-a-eq237.false, ne_eqb _ 0xF0 c.if-a-eq240.false, eq-eqb _ 0xF4 c.if-a-eq244.true)

pub returns : goal.returns
unfolding second
returns c = c.is_tail.ensures ∙ simp (ne_eqb _ 0xE0 c.if-a-eq224.false, ne_eqb _ 0xED c.if-a-eq237.false, ne_eqb _ 0xF0 c.if-a-eq240.false, ne_eqb _ 0xF4 c.if-a-eq244.false)
