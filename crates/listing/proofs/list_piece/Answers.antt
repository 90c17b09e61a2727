use mathlib.Core.Path.{◌≡◌}
use Prim.Native.Nat.{◌*◌, ◌^◌, ◌≤◌, ◌<◌}
use native.Mathlib.Omega.{arith}
use lib.ListN.{length}
use borrow.Author.Rules.{rules}
use Rattle.listing.proofs.PieceLaws.{furthest, go_start, go_used, go_on, go_end}
use Rattle.listing.proofs.list_piece.Goals as goal

pub loop-header-init : goal.loop-header-init
loop-header-init c = (go_start _ _ _, search rules, search rules, search rules, search rules, search rules)

pub returns-in_default : goal.returns-in_default
returns-in_default c =
    let l = c.loop-header in
    go_end l.invariant.0 c.offer-offered.ensures c.in_default.not-Handed c.last_of.ensures

pub overflow_add-at : goal.overflow_add-at
overflow_add-at c =
    let u = go_used c.loop-header.invariant.0 c.offer-offered.ensures _ _ c.in-Handed.is in
    let f = c.well_formed.1.0.1 in
    omega arith

pub loop-header-smaller : goal.loop-header-smaller
loop-header-smaller c =
    let u = go_used c.loop-header.invariant.0 c.offer-offered.ensures _ _ c.in-Handed.is in
    omega arith

pub loop-header-preserved : goal.loop-header-preserved
loop-header-preserved c =
    let l = c.loop-header in
    let i = l.invariant in
    let p : length l.page ≡ length c.args.page.now = l.invariant.5 in
    let f : length c.args.page.now * 1 < 2 ^ 63 = c.well_formed.1.1.1.1.1.1.0.1 in
    let k : length l.page ≤ furthest = omega arith in
    (go_on l.invariant.0 c.offer-offered.ensures _ _ c.in-Handed.is c.number_of.ensures c.add_line-len.ensures.0 c.add_line-len.ensures.1 c.add_line-len.ensures.2 k, search rules, search rules, search rules, search rules, search rules)
