-- `flattening::numbering::number_ops` meets its contract. Assumes nothing.
use Rattle.std.proofs.Common.{◌≡◌, Err}
use borrow.Author.Rules.{rules}
use Rattle.flattening.proofs.NumberingLoop.{begin, stray_end_lem, next, done}
use Rattle.flattening.proofs.numbering.number_ops.Goals as goal

pub loop-i-init : goal.loop-i-init
loop-i-init c = begin _ _ _ _ (search rules) c.requires.unseen c.main-scope.ensures.0 c.main-scope.ensures.1

pub returns-in_err-ok_or : goal.returns-in_err-ok_or
returns-in_err-ok_or c =
    let e : c.from_residual.result ≡ Err (record { op = c.loop-i.i }) = search rules in
    stray_end_lem _ _ _ _ _ _ c.loop-i.invariant c.loop-i-test.true _ _ c.from-k.ensures c.here_of-here.ensures.0 _ _ _ _ _ c.pass.ensures.value c.in_err-ok_or.ensures.ok_part e

pub loop-i-preserved : goal.loop-i-preserved
loop-i-preserved c =
    next _ _ _ _ _ _ c.loop-i.invariant c.loop-i-test.true _ _ c.from-k.ensures c.here_of-here.ensures.0 c.requires.few _ _ _ _ c.pass.ensures.value c.in_ok-ok_or.ensures.ok_part
    c.pass.ensures.low c.from-count.ensures

pub returns : goal.returns
returns c = search done
