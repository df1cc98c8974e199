-- `lanes::float::float_rem` meets its contract. Assumes nothing.
use Rattle.std.proofs.Common.{arith}
use Rattle.lanes.proofs.Small.{rem_by_nan, rem_below}
use Rattle.lanes.proofs.Steps.{rem_beyond, rem_of_nothing, rem_of_steps}
use Rattle.lanes.proofs.float.float_rem.Goals as goal

pub returns-then-y-gt-TWICE_INFINITY : goal.returns-then-y-gt-TWICE_INFINITY
returns-then-y-gt-TWICE_INFINITY c = rem_by_nan c.args.a c.args.b c.doubled-y.ensures c.if-y-gt-TWICE_INFINITY.true

pub returns-then-x-y : goal.returns-then-x-y
returns-then-x-y c = rem_below c.args.a c.args.b c.doubled-x.ensures c.doubled-y.ensures (omega arith) c.if-x-y.true c.if-y-gt-TWICE_INFINITY.false

pub returns-then-x-ge-TWICE_INFINITY : goal.returns-then-x-ge-TWICE_INFINITY
returns-then-x-ge-TWICE_INFINITY c = rem_beyond c.args.a c.args.b c.doubled-x.ensures (omega arith)

pub returns-then-y-eq0 : goal.returns-then-y-eq0
returns-then-y-eq0 c = rem_of_nothing c.args.a c.args.b c.doubled-y.ensures (omega arith)

pub returns : goal.returns
returns c = rem_of_steps c.args.a c.args.b c.remainder.result (omega arith) (omega (arith, c.doubled-x.ensures)) (omega (arith, c.doubled-x.ensures, c.doubled-y.ensures)) (omega (arith, c.doubled-y.ensures)) c.remainder.ensures.finite c.remainder.ensures.value
