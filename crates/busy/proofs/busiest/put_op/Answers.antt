-- `busy::busiest::put_op` meets its contract. Assumes nothing.
use native.Mathlib.Omega.{arith}
use borrow.Author.Tests.{eq-eqb, ne_eqb}
use Rattle.busy.specs.Busiest.{with_op}
use Rattle.busy.proofs.Insertion.{few}
use Rattle.busy.proofs.busiest.put_op.Goals as goal

pub returns-then-count-eq0 : goal.returns-then-count-eq0
unfolding with_op
returns-then-count-eq0 c =
    let h = c.requires in
    (h.0, rw (eq-eqb _ _ c.if-count-eq0.true) (few c.args.b h.0 (omega arith)), h.1)

pub returns : goal.returns
unfolding with_op
returns c = rw (ne_eqb _ _ c.if-count-eq0.false) c.put.ensures
