-- `lane_ops::lane::swap` meets its contract. The part of the tape from the pointer on is lent, and is back with the lanes in it. Assumes nothing.
use Rattle.basics.specs.Pick.{pick}
use Rattle.machine_numbers.specs.Numbers.{left, swapped}
use Rattle.machine_numbers.proofs.Parts.{rest_part, copied_back}
use borrow.Author.Tests.{eq-eqb, ne_eqb}
use Rattle.lane_ops.specs.Lane.{swap_of}
use Rattle.lane_ops.proofs.Reached.{refused, passed}
use Rattle.lane_ops.proofs.lane.swap.Goals as goal

pub returns-then-n-eq0 : goal.returns-then-n-eq0
unfolding swap_of left pick
returns-then-n-eq0 c = λ p. simp (eq-eqb _ _ c.if-n-eq0.true)

pub returns-then-r-ne-DONE : goal.returns-then-r-ne-DONE
unfolding swap_of
returns-then-r-ne-DONE c =
    λ p.
    let a = c.args in
    refused _ _ _ _ c.reached-r.ensures.value (λ x. swapped x a.register.now a.tape.now) _ _ _ c.if-r-ne-DONE.true

pub returns : goal.returns
unfolding swap_of left pick
returns c =
    λ p.
    let z = ne_eqb _ _ c.if-n-eq0.false in
    let w = passed _ _ _ _ c.reached-r.ensures.value c.if-r-ne-DONE.false z in
    let a = c.args in
    simp (
      z,
      w.0,
      w.1,
      c.swap_lanes.ensures.register_after,
      c.swap_lanes.ensures.cells_after,
      rest_part,
      copied_back a.tape.now a.at a.register.now a.n,
    )
