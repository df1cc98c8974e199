-- `lane_ops::lane::cell` meets its contract. The part of the tape from the pointer on stands beside the lanes. Assumes nothing.
use mathlib.Core.Path.{refl}
use Rattle.basics.specs.Pick.{pick}
use Rattle.lanes.specs.Lane.{cell_rule}
use Rattle.machine_numbers.specs.Numbers.{answered, left, one_list}
use Rattle.machine_numbers.proofs.Parts.{rest_part}
use borrow.Author.Tests.{eq-eqb, ne_eqb}
use Rattle.lane_ops.specs.Lane.{cell_of}
use Rattle.lane_ops.proofs.Reached.{refused, passed}
use Rattle.lane_ops.proofs.lane.cell.Goals as goal

pub returns-then-r-ne-DONE : goal.returns-then-r-ne-DONE
unfolding cell_of
returns-then-r-ne-DONE g c =
    λ o k p.
    let a = c.args in
    let r = a.register.now in
    rw c.if-n-eq1.true (refused _ _ _ _ c.reached-r.ensures.value (λ x. one_list x r) _ (one_list (answered 0 p) r) _ c.if-r-ne-DONE.true)

pub returns-then-n-eq1 : goal.returns-then-n-eq1
unfolding cell_of left pick
returns-then-n-eq1 g c =
    λ o k p.
    let w = passed _ _ _ _ c.reached-r.ensures.value c.if-r-ne-DONE.false refl in
    simp (c.if-n-eq1.true, w.0, w.1, c.zip_one.ensures (cell_rule o) k, rest_part)

pub returns-then-n-eq0 : goal.returns-then-n-eq0
unfolding cell_of left pick
returns-then-n-eq0 g c = λ o k p. simp (eq-eqb _ _ c.if-n-eq0.true)

pub returns-then-r-ne-DONE-2 : goal.returns-then-r-ne-DONE-2
unfolding cell_of
returns-then-r-ne-DONE-2 g c =
    λ o k p.
    let a = c.args in
    refused _ _ _ _ c.reached-r-2.ensures.value (λ x. one_list x a.register.now) _ _ _ c.if-r-ne-DONE-2.true

pub returns : goal.returns
unfolding cell_of left pick
returns g c =
    λ o k p.
    let z = ne_eqb _ _ c.if-n-eq0.false in
    let w = passed _ _ _ _ c.reached-r-2.ensures.value c.if-r-ne-DONE-2.false z in
    simp (z, w.0, w.1, c.zip_lanes.ensures (cell_rule o) k, rest_part)
