-- `testing_device::output::place` meets its contract. Assumes nothing.
use Rattle.std.proofs.Common.{sym, ◌∙◌, arith}
use borrow.Author.Tests.{eqb-false}
use Rattle.testing_device.specs.Room.{put_in}
use Rattle.testing_device.proofs.Outputs.{no_room, all_room}
use Rattle.testing_device.proofs.output.place.Goals as goal

pub returns-then-is_empty : goal.returns-then-is_empty
unfolding put_in
returns-then-is_empty c = rw (sym c.is_empty.ensures ∙ c.if-is_empty.true)

pub returns-then-saturating_sub-values : goal.returns-then-saturating_sub-values
returns-then-saturating_sub-values c = sym (no_room _ _ _ (sym c.is_empty.ensures ∙ c.if-is_empty.false) (omega arith))

pub returns : goal.returns
returns c =
    let a = c.args in let some = sym c.is_empty.ensures ∙ c.if-is_empty.false in
    sym (all_room _ _ _ some (omega (arith, eqb-false _ _ some))
    c.copy.ensures)
