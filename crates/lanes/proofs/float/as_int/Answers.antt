-- `lanes::float::as_int` meets its contract. Assumes nothing.
use Rattle.lanes.proofs.Floats.{untrue, differs_nan, same_not_nan, stored_nan, stored_other}
use Rattle.lanes.proofs.float.as_int.Goals as goal

pub float_to_bits-result : goal.float_to_bits-result
float_to_bits-result c = search (untrue, same_not_nan)

pub returns-then-x : goal.returns-then-x
returns-then-x c = search (stored_nan, differs_nan)

pub returns-else-x : goal.returns-else-x
returns-else-x c = search (stored_other, same_not_nan)
