-- `lanes::float::unless_nan` meets its contract. Assumes nothing.
use Rattle.std.proofs.Common.{◌∙◌, ap}
use Rattle.lanes.specs.Float.{stored_of}
use Rattle.lanes.proofs.Floats.{stored_nan, some_nan}
use Rattle.lanes.proofs.float.unless_nan.Goals as goal

pub returns-then-either_nan : goal.returns-then-either_nan
returns-then-either_nan g c = λ f k s. stored_nan _ (s _ _ (some_nan _ _ c.either_nan.ensures c.if-either_nan.true))

pub returns : goal.returns
returns g c = λ f k s. c.as_int.ensures ∙ ap stored_of (k _ _ _ c.op.ensures)
