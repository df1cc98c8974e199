-- `lanes::float::either_nan` meets its contract. Assumes nothing.
use Rattle.std.proofs.Common.{ℕ, ◌^◌, leb, ap, ◌∙◌}
use Rattle.lanes.proofs.Floats.{either}
use Rattle.lanes.proofs.float.either_nan.Goals as goal

pub returns : goal.returns
returns c = ap (λ (n : ℕ). leb (2 ^ 63) n) c.bit_or.ensures ∙ either _ _
