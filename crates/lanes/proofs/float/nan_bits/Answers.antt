-- `lanes::float::nan_bits` meets its contract. Assumes nothing.
use Rattle.std.proofs.Common.{sym}
use lib.Ieee.{binary64}
use lib.Ieee.Bits.{nan_bits_above}
use Rattle.lanes.proofs.float.nan_bits.Goals as goal

pub returns : goal.returns
returns c = sym (nan_bits_above binary64 c.args.a)
