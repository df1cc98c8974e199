-- `flattening::numbering::Scope::main` meets its contract. Assumes nothing.
use Rattle.std.proofs.Common.{refl}
use Rattle.flattening.proofs.NumberingLoop.{main_low}
use Rattle.flattening.proofs.numbering.Scope.main.Goals as goal

pub returns : goal.returns
returns c = (refl, main_low)
