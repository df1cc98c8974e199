-- `machine::machine::Machine::fresh` meets its contract. Assumes nothing.
use mathlib.Core.Path.{refl}
use Rattle.machine.specs.Fresh.{fresh_of}
use Rattle.machine.proofs.machine.Machine.fresh.Goals as goal

pub returns : goal.returns
unfolding fresh_of
returns c = refl
