-- `standard_device::root::raised` meets its contract. Assumes nothing.
use Rattle.standard_device.proofs.Whole.{zeros_before, lifted_by}
use Rattle.standard_device.proofs.root.raised.Goals as goal

pub overflow_sub-times : goal.overflow_sub-times
overflow_sub-times c = zeros_before _ c.requires.d_nonzero c.requires.d_bound

pub returns : goal.returns
returns c = lifted_by _ c.requires.d_nonzero c.requires.d_bound c.from.ensures
