-- `standard_device::root::near_root` meets its contract. Assumes nothing.
use Rattle.standard_device.proofs.Whole.{Working}
use Rattle.standard_device.proofs.root.near_root.Given as goal

abbrev pub invariant-loop : goal.invariant-loop
invariant-loop l = Working l.m l.q l.rest l.w l.counter
