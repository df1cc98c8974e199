-- `standard_device::bindings::ffi_call` meets its contract. Assumes nothing.
use mathlib.Core.Path.{◌∙◌, sym}
use borrow.Author.Tests.{lt-ltb, le-ltb}
use Rattle.standard_device.specs.Bindings.{call_in}
use Rattle.standard_device.proofs.bindings.ffi_call.Goals as goal

pub returns-then-not-is_ring : goal.returns-then-not-is_ring
unfolding call_in
returns-then-not-is_ring c = rw (sym c.is_ring.ensures ∙ c.if-not-is_ring.true)

pub returns-then-waiting-n : goal.returns-then-waiting-n
unfolding call_in
returns-then-waiting-n c = rw (sym c.is_ring.ensures ∙ c.if-not-is_ring.false, ← c.inputs_of-n.ensures, lt-ltb _ _ c.if-waiting-n.true)

pub returns : goal.returns
unfolding call_in
returns c = rw (sym c.is_ring.ensures ∙ c.if-not-is_ring.false, ← c.inputs_of-n.ensures, le-ltb _ _ c.if-waiting-n.false, ← c.result_of.ensures)
