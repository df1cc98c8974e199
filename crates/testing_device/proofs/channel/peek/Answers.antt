-- `testing_device::channel::peek` meets its contract. Assumes nothing.
use Rattle.std.proofs.Common.{sym, ◌∙◌, arith}
use Rattle.testing_device.specs.Channel.{peek_of}
use Rattle.testing_device.proofs.Rings.{peek_none, peek_some}
use Rattle.testing_device.proofs.channel.peek.Goals as goal

pub returns-then-not-is_ring : goal.returns-then-not-is_ring
unfolding peek_of
returns-then-not-is_ring c = rw (sym c.is_ring.ensures ∙ c.if-not-is_ring.true)

pub returns-then-waiting-eq0 : goal.returns-then-waiting-eq0
returns-then-waiting-eq0 c = sym (peek_none _ _ _ (sym c.is_ring.ensures ∙ c.if-not-is_ring.false) c.if-waiting-eq0.true)

pub returns : goal.returns
returns c = sym (peek_some _ _ _ (sym c.is_ring.ensures ∙ c.if-not-is_ring.false) (omega arith))
