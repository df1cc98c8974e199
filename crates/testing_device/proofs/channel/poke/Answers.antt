-- `testing_device::channel::poke` meets its contract. Assumes nothing.
use Rattle.std.proofs.Common.{sym, ◌∙◌, le-leb}
use borrow.Author.Tests.{lt-leb}
use Rattle.testing_device.specs.Channel.{poke_in}
use Rattle.testing_device.proofs.channel.poke.Goals as goal

pub returns-then-not-is_ring : goal.returns-then-not-is_ring
unfolding poke_in
returns-then-not-is_ring c = rw (sym c.is_ring.ensures ∙ c.if-not-is_ring.true)

pub returns-then-waiting-ge-CHANNEL : goal.returns-then-waiting-ge-CHANNEL
unfolding poke_in
returns-then-waiting-ge-CHANNEL c = rw (sym c.is_ring.ensures ∙ c.if-not-is_ring.false, le-leb _ _ c.if-waiting-ge-CHANNEL.true)

pub returns : goal.returns
unfolding poke_in
returns c = rw (sym c.is_ring.ensures ∙ c.if-not-is_ring.false, lt-leb _ _ c.if-waiting-ge-CHANNEL.false)
