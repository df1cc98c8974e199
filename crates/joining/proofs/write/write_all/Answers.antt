-- `joining::write::write_all` meets its contract. Assumes nothing.
use native.Mathlib.Omega.{arith}
use Rattle.joining.proofs.Records.{none_wrote, asks_within, asks_room, wrote_more, wrote_all}
use Rattle.joining.proofs.write.write_all.Goals as goal

pub loop-i-init : goal.loop-i-init
loop-i-init c = none_wrote

pub write_op-at-requires-clause-within : goal.write_op-at-requires-clause-within
write_op-at-requires-clause-within c = rw c.entry.ensures (asks_within c.loop-i.invariant c.args.left.now.n c.loop-i-test.true c.requires.room c.requires.within)

pub write_op-at-requires-clause-room : goal.write_op-at-requires-clause-room
write_op-at-requires-clause-room c = rw c.entry.ensures (asks_room c.loop-i.invariant c.args.left.now.n c.loop-i-test.true c.requires.room c.loop-i.auto.out)

pub loop-i-preserved : goal.loop-i-preserved
loop-i-preserved c =
    let e = c.entry.ensures in
    wrote_more c.loop-i.invariant c.args.left.now.n c.loop-i-test.true c.requires.room (rw e at c.write_op-at.ensures.after) (rw e at c.write_op-at.ensures.value)

pub returns : goal.returns
returns c =
    let w = wrote_all c.loop-i.invariant (omega arith) in
    record { after = w.0; value = w.1 }
