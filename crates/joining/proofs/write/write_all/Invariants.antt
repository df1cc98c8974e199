-- `joining::write::write_all` meets its contract. Assumes nothing.
use Rattle.joining.proofs.Records.{Wrote}
use Rattle.joining.proofs.write.write_all.Given as goal

abbrev pub invariant-loop-i : goal.invariant-loop-i
invariant-loop-i l = Wrote l.source.bytes.now l.left.ops l.left.values l.initial.out l.out l.i l.at
