-- `machine_run::going::go` meets its contract. Assumes nothing.
use mathlib.Core.Path.{◌≡◌}
use mathlib.Core.Bool.{false}
use lib.ListN.{length}
use Rattle.machine_step.specs.Held.{held, code_in}
use Rattle.machine_run.proofs.RunLoop.{Counting, Running, ahead}
use Rattle.machine_run.proofs.going.go.Given as goal

abbrev pub invariant-loop-h : goal.invariant-loop-h
invariant-loop-h l =
    let x = code_in l.code in
    let from = held l.initial.h l.initial.calls l.initial.refs l.initial.register l.initial.tape l.initial.table l.initial.channel l.initial.output in
    let c = held l.h l.calls l.refs l.register l.tape l.table l.channel l.output in
    record {
      runs : Running x.bytes l.input x l.budget from c l.left;
      counts : Counting x l.input l.budget from l.initial.tally c l.tally l.left;
      halted : l.h.halted ≡ false;
    }

abbrev pub decreases-loop-h : goal.decreases-loop-h
decreases-loop-h l = ahead (length (code_in l.code).rows) l.left l.h.position
