-- `machine::machine::Machine::run_fresh` meets its contract. Assumes nothing.
use mathlib.Core.Path.{◌∙◌, sym, ap}
use mathlib.Core.Bool.{not}
use Rattle.ops.specs.Patch.{row_in}
use Rattle.file_laws.proofs.Loaded.{good_file, good_ops, part_length}
use Rattle.states.proofs.WellFormed.{starts}
use Rattle.machine.specs.Calls.{slices}
use Rattle.machine.proofs.Called.{is_loaded, fresh_unread, fresh_cramped, fresh_uneven, fresh_stands, fresh_called}
use Rattle.machine.proofs.machine.Machine.run_fresh.Goals as goal

pub returns-in-Err : goal.returns-in-Err
returns-in-Err c = c.refused.ensures _ ∙ fresh_unread _ _ _ c.in-Err.ensures.value _ _ c.fresh-m.ensures _ _

pub returns-then-not-can_start : goal.returns-then-not-can_start
returns-then-not-can_start c =
    c.refused-then-not-can_start.ensures _
    ∙ fresh_cramped _ _ _ c.in-Ok.ensures.value _ _ c.fresh-m.ensures _ _ c.can_start.ensures (ap not c.if-not-can_start.true) _

pub returns-then-tally-n : goal.returns-then-tally-n
returns-then-tally-n c =
    c.refused-then-tally-n.ensures _
    ∙ fresh_uneven _ _ _ c.in-Ok.ensures.value _ _ c.fresh-m.ensures _ _ c.can_start.ensures (ap not c.if-not-can_start.false) c.if-tally-n.true _

pub zero-requires : goal.zero-requires
zero-requires c = (starts _ _ _ _ (sym c.can_start.ensures ∙ c.if-not-can_start.false)).1.wide

pub run_loaded-requires : goal.run_loaded-requires
run_loaded-requires c =
    let l = c.in-Ok.ensures in
    let many = good_ops _ _ l.value in
    record {
      ops = many;
      loaded = is_loaded _ _ (good_file _ _ l.value) many _ _ _ _ l.rows_after l.counts_after l.needs_after l.payloads_after;
      sums = fresh_stands _ _ c.fresh-m.ensures _ _ _ _ c.if-tally-n.false (sym (part_length _ _ many row_in _ _ l.rows_after)) c.zero-3.ensures;
    }

pub returns : goal.returns
returns c =
    let d = slices c.args.register.now c.args.tape.now c.args.table.now c.args.channel.now c.args.output.now c.args.tally.now in
    c.run_loaded.ensures
    ∙ fresh_called _ _ _ c.in-Ok.ensures.value _ _ c.fresh-m.ensures d _ c.can_start.ensures (ap not c.if-not-can_start.false) c.if-tally-n.false _ _ _
    c.zero.ensures c.zero-2.ensures c.zero-3.ensures c.zero.auto.lanes _
