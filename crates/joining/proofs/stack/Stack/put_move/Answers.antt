-- `joining::stack::Stack::put_move` meets its contract. Assumes nothing.
use mathlib.Core.Path.{◌∙◌, ap}
use native.Mathlib.Omega.{arith}
use Rattle.joining.specs.declared.entry.Seen.{Seen}
use Rattle.joining.proofs.Stacks.{top_down_new, moved_gone, moved_sum}
use Rattle.joining.proofs.stack.Stack.put_move.Goals as goal

pub returns-then-sum-eq0-clause-value : goal.returns-then-sum-eq0-clause-value
returns-then-sum-eq0-clause-value c =
    let s = c.args.self.now in
    moved_gone c.args.rows.now s.ops s.values s.n c.args.next c.if-self-eq0.false
    (ap (λ (d : Seen). d.row) c.seen.ensures) c.if-seen-ne-MOVE.false c.total-sum.ensures c.if-sum-eq0.true

pub returns-else-sum-eq0-clause-value : goal.returns-else-sum-eq0-clause-value
returns-else-sum-eq0-clause-value c =
    let s = c.args.self.now in
    top_down_new s.ops s.values s.n _ c.if-self-eq0.false (omega (arith, s.few))
    ∙ moved_sum c.args.rows.now s.ops s.values s.n c.args.next c.if-self-eq0.false
    (ap (λ (d : Seen). d.row) c.seen.ensures) c.if-seen-ne-MOVE.false c.total-sum.ensures c.if-sum-eq0.false
