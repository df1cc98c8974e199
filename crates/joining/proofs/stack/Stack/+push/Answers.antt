-- `joining::stack::Stack::push` meets its contract. Assumes nothing.
use mathlib.Core.Path.{◌∙◌, ap₂, sym}
use native.Mathlib.Omega.{arith}
use Rattle.joining.specs.Stack.{meet}
use Rattle.joining.specs.declared.entry.Seen.{Seen}
use Rattle.joining.proofs.Stacks.{top_down_new, pushed_sum}
use Rattle.joining.proofs.stack.Stack.+push.Goals as goal

pub returns-in-Sum-clause-value : goal.returns-in-Sum-clause-value
returns-in-Sum-clause-value t c =
    let s = c.args.self.now in
    top_down_new s.ops s.values s.n _ c.if-self-eq0.false (omega (arith, s.few))
    ∙ pushed_sum c.args.rows.now c.args.counts.now s.ops s.values s.n c.args.next c.in-Sum.sum c.if-self-eq0.false
    (sym (ap₂ (λ (y x : Seen). meet y.row y.count y.value x.row x.count x.value) c.seen.ensures c.seen-2.ensures) ∙ sym c.meets.ensures ∙ c.in-Sum.is)
