-- `decimals::chars::past` meets its contract. Assumes nothing.
use Rattle.std.proofs.Common.{◌∙◌}
use Rattle.decimals.proofs.Ends.{stopped, further, last}
use Rattle.decimals.proofs.chars.past.Goals as goal

pub returns-then-not-test : goal.returns-then-not-test
returns-then-not-test g c = λ p d. stopped p _ _ _ (c.loop-i.invariant p d) c.loop-i-test.true _ (d _ _ c.test.ensures) c.if-not-test.true

pub loop-i-preserved : goal.loop-i-preserved
loop-i-preserved g c = λ p d. further p _ _ _ (c.loop-i.invariant p d) c.loop-i-test.true _ (d _ _ c.test.ensures) c.if-not-test.false

pub returns : goal.returns
returns g c =
    λ p d. c.max.ensures ∙ last p _ _ _ (c.loop-i.invariant p d) c.loop-i.auto.i c.loop-i.auto.i-end c.loop-i-test.false
