-- `standard_device::root::square_root` meets its contract. Assumes nothing.
use mathlib.Core.Path.{refl}
use borrow.Author.Tests.{ne_eqb, lt-ltb, le-ltb}
use Rattle.standard_device.specs.Root.{root_rule}
use Rattle.standard_device.proofs.root.square_root.Goals as goal

pub returns-then-a-gt-INFINITY : goal.returns-then-a-gt-INFINITY
unfolding root_rule
returns-then-a-gt-INFINITY c = rw (ne_eqb _ _ c.if-a-eq0.false, lt-ltb _ _ c.if-a-gt-INFINITY.true) refl

pub returns : goal.returns
unfolding root_rule
returns c = rw (ne_eqb _ _ c.if-a-eq0.false, le-ltb _ _ c.if-a-gt-INFINITY.false, ne_eqb _ _ c.if-a-eq-INFINITY.false) c.positive_root.ensures
