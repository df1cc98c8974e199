-- `joining::stack::Stack::put` meets its contract. Assumes nothing.
use native.Mathlib.Numerals.{add-one}
use native.Mathlib.Omega.{arith}
use Rattle.joining.proofs.Stacks.{top_down_put}
use Rattle.joining.proofs.stack.Stack.put.Goals as goal

pub returns-clause-value : goal.returns-clause-value
returns-clause-value c = let s = c.args.self.now in rw add-one (top_down_put s.ops s.values s.n c.args.next (omega (arith, c.requires)) (omega (arith, c.requires)))
