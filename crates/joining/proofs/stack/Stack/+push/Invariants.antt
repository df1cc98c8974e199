-- The measure of `joining::stack::Stack::push` is the number of entries.
use Rattle.joining.proofs.stack.Stack.+push.Given as goal

abbrev pub decreases-push : goal.decreases-push
decreases-push l = l.self.now.n
