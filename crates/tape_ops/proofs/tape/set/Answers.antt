-- `tape_ops::tape::set` meets its contract. Assumes nothing.
use Rattle.basics.specs.Pick.{pick}
use Rattle.machine_numbers.specs.Numbers.{left}
use Rattle.tape_ops.specs.Tape.{set_of}
use Rattle.tape_ops.proofs.One.{set_one}
use borrow.Author.Rules.{rules}
use Rattle.tape_ops.proofs.tape.set.Goals as goal

pub returns-then-n-eq1 : goal.returns-then-n-eq1
unfolding left pick set_of
returns-then-n-eq1 c = λ p. search (rules, c.if-n-eq1.true, c.u64_at.ensures, set_one)

pub returns : goal.returns
unfolding left pick set_of
returns c = λ p. simp c.read_values.ensures
