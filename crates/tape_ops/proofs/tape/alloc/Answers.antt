-- `tape_ops::tape::alloc` meets its contract. Assumes nothing.
use mathlib.Core.Path.{sym}
use Rattle.basics.specs.Pick.{pick}
use Rattle.machine_numbers.specs.Numbers.{left}
use Rattle.tape_ops.specs.Tape.{alloc_of}
use Rattle.tape_ops.proofs.Room.{too_much, enough}
use Rattle.tape_ops.proofs.tape.alloc.Goals as goal

pub returns-then-g-v : goal.returns-then-g-v
unfolding left pick alloc_of
returns-then-g-v c =
    λ p.
    let s = c.stock-g.ensures in
    rw (← s.0) (sym (too_much _ _ s.1 _ _ c.if-g-v.true))

pub returns : goal.returns
unfolding left pick alloc_of
returns c =
    λ p.
    let s = c.stock-g.ensures in
    rw (← s.0) (sym (enough _ _ s.1 _ _ c.if-g-v.false))
