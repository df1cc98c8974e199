-- The machine's numbers with one of them changed, and what each family of ops may change. Assumes nothing.
use Rattle.std.specs.Prelude.{true, List, ℕ, ◌+◌, ◌-◌, ◌*◌, ◌/◌, ◌%◌, eqb, ltb}
use Rattle.basics.specs.Pick.{pick}
use Rattle.machine_numbers.specs.declared.numbers.Numbers.{Numbers}

abbrev pub at_position : Numbers → ℕ → Numbers
at_position p v = record { depth = p.depth; saved = p.saved; pointer = p.pointer; position = v; length = p.length; lanes = p.lanes; functions = p.functions; first = p.first; waiting = p.waiting; taken = p.taken; written = p.written; halted = p.halted; mode = p.mode }

abbrev pub at_pointer : Numbers → ℕ → Numbers
at_pointer p v = record { depth = p.depth; saved = p.saved; pointer = v; position = p.position; length = p.length; lanes = p.lanes; functions = p.functions; first = p.first; waiting = p.waiting; taken = p.taken; written = p.written; halted = p.halted; mode = p.mode }

abbrev pub of_length : Numbers → ℕ → Numbers
of_length p v = record { depth = p.depth; saved = p.saved; pointer = p.pointer; position = p.position; length = v; lanes = p.lanes; functions = p.functions; first = p.first; waiting = p.waiting; taken = p.taken; written = p.written; halted = p.halted; mode = p.mode }

abbrev pub of_lanes : Numbers → ℕ → Numbers
of_lanes p v = record { depth = p.depth; saved = p.saved; pointer = p.pointer; position = p.position; length = p.length; lanes = v; functions = p.functions; first = p.first; waiting = p.waiting; taken = p.taken; written = p.written; halted = p.halted; mode = p.mode }

abbrev pub of_depth : Numbers → ℕ → Numbers
of_depth p v = record { depth = v; saved = p.saved; pointer = p.pointer; position = p.position; length = p.length; lanes = p.lanes; functions = p.functions; first = p.first; waiting = p.waiting; taken = p.taken; written = p.written; halted = p.halted; mode = p.mode }

abbrev pub of_saved : Numbers → ℕ → Numbers
of_saved p v = record { depth = p.depth; saved = v; pointer = p.pointer; position = p.position; length = p.length; lanes = p.lanes; functions = p.functions; first = p.first; waiting = p.waiting; taken = p.taken; written = p.written; halted = p.halted; mode = p.mode }

abbrev pub of_functions : Numbers → ℕ → Numbers
of_functions p v = record { depth = p.depth; saved = p.saved; pointer = p.pointer; position = p.position; length = p.length; lanes = p.lanes; functions = v; first = p.first; waiting = p.waiting; taken = p.taken; written = p.written; halted = p.halted; mode = p.mode }

abbrev pub of_ring : Numbers → ℕ → ℕ → Numbers
of_ring p f w = record { depth = p.depth; saved = p.saved; pointer = p.pointer; position = p.position; length = p.length; lanes = p.lanes; functions = p.functions; first = f; waiting = w; taken = p.taken; written = p.written; halted = p.halted; mode = p.mode }

abbrev pub of_taken : Numbers → ℕ → Numbers
of_taken p v = record { depth = p.depth; saved = p.saved; pointer = p.pointer; position = p.position; length = p.length; lanes = p.lanes; functions = p.functions; first = p.first; waiting = p.waiting; taken = v; written = p.written; halted = p.halted; mode = p.mode }

abbrev pub of_written : Numbers → ℕ → Numbers
of_written p v = record { depth = p.depth; saved = p.saved; pointer = p.pointer; position = p.position; length = p.length; lanes = p.lanes; functions = p.functions; first = p.first; waiting = p.waiting; taken = p.taken; written = v; halted = p.halted; mode = p.mode }

abbrev pub of_mode : Numbers → ℕ → Numbers
of_mode p v = record { depth = p.depth; saved = p.saved; pointer = p.pointer; position = p.position; length = p.length; lanes = p.lanes; functions = p.functions; first = p.first; waiting = p.waiting; taken = p.taken; written = p.written; halted = p.halted; mode = v }

abbrev pub halt : Numbers → Numbers
halt p = record { depth = p.depth; saved = p.saved; pointer = p.pointer; position = p.position; length = p.length; lanes = p.lanes; functions = p.functions; first = p.first; waiting = p.waiting; taken = p.taken; written = p.written; halted = true; mode = p.mode }

abbrev pub next : Numbers → Numbers
next p = at_position p (p.position + 1)

-- what an op leaves: 0, or the refusal's number and the first lane that could not be had, and the numbers after it
pub record OpAnswer : Type 0 where
  pub number : ℕ
  pub lane : ℕ
  pub numbers : Numbers

abbrev pub lacking : ℕ → ℕ → Numbers → OpAnswer
lacking n l p = record { number = n; lane = l; numbers = p }

abbrev pub answered : ℕ → Numbers → OpAnswer
answered n p = lacking n 0 p

-- what an op answers that is done and goes on to the next op, one that has set the position, and a Return that halts; a refused one answers the
-- refusal's number, and the lane in the same number
abbrev pub done : ℕ
done = 0

abbrev pub jumping : ℕ
jumping = 1

abbrev pub halting : ℕ
halting = 2

abbrev pub with_lane : ℕ → ℕ → ℕ
with_lane n l = n + 64 * l

abbrev pub number_in : ℕ → ℕ
number_in a = a % 64

abbrev pub lane_in : ℕ → ℕ
lane_in a = a / 64

-- refused with a
abbrev pub refused_by : ℕ → Numbers → OpAnswer
refused_by a p = lacking (number_in a) (lane_in a) p

-- whether n of l cells can be had from the place `at` on: done, or else the number m with the first that can not
unfoldable pub having : ℕ → ℕ → ℕ → ℕ → ℕ
unfolding pick
having m l at n = pick (ltb (l - at) n) (with_lane m (l - at)) done

-- what an op at the place `at` leaves that answers a; p has the numbers that it has set
unfoldable pub left : ℕ → ℕ → Numbers → OpAnswer
unfolding pick
left a at p =
    pick (eqb a done) (answered 0 (at_position p (at + 1)))
    (pick (eqb a jumping) (answered 0 p)
    (pick (eqb a halting) (answered 0 (at_position (halt p) (at + 1))) (refused_by a (at_position p at))))

-- of an op that is not lent the position
abbrev pub onward : ℕ → Numbers → OpAnswer
onward a p = left a p.position p

-- what a step leaves that answers a: halting is an answer, and not yet among the numbers p
unfoldable pub stepped : ℕ → Numbers → OpAnswer
unfolding pick
stepped a p = pick (eqb a halting) (answered 0 (halt p)) (refused_by a p)

-- the ops that steer: calls and function table
pub record Steered : Type 0 where
  pub answer : OpAnswer
  pub calls : List ℕ
  pub table : List ℕ

abbrev pub steered : OpAnswer → List ℕ → List ℕ → Steered
steered h cs ts = record { answer = h; calls = cs; table = ts }

-- the ops that write one list
pub record OneList : Type 0 where
  pub answer : OpAnswer
  pub list : List ℕ

abbrev pub one_list : OpAnswer → List ℕ → OneList
one_list h l = record { answer = h; list = l }

-- the op that changes lanes and cells
pub record Swapped : Type 0 where
  pub answer : OpAnswer
  pub register : List ℕ
  pub tape : List ℕ

abbrev pub swapped : OpAnswer → List ℕ → List ℕ → Swapped
swapped h g t = record { answer = h; register = g; tape = t }

-- the ops of the tape: saved pointers, register and cells
pub record Taped : Type 0 where
  pub answer : OpAnswer
  pub refs : List ℕ
  pub register : List ℕ
  pub tape : List ℕ

abbrev pub taped : OpAnswer → List ℕ → List ℕ → List ℕ → Taped
taped h rs g t = record { answer = h; refs = rs; register = g; tape = t }

-- the ops of the device: register, channel and output
pub record Told : Type 0 where
  pub answer : OpAnswer
  pub register : List ℕ
  pub channel : List ℕ
  pub output : List ℕ

abbrev pub told : OpAnswer → List ℕ → List ℕ → List ℕ → Told
told h g ch o = record { answer = h; register = g; channel = ch; output = o }
