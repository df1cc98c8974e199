-- The machine's state, its fresh state, and the changes of a state. Assumes nothing.
use Rattle.std.specs.Prelude.{ℕ, suc, Bool, true, false, List, []}
use lib.ListN.{replicate, get_or}
use lib.ListN
pub use Rattle.basics.specs.Limits.{most_ops, most_marks, lanes, depth, farthest, longest, first_block}
use Rattle.ops.specs.Syntax.{Op}

-- 02, ask 4: "Add a second call mode, chosen when a run starts and kept in the state". The Rust's table, and by mark; no step changes it
abbrev pub rust_table : ℕ
rust_table = 0

abbrev pub by_mark : ℕ
by_mark = 1

-- what a run is given and does not change: the ops, the call mode, the input values, and the room for outputs
pub record Given : Type 0 where
  pub ops : List Op
  pub mode : ℕ
  pub input : List ℕ
  pub room : ℕ

abbrev pub given : List Op → ℕ → List ℕ → ℕ → Given
given os mode input room = record { ops = os; mode = mode; input = input; room = room }

-- position, pointer and counted length; register, lent tape and function table; the saved calls, the saved pointers and the channel, the
-- newest last; the place of its oldest value, since "the channel reuses freed room" as a ring of 256 places; the input place, the outputs, and whether it
-- has halted
pub record State : Type 0 where
  pub at : ℕ
  pub pointer : ℕ
  pub counted : ℕ
  pub reg : List ℕ
  pub tape : List ℕ
  pub table : List ℕ
  pub calls : List ℕ
  pub refs : List ℕ
  pub channel : List ℕ
  pub first : ℕ
  pub taken : ℕ
  pub outs : List ℕ
  pub halted : Bool

-- "Fresh: 1,024 zero lanes; pointer, position and counted length 0; stacks, table and channel empty; input place and output count 0; not
-- halted", and "zeros to the lent tape", which has so many cells
unfoldable pub fresh : ℕ → State
fresh cells =
    record {
      at = 0;
      pointer = 0;
      counted = 0;
      reg = replicate lanes 0;
      tape = replicate cells 0;
      table = [];
      calls = [];
      refs = [];
      channel = [];
      first = 0;
      taken = 0;
      outs = [];
      halted = false;
    }

-- the number in lane 0, where Call, If, While, End and the others with one lane find theirs
abbrev pub lane0 : State → ℕ
lane0 s = get_or s.reg 0 0

-- ---- changes of a state: one field new, the others as they were; the channel with its first place

abbrev pub go_to : State → ℕ → State
go_to s p =
    record { at = p; pointer = s.pointer; counted = s.counted; reg = s.reg; tape = s.tape; table = s.table; calls = s.calls; refs = s.refs; channel = s.channel; first = s.first; taken = s.taken; outs = s.outs; halted = s.halted }

abbrev pub with_pointer : State → ℕ → State
with_pointer s p =
    record { at = s.at; pointer = p; counted = s.counted; reg = s.reg; tape = s.tape; table = s.table; calls = s.calls; refs = s.refs; channel = s.channel; first = s.first; taken = s.taken; outs = s.outs; halted = s.halted }

abbrev pub with_counted : State → ℕ → State
with_counted s n =
    record { at = s.at; pointer = s.pointer; counted = n; reg = s.reg; tape = s.tape; table = s.table; calls = s.calls; refs = s.refs; channel = s.channel; first = s.first; taken = s.taken; outs = s.outs; halted = s.halted }

abbrev pub with_reg : State → List ℕ → State
with_reg s r =
    record { at = s.at; pointer = s.pointer; counted = s.counted; reg = r; tape = s.tape; table = s.table; calls = s.calls; refs = s.refs; channel = s.channel; first = s.first; taken = s.taken; outs = s.outs; halted = s.halted }

abbrev pub with_tape : State → List ℕ → State
with_tape s t =
    record { at = s.at; pointer = s.pointer; counted = s.counted; reg = s.reg; tape = t; table = s.table; calls = s.calls; refs = s.refs; channel = s.channel; first = s.first; taken = s.taken; outs = s.outs; halted = s.halted }

abbrev pub with_table : State → List ℕ → State
with_table s t =
    record { at = s.at; pointer = s.pointer; counted = s.counted; reg = s.reg; tape = s.tape; table = t; calls = s.calls; refs = s.refs; channel = s.channel; first = s.first; taken = s.taken; outs = s.outs; halted = s.halted }

abbrev pub with_calls : State → List ℕ → State
with_calls s cs =
    record { at = s.at; pointer = s.pointer; counted = s.counted; reg = s.reg; tape = s.tape; table = s.table; calls = cs; refs = s.refs; channel = s.channel; first = s.first; taken = s.taken; outs = s.outs; halted = s.halted }

abbrev pub with_refs : State → List ℕ → State
with_refs s rs =
    record { at = s.at; pointer = s.pointer; counted = s.counted; reg = s.reg; tape = s.tape; table = s.table; calls = s.calls; refs = rs; channel = s.channel; first = s.first; taken = s.taken; outs = s.outs; halted = s.halted }

abbrev pub with_channel : State → ℕ → List ℕ → State
with_channel s f c =
    record { at = s.at; pointer = s.pointer; counted = s.counted; reg = s.reg; tape = s.tape; table = s.table; calls = s.calls; refs = s.refs; channel = c; first = f; taken = s.taken; outs = s.outs; halted = s.halted }

abbrev pub with_taken : State → ℕ → State
with_taken s n =
    record { at = s.at; pointer = s.pointer; counted = s.counted; reg = s.reg; tape = s.tape; table = s.table; calls = s.calls; refs = s.refs; channel = s.channel; first = s.first; taken = n; outs = s.outs; halted = s.halted }

abbrev pub with_outs : State → List ℕ → State
with_outs s os =
    record { at = s.at; pointer = s.pointer; counted = s.counted; reg = s.reg; tape = s.tape; table = s.table; calls = s.calls; refs = s.refs; channel = s.channel; first = s.first; taken = s.taken; outs = os; halted = s.halted }

abbrev pub halt : State → State
halt s =
    record { at = s.at; pointer = s.pointer; counted = s.counted; reg = s.reg; tape = s.tape; table = s.table; calls = s.calls; refs = s.refs; channel = s.channel; first = s.first; taken = s.taken; outs = s.outs; halted = true }

-- one op on
abbrev pub on : State → State
on s = go_to s (suc s.at)

abbrev pub set_lane : State → ℕ → State
set_lane s v = with_reg s (lib.ListN.set s.reg 0 v)
