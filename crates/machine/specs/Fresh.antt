-- The limits of the machine, and the fresh machine. Assumes nothing.
use Rattle.std.specs.Prelude.{false, ℕ, ◌-◌, ◌^◌, replicate}
use Rattle.basics.specs.Limits as limit
use Rattle.busy.specs.Sums.{most_steps}
use Rattle.machine.specs.declared.machine.Capacities.{Capacities}
use Rattle.machine.specs.declared.machine.Machine.{Machine}

-- "These limits belong to the machine's type"; "budget u32"; 02, ask 11: the step total, "2 to the power 53"
abbrev pub limits_of : Capacities
limits_of =
    record {
      file = limit.most_bytes;
      ops = limit.most_ops;
      marks = limit.most_marks;
      lanes = limit.lanes;
      calls = limit.depth;
      refs = limit.depth;
      channel = limit.depth;
      pointer = limit.farthest;
      length = limit.longest;
      budget = 2 ^ 32 - 1;
      total = most_steps;
    }

-- "Fresh: 1,024 zero lanes; pointer, position and counted length 0; stacks, table and channel empty; input place and output count 0; not halted";
-- 02, ask 4: the call mode is "chosen when a run starts and kept in the state"; ask 11: the step total starts at zero
unfoldable pub fresh_of : ℕ → Machine
fresh_of mode =
    record {
      calls = replicate limit.depth 0;
      refs = replicate limit.depth 0;
      numbers = record { depth = 0; saved = 0; pointer = 0; position = 0; length = 0; lanes = limit.lanes; functions = 0; first = 0; waiting = 0; taken = 0; written = 0; halted = false; mode = mode };
      total = 0;
    }
