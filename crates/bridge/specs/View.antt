-- What a machine and its lent slices stand for (`view`), and a state written over them (`lay`), so that entries outside the counts keep
-- their values; so does the call mode, which no step changes. Assumes nothing.
use Rattle.std.specs.Prelude.{length, take}
use Rattle.byte_fields.specs.Storage.{fill}
use Rattle.testing_device.specs.Device.{ring, fill_ring}
use Rattle.machine_model.specs.State.{State}
use Rattle.machine_model.specs.Step.{Outcome}
use Rattle.machine_model.specs.Step.Outcome.{finished, refused, next}
use Rattle.machine_step.specs.Held.{Held, After}

abbrev pub view : Held → State
view c =
    record {
      at = c.numbers.position;
      pointer = c.numbers.pointer;
      counted = c.numbers.length;
      reg = take c.numbers.lanes c.register;
      tape = c.tape;
      table = take c.numbers.functions c.table;
      calls = take c.numbers.depth c.calls;
      refs = take c.numbers.saved c.refs;
      channel = ring c.channel c.numbers.first c.numbers.waiting;
      first = c.numbers.first;
      taken = c.numbers.taken;
      outs = take c.numbers.written c.output;
      halted = c.numbers.halted;
    }

unfoldable pub lay : State → Held → Held
lay s c =
    record {
      numbers = record {
        depth = length s.calls;
        saved = length s.refs;
        pointer = s.pointer;
        position = s.at;
        length = s.counted;
        lanes = length s.reg;
        functions = length s.table;
        first = s.first;
        waiting = length s.channel;
        taken = s.taken;
        written = length s.outs;
        halted = s.halted;
        mode = c.numbers.mode;
      };
      calls = fill s.calls c.calls;
      refs = fill s.refs c.refs;
      register = fill s.reg c.register;
      tape = s.tape;
      table = fill s.table c.table;
      channel = fill_ring c.channel s.first s.channel;
      output = fill s.outs c.output;
    }

-- the model's outcome over what the step began with: a refused step leaves all as it was
abbrev pub laid : Held → Outcome → After
laid c finished = record { number = 0; lane = 0; held = c }
laid c (refused n l) = record { number = n; lane = l; held = c }
laid c (next s) = record { number = 0; lane = 0; held = lay s c }
