-- The values of a state are the bits of 64-bit integers. Assumes nothing.
use Rattle.std.specs.Prelude.{ℕ, ◌<◌, ◌^◌}
use Rattle.machine_model.specs.State.{State, Given}
use Rattle.machine_model.specs.Formed.{Each}

-- the bits of an i64
abbrev pub Word : ℕ → Type 0
Word v = v < 2 ^ 64

-- lanes, cells, the channel's values, the input's and the outputs
pub record Words (g : Given) (s : State) : Type 0 where
  pub in_reg : Each Word s.reg
  pub in_tape : Each Word s.tape
  pub in_channel : Each Word s.channel
  pub in_input : Each Word g.input
  pub in_outs : Each Word s.outs
