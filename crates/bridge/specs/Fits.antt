-- What a step asks of what the machine holds: the lent room is as large as its limit, the counts fit it, and what is seen is a state.
-- Assumes nothing.
use Rattle.std.specs.Prelude.{◌≡◌, List, ℕ, ◌≤◌, ◌<◌, length}
use Rattle.basics.specs.Limits as limit
use Rattle.machine_model.specs.Formed.{Formed}
use Rattle.machine_step.specs.Held.{Held}
use Rattle.bridge.specs.View.{view}
use Rattle.bridge.specs.Decoded.{given_to}

-- "1,024 lanes; calls, refs and channel 256 each", and the counts within what is lent
pub record Counted (c : Held) : Type 0 where
  pub wide : limit.lanes ≤ length c.register
  pub tabled : limit.most_marks ≤ length c.table
  pub ringed : limit.depth ≤ length c.channel
  pub call_room : length c.calls ≡ limit.depth
  pub ref_room : length c.refs ≡ limit.depth
  pub first : c.numbers.first < limit.depth
  pub lanes : c.numbers.lanes ≤ length c.register
  pub functions : c.numbers.functions ≤ length c.table
  pub depth : c.numbers.depth ≤ limit.depth
  pub saved : c.numbers.saved ≤ limit.depth
  pub waiting : c.numbers.waiting ≤ limit.depth
  pub written : c.numbers.written ≤ length c.output

-- "A state is well formed when its limits hold", of the patch s and the input
pub record Fits (s input : List ℕ) (c : Held) : Type 0 where
  pub counted : Counted c
  pub formed : Formed (given_to s input c) (view c)
