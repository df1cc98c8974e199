-- What a step asks of what the machine holds, of a patch whose kinds have the rows ks. Assumes nothing.
use Rattle.std.specs.Prelude.{◌≡◌, List, ℕ, ◌≤◌, length}
use Rattle.basics.specs.Limits as limit
use Rattle.partners.specs.Columns.{turns_of, functions_of}
use Rattle.machine_numbers.specs.Asks.{PayloadIn}
use Rattle.control_ops.specs.CanSteer.{CanSteer, Steers}
use Rattle.machine_step.specs.Held.{Held, Code}

pub record CanStep (ks : List ℕ) (c : Held) : Type 0 where
  pub steers : CanSteer c.numbers ks c.calls c.register c.table
  pub ref_room : length c.refs ≡ limit.depth
  pub saved : c.numbers.saved ≤ limit.depth
  pub near : c.numbers.pointer ≤ limit.farthest
  pub short : c.numbers.length ≤ limit.longest

-- and what its op asks of the patch x: of row k, it counts n and has its payload at byte a, and the columns hold the places that the searches find
pub record CanOp (k n a : ℕ) (x : Code) (c : Held) : Type 0 where
  pub step : CanStep x.rows c
  pub payload : PayloadIn k n a x.bytes
  pub steers : Steers k c.numbers.position x.rows x.partners
  pub turns : x.turns ≡ turns_of x.rows
  pub marks : x.marks ≡ functions_of x.rows
