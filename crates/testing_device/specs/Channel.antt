-- Peek and Poke: the channel as a ring in a lent slice. Assumes nothing.
use Rattle.std.specs.Prelude.{ℕ, ◌+◌, ◌-◌, ◌%◌, Bool, cond, ◌&&◌, List, [], ◌∷◌, length, nat_le, nat_lt, Result, Ok, Err}
use lib.ListN
use Rattle.basics.specs.Limits.{depth}
use Rattle.testing_device.specs.Device.{ring}
use Rattle.testing_device.specs.declared.device.Peeked.{Peeked}
use Rattle.testing_device.specs.declared.device.PeekError.{PeekError}
use Rattle.testing_device.specs.declared.device.PeekError.TheVariants as peek
use Rattle.testing_device.specs.declared.device.PokeError.{PokeError}
use Rattle.testing_device.specs.declared.device.PokeError.TheVariants as poke

-- "Lent room for register, table or channel below its limit is 37": 256 places, the first of them in the ring, and no more values than places
abbrev pub is_ring : List ℕ → ℕ → ℕ → Bool
is_ring channel first waiting = nat_le depth (length channel) && nat_lt first depth && nat_le waiting depth

-- of the values that wait, the oldest is taken; none is 33
abbrev pub oldest : List ℕ → ℕ → ℕ → Result Peeked PeekError
oldest [] first waiting = Err peek.Empty
oldest (v ∷ vs) first waiting = Ok (record { value = v; first = (first + 1) % depth; waiting = waiting - 1 })

unfoldable pub peek_of : List ℕ → ℕ → ℕ → Result Peeked PeekError
unfolding ring
peek_of channel first waiting = cond (is_ring channel first waiting) (oldest (ring channel first waiting) first waiting) (Err peek.NotARing)

-- what Poke leaves: its answer, and the channel
pub record PokeLeft : Type 0 where
  pub answer : Result ℕ PokeError
  pub channel : List ℕ

abbrev pub poke_left : Result ℕ PokeError → List ℕ → PokeLeft
poke_left a channel = record { answer = a; channel = channel }

-- a value is sent to the place after those that wait, "the channel reuses freed room"; no place left is 34
unfoldable pub poke_in : ℕ → List ℕ → ℕ → ℕ → PokeLeft
poke_in v channel first waiting =
    cond (is_ring channel first waiting)
    (cond (nat_le depth waiting) (poke_left (Err poke.Full) channel) (poke_left (Ok (waiting + 1)) (lib.ListN.set channel ((first + waiting) % depth) v)))
    (poke_left (Err poke.NotARing) channel)
