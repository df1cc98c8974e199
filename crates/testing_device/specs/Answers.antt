-- 01's number and place for each answer of the device. Assumes nothing.
use Rattle.std.specs.Prelude.{ℕ, suc, Option, Some, None, Result, Ok, Err}
use Rattle.testing_device.specs.declared.device.Taken.{Taken}
use Rattle.testing_device.specs.declared.device.Peeked.{Peeked}
use Rattle.testing_device.specs.declared.device.PeekError.{PeekError}
use Rattle.testing_device.specs.declared.device.PeekError.TheVariants as peek
use Rattle.testing_device.specs.declared.device.PokeError.{PokeError}
use Rattle.testing_device.specs.declared.device.PokeError.TheVariants as poke

-- ---- the first column of 'Numbers given back'

-- "input empty at char"
abbrev pub got_number : Option Taken → ℕ
got_number (Some t) = 0
got_number None = 35

-- "output has no room"
abbrev pub put_number : Option ℕ → ℕ
put_number (Some n) = 0
put_number None = 36

-- "channel empty"; "not a state"
abbrev pub peeked_number : Result Peeked PeekError → ℕ
peeked_number (Ok p) = 0
peeked_number (Err peek.Empty) = 33
peeked_number (Err peek.NotARing) = 37

-- a channel that is "full"; "not a state"
abbrev pub poked_number : Result ℕ PokeError → ℕ
poked_number (Ok waiting) = 0
poked_number (Err poke.Full) = 34
poked_number (Err poke.NotARing) = 37

-- ---- its last column, where op i is run: the "next op" after a 0, the "op" itself where it is refused, 0 where there is no state

abbrev pub got_place : Option Taken → ℕ → ℕ
got_place (Some t) i = suc i
got_place None i = i

abbrev pub put_place : Option ℕ → ℕ → ℕ
put_place (Some n) i = suc i
put_place None i = i

abbrev pub peeked_place : Result Peeked PeekError → ℕ → ℕ
peeked_place (Ok p) i = suc i
peeked_place (Err peek.Empty) i = i
peeked_place (Err peek.NotARing) i = 0

abbrev pub poked_place : Result ℕ PokeError → ℕ → ℕ
poked_place (Ok waiting) i = suc i
poked_place (Err poke.Full) i = i
poked_place (Err poke.NotARing) i = 0
