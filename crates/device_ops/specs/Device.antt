-- Get, Put, Peek, Poke and FFI Call on the machine's numbers: "21, then theirs". g is the register, ch the channel, o the output. Assumes nothing.
use Rattle.std.specs.Prelude.{List, ℕ, get_or, set, eqb, Option, Some, None, Result, Ok, Err}
use Rattle.basics.specs.Pick.{pick}
use Rattle.kind_table.specs.Rows as row
use Rattle.byte_fields.specs.Bytes.{u16_at}
use Rattle.ops.specs.Decode.{mode_in, binding_in}
use Rattle.ops.specs.declared.op.Mode.{Mode}
use Rattle.ops.specs.declared.op.Binding.{Binding}
use Rattle.testing_device.specs.Device.{get_of, put_of}
use Rattle.testing_device.specs.Room.{put_in}
use Rattle.testing_device.specs.Channel.{peek_of, poke_in}
use Rattle.testing_device.specs.Answers.{got_number, put_number, peeked_number, poked_number}
use Rattle.testing_device.specs.declared.device.Taken.{Taken}
use Rattle.testing_device.specs.declared.device.Peeked.{Peeked}
use Rattle.testing_device.specs.declared.device.PeekError.{PeekError}
use Rattle.testing_device.specs.declared.device.PokeError.{PokeError}
use Rattle.standard_device.specs.Bindings.{called_number, call_in}
use Rattle.standard_device.specs.declared.bindings.Sent.{Sent}
use Rattle.standard_device.specs.declared.bindings.CallError.{CallError}
use Rattle.machine_numbers.specs.Numbers.{of_ring, of_taken, of_written, next, answered, OneList, one_list, Told, told, OpAnswer}
use Rattle.machine_numbers.specs.declared.numbers.Numbers.{Numbers}

-- a value got goes to lane 0; 35 where the input is empty
abbrev pub gotten : Numbers → List ℕ → Option Taken → OneList
gotten p g (Some t) = one_list (answered 0 (next (of_taken p t.at))) (set g 0 t.value)
gotten p g None = one_list (answered (got_number None) p) g

unfoldable pub getting_of : Mode → Numbers → List ℕ → List ℕ → OneList
getting_of m p g input = gotten p g (get_of m input p.taken)

-- the output count after a Put; 36 where there is no room
abbrev pub putting : Numbers → Option ℕ → OpAnswer
putting p (Some n) = answered 0 (next (of_written p n))
putting p None = answered (put_number None) p

unfoldable pub putting_of : Mode → Numbers → List ℕ → List ℕ → OneList
putting_of m p g o =
    let l = put_in (put_of m (get_or g 0 0)) o p.written in
    one_list (putting p l.answer) l.output

-- a value peeked goes to lane 0; 33 where the channel is empty; 37 where it is no ring
abbrev pub peeking : Numbers → List ℕ → Result Peeked PeekError → OneList
peeking p g (Ok t) = one_list (answered 0 (next (of_ring p t.first t.waiting))) (set g 0 t.value)
peeking p g (Err e) = one_list (answered (peeked_number (Err e)) p) g

unfoldable pub peeking_of : Numbers → List ℕ → List ℕ → OneList
peeking_of p g ch = peeking p g (peek_of ch p.first p.waiting)

-- the channel's count after a Poke; 34 where it is full; 37 where it is no ring
abbrev pub poking : Numbers → Result ℕ PokeError → OpAnswer
poking p (Ok w) = answered 0 (next (of_ring p p.first w))
poking p (Err e) = answered (poked_number (Err e)) p

unfoldable pub poking_of : Numbers → List ℕ → List ℕ → OneList
poking_of p g ch =
    let h = poke_in (get_or g 0 0) ch p.first p.waiting in
    one_list (poking p h.answer) h.channel

-- the ring after an FFI Call; 33 where too few values wait; 37 where it is no ring
abbrev pub calling : Numbers → Result Sent CallError → OpAnswer
calling p (Ok t) = answered 0 (next (of_ring p t.first t.waiting))
calling p (Err e) = answered (called_number (Err e)) p

unfoldable pub calling_of : Binding → Numbers → List ℕ → OneList
calling_of b p ch =
    let h = call_in b ch p.first p.waiting in
    one_list (calling p h.answer) h.channel

-- a list's change among the three
abbrev pub in_lanes : List ℕ → List ℕ → OneList → Told
in_lanes ch o l = told l.answer l.list ch o

abbrev pub in_channel : List ℕ → List ℕ → OneList → Told
in_channel g o l = told l.answer g l.list o

abbrev pub in_output : List ℕ → List ℕ → OneList → Told
in_output g ch l = told l.answer g ch l.list

-- the op of row k, with its payload at byte a
unfoldable pub device_of : ℕ → ℕ → Numbers → List ℕ → List ℕ → List ℕ → List ℕ → List ℕ → Told
unfolding pick
device_of k a p g ch input o bs =
    pick (eqb k row.get) (in_lanes ch o (getting_of (mode_in (u16_at bs a)) p g input))
    (pick (eqb k row.put) (in_output g ch (putting_of (mode_in (u16_at bs a)) p g o))
    (pick (eqb k row.peek) (in_lanes ch o (peeking_of p g ch))
    (pick (eqb k row.poke) (in_channel g o (poking_of p g ch))
    (in_channel g o (calling_of (binding_in (u16_at bs a)) p ch)))))
