-- A step, op by op as 01-scope.md has them under 'A step'. The numbers of an op stand in the order in which they are tested, and a refused
-- step leaves nothing behind: it gives its number, a lane by 02's ask 3, and no state. Assumes nothing.
use Rattle.std.specs.Prelude.{ℕ, suc, ◌+◌, ◌-◌, ◌*◌, ◌/◌, ◌%◌, ◌^◌, Bool, true, false, cond, ◌&&◌, ◌||◌, List, [], ◌∷◌, ◌++◌, reverse, leb, ltb, eqb, length, take, drop, get_or, Some, None, Err}
use Rattle.std.proofs.Math.Option.{Option, none, some}
unfoldable pub use Rattle.basics.specs.Pick.{pick}
use Rattle.lanes.specs.Int.{int_add}
use Rattle.lanes.specs.Lane.{cell_rule, lane_rule}
use Rattle.lane_loops.specs.Loops.{zip_to, map_to}
use Rattle.ops.specs.Syntax.{Op, Control, Plain, needs, is_while}
use Rattle.ops.specs.Syntax.Control.{function, call, ret, while, if, else, end}
use Rattle.ops.specs.Syntax.Plain.{comment, store, move, swap, locate, offset, deref, refer, cell, lane, get, put, peek, poke, ffi_call, alloc, free}
use Rattle.ops.specs.Syntax.Op.{control, set, load, plain}
use Rattle.testing_device.specs.Device.{Got, get_of, put_of}
use Rattle.testing_device.specs.Answers.{got_number, put_number, peeked_number, poked_number}
use Rattle.testing_device.specs.declared.device.PeekError.TheVariants as peek_error
use Rattle.testing_device.specs.declared.device.PokeError.TheVariants as poke_error
use Rattle.standard_device.specs.Bindings.{inputs, result_of, called_number}
use Rattle.standard_device.specs.declared.bindings.CallError.TheVariants as call_error
use Rattle.machine_model.specs.State.{State, Given, rust_table, depth, farthest, longest, first_block, lane0, go_to, with_pointer, with_counted, with_reg, with_tape, with_table, with_calls, with_refs, with_channel, with_taken, with_outs, halt, on, set_lane}
use Rattle.machine_model.specs.Scan.{op_at, brackets, functions, to_end, to_else, to_open, kth}

-- what a step gives: the machine is finished, it is refused with a number and a lane, or it goes on in the next state
pub data Outcome : Type 0 where
  finished : Outcome
  refused : ℕ → ℕ → Outcome
  next : State → Outcome

-- refuse with the number where the test holds. 02, ask 3: "Refusals 21, 22 and 23 shall also give the first lane that could not be had", which
-- is l
unfoldable pub lack : Bool → ℕ → ℕ → Outcome → Outcome
lack true n l o = refused n l
lack false n l o = o

-- "All other answers carry lane 0"
unfoldable pub bar : Bool → ℕ → Outcome → Outcome
unfolding lack
bar b n o = lack b n 0 o

-- below 0 as an integer
abbrev pub minus : ℕ → Bool
minus v = leb (2 ^ 63) v

-- ---- Function, Call, Return, If, While, Else, End

-- "enter its place in the table (sorted, once)"
unfoldable pub enter : ℕ → List ℕ → List ℕ
enter p [] = p ∷ []
enter p (q ∷ qs) = cond (ltb p q) (p ∷ q ∷ qs) (cond (eqb p q) (q ∷ qs) (q ∷ enter p qs))

-- go past the partner that a search gives, or 20
abbrev pub jump : State → Option ℕ → Outcome
jump s none = refused 20 0
jump s (some p) = next (go_to s (suc p))

-- the enclosing End, and an If's Else or End, from the op after the position on
abbrev pub end_of : Given → State → Option ℕ
end_of g s = to_end (suc s.at) 0 (drop (suc s.at) (brackets g.ops))

abbrev pub else_of : Given → State → Option ℕ
else_of g s = to_else (suc s.at) 0 (drop (suc s.at) (brackets g.ops))

-- "Save this place; continue after the mark"
abbrev pub called : State → ℕ → State
called s m = with_calls (go_to s (suc m)) (s.calls ++ (s.at ∷ []))

-- which mark a Call with k means, or none. The Rust's mode: "table entry k if the table has more than k, else the k-th mark from the start, counted
-- from 0". 02, ask 4: "k always means the k-th Function mark in the patch, whatever has run"
unfoldable pub routine : ℕ → List ℕ → List Op → ℕ → Option ℕ
unfolding kth
routine mode table os k = pick (eqb mode rust_table && ltb k (length table)) (some (get_or table k 0)) (kth 0 k (functions os))

-- it is "entered in the table", where an entry of the table stands already (`entry_stays`, proofs/Meant.antt); 29 where there is none
abbrev pub found : State → Option ℕ → Outcome
found s none = refused 29 0
found s (some m) = next (with_table (called s m) (enter m s.table))

-- Return: "after the saved place; none saved, halt with position one on"
abbrev pub back : State → List ℕ → Outcome
back s [] = next (halt (on s))
back s (c ∷ cs) = next (with_calls (go_to s (suc (get_or (c ∷ cs) (length cs) 0))) (take (length cs) (c ∷ cs)))

-- End at a lane that is not zero: "its partner a While: the op after that While. Otherwise go on, partner or none"
abbrev pub again : Given → State → Option ℕ → Outcome
again g s none = next (on s)
again g s (some w) = next (cond (is_while (op_at g.ops w)) (go_to s (suc w)) (on s))

unfoldable pub turn : Given → Control → State → Outcome
unfolding to_end to_else to_open routine enter
-- "enter its place in the table (sorted, once), go past its End (20)"
turn g function s = jump (with_table s (enter s.at s.table)) (end_of g s)
-- "21, 28, 32, 29. With k in lane 0"
turn g call s =
    bar (minus (lane0 s)) 28 (bar (leb depth (length s.calls)) 32 (found s (routine g.mode s.table g.ops (lane0 s))))
turn g ret s = back s s.calls
-- "If at zero: after its Else at depth 1, or after its End. While at zero: after its End. Else: after the enclosing End"
turn g if s = pick (eqb (lane0 s) 0) (jump s (else_of g s)) (next (on s))
turn g while s = pick (eqb (lane0 s) 0) (jump s (end_of g s)) (next (on s))
turn g else s = jump s (end_of g s)
-- "21; lane 0 not zero and its partner a While"
turn g end s = pick (eqb (lane0 s) 0) (next (on s)) (again g s (to_open 0 (reverse (take s.at (brackets g.ops)))))

-- ---- the tape

-- "if pointer + n is not below the counted length, add 100,000 times (floor((pointer + n - length) / 100,000) + 1)"
abbrev pub cover : ℕ → ℕ → ℕ
cover p n = cond (ltb p n) n (n + 100_000 * ((p - n) / 100_000 + 1))

-- n cells from p on go beyond a length; "n = 0 touches nothing"
abbrev pub beyond : ℕ → ℕ → ℕ → Bool
beyond p n l = ltb 0 n && ltb l (p + n)

-- 02, ask 3: "the number of cells from the pointer to the end of the counted length or of the lent tape, 0 if none"
abbrev pub ahead : ℕ → ℕ → ℕ
ahead p l = l - p

-- the n cells from the pointer on
abbrev pub cells : State → ℕ → List ℕ
cells s n = take n (drop s.pointer s.tape)

-- the tape with the first n lanes from the pointer on
abbrev pub stored : State → ℕ → List ℕ
stored s n = take s.pointer s.tape ++ take n s.reg ++ drop (s.pointer + length (take n s.reg)) s.tape

-- Deref "saves the pointer and takes the cell's value for it": 26, 25
abbrev pub deref_to : State → ℕ → Outcome
deref_to s v =
    bar (minus v) 26
    (bar (ltb farthest v) 25
    (next (on (with_pointer (with_refs (with_counted s (cover s.pointer s.counted)) (s.refs ++ (s.pointer ∷ []))) v))))

-- "Refer takes back the last saved: 27"
abbrev pub refer_to : State → List ℕ → Outcome
refer_to s [] = refused 27 0
refer_to s (c ∷ cs) = next (on (with_refs (with_pointer s (get_or (c ∷ cs) (length cs) 0)) (take (length cs) (c ∷ cs))))

-- "Move: 24, 25", down and up
abbrev pub move_by : State → ℕ → Bool → Outcome
move_by s m true = bar (ltb s.pointer (2 ^ 64 - m)) 24 (next (on (with_pointer s (s.pointer - (2 ^ 64 - m)))))
move_by s m false = bar (ltb farthest (s.pointer + m)) 25 (next (on (with_pointer s (s.pointer + m))))

-- 02, ask 12: "let Alloc test for zero only". This corrects 01's "length under 30,000 grows by 30,000"; on a well-formed state's length the two
-- are one: `stock_as_before` (proofs/Lengths.antt)
abbrev pub grown : ℕ → ℕ
grown n = cond (eqb n 0) first_block n

-- ---- in and out

-- what Get gives, or 35
abbrev pub gotten : State → Got → Outcome
gotten s None = refused (got_number None) 0
gotten s (Some t) = next (on (with_taken (set_lane s t.value) t.at))

-- outputs, "all or none": 36
abbrev pub write : Given → State → List ℕ → Outcome
write g s vs = bar (ltb g.room (length s.outs + length vs)) (put_number None) (next (on (with_outs s (s.outs ++ vs))))

-- the channel's first place once n values are taken
abbrev pub first_after : State → ℕ → ℕ
first_after s n = (s.first + n) % depth

-- the channel's oldest value, or 33
abbrev pub peek_at : State → List ℕ → Outcome
peek_at s [] = refused (peeked_number (Err peek_error.Empty)) 0
peek_at s (v ∷ vs) = next (on (with_channel (set_lane s v) (first_after s 1) vs))

-- ---- the ops that keep the register's length

unfoldable pub act : Given → Plain → State → Outcome
unfolding cell_rule lane_rule zip_to map_to get_of put_of result_of
-- "Order 21 (Store), 23 (only if n > 0)"
act g (store n) s =
    lack (beyond s.pointer n (length s.tape)) 23 (ahead s.pointer (length s.tape))
    (next (on (with_counted (with_tape s (stored s n)) (cover (s.pointer + n) s.counted))))
-- "32, 23 (pointer not below the lent tape), 26, 25"; with no cell ahead, the lane of its 23 is 0
act g deref s =
    bar (leb depth (length s.refs)) 32
    (bar (leb (length s.tape) s.pointer) 23 (deref_to s (get_or s.tape s.pointer 0)))
act g refer s = refer_to s s.refs
-- "Other cell ops: 21, 22, 23"
act g (cell k n) s =
    lack (beyond s.pointer n s.counted) 22 (ahead s.pointer s.counted)
    (lack (beyond s.pointer n (length s.tape)) 23 (ahead s.pointer (length s.tape))
    (next (on (with_reg s (zip_to (cell_rule k) n s.reg (drop s.pointer s.tape))))))
act g (swap n) s =
    lack (beyond s.pointer n s.counted) 22 (ahead s.pointer s.counted)
    (lack (beyond s.pointer n (length s.tape)) 23 (ahead s.pointer (length s.tape))
    (next (on (with_tape (with_reg s (cells s n ++ drop n s.reg)) (stored s n)))))
act g (move m) s = move_by s m (minus m)
-- "21, 30; .. answer length - 1, then grow by lane 0", where the length is `grown`
act g alloc s =
    bar (minus (lane0 s) || ltb longest (grown s.counted + lane0 s)) 30
    (next (on (with_counted (set_lane s (grown s.counted - 1)) (grown s.counted + lane0 s))))
-- "Get, Put, Peek, Poke: 21, then theirs"
act g (get m) s = gotten s (get_of m g.input s.taken)
act g (put m) s = write g s (put_of m (lane0 s))
act g peek s = peek_at s s.channel
act g poke s = bar (leb depth (length s.channel)) (poked_number (Err poke_error.Full)) (next (on (with_channel s s.first (s.channel ++ (lane0 s ∷ [])))))
-- 02, ask 9: "Each takes its values from the front of the channel and puts its result at the back"; "33 when too few values wait, with none taken"
act g (ffi_call b) s =
    bar (ltb (length s.channel) (inputs b)) (called_number (Err call_error.TooFew))
    (next (on (with_channel s (first_after s (inputs b)) (drop (inputs b) s.channel ++ (result_of b s.channel ∷ [])))))
-- "Where: 21; pointer to lane 0. Lane-only ops: 21"
act g locate s = next (on (set_lane s s.pointer))
act g (lane k n) s = next (on (with_reg s (map_to (lane_rule k) n s.reg)))
act g (offset v n) s = next (on (with_reg s (map_to (λ a. int_add a v) n s.reg)))
-- "Free, Comment: nothing"
act g free s = next (on s)
act g (comment bs) s = next (on s)

-- ---- a step

unfoldable pub exec : Given → Op → State → Outcome
unfolding turn act
exec g (control c) s = turn g c s
-- "Load makes the register n lanes. Order 21 (Store), 23 (only if n > 0)"
exec g (load n) s =
    lack (beyond s.pointer n (length s.tape)) 23 (ahead s.pointer (length s.tape))
    (next (on (with_counted (with_reg s (cells s n)) (cover (s.pointer + n) s.counted))))
-- "Set: the register is its values"
exec g (set k vs) s = next (on (with_reg s vs))
exec g (plain p) s = act g p s

-- the op at the position
unfoldable pub op : Given → State → Op
op g s = op_at g.ops s.at

-- "Before each step: halted or at the end gives 0"; then 21, which is each op's first test, with its lane by 02, ask 3: "for 21 the register's
-- length"
unfoldable pub step : Given → State → Outcome
unfolding exec op
step g s =
    pick (s.halted || leb (length g.ops) s.at) finished
    (lack (ltb (length s.reg) (needs (op g s))) 21 (length s.reg) (exec g (op g s) s))
