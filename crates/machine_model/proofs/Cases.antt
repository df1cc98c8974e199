-- Runs that the table of 01-scope.md lacks, computed from the model. demands puts them behind 01's cases, as one list; `all` has them here
-- too, so that this crate refuses a step that is another. Assumes nothing.
use Prim.Native.Nat.{ℕ, ◌-◌, ◌^◌}
use mathlib.Core.Path.{◌≡◌, refl}
use mathlib.Core.List.{List, [], ◌∷◌, ◌++◌, map}
use Rattle.lanes.specs.declared.lane.CellOp.TheVariants.{Add}
use Rattle.lanes.specs.declared.lane.LaneOp.TheVariants.{Dec}
use Rattle.ops.specs.declared.op.Mode.TheVariants.{Char, Int, Other}
use Rattle.ops.specs.declared.op.Binding.TheVariants as binding
use Rattle.ops.specs.Syntax.{Op}
use Rattle.ops.specs.Syntax.Control.{function, call, ret, while, if, else, end}
use Rattle.ops.specs.Syntax.Plain.{comment, store, move, locate, offset, deref, refer, cell, lane, get, put, peek, poke, ffi_call, alloc}
use Rattle.ops.specs.Syntax.Sort.{ints}
use Rattle.ops.specs.Syntax.Op.{control, set, load, plain}
use Rattle.machine_model.specs.State.{given, rust_table, by_mark, fresh, with_tape, lane0}
use Rattle.machine_model.specs.Run.{Answer, run}

-- a run from the fresh state: the call mode, the lent tape, the room for outputs and the budget, the ops, and what is seen of the answer: number, steps
-- and place, then lane 0, pointer, counted length and outputs
pub record Case : Type 0 where
  pub mode : ℕ
  pub tape : List ℕ
  pub room : ℕ
  pub budget : ℕ
  pub ops : List Op
  pub seen : List ℕ

-- four cells of tape, room for four outputs, and a budget that suffices
ran : List Op → List ℕ → Case
ran os l = record { mode = rust_table; tape = 0 ∷ 0 ∷ 0 ∷ 0 ∷ []; room = 4; budget = 100_000; ops = os; seen = l }

-- the same with a budget
within : ℕ → List Op → List ℕ → Case
within b os l = record { mode = rust_table; tape = 0 ∷ 0 ∷ 0 ∷ 0 ∷ []; room = 4; budget = b; ops = os; seen = l }

-- the same as at first, by mark
marking : List Op → List ℕ → Case
marking os l = record { mode = by_mark; tape = 0 ∷ 0 ∷ 0 ∷ 0 ∷ []; room = 4; budget = 100_000; ops = os; seen = l }

-- the same over one lent cell, with no room for outputs
upon : ℕ → List Op → List ℕ → Case
upon v os l = record { mode = rust_table; tape = v ∷ []; room = 0; budget = 100_000; ops = os; seen = l }

unfoldable pub show : Answer → List ℕ
show a = a.number ∷ a.steps ∷ a.place ∷ lane0 a.state ∷ a.state.pointer ∷ a.state.counted ∷ a.state.outs

unfoldable pub tried : Case → List ℕ
unfolding show run fresh
tried c = show (run (given c.ops c.mode [] c.room) c.budget (with_tape (fresh 0) c.tape))

unfoldable pub one : ℕ → Op
one v = set ints (v ∷ [])

out : Op
out = plain (put Char)

root : Op
root = plain (ffi_call binding.SquareRoot)

add : Op
add = plain (ffi_call binding.Add)

-- integers below 0, by their bits
unfoldable pub minus : ℕ → ℕ
minus n = 2 ^ 64 - n

-- ---- brackets

-- a While that loops and leaves, its End met with 2, 1 and 0 in the lane: not tested again ("it enters the body")
loops : List Case
unfolding ran one out
loops =
    ran (one 3 ∷ control while ∷ plain (lane Dec 1) ∷ out ∷ control end ∷ []) (0 ∷ 11 ∷ 5 ∷ 0 ∷ 0 ∷ 0 ∷ 2 ∷ 1 ∷ 0 ∷ [])
    ∷ ran (one 0 ∷ control while ∷ out ∷ control end ∷ []) (0 ∷ 2 ∷ 4 ∷ 0 ∷ 0 ∷ 0 ∷ [])
    ∷ ran (one 0 ∷ control while ∷ control while ∷ control end ∷ out ∷ control end ∷ []) (0 ∷ 2 ∷ 6 ∷ 0 ∷ 0 ∷ 0 ∷ [])
    ∷ []

-- an If that takes each side, that has no Else, and that passes the Else of another
ifs : List Case
unfolding ran one out
ifs =
    ran (one 1 ∷ control if ∷ one 65 ∷ out ∷ control else ∷ one 66 ∷ out ∷ control end ∷ []) (0 ∷ 5 ∷ 8 ∷ 65 ∷ 0 ∷ 0 ∷ 65 ∷ [])
    ∷ ran (one 0 ∷ control if ∷ one 65 ∷ out ∷ control else ∷ one 66 ∷ out ∷ control end ∷ []) (0 ∷ 5 ∷ 8 ∷ 66 ∷ 0 ∷ 0 ∷ 66 ∷ [])
    ∷ ran (one 0 ∷ control if ∷ out ∷ control end ∷ []) (0 ∷ 2 ∷ 4 ∷ 0 ∷ 0 ∷ 0 ∷ [])
    ∷ ran (one 0 ∷ control if ∷ control if ∷ control else ∷ control end ∷ control else ∷ out ∷ control end ∷ []) (0 ∷ 4 ∷ 8 ∷ 0 ∷ 0 ∷ 0 ∷ 0 ∷ [])
    ∷ []

-- an Else in no bracket passes what follows, brackets too; "Else in a While looping: it leaves the loop"
elses : List Case
unfolding ran one out
elses =
    ran (control else ∷ control if ∷ control end ∷ out ∷ control end ∷ []) (0 ∷ 1 ∷ 5 ∷ 0 ∷ 0 ∷ 0 ∷ [])
    ∷ ran (one 65 ∷ control while ∷ out ∷ control else ∷ out ∷ control end ∷ out ∷ []) (0 ∷ 5 ∷ 7 ∷ 65 ∷ 0 ∷ 0 ∷ 65 ∷ 65 ∷ [])
    ∷ []

-- ---- functions

-- a call and its return; "Function's End returning: it falls through"; the second mark is called and entered, then the first is entered
-- before it, so that 0 calls the first
functions : List Case
unfolding ran one out
functions =
    ran (one 0 ∷ control call ∷ out ∷ control ret ∷ control function ∷ one 65 ∷ control ret ∷ control end ∷ []) (0 ∷ 6 ∷ 4 ∷ 65 ∷ 0 ∷ 0 ∷ 65 ∷ [])
    ∷ ran (one 0 ∷ control call ∷ control ret ∷ control function ∷ one 65 ∷ out ∷ control end ∷ one 66 ∷ out ∷ []) (0 ∷ 7 ∷ 9 ∷ 66 ∷ 0 ∷ 0 ∷ 65 ∷ 66 ∷ [])
    ∷ ran
    (one 1 ∷ control call
    ∷ control function ∷ one 65 ∷ out ∷ control ret ∷ control end
    ∷ one 0 ∷ control call ∷ control ret
    ∷ control function ∷ one 66 ∷ out ∷ control ret ∷ control end ∷ [])
    (0 ∷ 12 ∷ 10 ∷ 65 ∷ 0 ∷ 0 ∷ 66 ∷ 65 ∷ [])
    ∷ []

-- ---- the tape

-- growth by Load, Store and Deref, at the last cell that needs none, at the next and by several blocks; Deref and Refer; Alloc
tapes : List Case
unfolding ran one out
tapes =
    ran (load 0 ∷ []) (0 ∷ 1 ∷ 1 ∷ 0 ∷ 0 ∷ 100_000 ∷ [])
    ∷ ran (plain (store 4) ∷ []) (0 ∷ 1 ∷ 1 ∷ 0 ∷ 0 ∷ 100_000 ∷ [])
    ∷ ran (plain deref ∷ []) (0 ∷ 1 ∷ 1 ∷ 0 ∷ 0 ∷ 100_000 ∷ [])
    ∷ ran (load 0 ∷ plain (move 99_999) ∷ load 0 ∷ []) (0 ∷ 3 ∷ 3 ∷ 0 ∷ 99_999 ∷ 100_000 ∷ [])
    ∷ ran (load 0 ∷ plain (move 100_000) ∷ load 0 ∷ []) (0 ∷ 3 ∷ 3 ∷ 0 ∷ 100_000 ∷ 200_000 ∷ [])
    ∷ ran (plain (move 250_000) ∷ plain (store 0) ∷ []) (0 ∷ 2 ∷ 2 ∷ 0 ∷ 250_000 ∷ 300_000 ∷ [])
    ∷ ran (one 3 ∷ plain (store 1) ∷ plain (offset 4 1) ∷ plain (cell Add 1) ∷ plain deref ∷ plain (store 1) ∷ plain refer ∷ load 4 ∷ out ∷ plain (move 3) ∷ load 1 ∷ out ∷ [])
    (0 ∷ 12 ∷ 12 ∷ 10 ∷ 3 ∷ 100_000 ∷ 3 ∷ 10 ∷ [])
    ∷ ran (one 5 ∷ plain alloc ∷ []) (0 ∷ 2 ∷ 2 ∷ 29_999 ∷ 0 ∷ 30_005 ∷ [])
    ∷ ran (plain alloc ∷ plain alloc ∷ []) (0 ∷ 2 ∷ 2 ∷ 29_999 ∷ 0 ∷ 59_999 ∷ [])
    ∷ ran (one 1_999_970_000 ∷ plain alloc ∷ plain (move 1_000_000_000) ∷ []) (0 ∷ 3 ∷ 3 ∷ 29_999 ∷ 1_000_000_000 ∷ 2_000_000_000 ∷ [])
    ∷ ran (plain (move 3) ∷ plain (move (minus 2)) ∷ plain locate ∷ []) (0 ∷ 3 ∷ 3 ∷ 1 ∷ 1 ∷ 0 ∷ [])
    ∷ []

-- ---- in and out

-- integers put as characters; the channel gives back the oldest first, also where 256 wait
talks : List Case
unfolding ran one out minus
talks =
    ran (one (minus 42) ∷ plain (put Int) ∷ plain (put Other) ∷ []) (0 ∷ 3 ∷ 3 ∷ minus 42 ∷ 0 ∷ 0 ∷ 45 ∷ 52 ∷ 50 ∷ [])
    ∷ ran (one 0 ∷ plain (put Int) ∷ []) (0 ∷ 2 ∷ 2 ∷ 0 ∷ 0 ∷ 0 ∷ 48 ∷ [])
    ∷ ran (one 7 ∷ plain poke ∷ one 8 ∷ plain poke ∷ plain peek ∷ out ∷ plain peek ∷ out ∷ plain poke ∷ plain peek ∷ []) (0 ∷ 10 ∷ 10 ∷ 8 ∷ 0 ∷ 0 ∷ 7 ∷ 8 ∷ [])
    ∷ ran (one 256 ∷ control while ∷ plain poke ∷ plain (lane Dec 1) ∷ control end ∷ plain peek ∷ plain poke ∷ plain peek ∷ []) (0 ∷ 773 ∷ 8 ∷ 255 ∷ 0 ∷ 0 ∷ [])
    ∷ []

-- ---- 02, ask 9: "Each takes its values from the front of the channel and puts its result at the back"

-- the root of 2.0, of the least subnormal and of the largest float; two roots, the older value's first; -0.0, infinity, -1.0 and a NaN; 1.5 + 2.25 behind a
-- value that waits, and inf - inf; a full channel
binds : List Case
unfolding ran one out root add
binds =
    ran (one 0x4000_0000_0000_0000 ∷ plain poke ∷ root ∷ plain peek ∷ out ∷ []) (0 ∷ 5 ∷ 5 ∷ 0x3FF6_A09E_667F_3BCD ∷ 0 ∷ 0 ∷ 0x3FF6_A09E_667F_3BCD ∷ [])
    ∷ ran (one 1 ∷ plain poke ∷ root ∷ plain peek ∷ []) (0 ∷ 4 ∷ 4 ∷ 0x1E60_0000_0000_0000 ∷ 0 ∷ 0 ∷ [])
    ∷ ran (one 0x7FEF_FFFF_FFFF_FFFF ∷ plain poke ∷ root ∷ plain peek ∷ []) (0 ∷ 4 ∷ 4 ∷ 0x5FEF_FFFF_FFFF_FFFF ∷ 0 ∷ 0 ∷ [])
    ∷ ran (one 0x4010_0000_0000_0000 ∷ plain poke ∷ one 0x4022_0000_0000_0000 ∷ plain poke ∷ root ∷ root ∷ plain peek ∷ out ∷ plain peek ∷ out ∷ []) (0 ∷ 10 ∷ 10 ∷ 0x4008_0000_0000_0000 ∷ 0 ∷ 0 ∷ 0x4000_0000_0000_0000 ∷ 0x4008_0000_0000_0000 ∷ [])
    ∷ ran (one 0x8000_0000_0000_0000 ∷ plain poke ∷ root ∷ plain peek ∷ []) (0 ∷ 4 ∷ 4 ∷ 0x8000_0000_0000_0000 ∷ 0 ∷ 0 ∷ [])
    ∷ ran (one 0x7FF0_0000_0000_0000 ∷ plain poke ∷ root ∷ plain peek ∷ []) (0 ∷ 4 ∷ 4 ∷ 0x7FF0_0000_0000_0000 ∷ 0 ∷ 0 ∷ [])
    ∷ ran (one 0xBFF0_0000_0000_0000 ∷ plain poke ∷ root ∷ plain peek ∷ []) (0 ∷ 4 ∷ 4 ∷ 0x7FF8_0000_0000_0000 ∷ 0 ∷ 0 ∷ [])
    ∷ ran (one 0xFFF0_0000_0000_0001 ∷ plain poke ∷ root ∷ plain peek ∷ []) (0 ∷ 4 ∷ 4 ∷ 0x7FF8_0000_0000_0000 ∷ 0 ∷ 0 ∷ [])
    ∷ ran (one 0x3FF8_0000_0000_0000 ∷ plain poke ∷ one 0x4002_0000_0000_0000 ∷ plain poke ∷ one 7 ∷ plain poke ∷ add ∷ plain peek ∷ out ∷ plain peek ∷ out ∷ []) (0 ∷ 11 ∷ 11 ∷ 0x400E_0000_0000_0000 ∷ 0 ∷ 0 ∷ 7 ∷ 0x400E_0000_0000_0000 ∷ [])
    ∷ ran (one 0x7FF0_0000_0000_0000 ∷ plain poke ∷ one 0xFFF0_0000_0000_0000 ∷ plain poke ∷ add ∷ plain peek ∷ []) (0 ∷ 6 ∷ 6 ∷ 0x7FF8_0000_0000_0000 ∷ 0 ∷ 0 ∷ [])
    ∷ ran (one 256 ∷ control while ∷ plain poke ∷ plain (lane Dec 1) ∷ control end ∷ root ∷ plain peek ∷ []) (0 ∷ 772 ∷ 7 ∷ 255 ∷ 0 ∷ 0 ∷ [])
    ∷ []

-- ---- the budget: "halted or at the end gives 0; steps equal to budget gives 50", before any refusal
budgets : List Case
unfolding within one out
budgets =
    within 0 [] (0 ∷ 0 ∷ 0 ∷ 0 ∷ 0 ∷ 0 ∷ [])
    ∷ within 2 (one 1 ∷ out ∷ []) (0 ∷ 2 ∷ 2 ∷ 1 ∷ 0 ∷ 0 ∷ 1 ∷ [])
    ∷ within 1 (one 1 ∷ out ∷ []) (50 ∷ 1 ∷ 1 ∷ 1 ∷ 0 ∷ 0 ∷ [])
    ∷ within 1 (control ret ∷ out ∷ []) (0 ∷ 1 ∷ 1 ∷ 0 ∷ 0 ∷ 0 ∷ [])
    ∷ within 0 (plain refer ∷ []) (50 ∷ 0 ∷ 0 ∷ 0 ∷ 0 ∷ 0 ∷ [])
    ∷ []

-- ---- 02, ask 8: comments are passed, and are no steps

note : Op
note = plain (comment (104 ∷ 105 ∷ []))

-- a comment after the Call, and one after the mark
calling : List Op
unfolding one out note
calling = one 0 ∷ control call ∷ note ∷ control ret ∷ control function ∷ note ∷ one 65 ∷ out ∷ control ret ∷ control end ∷ []

-- "a patch of comments finishes on budget 0"; those after the last step are passed, and 50 is given at the next op that is none; the position after
-- them stands where that is refused; a halted machine passes none; a While, an If, a Call and a Return that go to one
unfoldable pub notes : List Case
unfolding within one note calling
notes =
    within 0 (note ∷ note ∷ []) (0 ∷ 0 ∷ 2 ∷ 0 ∷ 0 ∷ 0 ∷ [])
    ∷ within 1 (note ∷ one 1 ∷ note ∷ []) (0 ∷ 1 ∷ 3 ∷ 1 ∷ 0 ∷ 0 ∷ [])
    ∷ within 1 (one 1 ∷ note ∷ note ∷ one 2 ∷ []) (50 ∷ 1 ∷ 3 ∷ 1 ∷ 0 ∷ 0 ∷ [])
    ∷ within 5 (note ∷ plain (store 5) ∷ []) (23 ∷ 0 ∷ 1 ∷ 0 ∷ 0 ∷ 0 ∷ [])
    ∷ within 5 (control ret ∷ note ∷ []) (0 ∷ 1 ∷ 1 ∷ 0 ∷ 0 ∷ 0 ∷ [])
    ∷ within 4 (one 2 ∷ control while ∷ note ∷ plain (lane Dec 1) ∷ note ∷ control end ∷ note ∷ []) (50 ∷ 4 ∷ 3 ∷ 1 ∷ 0 ∷ 0 ∷ [])
    ∷ within 2 (one 0 ∷ note ∷ control if ∷ note ∷ one 7 ∷ control else ∷ note ∷ one 9 ∷ control end ∷ note ∷ []) (50 ∷ 2 ∷ 7 ∷ 0 ∷ 0 ∷ 0 ∷ [])
    ∷ within 2 calling (50 ∷ 2 ∷ 6 ∷ 0 ∷ 0 ∷ 0 ∷ [])
    ∷ within 5 calling (50 ∷ 5 ∷ 3 ∷ 65 ∷ 0 ∷ 0 ∷ 65 ∷ [])
    ∷ []

-- ---- 02, ask 4: by mark

-- `fun, set [65], put, ret, end` inside a function that has more to do, and a function after it
nest : List Op
unfolding one out
nest =
    control function ∷ control function ∷ one 65 ∷ out ∷ control ret ∷ control end ∷ one 66 ∷ out ∷ control ret ∷ control end
    ∷ control function ∷ one 67 ∷ out ∷ control ret ∷ control end ∷ []

-- "nested ones too", in file order, whatever the table holds; 29 where there are not so many; 28 and 32 before it
by_mark_lem : List Case
unfolding marking one nest minus
by_mark_lem =
    marking (one 1 ∷ control call ∷ one 2 ∷ control call ∷ control ret ∷ nest) (0 ∷ 11 ∷ 5 ∷ 67 ∷ 0 ∷ 0 ∷ 65 ∷ 67 ∷ [])
    ∷ marking (nest ++ one 1 ∷ control call ∷ one 2 ∷ control call ∷ []) (0 ∷ 12 ∷ 19 ∷ 67 ∷ 0 ∷ 0 ∷ 65 ∷ 67 ∷ [])
    ∷ ran (nest ++ one 1 ∷ control call ∷ one 2 ∷ control call ∷ []) (0 ∷ 12 ∷ 19 ∷ 67 ∷ 0 ∷ 0 ∷ 67 ∷ 67 ∷ [])
    ∷ marking (nest ++ one 3 ∷ control call ∷ []) (29 ∷ 3 ∷ 16 ∷ 3 ∷ 0 ∷ 0 ∷ [])
    ∷ marking (one (minus 1) ∷ control call ∷ []) (28 ∷ 1 ∷ 1 ∷ minus 1 ∷ 0 ∷ 0 ∷ [])
    ∷ marking (control call ∷ control function ∷ control call ∷ control end ∷ []) (32 ∷ 256 ∷ 2 ∷ 0 ∷ 0 ∷ 0 ∷ [])
    ∷ []

-- ---- every refusal of a step, with its place; earlier steps stand, and the refused one leaves nothing
refusals : List Case
unfolding ran upon one out minus root add
refusals =
    ran (one 0 ∷ control while ∷ []) (20 ∷ 1 ∷ 1 ∷ 0 ∷ 0 ∷ 0 ∷ [])
    ∷ ran (one 0 ∷ control if ∷ control if ∷ control end ∷ []) (20 ∷ 1 ∷ 1 ∷ 0 ∷ 0 ∷ 0 ∷ [])
    ∷ ran (control else ∷ []) (20 ∷ 0 ∷ 0 ∷ 0 ∷ 0 ∷ 0 ∷ [])
    ∷ ran (control function ∷ []) (20 ∷ 0 ∷ 0 ∷ 0 ∷ 0 ∷ 0 ∷ [])
    ∷ ran (load 0 ∷ control end ∷ []) (21 ∷ 1 ∷ 1 ∷ 0 ∷ 0 ∷ 100_000 ∷ [])
    ∷ ran (plain (cell Add 1) ∷ []) (22 ∷ 0 ∷ 0 ∷ 0 ∷ 0 ∷ 0 ∷ [])
    ∷ ran (load 0 ∷ set ints (1 ∷ 2 ∷ []) ∷ plain (move 3) ∷ plain (cell Add 2) ∷ []) (23 ∷ 3 ∷ 3 ∷ 1 ∷ 3 ∷ 100_000 ∷ [])
    ∷ ran (plain (store 5) ∷ []) (23 ∷ 0 ∷ 0 ∷ 0 ∷ 0 ∷ 0 ∷ [])
    ∷ ran (load 5 ∷ []) (23 ∷ 0 ∷ 0 ∷ 0 ∷ 0 ∷ 0 ∷ [])
    ∷ ran (plain (move 4) ∷ plain deref ∷ []) (23 ∷ 1 ∷ 1 ∷ 0 ∷ 4 ∷ 0 ∷ [])
    ∷ ran (plain (move 2) ∷ plain (move (minus 3)) ∷ []) (24 ∷ 1 ∷ 1 ∷ 0 ∷ 2 ∷ 0 ∷ [])
    ∷ ran (plain (move 1_000_000_000) ∷ plain (move 1) ∷ []) (25 ∷ 1 ∷ 1 ∷ 0 ∷ 1_000_000_000 ∷ 0 ∷ [])
    ∷ upon 1_000_000_001 (plain deref ∷ []) (25 ∷ 0 ∷ 0 ∷ 0 ∷ 0 ∷ 0 ∷ [])
    ∷ upon (minus 1) (plain deref ∷ []) (26 ∷ 0 ∷ 0 ∷ 0 ∷ 0 ∷ 0 ∷ [])
    ∷ ran (plain deref ∷ plain refer ∷ plain refer ∷ []) (27 ∷ 2 ∷ 2 ∷ 0 ∷ 0 ∷ 100_000 ∷ [])
    ∷ ran (one (minus 1) ∷ control call ∷ []) (28 ∷ 1 ∷ 1 ∷ minus 1 ∷ 0 ∷ 0 ∷ [])
    ∷ ran (one 1 ∷ control call ∷ control function ∷ control end ∷ []) (29 ∷ 1 ∷ 1 ∷ 1 ∷ 0 ∷ 0 ∷ [])
    ∷ ran (one (minus 1) ∷ plain alloc ∷ []) (30 ∷ 1 ∷ 1 ∷ minus 1 ∷ 0 ∷ 0 ∷ [])
    ∷ ran (one 1_999_970_001 ∷ plain alloc ∷ []) (30 ∷ 1 ∷ 1 ∷ 1_999_970_001 ∷ 0 ∷ 0 ∷ [])
    ∷ ran (control call ∷ control function ∷ control call ∷ control end ∷ []) (32 ∷ 256 ∷ 2 ∷ 0 ∷ 0 ∷ 0 ∷ [])
    ∷ ran (one 1 ∷ control while ∷ plain deref ∷ control end ∷ []) (32 ∷ 514 ∷ 2 ∷ 1 ∷ 0 ∷ 100_000 ∷ [])
    ∷ ran (plain peek ∷ []) (33 ∷ 0 ∷ 0 ∷ 0 ∷ 0 ∷ 0 ∷ [])
    ∷ ran (root ∷ []) (33 ∷ 0 ∷ 0 ∷ 0 ∷ 0 ∷ 0 ∷ [])
    ∷ ran (one 7 ∷ plain poke ∷ add ∷ []) (33 ∷ 2 ∷ 2 ∷ 7 ∷ 0 ∷ 0 ∷ [])
    ∷ ran (one 1 ∷ control while ∷ plain poke ∷ control end ∷ []) (34 ∷ 514 ∷ 2 ∷ 1 ∷ 0 ∷ 0 ∷ [])
    ∷ ran (plain (get Char) ∷ []) (35 ∷ 0 ∷ 0 ∷ 0 ∷ 0 ∷ 0 ∷ [])
    ∷ ran (one 12_345 ∷ plain (put Int) ∷ []) (36 ∷ 1 ∷ 1 ∷ 12_345 ∷ 0 ∷ 0 ∷ [])
    ∷ upon 0 (plain (put Other) ∷ out ∷ []) (36 ∷ 1 ∷ 1 ∷ 0 ∷ 0 ∷ 0 ∷ [])
    ∷ []

-- ---- 02, ask 3: the number of a run, and its lane

unfoldable pub lane_tried : Case → List ℕ
unfolding run fresh
lane_tried c = let a = run (given c.ops c.mode [] c.room) c.budget (with_tape (fresh 0) c.tape) in a.number ∷ a.lane ∷ []

-- 21 with the register's length, 22 with the cells to the end of the counted length, which the lent tape does not shorten, 23 with those to the end of
-- the tape; the first lane and a later one; a pointer beyond the end; and the lane 0 of the others, 0 and 50 among them
unfoldable pub lanes : List Case
unfolding ran within one
lanes =
    ran (set ints (1 ∷ 2 ∷ 3 ∷ []) ∷ plain (offset 1 400) ∷ []) (21 ∷ 3 ∷ [])
    ∷ ran (load 0 ∷ control if ∷ []) (21 ∷ 0 ∷ [])
    ∷ ran (plain (cell Add 400) ∷ []) (22 ∷ 0 ∷ [])
    ∷ ran (plain alloc ∷ load 0 ∷ set ints (7 ∷ 7 ∷ 7 ∷ []) ∷ plain (move 29_999) ∷ plain (cell Add 3) ∷ []) (22 ∷ 1 ∷ [])
    ∷ ran (plain alloc ∷ plain (move 30_001) ∷ plain (cell Add 1) ∷ []) (22 ∷ 0 ∷ [])
    ∷ ran (load 4 ∷ plain (move 3) ∷ plain (cell Add 2) ∷ []) (23 ∷ 1 ∷ [])
    ∷ ran (plain (store 400) ∷ []) (23 ∷ 4 ∷ [])
    ∷ ran (plain (move 9) ∷ load 1 ∷ []) (23 ∷ 0 ∷ [])
    ∷ ran (plain (move 4) ∷ plain deref ∷ []) (23 ∷ 0 ∷ [])
    ∷ ran (plain refer ∷ []) (27 ∷ 0 ∷ [])
    ∷ ran (load 2 ∷ []) (0 ∷ 0 ∷ [])
    ∷ within 1 (load 2 ∷ plain (cell Add 3) ∷ []) (50 ∷ 0 ∷ [])
    ∷ []

all_lanes : map lane_tried lanes ≡ map (λ c. c.seen) lanes
unfolding lane_tried lanes
all_lanes = refl

unfoldable pub cases : List Case
unfolding loops ifs elses functions tapes talks binds budgets notes by_mark_lem refusals
cases = loops ++ ifs ++ elses ++ functions ++ tapes ++ talks ++ binds ++ budgets ++ notes ++ by_mark_lem ++ refusals

all : map tried cases ≡ map (λ c. c.seen) cases
unfolding tried cases
all = refl
