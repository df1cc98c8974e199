-- Patches that break a rule of the check, each with its smallest mend, and what a run of each gives: computed and compared as one list.
-- Assumes nothing.
use Prim.Native.Nat.{ℕ}
use mathlib.Core.Path.{◌≡◌, refl}
use mathlib.Core.List.{List, [], ◌∷◌, map}
use Rattle.ops.specs.Syntax.{Op}
use Rattle.ops.specs.Syntax.Control.{function, call, ret, while, if, else, end}
use Rattle.ops.specs.Syntax.Plain.{store, put}
use Rattle.ops.specs.Syntax.Sort.{ints}
use Rattle.ops.specs.Syntax.Op.{control, set, load, plain}
use Rattle.ops.specs.declared.op.Mode.TheVariants.{Char}
use Rattle.machine_model.specs.State.{rust_table, fresh}
use Rattle.machine_model.specs.Run.{Answer, run}
use Rattle.answers.specs.Check.{Verdict, number_of, place_of}
use Rattle.patch_check.specs.Check.{check}
use Rattle.demands.specs.Reached.{given}

-- a patch, and what is seen: the check's number and place, and the number, steps and place of a run of at most 100 steps
record Case : Type 0 where
  patch : List Op
  seen : List ℕ

case : List Op → List ℕ → Case
case os ns = record { patch = os; seen = ns }

show : Verdict → Answer → List ℕ
show v a = number_of v ∷ place_of v ∷ a.number ∷ a.steps ∷ a.place ∷ []

tried : Case → List ℕ
unfolding show check run fresh
tried c = show (check c.patch) (run (given c.patch rust_table [] 4) 100 (fresh 4))

cases : List Case
unfolding case
cases =
    -- 10, case 7 of 01; in a bracket
    case (control end ∷ []) (10 ∷ 0 ∷ 0 ∷ 1 ∷ 1 ∷ [])
    ∷ case (control if ∷ control end ∷ []) (0 ∷ 2 ∷ 0 ∷ 1 ∷ 2 ∷ [])
    -- 10, one End too many; without it
    ∷ case (control while ∷ control end ∷ control end ∷ []) (10 ∷ 2 ∷ 0 ∷ 2 ∷ 3 ∷ [])
    ∷ case (control while ∷ control end ∷ []) (0 ∷ 2 ∷ 0 ∷ 1 ∷ 2 ∷ [])
    -- 10 before 12; without the End 12 is gone too
    ∷ case (load 0 ∷ control end ∷ []) (10 ∷ 1 ∷ 21 ∷ 1 ∷ 1 ∷ [])
    ∷ case (load 0 ∷ []) (0 ∷ 1 ∷ 0 ∷ 1 ∷ 1 ∷ [])
    -- 11; in a bracket, which may be any
    ∷ case (control else ∷ []) (11 ∷ 0 ∷ 20 ∷ 0 ∷ 0 ∷ [])
    ∷ case (control while ∷ control else ∷ control end ∷ []) (0 ∷ 3 ∷ 0 ∷ 1 ∷ 3 ∷ [])
    ∷ case (control function ∷ control else ∷ control end ∷ []) (0 ∷ 3 ∷ 0 ∷ 1 ∷ 3 ∷ [])
    -- 12, case 6 of 01; with its End; with a lane
    ∷ case (load 0 ∷ control if ∷ []) (12 ∷ 1 ∷ 21 ∷ 1 ∷ 1 ∷ [])
    ∷ case (load 0 ∷ control if ∷ control end ∷ []) (12 ∷ 1 ∷ 21 ∷ 1 ∷ 1 ∷ [])
    ∷ case (load 1 ∷ control if ∷ control end ∷ []) (0 ∷ 3 ∷ 0 ∷ 2 ∷ 3 ∷ [])
    -- 12 at Function, at Else, at Return and at End; each with a lane
    ∷ case (load 0 ∷ control function ∷ control end ∷ []) (12 ∷ 1 ∷ 0 ∷ 2 ∷ 3 ∷ [])
    ∷ case (load 1 ∷ control function ∷ control end ∷ []) (0 ∷ 3 ∷ 0 ∷ 2 ∷ 3 ∷ [])
    ∷ case (control if ∷ load 0 ∷ control else ∷ control end ∷ []) (12 ∷ 2 ∷ 0 ∷ 2 ∷ 4 ∷ [])
    ∷ case (control if ∷ load 1 ∷ control else ∷ control end ∷ []) (0 ∷ 4 ∷ 0 ∷ 2 ∷ 4 ∷ [])
    ∷ case (load 0 ∷ control ret ∷ []) (12 ∷ 1 ∷ 0 ∷ 2 ∷ 2 ∷ [])
    ∷ case (load 1 ∷ control ret ∷ []) (0 ∷ 2 ∷ 0 ∷ 2 ∷ 2 ∷ [])
    ∷ case (control if ∷ load 0 ∷ control end ∷ []) (12 ∷ 2 ∷ 0 ∷ 1 ∷ 3 ∷ [])
    ∷ case (control if ∷ load 1 ∷ control end ∷ []) (0 ∷ 3 ∷ 0 ∷ 1 ∷ 3 ∷ [])
    -- 12 by a lane more than is known: from the start, after a Set, after an If
    ∷ case (plain (store 1025) ∷ []) (12 ∷ 0 ∷ 21 ∷ 0 ∷ 0 ∷ [])
    ∷ case (plain (store 1024) ∷ []) (0 ∷ 1 ∷ 23 ∷ 0 ∷ 0 ∷ [])
    ∷ case (set ints (7 ∷ []) ∷ plain (store 2) ∷ []) (12 ∷ 1 ∷ 21 ∷ 1 ∷ 1 ∷ [])
    ∷ case (set ints (7 ∷ []) ∷ plain (store 1) ∷ []) (0 ∷ 2 ∷ 0 ∷ 2 ∷ 2 ∷ [])
    ∷ case (control if ∷ plain (store 2) ∷ control end ∷ []) (12 ∷ 1 ∷ 0 ∷ 1 ∷ 3 ∷ [])
    ∷ case (control if ∷ plain (store 1) ∷ control end ∷ []) (0 ∷ 3 ∷ 0 ∷ 1 ∷ 3 ∷ [])
    -- 12 of an earlier op before 10 of a later one
    ∷ case (load 0 ∷ control if ∷ control end ∷ control end ∷ []) (12 ∷ 1 ∷ 21 ∷ 1 ∷ 1 ∷ [])
    -- 13, the earliest bracket; with its End
    ∷ case (control if ∷ control if ∷ control end ∷ []) (13 ∷ 0 ∷ 20 ∷ 0 ∷ 0 ∷ [])
    ∷ case (control if ∷ control if ∷ control end ∷ control end ∷ []) (0 ∷ 4 ∷ 0 ∷ 1 ∷ 4 ∷ [])
    -- 13 after a bracket that is closed; with its End
    ∷ case (control if ∷ control end ∷ control while ∷ []) (13 ∷ 2 ∷ 20 ∷ 1 ∷ 2 ∷ [])
    ∷ case (control if ∷ control end ∷ control while ∷ control end ∷ []) (0 ∷ 4 ∷ 0 ∷ 2 ∷ 4 ∷ [])
    -- nothing at all; case 9 of 01
    ∷ case [] (0 ∷ 0 ∷ 0 ∷ 0 ∷ 0 ∷ [])
    ∷ case
    (set ints (1 ∷ []) ∷ control call ∷ set ints (0 ∷ []) ∷ control call ∷ control ret
    ∷ control function ∷ set ints (65 ∷ []) ∷ plain (put Char) ∷ control ret ∷ control end
    ∷ control function ∷ set ints (66 ∷ []) ∷ plain (put Char) ∷ control ret ∷ control end ∷ [])
    (0 ∷ 15 ∷ 0 ∷ 11 ∷ 5 ∷ [])
    ∷ []

all : map tried cases ≡ map (λ c. c.seen) cases
unfolding tried cases
all = refl
