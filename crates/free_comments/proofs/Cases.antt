-- What 01's run, which counts a comment, makes of the cases with comments: without them it gives what ours gives with them, places moved, and with them
-- it gives other answers. Computed, and compared as one list. Assumes nothing.
use Prim.Native.Nat.{ℕ}
use mathlib.Core.Path.{◌≡◌, refl}
use mathlib.Core.List.{List, [], ◌∷◌, map}
use Rattle.ops.specs.Syntax.{Op}
use Rattle.machine_model.specs.State.{given, fresh, with_tape}
use Rattle.machine_model.proofs.Cases.{Case, show, notes}
use Rattle.free_comments.specs.Counting.{run_counting}
use Rattle.free_comments.specs.Free.{bare}

-- the patch without its comments, and as it is
counted : Case → List (List ℕ)
unfolding show run_counting fresh
counted c =
    let of : List Op → List ℕ = λ os. show (run_counting (given os c.mode [] c.room) c.budget (with_tape (fresh 0) c.tape)) in
    of (bare c.ops) ∷ of c.ops ∷ []

all : map counted notes
    ≡ ((0 ∷ 0 ∷ 0 ∷ 0 ∷ 0 ∷ 0 ∷ []) ∷ (50 ∷ 0 ∷ 0 ∷ 0 ∷ 0 ∷ 0 ∷ []) ∷ [])
    ∷ ((0 ∷ 1 ∷ 1 ∷ 1 ∷ 0 ∷ 0 ∷ []) ∷ (50 ∷ 1 ∷ 1 ∷ 0 ∷ 0 ∷ 0 ∷ []) ∷ [])
    ∷ ((50 ∷ 1 ∷ 1 ∷ 1 ∷ 0 ∷ 0 ∷ []) ∷ (50 ∷ 1 ∷ 1 ∷ 1 ∷ 0 ∷ 0 ∷ []) ∷ [])
    ∷ ((23 ∷ 0 ∷ 0 ∷ 0 ∷ 0 ∷ 0 ∷ []) ∷ (23 ∷ 1 ∷ 1 ∷ 0 ∷ 0 ∷ 0 ∷ []) ∷ [])
    ∷ ((0 ∷ 1 ∷ 1 ∷ 0 ∷ 0 ∷ 0 ∷ []) ∷ (0 ∷ 1 ∷ 1 ∷ 0 ∷ 0 ∷ 0 ∷ []) ∷ [])
    ∷ ((50 ∷ 4 ∷ 2 ∷ 1 ∷ 0 ∷ 0 ∷ []) ∷ (50 ∷ 4 ∷ 4 ∷ 1 ∷ 0 ∷ 0 ∷ []) ∷ [])
    ∷ ((50 ∷ 2 ∷ 4 ∷ 0 ∷ 0 ∷ 0 ∷ []) ∷ (50 ∷ 2 ∷ 2 ∷ 0 ∷ 0 ∷ 0 ∷ []) ∷ [])
    ∷ ((50 ∷ 2 ∷ 4 ∷ 0 ∷ 0 ∷ 0 ∷ []) ∷ (50 ∷ 2 ∷ 5 ∷ 0 ∷ 0 ∷ 0 ∷ []) ∷ [])
    ∷ ((50 ∷ 5 ∷ 2 ∷ 65 ∷ 0 ∷ 0 ∷ 65 ∷ []) ∷ (50 ∷ 5 ∷ 8 ∷ 65 ∷ 0 ∷ 0 ∷ 65 ∷ []) ∷ [])
    ∷ []
unfolding counted notes
all = refl
