-- The function table, with a place entered: n places are counted in ts. Assumes nothing.
use Rattle.std.specs.Prelude.{Result, Ok, Err, List, [], ◌∷◌, map, ℕ, ◌+◌, length, take, ltb}
use Rattle.basics.specs.Pick.{pick}
use Rattle.byte_fields.specs.Storage.{fill}
use Rattle.machine_model.specs.Step.{enter}
use Rattle.machine_model.specs.Limited.{count}

-- 02, ask 2: "Put the new place straight where it belongs. We want fewer moves when a patch opens its routines"

-- how many entries are below the place v, after which it belongs, and how many above it, which have to move
unfoldable pub below : ℕ → List ℕ → ℕ
below v qs = count (map (λ q. ltb q v) qs)

unfoldable pub above : ℕ → List ℕ → ℕ
above v qs = count (map (λ q. ltb v q) qs)

-- what a search for v says: it is there, after those below it, where an entry is neither below nor above it; or it is missing, and belongs after those
-- below
unfoldable pub sought_in : ℕ → List ℕ → Result ℕ ℕ
unfolding pick
sought_in v qs = pick (ltb (below v qs + above v qs) (length qs)) (Ok (below v qs)) (Err (below v qs))

-- how many entries move when v is entered: none where it is there, else those above it; and when one place is entered after the other
abbrev pub moves_at : Result ℕ ℕ → ℕ → ℕ
moves_at (Ok k) a = 0
moves_at (Err k) a = a

unfoldable pub moves_for : ℕ → List ℕ → ℕ
moves_for v qs = moves_at (sought_in v qs) (above v qs)

unfoldable pub moves_for_all : List ℕ → List ℕ → ℕ
moves_for_all [] qs = 0
moves_for_all (v ∷ vs) qs = moves_for v qs + moves_for_all vs (enter v qs)

abbrev pub entry : ℕ → ℕ → List ℕ → List ℕ
entry v n ts = enter v (take n ts)

-- a place entered where it belongs, once; a table with no room for it stays
unfoldable pub entered_in : ℕ → ℕ → List ℕ → List ℕ
unfolding pick
entered_in v n ts = pick (ltb (length ts) (length (entry v n ts))) ts (fill (entry v n ts) ts)

unfoldable pub counted_in : ℕ → ℕ → List ℕ → ℕ
unfolding pick
counted_in v n ts = pick (ltb (length ts) (length (entry v n ts))) n (length (entry v n ts))
