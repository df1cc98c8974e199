-- 02, ask 4: what a Call by mark does, and where the two call modes are one. Assumes nothing.
use Rattle.std.specs.Prelude.{ℕ, suc, ◌<◌, ◌≡◌, List, [], ◌∷◌, ◌++◌, ◌⊎◌, length, get_or}
use Rattle.machine_model.specs.State.{State, Given, given, lane0}
use Rattle.machine_model.specs.Scan.{marks}
use Rattle.machine_model.specs.Step.{enter}
use Rattle.machine_model.specs.Formed.{Each, Rising, Marked}

-- the number is one of the list
abbrev pub In : ℕ → List ℕ → Type 0
In m [] = ⊥
In m (t ∷ ts) = (t ≡ m) ⊎ In m ts

-- "the table already holds every mark": each of the patch's is in the table, which rises and names marks, as that of a well-formed state does
pub record HoldsMarks (g : Given) (s : State) : Type 0 where
  pub rising : Rising s.table
  pub marked : Each (Marked g) s.table
  pub every : Each (λ m. In m s.table) (marks g.ops)

-- the same run in another mode
abbrev pub in_mode : ℕ → Given → Given
in_mode m g = given g.ops m g.input g.room

-- what a Call by mark with k in lane 0 does, said from the list of the patch's marks: it goes on after the k-th, this place is saved, and the mark is
-- entered in the table
pub record CallsMark (g : Given) (s t : State) : Type 0 where
  pub many : lane0 s < length (marks g.ops)
  pub after : t.at ≡ suc (get_or (marks g.ops) (lane0 s) 0)
  pub saved : t.calls ≡ s.calls ++ (s.at ∷ [])
  pub entered : t.table ≡ enter (get_or (marks g.ops) (lane0 s) 0) s.table
