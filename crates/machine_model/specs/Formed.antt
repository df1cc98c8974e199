-- A well-formed state, which is what 37 tests. Assumes nothing.
use Rattle.std.specs.Prelude.{ℕ, ◌≤◌, ◌<◌, ◌≡◌, true, List, [], ◌∷◌, ◌⊎◌, length}
use Rattle.ops.specs.Syntax.{is_function}
use Rattle.machine_model.specs.State.{State, Given, by_mark, most_marks, lanes, depth, farthest, longest, first_block}
use Rattle.machine_model.specs.Scan.{op_at}

-- every number of the list has the property
abbrev pub Each : (ℕ → Type 0) → List ℕ → Type 0
Each P [] = Unit {0}
Each P (x ∷ xs) = P x × Each P xs

-- "rises strictly": each number is below all that come after it
abbrev pub Rising : List ℕ → Type 0
Rising [] = Unit {0}
Rising (x ∷ xs) = Each (λ y. x < y) xs × Rising xs

-- the place of a Function mark
abbrev pub Marked : Given → ℕ → Type 0
Marked g t = is_function (op_at g.ops t) ≡ true

-- 02, ask 12: "a tape grows from nothing by 30,000 or by 100,000": the first block is there whole, or nothing is
abbrev pub Whole : ℕ → Type 0
Whole n = (n ≡ 0) ⊎ (first_block ≤ n)

-- "A state is well formed when its limits hold, position is at most the op count, saved calls are below the op count, saved pointers within
-- limit, the function table rises strictly and names Function marks, input place and output count fit their slices"; and
-- by 02, ask 12, the well-formed state "excludes those lengths", 1 to 29,999; by 02, ask 4, "37 also for an unknown mode"
pub record Formed (g : Given) (s : State) : Type 0 where
  pub near : s.pointer ≤ farthest
  pub short : s.counted ≤ longest
  pub whole : Whole s.counted
  pub narrow : length s.reg ≤ lanes
  pub few_entered : length s.table ≤ most_marks
  pub few_calls : length s.calls ≤ depth
  pub few_refs : length s.refs ≤ depth
  pub few_sent : length s.channel ≤ depth
  pub in_ring : s.first < depth
  pub within : s.at ≤ length g.ops
  pub saved : Each (λ c. c < length g.ops) s.calls
  pub pointed : Each (λ p. p ≤ farthest) s.refs
  pub rising : Rising s.table
  pub marked : Each (Marked g) s.table
  pub read : s.taken ≤ length g.input
  pub fits : length s.outs ≤ g.room
  pub known : g.mode ≤ by_mark
