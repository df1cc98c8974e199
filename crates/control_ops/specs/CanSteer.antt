-- What the ops that steer ask: the position is an op's, there is room, and the function table rises and has no more entries than there are marks.
-- Assumes nothing.
use Rattle.std.specs.Prelude.{◌≡◌, List, ℕ, ◌≤◌, ◌<◌, length, get_or, take}
use Rattle.basics.specs.Limits as limit
use Rattle.machine_model.specs.Formed.{Rising}
use Rattle.partners.specs.Columns.{partner_at, functions_of}
use Rattle.machine_numbers.specs.declared.numbers.Numbers.{Numbers}

-- ks has the rows of the patch's kinds, cs the saved calls, g the register, ts the table
pub record CanSteer (p : Numbers) (ks cs g ts : List ℕ) : Type 0 where
  pub here : p.position < length ks
  pub few_ops : length ks ≤ limit.most_ops
  pub wide : limit.lanes ≤ length g
  pub call_room : length cs ≡ limit.depth
  pub depth : p.depth ≤ limit.depth
  pub functions : p.functions ≤ length ts
  pub entered : p.functions ≤ length (functions_of ks)
  pub rising : Rising (take p.functions ts)

-- the op at place i of the rows ks is of row k, and the column ps holds its partner
pub record Steers (k i : ℕ) (ks ps : List ℕ) : Type 0 where
  pub here : i < length ks
  pub few_ops : length ks ≤ limit.most_ops
  pub row : get_or ks i 0 ≡ k
  pub held : i < length ps
  pub partner : get_or ps i 0 ≡ partner_at ks i

-- a Call at place i, with d calls saved and f marks in the table; fs has the marks of the patch
pub record CanCall (i d f : ℕ) (ks fs g ts : List ℕ) : Type 0 where
  pub here : i < length ks
  pub few_ops : length ks ≤ limit.most_ops
  pub wide : limit.lanes ≤ length g
  pub depth : d ≤ limit.depth
  pub functions : f ≤ length ts
  pub entered : f ≤ length fs
  pub rising : Rising (take f ts)
  pub marks : fs ≡ functions_of ks
