-- What a step gives: that the machine is finished, a number and a lane or a next state, each with what is known of it; through a step's tests, and
-- through a run where every step keeps it. Assumes nothing.
use Prim.Native.Nat.{ℕ, zero, suc}
use mathlib.Core.Path.{◌≡◌, refl, subst}
use mathlib.Core.Bool.{Bool, true, false}
use Rattle.basics.proofs.Clash.{clash}
use Rattle.machine_model.specs.State.{State, Given}
use Rattle.machine_model.specs.Step.{Outcome, bar, lack, pick, step}
use Rattle.machine_model.specs.Step.Outcome.{finished, refused, next}
use Rattle.machine_model.specs.Passed.{passed}
use Rattle.machine_model.specs.Run.{drive, run}
use Rattle.machine_model.proofs.Passing.{passed_keeps}

-- E where it is finished, N of its number and lane, P of its next state
pub data Gives (E : Type 0) (N : ℕ → ℕ → Type 0) (P : State → Type 0) : Outcome → Type 0 where
  ended : E → Gives E N P finished
  stopped : {n l : ℕ} → N n l → Gives E N P (refused n l)
  goes : {t : State} → P t → Gives E N P (next t)

module _ {E : Type 0} {N : ℕ → ℕ → Type 0} {P : State → Type 0} where
  pub lack_gives : {b : Bool} {o : Outcome} (n l : ℕ) → (b ≡ true → N n l) → (b ≡ false → Gives E N P o) → Gives E N P (lack b n l o)
  unfolding lack
  lack_gives {b = true} n l h k = stopped (h refl)
  lack_gives {b = false} n l h k = k refl

  pub bar_gives : {b : Bool} {o : Outcome} (n : ℕ) → (b ≡ true → N n 0) → (b ≡ false → Gives E N P o) → Gives E N P (bar b n o)
  unfolding bar
  bar_gives n h k = lack_gives n 0 h k

  pub pick_gives : {b : Bool} {x y : Outcome} → (b ≡ true → Gives E N P x) → (b ≡ false → Gives E N P y) → Gives E N P (pick b x y)
  unfolding pick
  pick_gives {b = true} h k = h refl
  pick_gives {b = false} h k = k refl

  pub next_gives : (o : Outcome) (t : State) → Gives E N P o → o ≡ next t → P t
  next_gives _ t (ended h) e = clash (cc)
  next_gives _ t (stopped h) e = clash (cc)
  next_gives _ t (goes {t = u} h) e = let q : u ≡ t = cc in subst P q h

  pub refused_gives : (o : Outcome) (n l : ℕ) → Gives E N P o → o ≡ refused n l → N n l
  refused_gives _ n l (ended h) e = clash (cc)
  refused_gives _ n l (stopped {n = m} {l = i} h) e = let q : m ≡ n = cc in let r : i ≡ l = cc in rw (← q, ← r) h
  refused_gives _ n l (goes h) e = clash (cc)

-- a run's number and the state that it leaves
module _ (N : ℕ → Type 0) (P : State → Type 0) (over : N 0) (spent : N 50) (g : Given)
    (stops : (s : State) (n l : ℕ) → P s → step g s ≡ refused n l → N n) (leads : (s t : State) → P s → step g s ≡ next t → P t) where
  drive_keeps : (b k : ℕ) (s : State) (o : Outcome) → P s → step g s ≡ o → N (drive g b k s o).number × P (drive g b k s o).state
  unfolding drive
  drive_keeps zero k s finished p e = (over, p)
  drive_keeps zero k s (refused n l) p e = (spent, p)
  drive_keeps zero k s (next t) p e = (spent, p)
  drive_keeps (suc b) k s finished p e = (over, p)
  drive_keeps (suc b) k s (refused n l) p e = (stops s n l p e, p)
  drive_keeps (suc b) k s (next t) p e = drive_keeps b (suc k) (passed g t) (step g (passed g t)) (passed_keeps P g leads t (leads s t p e)) refl

  pub run_keeps : (b : ℕ) (s : State) → P s → N (run g b s).number × P (run g b s).state
  unfolding run
  run_keeps b s p = drive_keeps b 0 (passed g s) (step g (passed g s)) (passed_keeps P g leads s p) refl
