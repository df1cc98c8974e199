-- What a run makes of the counts: they stay one for each op, comments stay at zero, and they grow by the steps made, as the total does. Assumes nothing.
use mathlib.Core.Path.{◌≡◌, ◌∙◌, refl, ap, sym, subst}
use mathlib.Core.Bool.{Bool, true, false, ◌||◌}
use mathlib.Core.List.{List, [], ◌∷◌}
use Prim.Native.Nat.{ℕ, zero, suc, ◌+◌, ◌-◌, ◌≤◌, ◌<◌, min}
use native.Mathlib.Omega.{arith}
use lib.Dec.{leb}
use lib.ListN.{length, get_or, replicate, length-set, length-replicate}
use lib.Seq.{get_or-set_other}
use borrow.Author.Tests.{leb-false}
use Rattle.basics.proofs.Tests.{by_case, or_left, or_right}
use Rattle.ops.specs.Syntax.{Op}
use Rattle.machine_model.specs.State.{State, Given}
use Rattle.machine_model.specs.Step.{Outcome, step}
use Rattle.machine_model.specs.Step.Outcome.{finished, refused, next}
use Rattle.machine_model.specs.Passed.{comments, passed}
use Rattle.machine_model.specs.Run.{drive, run}
use Rattle.machine_model.proofs.Passing.{many_comments, passed_twice, at_work}
use Rattle.machine_model.proofs.Effects.{step_over}
use Rattle.busy.specs.Sums.{most_steps, raised, allowed, sum}
use Rattle.busy.specs.Tally.{drive_counts, run_counts, worked, AddsUp}
use Rattle.busy.proofs.SumLaws.{sum_zeros, zero_at, sum_raised}

-- ---- fresh

pub zeros_add_up : (os : List Op) → AddsUp os (replicate (length os) 0) 0
zeros_add_up os =
    record { each = length-replicate {A = ℕ} (length os) 0; rest = λ i e. zero_at (length os) i; summed = sum_zeros (length os); within = omega arith }

-- ---- one step

-- one that is made finds an op, and no comment
module _ (g : Given) (s t : State) (e : step g s ≡ next t) where
  not_over : (s.halted || leb (length g.ops) s.at) ≡ false
  not_over = by_case (s.halted || leb (length g.ops) s.at) (λ h. let z = step_over g s h in cc) (λ h. h)

  pub op_there : s.at < length g.ops
  op_there = leb-false (length g.ops) s.at (or_right s.halted _ not_over)

  pub no_comment : passed g s ≡ s → get_or (comments g.ops) s.at false ≡ false
  no_comment p = at_work g s p (or_left s.halted _ not_over)

-- "raises the count of its op and the total by one, in one breath"
pub raised_adds_up : (os : List Op) (cs : List ℕ) (total i : ℕ) → AddsUp os cs total → i < length os → get_or (comments os) i false ≡ false → total < most_steps
    → AddsUp os (raised cs i) (total + 1)
unfolding raised
raised_adds_up os cs total i a h n l =
    record {
      each = length-set cs i _ ∙ a.each;
      rest = λ j e. get_or-set_other cs i j _ 0 (λ z. let q : get_or (comments os) j false ≡ false = ap (λ (k : ℕ). get_or (comments os) k false) z ∙ n in cc) ∙ a.rest j e;
      summed = sum_raised cs i (omega (arith, a.each)) ∙ ap (λ (k : ℕ). k + 1) a.summed;
      within = omega arith;
    }

-- ---- a run

module _ (g : Given) (total : ℕ) where
  drive_adds_up : (b k : ℕ) (s : State) (o : Outcome) (cs : List ℕ) → step g s ≡ o → passed g s ≡ s → total + k + b ≤ most_steps → AddsUp g.ops cs (total + k)
      → AddsUp g.ops (drive_counts g b s o cs) (total + (drive g b k s o).steps)
  unfolding drive_counts drive
  drive_adds_up zero k s finished cs e p l a = a
  drive_adds_up zero k s (refused n m) cs e p l a = a
  drive_adds_up zero k s (next t) cs e p l a = a
  drive_adds_up (suc b) k s finished cs e p l a = a
  drive_adds_up (suc b) k s (refused n m) cs e p l a = a
  drive_adds_up (suc b) k s (next t) cs e p l a =
      let q : total + k + 1 ≡ total + suc k = omega arith in
      drive_adds_up b (suc k) (passed g t) (step g (passed g t)) (raised cs s.at) refl (passed_twice g t) (omega arith)
      (subst (λ (n : ℕ). AddsUp g.ops (raised cs s.at) n) q
      (raised_adds_up g.ops cs (total + k) s.at a (op_there g s t e) (no_comment g s t e p) (omega arith)))

  -- what a run within what is left of 2^53 makes of counts that add up to a total adds up to the total and the steps that it answers
  pub run_adds_up : (b : ℕ) (s : State) (cs : List ℕ) → AddsUp g.ops cs total
      → let n = allowed b total in AddsUp g.ops (run_counts g n s cs) (total + (run g n s).steps)
  unfolding run_counts run allowed
  run_adds_up b s cs a =
      let z : total + 0 ≡ total = omega arith in
      drive_adds_up (allowed b total) 0 (passed g s) (step g (passed g s)) cs refl (passed_twice g s) (omega (arith, a.within))
      (subst (λ (n : ℕ). AddsUp g.ops cs n) (sym z) a)

-- ---- "The counts over ops that are not comments add up"

worked_sum : (bs : List Bool) (cs : List ℕ) → length cs ≡ length bs → ((i : ℕ) → get_or bs i false ≡ true → get_or cs i 0 ≡ 0) → worked bs cs ≡ sum cs
unfolding sum
worked_sum [] [] e h = refl
worked_sum [] (c ∷ cs) e h = (cc)
worked_sum (b ∷ bs) [] e h = refl
worked_sum (true ∷ bs) (c ∷ cs) e h =
    let z : c ≡ 0 = h 0 refl in
    let r : worked bs cs ≡ sum cs = worked_sum bs cs (omega (arith, e)) (λ i q. h (suc i) q) in omega (arith, z, r)
worked_sum (false ∷ bs) (c ∷ cs) e h = ap (λ (n : ℕ). c + n) (worked_sum bs cs (omega (arith, e)) (λ i q. h (suc i) q))

pub all_worked : (os : List Op) (cs : List ℕ) (total : ℕ) → AddsUp os cs total → worked (comments os) cs ≡ total
all_worked os cs total a = worked_sum (comments os) cs (a.each ∙ sym (many_comments os)) a.rest ∙ a.summed

-- ---- the first step of a run, and the end

-- a step that is made is counted at the op where it was made, and the run goes on from there
pub step_counted : (g : Given) (b : ℕ) (s t : State) (cs : List ℕ) → step g (passed g s) ≡ next t
    → run_counts g (suc b) s cs ≡ run_counts g b t (raised cs (passed g s).at)
unfolding run_counts drive_counts
step_counted g b s t cs e = ap (λ (o : Outcome). drive_counts g (suc b) (passed g s) o cs) e

-- a refused step is not counted
pub refused_uncounted : (g : Given) (b : ℕ) (s : State) (n l : ℕ) (cs : List ℕ) → step g (passed g s) ≡ refused n l → run_counts g b s cs ≡ cs
unfolding run_counts drive_counts
refused_uncounted g zero s n l cs e = refl
refused_uncounted g (suc b) s n l cs e = ap (λ (o : Outcome). drive_counts g (suc b) (passed g s) o cs) e

-- "a total equal to that ends a run": no step is allowed
pub none_allowed : (b : ℕ) → allowed b most_steps ≡ 0
unfolding allowed
none_allowed b = omega arith

-- and with less, and a budget, one is
pub one_allowed : (b total : ℕ) → total < most_steps → (n : ℕ) × (allowed (suc b) total ≡ suc n)
unfolding allowed
one_allowed b total l = (min b (most_steps - suc total), omega arith)
