-- A run as the code makes it is the model's run, laid after each step; what is seen of it is the model's answer, and the counts are the model's. Assumes nothing.
use mathlib.Core.Path.{◌≡◌, ◌∙◌, refl, ap, sym, subst}
use mathlib.Core.Bool.{Bool, true, false, cond, ◌||◌}
use mathlib.Core.List.{List}
use Prim.Native.Nat.{ℕ, zero, suc, ◌≤◌}
use native.Mathlib.Omega.{arith}
use lib.Dec.{leb}
use lib.ListN.{length, drop}
use borrow.Author.Tests.{leb-false}
use Rattle.basics.specs.Pick.{pick}
use Rattle.basics.proofs.Tests.{by_case, or_left, or_right}
use Rattle.answers.specs.declared.run.Answer.TheVariants.{Finished}
use Rattle.machine_model.specs.State.{State, Given, given, by_mark, fresh}
use Rattle.machine_model.specs.Step.{Outcome, step}
use Rattle.machine_model.specs.Step.Outcome.{finished, refused, next}
use Rattle.machine_model.specs.Passed.{past, passed}
use Rattle.machine_model.specs.Run.{drive, run}
use Rattle.machine_model.specs.Formed.{Formed}
use Rattle.machine_model.proofs.Passing.{passed_within}
use Rattle.machine_model.proofs.Effects.{step_over}
use Rattle.machine_model.proofs.Kept.{step_formed, fresh_formed}
use Rattle.busy.specs.Sums.{raised}
use Rattle.busy.specs.Tally.{drive_counts, run_counts}
use Rattle.machine_step.specs.Held.{Held}
use Rattle.machine_step.specs.Step.{step_of}
use Rattle.bridge.specs.View.{view, lay, laid}
use Rattle.bridge.specs.Decoded.{code_of, patch_in, given_to}
use Rattle.bridge.specs.Fits.{Fits}
use Rattle.bridge.specs.Run.{ran, standing, passed_in, drive_laid, run_laid, seen, is_over, past_of, past_in, drive_of, run_of, drive_counts_of, run_counts_of}
use Rattle.bridge.proofs.Over.{view_lay, lay_counted, lay_room}
use Rattle.bridge.proofs.Decoded.{Bytes, rows, comments_are, limited}
use Rattle.bridge.proofs.Real.{Real, step_real}
use Rattle.bridge.proofs.Real.Real.{goes, stops}
use Rattle.bridge.proofs.Steps.{step_is}

-- ---- comments passed

-- what is seen of it
pub seen_passed : (g : Given) (c : Held) → view (passed_in g c) ≡ passed g (view c)
unfolding passed_in passed
seen_passed g c = refl

-- the code's search is the model's
pub past_is : (s : List ℕ) (mode : ℕ) (input : List ℕ) (room : ℕ) (c : Held) → past_in (code_of s) c ≡ passed_in (given (patch_in s) mode input room) c
unfolding past_in past_of passed_in passed
past_is s mode input room c =
    let at = c.numbers.position in
    ap (λ (l : List Bool). standing c (cond c.numbers.halted at (past at (drop at l)))) (sym (comments_are s))

-- ---- what a step hands to the next

module _ (s input : List ℕ) where
  -- what is laid is given the same
  pub lay_given : (t : State) (c : Held) → length t.outs ≤ length c.output → given_to s input (lay t c) ≡ given_to s input c
  unfolding lay
  lay_given t c h = ap (λ (r : ℕ). given (patch_in s) c.numbers.mode input r) (lay_room t c h)

  -- a state of the patch, laid over what is as large as its limits
  lay_over : (t : State) (c : Held) → 1024 ≤ length c.register → 256 ≤ length c.table → 256 ≤ length c.channel → length c.calls ≡ 256 → length c.refs ≡ 256
      → Formed (given_to s input c) t → Fits s input (lay t c)
  lay_over t c w u r kc kr f =
      record {
        counted = lay_counted t c f.few_calls f.few_refs f.few_sent f.in_ring f.fits w u r kc kr;
        formed = rw (lay_given t c f.fits, view_lay t c f.few_sent r) f;
      }

  -- a state of the patch laid over what fits it fits it
  pub lay_fits : (t : State) (c : Held) → Fits s input c → Formed (given_to s input c) t → Fits s input (lay t c)
  lay_fits t c h f = let k = h.counted in lay_over t c k.wide k.tabled k.ringed k.call_room k.ref_room f

  -- what fits the patch fits it at every place of it
  pub standing_fits : (i : ℕ) (c : Held) → Fits s input c → i ≤ length (code_of s).rows → Fits s input (standing c i)
  standing_fits i c h l =
      let k = h.counted in
      let f = h.formed in
      let w : i ≤ length (given_to s input c).ops = omega (arith, (rows s).many) in
      record { counted = search; formed = search }

  -- and so with its comments passed
  pub passed_fits : (c : Held) → Fits s input c → Fits s input (passed_in (given_to s input c) c)
  unfolding passed_in
  passed_fits c h =
      let g = given_to s input c in
      standing_fits _ c h (omega (arith, passed_within g (view c) h.formed.within, (rows s).many))

  module _ (b : Bytes s) where
    -- and so does the next state of a step
    pub step_fits : (t : State) (c : Held) → Fits s input c → step (given_to s input c) (view c) ≡ next t → Fits s input (lay t c)
    step_fits t c h e = lay_fits t c h (step_formed (given_to s input c) (limited s b) (view c) t h.formed e)

    module _ (mode room : ℕ) where
      abbrev g : Given
      g = given (patch_in s) mode input room

      -- what is held fits, and a run of it is given this mode and this room
      record Sound (c : Held) : Type 0 where
        fits : Fits s input c
        same : given_to s input c ≡ g

      formed : (c : Held) → Sound c → Formed g (view c)
      formed c h = subst (λ (x : Given). Formed x (view c)) h.same h.fits.formed

      next_formed : (c : Held) (t : State) → Sound c → step g (view c) ≡ next t → Formed g t
      next_formed c t h e = step_formed g (limited s b) (view c) t (formed c h) e

      sound_next : (c : Held) (t : State) → Sound c → step g (view c) ≡ next t → Sound (lay t c)
      sound_next c t h e =
          let f = subst (λ (x : Given). Formed x t) (sym h.same) (next_formed c t h e) in
          record { fits = lay_fits t c h.fits f; same = lay_given t c f.fits ∙ h.same }

      seen_next : (c : Held) (t : State) → Sound c → step g (view c) ≡ next t → view (passed_in g (lay t c)) ≡ passed g t
      seen_next c t h e = seen_passed g (lay t c) ∙ ap (passed g) (view_lay t c (next_formed c t h e).few_sent h.fits.counted.ringed)

      sound_passed : (c : Held) → Sound c → Sound (passed_in g c)
      unfolding passed_in
      sound_passed c h =
          record { fits = subst (λ (x : Given). Fits s input (passed_in x c)) h.same (passed_fits c h.fits); same = h.same }

      -- ---- the step's first test

      over : Held → Bool
      over c = is_over (code_of s) c

      over_is : (c : Held) → (c.numbers.halted || leb (length g.ops) c.numbers.position) ≡ over c
      unfolding over
      over_is c = ap (λ (n : ℕ). c.numbers.halted || leb n c.numbers.position) (rows s).many

      code_over : (n k : ℕ) (c : Held) → over c ≡ true → drive_of n k (code_of s) input c ≡ ran Finished k c
      unfolding drive_of pick over
      code_over zero k c e = rw e refl
      code_over (suc n) k c e = rw e refl

      in_over : (n k : ℕ) (c : Held) (o : Outcome) → o ≡ finished → drive_laid g n k c o ≡ ran Finished k c
      unfolding drive_laid
      in_over zero k c o e = rw e refl
      in_over (suc n) k c o e = rw e refl

      spent : (k : ℕ) (c : Held) → over c ≡ false → (o : Outcome) → Real o → drive_of 0 k (code_of s) input c ≡ drive_laid g 0 k c o
      unfolding drive_of pick drive_laid over
      spent k c e _ (goes t) = rw e refl
      spent k c e _ (stops n l z) = rw e refl

      turns : (n k : ℕ) (c : Held) → over c ≡ false
          → ((t : State) → step g (view c) ≡ next t
          → drive_of n (suc k) (code_of s) input (past_in (code_of s) (lay t c)) ≡ drive_laid g n (suc k) (passed_in g (lay t c)) (step g (view (passed_in g (lay t c)))))
          → (o : Outcome) → Real o → step g (view c) ≡ o → step_of (code_of s) input c ≡ laid c o
          → drive_of (suc n) k (code_of s) input c ≡ drive_laid g (suc n) k c o
      unfolding drive_of pick drive_laid over
      turns n k c e less _ (goes t) q r = rw (e, r) (less t q)
      turns n k c e less _ (stops m l z) q r = rw (e, r, z) refl

      ended : (c : Held) → over c ≡ true → step g (view c) ≡ finished
      ended c e = step_over g (view c) (over_is c ∙ e)

      real : (c : Held) → over c ≡ false → Real (step g (view c))
      real c e = step_real g (view c) (over_is c ∙ e)

      stepped : (c : Held) → Sound c → over c ≡ false → step_of (code_of s) input c ≡ laid c (step g (view c))
      unfolding over
      stepped c h e =
          step_is s input c h.fits (leb-false (length (code_of s).rows) c.numbers.position (or_right c.numbers.halted _ e)) (or_left c.numbers.halted _ e)
          ∙ ap (λ (x : Given). laid c (step x (view c))) h.same

      -- ---- the run

      passes : (n k : ℕ) (c : Held) → drive_of n k (code_of s) input (passed_in g c) ≡ drive_laid g n k (passed_in g c) (step g (view (passed_in g c)))
          → drive_of n k (code_of s) input (past_in (code_of s) c) ≡ drive_laid g n k (passed_in g c) (step g (view (passed_in g c)))
      passes n k c e = ap (λ (d : Held). drive_of n k (code_of s) input d) (past_is s mode input room c) ∙ e

      drives : (n k : ℕ) (c : Held) → Sound c → drive_of n k (code_of s) input c ≡ drive_laid g n k c (step g (view c))
      drives zero k c h =
          by_case (over c)
          (λ e. code_over 0 k c e ∙ sym (in_over 0 k c _ (ended c e)))
          (λ e. spent k c e _ (real c e))
      drives (suc n) k c h =
          by_case (over c)
          (λ e. code_over (suc n) k c e ∙ sym (in_over (suc n) k c _ (ended c e)))
          (λ e. turns n k c e (λ t q. passes n (suc k) (lay t c) (drives n (suc k) (passed_in g (lay t c)) (sound_passed (lay t c) (sound_next c t h q)))) _ (real c e) refl (stepped c h e))

      -- ---- the counts

      -- one step more, where the rest is counted alike
      counts_on : (n : ℕ) (c : Held) (cs : List ℕ) → over c ≡ false
          → ((t : State) → step g (view c) ≡ next t
          → drive_counts_of n (code_of s) input (past_in (code_of s) (lay t c)) (raised cs c.numbers.position) ≡ drive_counts g n (passed g t) (step g (passed g t)) (raised cs c.numbers.position))
          → (o : Outcome) → Real o → step g (view c) ≡ o → step_of (code_of s) input c ≡ laid c o
          → drive_counts_of (suc n) (code_of s) input c cs ≡ drive_counts g (suc n) (view c) o cs
      unfolding drive_counts_of pick drive_counts over
      counts_on n c cs e less _ (goes t) q r = rw (e, r) (less t q)
      counts_on n c cs e less _ (stops m l z) q r = rw (e, r, z) refl

      counts_over : (n : ℕ) (c : Held) (cs : List ℕ) (o : Outcome) → over c ≡ true → o ≡ finished → drive_counts_of n (code_of s) input c cs ≡ drive_counts g n (view c) o cs
      unfolding drive_counts_of pick drive_counts over
      counts_over zero c cs o e f = refl
      counts_over (suc n) c cs o e f = rw (e, f) refl

      -- the code's counts are the model's
      counts : (n : ℕ) (c : Held) (cs : List ℕ) → Sound c → drive_counts_of n (code_of s) input c cs ≡ drive_counts g n (view c) (step g (view c)) cs
      unfolding drive_counts_of drive_counts
      counts zero c cs h = refl
      counts (suc n) c cs h =
          by_case (over c)
          (λ e. counts_over (suc n) c cs _ e (ended c e))
          (λ e. counts_on n c cs e
          (λ t q. let cs' = raised cs c.numbers.position in
          ap (λ (d : Held). drive_counts_of n (code_of s) input d cs') (past_is s mode input room (lay t c))
          ∙ counts n (passed_in g (lay t c)) cs' (sound_passed (lay t c) (sound_next c t h q))
          ∙ ap (λ (u : State). drive_counts g n u (step g u) cs') (seen_next c t h q))
          _ (real c e) refl (stepped c h e))

      shows : (n k : ℕ) (c : Held) (o : Outcome) → Sound c → step g (view c) ≡ o → seen (drive_laid g n k c o) ≡ drive g n k (view c) o
      unfolding drive_laid drive
      shows zero k c finished h q = refl
      shows zero k c (refused m l) h q = refl
      shows zero k c (next t) h q = refl
      shows (suc n) k c finished h q = refl
      shows (suc n) k c (refused m l) h q = refl
      shows (suc n) k c (next t) h q =
          shows n (suc k) (passed_in g (lay t c)) (step g (view (passed_in g (lay t c)))) (sound_passed (lay t c) (sound_next c t h q)) refl
          ∙ ap (λ (u : State). drive g n (suc k) u (step g u)) (seen_next c t h q)

    module _ (n : ℕ) (c : Held) (h : Fits s input c) where
      abbrev mode : ℕ
      mode = c.numbers.mode

      abbrev room : ℕ
      room = length c.output

      sound : Sound mode room c
      sound = record { fits = h; same = refl }

      -- the code's run is the model's run, laid after each step
      pub run_laid_lem : run_of n 0 (code_of s) input c ≡ run_laid (given_to s input c) n c
      unfolding run_laid run_of
      run_laid_lem = passes mode room n 0 c (drives mode room n 0 _ (sound_passed mode room c sound))

      -- and what is seen of that is the model's answer
      pub run_seen : seen (run_laid (given_to s input c) n c) ≡ run (given_to s input c) n (view c)
      unfolding run_laid run
      run_seen =
          let g = given_to s input c in
          shows mode room n 0 (passed_in g c) _ (sound_passed mode room c sound) refl ∙ ap (λ (u : State). drive g n 0 u (step g u)) (seen_passed g c)

      -- the counts that the code leaves are those of the model's run
      pub run_counts_lem : (cs : List ℕ) → run_counts_of n (code_of s) input c cs ≡ run_counts (given_to s input c) n (view c) cs
      unfolding run_counts_of run_counts
      run_counts_lem cs =
          let g = given_to s input c in
          ap (λ (d : Held). drive_counts_of n (code_of s) input d cs) (past_is s mode input room c)
          ∙ counts mode room n (passed_in g c) cs (sound_passed mode room c sound)
          ∙ ap (λ (u : State). drive_counts g n u (step g u) cs) (seen_passed g c)

  -- ---- the fresh run

  -- the fresh state fits, laid over what is as large as the limits
  pub fresh_fits : (cells : ℕ) (c : Held) → 1024 ≤ length c.register → 256 ≤ length c.table → 256 ≤ length c.channel → length c.calls ≡ 256 → length c.refs ≡ 256
      → c.numbers.mode ≤ by_mark → Fits s input (lay (fresh cells) c)
  fresh_fits cells c w u r kc kr y = lay_over (fresh cells) c w u r kc kr (fresh_formed (given_to s input c) cells y)
