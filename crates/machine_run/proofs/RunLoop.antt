-- The turns of a run's loop, and what a step that goes on leaves to the next. Assumes nothing.
use mathlib.Core.Path.{◌≡◌, ◌∙◌, refl, ap, sym, subst}
use mathlib.Core.Bool.{Bool, true, false, cond, ◌||◌}
use mathlib.Core.List.{List, [], ◌∷◌, map}
use Prim.Native.Nat.{ℕ, zero, suc, ◌+◌, ◌-◌, ◌*◌, ◌≤◌, ◌<◌}
use native.Mathlib.Nat.{not-suc-le-zero, le_of_suc-le-suc, suc-mul}
use native.Mathlib.Omega.{arith}
use native.Mathlib.Numerals.{add-one}
use lib.Dec.{leb, eqb}
use lib.ListN.{length, get_or, length-map, length-set}
use borrow.Author.Tests.{leb-false, le-leb, lt-leb, eq-eqb, ne_eqb, eqb-true, eqb-false}
use Rattle.basics.specs.Pick.{pick}
use Rattle.basics.proofs.Tests.{by_case, or_right}
use Rattle.basics.specs.Limits.{most_ops}
use Rattle.answers.specs.declared.run.Answer.{Answer}
use Rattle.answers.specs.declared.run.Answer.TheVariants.{Finished, Spent, Refused}
use Rattle.ops.specs.Patch.{patch_of}
use Rattle.file_laws.proofs.Items.{few_items}
use Rattle.machine_model.specs.Step.{Outcome, step}
use Rattle.machine_model.proofs.Passing.{past_on, past_here, bits_beyond}
use Rattle.partners.specs.Columns.{Stored}
use Rattle.machine_numbers.specs.declared.numbers.Numbers.{Numbers}
use Rattle.machine_numbers.specs.Numbers.{OpAnswer, answered, halt, halting, refused_by, stepped}
use Rattle.busy.specs.Sums.{most_steps, raised, sum}
use Rattle.busy.proofs.SumLaws.{sum_raised, one_of_sum}
use Rattle.machine_step.specs.Held.{Held, held, After, after, Code}
use Rattle.machine_step.specs.Step.{step_of}
use Rattle.bridge.specs.View.{view, laid}
use Rattle.bridge.specs.Decoded.{code_of, given_to}
use Rattle.machine_step.specs.Payloads.{PayloadsInBytes}
use Rattle.machine_step.specs.CanStep.{CanStep}
use Rattle.bridge.specs.Fits.{Fits}
use Rattle.bridge.specs.Run.{Ran, ran, standing, row_comment, past_of, past_in, drive_of, run_of, drive_counts_of, run_counts_of}
use Rattle.bridge.proofs.Decoded.{Bytes, rows, many_rows, payloads_in_bytes, places_stored}
use Rattle.bridge.proofs.Partners.{few_entries}
use Rattle.bridge.proofs.Steps.{step_is}
use Rattle.bridge.proofs.Real.{Real, step_real}
use Rattle.bridge.proofs.Real.Real.{goes, stops}
use Rattle.bridge.proofs.Runs.{step_fits, standing_fits}
use Rattle.machine_run.specs.Ready.{ReadyToRun, CanRaise, over_of, ended_by, made_by, counted_by}

over_halted : (p : Numbers) (n : ℕ) → p.halted ≡ true → over_of p n ≡ true
unfolding over_of
over_halted p n e = rw e refl

module _ (p : Numbers) (n : ℕ) (e : p.halted ≡ false) where
  over_past : n ≤ p.position → over_of p n ≡ true
  unfolding over_of
  over_past h = rw (e, le-leb n p.position h) refl

  pub over_before : p.position < n → over_of p n ≡ false
  unfolding over_of
  over_before h = rw (e, lt-leb n p.position h) refl

-- ---- the comments at a position

pub row_in : (ks : List ℕ) (i : ℕ) → i < length ks → get_or (map row_comment ks) i false ≡ row_comment (get_or ks i 0)
row_in [] i h = absurd (not-suc-le-zero h)
row_in (k ∷ ks) zero h = refl
row_in (k ∷ ks) (suc i) h = row_in ks i (le_of_suc-le-suc h)

module _ (ks : List ℕ) (i : ℕ) where
  past_end : length ks ≤ i → past_of ks i ≡ i
  unfolding past_of
  past_end h = past_here i i (map row_comment ks) (bits_beyond (map row_comment ks) i (omega (arith, length-map ks row_comment)))

  past_op : i < length ks → (get_or ks i 0 ≡ 0 → ⊥) → past_of ks i ≡ i
  unfolding past_of row_comment
  past_op h n = past_here i i (map row_comment ks) (row_in ks i h ∙ ne_eqb (get_or ks i 0) 0 n)

  past_comment : i < length ks → get_or ks i 0 ≡ 0 → past_of ks (i + 1) ≡ past_of ks i
  unfolding past_of row_comment
  past_comment h e = rw (add-one i) (sym (past_on i i (map row_comment ks) (row_in ks i h ∙ eq-eqb (get_or ks i 0) 0 e)))

-- a halted machine passes none
past_halted : (x : Code) (c : Held) → c.numbers.halted ≡ true → past_in x c ≡ c
unfolding past_in
past_halted x c e = ap (λ (h : Bool). standing c (cond h c.numbers.position (past_of x.rows c.numbers.position))) e

past_running : (x : Code) (c : Held) → c.numbers.halted ≡ false → past_in x c ≡ standing c (past_of x.rows c.numbers.position)
unfolding past_in
past_running x c e = ap (λ (h : Bool). standing c (cond h c.numbers.position (past_of x.rows c.numbers.position))) e

module _ (x : Code) (c : Held) (e : c.numbers.halted ≡ false) where
  -- there is none at the end, and none at an op of another row
  none_at_end : length x.rows ≤ c.numbers.position → past_in x c ≡ c
  none_at_end h = past_running x c e ∙ ap (λ (i : ℕ). standing c i) (past_end x.rows c.numbers.position h)

  none_at_op : c.numbers.position < length x.rows → (get_or x.rows c.numbers.position 0 ≡ 0 → ⊥) → past_in x c ≡ c
  none_at_op h n = past_running x c e ∙ ap (λ (i : ℕ). standing c i) (past_op x.rows c.numbers.position h n)

  -- one, and then those after it
  one_first : c.numbers.position < length x.rows → get_or x.rows c.numbers.position 0 ≡ 0 → past_in x (standing c (c.numbers.position + 1)) ≡ past_in x c
  one_first h z =
      past_running x (standing c (c.numbers.position + 1)) e
      ∙ ap (λ (i : ℕ). standing c i) (past_comment x.rows c.numbers.position h z)
      ∙ sym (past_running x c e)

-- ---- the four ways through a turn

module _ (x : Code) (input : List ℕ) (c : Held) where
  drive_done : (b k : ℕ) → over_of c.numbers (length x.rows) ≡ true → drive_of b k x input c ≡ ran Finished k c
  unfolding drive_of pick over_of
  drive_done zero k e = rw e refl
  drive_done (suc b) k e = rw e refl

  -- a halted machine is finished where it stands
  pub run_halted : (b k : ℕ) → c.numbers.halted ≡ true → run_of b k x input c ≡ ran Finished k c
  unfolding run_of
  run_halted b k e = ap (λ (d : Held). drive_of b k x input d) (past_halted x c e) ∙ drive_done b k (over_halted c.numbers _ e)

  module _ (e : over_of c.numbers (length x.rows) ≡ false) where
    drive_spent : (b k : ℕ) → b ≡ 0 → drive_of b k x input c ≡ ran Spent k c
    unfolding drive_of pick over_of
    drive_spent b k z = rw (z, e) refl

    module _ (o : After) (q : o ≡ step_of x input c) where
      drive_on : (b k : ℕ) → (b ≡ 0 → ⊥) → o.number ≡ 0 → run_of (b - 1) (k + 1) x input o.held ≡ drive_of b k x input c
      unfolding run_of drive_of pick over_of
      drive_on zero k z a = absurd (z refl)
      drive_on (suc b) k z a = let d : suc b - 1 ≡ b = omega arith in rw (e, ← q, eq-eqb o.number 0 a, add-one k, d) refl

      drive_refused : (b k : ℕ) → (b ≡ 0 → ⊥) → (o.number ≡ 0 → ⊥) → drive_of b k x input c ≡ ran (Refused o.number o.lane) k o.held
      unfolding drive_of pick over_of
      drive_refused zero k z a = absurd (z refl)
      drive_refused (suc b) k z a = rw (e, ← q, ne_eqb o.number 0 a) refl

-- ---- a step of what is good and well formed

pub not_past : (p : Numbers) (n : ℕ) → over_of p n ≡ false → p.position < n
unfolding over_of
not_past p n e = leb-false n p.position (or_right p.halted _ e)

not_halted : (p : Numbers) (n : ℕ) → over_of p n ≡ false → p.halted ≡ false
unfolding over_of
not_halted p n e = by_case p.halted (λ h. h ∙ (rw h at e)) (λ h. h)

module _ (s input : List ℕ) (c : Held) (h : Fits s input c) where
  -- the model's first test is the code's
  over_is : (c.numbers.halted || leb (length (given_to s input c).ops) c.numbers.position) ≡ over_of c.numbers (length (code_of s).rows)
  unfolding over_of
  over_is = ap (λ (n : ℕ). c.numbers.halted || leb n c.numbers.position) (rows s).many

  module _ (e : over_of c.numbers (length (code_of s).rows) ≡ false) where
    steps : step_of (code_of s) input c ≡ laid c (step (given_to s input c) (view c))
    steps = step_is s input c h (not_past c.numbers _ e) (not_halted c.numbers _ e)

    fits_on : Bytes s → (z : Outcome) → Real z → step (given_to s input c) (view c) ≡ z
        → (o : After) → o ≡ laid c z → o.number ≡ 0 → Fits s input o.held
    fits_on b _ (goes t) r o q a = subst (λ (d : After). Fits s input d.held) (sym q) (step_fits s input b t c h r)
    fits_on b _ (stops n l z) r o q a = absurd (eqb-false n 0 z (sym (ap (λ (d : After). d.number) q) ∙ a))

    no_lane : (z : Outcome) → Real z → (o : After) → o ≡ laid c z → o.number ≡ 0 → o.lane ≡ 0
    no_lane _ (goes t) o q a = ap (λ (d : After). d.lane) q
    no_lane _ (stops n l z) o q a = absurd (eqb-false n 0 z (sym (ap (λ (d : After). d.number) q) ∙ a))

-- the op at the position is one of the patch's
pub op_here : (s input : List ℕ) (x : Code) (c : Held) → ReadyToRun s input x c → over_of c.numbers (length x.rows) ≡ false
    → (c.numbers.position < length x.rows) × (length x.rows ≤ most_ops)
op_here s input x c h e =
    let n : length x.rows ≡ length (patch_of s).items = ap (λ (y : Code). length y.rows) h.read ∙ many_rows s in
    (not_past c.numbers _ e, omega (arith, n, few_items s))

-- what a step asks
pub step_asks : (s input : List ℕ) (x : Code) (c : Held) → ReadyToRun s input x c → over_of c.numbers (length x.rows) ≡ false
    → CanStep x.rows c × PayloadsInBytes x × Stored x.rows x.partners x.turns x.marks
step_asks s input x c h e =
    let k = h.fits.counted in
    let f = h.fits.formed in
    let o = op_here s input x c h e in (
      record {
        steers = record { here = o.0; few_ops = o.1; wide = k.wide; call_room = k.call_room; depth = k.depth; functions = k.functions; entered = rw h.read (few_entries s input c h.fits); rising = f.rising };
        ref_room = k.ref_room;
        saved = k.saved;
        near = f.near;
        short = f.short;
      },
      subst (λ (y : Code). PayloadsInBytes y) (sym h.read) (payloads_in_bytes s),
      subst (λ (y : Code). Stored y.rows y.partners y.turns y.marks) (sym h.read) (places_stored s),
    )

module _ (s input : List ℕ) (x : Code) (c : Held) (h : ReadyToRun s input x c) (e : over_of c.numbers (length x.rows) ≡ false) (o : After) (q : o ≡ step_of x input c) where
  not_over : over_of c.numbers (length (code_of s).rows) ≡ false
  not_over = subst (λ (y : Code). over_of c.numbers (length y.rows) ≡ false) h.read e

  real : Real (step (given_to s input c) (view c))
  real = step_real (given_to s input c) (view c) (over_is s input c h.fits ∙ not_over)

  as_laid : o ≡ laid c (step (given_to s input c) (view c))
  as_laid = q ∙ ap (λ (y : Code). step_of y input c) h.read ∙ steps s input c h.fits not_over

  -- what a step leaves where it goes on is good and well formed
  pub going_on : Bytes s → o.number ≡ 0 → ReadyToRun s input x o.held
  going_on b a = record { good = h.good; read = h.read; fits = fits_on s input c h.fits not_over b _ real refl o as_laid a }

  -- and no lane is missing there
  pub went_whole : o.number ≡ 0 → o.lane ≡ 0
  went_whole a = no_lane s input c h.fits not_over _ real o as_laid a

-- ---- the loop of `go`

-- after some steps, with so many left: what is held is good and well formed, and what the run goes on to from here is what it comes to from the start
pub record Going (rest : Held → Ran) (s input : List ℕ) (x : Code) (budget : ℕ) (from c : Held) (left : ℕ) : Type 0 where
  pub ready : ReadyToRun s input x c
  pub within : left ≤ budget
  pub same : rest c ≡ run_of budget 0 x input from

-- before the comments at its position are passed, and then
abbrev pub Running : List ℕ → List ℕ → Code → ℕ → Held → Held → ℕ → Type 0
Running s input x budget from c left = Going (run_of left (budget - left) x input) s input x budget from c left

abbrev pub Driving : List ℕ → List ℕ → Code → ℕ → Held → Held → ℕ → Type 0
Driving s input x budget from c left = Going (drive_of left (budget - left) x input) s input x budget from c left

-- a comment is passed, and no step is counted
module _ {s input : List ℕ} {x : Code} {budget : ℕ} {from c : Held} {left : ℕ} (i : Running s input x budget from c left) (run : c.numbers.halted ≡ false) where
  pub passing : c.numbers.position < length x.rows → get_or x.rows c.numbers.position 0 ≡ 0
      → Running s input x budget from (standing c (c.numbers.position + 1)) left
  unfolding run_of
  passing h z =
      let within : c.numbers.position + 1 ≤ length (code_of s).rows = omega (arith, ap (λ (y : Code). length y.rows) i.ready.read) in
      record {
        ready = record { good = i.ready.good; read = i.ready.read; fits = standing_fits s input _ c i.ready.fits within };
        within = i.within;
        same = ap (λ (d : Held). drive_of left (budget - left) x input d) (one_first x c run h z) ∙ i.same;
      }

  -- and where there is none the tests of the step come
  settled : past_in x c ≡ c → Driving s input x budget from c left
  unfolding run_of
  settled e =
      record {
        ready = i.ready;
        within = i.within;
        same = ap (λ (d : Held). drive_of left (budget - left) x input d) (sym e) ∙ i.same;
      }

  pub at_end : length x.rows ≤ c.numbers.position → ran Finished (budget - left) c ≡ run_of budget 0 x input from
  at_end h = sym (drive_done x input c _ _ (over_past c.numbers _ run h)) ∙ (settled (none_at_end x c run h)).same

  pub at_op : c.numbers.position < length x.rows → (get_or x.rows c.numbers.position 0 ≡ 0 → ⊥) → Driving s input x budget from c left
  at_op h z = settled (none_at_op x c run h z)

module _ {s input : List ℕ} {x : Code} {budget : ℕ} {from c : Held} {left : ℕ} (i : Driving s input x budget from c left) (e : over_of c.numbers (length x.rows) ≡ false) where
  -- the ways out
  pub all_spent : left ≡ 0 → ran Spent (budget - left) c ≡ run_of budget 0 x input from
  all_spent z = sym (drive_spent x input c e left (budget - left) z) ∙ i.same

  module _ (z : left ≡ 0 → ⊥) (o : After) (q : o ≡ step_of x input c) where
    refused_at : (o.number ≡ 0 → ⊥) → ran (Refused o.number o.lane) (budget - left) o.held ≡ run_of budget 0 x input from
    refused_at a = sym (drive_refused x input c e o q left (budget - left) z a) ∙ i.same

    halted_at : o.number ≡ 0 → o.held.numbers.halted ≡ true → ran Finished (budget - left + 1) o.held ≡ run_of budget 0 x input from
    halted_at a h = sym (run_halted x input o.held (left - 1) (budget - left + 1) h) ∙ drive_on x input c e o q left (budget - left) z a ∙ i.same

    -- and on
    module _ (b : Bytes s) (a : o.number ≡ 0) where
      pub onward : Running s input x budget from o.held (left - 1)
      onward =
          let k : budget - (left - 1) ≡ budget - left + 1 = omega (arith, i.within, z) in
          record {
            ready = going_on s input x c i.ready e o q b a;
            within = omega (arith, i.within);
            same = rw k (drive_on x input c e o q left (budget - left) z a ∙ i.same);
          }

-- ---- the counts in that loop

module _ (x : Code) (input : List ℕ) (c : Held) (cs : List ℕ) where
  counts_over : (b : ℕ) → over_of c.numbers (length x.rows) ≡ true → drive_counts_of b x input c cs ≡ cs
  unfolding drive_counts_of pick over_of
  counts_over zero e = refl
  counts_over (suc b) e = rw e refl

  module _ (e : over_of c.numbers (length x.rows) ≡ false) (o : After) (q : o ≡ step_of x input c) where
    counts_on : (b : ℕ) → (b ≡ 0 → ⊥) → o.number ≡ 0 → run_counts_of (b - 1) x input o.held (raised cs c.numbers.position) ≡ drive_counts_of b x input c cs
    unfolding run_counts_of drive_counts_of pick over_of
    counts_on zero z a = absurd (z refl)
    counts_on (suc b) z a = let d : suc b - 1 ≡ b = omega arith in rw (e, ← q, eq-eqb o.number 0 a, d) refl

    counts_refused : (b : ℕ) → (o.number ≡ 0 → ⊥) → drive_counts_of b x input c cs ≡ cs
    unfolding drive_counts_of pick over_of
    counts_refused zero a = refl
    counts_refused (suc b) a = rw (e, ← q, ne_eqb o.number 0 a) refl

  -- a halted machine makes no step
  pub counts_halted : (b : ℕ) → c.numbers.halted ≡ true → run_counts_of b x input c cs ≡ cs
  unfolding run_counts_of
  counts_halted b h = ap (λ (d : Held). drive_counts_of b x input d cs) (past_halted x c h) ∙ counts_over b (over_halted c.numbers _ h)

-- after some steps, with so many left: a count for each op, which can still be raised so often, and what the run makes of them from here is what it
-- makes of those at the start
pub record Tallying (rest : Held → List ℕ → List ℕ) (x : Code) (input : List ℕ) (budget : ℕ) (from : Held) (first : List ℕ) (c : Held) (cs : List ℕ) (left : ℕ) : Type 0 where
  pub each : length cs ≡ length x.rows
  pub low : sum cs + left ≤ most_steps
  pub same : rest c cs ≡ run_counts_of budget x input from first

abbrev pub Counting : Code → List ℕ → ℕ → Held → List ℕ → Held → List ℕ → ℕ → Type 0
Counting x input budget from first c cs left = Tallying (run_counts_of left x input) x input budget from first c cs left

module _ {x : Code} {input : List ℕ} {budget : ℕ} {from : Held} {first : List ℕ} {c : Held} {cs : List ℕ} {left : ℕ} (i : Counting x input budget from first c cs left) (run : c.numbers.halted ≡ false) where
  -- a comment is passed, and not counted
  pub counts_passing : c.numbers.position < length x.rows → get_or x.rows c.numbers.position 0 ≡ 0
      → Counting x input budget from first (standing c (c.numbers.position + 1)) cs left
  unfolding run_counts_of
  counts_passing h z =
      record { each = i.each; low = i.low; same = ap (λ (d : Held). drive_counts_of left x input d cs) (one_first x c run h z) ∙ i.same }

  counts_settled : past_in x c ≡ c → drive_counts_of left x input c cs ≡ run_counts_of budget x input from first
  unfolding run_counts_of
  counts_settled e = ap (λ (d : Held). drive_counts_of left x input d cs) (sym e) ∙ i.same

  pub counts_at_end : length x.rows ≤ c.numbers.position → cs ≡ run_counts_of budget x input from first
  counts_at_end h = sym (counts_over x input c cs left (over_past c.numbers _ run h)) ∙ counts_settled (none_at_end x c run h)

  module _ (h : c.numbers.position < length x.rows) (n : get_or x.rows c.numbers.position 0 ≡ 0 → ⊥) where
    at_this : drive_counts_of left x input c cs ≡ run_counts_of budget x input from first
    at_this = counts_settled (none_at_op x c run h n)

    pub counts_spent : left ≡ 0 → cs ≡ run_counts_of budget x input from first
    unfolding drive_counts_of
    counts_spent z = ap (λ (b : ℕ). drive_counts_of b x input c cs) (sym z) ∙ at_this

    pub can_raise : (left ≡ 0 → ⊥) → CanRaise cs c.numbers.position
    can_raise z = record { there = omega (arith, i.each); low = omega (arith, i.low, z, one_of_sum cs c.numbers.position) }

    module _ (z : left ≡ 0 → ⊥) (o : After) (q : o ≡ step_of x input c) where
      pub counts_onward : o.number ≡ 0 → Counting x input budget from first o.held (raised cs c.numbers.position) (left - 1)
      unfolding raised
      counts_onward a =
          let e = length-set cs c.numbers.position (get_or cs c.numbers.position 0 + 1) in
          record {
            each = e ∙ i.each;
            low = omega (arith, i.low, z, sum_raised cs c.numbers.position (can_raise z).there);
            same = counts_on x input c cs (over_before c.numbers _ run h) o q left z a ∙ at_this;
          }

      -- the last step halted, and is counted, or was refused, and is not
      counts_halted_at : o.number ≡ 0 → o.held.numbers.halted ≡ true → raised cs c.numbers.position ≡ run_counts_of budget x input from first
      counts_halted_at a r =
          sym (counts_halted x input o.held (raised cs c.numbers.position) (left - 1) r)
          ∙ counts_on x input c cs (over_before c.numbers _ run h) o q left z a
          ∙ at_this

      counts_refused_at : (o.number ≡ 0 → ⊥) → cs ≡ run_counts_of budget x input from first
      counts_refused_at a = sym (counts_refused x input c cs (over_before c.numbers _ run h) o q left a) ∙ at_this

-- the measure: a comment passed leaves fewer ops ahead, and a step made fewer steps
abbrev pub ahead : ℕ → ℕ → ℕ → ℕ
ahead n left i = left * (n + 1) + (n - i)

pub fewer : (n left i j : ℕ) → (left ≡ 0 → ⊥) → ahead n (left - 1) j < ahead n left i
fewer n zero i j z = absurd (z refl)
fewer n (suc b) i j z =
    let d : suc b - 1 ≡ b = omega arith in
    rw d (omega (arith, suc-mul b (n + 1)))

-- ---- what a step answers

pub as_answered : {y z : OpAnswer} {cs rs g t ts ch out : List ℕ} {o : After} → y ≡ z → after y cs rs g t ts ch out ≡ o → after z cs rs g t ts ch out ≡ o
as_answered e w = rw (← e) w

module _ (a : ℕ) (p : Numbers) where
  pub went : a ≡ 0 → stepped a p ≡ answered 0 p
  unfolding stepped pick
  went e = rw e refl

  halted : a ≡ 2 → stepped a p ≡ answered 0 (halt p)
  unfolding stepped pick
  halted e = rw e refl

  refused : (a ≡ 2 → ⊥) → stepped a p ≡ refused_by a p
  unfolding stepped pick
  refused n = rw (ne_eqb a 2 n) refl

-- ---- how many steps it made

pub made_few : (a : ℕ) → made_by a ≤ 1
unfolding made_by pick
made_few a =
    by_case (eqb a 0) (λ e. rw e (omega arith))
    (λ e. by_case (eqb a 2) (λ f. rw (e, f) (omega arith)) (λ f. rw (e, f) (omega arith)))

module _ (a : ℕ) (e : a ≡ 0) where
  pub made_on : {k : ℕ} → k ≡ made_by a → k ≡ 1
  unfolding made_by pick
  made_on q = rw (q, e) refl

  pub counted_on : (i : ℕ) (cs : List ℕ) {l : List ℕ} → l ≡ counted_by a i cs → l ≡ raised cs i
  unfolding counted_by made_by pick
  counted_on i cs q = rw (q, e) refl

-- the numbers p of a machine that is halted or not
abbrev pub as_halted : Numbers → Bool → Numbers
as_halted p h =
    record { depth = p.depth; saved = p.saved; pointer = p.pointer; position = p.position; length = p.length; lanes = p.lanes; functions = p.functions; first = p.first; waiting = p.waiting; taken = p.taken; written = p.written; halted = h; mode = p.mode }

-- a step that answers a, which is not `done`, is the last
pub stopped_at : {s input : List ℕ} {x : Code} {budget : ℕ} {from c : Held} {left : ℕ} → Driving s input x budget from c left → over_of c.numbers (length x.rows) ≡ false
    → (left ≡ 0 → ⊥) → {a : ℕ} {p : Numbers} {cs rs g ta ts ch out : List ℕ} → p.halted ≡ false
    → after (stepped a p) cs rs g ta ts ch out ≡ step_of x input c → (a ≡ 0 → ⊥)
    → {r : Answer} {k : ℕ} → r ≡ ended_by a → k ≡ made_by a
    → ran r (budget - (left - k)) (held (as_halted p (eqb a halting)) cs rs g ta ts ch out) ≡ run_of budget 0 x input from
unfolding ended_by made_by pick
stopped_at {s} {input} {x} {budget} {c = c} {left = left} run e z {a} {p} n b h er ek =
    by_case (eqb a 2)
    (λ j. let u : budget - (left - 1) ≡ budget - left + 1 = omega (arith, run.within, z) in
    rw (er, ek, ne_eqb a 0 h, j, u) (halted_at run e z _ (as_answered (halted a p (eqb-true a 2 j)) b) refl refl))
    (λ j. let b = as_answered (refused a p (eqb-false a 2 j)) b in
    let u : budget - (left - 0) ≡ budget - left = omega arith in
    rw (er, ek, ne_eqb a 0 h, j, u, ← n) (refused_at run e z _ b (λ r. h (let k = went_whole s input x c run.ready e _ b r in omega (arith, r, k)))))

-- and its counts
pub counts_stopped_at : {s input : List ℕ} {x : Code} {budget : ℕ} {from c : Held} {left : ℕ} → Driving s input x budget from c left → over_of c.numbers (length x.rows) ≡ false
    → {first cs : List ℕ} → Counting x input budget from first c cs left → c.numbers.halted ≡ false → c.numbers.position < length x.rows
    → (get_or x.rows c.numbers.position 0 ≡ 0 → ⊥) → (left ≡ 0 → ⊥) → (a : ℕ) (m : Numbers) {cs' rs g ta ts ch out : List ℕ}
    → after (stepped a m) cs' rs g ta ts ch out ≡ step_of x input c → (a ≡ 0 → ⊥)
    → {last : List ℕ} → last ≡ counted_by a c.numbers.position cs → last ≡ run_counts_of budget x input from first
unfolding counted_by made_by pick
counts_stopped_at {s} {input} {x} {c = c} run e i r h k z a m b u el =
    by_case (eqb a 2)
    (λ g. rw (el, ne_eqb a 0 u, g) (counts_halted_at i r h k z _ (as_answered (halted a m (eqb-true a 2 g)) b) refl refl))
    (λ g. let b = as_answered (refused a m (eqb-false a 2 g)) b in
    rw (el, ne_eqb a 0 u, g) (counts_refused_at i r h k z _ b (λ q. u (let w = went_whole s input x c run.ready e _ b q in omega (arith, q, w)))))
