-- From the steps over a patch that is read to the public calls: "reads the patch first, then 37, then works". Assumes nothing.
use mathlib.Core.Path.{◌≡◌, ◌∙◌, refl, ap, sym}
use mathlib.Core.Bool.{Bool, true, false, not}
use mathlib.Core.List.{List, [], ◌∷◌, map}
use Prim.Native.Nat.{ℕ, ◌+◌, ◌-◌, ◌≤◌}
use native.Mathlib.Omega.{arith}
use lib.ListN.{length, take, drop, replicate, length-map}
use borrow.Author.Tests.{eq-eqb, ne_eqb, le-leb, not-true, not-false}
use Rattle.std.proofs.Common.{Ok, Err}
use Rattle.basics.specs.Limits.{most_ops, most_marks}
use Rattle.basics.proofs.Tests.{and_left, and_right}
use Rattle.byte_fields.specs.Storage.{fill}
use Rattle.ops.specs.Patch.{row_in, count_in, need_in, payload_in, patch_of}
use Rattle.answers.specs.declared.run.Answer.TheVariants.{BadFile, NotAState}
use Rattle.patch_reader.specs.Answer.{read_of}
use Rattle.patch_reader.specs.declared.reader.Unread.{Unread}
use Rattle.file_laws.proofs.Items.{few_items}
use Rattle.file_laws.proofs.Loaded.{good_file, good_ops, bad_file, bad_number, bad_place, part_is}
use Rattle.partners.specs.Columns.{partners_of, turns_of, functions_of, fill_end}
use Rattle.partners.proofs.Lent.{few_functions, start_lent, end_lent, many_partners, many_turns}
use Rattle.busy.specs.Sums.{most_steps, allowed, adds_up}
use Rattle.busy.specs.Tally.{run_counts}
use Rattle.busy.proofs.SumLaws.{adds, zeros_added}
use Rattle.machine_step.specs.Held.{Code, code}
use Rattle.bridge.specs.View.{view}
use Rattle.bridge.specs.Decoded.{code_of, given_to}
use Rattle.bridge.specs.Run.{Ran, run_laid, run_of, run_counts_of}
use Rattle.bridge.proofs.Decoded.{Bytes, many_rows}
use Rattle.bridge.proofs.Runs.{run_laid_lem, run_counts_lem}
use Rattle.states.specs.Zeros.{zeroed}
use Rattle.states.specs.Formed.{has_room, is_mode, can_start, in_limits, in_place, all_of, calls_below, refs_within, names_from, table_names, is_formed}
use Rattle.states.proofs.WellFormed.{formed_fits}
use Rattle.machine.specs.Fresh.{fresh_of}
use Rattle.machine_run.specs.Ready.{IsLoaded, IsRead, ReadyToRun, ReadyToCount}
use Rattle.machine.specs.Calls.{Slices, slices, Tallied, tallied, lent, ended, tally_run, run_call, fresh_on, fresh_call}
use Rattle.machine.specs.declared.machine.Machine.{Machine}

-- the fresh machine is a state of every patch, where its mode is known and there is room
fresh_state : (ks : List ℕ) (n mode : ℕ) (l : Slices) → can_start mode l.register l.table l.channel ≡ true → is_formed ks n (lent (fresh_of mode) l).held ≡ true
unfolding is_formed in_limits in_place calls_below refs_within all_of table_names names_from fresh_of can_start
fresh_state ks n mode l e = rw (and_left (is_mode mode) _ e, and_right (is_mode mode) _ e, le-leb 0 (length ks) (omega arith), le-leb 0 n (omega arith), le-leb 0 (length l.output) (omega arith)) refl

-- room is a matter of lengths
as_long : (mode : ℕ) (g g' ts ch : List ℕ) → length g' ≡ length g → can_start mode g' ts ch ≡ can_start mode g ts ch
unfolding can_start has_room
as_long mode g g' ts ch e = rw e refl

-- the ops of what is read are few
pub few_rows : (s : List ℕ) (x : Code) → IsRead s x → length x.rows ≤ most_ops
few_rows s x h = omega (arith, ap (λ (y : Code). length y.rows) h.read, many_rows s, few_items s)

-- a good file of n ops, as `load` leaves it: the ops in the first entries of the four columns
pub is_loaded : (s : List ℕ) (n : ℕ) → (patch_of s).number ≡ 0 → n ≡ length (patch_of s).items → {ks ns ds ps : List ℕ} (ks₀ ns₀ ds₀ ps₀ : List ℕ)
    → ks ≡ fill (map row_in (patch_of s).items) ks₀ → ns ≡ fill (map count_in (patch_of s).items) ns₀
    → ds ≡ fill (map need_in (patch_of s).items) ds₀ → ps ≡ fill (map payload_in (patch_of s).items) ps₀
    → IsLoaded s (take n ks) (take n ns) (take n ds) (take n ps)
is_loaded s n z e ks₀ ns₀ ds₀ ps₀ a b c d =
    record {
      good = z;
      rows = part_is s n e row_in _ ks₀ a;
      counts = part_is s n e count_in _ ns₀ b;
      needs = part_is s n e need_in _ ds₀ c;
      payloads = part_is s n e payload_in _ ps₀ d;
    }

-- and with what the pass finds
module _ (s ks ns ds ps : List ℕ) (h : IsLoaded s ks ns ds ps) where
  pub ops_many : (n : ℕ) → n ≡ length (patch_of s).items → n ≡ length ks
  ops_many n e = rw (h.rows, length-map (patch_of s).items row_in) e

  pub rows_few : length ks ≤ most_ops
  rows_few = rw (h.rows, length-map (patch_of s).items row_in) (few_items s)

  pub marks_few : length (functions_of ks) ≤ most_marks
  marks_few = rw h.rows (few_functions s)

  pub is_read : (m : ℕ) → m ≡ length ks → (es es₀ ts ts₀ : List ℕ) (f : ℕ) (fs fs₀ : List ℕ)
      → (es ≡ fill (partners_of ks) es₀) × ((ts ≡ fill (turns_of ks) ts₀) × ((f + length (functions_of ks) ≡ most_marks) × (fs ≡ fill_end (functions_of ks) fs₀)))
      → length fs₀ ≡ most_marks
      → IsRead s (code ks ns ds ps (take m es) (take m ts) (take (most_marks - f) (drop f fs)) s)
  unfolding code_of
  is_read m k es es₀ ts ts₀ f fs fs₀ p n =
      record {
        good = h.good;
        read = rw (
          start_lent (partners_of ks) es es₀ p.0 m (many_partners ks ∙ sym k),
          start_lent (turns_of ks) ts ts₀ p.1.0 m (many_turns ks ∙ sym k),
          end_lent (functions_of ks) fs fs₀ f (p.1.1.0 ∙ sym n) p.1.1.1 most_marks n,
          h.rows,
          h.counts,
          h.needs,
          h.payloads,
        ) refl;
      }

-- all of it zero
pub all_zero : (l : List ℕ) → zeroed (length l) l ≡ replicate (length l) 0
unfolding zeroed fill
all_zero [] = refl
all_zero (x ∷ xs) = ap (λ (l : List ℕ). 0 ∷ l) (all_zero xs)

-- and so the counts of a fresh run add up to no step
pub fresh_added : (rows cs cs' : List ℕ) (n : ℕ) → length cs ≡ n → length rows ≡ n → cs' ≡ zeroed n cs → adds_up rows cs' 0 ≡ true
fresh_added rows cs cs' n e k z =
    let same : cs' ≡ replicate (length rows) 0 = z ∙ ap (λ (i : ℕ). zeroed i cs) (sym e) ∙ all_zero cs ∙ ap (λ (i : ℕ). replicate i 0) (e ∙ sym k) in
    ap (λ (l : List ℕ). adds_up rows l 0) same ∙ zeros_added rows

pub fresh_stands : (m : Machine) (mode : ℕ) → m ≡ fresh_of mode → (rows cs cs' : List ℕ) (n : ℕ) → length cs ≡ n → length rows ≡ n → cs' ≡ zeroed n cs
    → true ≡ adds_up rows cs' m.total
unfolding fresh_of
fresh_stands m mode f rows cs cs' n e k z = sym (rw f (fresh_added rows cs cs' n e k z))

-- counts that add up can be raised by as many steps as the total allows
module _ (rows cs : List ℕ) (total : ℕ) (t : Bool) (a : t ≡ adds_up rows cs total) (g : not t ≡ false) where
  pub within : total ≤ most_steps
  within = (adds rows cs total (sym a ∙ not-false t g)).within

  pub can_count : (n m : ℕ) → m ≡ allowed n total → ReadyToCount rows cs m
  unfolding allowed
  can_count n m l =
      let k = adds rows cs total (sym a ∙ not-false t g) in
      record { each = k.each; low = omega (arith, k.summed, k.within, l) }

module _ (s input : List ℕ) where
  -- ---- a run over the columns of a good file, where b is the answer of the test of the state and t that of the counts

  module _ (x : Code) (h : IsRead s x) (w : Tallied) (b : Bool) (e : b ≡ is_formed x.rows (length input) w.held) (t : Bool) (a : t ≡ adds_up x.rows w.tally w.total) where
    tested : b ≡ is_formed (code_of s).rows (length input) w.held
    tested = e ∙ ap (λ (y : Code). is_formed y.rows (length input) w.held) h.read

    added : t ≡ adds_up (code_of s).rows w.tally w.total
    added = a ∙ ap (λ (y : Code). adds_up y.rows w.tally w.total) h.read

    pub run_unformed : not b ≡ true → (n : ℕ) → ended NotAState 0 w ≡ run_call s input n w
    unfolding run_call
    run_unformed f n = rw (eq-eqb (patch_of s).number 0 h.good, ← tested, not-true b f) refl

    module _ (f : not b ≡ false) where
      pub run_unadded : not t ≡ true → (n : ℕ) → ended NotAState 0 w ≡ run_call s input n w
      unfolding run_call
      run_unadded g n = rw (eq-eqb (patch_of s).number 0 h.good, ← tested, not-false b f, ← added, not-true t g) refl

      pub run_going : length w.held.calls ≡ 256 → length w.held.refs ≡ 256 → ReadyToRun s input x w.held
      run_going kc kr = record { good = h.good; read = h.read; fits = formed_fits s input w.held kc kr (sym tested ∙ not-false b f) }

      module _ (g : not t ≡ false) where
        module _ (n m : ℕ) (l : m ≡ allowed n w.total) where
          -- what the steps leave is what the call leaves
          pub run_called : ReadyToRun s input x w.held → Bytes s → (r : Ran) (cs : List ℕ) → r ≡ run_of m 0 x input w.held
              → cs ≡ run_counts_of m x input w.held w.tally → ended r.answer r.steps (tallied r.held (w.total + r.steps) cs) ≡ run_call s input n w
          unfolding run_call
          run_called k y r cs q p =
              let c = w.held in
              let v = given_to s input c in
              let er : r ≡ run_laid v m c = q ∙ ap (λ (z : Code). run_of m 0 z input c) h.read ∙ run_laid_lem s input y m c k.fits in
              let ec : cs ≡ run_counts v m (view c) w.tally =
              p ∙ ap (λ (z : Code). run_counts_of m z input c w.tally) h.read ∙ run_counts_lem s input y m c k.fits w.tally in
              rw (eq-eqb (patch_of s).number 0 h.good, ← tested, not-false b f, ← added, not-false t g, er, ec, l) refl

  -- ---- a fresh run, where b is the answer of the test of the mode and the lent room

  module _ (count : ℕ) (q : Ok count ≡ read_of (patch_of s)) (m : Machine) (mode : ℕ) (f : m ≡ fresh_of mode) (d : Slices) (b : Bool)
      (e : b ≡ can_start mode d.register d.table d.channel) where
    pub fresh_cramped : not b ≡ true → (n : ℕ) → ended NotAState 0 (lent m d) ≡ fresh_call s input n mode d
    unfolding fresh_call
    fresh_cramped h n = rw (f, eq-eqb (patch_of s).number 0 (good_file s count q), ← e, not-true b h) refl

    ops_are : count ≡ length (code_of s).rows
    ops_are = good_ops s count q ∙ sym (many_rows s)

    module _ (h : not b ≡ false) where
      pub fresh_uneven : (length d.tally ≡ count → ⊥) → (n : ℕ) → ended NotAState 0 (lent m d) ≡ fresh_call s input n mode d
      unfolding fresh_call
      fresh_uneven k n =
          rw (f, eq-eqb (patch_of s).number 0 (good_file s count q), ← e, not-false b h, ne_eqb (length d.tally) (length (code_of s).rows) (λ j. k (j ∙ sym ops_are))) refl

      -- the run of the fresh machine over the zeros that are written
      pub fresh_called : length d.tally ≡ count → (g' t' cs' : List ℕ) → g' ≡ zeroed 1024 d.register → t' ≡ zeroed (length d.tape) d.tape
          → cs' ≡ zeroed count d.tally → length g' ≡ length d.register → (n : ℕ)
          → run_call s input n (lent m (slices g' t' d.table d.channel d.output cs')) ≡ fresh_call s input n mode d
      unfolding run_call fresh_call fresh_of
      fresh_called j g' t' cs' zg zt zc k n =
          let w = slices g' t' d.table d.channel d.output cs' in
          let ks = (code_of s).rows in
          let even : length d.tally ≡ length ks = j ∙ ops_are in
          let over : lent m w ≡ fresh_on mode d = rw (f, zg, zt, zc, ← j) refl in
          let c : is_formed ks (length input) (lent (fresh_of mode) w).held ≡ true
          = fresh_state ks (length input) mode w (as_long mode d.register g' d.table d.channel k ∙ sym e ∙ not-false b h) in
          let o : is_formed ks (length input) (lent m w).held ≡ true = rw f c in
          let p : adds_up ks cs' m.total ≡ true = rw f (fresh_added ks d.tally cs' count j (sym ops_are) zc) in
          rw (eq-eqb (patch_of s).number 0 (good_file s count q), o, p, ← e, not-false b h, eq-eqb (length d.tally) (length ks) even)
          (ap (λ (v : Tallied). tally_run s input n v) over)

  -- ---- a bad file

  pub run_bad : {number place : ℕ} → number ≡ (patch_of s).number → place ≡ (patch_of s).place → ((patch_of s).number ≡ 0 → ⊥)
      → (n : ℕ) (w : Tallied) → ended (BadFile number place) 0 w ≡ run_call s input n w
  unfolding run_call
  run_bad p q z n w = rw (p, q, ne_eqb (patch_of s).number 0 z) refl

  module _ (u : Unread) (q : Err u ≡ read_of (patch_of s)) where
    pub run_unread : (n : ℕ) (w : Tallied) → ended (BadFile u.number u.place) 0 w ≡ run_call s input n w
    run_unread = run_bad (bad_number s u q) (bad_place s u q) (bad_file s u q)

    pub fresh_unread : (m : Machine) (mode : ℕ) → m ≡ fresh_of mode → (n : ℕ) (d : Slices) → ended (BadFile u.number u.place) 0 (lent m d) ≡ fresh_call s input n mode d
    unfolding fresh_call
    fresh_unread m mode f n d = rw (f, bad_number s u q, bad_place s u q, ne_eqb (patch_of s).number 0 (bad_file s u q)) refl
