-- What a step does, op by op: the numbers that it refuses with, where it goes on, and of all that it changes the size, and that it is of
-- words. What steps keep is proved from this, and not of each op again. Assumes nothing.
use Prim.Native.Nat.{ℕ, zero, suc, ◌+◌, ◌-◌, ◌*◌, ◌/◌, ◌^◌, ◌≤◌, ◌<◌}
use native.Mathlib.Omega.{arith}
use borrow.Author.Tests.{ltb-true, ltb-false, lt-ltb, leb-true, leb-false, ne_eqb}
use mathlib.Core.Path.{◌≡◌, refl, ap}
use mathlib.Core.Bool.{Bool, true, false, cond, ◌||◌}
use mathlib.Core.List.{List, [], ◌∷◌, ◌++◌, reverse}
use mathlib.Core.Logic.{◌⊎◌, inl, inr}
use mathlib.Core.Option.{Option, none, some}
use lib.Dec.{leb, ltb, eqb}
use lib.ListN.{length, take, drop, length-take, length-drop, length-append, length-set}
use Rattle.basics.proofs.Tests.{and_left, and_right, or_right}
use Rattle.lanes.specs.Int.{int_add}
use Rattle.lanes.specs.Lane.{cell_rule, lane_rule}
use Rattle.lanes.specs.declared.lane.CellOp.TheVariants.{Index}
use Rattle.lanes.proofs.Below.{cell_rule_below, lane_rule_below}
use Rattle.lane_loops.proofs.LaneLoops.{length_zip, length-map}
use Rattle.ops.specs.Syntax.{Op, Control, Plain, bracket, is_function, is_while, needs, plain_needs}
use Rattle.ops.specs.Syntax.Bracket.{up, mid}
use Rattle.ops.specs.Syntax.Control.{function, call, ret, while, if, else, end}
use Rattle.ops.specs.Syntax.Plain.{comment, store, move, swap, locate, offset, deref, refer, cell, lane, get, put, peek, poke, ffi_call, alloc, free}
use Rattle.ops.specs.Syntax.Op.{control, set, load, plain}
use Rattle.ops.specs.Write.{Below, Fits}
use Rattle.ops.specs.declared.op.Mode.{Mode}
use Rattle.ops.specs.declared.op.Mode.TheVariants.{Char, Int, Other}
use Rattle.std.specs.Prelude.{Some, None}
use Rattle.testing_device.specs.Device.{Got, get_of, put_of, leading, int_from, char_from, is_space, is_digit}
use Rattle.testing_device.specs.declared.device.Taken.{Taken}
use Rattle.testing_device.proofs.Words as device
use Rattle.testing_device.proofs.Inputs.{Bounded, leading_length, get_bounded}
use Rattle.testing_device.proofs.Inputs.Bounded.{value}
use Rattle.testing_device.proofs.Outputs.{put_words}
use Rattle.machine_model.specs.State.{State, Given, lanes, depth, farthest, longest, first_block, lane0, go_to, on, with_table}
use Rattle.machine_model.specs.Scan.{op_at, brackets, to_open}
use Rattle.machine_model.specs.Step.{Outcome, lack, bar, enter, jump, end_of, else_of, called, routine, found, back, again, turn, minus, cover, beyond, ahead, cells, grown, refer_to, move_by, gotten, peek_at, act, exec, op, pick, step}
use Rattle.machine_model.specs.Step.Outcome.{finished, next}
use Rattle.machine_model.specs.Formed.{Each, Rising, Whole, Formed}
use Rattle.ops.specs.declared.op.Binding.{Binding}
use Rattle.standard_device.specs.Bindings.{inputs, result_of}
use Rattle.standard_device.proofs.Values.{inputs_few, result_below}
use Rattle.machine_model.specs.Words.{Word, Words}
use Rattle.machine_model.specs.Missing.{AsksCells, FirstMissing, FirstCell}
use Rattle.machine_model.specs.Missing.AsksCells.{loads, stores, swaps, combines, derefs}
use Rattle.machine_model.proofs.Each.{each_part, each_end, each_take, each_at, each_get_or, each_map, each_zip}
use Rattle.machine_model.proofs.Scans.{is_control, Landing, function_lands, while_lands, mark_lands, Seeks, end_seeks, else_seeks}
use Rattle.machine_model.proofs.Scans.Seeks.{nowhere, arrives}
use Rattle.machine_model.proofs.Table.{each_enter, rising_enter}
use Rattle.machine_model.proofs.Meant.{routine_is}
use Rattle.machine_model.proofs.Outcomes.{Gives, lack_gives, bar_gives, pick_gives}
use Rattle.machine_model.proofs.Outcomes.Gives.{ended, stopped, goes}

-- ---- lists and numbers

cover_short : (p n : ℕ) → p ≤ farthest + lanes → n ≤ longest → cover p n ≤ longest
cover_short p n h l = by (ltb p n) refl
  where
    by : (b : Bool) → ltb p n ≡ b → cond b n (n + 100_000 * ((p - n) / 100_000 + 1)) ≤ longest
    by true e = l
    by false e = omega (arith, ltb-false p n e)

grown_le : (n : ℕ) → grown n ≤ n + first_block
grown_le n = by (eqb n 0)
  where
    by : (b : Bool) → cond b first_block n ≤ n + first_block
    by true = omega arith
    by false = omega arith

-- the first of n cells from p on that goes beyond a length, and of one cell
first_ahead : (p n l : ℕ) → beyond p n l ≡ true → FirstMissing (λ j. p + j < l) n (ahead p l)
first_ahead p n l e =
    let a = ltb-true 0 n (and_left (ltb 0 n) _ e) in
    let b = ltb-true l (p + n) (and_right (ltb 0 n) _ e) in
    record { before = λ j h. omega arith; missing = λ h. omega arith; asked = omega arith }

first_here : (p l : ℕ) → l ≤ p → FirstMissing (λ j. p + j < l) 1 0
first_here p l h = record { before = λ j i. absurd (omega arith); missing = λ i. omega arith; asked = omega arith }

-- what grows is whole, as what it grew from was
cover_whole : (p n : ℕ) → Whole n → Whole (cover p n)
cover_whole p n w = by (ltb p n)
  where
    by : (b : Bool) → Whole (cond b n (n + 100_000 * ((p - n) / 100_000 + 1)))
    by true = w
    by false = inr (omega arith)

grown_whole : (n m : ℕ) → Whole n → Whole (grown n + m)
grown_whole n m (inl e) = rw e (inr (omega arith))
grown_whole n m (inr l) = rw (ne_eqb n 0 (λ e. omega arith)) (inr (omega arith))

-- n cells from p on, where they do not go beyond the list
cells_long : (p n : ℕ) (l : List ℕ) → beyond p n (length l) ≡ false → length (take n (drop p l)) ≡ n
cells_long p zero l e = refl
cells_long p (suc n) l e =
    let h : p + suc n ≤ length l = ltb-false (length l) (p + suc n) (rw (lt-ltb 0 (suc n) (omega arith)) at e) in
    simp (length-take, length-drop) (omega arith)

below_words : (vs : List ℕ) → Below (2 ^ 64) vs → Each Word vs
below_words [] h = tt
below_words (v ∷ vs) h = (h.0, below_words vs h.1)

swap_long : (s : State) (n : ℕ) → n ≤ length s.reg → beyond s.pointer n (length s.tape) ≡ false → length (cells s n ++ drop n s.reg) ≡ length s.reg
swap_long s n l e = simp (length-append, cells_long s.pointer n s.tape e, length-drop) (omega arith)

offset_word : (v a : ℕ) → Word a → Word (int_add a v)
unfolding cell_rule
offset_word v a h = cell_rule_below Index a v h

-- ---- what the device gives

-- words as the device has them
device_words : (vs : List ℕ) → Each Word vs → device.Words vs
device_words vs a = record { at = λ i. each_get_or Word vs i (omega arith) a }

each_word : (vs : List ℕ) → device.Words vs → Each Word vs
each_word [] w = tt
each_word (v ∷ vs) w = (w.at 0, each_word vs (device.words_tail v vs w))

-- what Get gives has a place in the input
abbrev Inside : ℕ → Got → Type 0
Inside l None = Unit {0}
Inside l (Some t) = t.at ≤ l

char_inside : (l at : ℕ) (vs : List ℕ) → length vs ≡ l - at → Inside l (char_from vs at)
char_inside l at [] e = tt
char_inside l at (v ∷ vs) e = omega arith

get_inside : (m : Mode) (input : List ℕ) (at : ℕ) → at ≤ length input → Inside (length input) (get_of m input at)
unfolding get_of int_from
get_inside Char input at h = char_inside (length input) at (drop at input) (length-drop at input)
get_inside Int input at h =
    let vs = drop at input in
    let a = leading is_space vs in
    omega (arith, leading_length is_space vs, length-drop at input, leading_length is_digit (drop a vs), length-drop a vs)
get_inside Other input at h = h

got_word : (l : List ℕ) (at : ℕ) (t : Taken) → Bounded l at (Some t) → Word t.value
got_word l at _ (value v p h _ _) = h

-- ---- what there is to say of a step

-- "halted or at the end"
abbrev pub Over : Given → State → Type 0
Over g s = (s.halted || leb (length g.ops) s.at) ≡ true

pub step_over : (g : Given) (s : State) → Over g s → step g s ≡ finished
unfolding step pick
step_over g s e = rw e refl

-- 20 where no End closes the bracket, 21 where the register is too short, 22 and 23 where cells are missing, or a number after these
pub data Refusal (g : Given) (s : State) (o : Op) : ℕ → ℕ → Type 0 where
  lost : s.at < length g.ops → (bracket o ≡ up) ⊎ (bracket o ≡ mid) → end_of g s ≡ none → Refusal g s o 20 0
  narrow : s.at < length g.ops → length s.reg < needs o → Refusal g s o 21 (length s.reg)
  short : {l : ℕ} → FirstCell (λ j. s.pointer + j < s.counted) o l → Refusal g s o 22 l
  cut : {l : ℕ} → FirstCell (λ j. s.pointer + j < length s.tape) o l → Refusal g s o 23 l
  other : {n : ℕ} → leb 24 n ≡ true → Refusal g s o n 0

-- the saved calls and the table, where Q holds of each place to go on after
pub record Places (os : List Op) (Q : ℕ → Type 0) (calls table : List ℕ) : Type 0 where
  pub few : length calls ≤ depth
  pub saved : Each Q calls
  pub rising : Rising table
  pub marked : Each (λ m. is_function (op_at os m) ≡ true) table

-- the lanes after an op, where k were there before it
abbrev pub made : Op → ℕ → ℕ
made (control c) k = k
made (set a vs) k = length vs
made (load n) k = n
made (plain p) k = k

-- pointer and counted length, saved pointers, channel and its first place, input place and outputs
abbrev pub Sizes : Given → ℕ → ℕ → List ℕ → List ℕ → ℕ → ℕ → List ℕ → Type 0
Sizes g p n rs ch f k os =
    (p ≤ farthest) × (n ≤ longest) × (length rs ≤ depth) × (length ch ≤ depth) × (f < depth) × (k ≤ length g.input) × (length os ≤ g.room)

-- register, tape, channel and outputs
abbrev pub Values : List ℕ → List ℕ → List ℕ → List ℕ → Type 0
Values r m ch os = Each Word r × Each Word m × Each Word ch × Each Word os

-- the state after the place j, with the table ts and the calls cs
abbrev pub turned : State → ℕ → List ℕ → List ℕ → Bool → State
turned s j ts cs b =
    record { at = suc j; pointer = s.pointer; counted = s.counted; reg = s.reg; tape = s.tape; table = ts; calls = cs; refs = s.refs; channel = s.channel; first = s.first; taken = s.taken; outs = s.outs; halted = b }

-- the state at the next op, with all that the ops besides control may change
abbrev pub acted : State → ℕ → ℕ → List ℕ → List ℕ → List ℕ → List ℕ → ℕ → ℕ → List ℕ → State
acted s p n r m rs ch f k os =
    record { at = suc s.at; pointer = p; counted = n; reg = r; tape = m; table = s.table; calls = s.calls; refs = rs; channel = ch; first = f; taken = k; outs = os; halted = s.halted }

-- a control op goes on after a place where Q holds, if it does of the saved ones; any other at the next op, its length is whole if it was, and what
-- it changes has the sizes of a well-formed state, and has words if the state had
pub data Effect (g : Given) (Q : ℕ → Type 0) (s : State) : Op → State → Type 0 where
  turns : {c : Control} (j : ℕ) (ts cs : List ℕ) (b : Bool) → (Places g.ops Q s.calls s.table → Q j × Places g.ops Q cs ts)
      → Effect g Q s (control c) (turned s j ts cs b)
  acts : {o : Op} (p n : ℕ) (r m rs ch : List ℕ) (f k : ℕ) (os : List ℕ) → s.at < length g.ops → length r ≡ made o (length s.reg)
      → (Whole s.counted → Whole n)
      → (Formed g s → Fits o → Sizes g p n rs ch f k os × Each (λ x. x ≤ farthest) rs × (Words g s → Values r m ch os)) → Effect g Q s o (acted s p n r m rs ch f k os)

module _ (g : Given) (Q : ℕ → Type 0) (lands : (j : ℕ) → Landing g.ops j → Q j) (s : State) (within : s.at < length g.ops) where
  abbrev Does : Op → Outcome → Type 0
  Does o = Gives (Over g s) (Refusal g s o) (Effect g Q s o)

  refuses : {o : Op} {b : Bool} {x : Outcome} (n : ℕ) → leb 24 n ≡ true → (b ≡ false → Does o x) → Does o (bar b n x)
  refuses n h k = bar_gives n (λ _. other h) k

  -- 22 and 23, with the first of the n cells that is missing
  falls_short : {o : Op} {x : Outcome} {n : ℕ} → AsksCells o n → (beyond s.pointer n s.counted ≡ false → Does o x)
      → Does o (lack (beyond s.pointer n s.counted) 22 (ahead s.pointer s.counted) x)
  falls_short {n = n} a k = lack_gives 22 _ (λ e. short (record { count = n; asks = a; first = first_ahead s.pointer n s.counted e })) k

  cuts_short : {o : Op} {x : Outcome} {n : ℕ} → AsksCells o n → (beyond s.pointer n (length s.tape) ≡ false → Does o x)
      → Does o (lack (beyond s.pointer n (length s.tape)) 23 (ahead s.pointer (length s.tape)) x)
  cuts_short {n = n} a k = lack_gives 23 _ (λ e. cut (record { count = n; asks = a; first = first_ahead s.pointer n (length s.tape) e })) k

  -- ---- control

  abbrev Placed : List ℕ → List ℕ → Type 0
  Placed cs ts = Places g.ops Q cs ts

  goes_after : {c : Control} {j : ℕ} {ts cs : List ℕ} {b : Bool} → (Placed s.calls s.table → Q j × Placed cs ts) → Does (control c) (next (turned s j ts cs b))
  goes_after h = goes (turns _ _ _ _ h)

  entered : (m : ℕ) → is_function (op_at g.ops m) ≡ true → Placed s.calls s.table → Placed s.calls (enter m s.table)
  entered m i p = search (rising_enter, each_enter)

  module _ {c : Control} (is : op_at g.ops s.at ≡ control c) where
    here : Q s.at
    here = lands s.at (ap is_control is)

    goes_on : Does (control c) (next (on s))
    goes_on = goes_after (λ p. (here, p))

    -- past the partner that a search gives, with the table ts
    jumps : (ts : List ℕ) (r : Option ℕ) → (bracket (control c) ≡ up) ⊎ (bracket (control c) ≡ mid) → (Placed s.calls s.table → Placed s.calls ts)
        → Seeks (suc s.at) (drop (suc s.at) (brackets g.ops)) (end_of g s ≡ none) r → Does (control c) (jump (with_table s ts) r)
    jumps ts _ b k (nowhere l) = stopped (lost within b l)
    jumps ts _ b k (arrives {j = j} i e t) = goes_after (λ p. (lands j (mark_lands g.ops (suc s.at) i j e t), k p))

    -- a call of the mark m, with the table ts
    calls_in : {m : ℕ} {ts : List ℕ} → leb depth (length s.calls) ≡ false → (Placed s.calls s.table → (is_function (op_at g.ops m) ≡ true) × Placed s.calls ts)
        → Does (control c) (next (with_table (called s m) ts))
    calls_in {m} e k =
        goes_after
        (λ p. let h = k p in
        let few : length (s.calls ++ (s.at ∷ [])) ≤ depth = omega (arith, leb-false, length-append s.calls (s.at ∷ [])) in
        (lands m (function_lands g.ops m h.0), search (each_end, here)))

    found_in : leb depth (length s.calls) ≡ false → (r : Option ℕ)
        → (Placed s.calls s.table → (m : ℕ) → r ≡ some m → is_function (op_at g.ops m) ≡ true) → Does (control c) (found s r)
    found_in e none h = stopped (other refl)
    found_in e (some m) h = calls_in e (λ p. (h p m refl, entered m (h p m refl) p))

    back_in : (cs : List ℕ) → s.calls ≡ cs → Does (control c) (back s cs)
    back_in [] e = goes_after (λ p. (here, p))
    back_in (q ∷ cs) e =
        goes_after
        (λ p. let a = rw e at p.saved in
        let few : length (take (length cs) (q ∷ cs)) ≤ depth = omega (arith, p.few, ap length e, length-take (length cs) (q ∷ cs)) in
        (each_at Q (q ∷ cs) (length cs) (omega arith) a, search each_take))

    again_in : (r : Option ℕ) → Does (control c) (again g s r)
    again_in none = goes_on
    again_in (some w) = by (is_while (op_at g.ops w)) refl
      where
        by : (b : Bool) → is_while (op_at g.ops w) ≡ b → Does (control c) (next (cond b (go_to s (suc w)) (on s)))
        by true e = goes_after (λ p. (lands w (while_lands g.ops w e), p))
        by false e = goes_on

  turn_does : (c : Control) → op_at g.ops s.at ≡ control c → Does (control c) (turn g c s)
  unfolding turn
  turn_does function is = jumps is (enter s.at s.table) (end_of g s) (inl refl) (entered s.at (ap is_function is)) (end_seeks _ _ _)
  turn_does call is =
      refuses 28 refl
      (λ _. refuses 32 refl (λ e. found_in is e (routine g.mode s.table g.ops (lane0 s)) (λ p. routine_is g.ops g.mode s.table (lane0 s) p.marked)))
  turn_does ret is = back_in is s.calls refl
  turn_does if is = pick_gives (λ _. jumps is s.table (else_of g s) (inl refl) (λ p. p) (else_seeks _ _ _)) (λ _. goes_on is)
  turn_does while is = pick_gives (λ _. jumps is s.table (end_of g s) (inl refl) (λ p. p) (end_seeks _ _ _)) (λ _. goes_on is)
  turn_does else is = jumps is s.table (end_of g s) (inr refl) (λ p. p) (end_seeks _ _ _)
  turn_does end is = pick_gives (λ _. goes_on is) (λ _. again_in is (to_open 0 (reverse (take s.at (brackets g.ops)))))

  -- ---- the others

  grows : {o : Op} {p n : ℕ} {r m rs ch : List ℕ} {f k : ℕ} {os : List ℕ} → length r ≡ made o (length s.reg) → (Whole s.counted → Whole n)
      → (Formed g s → Fits o → Sizes g p n rs ch f k os × Each (λ x. x ≤ farthest) rs × (Words g s → Values r m ch os)) → Does o (next (acted s p n r m rs ch f k os))
  grows e w h = goes (acts _ _ _ _ _ _ _ _ _ within e w h)

  works : {o : Op} {p : ℕ} {r m rs ch : List ℕ} {f k : ℕ} {os : List ℕ} → length r ≡ made o (length s.reg)
      → (Formed g s → Fits o → Sizes g p s.counted rs ch f k os × Each (λ x. x ≤ farthest) rs × (Words g s → Values r m ch os))
      → Does o (next (acted s p s.counted r m rs ch f k os))
  works e h = grows e (λ w. w) h

  covered : Formed g s → (n : ℕ) → n ≤ lanes → cover (s.pointer + n) s.counted ≤ longest
  covered f n h = cover_short (s.pointer + n) s.counted (omega arith) f.short

  lane0_word : Words g s → Word (lane0 s)
  lane0_word w = each_get_or Word s.reg 0 (omega arith) w.in_reg

  result_word : (b : Binding) → Words g s → Word (result_of b s.channel)
  result_word b w = result_below b s.channel (each_get_or Word s.channel 0 (omega arith) w.in_channel)

  refer_does : (rs : List ℕ) → s.refs ≡ rs → Does (plain refer) (refer_to s rs)
  refer_does [] e = stopped (other refl)
  refer_does (r ∷ rs) e =
      works refl
      (λ f h. let a = rw e at f.pointed in
      (omega (arith, each_at (λ x. x ≤ farthest) (r ∷ rs) (length rs) (omega arith) a, ap length e, length-take (length rs) (r ∷ rs)), search each_part, λ w. search))

  move_does : (m : ℕ) (b : Bool) → Does (plain (move m)) (move_by s m b)
  move_does m true = refuses 24 refl (λ _. works refl (λ f h. (omega arith, f.pointed, λ w. search)))
  move_does m false = refuses 25 refl (λ e. works refl (λ f h. (omega (arith, ltb-false), f.pointed, λ w. search)))

  get_does : (m : Mode) (r : Got) → get_of m g.input s.taken ≡ r → Does (plain (get m)) (gotten s r)
  get_does m None e = stopped (other refl)
  get_does m (Some t) e =
      works (length-set s.reg 0 t.value)
      (λ f h. (omega (arith, rw e at (get_inside m g.input s.taken f.read)), f.pointed, λ w. search (each_part, got)))
    where
      got : Words g s → Word t.value
      got w = got_word g.input s.taken t (rw e at (get_bounded m g.input s.taken (device_words g.input w.in_input)))

  peek_does : (vs : List ℕ) → s.channel ≡ vs → Does (plain peek) (peek_at s vs)
  peek_does [] e = stopped (other refl)
  peek_does (v ∷ vs) e =
      works (length-set s.reg 0 v)
      (λ f h. (omega (arith, ap length e), f.pointed, λ w. let a = rw e at w.in_channel in search each_part))

  act_does : (p : Plain) → plain_needs p ≤ length s.reg → Does (plain p) (act g p s)
  unfolding act
  act_does (store n) l = cuts_short stores (λ _. grows refl (cover_whole _ _) (λ f h. (omega (arith, covered f n h), f.pointed, λ w. search each_part)))
  act_does deref l =
      refuses 32 refl
      (λ d. bar_gives 23 (λ e. cut (record { count = 1; asks = derefs; first = first_here s.pointer (length s.tape) (leb-true _ _ e) }))
      (λ _. refuses 26 refl
      (λ _. refuses 25 refl
      (λ e. grows refl (cover_whole _ _)
      (λ f h. let c = cover_short s.pointer s.counted (omega arith) f.short in
      (omega (arith, ltb-false, leb-false, length-append s.refs (s.pointer ∷ [])), search each_part, λ w. search))))))
  act_does refer l = refer_does s.refs refl
  act_does (cell k n) l =
      falls_short combines
      (λ _. cuts_short combines
      (λ _. works (length_zip (cell_rule k) n s.reg (drop s.pointer s.tape)) (λ f h. (omega arith, f.pointed, λ w. search (each_part, each_zip, cell_rule_below)))))
  act_does (swap n) l = falls_short swaps (λ _. cuts_short swaps (λ e. works (swap_long s n l e) (λ f h. (omega arith, f.pointed, λ w. search each_part))))
  act_does (move m) l = move_does m (minus m)
  act_does alloc l =
      refuses 30 refl
      (λ e. grows (length-set s.reg 0 _) (grown_whole s.counted (lane0 s))
      (λ f h. let b : Word (grown s.counted - 1) = omega (arith, grown_le s.counted) in
      (omega (arith, ltb-false longest (grown s.counted + lane0 s) (or_right (minus (lane0 s)) _ e)), f.pointed, λ w. search each_part)))
  act_does (get m) l = get_does m (get_of m g.input s.taken) refl
  act_does (put m) l =
      refuses 36 refl
      (λ e. works refl
      (λ f h. (omega (arith, ltb-false, length-append s.outs (put_of m (lane0 s))), f.pointed, λ w. search (each_part, each_word, put_words, lane0_word))))
  act_does peek l = peek_does s.channel refl
  act_does poke l =
      refuses 34 refl
      (λ e. works refl (λ f h. (omega (arith, leb-false, length-append s.channel (lane0 s ∷ [])), f.pointed, λ w. search (each_part, lane0_word))))
  act_does (ffi_call b) l =
      refuses 33 refl
      (λ e. works refl
      (λ f h. (omega (arith, ltb-false, inputs_few b, length-append (drop (inputs b) s.channel) (result_of b s.channel ∷ []), length-drop (inputs b) s.channel), f.pointed, λ w. search (each_part, result_word b))))
  act_does locate l = works (length-set s.reg 0 s.pointer) (λ f h. let b : Word s.pointer = omega arith in (omega arith, f.pointed, λ w. search each_part))
  act_does (lane k n) l = works (length-map (lane_rule k) n s.reg) (λ f h. (omega arith, f.pointed, λ w. search (each_map, lane_rule_below)))
  act_does (offset v n) l = works (length-map (λ a. int_add a v) n s.reg) (λ f h. (omega arith, f.pointed, λ w. search (each_map, offset_word)))
  act_does free l = works refl (λ f h. (omega arith, f.pointed, λ w. search))
  act_does (comment bs) l = works refl (λ f h. (omega arith, f.pointed, λ w. search))

  exec_does : (o : Op) → op_at g.ops s.at ≡ o → needs o ≤ length s.reg → Does o (exec g o s)
  unfolding exec
  exec_does (control c) is l = turn_does c is
  exec_does (load n) is l =
      cuts_short loads
      (λ e. grows (cells_long s.pointer n s.tape e) (cover_whole _ _) (λ f h. (omega (arith, covered f n h), f.pointed, λ w. search each_part)))
  exec_does (set k vs) is l = works refl (λ f h. (omega arith, f.pointed, λ w. search (below_words vs h.1)))
  exec_does (plain p) is l = act_does p l

-- a step is over, refused, or does what its op does
pub step_does : (g : Given) (Q : ℕ → Type 0) → ((j : ℕ) → Landing g.ops j → Q j) → (s : State)
    → Gives (Over g s) (Refusal g s (op_at g.ops s.at)) (Effect g Q s (op_at g.ops s.at)) (step g s)
unfolding step op
step_does g Q lands s =
    pick_gives ended
    (λ e. let within = leb-false _ _ (or_right s.halted _ e) in
    lack_gives 21 _ (λ l. narrow within (ltb-true _ _ l)) (λ l. exec_does g Q lands s within (op_at g.ops s.at) refl (ltb-false _ _ l)))
