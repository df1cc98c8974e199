-- 02, ask 4: a Call by mark goes after the k-th mark of the patch, whatever has run; and where the table holds every mark the modes agree, in a step and
-- in a run. Assumes nothing.
use Prim.Native.Nat.{ℕ, zero, suc, ◌≤◌}
use borrow.Author.Tests.{leb-true, leb-false, ltb-true, ltb-false}
use mathlib.Core.Path.{◌≡◌, refl, ap, sym, ◌∙◌}
use mathlib.Core.Bool.{Bool, true, false, cond}
use mathlib.Core.List.{List, [], ◌∷◌, reverse}
use mathlib.Core.Option.{Option, none, some}
use lib.Dec.{leb, ltb}
use lib.ListN.{length, get_or, take}
use Rattle.basics.proofs.Clash.{clash}
use Rattle.basics.proofs.Tests.{by_case}
use Rattle.ops.specs.Syntax.{Op, Control, Plain, is_function, is_while}
use Rattle.ops.specs.Syntax.Control.{function, call, ret, while, if, else, end}
use Rattle.ops.specs.Syntax.Plain.{comment, store, move, swap, locate, offset, deref, refer, cell, lane, get, put, peek, poke, ffi_call, alloc, free}
use Rattle.ops.specs.Syntax.Op.{control, set, load, plain}
use Rattle.machine_model.specs.State.{State, Given, by_mark, lane0, go_to, on, with_table}
use Rattle.machine_model.specs.Scan.{op_at, brackets, to_open, marks}
use Rattle.machine_model.specs.Step.{Outcome, enter, jump, end_of, else_of, routine, found, back, again, turn, act, exec, op, step}
use Rattle.machine_model.specs.Step.Outcome.{finished, refused, next}
use Rattle.machine_model.specs.Passed.{passed}
use Rattle.machine_model.specs.Run.{drive, run}
use Rattle.machine_model.specs.Modes.{In, HoldsMarks, CallsMark, in_mode}
use Rattle.machine_model.proofs.Scans.{nth, nth_inside, nth_outside}
use Rattle.machine_model.proofs.Meant.{routine_is, by_mark_nth, full_nth, full_table, mark_in, each_in, entry_stays}
use Rattle.machine_model.proofs.Outcomes.{Gives, lack_gives, bar_gives, pick_gives, next_gives, refused_gives}
use Rattle.machine_model.proofs.Outcomes.Gives.{ended, stopped, goes}
use Rattle.machine_model.proofs.Effects.{Effect, step_does}
use Rattle.machine_model.proofs.Effects.Effect.{turns, acts}

-- ---- a step at a control op, from what the op gives

module _ (g : Given) (s : State) {N : ℕ → ℕ → Type 0} {P : State → Type 0} where
  pub turn_gives : {c : Control} → op g s ≡ control c → N 21 (length s.reg) → Gives (Unit {0}) N P (turn g c s) → Gives (Unit {0}) N P (step g s)
  unfolding step exec
  turn_gives is n h = pick_gives (λ _. ended tt) (λ _. lack_gives {o = exec g (op g s) s} 21 _ (λ _. n) (λ _. rw is h))

-- ---- by mark

module _ (g : Given) (mode : g.mode ≡ by_mark) (s : State) (is : op g s ≡ control call) where
  abbrev Lacks : ℕ → ℕ → Type 0
  Lacks n l = n ≡ 29 → length (marks g.ops) ≤ lane0 s

  found_mark : (r : Option ℕ) → nth (lane0 s) (marks g.ops) ≡ r → Gives (Unit {0}) Lacks (CallsMark g s) (found s r)
  found_mark none e =
      stopped (λ _. by_case (leb (length (marks g.ops)) (lane0 s)) (leb-true _ _)
      (λ l. clash (let w = nth_inside (lane0 s) (marks g.ops) (leb-false _ _ l) in cc)))
  found_mark (some m) e =
      by_case (ltb (lane0 s) (length (marks g.ops)))
      (λ l. let w = nth_inside (lane0 s) (marks g.ops) (ltb-true _ _ l) in
      let i : m ≡ get_or (marks g.ops) (lane0 s) 0 = cc in
      goes (record { many = ltb-true _ _ l; after = ap suc i; saved = refl; entered = ap (λ (x : ℕ). enter x s.table) i }))
      (λ l. clash (let w = nth_outside (lane0 s) (marks g.ops) (ltb-false _ _ l) in cc))

  call_mark : Gives (Unit {0}) Lacks (CallsMark g s) (step g s)
  unfolding turn
  call_mark =
      turn_gives g s is (λ e. clash (cc))
      (bar_gives 28 (λ _ e. clash (cc))
      (λ _. bar_gives 32 (λ _ e. clash (cc))
      (λ _. found_mark _ (sym (by_mark_nth g.mode s.table g.ops (lane0 s) (rw mode refl))))))

  -- the new mode's own sentence: for every table and every state
  pub by_mark_is_the_mark : (t : State) → step g s ≡ next t → CallsMark g s t
  by_mark_is_the_mark t e = next_gives (step g s) t call_mark e

  -- "29 where there are not so many marks"
  pub by_mark_lacks : (l : ℕ) → step g s ≡ refused 29 l → length (marks g.ops) ≤ lane0 s
  by_mark_lacks l e = refused_gives (step g s) 29 l call_mark e refl

-- ---- where the table holds every mark

module _ (g : Given) (s : State) (h : HoldsMarks g s) where
  entered_stays : (m : ℕ) → is_function (op_at g.ops m) ≡ true → enter m s.table ≡ s.table
  entered_stays m i = entry_stays m s.table h.rising (each_in (λ x. In x s.table) m (marks g.ops) h.every (mark_in g.ops m i))

  -- ---- the table stays

  abbrev Keeps : Outcome → Type 0
  Keeps = Gives (Unit {0}) (λ n l. Unit {0}) (λ t. t.table ≡ s.table)

  jump_keeps : (ts : List ℕ) → ts ≡ s.table → (r : Option ℕ) → Keeps (jump (with_table s ts) r)
  jump_keeps ts e none = stopped tt
  jump_keeps ts e (some p) = goes e

  found_keeps : (r : Option ℕ) → ((m : ℕ) → r ≡ some m → is_function (op_at g.ops m) ≡ true) → Keeps (found s r)
  found_keeps none i = stopped tt
  found_keeps (some m) i = goes (entered_stays m (i m refl))

  back_keeps : (cs : List ℕ) → Keeps (back s cs)
  back_keeps [] = goes refl
  back_keeps (c ∷ cs) = goes refl

  again_keeps : (r : Option ℕ) → Keeps (again g s r)
  again_keeps none = goes refl
  again_keeps (some w) = by (is_while (op_at g.ops w))
    where
      by : (b : Bool) → Keeps (next (cond b (go_to s (suc w)) (on s)))
      by true = goes refl
      by false = goes refl

  turn_keeps : (c : Control) → op g s ≡ control c → Keeps (turn g c s)
  unfolding turn op
  turn_keeps function is = jump_keeps _ (entered_stays s.at (ap is_function is)) (end_of g s)
  turn_keeps call is =
      bar_gives 28 (λ _. tt)
      (λ _. bar_gives 32 (λ _. tt) (λ _. found_keeps _ (routine_is g.ops g.mode s.table (lane0 s) h.marked)))
  turn_keeps ret is = back_keeps s.calls
  turn_keeps if is = pick_gives (λ _. jump_keeps _ refl (else_of g s)) (λ _. goes refl)
  turn_keeps while is = pick_gives (λ _. jump_keeps _ refl (end_of g s)) (λ _. goes refl)
  turn_keeps else is = jump_keeps _ refl (end_of g s)
  turn_keeps end is = pick_gives (λ _. goes refl) (λ _. again_keeps (to_open 0 (reverse (take s.at (brackets g.ops)))))

  effect_keeps : {Q : ℕ → Type 0} (o : Op) (t : State) → op g s ≡ o → step g s ≡ next t → Effect g Q s o t → t.table ≡ s.table
  effect_keeps _ _ is e (turns {c = c} j ts cs b k) = next_gives (step g s) _ (turn_gives g s is tt (turn_keeps c is)) e
  effect_keeps _ _ is e (acts p n r m rs ch i k os a l w z) = refl

  table_stays : (t : State) → step g s ≡ next t → t.table ≡ s.table
  unfolding op
  table_stays t e = effect_keeps (op g s) t refl e (next_gives (step g s) t (step_does g (λ j. Unit {0}) (λ j x. tt) s) e)

  -- ---- the modes

  module _ (m n : ℕ) where
    same_mark : routine m s.table g.ops (lane0 s) ≡ routine n s.table g.ops (lane0 s)
    same_mark =
        let e = full_table g.ops s.table h.rising h.marked h.every in
        full_nth m s.table g.ops (lane0 s) e ∙ sym (full_nth n s.table g.ops (lane0 s) e)

    again_agrees : (r : Option ℕ) → again (in_mode m g) s r ≡ again (in_mode n g) s r
    again_agrees none = refl
    again_agrees (some w) = refl

    turn_agrees : (c : Control) → turn (in_mode m g) c s ≡ turn (in_mode n g) c s
    unfolding turn
    turn_agrees function = refl
    turn_agrees call = rw same_mark refl
    turn_agrees ret = refl
    turn_agrees while = refl
    turn_agrees if = refl
    turn_agrees else = refl
    turn_agrees end = rw (again_agrees (to_open 0 (reverse (take s.at (brackets g.ops))))) refl

    act_agrees : (p : Plain) → act (in_mode m g) p s ≡ act (in_mode n g) p s
    unfolding act
    act_agrees (comment bs) = refl
    act_agrees (store k) = refl
    act_agrees (move k) = refl
    act_agrees (swap k) = refl
    act_agrees locate = refl
    act_agrees (offset v k) = refl
    act_agrees deref = refl
    act_agrees refer = refl
    act_agrees (cell o k) = refl
    act_agrees (lane o k) = refl
    act_agrees (get o) = refl
    act_agrees (put o) = refl
    act_agrees peek = refl
    act_agrees poke = refl
    act_agrees (ffi_call b) = refl
    act_agrees alloc = refl
    act_agrees free = refl

    exec_agrees : (o : Op) → exec (in_mode m g) o s ≡ exec (in_mode n g) o s
    unfolding exec
    exec_agrees (control c) = turn_agrees c
    exec_agrees (set k vs) = refl
    exec_agrees (load k) = refl
    exec_agrees (plain p) = act_agrees p

    -- "where the table already holds every mark, the modes agree"
    pub modes_agree : step (in_mode m g) s ≡ step (in_mode n g) s
    unfolding step op
    modes_agree = rw (exec_agrees (op_at g.ops s.at)) refl

-- ---- a run

module _ (g : Given) (m n : ℕ) where
  holds_on : (s t : State) → HoldsMarks g s → t.table ≡ s.table → HoldsMarks g t
  holds_on s t h e =
      record {
        rising = rw e h.rising;
        marked = rw e h.marked;
        every = rw e h.every;
      }

  drive_agrees : (b k : ℕ) (s : State) (o : Outcome) → HoldsMarks g s → step (in_mode m g) s ≡ o → drive (in_mode m g) b k s o ≡ drive (in_mode n g) b k s o
  unfolding drive passed
  drive_agrees zero k s finished h e = refl
  drive_agrees zero k s (refused x l) h e = refl
  drive_agrees zero k s (next t) h e = refl
  drive_agrees (suc b) k s finished h e = refl
  drive_agrees (suc b) k s (refused x l) h e = refl
  drive_agrees (suc b) k s (next t) h e =
      let u = passed g t in
      let w : HoldsMarks g u = holds_on s u h (table_stays (in_mode m g) s (record { rising = h.rising; marked = h.marked; every = h.every }) t e) in
      drive_agrees b (suc k) u (step (in_mode m g) u) w refl ∙ ap (drive (in_mode n g) b (suc k) u) (modes_agree g u w m n)

  -- "and so is a run from such a state"
  pub runs_agree : (b : ℕ) (s : State) → HoldsMarks g s → run (in_mode m g) b s ≡ run (in_mode n g) b s
  unfolding run passed
  runs_agree b s h =
      let u = passed g s in
      let w : HoldsMarks g u = holds_on s u h refl in
      drive_agrees b 0 u (step (in_mode m g) u) w refl ∙ ap (drive (in_mode n g) b 0 u) (modes_agree g u w m n)
