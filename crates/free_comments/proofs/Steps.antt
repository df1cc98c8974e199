-- A step of a patch with a comment and without it, at another op: the same step, with the places moved. Assumes nothing.
use Prim.Native.Nat.{ℕ, zero, suc, ◌<◌}
use native.Mathlib.Nat.{le_of_suc-le-suc, not-suc-le-zero}
use native.Mathlib.Omega.{arith}
use borrow.Author.Tests.{ltb-true, ltb-false, eqb-true, eqb-false, lt-ltb, le-ltb, eq-eqb, ne_eqb}
use mathlib.Core.Path.{◌≡◌, refl, ap, ap₂, sym, ◌∙◌}
use mathlib.Core.Bool.{Bool, true, false, cond, ◌||◌, ◌&&◌}
use mathlib.Core.List.{List, [], ◌∷◌, ◌++◌, map, map-append}
use mathlib.Core.Option.{Option, none, some}
use lib.Dec.{leb, ltb, eqb}
use lib.ListN.{length, take, get_or}
use lib.Seq.{get_or-append_seam}
use Rattle.basics.proofs.Clash.{clash}
use Rattle.basics.proofs.Tests.{by_case, and_right}
use Rattle.ops.specs.Syntax.{Op, Control, Plain, is_function, is_while}
use Rattle.ops.specs.Syntax.Control.{function, call, ret, while, if, else, end}
use Rattle.ops.specs.Syntax.Plain.{comment, store, move, swap, locate, offset, deref, refer, cell, lane, get, put, peek, poke, ffi_call, alloc, free}
use Rattle.ops.specs.Syntax.Op.{control, set, load, plain}
use Rattle.std.specs.Prelude.{Some, None}
use Rattle.testing_device.specs.Device.{Got, get_of}
use Rattle.machine_model.specs.State.{State, Given, given, rust_table, lane0, go_to, with_table, with_calls, on}
use Rattle.machine_model.specs.Scan.{op_at}
use Rattle.machine_model.specs.Step.{Outcome, lack, bar, pick, minus, enter, jump, end_of, routine, found, back, again, turn, refer_to, move_by, gotten, peek_at, act, exec, op, step}
use Rattle.machine_model.specs.Step.Outcome.{finished, refused, next}
use Rattle.machine_model.specs.Formed.{Each}
use Rattle.machine_model.proofs.Each.{each_at}
use Rattle.machine_model.proofs.Scans.{is_control, Landing}
use Rattle.machine_model.proofs.Meant.{routine_is}
use Rattle.machine_model.proofs.Effects.{Places}
use Rattle.free_comments.specs.Free.{skip, placed}
use Rattle.free_comments.proofs.Skips.{skip_suc, skip_rises, at_skip}
use Rattle.free_comments.proofs.Searches.{Met, same_over, same_mark, same_end, same_else, same_open}
use Rattle.free_comments.proofs.Searches.Met.{lost, hit}

-- ---- outcomes

-- what a step gives, with its places moved
abbrev pub sent : (ℕ → ℕ) → Outcome → Outcome
sent f finished = finished
sent f (refused n l) = refused n l
sent f (next t) = next (placed f t)

module _ (f : ℕ → ℕ) where
  lack_sent : (b : Bool) (n l : ℕ) (o o' : Outcome) → o' ≡ sent f o → lack b n l o' ≡ sent f (lack b n l o)
  unfolding lack
  lack_sent true n l o o' h = refl
  lack_sent false n l o o' h = h

  bar_sent : (b : Bool) (n : ℕ) (o o' : Outcome) → o' ≡ sent f o → bar b n o' ≡ sent f (bar b n o)
  unfolding bar
  bar_sent b n o o' h = lack_sent b n 0 o o' h

  pick_sent : (b : Bool) (x y x' y' : Outcome) → (b ≡ true → x' ≡ sent f x) → (b ≡ false → y' ≡ sent f y) → pick b x' y' ≡ sent f (pick b x y)
  unfolding pick
  pick_sent true x y x' y' h k = h refl
  pick_sent false x y x' y' h k = k refl

  -- ---- the plain ops, where the next place goes to the next

  module _ (s : State) (onto : f (suc s.at) ≡ suc (f s.at)) where
    move_sent : (m : ℕ) (b : Bool) → move_by (placed f s) m b ≡ sent f (move_by s m b)
    move_sent m true = bar_sent _ 24 _ _ cc
    move_sent m false = bar_sent _ 25 _ _ cc

    refer_sent : (rs : List ℕ) → refer_to (placed f s) rs ≡ sent f (refer_to s rs)
    refer_sent [] = refl
    refer_sent (c ∷ cs) = cc

    get_sent : (v : Got) → gotten (placed f s) v ≡ sent f (gotten s v)
    get_sent None = refl
    get_sent (Some t) = cc

    peek_sent : (vs : List ℕ) → peek_at (placed f s) vs ≡ sent f (peek_at s vs)
    peek_sent [] = refl
    peek_sent (v ∷ vs) = cc

    module _ (os os' : List Op) (mode : ℕ) (input : List ℕ) (room : ℕ) where
      act_sent : (p : Plain) → act (given os' mode input room) p (placed f s) ≡ sent f (act (given os mode input room) p s)
      unfolding act
      act_sent (comment bs) = cc
      act_sent (store n) = lack_sent _ 23 _ _ _ cc
      act_sent (move m) = move_sent m (minus m)
      act_sent (swap n) = lack_sent _ 22 _ _ _ (lack_sent _ 23 _ _ _ cc)
      act_sent locate = cc
      act_sent (offset v n) = cc
      act_sent deref = bar_sent _ 32 _ _ (bar_sent _ 23 _ _ (bar_sent _ 26 _ _ (bar_sent _ 25 _ _ cc)))
      act_sent refer = refer_sent s.refs
      act_sent (cell k n) = lack_sent _ 22 _ _ _ (lack_sent _ 23 _ _ _ cc)
      act_sent (lane k n) = cc
      act_sent (get m) = get_sent (get_of m input s.taken)
      act_sent (put m) = bar_sent _ 36 _ _ cc
      act_sent peek = peek_sent s.channel
      act_sent poke = bar_sent _ 34 _ _ cc
      act_sent (ffi_call b) = bar_sent _ 33 _ _ cc
      act_sent alloc = bar_sent _ 30 _ _ cc
      act_sent free = cc

-- ---- lists

module _ (f : ℕ → ℕ) where
  map_take : (n : ℕ) (xs : List ℕ) → map f (take n xs) ≡ take n (map f xs)
  map_take zero xs = refl
  map_take (suc n) [] = refl
  map_take (suc n) (x ∷ xs) = ap (λ (l : List ℕ). f x ∷ l) (map_take n xs)

  map_length : (xs : List ℕ) → length (map f xs) ≡ length xs
  map_length [] = refl
  map_length (x ∷ xs) = ap suc (map_length xs)

  map_at : (xs : List ℕ) (i : ℕ) → i < length xs → get_or (map f xs) i 0 ≡ f (get_or xs i 0)
  map_at [] i h = absurd (not-suc-le-zero h)
  map_at (x ∷ xs) zero h = refl
  map_at (x ∷ xs) (suc i) h = map_at xs i (le_of_suc-le-suc h)

-- ---- the patch

module _ (A : List Op) (bs : List ℕ) (B : List Op) where
  abbrev a : ℕ
  a = length A

  abbrev os : List Op
  os = A ++ plain (comment bs) ∷ B

  abbrev os' : List Op
  os' = A ++ B

  abbrev f : ℕ → ℕ
  f = skip a

  same_op : (i : ℕ) → (i ≡ a → ⊥) → op_at os' (f i) ≡ op_at os i
  same_op i n = at_skip A (plain (comment bs)) B _ i n

  -- an op of another kind than a comment is at another place
  not_there : (t : Op → Bool) → t (plain (comment bs)) ≡ false → (i : ℕ) → t (op_at os i) ≡ true → i ≡ a → ⊥
  not_there t n i e q =
      clash (let z : t (plain (comment bs)) ≡ true = ap t (sym (ap (op_at os) q ∙ get_or-append_seam A (plain (comment bs)) B _)) ∙ e in cc)

  pub not_mark : (i : ℕ) → is_function (op_at os i) ≡ true → i ≡ a → ⊥
  not_mark = not_there is_function refl

  pub not_landing : (i : ℕ) → Landing os i → i ≡ a → ⊥
  not_landing = not_there is_control refl

  -- the table is sorted before and after
  entered : (p : ℕ) (ts : List ℕ) → is_function (op_at os p) ≡ true → Each (λ m. is_function (op_at os m) ≡ true) ts → enter (f p) (map f ts) ≡ map f (enter p ts)
  unfolding enter
  entered p [] m h = refl
  entered p (q ∷ qs) m h = by (ltb p q) (eqb p q) refl refl (entered p qs m h.1)
    where
      by : (b c : Bool) → ltb p q ≡ b → eqb p q ≡ c → enter (f p) (map f qs) ≡ map f (enter p qs)
          → enter (f p) (map f (q ∷ qs)) ≡ map f (cond b (p ∷ q ∷ qs) (cond c (q ∷ qs) (q ∷ enter p qs)))
      by true c e z i = rw (lt-ltb (f p) (f q) (skip_rises a p q (not_mark p m) (ltb-true p q e) (not_mark q h.0))) refl
      by false true e z i = rw (eqb-true p q z, le-ltb (f q) (f q) (omega arith), eq-eqb (f q) (f q) refl) refl
      by false false e z i =
          let k : p ≡ q → ⊥ = eqb-false p q z in
          let w : f q < f p = skip_rises a q p (not_mark q h.0) (omega (arith, ltb-false p q e)) (not_mark p m) in
          rw (le-ltb (f p) (f q) (omega arith), ne_eqb (f p) (f q) (λ x. omega arith)) (ap (λ (x : List ℕ). f q ∷ x) i)

  -- past what a search finds
  jump_sent : (u : State) (o o' : Option ℕ) → Met a o o' → jump (placed f u) o' ≡ sent f (jump u o)
  jump_sent u none none lost = refl
  jump_sent u none (some j') x = elim x [ ]
  jump_sent u (some j) none x = elim x [ ]
  jump_sent u (some j) (some j') (hit n e) = ap (λ (p : ℕ). next (go_to (placed f u) p)) (ap suc e ∙ sym (skip_suc a j n))

  module _ (mode : ℕ) (input : List ℕ) (room : ℕ) (s : State) (places : Places os (Landing os) s.calls s.table) (off : s.at ≡ a → ⊥) where
    abbrev g : Given
    g = given os mode input room

    abbrev g' : Given
    g' = given os' mode input room

    abbrev s' : State
    s' = placed f s

    onto : f (suc s.at) ≡ suc (f s.at)
    onto = skip_suc a s.at off

    onward : next (on s') ≡ next (placed f (on s))
    onward = let e = onto in cc

    -- ---- the control ops

    -- which mark is meant, and its call
    routine_met : Met a (routine mode s.table os (lane0 s)) (routine mode (map f s.table) os' (lane0 s))
    unfolding routine pick
    routine_met =
        rw (map_length f s.table)
        (by_case (eqb mode rust_table && ltb (lane0 s) (length s.table))
        (λ e. let l : lane0 s < length s.table = ltb-true _ _ (and_right (eqb mode rust_table) _ e) in
        rw e (hit (not_mark _ (each_at (λ m. is_function (op_at os m) ≡ true) s.table (lane0 s) l places.marked)) (map_at f s.table (lane0 s) l)))
        (λ e. rw e (same_mark A bs B (lane0 s))))

    found_sent : (o o' : Option ℕ) → Met a o o' → ((m : ℕ) → o ≡ some m → is_function (op_at os m) ≡ true) → found s' o' ≡ sent f (found s o)
    found_sent none none lost h = refl
    found_sent none (some m') x h = elim x [ ]
    found_sent (some m) none x h = elim x [ ]
    found_sent (some m) (some m') (hit n e) h =
        let p : suc m' ≡ f (suc m) = ap suc e ∙ sym (skip_suc a m n) in
        let q = map-append f s.calls (s.at ∷ []) in
        let r = ap (λ (x : ℕ). enter x (map f s.table)) e ∙ entered m s.table (h m refl) places.marked in cc

    back_sent : (cs : List ℕ) → Each (Landing os) cs → back s' (map f cs) ≡ sent f (back s cs)
    back_sent [] h = let e = onto in cc
    back_sent (c ∷ cs) h =
        let l : length cs < length (c ∷ cs) = omega arith in
        let n = not_landing (get_or (c ∷ cs) (length cs) 0) (each_at (Landing os) (c ∷ cs) (length cs) l h) in
        rw (map_length f cs)
        (ap₂ (λ (p : ℕ) (x : List ℕ). next (with_calls (go_to s' p) x))
        (ap suc (map_at f (c ∷ cs) (length cs) l) ∙ sym (skip_suc a (get_or (c ∷ cs) (length cs) 0) n)) (sym (map_take f (length cs) (c ∷ cs))))

    again_sent : (o o' : Option ℕ) → Met a o o' → again g' s' o' ≡ sent f (again g s o)
    again_sent none none lost = onward
    again_sent none (some w') x = elim x [ ]
    again_sent (some w) none x = elim x [ ]
    again_sent (some w) (some w') (hit n e) =
        ap (λ (o : Op). next (cond (is_while o) (go_to s' (suc w')) (on s'))) (ap (op_at os') e ∙ same_op w n) ∙ by (is_while (op_at os w))
      where
        by : (b : Bool) → next (cond b (go_to s' (suc w')) (on s')) ≡ next (placed f (cond b (go_to s (suc w)) (on s)))
        by true = jump_sent s (some w) (some w') (hit n e)
        by false = onward

    turn_sent : (c : Control) → op_at os s.at ≡ control c → turn g' c s' ≡ sent f (turn g c s)
    unfolding turn
    turn_sent function is =
        ap (λ (ts : List ℕ). jump (with_table s' ts) (end_of g' s')) (entered s.at s.table (ap is_function is) places.marked)
        ∙ jump_sent (with_table s (enter s.at s.table)) _ _ (same_end A bs B s.at off)
    turn_sent call is = rw (map_length f s.calls) (bar_sent f _ 28 _ _ (bar_sent f _ 32 _ _ (found_sent _ _ routine_met (routine_is os mode s.table (lane0 s) places.marked))))
    turn_sent ret is = back_sent s.calls places.saved
    turn_sent while is = pick_sent f _ _ _ _ _ (λ e. jump_sent s _ _ (same_end A bs B s.at off)) (λ e. onward)
    turn_sent if is = pick_sent f _ _ _ _ _ (λ e. jump_sent s _ _ (same_else A bs B s.at off)) (λ e. onward)
    turn_sent else is = jump_sent s _ _ (same_end A bs B s.at off)
    turn_sent end is = pick_sent f _ _ _ _ _ (λ e. onward) (λ e. again_sent _ _ (same_open A bs B s.at))

    -- ---- any op

    exec_sent : (o : Op) → op_at os s.at ≡ o → exec g' o s' ≡ sent f (exec g o s)
    unfolding exec
    exec_sent (control c) is = turn_sent c is
    exec_sent (set k vs) is = let e = onto in cc
    exec_sent (load n) is = lack_sent f _ 23 _ _ _ (let e = onto in cc)
    exec_sent (plain p) is = act_sent f s onto os os' mode input room p

    pub step_sent : step g' s' ≡ sent f (step g s)
    unfolding step op
    step_sent =
        rw (same_over A bs B s.at off, same_op s.at off)
        (pick_sent f (s.halted || leb (length os) s.at) _ _ _ _ (λ e. refl)
        (λ e. lack_sent f _ 21 _ _ _ (exec_sent (op_at os s.at) refl)))
