-- Function, Call, Return, While, If, Else and End are the model's, laid. Assumes nothing.
use mathlib.Core.Path.{◌≡◌, ◌∙◌, refl, ap, sym}
use mathlib.Core.Bool.{Bool, true, ◌&&◌}
use mathlib.Core.List.{List, [], ◌∷◌, ◌++◌, map, reverse}
use mathlib.Core.Option.{Option, none, some}
use Prim.Native.Nat.{ℕ, suc, ◌+◌, ◌-◌, ◌^◌, ◌≤◌, ◌<◌}
use native.Mathlib.Omega.{arith}
use native.Mathlib.Numerals.{add-one}
use lib.Dec.{leb, ltb, eqb}
use lib.ListN.{length, get_or, take, drop, length-drop, length-map, get_or-eq_default}
use lib.ListN
use lib.Seq.{get_or-take, length-take-le, take-append_seam}
use borrow.Author.Tests.{leb-true, leb-false, le-leb, lt-leb, ltb-true, le-ltb, eqb-true, eqb-false}
use Rattle.basics.specs.Limits.{most_ops}
use Rattle.basics.proofs.Tests.{by_case, and_right}
use Rattle.byte_fields.specs.Storage.{fill}
use Rattle.ops.specs.Syntax.{Op, Bracket, is_while}
use Rattle.ops.specs.Syntax.Control.{function, call, ret, while, if, else, end}
use Rattle.machine_model.specs.State.{State, Given, lane0, go_to, on, with_table, with_calls, halt}
use Rattle.machine_model.specs.Scan.{op_at, brackets, functions, to_end, to_else, to_open, kth}
use Rattle.machine_model.specs.Step.{turn, pick, bar, jump, routine, found, back, again, enter}
use Rattle.machine_model.specs.Step.Outcome.{next}
use Rattle.machine_model.specs.Formed.{Formed, Marked}
use Rattle.machine_model.specs.Limited.{count}
use Rattle.machine_model.proofs.Scans.{end_below, else_below, function_below, kth_is}
use Rattle.machine_model.proofs.Table.{each_enter, rising_enter, marks_few}
use Rattle.machine_model.proofs.Meant.{in_at, entry_stays}
use Rattle.machine_model.proofs.Stacks.{pushed, back_popped}
use Rattle.machine_numbers.specs.Numbers as m
use Rattle.partners.specs.Columns.{row_bracket, row_function, nowhere, place, end_of, else_of, open_of, mark_of}
use Rattle.searches.specs.Found.{entry, entered_in, counted_in}
use Rattle.control_ops.specs.Control.{jump_of, function_of, asks_table, call_of, ret_of, while_of, if_of, elses_of, ends_of, in_table}
use Rattle.machine_step.specs.Held.{Held, held, steering}
use Rattle.bridge.specs.View.{view, laid}
use Rattle.bridge.specs.Fits.{Counted}
use Rattle.bridge.proofs.Lists.{Laid, laid_same, laid_push, laid_fill}
use Rattle.bridge.proofs.Over.{over_same, over_num, over_calls, went, meets}

-- the rows ks are to the searches what the ops are
pub record Rows (os : List Op) (ks : List ℕ) : Type 0 where
  pub many : length os ≡ length ks
  pub few : length ks ≤ most_ops
  pub marked : brackets os ≡ map row_bracket ks
  pub entered : functions os ≡ map row_function ks
  pub looped : (j : ℕ) → is_while (op_at os j) ≡ eqb (get_or ks j 0) 5

module _ (g : Given) (ks : List ℕ) (r : Rows g.ops ks) (c : Held) (h : Counted c) where
  -- the value that stands for no place is none
  no_place : leb (length ks) nowhere ≡ true
  no_place = le-leb (length ks) nowhere (omega (arith, r.few))

  -- on to the op after v
  go_is : (v : ℕ) → went (held (m.at_position c.numbers (v + 1)) c.calls c.refs c.register c.tape c.table c.channel c.output) ≡ laid c (next (go_to (view c) (suc v)))
  go_is v = meets c _ _ (over_num c h _ _ _ _ _ _) (rw (add-one v) refl)

  -- past the partner that a search gives, or 20
  jump_is : (x : Option ℕ) → ((j : ℕ) → x ≡ some j → j < length ks)
      → steering c (m.steered (jump_of ks c.numbers (place x)) c.calls c.table) ≡ laid c (jump (view c) x)
  unfolding jump_of pick
  jump_is none b = rw (no_place) refl
  jump_is (some j) b = rw (lt-leb (length ks) j (b j refl)) (go_is j)

  -- a search over the marks that follow the position, which gives a place before their end
  module _ (to : ℕ → ℕ → List Bracket → Option ℕ) (below : (p d : ℕ) (ms : List Bracket) (j : ℕ) → to p d ms ≡ some j → j < p + length ms)
      (here : c.numbers.position < length ks) where
    partner : (j : ℕ) → to (suc c.numbers.position) 0 (drop (suc c.numbers.position) (map row_bracket ks)) ≡ some j → j < length ks
    partner j e =
        let i = suc c.numbers.position in
        omega (arith, below i 0 (drop i (map row_bracket ks)) j e, length-drop i (map row_bracket ks), length-map ks row_bracket)

    skip_is : steering c (m.steered (jump_of ks c.numbers (place (to (c.numbers.position + 1) 0 (drop (c.numbers.position + 1) (map row_bracket ks))))) c.calls c.table)
        ≡ laid c (jump (view c) (to (suc c.numbers.position) 0 (drop (suc c.numbers.position) (brackets g.ops))))
    skip_is = let i = suc c.numbers.position in rw (add-one c.numbers.position, r.marked) (jump_is (to i 0 (drop i (map row_bracket ks))) partner)

    -- the same where lane 0 is zero
    skip_at_zero : 0 < c.numbers.lanes
        → steering c (m.steered (pick (eqb (get_or c.register 0 0) 0) (jump_of ks c.numbers (place (to (c.numbers.position + 1) 0 (drop (c.numbers.position + 1) (map row_bracket ks))))) (m.answered 0 (m.next c.numbers))) c.calls c.table)
        ≡ laid c (pick (eqb (lane0 (view c)) 0) (jump (view c) (to (suc c.numbers.position) 0 (drop (suc c.numbers.position) (brackets g.ops)))) (next (on (view c))))
    unfolding pick
    skip_at_zero w =
        let l = get_or-take c.numbers.lanes c.register 0 0 w in
        by_case (eqb (get_or c.register 0 0) 0)
        (λ e. rw (l, e) skip_is)
        (λ e. rw (l, e) (go_is c.numbers.position))

  module _ (here : c.numbers.position < length ks) where
    pub while_is : 0 < c.numbers.lanes → steering c (m.steered (while_of ks c.numbers c.register) c.calls c.table) ≡ laid c (turn g while (view c))
    unfolding while_of end_of turn
    while_is w = skip_at_zero to_end end_below here w

    pub if_is : 0 < c.numbers.lanes → steering c (m.steered (if_of ks c.numbers c.register) c.calls c.table) ≡ laid c (turn g if (view c))
    unfolding if_of else_of turn
    if_is w = skip_at_zero to_else else_below here w

    pub else_is : steering c (m.steered (elses_of ks c.numbers) c.calls c.table) ≡ laid c (turn g else (view c))
    unfolding elses_of end_of turn
    else_is = skip_is to_end end_below here

  -- ---- End

  again_is : (x : Option ℕ)
      → steering c (m.steered (pick (leb (length ks) (place x)) (m.answered 0 (m.next c.numbers)) (pick (eqb (get_or ks (place x) 0) 5) (m.answered 0 (m.at_position c.numbers (place x + 1))) (m.answered 0 (m.next c.numbers)))) c.calls c.table)
      ≡ laid c (again g (view c) x)
  unfolding pick
  again_is none = rw (no_place) (go_is c.numbers.position)
  again_is (some j) =
      by_case (leb (length ks) j)
      (λ e. let b = leb-true (length ks) j e in
      rw (e, r.looped j, get_or-eq_default ks 0 b) (go_is c.numbers.position))
      (λ e. by_case (eqb (get_or ks j 0) 5)
      (λ f. rw (e, r.looped j, f) (go_is j))
      (λ f. rw (e, r.looped j, f) (go_is c.numbers.position)))

  pub end_is : 0 < c.numbers.lanes → steering c (m.steered (ends_of ks c.numbers c.register) c.calls c.table) ≡ laid c (turn g end (view c))
  unfolding ends_of open_of pick turn
  end_is w =
      let l = get_or-take c.numbers.lanes c.register 0 0 w in
      by_case (eqb (get_or c.register 0 0) 0)
      (λ e. rw (l, e) (go_is c.numbers.position))
      (λ e. rw (l, e, r.marked) (again_is (to_open 0 (reverse (take c.numbers.position (map row_bracket ks))))))

  -- ---- Return

  none_saved : (s : State) (l : List ℕ) (n : ℕ) → n ≡ 0 → back s (take n l) ≡ next (halt (on s))
  none_saved s l n e = rw e refl

  pub ret_is : steering c (m.steered (ret_of c.numbers c.calls) c.calls c.table) ≡ laid c (turn g ret (view c))
  unfolding ret_of pick turn
  ret_is =
      let d = c.numbers.depth in let z = h.depth in let q = h.call_room in let o = over_same c h in
      by_case (eqb d 0)
      (λ e. rw (e, none_saved (view c) c.calls d (eqb-true d 0 e)) (meets c _ _ (over_calls c h _ _ _ _ _ _ o.calls o.table) (rw (add-one c.numbers.position) refl)))
      (λ e. let k : 0 < d = omega (arith, eqb-false d 0 e) in let b : d ≤ length c.calls = omega arith in
      rw (e, back_popped (view c) c.calls d k b)
      (meets c _ _ (over_calls c h _ _ _ _ _ _ (laid_same (d - 1) c.calls (omega arith)) o.table) (rw (add-one (get_or c.calls (d - 1) 0)) refl)))

  -- ---- Function and Call

  module _ (f : Formed g (view c)) (few : count (functions g.ops) ≤ 256) where
    -- the table has room for a mark
    room : (v : ℕ) → Marked g v → length (entry v c.numbers.functions c.table) ≤ length c.table
    room v k =
        let t = take c.numbers.functions c.table in
        omega (arith, marks_few g (enter v t) (rising_enter v t f.rising) (each_enter (Marked g) v t k f.marked), few, h.tabled)

    counted_is : (v : ℕ) → Marked g v → counted_in v c.numbers.functions c.table ≡ length (entry v c.numbers.functions c.table)
    unfolding counted_in pick
    counted_is v k = rw (le-ltb (length c.table) (length (entry v c.numbers.functions c.table)) (room v k)) refl

    entered_is : (v : ℕ) → Marked g v → entered_in v c.numbers.functions c.table ≡ entry v c.numbers.functions c.table ++ drop (length (entry v c.numbers.functions c.table)) c.table
    unfolding entered_in fill pick
    entered_is v k = rw (le-ltb (length c.table) (length (entry v c.numbers.functions c.table)) (room v k)) refl

    -- a mark entered in the table, and the calls xs
    enter_went : (v at d : ℕ) (cs xs : List ℕ) → Marked g v → Laid d c.calls cs → take d cs ≡ xs
        → went (held (m.at_position (m.of_functions (m.of_depth c.numbers d) (counted_in v c.numbers.functions c.table)) (at + 1)) cs c.refs c.register c.tape (entered_in v c.numbers.functions c.table) c.channel c.output)
        ≡ laid c (next (with_table (with_calls (go_to (view c) (suc at)) xs) (enter v (view c).table)))
    enter_went v at d cs xs k l q =
        let e = entry v c.numbers.functions c.table in
        rw (counted_is v k, entered_is v k)
        (meets c _ _ (over_calls c h _ _ _ _ _ _ l (laid_fill e c.table (length e) refl (room v k)))
        (rw (take-append_seam e (drop (length e) c.table), q, add-one at) refl))

    function_by : (at : ℕ) → Marked g at → (x : Option ℕ) → ((j : ℕ) → x ≡ some j → j < length ks)
        → steering c (in_table c.calls (pick (leb (length ks) (place x)) (m.one_list (m.answered 20 c.numbers) c.table) (m.one_list (m.answered 0 (m.at_position (m.of_functions c.numbers (counted_in at c.numbers.functions c.table)) (place x + 1))) (entered_in at c.numbers.functions c.table))))
        ≡ laid c (jump (with_table (view c) (enter at (view c).table)) x)
    unfolding pick
    function_by at k none b = rw (no_place) refl
    function_by at k (some j) b = rw (lt-leb (length ks) j (b j refl)) (enter_went at j c.numbers.depth c.calls (view c).calls k (over_same c h).calls refl)

    pub function_is : c.numbers.position < length ks → Marked g c.numbers.position
        → steering c (in_table c.calls (function_of ks c.numbers c.table)) ≡ laid c (turn g function (view c))
    unfolding function_of end_of turn
    function_is here k =
        let i = suc c.numbers.position in
        rw (add-one c.numbers.position, r.marked) (function_by c.numbers.position k (to_end i 0 (drop i (map row_bracket ks))) (partner to_end end_below here))

    found_by : (x : Option ℕ) → ((j : ℕ) → x ≡ some j → Marked g j) → c.numbers.depth < 256
        → steering c (pick (leb (length ks) (place x)) (m.steered (m.answered 29 c.numbers) c.calls c.table)
        (m.steered (m.answered 0 (m.at_position (m.of_functions (m.of_depth c.numbers (c.numbers.depth + 1)) (counted_in (place x) c.numbers.functions c.table)) (place x + 1)))
        (lib.ListN.set c.calls c.numbers.depth c.numbers.position) (entered_in (place x) c.numbers.functions c.table)))
        ≡ laid c (found (view c) x)
    unfolding pick
    found_by none k b = rw (no_place) refl
    found_by (some j) k b =
        let d = c.numbers.depth in let at = c.numbers.position in
        let q = h.call_room in let y : d < length c.calls = omega arith in
        let l : j < length ks = omega (arith, function_below g.ops j (k j refl), r.many) in
        rw (lt-leb (length ks) j l)
        (enter_went j j (d + 1) (lib.ListN.set c.calls d at) ((view c).calls ++ (at ∷ [])) (k j refl) (laid_push c.calls d at y) (pushed c.calls d at y))

    pub call_is : g.mode ≡ c.numbers.mode → 0 < c.numbers.lanes
        → steering c (call_of ks c.numbers c.calls c.register c.table) ≡ laid c (turn g call (view c))
    unfolding call_of asks_table mark_of pick turn routine bar
    call_is mode w =
        let v = get_or c.register 0 0 in let d = c.numbers.depth in let u = c.numbers.functions in let at = c.numbers.position in
        let z = h.call_room in let o = over_same c h in
        let l = get_or-take c.numbers.lanes c.register 0 0 w in
        let q = length-take-le d c.calls (let y = h.depth in omega arith) in
        let t = length-take-le u c.table h.functions in
        by_case (leb (2 ^ 63) v)
        (λ e. rw (l, e) refl)
        (λ e. by_case (leb 256 d)
        (λ i. rw (l, e, q, i) refl)
        (λ i. let b = leb-false 256 d i in let y : d < length c.calls = omega arith in
        by_case (eqb c.numbers.mode 0 && ltb v u)
        (λ j. let k = ltb-true v u (and_right (eqb c.numbers.mode 0) _ j) in
        let there = entry_stays (get_or (view c).table v 0) (view c).table f.rising (in_at (view c).table v (omega arith)) in
        rw (mode, l, e, q, i, t, j, there, get_or-take u c.table v 0 k)
        (meets c _ _ (over_calls c h _ _ _ _ _ _ (laid_push c.calls d at y) o.table) (rw (pushed c.calls d at y, add-one (get_or c.table v 0)) refl)))
        (λ j. rw (mode, l, e, q, i, t, j)
        (found_by (kth 0 v (map row_function ks)) (λ j e. kth_is g.ops v j (rw r.entered e)) b
        ∙ ap (λ (bs : List Bool). laid c (found (view c) (kth 0 v bs))) (sym r.entered)))))
