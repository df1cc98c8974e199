-- What the stack stands for: an entry is an op, and the push of an entry is the push of its op. Assumes nothing.
use mathlib.Core.Path.{◌≡◌, refl, ap, ap₂, sym, ◌∙◌}
use Prim.Native.Nat.{ℕ, zero, suc, ◌-◌, ◌<◌, ◌≤◌}
use native.Mathlib.Omega.{arith}
use mathlib.Core.Bool.{Bool, true, false, cond, ◌&&◌}
use mathlib.Core.List.{List, [], ◌∷◌, map, map-append, reverse}
use lib.Dec.{eqb, ltb}
use lib.ListN.{length, get_or, take}
use lib.Seq.{take-suc, take-length}
use borrow.Author.Tests.{eqb-true, eqb-false, eq-eqb, ne_eqb, ltb-false}
use Rattle.lanes.specs.Int.{int_add, int_gez}
use Rattle.kind_table.specs.Kinds.{index_of}
use Rattle.byte_fields.specs.Bytes.{u64_at, values_at}
use Rattle.ops.specs.Patch.{Item, item, patch_of}
use Rattle.ops.specs.Decode.{rows, row_at, op_with, op_at, op_count}
use Rattle.ops.specs.Syntax.{Op, kind_of, arg_of, values_of}
use Rattle.ops.specs.Syntax.Plain.{move}
use Rattle.ops.specs.Syntax.Sort.{ints}
use Rattle.ops.specs.Syntax.Op.{set, plain}
use Rattle.byte_fields.proofs.ValuesAt.{length_values}
use Rattle.file_laws.proofs.Items.{IsItem, item_at_lem}
use Rattle.file_laws.proofs.Meaning.{means}
use Rattle.joining.specs.Join.{Rule, total, tested, rule, moved, react, op, pushes, join}
use Rattle.joining.specs.Join.Rule.{push, skip, pop, again, under, sum}
use Rattle.joining.specs.declared.met.Met.{Met}
use Rattle.joining.specs.declared.met.Met.TheVariants.{Push, Skip, Pop, Again, Test, Under, Sum}
use Rattle.joining.specs.Source.{item_at, Holds}
use Rattle.joining.specs.Stack.{entry, valued, value_of, cells, tests, meet, met, moved_on, react_on, push_on, entry_at, after, op_within, op_of, Within}
use Rattle.joining.specs.declared.entry.Entry.{Entry}
use Rattle.joining.proofs.Settled.{pushes_snoc}

-- ---- what the code knows of an op

-- its kind, where it is a core kind; what a Store, a Load or a gez counts; a Move's value; a Set's count, and its value if it is one
pub record Is (o : Op) (k n v : ℕ) : Type 0 where
  pub kind : (c : ℕ) → c < 40 → eqb (kind_of o) c ≡ eqb k c
  pub moves : k ≡ 11 → arg_of o ≡ v
  pub stores : k ≡ 9 → arg_of o ≡ n
  pub loads : k ≡ 10 → arg_of o ≡ n
  pub gez : k ≡ 37 → arg_of o ≡ n
  pub values : k ≡ 1 → length (values_of o) ≡ n
  pub one : k ≡ 1 → n ≡ 1 → get_or (values_of o) 0 0 ≡ v

-- ---- the code's tests decide as the rules do

-- a rule and what the code makes of it, where the new op is x and the last one is of row yk and counts yn
data Agree (x : Op) (yk yn : ℕ) : Rule → Met → Type 0 where
  pushes_it : Agree x yk yn push Push
  skips_it : Agree x yk yn skip Skip
  pops_it : Agree x yk yn pop Pop
  again_it : Agree x yk yn (again x) Again
  tests_it : (v : ℕ) → yk ≡ 1 → yn ≡ 1 → Agree x yk yn (again (set ints (v ∷ []))) (Test v)
  under_it : yk ≡ 11 → Agree x yk yn under Under
  sums_it : (v : ℕ) → yk ≡ 11 → Agree x yk yn (sum v) (Sum v)

module _ (y x : Op) (yk yn yv xk xn xv : ℕ) (iy : Is y yk yn yv) (ix : Is x xk xn xv) where
  choose : (t : Bool) (a b : Rule) (p q : Met) → (t ≡ true → Agree x yk yn a p) → Agree x yk yn b q → Agree x yk yn (cond t a b) (cond t p q)
  choose true a b p q f g = f refl
  choose false a b p q f g = g

  same : (c : ℕ) → c < 40 → xk ≡ c → kind_of x ≡ c
  same c h e = eqb-true (kind_of x) c (ix.kind c h ∙ eq-eqb xk c e)

  other : (c : ℕ) → c < 40 → (xk ≡ c → ⊥) → eqb (kind_of x) c ≡ false
  other c h n = ix.kind c h ∙ ne_eqb xk c n

  at_move : xk ≡ 11 → Agree x yk yn (rule y x) (meet yk yn yv xk xn xv)
  unfolding rule meet
  at_move e =
      let k = same 11 (omega arith) e in
      rw (k, e, iy.kind 11 (omega arith))
      (choose (eqb yk 11) _ _ _ _
      (λ t.
      let q : total y x ≡ int_add yv xv = ap₂ int_add (iy.moves (eqb-true yk 11 t)) (ix.moves e) in
      rw q (choose (eqb (int_add yv xv) 0) _ _ _ _ (λ z. pops_it) (sums_it _ (eqb-true yk 11 t))))
      pushes_it)

  at_set : xk ≡ 1 → Agree x yk yn (rule y x) (meet yk yn yv xk xn xv)
  unfolding rule meet
  at_set e =
      let k = same 1 (omega arith) e in
      rw (k, e, iy.kind 1 (omega arith), iy.kind 11 (omega arith))
      (choose (eqb yk 1) _ _ _ _ (λ t. again_it) (choose (eqb yk 11) _ _ _ _ (λ t. under_it (eqb-true yk 11 t)) pushes_it))

  at_refer : xk ≡ 14 → Agree x yk yn (rule y x) (meet yk yn yv xk xn xv)
  unfolding rule meet
  at_refer e =
      let k = same 14 (omega arith) e in
      rw (k, e, iy.kind 13 (omega arith), iy.kind 11 (omega arith))
      (choose (eqb yk 13) _ _ _ _ (λ t. pops_it) (choose (eqb yk 11) _ _ _ _ (λ t. again_it) pushes_it))

  at_end : xk ≡ 8 → Agree x yk yn (rule y x) (meet yk yn yv xk xn xv)
  unfolding rule meet
  at_end e =
      let k = same 8 (omega arith) e in
      rw (k, e, iy.kind 7 (omega arith)) (choose (eqb yk 7) _ _ _ _ (λ t. again_it) pushes_it)

  at_offset : xk ≡ 16 → Agree x yk yn (rule y x) (meet yk yn yv xk xn xv)
  unfolding rule meet
  at_offset e =
      let k = same 16 (omega arith) e in
      rw (k, e, iy.kind 11 (omega arith)) (choose (eqb yk 11) _ _ _ _ (λ t. under_it (eqb-true yk 11 t)) pushes_it)

  and_same : (a d c : Bool) → (a ≡ true → d ≡ c) → (a && d) ≡ (a && c)
  and_same true d c f = f refl
  and_same false d c f = refl

  -- two cell ops
  three : (a b c : Bool) → Agree x yk yn (cond (a && c) skip (cond (b && c) skip push)) (cond c (cond a Skip (cond b Skip Push)) Push)
  three true b true = skips_it
  three true true false = pushes_it
  three true false false = pushes_it
  three false true true = skips_it
  three false true false = pushes_it
  three false false true = pushes_it
  three false false false = pushes_it

  cells_turn : (a b c : Bool) → cond c (cond a Skip (cond b Skip Push)) Push ≡ cond c (cond b Skip (cond a Skip Push)) Push
  cells_turn true true c = refl
  cells_turn true false c = refl
  cells_turn false true c = refl
  cells_turn false false c = refl

  -- where the last op is a Store or a Load, the arguments are the counts
  stored : arg_of x ≡ xn → eqb yk 9 ≡ true → eqb (arg_of y) (arg_of x) ≡ eqb yn xn
  stored q t = ap₂ eqb (iy.stores (eqb-true yk 9 t)) q

  loaded : arg_of x ≡ xn → eqb yk 10 ≡ true → eqb (arg_of y) (arg_of x) ≡ eqb yn xn
  loaded q t = ap₂ eqb (iy.loads (eqb-true yk 10 t)) q

  at_store : xk ≡ 9 → Agree x yk yn (rule y x) (meet yk yn yv xk xn xv)
  unfolding rule meet cells
  at_store e =
      let k = same 9 (omega arith) e in
      let q = ix.stores e in
      rw (k, e, iy.kind 9 (omega arith), iy.kind 10 (omega arith), and_same _ _ _ (stored q), and_same _ _ _ (loaded q)) (three (eqb yk 9) (eqb yk 10) (eqb yn xn))

  at_load : xk ≡ 10 → Agree x yk yn (rule y x) (meet yk yn yv xk xn xv)
  unfolding rule meet cells
  at_load e =
      let k = same 10 (omega arith) e in
      let q = ix.loads e in
      rw (k, e, iy.kind 9 (omega arith), iy.kind 10 (omega arith), and_same _ _ _ (stored q), and_same _ _ _ (loaded q), cells_turn (eqb yk 9) (eqb yk 10) (eqb yn xn))
      (three (eqb yk 10) (eqb yk 9) (eqb yn xn))

  -- a gez after a Set
  tests_agree : (k a l : Bool) → eqb yk 1 ≡ k → eqb yn 1 ≡ l
      → Agree x yk yn (cond (k && a && l) (again (tested y)) push) (cond a (cond k (cond l (Test (int_gez yv)) Push) Push) Push)
  tests_agree true true true f h =
      let p = eqb-true yk 1 f in
      let q = eqb-true yn 1 h in
      rw (iy.one p q) (tests_it _ p q)
  tests_agree true true false f h = pushes_it
  tests_agree true false l f h = pushes_it
  tests_agree false true l f h = pushes_it
  tests_agree false false l f h = pushes_it

  at_gez : xk ≡ 37 → Agree x yk yn (rule y x) (meet yk yn yv xk xn xv)
  unfolding rule meet tests
  at_gez e =
      let k = same 37 (omega arith) e in
      let h : (eqb yk 1 && eqb xn 1 && eqb (length (values_of y)) 1) ≡ (eqb yk 1 && eqb xn 1 && eqb yn 1) =
      and_three (eqb yk 1) (eqb xn 1) _ _ (λ t. ap (λ (j : ℕ). eqb j 1) (iy.values (eqb-true yk 1 t))) in
      rw (k, e, iy.kind 1 (omega arith), ix.gez e, h) (tests_agree (eqb yk 1) (eqb xn 1) (eqb yn 1) refl refl)
    where
      and_three : (a b d c : Bool) → (a ≡ true → d ≡ c) → (a && b && d) ≡ (a && b && c)
      and_three true true d c f = f refl
      and_three true false d c f = refl
      and_three false true d c f = refl
      and_three false false d c f = refl

  at_other : (xk ≡ 11 → ⊥) → (xk ≡ 1 → ⊥) → (xk ≡ 14 → ⊥) → (xk ≡ 8 → ⊥) → (xk ≡ 16 → ⊥) → (xk ≡ 9 → ⊥) → (xk ≡ 10 → ⊥) → (xk ≡ 37 → ⊥)
      → Agree x yk yn (rule y x) (meet yk yn yv xk xn xv)
  unfolding rule meet
  at_other a b c d e f g h =
      rw (
        other 11 (omega arith) a,
        other 1 (omega arith) b,
        other 14 (omega arith) c,
        other 8 (omega arith) d,
        other 16 (omega arith) e,
        other 9 (omega arith) f,
        other 10 (omega arith) g,
        other 37 (omega arith) h,
        ne_eqb xk 11 a,
        ne_eqb xk 1 b,
        ne_eqb xk 14 c,
        ne_eqb xk 8 d,
        ne_eqb xk 16 e,
        ne_eqb xk 9 f,
        ne_eqb xk 10 g,
        ne_eqb xk 37 h,
      )
      pushes_it

  split : (c : ℕ) (A : Type 0) → (xk ≡ c → A) → ((xk ≡ c → ⊥) → A) → A
  split c A f g = by (eqb xk c) refl
    where
      by : (t : Bool) → eqb xk c ≡ t → A
      by true e = f (eqb-true xk c e)
      by false e = g (eqb-false xk c e)

  agree : Agree x yk yn (rule y x) (meet yk yn yv xk xn xv)
  agree =
      split 11 _ at_move (λ a. split 1 _ at_set (λ b. split 14 _ at_refer (λ c. split 8 _ at_end (λ d. split 16 _ at_offset
      (λ e. split 9 _ at_store (λ f. split 10 _ at_load (λ g. split 37 _ at_gez (λ h. at_other a b c d e f g h))))))))

-- ---- an item of the file, with a value of its own

-- a row's number is a core kind's number where it is below 40
index_test : (j c : ℕ) → c < 40 → eqb j c ≡ eqb (index_of j) c
unfolding index_of
index_test j c h = by (ltb j 40) (ltb j 256) (ltb j 278) refl refl
  where
    by : (a b d : Bool) → ltb j 40 ≡ a → ltb j 256 ≡ b → eqb j c ≡ eqb (cond a j (cond b 62 (cond d (j - 216) 62))) c
    by true b d p q = refl
    by false true d p q = let w : 40 ≤ j = ltb-false j 40 p in ne_eqb j c (λ z. omega arith) ∙ sym (ne_eqb 62 c (λ z. omega arith))
    by false false true p q =
        let w : 256 ≤ j = ltb-false j 256 q in ne_eqb j c (λ z. omega arith) ∙ sym (ne_eqb (j - 216) c (λ z. omega arith))
    by false false false p q =
        let w : 256 ≤ j = ltb-false j 256 q in ne_eqb j c (λ z. omega arith) ∙ sym (ne_eqb 62 c (λ z. omega arith))

module _ (s : List ℕ) (i : Item) (h : IsItem s i) where
  -- the item's own op
  own : (v : ℕ) → (i.row ≡ 11 → ⊥) → (i.row ≡ 1 → i.count ≡ 1 → ⊥) → Is (op_at s i) i.row i.count v
  unfolding op_at row_at rows
  own v a b =
      let m = means s i h in
      record {
        kind = λ c l. index_test (kind_of (op_at s i)) c l ∙ ap (λ (j : ℕ). eqb j c) m.row;
        moves = λ e. absurd (a e);
        stores = λ e. counted 9 (λ p n. refl) e ∙ m.count;
        loads = λ e. counted 10 (λ p n. refl) e ∙ m.count;
        gez = λ e. counted 37 (λ p n. refl) e ∙ m.count;
        values = λ e. ap (λ (k : ℕ). length (values_of (op_with s i.payload i.count (row_at k)))) e ∙ length_values s i.payload i.count;
        one = λ e f. absurd (b e f);
      }
    where
      counted : (c : ℕ) → ((p n : ℕ) → arg_of (op_with s p n (row_at c)) ≡ op_count (op_with s p n (row_at c))) → i.row ≡ c → arg_of (op_at s i) ≡ op_count (op_at s i)
      counted c f e =
          ap (λ (k : ℕ). arg_of (op_with s i.payload i.count (row_at k))) e
          ∙ f i.payload i.count
          ∙ ap (λ (k : ℕ). op_count (op_with s i.payload i.count (row_at k))) (sym e)

  pub within : (v : ℕ) → Is (op_within s i v) i.row i.count v
  within v = by (eqb i.row 11) (eqb i.row 1) (eqb i.count 1) refl refl refl
    where
      by : (a b c : Bool) → eqb i.row 11 ≡ a → eqb i.row 1 ≡ b → eqb i.count 1 ≡ c
          → Is (cond a (plain (move v)) (cond b (cond c (set ints (v ∷ [])) (op_at s i)) (op_at s i))) i.row i.count v
      by true b c p q r =
          let e = eqb-true i.row 11 p in
          record {
            kind = λ d l. ap (λ (j : ℕ). eqb j d) (sym e);
            moves = λ z. refl;
            stores = λ z. absurd (omega arith);
            loads = λ z. absurd (omega arith);
            gez = λ z. absurd (omega arith);
            values = λ z. absurd (omega arith);
            one = λ z w. absurd (omega arith);
          }
      by false true true p q r =
          let e = eqb-true i.row 1 q in
          record {
            kind = λ d l. ap (λ (j : ℕ). eqb j d) (sym e);
            moves = λ z. absurd (omega arith);
            stores = λ z. absurd (omega arith);
            loads = λ z. absurd (omega arith);
            gez = λ z. absurd (omega arith);
            values = λ z. sym (eqb-true i.count 1 r);
            one = λ z w. refl;
          }
      by false true false p q r = own v (eqb-false i.row 11 p) (λ e. eqb-false i.count 1 r)
      by false false c p q r = own v (eqb-false i.row 11 p) (λ e. absurd (eqb-false i.row 1 q e))

  -- with the value that it has in the file it is the file's op
  pub own_value : op_within s i (value_of s i.row i.count i.payload) ≡ op_at s i
  unfolding value_of valued op_at row_at rows values_at
  own_value = by (eqb i.row 11) (eqb i.row 1) (eqb i.count 1) refl refl refl
    where
      by : (a b c : Bool) → eqb i.row 11 ≡ a → eqb i.row 1 ≡ b → eqb i.count 1 ≡ c
          → cond a (plain (move (cond (cond a true (cond b c false)) (u64_at s i.payload) 0)))
          (cond b (cond c (set ints (cond (cond a true (cond b c false)) (u64_at s i.payload) 0 ∷ [])) (op_at s i)) (op_at s i)) ≡ op_at s i
      by true b c p q r = sym (ap (λ (k : ℕ). op_with s i.payload i.count (row_at k)) (eqb-true i.row 11 p))
      by false true true p q r = sym (ap₂ (λ (k n : ℕ). op_with s i.payload n (row_at k)) (eqb-true i.row 1 q) (eqb-true i.count 1 r))
      by false true false p q r = refl
      by false false c p q r = refl

-- an op whose value is its own
move_of : (s : List ℕ) (i v : ℕ) → (item_at s i).row ≡ 11 → op_of s (entry i v) ≡ plain (move v)
move_of s i v e = simp (eq-eqb (item_at s i).row 11 e)

set_of : (s : List ℕ) (i v : ℕ) → (item_at s i).row ≡ 1 → (item_at s i).count ≡ 1 → op_of s (entry i v) ≡ set ints (v ∷ [])
set_of s i v e f = simp (ne_eqb (item_at s i).row 11 (λ z. omega arith), eq-eqb (item_at s i).row 1 e, eq-eqb (item_at s i).count 1 f)

-- ---- the push of an entry is the push of its op

module _ (s ks ns ps : List ℕ) (n : ℕ) (h : Holds s ks ns ps n) where
  abbrev ops_of : List Entry → List Op
  ops_of st = map (op_of s) st

  pub is_item : (i : ℕ) → i < n → IsItem s (item_at s i)
  is_item i l = item_at_lem s (item 0 0 0) i (omega (arith, l, h.many))

  is_op : (e : Entry) → e.op < n → Is (op_of s e) (get_or ks e.op 0) (get_or ns e.op 0) e.value
  is_op e l = rw (h.rows e.op l, h.counts e.op l) (within s (item_at s e.op) (is_item e.op l) e.value)

  -- a value taken by a move, or by a set
  renewed_move : (i v : ℕ) (st : List Entry) → i < n → get_or ks i 0 ≡ 11 → plain (move v) ∷ ops_of st ≡ ops_of (entry i v ∷ st)
  renewed_move i v st l e = ap (λ (o : Op). o ∷ ops_of st) (sym (move_of s i v (sym (h.rows i l) ∙ e)))

  moved_seen : (st : List Entry) (m : Entry) → Within n st → m.op < n → get_or ks m.op 0 ≡ 11 → moved (ops_of st) (op_of s m) ≡ ops_of (moved_on ks st m)
  unfolding moved
  moved_seen [] m w l e = refl
  moved_seen (y ∷ st) m w l e =
      rw ((is_op y w.0).kind 11 (omega arith)) (by (eqb (get_or ks y.op 0) 11) refl)
    where
      on_zero : (z : Bool) → get_or ks y.op 0 ≡ 11
          → cond z (ops_of st) (plain (move (int_add y.value m.value)) ∷ ops_of st) ≡ ops_of (cond z st (entry y.op (int_add y.value m.value) ∷ st))
      on_zero true f = refl
      on_zero false f = renewed_move y.op (int_add y.value m.value) st w.0 f

      by : (t : Bool) → eqb (get_or ks y.op 0) 11 ≡ t
          → cond t (cond (eqb (total (op_of s y) (op_of s m)) 0) (ops_of st) (plain (move (total (op_of s y) (op_of s m))) ∷ ops_of st)) (op_of s m ∷ op_of s y ∷ ops_of st)
          ≡ ops_of (cond t (cond (eqb (int_add y.value m.value) 0) st (entry y.op (int_add y.value m.value) ∷ st)) (m ∷ y ∷ st))
      by true t =
          let f = eqb-true (get_or ks y.op 0) 11 t in
          let q : total (op_of s y) (op_of s m) ≡ int_add y.value m.value = ap₂ int_add ((is_op y w.0).moves f) ((is_op m l).moves e) in
          rw q (on_zero (eqb (int_add y.value m.value) 0) f)
      by false t = refl

  moved_within : (st : List Entry) (m : Entry) → Within n st → m.op < n → Within n (moved_on ks st m)
  moved_within [] m w l = (l, tt)
  moved_within (y ∷ st) m w l = by (eqb (get_or ks y.op 0) 11) (eqb (int_add y.value m.value) 0)
    where
      by : (t z : Bool) → Within n (cond t (cond z st (entry y.op (int_add y.value m.value) ∷ st)) (m ∷ y ∷ st))
      by true true = w.1
      by true false = (w.0, w.1)
      by false z = (l, w)

  -- the stack after a push stands for the ops after the push, and its entries are of the file
  pub push_seen : (st : List Entry) (x : Entry) → Within n st → x.op < n
      → (op (ops_of st) (op_of s x) ≡ ops_of (push_on ks ns st x)) × Within n (push_on ks ns st x)
  unfolding op
  push_seen [] x w l = (refl, (l, tt))
  push_seen (y ∷ st) x w l =
      by (λ e k. push_seen st e w.1 k) (rule (op_of s y) (op_of s x)) (met ks ns y x)
      (agree (op_of s y) (op_of s x) _ _ y.value _ _ x.value (is_op y w.0) (is_op x l))
    where
      by : ((e : Entry) → e.op < n → (op (ops_of st) (op_of s e) ≡ ops_of (push_on ks ns st e)) × Within n (push_on ks ns st e))
          → (r : Rule) (m : Met) → Agree (op_of s x) (get_or ks y.op 0) (get_or ns y.op 0) r m
          → (react r (op_of s y) (ops_of st) (op_of s x) (op (ops_of st)) ≡ ops_of (react_on ks m y st x (push_on ks ns st))) × Within n (react_on ks m y st x (push_on ks ns st))
      by less r m pushes_it = (refl, (l, w))
      by less r m skips_it = (refl, w)
      by less r m pops_it = (refl, w.1)
      by less r m again_it = less x l
      by less r m (tests_it v e f) =
          let q = set_of s y.op v (sym (h.rows y.op w.0) ∙ e) (sym (h.counts y.op w.0) ∙ f) in
          let k = less (entry y.op v) w.0 in
          (ap (op (ops_of st)) (sym q) ∙ k.0, k.1)
      by less r m (under_it e) =
          let k = less x l in
          (ap (λ (os : List Op). moved os (op_of s y)) k.0 ∙ moved_seen (push_on ks ns st x) y k.1 w.0 e, moved_within (push_on ks ns st x) y k.1 w.0)
      by less r m (sums_it v e) = (renewed_move y.op v st w.0 e, (w.0, w.1))

  -- ---- the whole file

  after_seen : (i : ℕ) → i ≤ n → (pushes [] (map (op_at s) (take i (patch_of s).items)) ≡ ops_of (after s ks ns i)) × Within n (after s ks ns i)
  unfolding pushes
  after_seen zero l = (refl, tt)
  after_seen (suc i) l =
      let k = after_seen i (omega arith) in
      let b : i < n = omega arith in
      let c : i < length (patch_of s).items = omega (arith, b, h.many) in
      let p = push_seen (after s ks ns i) (entry_at s i) k.1 b in
      let o = op_at s (item_at s i) in
      let q : op_of s (entry_at s i) ≡ o = own_value s (item_at s i) (is_item i b) in (
        ap (λ (l : List Item). pushes [] (map (op_at s) l)) (take-suc (patch_of s).items i (item 0 0 0) c)
            ∙ ap (pushes []) (map-append (op_at s) (take i (patch_of s).items) (item_at s i ∷ []))
            ∙ pushes_snoc (map (op_at s) (take i (patch_of s).items)) [] o
            ∙ ap (λ (os : List Op). op os o) k.0
            ∙ ap (op (ops_of (after s ks ns i))) (sym q)
            ∙ p.0,
        p.1,
      )

  -- the stack after all ops stands for the patch joined
  pub joined_seen : (join (map (op_at s) (patch_of s).items) ≡ reverse (ops_of (after s ks ns n))) × Within n (after s ks ns n)
  unfolding join
  joined_seen =
      let k = after_seen n (omega arith) in
      let t : take n (patch_of s).items ≡ (patch_of s).items = ap (λ (j : ℕ). take j (patch_of s).items) h.many ∙ take-length (patch_of s).items in
      (ap (λ (l : List Item). reverse (pushes [] (map (op_at s) l))) (sym t) ∙ ap reverse k.0, k.1)
