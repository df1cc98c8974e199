-- One op further in `check_ops`: the invariant of its loop, and what each way out of it shows. Assumes nothing.
use Prim.Native.Nat.{ℕ, suc, ◌+◌, ◌-◌, ◌≤◌, ◌<◌}
use native.Mathlib.Numerals.{add-one}
use native.Mathlib.Omega.{arith}
use borrow.Author.Tests.{lt-ltb, le-ltb, eq-eqb, ne_eqb}
use mathlib.Core.Path.{◌≡◌, refl, sym, ◌∙◌}
use mathlib.Core.Bool.{Bool, false, cond}
use mathlib.Core.List.{List}
use Rattle.std.specs.Prelude.{Ok, Err}
use lib.Dec.{ltb, eqb}
use lib.ListN.{length, drop, get_or, drop_of_length-le}
use lib.Seq.{drop-cons}
use Rattle.machine_model.specs.State.{lanes}
use Rattle.patch_check.specs.Rows.{opens_of, ends_of, elses_of, need_of, after_of, outermost_of, row_scan}
use Rattle.answers.specs.Check.{Verdict}
use Rattle.answers.specs.declared.check.CheckError.TheVariants.{NoOpenEnd, NoOpenElse, FewLanes, NeverClosed}

-- before op i, m lanes are known and d brackets open, the outermost at f: the rest gives the answer of the whole
pub record Checking (ks ns : List ℕ) (m d f i : ℕ) : Type 0 where
  pub upto : i ≤ length ks
  pub shallow : d ≤ i
  pub rest : row_scan f i m d (drop i ks) (drop i ns) ≡ row_scan 0 0 lanes 0 ks ns

pub begin : (ks ns : List ℕ) → Checking ks ns lanes 0 0 0
begin ks ns = record { upto = omega arith; shallow = omega arith; rest = refl }

-- the tests of one op, in 01's order
abbrev chain : Bool → Bool → Bool → ℕ → Verdict → Verdict
chain a b c p r = cond a (Err (NoOpenEnd p)) (cond b (Err (NoOpenElse p)) (cond c (Err (FewLanes p)) r))

module _ (ks ns : List ℕ) (m d f i : ℕ) (c : Checking ks ns m d f i) where
  module _ (h : i < length ks) (same : length ns ≡ length ks) (k n : ℕ) (ek : k ≡ get_or ks i 0) (en : n ≡ get_or ns i 0) where
    after_it : Verdict
    after_it = row_scan (outermost_of d i f) (suc i) (after_of k n m) (d + opens_of k - ends_of k) (drop (suc i) ks) (drop (suc i) ns)

    turn : row_scan f i m d (drop i ks) (drop i ns) ≡ chain (ltb d (ends_of k)) (ltb d (elses_of k)) (ltb m (need_of k n)) i after_it
    unfolding row_scan after_it
    turn = rw (drop-cons ks i 0 h, drop-cons ns i 0 (omega (arith, same)), ek, en)

    out : (v : Verdict) → chain (ltb d (ends_of k)) (ltb d (elses_of k)) (ltb m (need_of k n)) i after_it ≡ v → v ≡ row_scan 0 0 lanes 0 ks ns
    out v q = sym (turn ∙ q) ∙ c.rest

    pub stray_end_lem : (e : ℕ) → e ≡ ends_of k → d < e → Err (NoOpenEnd i) ≡ row_scan 0 0 lanes 0 ks ns
    stray_end_lem e q l = out (Err (NoOpenEnd i)) (rw (lt-ltb d (ends_of k) (omega (arith, q))))

    module _ (e : ℕ) (qe : e ≡ ends_of k) (he : e ≤ d) where
      past_end : ltb d (ends_of k) ≡ false
      past_end = le-ltb d (ends_of k) (omega (arith, qe))

      pub stray_else_lem : (x : ℕ) → x ≡ elses_of k → d < x → Err (NoOpenElse i) ≡ row_scan 0 0 lanes 0 ks ns
      stray_else_lem x q l = out (Err (NoOpenElse i)) (rw (past_end, lt-ltb d (elses_of k) (omega (arith, q))))

      module _ (x : ℕ) (qx : x ≡ elses_of k) (hx : x ≤ d) (y : ℕ) (qy : y ≡ need_of k n) where
        past_else : ltb d (elses_of k) ≡ false
        past_else = le-ltb d (elses_of k) (omega (arith, qx))

        pub few_lanes : m < y → Err (FewLanes i) ≡ row_scan 0 0 lanes 0 ks ns
        few_lanes l = out (Err (FewLanes i)) (rw (past_end, past_else, lt-ltb m (need_of k n) (omega (arith, qy))))

        pub next : y ≤ m → (o : ℕ) → o ≡ opens_of k → o ≤ 1 → (f' m' : ℕ) → f' ≡ outermost_of d i f → m' ≡ after_of k n m
            → Checking ks ns m' (d + o - e) f' (i + 1)
        unfolding after_it
        next l o qo ho f' m' qf qm =
            record {
              upto = omega arith;
              shallow = omega (arith, c.shallow);
              rest =
                  rw (qf, qm, qo, qe, add-one i)
                  (sym (turn ∙ rw (past_end, past_else, le-ltb m (need_of k n) (omega (arith, qy)))) ∙ c.rest);
            }

  module _ (h : length ks ≤ i) where
    ended : row_scan f i m d (drop i ks) (drop i ns) ≡ cond (eqb d 0) (Ok i) (Err (NeverClosed f))
    unfolding row_scan
    ended = rw (drop_of_length-le ks h)

    pub at_end : d ≡ 0 → Ok i ≡ row_scan 0 0 lanes 0 ks ns
    at_end e = sym (ended ∙ rw (eq-eqb d 0 e)) ∙ c.rest

    pub open_end : (d ≡ 0 → ⊥) → Err (NeverClosed f) ≡ row_scan 0 0 lanes 0 ks ns
    open_end e = sym (ended ∙ rw (ne_eqb d 0 e)) ∙ c.rest
