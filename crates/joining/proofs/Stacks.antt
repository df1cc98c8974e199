-- The stack that the first entries make, and what a store does to it. Assumes nothing.
use mathlib.Core.Path.{◌≡◌, refl, ap, ◌∙◌}
use Prim.Native.Nat.{ℕ, zero, suc, ◌-◌, ◌<◌, ◌≤◌}
use native.Mathlib.Omega.{arith}
use native.Mathlib.Numerals.{unary_clauses}
use mathlib.Core.List.{List, ◌∷◌}
use lib.ListN.{length, get_or, set}
use lib.Seq.{get_or-set_same, get_or-set_other}
use borrow.Author.Tests.{eq-eqb, ne_eqb}
use Rattle.lanes.specs.Int.{int_add}
use Rattle.joining.specs.declared.entry.Entry.{Entry}
use Rattle.joining.specs.declared.met.Met.TheVariants.{Sum}
use Rattle.joining.specs.Stack.{entry, met, moved_on, push_on, top_down}

-- stores beyond the stack
top_down_value : (is vs : List ℕ) (j v n : ℕ) → n ≤ j → top_down is (set vs j v) n ≡ top_down is vs n
top_down_value is vs j v zero h = refl
top_down_value is vs j v (suc n) h = cc (get_or-set_other vs j n v 0 (λ z. omega arith), top_down_value is vs j v n (omega arith))

top_down_set : (is vs : List ℕ) (j i v n : ℕ) → n ≤ j → top_down (set is j i) (set vs j v) n ≡ top_down is vs n
top_down_set is vs j i v zero h = refl
top_down_set is vs j i v (suc n) h =
    cc (get_or-set_other is j n i 0 (λ z. omega arith), get_or-set_other vs j n v 0 (λ z. omega arith), top_down_set is vs j i v n (omega arith))

-- one more entry
pub top_down_put : (is vs : List ℕ) (n : ℕ) (e : Entry) → n < length is → n < length vs → top_down (set is n e.op) (set vs n e.value) (suc n) ≡ e ∷ top_down is vs n
top_down_put is vs n e h k =
    rw (get_or-set_same is n e.op 0 h, get_or-set_same vs n e.value 0 k, top_down_set is vs n e.op e.value n (omega arith)) refl

-- the last entry
abbrev last_of : List ℕ → List ℕ → ℕ → Entry
last_of is vs n = entry (get_or is (n - 1) 0) (get_or vs (n - 1) 0)

top : (is vs : List ℕ) (n : ℕ) → (n ≡ 0 → ⊥) → top_down is vs n ≡ last_of is vs n ∷ top_down is vs (n - 1)
top is vs zero h = absurd (h refl)
top is vs (suc n) h = simp unary_clauses refl

-- another value in its place
top_down_at : (is vs : List ℕ) (m n v : ℕ) → n ≡ suc m → n ≤ length vs → top_down is (set vs m v) n ≡ entry (get_or is m 0) v ∷ top_down is vs m
top_down_at is vs m n v q h =
    ap (top_down is (set vs m v)) q
    ∙ cc (get_or-set_same vs m v 0 (omega (arith, q, h)), top_down_value is vs m v m (omega arith))

pub top_down_new : (is vs : List ℕ) (n v : ℕ) → (n ≡ 0 → ⊥) → n ≤ length vs → top_down is (set vs (n - 1) v) n ≡ entry (get_or is (n - 1) 0) v ∷ top_down is vs (n - 1)
top_down_new is vs n v some h = top_down_at is vs (n - 1) n v (omega arith) h

-- a move is pushed on a last entry whose op is of row k, and v is the sum of the two
module _ (ks is vs : List ℕ) (n : ℕ) (m : Entry) (some : n ≡ 0 → ⊥) {k v : ℕ}
    (e : k ≡ get_or ks (last_of is vs n).op 0) (h : k ≡ 11) (q : v ≡ int_add (last_of is vs n).value m.value) where
  pub moved_gone : v ≡ 0 → top_down is vs (n - 1) ≡ moved_on ks (top_down is vs n) m
  moved_gone z = simp (top is vs n some, ← e, eq-eqb k 11 h, ← q, eq-eqb v 0 z)

  pub moved_sum : (v ≡ 0 → ⊥) → entry (last_of is vs n).op v ∷ top_down is vs (n - 1) ≡ moved_on ks (top_down is vs n) m
  moved_sum z = simp (top is vs n some, ← e, eq-eqb k 11 h, ← q, ne_eqb v 0 z)

-- an op is pushed on a last entry, and v is the sum of the two
pub pushed_sum : (ks ns is vs : List ℕ) (n : ℕ) (x : Entry) (v : ℕ) → (n ≡ 0 → ⊥) → met ks ns (last_of is vs n) x ≡ Sum v
    → entry (last_of is vs n).op v ∷ top_down is vs (n - 1) ≡ push_on ks ns (top_down is vs n) x
pushed_sum ks ns is vs n x v some q = simp (top is vs n some, q)
