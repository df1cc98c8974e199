-- Which mark a Call means, and the entry of the table that it may stand at. Assumes nothing.
use mathlib.Core.Path.{◌≡◌, ◌∙◌, refl, sym}
use mathlib.Core.Bool.{Bool, true, false, ◌&&◌, ◌||◌}
use mathlib.Core.Logic.{◌⊎◌, inl, inr}
use mathlib.Core.List.{List}
use Prim.Native.Nat.{ℕ, ◌≤◌, ◌<◌}
use native.Mathlib.Omega.{arith}
use lib.Dec.{leb, ltb, eqb}
use lib.ListN.{length, get_or, take}
use borrow.Author.Tests.{ltb-true, lt-leb, lt-ltb, eqb-true, eq-eqb}
use Rattle.basics.specs.Pick.{pick}
use Rattle.basics.proofs.Tests.{by_case, and_left, and_right}
use Rattle.machine_model.specs.Formed.{Rising}
use Rattle.partners.specs.Columns.{functions_of, mark_of}
use Rattle.partners.proofs.Marks.{mark_inside}
use Rattle.searches.specs.Found.{entered_in, counted_in}
use Rattle.searches.proofs.Tables.{entered_at}
use Rattle.control_ops.specs.Control.{asks_table, held_to, stands_in}

-- what an entry of the table is held to has so many entries too, and says what is meant
module _ (mode k n : ℕ) (ts fs xs : List ℕ) (e : xs ≡ held_to mode ts fs) where
  pub held_inside : k < n → n ≤ length ts → n ≤ length fs → k < length xs
  unfolding held_to pick
  held_inside h l m = by_case (eqb mode 0) (λ z. rw (e, z) (omega arith)) (λ z. rw (e, z) (omega arith))

  pub held_same : k < n → eqb (get_or ts k 0) (get_or xs k 0) ≡ stands_in mode k n ts fs
  unfolding held_to stands_in pick
  held_same h = by_case (eqb mode 0) (λ z. rw (e, z, lt-ltb k n h, eq-eqb (get_or ts k 0) (get_or ts k 0) refl) refl) (λ z. rw (e, z, lt-ltb k n h) refl)

-- by either way
pub either : {A B C : Type 0} → A ⊎ B → (A → C) → (B → C) → C
either (inl a) f g = f a
either (inr b) f g = g b

module _ (mode k n : ℕ) (ks ts fs : List ℕ) where
  -- the mark is the k-th, and is in the table already
  pub record Entered : Type 0 where
    pub by_mark : asks_table mode k n ≡ false
    pub is : mark_of ks k ≡ get_or ts k 0
    pub there : leb (length ks) (get_or ts k 0) ≡ false
    pub count : counted_in (get_or ts k 0) n ts ≡ n
    pub same : entered_in (get_or ts k 0) n ts ≡ ts

  pub meant : stands_in mode k n ts fs ≡ true → fs ≡ functions_of ks → n ≤ length ts → n ≤ length fs → Rising (take n ts)
      → (k < n) × ((asks_table mode k n ≡ true) ⊎ Entered)
  unfolding stands_in asks_table
  meant e f l m r =
      let h = ltb-true k n (and_left (ltb k n) _ e) in
      let o = and_right (ltb k n) _ e in
      (h, by_case (eqb mode 0) (λ z. inl (rw (z, and_left (ltb k n) _ e) refl)) (λ z. inr (entered z (rw z at o) h)))
    where
      entered : eqb mode 0 ≡ false → eqb (get_or ts k 0) (get_or fs k 0) ≡ true → k < n → Entered
      entered z q h =
          let w = mark_inside ks fs k f (omega arith) in
          let is : mark_of ks k ≡ get_or ts k 0 = w.0 ∙ sym (eqb-true _ _ q) in
          let t = entered_at (get_or ts k 0) n ts (l, r) k h refl in
          record { by_mark = rw z refl; is = is; there = lt-leb _ _ (rw is at w.1); count = sym t.0; same = sym t.1 }

pub not_meant : (mode k n : ℕ) (ts fs : List ℕ) → stands_in mode k n ts fs ≡ false → asks_table mode k n ≡ false
unfolding stands_in asks_table
not_meant mode k n ts fs e = by (eqb mode 0) (ltb k n) _ e
  where
    by : (a b c : Bool) → (b && (a || c)) ≡ false → (a && b) ≡ false
    by true true c e = e
    by true false c e = e
    by false b c e = refl
