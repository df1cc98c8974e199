-- A stack of frames that tells what a search finds from a place at each depth, and a column that is filled from its end. Assumes nothing.
use mathlib.Core.Path.{◌≡◌, ◌∙◌, refl, ap, sym}
use mathlib.Core.Logic.{⊎_elim}
use mathlib.Core.List.{List, [], ◌∷◌, ◌++◌}
use mathlib.Core.Option.{Option, none}
use Prim.Native.Nat.{ℕ, zero, suc, ◌+◌, ◌-◌, ◌≤◌, ◌<◌}
use native.Mathlib.Omega.{arith}
use lib.ListN.{length, get_or, set, drop, replicate, length-set, length-append, length-drop}
use lib.Seq.{ext_get_or, get_or-set_same, get_or-set_other, get_or-append-add, get_or-drop}
use Rattle.ops.specs.Syntax.{Bracket}
use Rattle.ops.specs.Syntax.Bracket.{up, down, mid, flat}
use Rattle.lanes.proofs.Ints.{lt_or_ge}
use Rattle.byte_fields.specs.Storage.{fill}
use Rattle.machine_model.specs.Scan.{to_end}
use Rattle.partners.specs.Columns.{nowhere, place, to_mid, column}

-- ---- frames

-- a search that counts brackets
pub record Counts (to : ℕ → ℕ → List Bracket → Option ℕ) : Type 0 where
  pub over : (p d : ℕ) → to p d [] ≡ none
  pub opens : (p d : ℕ) (ms : List Bracket) → to p d (up ∷ ms) ≡ to (suc p) (suc d) ms
  pub closes : (p d : ℕ) (ms : List Bracket) → to p (suc d) (down ∷ ms) ≡ to (suc p) d ms
  pub turns : (p d : ℕ) (ms : List Bracket) → to p (suc d) (mid ∷ ms) ≡ to (suc p) (suc d) ms
  pub goes : (p d : ℕ) (ms : List Bracket) → to p d (flat ∷ ms) ≡ to (suc p) d ms

pub end_counts : Counts to_end
unfolding to_end
end_counts = record { over = λ p d. refl; opens = λ p d ms. refl; closes = λ p d ms. refl; turns = λ p d ms. refl; goes = λ p d ms. refl }

pub mid_counts : Counts to_mid
unfolding to_mid
mid_counts = record { over = λ p d. refl; opens = λ p d ms. refl; closes = λ p d ms. refl; turns = λ p d ms. refl; goes = λ p d ms. refl }

-- the frames of es, n on top, have what the search finds from i on, over ms, from each depth
pub record Framed (to : ℕ → ℕ → List Bracket → Option ℕ) (i : ℕ) (ms : List Bracket) (n : ℕ) (es : List ℕ) : Type 0 where
  pub at : (d : ℕ) → d ≤ n → get_or es (n - d) 0 ≡ place (to i d ms)
  pub beyond : (d : ℕ) → n < d → to i d ms ≡ none

pub get_d_replicate : (n i v : ℕ) → i < n → ◌≡◌ {A = ℕ} (get_or (replicate n v) i 0) v
get_d_replicate zero i v h = absurd (omega arith)
get_d_replicate (suc n) zero v h = refl
get_d_replicate (suc n) (suc i) v h = get_d_replicate n i v (omega arith)

module _ (to : ℕ → ℕ → List Bracket → Option ℕ) (c : Counts to) (i : ℕ) (ms : List Bracket) (n : ℕ) where
  -- past the last op
  pub framed_none : (m : ℕ) → n < m → Framed to i [] n (replicate m nowhere)
  framed_none m h = record { at = λ d l. get_d_replicate m (n - d) nowhere (omega arith) ∙ sym (ap place (c.over i d)); beyond = λ d l. c.over i d }

  module _ (es : List ℕ) (f : Framed to (suc i) ms n es) where
    pub framed_up : 0 < n → Framed to i (up ∷ ms) (n - 1) es
    framed_up h = record {
      at = λ d l.
          let e : n - 1 - d ≡ n - suc d = omega arith in
          ap (λ (x : ℕ). get_or es x 0) e ∙ f.at (suc d) (omega arith) ∙ sym (ap place (c.opens i d ms));
      beyond = λ d l. c.opens i d ms ∙ f.beyond (suc d) (omega arith);
    }

    -- the lowest frame
    pub framed_low : (fs : List ℕ) → n ≡ 0 → get_or fs 0 0 ≡ nowhere → Framed to i (up ∷ ms) n fs
    framed_low fs z e = record {
      at = λ d l.
          let q : n - d ≡ 0 = omega arith in
          ap (λ (x : ℕ). get_or fs x 0) q ∙ e ∙ sym (ap place (c.opens i d ms ∙ f.beyond (suc d) (omega arith)));
      beyond = λ d l. c.opens i d ms ∙ f.beyond (suc d) (omega arith);
    }

    pub framed_flat : Framed to i (flat ∷ ms) n es
    framed_flat = record { at = λ d l. f.at d l ∙ sym (ap place (c.goes i d ms)); beyond = λ d l. c.goes i d ms ∙ f.beyond d l }

    beyond_mid : (d : ℕ) → n < d → to i d (mid ∷ ms) ≡ none
    beyond_mid zero l = absurd (omega arith)
    beyond_mid (suc d) l = c.turns i d ms ∙ f.beyond (suc d) l

    beyond_down : (d : ℕ) → n + 1 < d → to i d (down ∷ ms) ≡ none
    beyond_down zero l = absurd (omega arith)
    beyond_down (suc d) l = c.closes i d ms ∙ f.beyond d (omega arith)

    -- an Else that the search passes
    pub framed_past : to i 0 (mid ∷ ms) ≡ to (suc i) 0 ms → Framed to i (mid ∷ ms) n es
    framed_past z = record {
      at = elim [
        | zero ↦ λ l. f.at 0 l ∙ sym (ap place z)
        | suc d ↦ λ l. f.at (suc d) l ∙ sym (ap place (c.turns i d ms))
      ];
      beyond = beyond_mid;
    }

    -- an Else that the search notes
    pub framed_mid : n < length es → (v : ℕ) → place (to i 0 (mid ∷ ms)) ≡ v → Framed to i (mid ∷ ms) n (set es n v)
    framed_mid h v z = record {
      at = elim [
        | zero ↦ λ l. let e : n - 0 ≡ n = omega arith in ap (λ (x : ℕ). get_or (set es n v) x 0) e ∙ get_or-set_same es n v 0 h ∙ sym z
        | suc d ↦ λ l. get_or-set_other es n (n - suc d) v 0 (λ q. omega arith) ∙ f.at (suc d) l ∙ sym (ap place (c.turns i d ms))
      ];
      beyond = beyond_mid;
    }

    pub framed_down : n + 1 < length es → (v : ℕ) → place (to i 0 (down ∷ ms)) ≡ v → Framed to i (down ∷ ms) (n + 1) (set es (n + 1) v)
    framed_down h v z = record {
      at = elim [
        | zero ↦ λ l. let e : n + 1 - 0 ≡ n + 1 = omega arith in ap (λ (x : ℕ). get_or (set es (n + 1) v) x 0) e ∙ get_or-set_same es (n + 1) v 0 h ∙ sym z
        | suc d ↦ λ l.
            let e : n + 1 - suc d ≡ n - d = omega arith in
            ap (λ (x : ℕ). get_or (set es (n + 1) v) x 0) e
            ∙ get_or-set_other es (n + 1) (n - d) v 0 (λ q. omega arith)
            ∙ f.at d (omega arith)
            ∙ sym (ap place (c.closes i d ms))
      ];
      beyond = beyond_down;
    }

-- ---- columns

-- the entries of new from i to l are those of f, and those before i and from l on are the old ones
pub record Filled (f : ℕ → ℕ) (i l : ℕ) (old new : List ℕ) : Type 0 where
  pub long : length new ≡ length old
  pub each : (j : ℕ) → i ≤ j → j < l → get_or new j 0 ≡ f j
  pub below : (j : ℕ) → j < i → get_or new j 0 ≡ get_or old j 0
  pub rest : (j : ℕ) → l ≤ j → get_or new j 0 ≡ get_or old j 0

pub filled_none : (f : ℕ → ℕ) (l : ℕ) (old : List ℕ) → Filled f l l old old
filled_none f l old = record { long = refl; each = λ j a b. absurd (omega arith); below = λ j a. refl; rest = λ j a. refl }

same_or_not : {P : Type 0} (i j : ℕ) → (j ≡ i → P) → ((j ≡ i → ⊥) → P) → P
same_or_not i j y n =
    ⊎_elim
    (λ (b : j < i). n (λ q. omega arith))
    (λ (g : i ≤ j). ⊎_elim (λ (b : i < j). n (λ q. omega arith)) (λ (c : j ≤ i). y (omega arith)) (lt_or_ge i j))
    (lt_or_ge j i)

next_on : (i j : ℕ) → i ≤ j → (j ≡ i → ⊥) → suc i ≤ j
next_on i j a s = omega (arith, s)

module _ (f g : ℕ → ℕ) (i l : ℕ) (old new : List ℕ) where
  -- the same column by another rule
  pub filled_by : Filled f i l old new → ((j : ℕ) → i ≤ j → j < l → f j ≡ g j) → Filled g i l old new
  filled_by h e = record { long = h.long; each = λ j a b. h.each j a b ∙ e j a b; below = h.below; rest = h.rest }

  -- one entry anew
  pub filled_at : Filled f i l old new → (e v : ℕ) → i ≤ e → e < l → l ≤ length old → v ≡ g e → ((j : ℕ) → i ≤ j → j < l → (j ≡ e → ⊥) → f j ≡ g j) → Filled g i l old (set new e v)
  filled_at h e v a b m q o = record {
    long = length-set new e v ∙ h.long;
    each = λ j a c. same_or_not e j
        (λ s. let w : e < length new = omega (arith, h.long) in
        ap (λ (x : ℕ). get_or (set new e v) x 0) s ∙ get_or-set_same new e v 0 w ∙ q ∙ ap g (sym s))
        (λ s. get_or-set_other new e j v 0 s ∙ h.each j a c ∙ o j a c s);
    below = λ j c. get_or-set_other new e j v 0 (λ s. omega arith) ∙ h.below j c;
    rest = λ j a. get_or-set_other new e j v 0 (λ s. omega arith) ∙ h.rest j a;
  }

-- the next entry, which is the old one
pub filled_skip : (f : ℕ → ℕ) (i l : ℕ) (old new : List ℕ) → Filled f (suc i) l old new → get_or old i 0 ≡ f i → Filled f i l old new
filled_skip f i l old new h q = record {
  long = h.long;
  each = λ j a c. same_or_not i j
      (λ s. ap (λ (x : ℕ). get_or new x 0) s ∙ h.below i (omega arith) ∙ q ∙ ap f (sym s))
      (λ s. h.each j (next_on i j a s) c);
  below = λ j a. h.below j (omega arith);
  rest = h.rest;
}

-- the next entry
pub filled_on : (f : ℕ → ℕ) (i l : ℕ) (old new : List ℕ) → Filled f (suc i) l old new → (v : ℕ) → i < l → l ≤ length old → v ≡ f i → Filled f i l old (set new i v)
filled_on f i l old new h v b m q = record {
  long = length-set new i v ∙ h.long;
  each = λ j a c. same_or_not i j
      (λ s. let w : i < length new = omega (arith, h.long) in
      ap (λ (x : ℕ). get_or (set new i v) x 0) s ∙ get_or-set_same new i v 0 w ∙ q ∙ ap f (sym s))
      (λ s. get_or-set_other new i j v 0 s ∙ h.each j (next_on i j a s) c);
  below = λ j a. get_or-set_other new i j v 0 (λ s. omega arith) ∙ h.below j (omega arith);
  rest = λ j a. get_or-set_other new i j v 0 (λ s. omega arith) ∙ h.rest j a;
}

pub length_column : (f : ℕ → ℕ) (p n : ℕ) → length (column f p n) ≡ n
length_column f p zero = refl
length_column f p (suc n) = ap suc (length_column f (suc p) n)

pub get_or_column : (f : ℕ → ℕ) (p n i : ℕ) → i < n → get_or (column f p n) i 0 ≡ f (p + i)
get_or_column f p zero i h = absurd (omega arith)
get_or_column f p (suc n) zero h = ap f (omega arith)
get_or_column f p (suc n) (suc i) h = get_or_column f (suc p) n i (omega arith) ∙ ap f (omega arith)

pub get_or_fill : (f : ℕ → ℕ) (l i : ℕ) (old : List ℕ) → i < l → get_or (fill (column f 0 l) old) i 0 ≡ f i
unfolding fill
get_or_fill f l i old h = left (column f 0 l) (drop (length (column f 0 l)) old) i (omega (arith, length_column f 0 l)) ∙ get_or_column f 0 l i h ∙ ap f (omega arith)
  where
    left : (xs ys : List ℕ) (i : ℕ) → i < length xs → get_or (xs ++ ys) i 0 ≡ get_or xs i 0
    left [] ys i h = absurd (omega arith)
    left (x ∷ xs) ys zero h = refl
    left (x ∷ xs) ys (suc i) h = left xs ys i (omega arith)

-- the whole column
pub filled_all : (f : ℕ → ℕ) (l : ℕ) (old new : List ℕ) → Filled f 0 l old new → l ≤ length old → new ≡ fill (column f 0 l) old
unfolding fill
filled_all f l old new h m =
    ext_get_or 0 new (col ++ drop (length col) old) (h.long ∙ sym longs) (λ j b. ⊎_elim (λ (s : j < l). inside j s) (λ (s : l ≤ j). outside j s) (lt_or_ge j l))
  where
    col : List ℕ
    col = column f 0 l

    n : length col ≡ l
    n = length_column f 0 l

    longs : length (col ++ drop (length col) old) ≡ length old
    longs = length-append col (drop (length col) old) ∙ omega (arith, n, length-drop (length col) old)

    inside : (j : ℕ) → j < l → get_or new j 0 ≡ get_or (col ++ drop (length col) old) j 0
    inside j s = h.each j (omega arith) s ∙ sym (get_or_fill f l j old s)

    outside : (j : ℕ) → l ≤ j → get_or new j 0 ≡ get_or (col ++ drop (length col) old) j 0
    outside j s =
        let e : length col + (j - length col) ≡ j = omega (arith, n) in
        h.rest j s
        ∙ ap (λ (x : ℕ). get_or old x 0) (sym e)
        ∙ sym (get_or-drop (length col) old (j - length col) 0)
        ∙ sym (get_or-append-add col (drop (length col) old) (j - length col) 0)
        ∙ ap (λ (x : ℕ). get_or (col ++ drop (length col) old) x 0) e
