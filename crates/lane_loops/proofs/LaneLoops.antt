-- What the proofs of the lane loops share: how long the result is, and one turn, for any rule. Assumes nothing.
use Rattle.std.proofs.Common.{◌≡◌, refl, ap, List, [], ◌∷◌, ◌++◌, ℕ, ◌+◌, ◌≤◌, ◌<◌, length, get_or, set, take, drop}
use Prim.Native.Nat.{zero, suc}
use native.Mathlib.Numerals.{add-one}
use native.Mathlib.Nat.{le_of_suc-le-suc, not-suc-le-zero}
use Rattle.lane_loops.specs.Loops.{zip_to, map_to, beside}

pub length_zip : (f : ℕ → ℕ → ℕ) (i : ℕ) (r c : List ℕ) → length (zip_to f i r c) ≡ length r
unfolding zip_to
length_zip f zero r c = refl
length_zip f (suc i) [] c = refl
length_zip f (suc i) (x ∷ r) [] = refl
length_zip f (suc i) (x ∷ r) (y ∷ c) = ap suc (length_zip f i r c)

-- the lane at i, taken by the rule with the cell at i, makes i lanes done i + 1
pub zip_turn : (f : ℕ → ℕ → ℕ) (i : ℕ) (r c : List ℕ) → i < length r → i < length c
    → set (zip_to f i r c) i (f (get_or (zip_to f i r c) i 0) (get_or c i 0)) ≡ zip_to f (suc i) r c
unfolding zip_to
zip_turn f i [] c h k = absurd (not-suc-le-zero h)
zip_turn f i (x ∷ r) [] h k = absurd (not-suc-le-zero k)
zip_turn f zero (x ∷ r) (y ∷ c) h k = refl
zip_turn f (suc i) (x ∷ r) (y ∷ c) h k = ap (λ (l : List ℕ). f x y ∷ l) (zip_turn f i r c (le_of_suc-le-suc h) (le_of_suc-le-suc k))

pub length-map : (f : ℕ → ℕ) (i : ℕ) (r : List ℕ) → length (map_to f i r) ≡ length r
unfolding map_to
length-map f zero r = refl
length-map f (suc i) [] = refl
length-map f (suc i) (x ∷ r) = ap suc (length-map f i r)

pub map_turn : (f : ℕ → ℕ) (i : ℕ) (r : List ℕ) → i < length r → set (map_to f i r) i (f (get_or (map_to f i r) i 0)) ≡ map_to f (suc i) r
unfolding map_to
map_turn f i [] h = absurd (not-suc-le-zero h)
map_turn f zero (x ∷ r) h = refl
map_turn f (suc i) (x ∷ r) h = ap (λ (l : List ℕ). f x ∷ l) (map_turn f i r (le_of_suc-le-suc h))

-- the same, as a loop's turn has it: the list and the result by what is known of them
pub zip_again : (f : ℕ → ℕ → ℕ) (i : ℕ) (r c l : List ℕ) (v : ℕ) → l ≡ zip_to f i r c → v ≡ f (get_or l i 0) (get_or c i 0) → i < length r → i < length c
    → set l i v ≡ zip_to f (i + 1) r c
zip_again f i r c l v e w h k = rw (add-one i, w, e) (zip_turn f i r c h k)

pub map_again : (f : ℕ → ℕ) (i : ℕ) (r l : List ℕ) (v : ℕ) → l ≡ map_to f i r → v ≡ f (get_or l i 0) → i < length r → set l i v ≡ map_to f (i + 1) r
map_again f i r l v e w h = rw (add-one i, w, e) (map_turn f i r h)

-- the first lane alone
pub zip_first : (f : ℕ → ℕ → ℕ) (r c : List ℕ) (v : ℕ) → v ≡ f (get_or r 0 0) (get_or c 0 0) → 1 ≤ length r → 1 ≤ length c → set r 0 v ≡ zip_to f 1 r c
unfolding zip_to
zip_first f r c v e h k = zip_again f 0 r c r v refl e h k

pub map_first : (f : ℕ → ℕ) (r : List ℕ) (v : ℕ) → v ≡ f (get_or r 0 0) → 1 ≤ length r → set r 0 v ≡ map_to f 1 r
unfolding map_to
map_first f r v e h = map_again f 0 r r v refl e h

-- a rule over a list of the first n lanes, with the others behind them
pub map_part : (f : ℕ → ℕ) (n i : ℕ) (r : List ℕ) → n ≤ length r → length (take n r) ≤ i → map_to f i (take n r) ++ drop n r ≡ map_to f n r
unfolding map_to
map_part f zero zero r h k = refl
map_part f zero (suc i) r h k = refl
map_part f (suc n) i [] h k = absurd (not-suc-le-zero h)
map_part f (suc n) zero (x ∷ r) h k = absurd (not-suc-le-zero k)
map_part f (suc n) (suc i) (x ∷ r) h k = ap (λ (l : List ℕ). f x ∷ l) (map_part f n i r (le_of_suc-le-suc h) (le_of_suc-le-suc k))

-- the first n cells, with the lanes from there on behind them
pub zip_beside : (n : ℕ) (r c : List ℕ) → n ≤ length r → n ≤ length c → take n c ++ drop n r ≡ zip_to beside n r c
unfolding zip_to
zip_beside zero r c h k = refl
zip_beside (suc n) [] c h k = absurd (not-suc-le-zero h)
zip_beside (suc n) (x ∷ r) [] h k = absurd (not-suc-le-zero k)
zip_beside (suc n) (x ∷ r) (y ∷ c) h k = ap (λ (l : List ℕ). y ∷ l) (zip_beside n r c (le_of_suc-le-suc h) (le_of_suc-le-suc k))
