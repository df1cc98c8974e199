-- Storage whose first entries stand for a list: what a push, a fill, a copy and a lane loop leave of it. Assumes nothing.
use mathlib.Core.Path.{◌≡◌, refl, ap, sym}
use mathlib.Core.List.{List, [], ◌∷◌, ◌++◌, append_assoc}
use Prim.Native.Nat.{ℕ, zero, suc, ◌+◌, ◌≤◌, ◌<◌}
use native.Mathlib.Omega.{arith}
use lib.ListN.{length, set, take, drop, length-append, length-set, length-drop, take-append-drop}
use lib.Seq.{length-take-le, drop_at, drop-set-lt, drop-drop}
use Rattle.lane_loops.specs.Loops.{zip_to, map_to, beside}
use Rattle.byte_fields.specs.Bytes.{values_at}
use Rattle.byte_fields.specs.Storage.{fill}
use Rattle.machine_numbers.specs.Parts.{copied}

-- n of `new` count, and the rest of it is as in `old`
pub record Laid (n : ℕ) (old new : List ℕ) : Type 0 where
  pub count : length (take n new) ≡ n
  pub whole : fill (take n new) old ≡ new

pub laid_by : (n : ℕ) (old new : List ℕ) → n ≤ length new → drop n old ≡ drop n new → Laid n old new
unfolding fill
laid_by n old new h e =
    let c = length-take-le n new h in
    record { count = c; whole = rw (c, e) (take-append-drop n new) }

pub laid_same : (n : ℕ) (l : List ℕ) → n ≤ length l → Laid n l l
laid_same n l h = laid_by n l l h refl

pub laid_push : (l : List ℕ) (d v : ℕ) → d < length l → Laid (d + 1) l (set l d v)
laid_push l d v h = laid_by (d + 1) l (set l d v) (rw length-set (omega arith)) (sym (drop-set-lt (d + 1) l d v (omega arith)))

-- a value among those that count
pub laid_set : (l : List ℕ) (n i v : ℕ) → i < n → n ≤ length l → Laid n l (set l i v)
laid_set l n i v h b = laid_by n l (set l i v) (rw length-set b) (sym (drop-set-lt n l i v h))

-- values over the start
pub laid_fill : (vs l : List ℕ) (n : ℕ) → length vs ≡ n → n ≤ length l → Laid n l (vs ++ drop n l)
laid_fill vs l n e h =
    laid_by n l (vs ++ drop n l) (simp (length-append, length-drop, e) (omega arith)) (sym (drop_at vs (drop n l) n e))

pub length_part : (l : List ℕ) (p n : ℕ) → p + n ≤ length l → length (take n (drop p l)) ≡ n
length_part l p n h = length-take-le n (drop p l) (simp length-drop (omega arith))

pub length_values : (s : List ℕ) (p n : ℕ) → length (values_at s p n) ≡ n
unfolding values_at
length_values s p zero = refl
length_values s p (suc n) = ap suc (length_values s (p + 8) n)

-- ---- a rule over the first n lanes

module _ (f : ℕ → ℕ → ℕ) where
  pub zip_take : (m n : ℕ) (r t : List ℕ) → n ≤ m → take m (zip_to f n r t) ≡ zip_to f n (take m r) t
  unfolding zip_to
  zip_take m zero r t h = refl
  zip_take zero (suc n) r t h = absurd (omega arith)
  zip_take (suc m) (suc n) [] t h = refl
  zip_take (suc m) (suc n) (a ∷ r) [] h = refl
  zip_take (suc m) (suc n) (a ∷ r) (b ∷ t) h = ap (λ (l : List ℕ). f a b ∷ l) (zip_take m n r t (omega arith))

  pub zip_drop : (m n : ℕ) (r t : List ℕ) → n ≤ m → drop m (zip_to f n r t) ≡ drop m r
  unfolding zip_to
  zip_drop m zero r t h = refl
  zip_drop zero (suc n) r t h = absurd (omega arith)
  zip_drop (suc m) (suc n) [] t h = refl
  zip_drop (suc m) (suc n) (a ∷ r) [] h = refl
  zip_drop (suc m) (suc n) (a ∷ r) (b ∷ t) h = zip_drop m n r t (omega arith)

module _ (f : ℕ → ℕ) where
  pub map_take : (m n : ℕ) (r : List ℕ) → n ≤ m → take m (map_to f n r) ≡ map_to f n (take m r)
  unfolding map_to
  map_take m zero r h = refl
  map_take zero (suc n) r h = absurd (omega arith)
  map_take (suc m) (suc n) [] h = refl
  map_take (suc m) (suc n) (a ∷ r) h = ap (λ (l : List ℕ). f a ∷ l) (map_take m n r (omega arith))

  pub map_drop : (m n : ℕ) (r : List ℕ) → n ≤ m → drop m (map_to f n r) ≡ drop m r
  unfolding map_to
  map_drop m zero r h = refl
  map_drop zero (suc n) r h = absurd (omega arith)
  map_drop (suc m) (suc n) [] h = refl
  map_drop (suc m) (suc n) (a ∷ r) h = map_drop m n r (omega arith)

-- ---- a copy

pub beside_is : (n : ℕ) (r t : List ℕ) → n ≤ length r → n ≤ length t → zip_to beside n r t ≡ take n t ++ drop n r
unfolding zip_to
beside_is zero r t h k = refl
beside_is (suc n) [] t h k = absurd (omega arith)
beside_is (suc n) (a ∷ r) [] h k = absurd (omega arith)
beside_is (suc n) (a ∷ r) (b ∷ t) h k = ap (λ (l : List ℕ). b ∷ l) (beside_is n r t (omega arith) (omega arith))

-- n cells from p on, by the lanes g
pub copied_is : (t : List ℕ) (p : ℕ) (g : List ℕ) (n : ℕ) → p + n ≤ length t → n ≤ length g → copied t p g n ≡ take p t ++ take n g ++ drop (p + n) t
unfolding copied
copied_is t p g n h k =
    rw (beside_is n (drop p t) g (simp length-drop (omega arith)) k, drop-drop, append_assoc) refl
