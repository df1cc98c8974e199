-- What is written over a part of lent storage: one entry, and one part after another. Assumes nothing.
use mathlib.Core.Path.{◌≡◌, ◌∙◌, refl, sym, ap}
use mathlib.Core.List.{List, [], ◌∷◌, ◌++◌, append_assoc, append-nil}
use Prim.Native.Nat.{ℕ, ◌+◌, ◌-◌, ◌≤◌, ◌<◌}
use native.Mathlib.Nat.{add-zero, zero-add}
use native.Mathlib.Numerals.{add-one}
use native.Mathlib.Omega.{arith}
use lib.ListN.{length, take, drop, set, length-append, length-drop, take-append-drop}
use borrow.Rule.Slice.PartMut.{put_mid}
use lib.Seq.{append_snoc, set_split, length-take-le, take_at, drop-append-add, drop-drop}
use Rattle.byte_fields.specs.Storage.{fill, placed}

pub placed_none : (out : List ℕ) (at : ℕ) → out ≡ placed out at []
unfolding placed
placed_none out at = sym (rw (add-zero, append-nil) (take-append-drop at out))

pub placed_one : (out : List ℕ) (at v : ℕ) → at < length out → set out at v ≡ placed out at (v ∷ [])
unfolding placed
placed_one out at v h = rw (append_snoc, add-one) (set_split out at v h)

pub length_placed : (out : List ℕ) (at : ℕ) (new : List ℕ) → at + length new ≤ length out → length (placed out at new) ≡ length out
unfolding placed
length_placed out at new h = simp (length-append, length-drop, length-take-le at out (omega arith)) (omega arith)

-- a part that was lent by its bounds and comes back as `new`
pub placed_part : (out : List ℕ) (at n : ℕ) (part new : List ℕ) → part ≡ new → length new ≡ n → put_mid at (at + n - at) out part ≡ placed out at new
unfolding placed
placed_part out at n part new p h =
    let e : at + n - at ≡ length new = omega arith in rw (p, e, drop-drop (length new) at out, append_assoc) refl

-- one part, then the next
pub placed_then : (out : List ℕ) (at : ℕ) (xs ys : List ℕ) (k : ℕ) → at + length xs ≡ k → k ≤ length out
    → placed (placed out at xs) k ys ≡ placed out at (xs ++ ys)
unfolding placed
placed_then out at xs ys k e h =
    let front = take at out ++ xs in
    let f : length front ≡ k = simp (length-append, length-take-le at out (omega arith)) e in
    let q : at + length xs + length ys ≡ at + length (xs ++ ys) = omega (arith, length-append xs ys) in
    let back : drop (k + length ys) (front ++ drop (at + length xs) out) ≡ drop (at + length (xs ++ ys)) out =
    ap (λ (j : ℕ). drop (j + length ys) (front ++ drop (at + length xs) out)) (sym f)
    ∙ drop-append-add front (drop (at + length xs) out) (length ys)
    ∙ drop-drop (length ys) (at + length xs) out
    ∙ ap (λ (j : ℕ). drop j out) q in
    rw (take_at front (drop (at + length xs) out) k f, back, append_assoc (take at out) xs ys) refl

pub placed_snoc : (out : List ℕ) (at : ℕ) (xs : List ℕ) (v k : ℕ) → at + length xs ≡ k → k < length out
    → set (placed out at xs) k v ≡ placed out at (xs ++ (v ∷ []))
placed_snoc out at xs v k e h =
    let w : k < length (placed out at xs) = rw (length_placed out at xs (omega arith)) h in
    placed_one (placed out at xs) k v w ∙ placed_then out at xs (v ∷ []) k e (omega arith)

fill_placed : (xs old : List ℕ) → fill xs old ≡ placed old 0 xs
unfolding fill placed
fill_placed xs old = rw zero-add refl

-- the same over the start
pub fill_snoc : (xs old : List ℕ) (v n : ℕ) → length xs ≡ n → n < length old → set (fill xs old) n v ≡ fill (xs ++ (v ∷ [])) old
fill_snoc xs old v n e h =
    rw (fill_placed xs old, fill_placed (xs ++ (v ∷ [])) old) (placed_snoc old 0 xs v n (omega arith) h)
