-- Where a search arrives: the places that it gives lie in the patch and are those of control ops, and the k-th mark is one. Assumes nothing.
use Prim.Native.Nat.{ℕ, zero, suc, ◌+◌, ◌≤◌, ◌<◌}
use native.Mathlib.Omega.{arith}
use mathlib.Core.Path.{◌≡◌, refl, ap, sym, ◌∙◌}
use mathlib.Core.Bool.{Bool, true, false}
use mathlib.Core.List.{List, [], ◌∷◌}
use mathlib.Core.Option.{Option, none, some}
use lib.ListN.{length, get_or, drop}
use lib.Seq.{get_or-drop}
use Rattle.ops.specs.Syntax.{Op, Plain, Sort, Bracket, bracket, is_function, is_while}
use Rattle.ops.specs.Syntax.Op.{control, set, load, plain}
use Rattle.ops.specs.Syntax.Plain.{comment}
use Rattle.ops.specs.Syntax.Bracket.{up, down, mid, flat}
use Rattle.basics.proofs.Clash.{clash}
use Rattle.machine_model.specs.Scan.{op_at, brackets, functions, to_end, to_else, kth, places_from}

pub length_brackets : (os : List Op) → length (brackets os) ≡ length os
length_brackets [] = refl
length_brackets (o ∷ os) = ap suc (length_brackets os)

pub brackets_at : (os : List Op) (i : ℕ) → get_or (brackets os) i flat ≡ bracket (op_at os i)
brackets_at [] i = refl
brackets_at (o ∷ os) zero = refl
brackets_at (o ∷ os) (suc i) = brackets_at os i

pub functions_at : (os : List Op) (i : ℕ) → get_or (functions os) i false ≡ is_function (op_at os i)
functions_at [] i = refl
functions_at (o ∷ os) zero = refl
functions_at (o ∷ os) (suc i) = functions_at os i

-- ---- brackets

-- a mark of a bracket or an Else
abbrev pub bent : Bracket → Bool
bent up = true
bent down = true
bent mid = true
bent flat = false

-- what a search that starts at p gives: no place, and then L, or the place of such a mark
pub data Seeks (p : ℕ) (ms : List Bracket) (L : Type 0) : Option ℕ → Type 0 where
  nowhere : L → Seeks p ms L none
  arrives : {j : ℕ} (i : ℕ) → j ≡ p + i → bent (get_or ms i flat) ≡ true → Seeks p ms L (some j)

module _ (p : ℕ) (m : Bracket) (ms : List Bracket) {L : Type 0} where
  first : bent m ≡ true → Seeks p (m ∷ ms) L (some p)
  first b = arrives {j = p} 0 (omega arith) b

  later : (r : Option ℕ) → Seeks (suc p) ms L r → Seeks p (m ∷ ms) L r
  later _ (nowhere l) = nowhere l
  later _ (arrives {j = j} i e b) = arrives {j = j} (suc i) (omega arith) b

pub end_seeks : (p d : ℕ) (ms : List Bracket) → Seeks p ms (to_end p d ms ≡ none) (to_end p d ms)
unfolding to_end
end_seeks p d [] = nowhere refl
end_seeks p d (up ∷ ms) = later p up ms _ (end_seeks (suc p) (suc d) ms)
end_seeks p zero (down ∷ ms) = first p down ms refl
end_seeks p (suc d) (down ∷ ms) = later p down ms _ (end_seeks (suc p) d ms)
end_seeks p d (mid ∷ ms) = later p mid ms _ (end_seeks (suc p) d ms)
end_seeks p d (flat ∷ ms) = later p flat ms _ (end_seeks (suc p) d ms)

-- where it finds no Else, it finds no End either
pub else_seeks : (p d : ℕ) (ms : List Bracket) → Seeks p ms (to_end p d ms ≡ none) (to_else p d ms)
unfolding to_else to_end
else_seeks p d [] = nowhere refl
else_seeks p d (up ∷ ms) = later p up ms _ (else_seeks (suc p) (suc d) ms)
else_seeks p zero (down ∷ ms) = first p down ms refl
else_seeks p (suc d) (down ∷ ms) = later p down ms _ (else_seeks (suc p) d ms)
else_seeks p zero (mid ∷ ms) = first p mid ms refl
else_seeks p (suc d) (mid ∷ ms) = later p mid ms _ (else_seeks (suc p) (suc d) ms)
else_seeks p d (flat ∷ ms) = later p flat ms _ (else_seeks (suc p) d ms)

bent_below : (ms : List Bracket) (i : ℕ) → bent (get_or ms i flat) ≡ true → i < length ms
bent_below [] i e = clash (cc)
bent_below (m ∷ ms) zero e = omega arith
bent_below (m ∷ ms) (suc i) e = omega (arith, bent_below ms i e)

seeks_below : (p : ℕ) (ms : List Bracket) (L : Type 0) (r : Option ℕ) (j : ℕ) → Seeks p ms L r → r ≡ some j → j < p + length ms
seeks_below p ms L _ j (nowhere l) e = clash (cc)
seeks_below p ms L _ j (arrives {j = k} i q b) e = let z : k ≡ j = cc in omega (arith, bent_below ms i b)

pub end_below : (p d : ℕ) (ms : List Bracket) (j : ℕ) → to_end p d ms ≡ some j → j < p + length ms
end_below p d ms j e = seeks_below p ms _ _ j (end_seeks p d ms) e

pub else_below : (p d : ℕ) (ms : List Bracket) (j : ℕ) → to_else p d ms ≡ some j → j < p + length ms
else_below p d ms j e = seeks_below p ms _ _ j (else_seeks p d ms) e

-- ---- tests of an op

-- what holds of the op at a place, and not of a comment, holds of an op of the patch
pub place_below : (f : Op → Bool) → f (plain (comment [])) ≡ false → (os : List Op) (i : ℕ) → f (op_at os i) ≡ true → i < length os
place_below f n [] i e = clash (cc)
place_below f n (o ∷ os) zero e = omega arith
place_below f n (o ∷ os) (suc i) e = omega (arith, place_below f n os i e)

pub function_below : (os : List Op) (i : ℕ) → is_function (op_at os i) ≡ true → i < length os
function_below = place_below is_function refl

-- ---- control ops

abbrev pub is_control : Op → Bool
is_control (control c) = true
is_control (set k vs) = false
is_control (load n) = false
is_control (plain p) = false

-- a control op is at the place
abbrev pub Landing : List Op → ℕ → Type 0
Landing os j = is_control (op_at os j) ≡ true

pub landing_below : (os : List Op) (j : ℕ) → Landing os j → j < length os
landing_below = place_below is_control refl

-- where the op passes a test that only control ops pass
module _ (f : Op → Bool) (fs : (k : Sort) (vs : List ℕ) → f (set k vs) ≡ false) (fl : (n : ℕ) → f (load n) ≡ false) (fp : (p : Plain) → f (plain p) ≡ false) where
  is_control_lem : (o : Op) → f o ≡ true → is_control o ≡ true
  is_control_lem (control c) e = refl
  is_control_lem (set k vs) e = sym (fs k vs) ∙ e
  is_control_lem (load n) e = sym (fl n) ∙ e
  is_control_lem (plain p) e = sym (fp p) ∙ e

pub function_lands : (os : List Op) (j : ℕ) → is_function (op_at os j) ≡ true → Landing os j
function_lands os j = is_control_lem is_function (λ k vs. refl) (λ n. refl) (λ p. refl) (op_at os j)

pub while_lands : (os : List Op) (j : ℕ) → is_while (op_at os j) ≡ true → Landing os j
while_lands os j = is_control_lem is_while (λ k vs. refl) (λ n. refl) (λ p. refl) (op_at os j)

pub mark_lands : (os : List Op) (p i j : ℕ) → j ≡ p + i → bent (get_or (drop p (brackets os)) i flat) ≡ true → Landing os j
mark_lands os p i j e t =
    is_control_lem (λ o. bent (bracket o)) (λ k vs. refl) (λ n. refl) (λ p. refl) (op_at os j)
    (rw e (ap bent (sym (brackets_at os (p + i)) ∙ sym (get_or-drop p (brackets os) i flat)) ∙ t))

-- ---- the k-th mark

kth_true : (p k : ℕ) (bs : List Bool) (j : ℕ) → kth p k bs ≡ some j → (i : ℕ) × (j ≡ p + i) × (get_or bs i false ≡ true)
unfolding kth
kth_true p k [] j e = clash (cc)
kth_true p k (false ∷ bs) j e = let r = kth_true (suc p) k bs j e in (suc r.0, omega arith, r.2)
kth_true p zero (true ∷ bs) j e = let q : p ≡ j = cc in (0, omega arith, refl)
kth_true p (suc k) (true ∷ bs) j e = let r = kth_true (suc p) k bs j e in (suc r.0, omega arith, r.2)

pub kth_is : (os : List Op) (k j : ℕ) → kth 0 k (functions os) ≡ some j → is_function (op_at os j) ≡ true
kth_is os k j e =
    let r = kth_true 0 k (functions os) j e in
    sym (functions_at os j) ∙ ap (λ i. get_or (functions os) i false) (omega arith) ∙ r.2

-- ---- the places of the marks

-- the n-th of a list
abbrev pub nth : ℕ → List ℕ → Option ℕ
nth n [] = none
nth zero (x ∷ xs) = some x
nth (suc n) (x ∷ xs) = nth n xs

pub nth_inside : (k : ℕ) (xs : List ℕ) → k < length xs → nth k xs ≡ some (get_or xs k 0)
nth_inside k [] h = absurd (omega arith)
nth_inside zero (x ∷ xs) h = refl
nth_inside (suc k) (x ∷ xs) h = nth_inside k xs (omega arith)

pub nth_outside : (k : ℕ) (xs : List ℕ) → length xs ≤ k → nth k xs ≡ none
nth_outside k [] h = refl
nth_outside zero (x ∷ xs) h = absurd (omega arith)
nth_outside (suc k) (x ∷ xs) h = nth_outside k xs (omega arith)

pub kth_nth : (p k : ℕ) (bs : List Bool) → kth p k bs ≡ nth k (places_from p bs)
unfolding kth
kth_nth p zero [] = refl
kth_nth p (suc k) [] = refl
kth_nth p zero (true ∷ bs) = refl
kth_nth p (suc k) (true ∷ bs) = kth_nth (suc p) k bs
kth_nth p zero (false ∷ bs) = kth_nth (suc p) zero bs
kth_nth p (suc k) (false ∷ bs) = kth_nth (suc p) (suc k) bs
