-- The search forward from an op and the search back from an End are each other's inverse, in any patch; and what the two searches forward
-- say of an Else. The whole patch is `reverse_aux r ms`: r the marks before a place, the nearest first, and ms those from it on. Assumes nothing.
use mathlib.Core.Path.{◌≡◌, ◌∙◌, refl, ap, sym}
use mathlib.Core.List.{List, [], ◌∷◌, ◌++◌, reverse, reverse_aux}
use mathlib.Core.Option.{Option, none, some}
use Prim.Native.Nat.{ℕ, zero, suc, ◌+◌, ◌≤◌, ◌<◌}
use native.Mathlib.Omega.{arith}
use native.Mathlib.Numerals.{add-one}
use native.Mathlib.Nat.{add-zero}
use lib.ListN.{length, get_or, take, drop, length-reverse, length-reverse_aux, take-append-drop}
use lib.Seq.{take-suc, drop-cons, drop-drop, get_or-drop, length-take-le}
use Rattle.ops.specs.Syntax.{Bracket}
use Rattle.ops.specs.Syntax.Bracket.{up, down, mid, flat}
use Rattle.machine_model.specs.Scan.{to_end, to_else, to_open}
use Rattle.partners.specs.Columns.{to_mid}

-- ---- a patch cut at a place

drop_back : (r ms : List Bracket) → drop (length r) (reverse_aux r ms) ≡ ms
drop_back [] ms = refl
drop_back (m ∷ r) ms =
    ap (λ (n : ℕ). drop n (reverse_aux r (m ∷ ms))) (sym (add-one (length r)))
    ∙ sym (drop-drop 1 (length r) (reverse_aux r (m ∷ ms)))
    ∙ ap (drop 1) (drop_back r (m ∷ ms))

at_back : (r : List Bracket) (m : Bracket) (ms : List Bracket) → get_or (reverse_aux r (m ∷ ms)) (length r) flat ≡ m
at_back r m ms =
    ap (λ (n : ℕ). get_or (reverse_aux r (m ∷ ms)) n flat) (sym (add-zero (length r)))
    ∙ sym (get_or-drop (length r) (reverse_aux r (m ∷ ms)) 0 flat)
    ∙ ap (λ (l : List Bracket). get_or l 0 flat) (drop_back r (m ∷ ms))

reverse_snoc : (xs : List Bracket) (y : Bracket) (r : List Bracket) → reverse_aux (xs ++ (y ∷ [])) r ≡ y ∷ reverse_aux xs r
reverse_snoc [] y r = refl
reverse_snoc (x ∷ xs) y r = reverse_snoc xs y (x ∷ r)

take_back : (r ms : List Bracket) → reverse (take (length r) (reverse_aux r ms)) ≡ r
take_back [] ms = refl
take_back (m ∷ r) ms =
    let l : List Bracket = reverse_aux r (m ∷ ms) in
    let h : length r < length l = omega (arith, length-reverse_aux r (m ∷ ms)) in
    ap reverse (take-suc l (length r) flat h)
    ∙ reverse_snoc (take (length r) l) (get_or l (length r) flat) []
    ∙ ap (λ (x : Bracket). x ∷ reverse (take (length r) l)) (at_back r m ms)
    ∙ ap (λ (x : List Bracket). m ∷ x) (take_back r (m ∷ ms))

twice : (a b c : List Bracket) → reverse_aux (reverse_aux a b) c ≡ reverse_aux b (a ++ c)
twice [] b c = refl
twice (x ∷ a) b c = twice a (x ∷ b) c

whole : (i : ℕ) (ms : List Bracket) → reverse_aux (reverse (take i ms)) (drop i ms) ≡ ms
whole i ms = twice (take i ms) [] (drop i ms) ∙ take-append-drop i ms

-- ---- from an opening op to its End and back

-- where the search forward ends at q, the search back from q comes to the place with the same depth
there_back : (p d : ℕ) (ms : List Bracket) (q : ℕ) (r : List Bracket) → length r ≡ p → to_end p d ms ≡ some q → to_open 0 (reverse (take q (reverse_aux r ms))) ≡ to_open d r
unfolding to_end to_open
there_back p d [] q r l e = (cc)
there_back p d (up ∷ ms) q r l e = there_back (suc p) (suc d) ms q (up ∷ r) (ap suc l) e
there_back p zero (down ∷ ms) q r l e =
    let n : q ≡ length r = cc in
    ap (λ (x : ℕ). to_open 0 (reverse (take x (reverse_aux r (down ∷ ms))))) n ∙ ap (to_open 0) (take_back r (down ∷ ms))
there_back p (suc d) (down ∷ ms) q r l e = there_back (suc p) d ms q (down ∷ r) (ap suc l) e
there_back p d (mid ∷ ms) q r l e = there_back (suc p) d ms q (mid ∷ r) (ap suc l) e
there_back p d (flat ∷ ms) q r l e = there_back (suc p) d ms q (flat ∷ r) (ap suc l) e

-- where the search back ends at i, the search forward from i comes to the place with the same depth
back_there : (d : ℕ) (r ms : List Bracket) (i : ℕ) → to_open d r ≡ some i → to_end (suc i) 0 (drop (suc i) (reverse_aux r ms)) ≡ to_end (length r) d ms
unfolding to_end to_open
back_there d [] ms i e = (cc)
back_there zero (up ∷ r) ms i e =
    let n : i ≡ length r = cc in
    ap (λ (x : ℕ). to_end (suc x) 0 (drop (suc x) (reverse_aux r (up ∷ ms)))) n ∙ ap (to_end (suc (length r)) 0) (drop_back (up ∷ r) ms)
back_there (suc d) (up ∷ r) ms i e = back_there d r (up ∷ ms) i e
back_there d (down ∷ r) ms i e = back_there (suc d) r (down ∷ ms) i e
back_there d (mid ∷ r) ms i e = back_there d r (mid ∷ ms) i e
back_there d (flat ∷ r) ms i e = back_there d r (flat ∷ ms) i e

opener : (d : ℕ) (r ms : List Bracket) (i : ℕ) → to_open d r ≡ some i → get_or (reverse_aux r ms) i flat ≡ up
unfolding to_open
opener d [] ms i e = (cc)
opener zero (up ∷ r) ms i e =
    let n : i ≡ length r = cc in
    ap (λ (x : ℕ). get_or (reverse_aux r (up ∷ ms)) x flat) n ∙ at_back r up ms
opener (suc d) (up ∷ r) ms i e = opener d r (up ∷ ms) i e
opener d (down ∷ r) ms i e = opener (suc d) r (down ∷ ms) i e
opener d (mid ∷ r) ms i e = opener d r (mid ∷ ms) i e
opener d (flat ∷ r) ms i e = opener d r (flat ∷ ms) i e

open_below : (d : ℕ) (r : List Bracket) (i : ℕ) → to_open d r ≡ some i → i < length r
unfolding to_open
open_below d [] i e = (cc)
open_below zero (up ∷ r) i e = let n : i ≡ length r = cc in omega arith
open_below (suc d) (up ∷ r) i e = omega (arith, open_below d r i e)
open_below d (down ∷ r) i e = omega (arith, open_below (suc d) r i e)
open_below d (mid ∷ r) i e = omega (arith, open_below d r i e)
open_below d (flat ∷ r) i e = omega (arith, open_below d r i e)

-- the End that a search forward finds is one
ender : (p d : ℕ) (ms : List Bracket) (q : ℕ) (r : List Bracket) → length r ≡ p → to_end p d ms ≡ some q → get_or (reverse_aux r ms) q flat ≡ down
unfolding to_end
ender p d [] q r l e = (cc)
ender p d (up ∷ ms) q r l e = ender (suc p) (suc d) ms q (up ∷ r) (ap suc l) e
ender p zero (down ∷ ms) q r l e =
    let n : q ≡ length r = cc in
    ap (λ (x : ℕ). get_or (reverse_aux r (down ∷ ms)) x flat) n ∙ at_back r down ms
ender p (suc d) (down ∷ ms) q r l e = ender (suc p) d ms q (down ∷ r) (ap suc l) e
ender p d (mid ∷ ms) q r l e = ender (suc p) d ms q (mid ∷ r) (ap suc l) e
ender p d (flat ∷ ms) q r l e = ender (suc p) d ms q (flat ∷ r) (ap suc l) e

end_above : (p d : ℕ) (ms : List Bracket) (q : ℕ) → to_end p d ms ≡ some q → p ≤ q
unfolding to_end
end_above p d [] q e = (cc)
end_above p d (up ∷ ms) q e = omega (arith, end_above (suc p) (suc d) ms q e)
end_above p zero (down ∷ ms) q e = let n : p ≡ q = cc in omega arith
end_above p (suc d) (down ∷ ms) q e = omega (arith, end_above (suc p) d ms q e)
end_above p d (mid ∷ ms) q e = omega (arith, end_above (suc p) d ms q e)
end_above p d (flat ∷ ms) q e = omega (arith, end_above (suc p) d ms q e)

module _ (ms : List Bracket) where
  back_length : (i : ℕ) → i ≤ length ms → length (reverse (take i ms)) ≡ i
  back_length i h = length-reverse (take i ms) ∙ length-take-le i ms h

  -- the op at i opens, and its End stands at e: the search back from e finds i
  pub opens_there : (i e : ℕ) → i < length ms → get_or ms i flat ≡ up → to_end (suc i) 0 (drop (suc i) ms) ≡ some e → to_open 0 (reverse (take e ms)) ≡ some i
  unfolding to_open
  opens_there i e h u q =
      let r : List Bracket = up ∷ reverse (take i ms) in
      let cut : drop i ms ≡ up ∷ drop (suc i) ms = drop-cons ms i flat h ∙ ap (λ (m : Bracket). m ∷ drop (suc i) ms) u in
      let all : reverse_aux r (drop (suc i) ms) ≡ ms = ap (reverse_aux (reverse (take i ms))) (sym cut) ∙ whole i ms in
      ap (λ (l : List Bracket). to_open 0 (reverse (take e l))) (sym all)
      ∙ there_back (suc i) 0 (drop (suc i) ms) e r (ap suc (back_length i (omega arith))) q
      ∙ ap some (back_length i (omega arith))

  -- the search forward from the place after i ends at an End
  pub end_is : (i e : ℕ) → i < length ms → to_end (suc i) 0 (drop (suc i) ms) ≡ some e → get_or ms e flat ≡ down
  end_is i e h q =
      ap (λ (l : List Bracket). get_or l e flat) (sym (whole (suc i) ms))
      ∙ ender (suc i) 0 (drop (suc i) ms) e (reverse (take (suc i) ms)) (back_length (suc i) h) q

  -- the search back from the End at e finds i: i opens, and its End stands at e
  pub ends_there : (i e : ℕ) → e < length ms → get_or ms e flat ≡ down → to_open 0 (reverse (take e ms)) ≡ some i → to_end (suc i) 0 (drop (suc i) ms) ≡ some e
  unfolding to_end
  ends_there i e h u q =
      let cut : drop e ms ≡ down ∷ drop (suc e) ms = drop-cons ms e flat h ∙ ap (λ (m : Bracket). m ∷ drop (suc e) ms) u in
      ap (λ (l : List Bracket). to_end (suc i) 0 (drop (suc i) l)) (sym (whole e ms))
      ∙ back_there 0 (reverse (take e ms)) (drop e ms) i q
      ∙ ap (λ (n : ℕ). to_end n 0 (drop e ms)) (back_length e (omega arith))
      ∙ ap (to_end e 0) cut

  pub opener_is : (i e : ℕ) → to_open 0 (reverse (take e ms)) ≡ some i → get_or ms i flat ≡ up
  opener_is i e q =
      ap (λ (l : List Bracket). get_or l i flat) (sym (whole e ms)) ∙ opener 0 (reverse (take e ms)) (drop e ms) i q

  pub opener_before : (i e : ℕ) → e ≤ length ms → to_open 0 (reverse (take e ms)) ≡ some i → i < e
  opener_before i e h q = omega (arith, open_below 0 (reverse (take e ms)) i q, back_length e h)

-- ---- an If's Else or End

-- the first of two finds
abbrev pub either : Option ℕ → Option ℕ → Option ℕ
either none y = y
either (some x) y = some x

-- the search to the Else or End finds the Else that it meets before the End, and without one the End
pub else_or_end : (p d : ℕ) (ms : List Bracket) → to_else p d ms ≡ either (to_mid p d ms) (to_end p d ms)
unfolding to_else to_mid to_end
else_or_end p d [] = refl
else_or_end p d (up ∷ ms) = else_or_end (suc p) (suc d) ms
else_or_end p zero (down ∷ ms) = refl
else_or_end p (suc d) (down ∷ ms) = else_or_end (suc p) d ms
else_or_end p zero (mid ∷ ms) = refl
else_or_end p (suc d) (mid ∷ ms) = else_or_end (suc p) (suc d) ms
else_or_end p d (flat ∷ ms) = else_or_end (suc p) d ms

-- an Else that is met lies in the list
pub mid_below : (p d : ℕ) (ms : List Bracket) (j : ℕ) → to_mid p d ms ≡ some j → j < p + length ms
unfolding to_mid
mid_below p d [] j e = (cc)
mid_below p d (up ∷ ms) j e = omega (arith, mid_below (suc p) (suc d) ms j e)
mid_below p zero (down ∷ ms) j e = (cc)
mid_below p (suc d) (down ∷ ms) j e = omega (arith, mid_below (suc p) d ms j e)
mid_below p zero (mid ∷ ms) j e = let q : p ≡ j = cc in omega arith
mid_below p (suc d) (mid ∷ ms) j e = omega (arith, mid_below (suc p) (suc d) ms j e)
mid_below p d (flat ∷ ms) j e = omega (arith, mid_below (suc p) d ms j e)
