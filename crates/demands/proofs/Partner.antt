-- A search finds its End where the brackets balance. Assumes nothing.
use Prim.Native.Nat.{ℕ, zero, suc, ◌+◌, ◌≤◌, ◌<◌}
use native.Mathlib.Omega.{arith}
use mathlib.Core.Path.{◌≡◌, refl, ap, ◌∙◌}
use mathlib.Core.List.{List, [], ◌∷◌, ◌++◌}
use mathlib.Core.Logic.{◌⊎◌, inl, inr}
use mathlib.Core.Option.{none}
use lib.ListN.{length, take, drop}
use lib.Seq.{take-suc, split_at}
use Rattle.basics.proofs.Clash.{clash}
use Rattle.ops.specs.Syntax.{Op, Bracket, bracket}
use Rattle.ops.specs.Syntax.Bracket.{up, down, mid, flat}
use Rattle.machine_model.specs.Scan.{op_at, brackets, to_end}
use Rattle.machine_model.proofs.Scans.{length_brackets, brackets_at}
use Rattle.patch_check.specs.Rules.{opens, closes, KeepsRules}

-- where the rest closes more than it opens by more than d, the search from depth d finds its End
end_found : (p d : ℕ) (ms : List Bracket) → opens ms + suc d ≤ closes ms → to_end p d ms ≡ none → ⊥
unfolding to_end
end_found p d [] h e = omega arith
end_found p d (up ∷ ms) h e = end_found (suc p) (suc d) ms (omega arith) e
end_found p zero (down ∷ ms) h e = clash (cc)
end_found p (suc d) (down ∷ ms) h e = end_found (suc p) d ms (omega arith) e
end_found p d (mid ∷ ms) h e = end_found (suc p) d ms h e
end_found p d (flat ∷ ms) h e = end_found (suc p) d ms h e

-- ---- counts of a list that is cut

pub opens_append : (a b : List Bracket) → opens (a ++ b) ≡ opens a + opens b
opens_append [] b = omega arith
opens_append (up ∷ a) b = omega (arith, opens_append a b)
opens_append (down ∷ a) b = opens_append a b
opens_append (mid ∷ a) b = opens_append a b
opens_append (flat ∷ a) b = opens_append a b

pub closes_append : (a b : List Bracket) → closes (a ++ b) ≡ closes a + closes b
closes_append [] b = omega arith
closes_append (up ∷ a) b = closes_append a b
closes_append (down ∷ a) b = omega (arith, closes_append a b)
closes_append (mid ∷ a) b = closes_append a b
closes_append (flat ∷ a) b = closes_append a b

-- no more Ends than brackets, one mark further
one_more : (m : Bracket) (a b a' b' : ℕ) → a' ≡ a + opens (m ∷ []) → b' ≡ b + closes (m ∷ []) → b ≤ a → (m ≡ down → b < a) → b' ≤ a'
one_more up a b a' b' p q h d = omega arith
one_more down a b a' b' p q h d = omega (arith, d refl)
one_more mid a b a' b' p q h d = omega arith
one_more flat a b a' b' p q h d = omega arith

module _ (os : List Op) (rules : KeepsRules os) where
  -- no more Ends than brackets before a place
  before : (i : ℕ) → i ≤ length os → closes (take i (brackets os)) ≤ opens (take i (brackets os))
  before zero h = omega arith
  before (suc i) h =
      one_more (bracket (op_at os i)) _ _ _ _
      (ap opens (cut i h) ∙ opens_append (take i (brackets os)) _)
      (ap closes (cut i h) ∙ closes_append (take i (brackets os)) _)
      (before i (omega arith))
      (rules.ends i h)
    where
      cut : (i : ℕ) → i < length os → take (suc i) (brackets os) ≡ take i (brackets os) ++ (bracket (op_at os i) ∷ [])
      cut i h = take-suc (brackets os) i flat (omega (arith, length_brackets os)) ∙ ap (λ m. take i (brackets os) ++ (m ∷ [])) (brackets_at os i)

  -- the counts before a place, at it and after it
  whole_opens : (i : ℕ) → i < length os → opens (brackets os) ≡ opens (take i (brackets os)) + opens (bracket (op_at os i) ∷ drop (suc i) (brackets os))
  whole_opens i h =
      ap opens (split_at (brackets os) i flat (omega (arith, length_brackets os)))
      ∙ opens_append (take i (brackets os)) _
      ∙ ap (λ m. opens (take i (brackets os)) + opens (m ∷ drop (suc i) (brackets os))) (brackets_at os i)

  whole_closes : (i : ℕ) → i < length os → closes (brackets os) ≡ closes (take i (brackets os)) + closes (bracket (op_at os i) ∷ drop (suc i) (brackets os))
  whole_closes i h =
      ap closes (split_at (brackets os) i flat (omega (arith, length_brackets os)))
      ∙ closes_append (take i (brackets os)) _
      ∙ ap (λ m. closes (take i (brackets os)) + closes (m ∷ drop (suc i) (brackets os))) (brackets_at os i)

  -- after an op that opens a bracket, or an Else, the search finds an End: there is one more than brackets
  pub closes_after : (i : ℕ) → i < length os → (bracket (op_at os i) ≡ up) ⊎ (bracket (op_at os i) ≡ mid) → to_end (suc i) 0 (drop (suc i) (brackets os)) ≡ none → ⊥
  closes_after i h (inl e) =
      end_found (suc i) 0 _ (omega (arith, before i (omega arith), rules.closed, rw e at (whole_opens i h), rw e at (whole_closes i h)))
  closes_after i h (inr e) =
      end_found (suc i) 0 _ (omega (arith, rules.elses i h e, rules.closed, rw e at (whole_opens i h), rw e at (whole_closes i h)))
