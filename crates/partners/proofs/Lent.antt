-- What a caller knows who has found the partners of a file: there is room for its marks, and the parts that it lends are the columns.
-- Assumes nothing.
use mathlib.Core.Path.{◌≡◌, ◌∙◌, refl, ap, sym}
use mathlib.Core.List.{List, [], ◌∷◌, ◌++◌, map}
use Prim.Native.Nat.{ℕ, suc, ◌+◌, ◌-◌, ◌≤◌}
use native.Mathlib.Omega.{arith}
use lib.Dec.{eqb}
use lib.ListN.{length, take, drop, length-append}
use lib.Seq.{take_at, take_all, drop-append_seam, length-take-le}
use Rattle.basics.specs.Limits.{most_marks}
use Rattle.basics.proofs.Tests.{by_case}
use Rattle.byte_fields.specs.Storage.{fill}
use Rattle.ops.specs.Patch.{Item, row_in, mark_of, patch_of}
use Rattle.file_laws.proofs.Items.{marks_in, few_marks}
use Rattle.machine_model.specs.Scan.{places_from}
use Rattle.partners.specs.Columns.{row_function, partner_at, turn_at, partners_of, turns_of, functions_of, fill_end}
use Rattle.partners.proofs.Frames.{length_column}

-- a file has no more Function marks than the limit
marks_placed : (p : ℕ) (xs : List Item) → length (places_from p (map row_function (map row_in xs))) ≡ marks_in xs
unfolding row_function mark_of
marks_placed p [] = refl
marks_placed p (x ∷ xs) =
    by_case (eqb x.row 2)
    (λ e. rw e (omega (arith, marks_placed (suc p) xs)))
    (λ e. rw e (omega (arith, marks_placed (suc p) xs)))

pub few_functions : (s : List ℕ) → length (functions_of (map row_in (patch_of s).items)) ≤ most_marks
unfolding functions_of
few_functions s = omega (arith, marks_placed 0 (patch_of s).items, few_marks s)

-- a column and the marks, as the pass leaves them: the part that is lent is what was written
module _ (xs new old : List ℕ) (e : new ≡ fill xs old) (n : ℕ) (k : length xs ≡ n) where
  pub start_lent : take n new ≡ xs
  unfolding fill
  start_lent = rw e (take_at xs (drop (length xs) old) n k)

  pub start_many : n ≡ length (take n new)
  start_many = rw start_lent (sym k)

  pub start_fits : n ≤ length new
  unfolding fill
  start_fits = omega (arith, ap (λ (l : List ℕ). length l) e, length-append xs (drop (length xs) old), k)

module _ (xs new old : List ℕ) (f : ℕ) (k : f + length xs ≡ length old) (e : new ≡ fill_end xs old) where
  at : length old - length xs ≡ f
  at = omega (arith, k)

  front : length (take f old) ≡ f
  front = length-take-le f old (omega (arith, k))

  pub end_long : length new ≡ length old
  unfolding fill_end
  end_long = rw (e, at) (length-append (take f old) xs ∙ omega (arith, front, k))

  pub end_lent : (n : ℕ) → length old ≡ n → take (n - f) (drop f new) ≡ xs
  unfolding fill_end
  end_lent n q =
      let d : drop f new ≡ xs = rw (e, at) (ap (λ (m : ℕ). drop m (take f old ++ xs)) (sym front) ∙ drop-append_seam (take f old) xs) in
      rw d (take_all (n - f) xs (omega (arith, k, q)))

-- the columns are as long as the rows
pub many_partners : (ks : List ℕ) → length (partners_of ks) ≡ length ks
unfolding partners_of
many_partners ks = length_column (partner_at ks) 0 (length ks)

pub many_turns : (ks : List ℕ) → length (turns_of ks) ≡ length ks
unfolding turns_of
many_turns ks = length_column (turn_at ks) 0 (length ks)
