-- What a caller of `load` knows, from its contract: the first entries of each column, as many as there are ops, are a field of the items, and
-- the answer tells a good file from a bad one. Assumes nothing.
use mathlib.Core.Path.{◌≡◌, refl, ap, sym, ◌∙◌}
use mathlib.Core.Bool.{Bool, true, false, cond}
use mathlib.Core.List.{List, map}
use Prim.Native.Nat.{ℕ, ◌≤◌}
use native.Mathlib.Omega.{arith}
use borrow.Author.Tests.{eqb-true}
use lib.Dec.{eqb}
use lib.ListN.{length, take, drop, length-map, length-append}
use lib.Seq.{take_at}
use Rattle.std.proofs.Common.{Result, Ok, Err}
use Rattle.basics.specs.Limits.{most_ops}
use Rattle.basics.proofs.Clash.{clash}
use Rattle.byte_fields.specs.Storage.{fill}
use Rattle.ops.specs.Patch.{Item, patch_of}
use Rattle.patch_reader.specs.Answer.{read_of}
use Rattle.patch_reader.specs.declared.reader.Unread.{Unread}
use Rattle.file_laws.proofs.Items.{few_items}

-- ---- a good file, whose answer is n

is_good : (t : Bool) (n k : ℕ) (u : Unread) → ◌≡◌ {A = Result ℕ Unread} (Ok n) (cond t (Ok k) (Err u)) → (t ≡ true) × (n ≡ k)
is_good true n k u e = (refl, cc)
is_good false n k u e = clash (cc)

module _ (s : List ℕ) (n : ℕ) (e : Ok n ≡ read_of (patch_of s)) where
  pub good_file : (patch_of s).number ≡ 0
  unfolding read_of
  good_file = eqb-true (patch_of s).number 0 (is_good (eqb (patch_of s).number 0) n _ _ e).0

  pub good_ops : n ≡ length (patch_of s).items
  unfolding read_of
  good_ops = (is_good (eqb (patch_of s).number 0) n _ _ e).1

-- ---- a bad file, whose answer is u

is_bad : (t : Bool) (k : ℕ) (u v : Unread) → ◌≡◌ {A = Result ℕ Unread} (Err u) (cond t (Ok k) (Err v)) → (t ≡ false) × (u ≡ v)
is_bad true k u v e = clash (cc)
is_bad false k u v e = (refl, cc)

module _ (s : List ℕ) (u : Unread) (e : Err u ≡ read_of (patch_of s)) where
  is_unread : u ≡ record { number = (patch_of s).number; place = (patch_of s).place; ops = length (patch_of s).items }
  unfolding read_of
  is_unread = (is_bad (eqb (patch_of s).number 0) _ u _ e).1

  pub bad_file : (patch_of s).number ≡ 0 → ⊥
  unfolding read_of
  bad_file q = let t = rw q at (is_bad (eqb (patch_of s).number 0) _ u _ e).0 in clash (cc)

  pub bad_number : u.number ≡ (patch_of s).number
  bad_number = ap (λ (a : Unread). a.number) is_unread

  pub bad_place : u.place ≡ (patch_of s).place
  bad_place = ap (λ (a : Unread). a.place) is_unread

  pub bad_ops : u.ops ≡ length (patch_of s).items
  bad_ops = ap (λ (a : Unread). a.ops) is_unread

-- ---- either, where n ops were read

module _ (s : List ℕ) (n : ℕ) (e : n ≡ length (patch_of s).items) where
  pub few : n ≤ most_ops
  few = omega (arith, e, few_items s)

  -- ---- a column that holds a field of the items over what it held before

  module _ (f : Item → ℕ) (l old : List ℕ) (q : l ≡ fill (map f (patch_of s).items) old) where
    pub part_is : take n l ≡ map f (patch_of s).items
    unfolding fill
    part_is =
        ap (take n) q
        ∙ take_at (map f (patch_of s).items) (drop (length (map f (patch_of s).items)) old) n (length-map (patch_of s).items f ∙ sym e)

    pub part_length : n ≡ length (take n l)
    part_length = e ∙ sym (ap length part_is ∙ length-map (patch_of s).items f)

    pub part_fits : n ≤ length l
    unfolding fill
    part_fits =
        omega (arith, ap length q, e, length-append (map f (patch_of s).items) (drop (length (map f (patch_of s).items)) old), length-map (patch_of s).items f)

    pub part_few : length (take n l) ≤ most_ops
    part_few = omega (arith, part_length, few)
