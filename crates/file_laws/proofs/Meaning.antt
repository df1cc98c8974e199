-- The items that are loaded are the file's ops: their rows, counts and needs are those of `op_at`. Assumes nothing.
use mathlib.Core.Path.{◌≡◌, refl, ◌∙◌, sym, ap}
use mathlib.Core.List.{List, [], ◌∷◌, map}
use Prim.Native.Nat.{ℕ, ◌+◌, ◌≤◌}
use native.Mathlib.Omega.{arith}
use borrow.Author.Tests.{eq-eqb, ne_eqb}
use lib.ListN.{length}
use Rattle.kind_table.specs.Kinds.{shape, need, lanes_asked, index_of, run_need}
use Rattle.kind_table.specs.declared.shape.Shape.{Shape}
use Rattle.kind_table.specs.declared.need.Need.{Need}
use Rattle.ops.specs.Record.{count_of}
use Rattle.ops.specs.Syntax.{Control, Plain, Op, kind_of, plain_kind, needs, needs_of, plain_needs}
use Rattle.ops.specs.Patch.{Item, row_in, count_in, need_in, patch_of}
use Rattle.ops.specs.Decode.{row_at, plain_with, op_with, op_at, plain_count, op_count, ops_of}
use Rattle.ops.specs.Decode.Patch.{ops, refused}
use Rattle.byte_fields.proofs.ValuesAt.{length_values}
use Rattle.byte_fields.proofs.TextAt.{length_text}
use Rattle.patch_reader.proofs.Whole.{Tells, tells}
use Rattle.file_laws.proofs.Items.{IsItem, Every, items_are}
use Rattle.file_laws.proofs.Rows.{control_rule, plain_rule, rule, Row, row_rule}

-- ---- the file's ops

pub ops_are : (s : List ℕ) → (patch_of s).number ≡ 0 → ops_of s ≡ ops (map (op_at s) (patch_of s).items)
unfolding ops_of
ops_are s h = simp (eq-eqb (patch_of s).number 0 h)

pub refused_are : (s : List ℕ) → ((patch_of s).number ≡ 0 → ⊥) → ops_of s ≡ refused (patch_of s).number (patch_of s).place
unfolding ops_of
refused_are s h = simp (ne_eqb (patch_of s).number 0 h)

-- ---- what a payload leaves of an op as it was: its kind and its need

module _ (s : List ℕ) (p n : ℕ) where
  plain_kind_lem : (q : Plain) → plain_kind (plain_with s p n q) ≡ plain_kind q
  plain_kind_lem q = grind arith

  kind_with : (o : Op) → kind_of (op_with s p n o) ≡ kind_of o
  kind_with o = grind (arith, plain_kind_lem)

  control_need : (c : Control) → needs_of c ≡ lanes_asked (control_rule c) 0
  control_need c = grind arith

  plain_need : (q : Plain) → plain_needs (plain_with s p n q) ≡ lanes_asked (need (plain_rule q)) (plain_count (plain_with s p n q))
  plain_need q = grind arith

  need_with : (o : Op) → needs (op_with s p n o) ≡ lanes_asked (need (rule o)) (op_count (op_with s p n o))
  need_with o = grind (arith, control_need, plain_need)

-- ---- what a payload counts

module _ (s : List ℕ) (p l n : ℕ) (h : p + l ≤ length s) where
  plain_count_lem : (q : Plain) → n ≡ count_of s (shape (plain_rule q)) p l → plain_count (plain_with s p n q) ≡ n
  unfolding count_of
  plain_count_lem q e = grind (arith, length_text)

  count_with : (o : Op) → n ≡ count_of s (shape (rule o)) p l → op_count (op_with s p n o) ≡ n
  unfolding count_of
  count_with o e = grind (arith, length_values, plain_count_lem)

-- ---- an item and its op

-- the op that an item means has the item's row, count and need
pub record Means (s : List ℕ) (i : Item) : Type 0 where
  pub row : index_of (kind_of (op_at s i)) ≡ i.row
  pub count : op_count (op_at s i) ≡ i.count
  pub needed : needs (op_at s i) ≡ need_in i

module _ (s : List ℕ) (i : Item) (h : IsItem s i) where
  told : Tells s h.first i.row i.payload h.len i.count h.next
  told = tells s h.first i.row i.payload h.len i.count h.next h.is

  its_row : Row i.row
  its_row = row_rule i.row told.small told.kept

  its_count : op_count (op_at s i) ≡ i.count
  unfolding op_at
  its_count =
      let w : i.payload + h.len ≤ length s = omega (arith, told.size, told.within) in
      count_with s i.payload h.len i.count w (row_at i.row)
      (told.counts ∙ ap (λ (c : Shape). count_of s c i.payload h.len) its_row.shaped)

  its_need : needs (op_at s i) ≡ need_in i
  unfolding op_at run_need
  its_need =
      need_with s i.payload i.count (row_at i.row)
      ∙ ap (lanes_asked (need (rule (row_at i.row)))) its_count
      ∙ ap (λ (c : Need). lanes_asked c i.count) (sym its_row.needed)

  pub means : Means s i
  unfolding op_at
  means = record {
    row = ap index_of (kind_with s i.payload i.count (row_at i.row)) ∙ its_row.number;
    count = its_count;
    needed = its_need;
  }

-- ---- the arrays' columns are those of the ops

module _ (P : Item → Type 0) (f g : Item → ℕ) (h : (i : Item) → P i → f i ≡ g i) where
  same : (xs : List Item) → Every P xs → map f xs ≡ map g xs
  same [] e = refl
  same (x ∷ xs) e = ap (λ (a : ℕ). a ∷ map f xs) (h x e.0) ∙ ap (λ (l : List ℕ). g x ∷ l) (same xs e.1)

module _ (s : List ℕ) where
  pub rows_are : map (λ (i : Item). index_of (kind_of (op_at s i))) (patch_of s).items ≡ map row_in (patch_of s).items
  rows_are = same (IsItem s) _ _ (λ (i : Item) (h : IsItem s i). (means s i h).row) (patch_of s).items (items_are s)

  pub counts_are : map (λ (i : Item). op_count (op_at s i)) (patch_of s).items ≡ map count_in (patch_of s).items
  counts_are = same (IsItem s) _ _ (λ (i : Item) (h : IsItem s i). (means s i h).count) (patch_of s).items (items_are s)

  pub needs_are : map (λ (i : Item). needs (op_at s i)) (patch_of s).items ≡ map need_in (patch_of s).items
  needs_are = same (IsItem s) _ _ (λ (i : Item) (h : IsItem s i). (means s i h).needed) (patch_of s).items (items_are s)
