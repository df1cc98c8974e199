-- The arrays that are read of a good file match its ops, and its ops are within the limits. Assumes nothing.
use mathlib.Core.Path.{◌≡◌, ◌∙◌, refl, ap, ap₂, sym, subst}
use mathlib.Core.Bool.{Bool, true}
use mathlib.Core.List.{List, [], ◌∷◌, map}
use Prim.Native.Nat.{ℕ, zero, suc, ◌+◌, ◌*◌, ◌≤◌, ◌<◌}
use native.Mathlib.Omega.{arith}
use native.Mathlib.Nat.{not-suc-le-zero, le_of_suc-le-suc}
use lib.Dec.{leb, eqb}
use lib.ListN.{length, get_or, length-map, get_or-map, get_or-eq_default}
use borrow.Author.Tests.{leb-true, leb-false, eqb-true}
use Rattle.basics.proofs.Tests.{by_case}
use Rattle.kind_table.specs.declared.shape.Shape.{Shape}
use Rattle.kind_table.specs.declared.shape.Shape.TheVariants.{Values}
use Rattle.kind_table.specs.Rows as row
use Rattle.kind_table.specs.Kinds.{shape, kind_at, run_need}
use Rattle.ops.specs.Record.{length_ok, count_of}
use Rattle.ops.specs.Patch.{Item, item, patch_of, row_in, count_in, need_in, payload_in, mark_of}
use Rattle.ops.specs.Syntax.{Op, Bracket, is_while, needs}
use Rattle.ops.specs.Syntax.Plain.{comment}
use Rattle.ops.specs.Syntax.Op.{plain}
use Rattle.ops.specs.Write.{Fits}
use Rattle.ops.specs.Decode as file
use Rattle.patch_reader.proofs.Whole.{Tells, tells}
use Rattle.file_laws.proofs.Items.{IsItem, Every, items_are, item_at_lem, few_items, marks_in, few_marks}
use Rattle.file_laws.proofs.Rows.{Row, row_rule}
use Rattle.file_laws.proofs.Fitting.{below_all, item_fits}
use Rattle.file_laws.proofs.Meaning.{means}
use Rattle.machine_model.specs.Scan.{op_at, brackets, functions}
use Rattle.machine_model.specs.Passed.{comments}
use Rattle.machine_model.specs.Limited.{count, Limited}
use Rattle.partners.specs.Columns.{row_bracket, row_function, Stored}
use Rattle.machine_numbers.specs.Asks.{PayloadIn}
use Rattle.machine_step.specs.Payloads.{PayloadsInBytes}
use Rattle.bridge.specs.Decoded.{code_of, patch_in}
use Rattle.bridge.specs.Run.{row_comment}
use Rattle.bridge.proofs.Families.{Told, op_row}
use Rattle.bridge.proofs.Control.{Rows}

-- ---- each item and its op

-- the i-th item
abbrev pub item_of : List ℕ → ℕ → Item
item_of s i = get_or (patch_of s).items i (item 0 0 0)

pub told : (s : List ℕ) (x : Item) → IsItem s x → Told x.row (file.op_at s x)
told s x h = subst (λ (k : ℕ). Told k (file.op_at s x)) (means s x h).row (op_row (file.op_at s x))

pub row_of : (s : List ℕ) (x : Item) → IsItem s x → Row x.row
row_of s x h =
    let t = tells s h.first x.row x.payload h.len x.count h.next h.is in
    row_rule x.row t.small t.kept

-- ---- the rows of all of them

module _ (s : List ℕ) where
  marked_are : (xs : List Item) → Every (IsItem s) xs → brackets (map (file.op_at s) xs) ≡ map row_bracket (map row_in xs)
  marked_are [] e = refl
  marked_are (x ∷ xs) e = ap₂ (λ (a : Bracket) (l : List Bracket). a ∷ l) (sym (told s x e.0).marked) (marked_are xs e.1)

  entered_are : (xs : List Item) → Every (IsItem s) xs → functions (map (file.op_at s) xs) ≡ map row_function (map row_in xs)
  entered_are [] e = refl
  entered_are (x ∷ xs) e = ap₂ (λ (a : Bool) (l : List Bool). a ∷ l) (sym (told s x e.0).entered) (entered_are xs e.1)

  looped_are : (xs : List Item) → Every (IsItem s) xs → (j : ℕ) → is_while (op_at (map (file.op_at s) xs) j) ≡ eqb (get_or (map row_in xs) j 0) 5
  looped_are [] e j = refl
  looped_are (x ∷ xs) e zero = sym (told s x e.0).looped
  looped_are (x ∷ xs) e (suc j) = looped_are xs e.1 j

  noted_are : (xs : List Item) → Every (IsItem s) xs → comments (map (file.op_at s) xs) ≡ map row_comment (map row_in xs)
  noted_are [] e = refl
  noted_are (x ∷ xs) e = ap₂ (λ (a : Bool) (l : List Bool). a ∷ l) (sym (told s x e.0).noted) (noted_are xs e.1)

  -- the rows that the machine reads are to its searches what the ops are
  pub rows : Rows (patch_in s) (code_of s).rows
  unfolding code_of patch_in
  rows =
      let xs = (patch_of s).items in let e = items_are s in
      record {
        many = length-map xs (file.op_at s) ∙ sym (length-map xs row_in);
        few = omega (arith, length-map xs row_in, few_items s);
        marked = marked_are xs e;
        entered = entered_are xs e;
        looped = looped_are xs e;
      }

  -- and tell the same comments
  pub comments_are : comments (patch_in s) ≡ map row_comment (code_of s).rows
  unfolding code_of patch_in
  comments_are = noted_are (patch_of s).items (items_are s)

-- ---- an array's entry is its item's

op_in : (f : Item → Op) (xs : List Item) (i : ℕ) → i < length xs → op_at (map f xs) i ≡ f (get_or xs i (item 0 0 0))
op_in f [] i h = absurd (not-suc-le-zero h)
op_in f (x ∷ xs) zero h = refl
op_in f (x ∷ xs) (suc i) h = op_in f xs i (le_of_suc-le-suc h)

module _ (s : List ℕ) where
  pub many_rows : length (code_of s).rows ≡ length (patch_of s).items
  unfolding code_of
  many_rows = length-map (patch_of s).items row_in

  pub op_is_item : (i : ℕ) → i < length (code_of s).rows → op_at (patch_in s) i ≡ file.op_at s (item_of s i)
  unfolding patch_in
  op_is_item i h = op_in (file.op_at s) (patch_of s).items i (rw many_rows at h)

  pub kind_is : (i : ℕ) → get_or (code_of s).rows i 0 ≡ (item_of s i).row
  unfolding code_of
  kind_is i = get_or-map row_in (patch_of s).items i (item 0 0 0)

  pub count_is : (i : ℕ) → get_or (code_of s).counts i 0 ≡ (item_of s i).count
  unfolding code_of
  count_is i = get_or-map count_in (patch_of s).items i (item 0 0 0)

  pub place_is : (i : ℕ) → get_or (code_of s).payloads i 0 ≡ (item_of s i).payload
  unfolding code_of
  place_is i = get_or-map payload_in (patch_of s).items i (item 0 0 0)

  pub bytes_are : (code_of s).bytes ≡ s
  unfolding code_of
  bytes_are = refl

  pub is_item : (i : ℕ) → i < length (code_of s).rows → IsItem s (item_of s i)
  is_item i h = item_at_lem s (item 0 0 0) i (rw many_rows at h)

  pub need_is : (i : ℕ) → i < length (code_of s).rows → get_or (code_of s).needs i 0 ≡ needs (file.op_at s (item_of s i))
  unfolding code_of run_need kind_at
  need_is i h = get_or-map need_in (patch_of s).items i (item 0 0 0) ∙ sym (means s (item_of s i) (is_item i h)).needed

-- ---- payloads inside the file

-- what the record of the i-th item tells
module _ (s : List ℕ) (i : ℕ) (h : i < length (code_of s).rows) where
  len : ℕ
  len = (is_item s i h).len

  whole : Tells s (is_item s i h).first (item_of s i).row (item_of s i).payload len (item_of s i).count (is_item s i h).next
  unfolding len
  whole = let w = is_item s i h in tells s w.first (item_of s i).row (item_of s i).payload w.len (item_of s i).count w.next w.is

  within : (item_of s i).payload + len ≤ length s
  within = omega (arith, whole.size, whole.within)

  pub few : get_or (code_of s).counts i 0 ≤ 1024
  few = omega (arith, count_is s i, whole.few)

  -- a payload of the shape that row k has
  fitted : (k : ℕ) → get_or (code_of s).rows i 0 ≡ k → length_ok (shape (kind_at k)) len ≡ true
  fitted k e = subst (λ (z : ℕ). length_ok (shape (kind_at z)) len ≡ true) (sym (kind_is s i) ∙ e) whole.fits

  values_in : (k : ℕ) → shape (kind_at k) ≡ Values → get_or (code_of s).rows i 0 ≡ k → get_or (code_of s).payloads i 0 + 8 * get_or (code_of s).counts i 0 ≤ length s
  unfolding count_of
  values_in k q e =
      let n : (item_of s i).count ≡ count_of s Values (item_of s i).payload len
      = whole.counts ∙ ap (λ (z : Shape). count_of s z (item_of s i).payload len) (ap (λ (z : ℕ). shape (kind_at z)) (sym (kind_is s i) ∙ e) ∙ q) in
      omega (arith, place_is s i, count_is s i, n, within)

  -- n bytes of a payload that has m of them
  bytes_in : (n m : ℕ) → n ≤ m → eqb len m ≡ true → get_or (code_of s).payloads i 0 + n ≤ length s
  bytes_in n m b e = omega (arith, place_is s i, eqb-true len m e, within)

  payload_in_lem : PayloadIn (get_or (code_of s).rows i 0) (get_or (code_of s).counts i 0) (get_or (code_of s).payloads i 0) s
  unfolding length_ok kind_at
  payload_in_lem =
      record {
        known = rw (kind_is s i) whole.small;
        few = few;
        ints = values_in row.set refl;
        floats = values_in row.standard_set refl;
        amount = λ e. bytes_in 8 8 (omega arith) (fitted row.move e);
        by = λ e. bytes_in 8 12 (omega arith) (fitted row.offset e);
        gets = λ e. bytes_in 2 2 (omega arith) (fitted row.get e);
        puts = λ e. bytes_in 2 2 (omega arith) (fitted row.put e);
        binds = λ e. bytes_in 2 2 (omega arith) (fitted row.standard_call e);
      }

-- the payloads of a good file lie in its bytes, and its counts are within the limit
pub payloads_in_bytes : (s : List ℕ) → PayloadsInBytes (code_of s)
unfolding code_of
payloads_in_bytes s =
    let xs = (patch_of s).items in let n = length-map xs row_in in
    record {
      many_counts = length-map xs count_in ∙ sym n;
      many_needs = length-map xs need_in ∙ sym n;
      many_payloads = length-map xs payload_in ∙ sym n;
      each = payload_in_lem s;
    }

-- its columns hold what the searches find
pub places_stored : (s : List ℕ) → Stored (code_of s).rows (code_of s).partners (code_of s).turns (code_of s).marks
unfolding code_of
places_stored s = record { partners = refl; turns = refl; marks = refl }

-- ---- within the limits

-- every byte of the file is one
pub record Bytes (s : List ℕ) : Type 0 where
  pub at : (i : ℕ) → get_or s i 0 < 256

module _ (s : List ℕ) where
  marks_counted : (xs : List Item) → count (map row_function (map row_in xs)) ≡ marks_in xs
  unfolding row_function mark_of
  marks_counted [] = refl
  marks_counted (x ∷ xs) = by_case (eqb x.row 2) (λ e. rw (e, marks_counted xs) (omega arith)) (λ e. rw (e, marks_counted xs) (omega arith))

  -- "256 Function marks"
  pub few_entered : count (functions (patch_in s)) ≤ 256
  unfolding patch_in
  few_entered = rw (entered_are s (patch_of s).items (items_are s), marks_counted (patch_of s).items) (few_marks s)

  module _ (b : Bytes s) where
    -- an op at any place: an item's, or beyond the last a comment
    fits_at : (i : ℕ) → Fits (op_at (patch_in s) i)
    fits_at i =
        by_case (leb (length (code_of s).rows) i)
        (λ e. let l : length (patch_in s) ≤ i = omega (arith, leb-true (length (code_of s).rows) i e, (rows s).many) in
        subst Fits (sym (get_or-eq_default (patch_in s) (plain (comment [])) l)) (omega arith, tt))
        (λ e. let l = leb-false (length (code_of s).rows) i e in
        subst Fits (sym (op_is_item s i l)) (item_fits s (below_all s b.at) (item_of s i) (is_item s i l)))

    -- the ops of a file are within the limits
    pub limited : Limited (patch_in s)
    limited = record { few_ops = omega (arith, (rows s).many, many_rows s, few_items s); few_marks = few_entered; each = fits_at }
