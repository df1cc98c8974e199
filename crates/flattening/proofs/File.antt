-- What `flatten` knows of a file after `load`, after the numbering and after the writing, and its answer by that. Assumes nothing.
use Prim.Native.Nat.{ℕ, zero, suc, ◌+◌, ◌≤◌, ◌<◌}
use native.Mathlib.Nat.{not-suc-le-zero, le_of_suc-le-suc, zero-add}
use native.Mathlib.Omega.{arith}
use borrow.Author.Tests.{lt-ltb, le-ltb}
use mathlib.Core.Path.{◌≡◌, refl, ap, ap₂, sym, ◌∙◌}
use mathlib.Core.Bool.{Bool, true, false, cond}
use Rattle.std.specs.Prelude.{Ok, Err, ◌==◌, ◌⊎◌}
use Rattle.std.proofs.Common.{inl, inr}
use mathlib.Core.List.{List, [], ◌∷◌, map}
use lib.ListN.{length, get_or, take, length-map, length-append, get_or-map}
use Rattle.std.proofs.lemmas.List.Sums.{sum_by-cons}
use Rattle.ops.specs.Syntax.{Op}
use Rattle.ops.specs.Syntax.Op.{control, set, load, plain}
use Rattle.ops.specs.Syntax.Plain.{free}
use Rattle.byte_fields.specs.Storage.{fill}
use Rattle.ops.specs.Patch.{Item, row_in, mark_of, patch_of}
use Rattle.patch_reader.specs.Answer.{read_of}
use Rattle.ops.specs.Decode.{rows, row_at, op_with, op_at}
use Rattle.ops.specs.Write.{encode_all, mark_in, marks_in}
use Rattle.patch_reader.specs.declared.reader.Unread.{Unread}
use Rattle.file_laws.proofs.Encoded.{known}
use Rattle.file_laws.proofs.Items.{IsItem, Every, items_are}
use Rattle.file_laws.proofs.Fitting.{below_all}
use Rattle.file_laws.proofs.Loaded as loaded
use Rattle.file_laws.proofs.Meaning.{means, ops_are, refused_are}
use Rattle.patch_reader.proofs.Whole.{tells}
use Rattle.flattening.specs.Flatten.{Note, note, notes, Numbered, number, body, gathered, laid, flatten, Flat}
use Rattle.flattening.specs.Flatten.Note.{stays}
use Rattle.flattening.specs.Flatten.Numbered.{stray, numbered}
use Rattle.flattening.specs.Flatten.Flat.{loose, flat}
use Rattle.flattening.specs.declared.body.Body.{Body}
use Rattle.flattening.specs.Scope.{row_note, row_notes, row_marks, listed}
use Rattle.flattening.specs.Flattened.{outcome, good_ops, ops_in, number_in, first_in, count_in, functions, ops_by, entries_by, CanWrite, too_short, of_flat, of_patch, flatten_of}
use Rattle.answers.specs.Flatten.{Flattening}
use Rattle.answers.specs.Flatten as answers
use Rattle.answers.specs.declared.flatten.FlattenError.TheVariants as error
use Rattle.flattening.proofs.Flattened.{same_ops, same_bytes}
use Rattle.flattening.proofs.InOrder.{each_has_body, as_many_bodies, length_bodies}
use Rattle.flattening.proofs.Copying.{is_patch, file_bytes}

-- ---- rows and ops

abbrev note_rows : ℕ → ℕ → List Note
note_rows p zero = []
note_rows p (suc n) = row_note p ∷ note_rows (suc p) n

note_rows_at : (p n i : ℕ) → i < n → get_or (note_rows p n) i stays ≡ row_note (p + i)
note_rows_at p zero i h = absurd (not-suc-le-zero h)
note_rows_at p (suc n) zero h = ap row_note (omega arith)
note_rows_at p (suc n) (suc i) h = note_rows_at (suc p) n i (le_of_suc-le-suc h) ∙ ap row_note (omega arith)

-- at each of the 62 rows, by one computation
all_notes : note_rows 0 62 ≡ map note rows
unfolding row_note rows
all_notes = refl

row_note_lem : (k : ℕ) → k < 62 → row_note k ≡ note (row_at k)
unfolding row_at
row_note_lem k h =
    ap row_note (sym (zero-add k))
    ∙ sym (note_rows_at 0 62 k h)
    ∙ ap (λ (l : List Note). get_or l k stays) all_notes
    ∙ get_or-map note rows k (plain free)

note_with : (s : List ℕ) (p n : ℕ) (o : Op) → note (op_with s p n o) ≡ note o
note_with s p n (control c) = refl
note_with s p n (set k vs) = refl
note_with s p n (load m) = refl
note_with s p n (plain q) = refl

module _ (s : List ℕ) where
  note_item : (i : Item) → IsItem s i → row_note i.row ≡ note (op_at s i)
  unfolding op_at
  note_item i h =
      let t = tells s h.first i.row i.payload h.len i.count h.next h.is in
      row_note_lem i.row t.small ∙ sym (note_with s i.payload i.count (row_at i.row))

  mark_item : (i : Item) → IsItem s i → cond (i.row == 2) 1 0 ≡ mark_in (op_at s i)
  unfolding mark_of
  mark_item i h = ap mark_of (sym (means s i h).row) ∙ (known (op_at s i)).3

  notes_are : (is : List Item) → Every (IsItem s) is → row_notes (map row_in is) ≡ notes (map (op_at s) is)
  notes_are [] e = refl
  notes_are (i ∷ is) e = ap₂ (λ (x : Note) (xs : List Note). x ∷ xs) (note_item i e.0) (notes_are is e.1)

  marks_are : (is : List Item) → Every (IsItem s) is → row_marks (map row_in is) ≡ marks_in (map (op_at s) is)
  marks_are [] e = refl
  marks_are (i ∷ is) e = sum_by-cons (λ k. cond (k == 2) 1 0) i.row (map row_in is) ∙ ap₂ (λ (x y : ℕ). x + y) (mark_item i e.0) (marks_are is e.1)

-- ---- room that is too short, as it is found

abbrev pub TooShort : (s o ns fs ks : List ℕ) → ℕ → Type 0
TooShort s o ns fs ks m =
    (length o < length s)
    ⊎ ((length s ≤ length o) × (length ns < m))
    ⊎ ((length s ≤ length o) × (m ≤ length ns) × (length fs < m))
    ⊎ ((length s ≤ length o) × (m ≤ length ns) × (m ≤ length fs) × (length ks < m))

is_short : (s o ns fs ks : List ℕ) (m : ℕ) → TooShort s o ns fs ks m → too_short s o ns fs ks m ≡ true
is_short s o ns fs ks m (inl h) = rw (lt-ltb (length o) (length s) h) refl
is_short s o ns fs ks m (inr (inl h)) = rw (le-ltb (length o) (length s) h.0, lt-ltb (length ns) m h.1) refl
is_short s o ns fs ks m (inr (inr (inl h))) = rw (le-ltb (length o) (length s) h.0, le-ltb (length ns) m h.1, lt-ltb (length fs) m h.2) refl
is_short s o ns fs ks m (inr (inr (inr h))) = rw (le-ltb (length o) (length s) h.0, le-ltb (length ns) m h.1, le-ltb (length fs) m h.2, lt-ltb (length ks) m h.3) refl

-- ---- a bad file

pub bad_file : (s o ns fs ks : List ℕ) (u : Unread) (a : Flattening) → Err u ≡ read_of (patch_of s) → a ≡ Err (answers.bad_file u)
    → outcome a o ns fs ks ≡ flatten_of s o ns fs ks
unfolding flatten_of
bad_file s o ns fs ks u a e ea = rw (ea, refused_are s (loaded.bad_file s u e), loaded.bad_number s u e, loaded.bad_place s u e) refl

-- ---- a good file

module _ (s : List ℕ) (n : ℕ) (e : Ok n ≡ read_of (patch_of s)) where
  good : (patch_of s).number ≡ 0
  good = loaded.good_file s n e

  good_count : n ≡ length (patch_of s).items
  good_count = loaded.good_ops s n e

  pub few_ops : n ≤ 4096
  few_ops = loaded.few s n good_count

  ops_here : ops_in s ≡ map (op_at s) (patch_of s).items
  unfolding ops_in
  ops_here = ap good_ops (ops_are s good)

  op_count : length (ops_in s) ≡ n
  op_count = ap length ops_here ∙ length-map (patch_of s).items (op_at s) ∙ sym good_count

  module _ (k₀ k : List ℕ) (ek : k ≡ fill (map row_in (patch_of s).items) k₀) where
    pub few_rows : length (take n k) ≤ 4096
    few_rows = loaded.part_few s n good_count row_in k k₀ ek

    rows_are : take n k ≡ map row_in (patch_of s).items
    rows_are = loaded.part_is s n good_count row_in k k₀ ek

    notes_here : row_notes (take n k) ≡ notes (ops_in s)
    notes_here = ap row_notes rows_are ∙ notes_are s (patch_of s).items (items_are s) ∙ ap notes (sym ops_here)

    marks_here : row_marks (take n k) ≡ marks_in (ops_in s)
    marks_here = ap row_marks rows_are ∙ marks_are s (patch_of s).items (items_are s) ∙ ap marks_in (sym ops_here)

    by_flat : (o ns fs ks : List ℕ) (f : Flat) → flatten (ops_in s) ≡ f → of_flat s o ns fs ks (marks_in (ops_in s)) f ≡ flatten_of s o ns fs ks
    unfolding flatten_of
    by_flat o ns fs ks f q = ap (of_flat s o ns fs ks (marks_in (ops_in s))) (sym q) ∙ ap (of_patch s o ns fs ks) (sym (is_patch s good))

    flat_of : (x : Numbered) → x ≡ number 0 0 0 [] [] (row_notes (take n k)) → flatten (ops_in s) ≡ laid (ops_in s) x
    unfolding flatten
    flat_of x q = ap (λ (ns : List Note). laid (ops_in s) (number 0 0 0 [] [] ns)) (sym notes_here) ∙ ap (laid (ops_in s)) (sym q)

    -- "An End with no open bracket is 10"
    pub stray_file : (o ns fs ks : List ℕ) (p : ℕ) (a : Flattening) → stray p ≡ number 0 0 0 [] [] (row_notes (take n k)) → a ≡ Err (error.NoOpenEnd p)
        → outcome a o ns fs ks ≡ flatten_of s o ns fs ks
    unfolding flatten
    stray_file o ns fs ks p a t ea = rw ea (by_flat o ns fs ks (loose p) (flat_of (stray p) t))

    -- every op has its body
    module _ (owner : List ℕ) (flags : List Bool) (t : numbered (take (length (take n k)) owner) (listed 0 flags) ≡ number 0 0 0 [] [] (row_notes (take n k))) where
      abbrev cs : List ℕ
      cs = take n owner

      abbrev seen : List ℕ
      seen = listed 0 flags

      told_is : numbered cs seen ≡ number 0 0 0 [] [] (row_notes (take n k))
      told_is = ap (λ (i : ℕ). numbered (take i owner) seen) (loaded.part_length s n good_count row_in k k₀ ek) ∙ t

      abbrev gs : List Op
      gs = ops_by flags cs (ops_in s)

      abbrev es : List Body
      es = entries_by flags cs (ops_in s)

      flat_is : flatten (ops_in s) ≡ flat gs es
      unfolding flatten
      flat_is = flat_of (numbered cs seen) told_is

      answer_is : (o ns fs ks : List ℕ) → of_flat s o ns fs ks (marks_in (ops_in s)) (flat gs es) ≡ flatten_of s o ns fs ks
      answer_is o ns fs ks = by_flat o ns fs ks _ flat_is

      numbering : number 0 0 0 [] [] (notes (ops_in s)) ≡ numbered cs seen
      numbering = ap (number 0 0 0 [] []) (sym notes_here) ∙ sym told_is

      entries_few : length (functions flags) ≤ row_marks (take n k)
      entries_few = omega (arith, as_many_bodies (ops_in s) cs seen numbering, marks_here)

      module _ (o ns fs ks : List ℕ) (m : ℕ) (em : m ≡ row_marks (take n k)) where
        m_is : m ≡ marks_in (ops_in s)
        m_is = em ∙ marks_here

        -- no room
        pub short : TooShort s o ns fs ks m → outcome (Err error.NoRoom) o ns fs ks ≡ flatten_of s o ns fs ks
        short h = sym (rw (← m_is, is_short s o ns fs ks m h) refl) ∙ answer_is o ns fs ks

        -- room
        module _ (ho : length s ≤ length o) (hn : m ≤ length ns) (hf : m ≤ length fs) (hk : m ≤ length ks) (w : (i : ℕ) → get_or s i 0 < 256) where
          bytes_same : length (encode_all gs) ≡ length s
          bytes_same = same_bytes (ops_in s) gs _ flat_is ∙ ap length (file_bytes s good (below_all s w))

          -- what `write_bodies` asks
          pub can_write : CanWrite s cs flags o ns fs ks
          can_write = record {
            good = good;
            owned = each_has_body (ops_in s) cs seen numbering;
            few =
                omega (
                  arith,
                  same_ops (ops_in s) gs _ flat_is,
                  length-append (gathered (functions flags) cs (ops_in s)) (body 0 cs (ops_in s)),
                  op_count,
                  few_ops,
                );
            bytes = omega (arith, bytes_same, ho);
            numbers = omega (arith, entries_few, em, hn);
            firsts = omega (arith, entries_few, em, hf);
            counts = omega (arith, entries_few, em, hk);
          }

          pub written_file : (j : ℕ) (o' ns' fs' ks' : List ℕ) → j ≡ length (functions flags) → o' ≡ fill (encode_all gs) o
              → ns' ≡ fill (map number_in es) ns → fs' ≡ fill (map first_in es) fs → ks' ≡ fill (map count_in es) ks
              → outcome (answers.written n (length s) j) o' ns' fs' ks' ≡ flatten_of s o ns fs ks
          written_file j o' ns' fs' ks' en eo e1 e2 e3 =
              let a : n ≡ length gs = sym op_count ∙ sym (same_ops (ops_in s) gs _ flat_is) in
              let b : length s ≡ length (encode_all gs) = sym bytes_same in
              let c : j ≡ length es = en ∙ sym (length_bodies 0 (functions flags) cs (ops_in s)) in
              let t : too_short s o ns fs ks (marks_in (ops_in s)) ≡ false =
              rw (sym m_is, le-ltb (length o) (length s) ho, le-ltb (length ns) m hn, le-ltb (length fs) m hf, le-ltb (length ks) m hk) refl in
              rw (a, b, c, eo, e1, e2, e3) (sym (rw t refl) ∙ answer_is o ns fs ks)
