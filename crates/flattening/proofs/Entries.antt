-- The caller's list: what the walks of `write_entries` and `flatten` cite, and the laws of `flatten_to`. Assumes nothing.
use Prim.Native.Nat.{ℕ, zero, suc, ◌+◌, ◌≤◌, ◌<◌}
use native.Mathlib.Numerals.{add-one}
use native.Mathlib.Omega.{arith}
use borrow.Author.Tests.{eqb-true, eqb-false, ltb-true, ltb-false, lt-ltb, le-ltb}
use mathlib.Core.Path.{◌≡◌, refl, ap, sym, ◌∙◌, subst}
use mathlib.Core.Bool.{Bool, true, false, cond, ◌||◌}
use mathlib.Core.List.{List, [], ◌∷◌, ◌++◌, map, append_assoc}
use lib.Dec.{eqb, ltb}
use lib.ListN.{length, get_or, set, take, drop, replicate, length-append, length-map, length-replicate, take-append-drop}
use lib.Seq.{append_snoc, drop-cons, set_at, take_at, drop_at, take-append_seam}
use Rattle.std.proofs.lemmas.List.{take-replicate, drop-map}
use Rattle.std.specs.Prelude.{Err}
use Rattle.basics.proofs.Clash.{clash}
use Rattle.basics.proofs.Tests.{or_right, by_case}
use Rattle.ops.specs.Syntax.{Op}
use Rattle.byte_fields.specs.Storage.{fill}
use Rattle.ops.specs.Decode.{Patch, ops_of}
use Rattle.ops.specs.Decode.Patch.{ops}
use Rattle.ops.specs.Patch.{patch_of}
use Rattle.ops.specs.Write.{Below, encode_all, marks_in}
use Rattle.file_laws.proofs.Fitting.{few_marks_in}
use Rattle.file_laws.proofs.Meaning.{refused_are}
use Rattle.flattening.specs.Flatten.{notes, number, others, flatten, Flat}
use Rattle.flattening.specs.Flatten.Numbered.{numbered}
use Rattle.flattening.specs.Flatten.Flat.{loose, flat}
use Rattle.answers.specs.Flatten.{Flattening, bytes_of, bodies_of}
use Rattle.answers.specs.Flatten as answers
use Rattle.flattening.specs.Flattened.{Outcome, outcome, ops_in, number_in, first_in, count_in, written, untouched, too_short, of_flat, of_patch, flatten_of}
use Rattle.flattening.specs.Entries.{entry, beside, Listing, listing, in_list, flatten_to, room_of, entry_of, entries_of, entry_at, entries_in, over}
use Rattle.flattening.specs.declared.body.Body.{Body}
use Rattle.answers.specs.declared.flatten.FlattenError.{FlattenError}
use Rattle.answers.specs.declared.flatten.FlattenError.TheVariants.{BadFile, NoOpenEnd, NoRoom}
use Rattle.flattening.specs.declared.flatten.Columns.{Columns}
use Rattle.flattening.proofs.InOrder.{as_many_entries}
use Rattle.flattening.proofs.Copying.{is_patch}
use Rattle.flattening.proofs.FlattenedIsAPatch.{patch_again, Says, bodies_say}

-- ---- the columns: what is lent of their arrays

abbrev zeros : ℕ → List ℕ
zeros n = replicate n 0

pub part_long : (n : ℕ) → n ≤ 256 → n ≡ length (take n (zeros 256))
part_long n h = sym (ap length (take-replicate n 256 0 h) ∙ length-replicate n 0)

pub columns_are : (s o o' : List ℕ) (a : Flattening) (n : ℕ) (ns fs cs : List ℕ) → n ≤ 256
    → length ns ≡ length (take n (zeros 256)) → length fs ≡ length (take n (zeros 256)) → length cs ≡ length (take n (zeros 256))
    → outcome a o' ns fs cs ≡ flatten_of s o (take n (zeros 256)) (take n (zeros 256)) (take n (zeros 256))
    → outcome a o' (take n (ns ++ drop n (zeros 256))) (take n (fs ++ drop n (zeros 256))) (take n (cs ++ drop n (zeros 256))) ≡ flatten_of s o (zeros n) (zeros n) (zeros n)
columns_are s o o' a n ns fs cs h ln lf lc e = by (drop n (zeros 256))
  where
    p : n ≡ length (take n (zeros 256))
    p = part_long n h

    by : (z : List ℕ) → outcome a o' (take n (ns ++ z)) (take n (fs ++ z)) (take n (cs ++ z)) ≡ flatten_of s o (zeros n) (zeros n) (zeros n)
    by z = rw (take_at ns z n (ln ∙ sym p), take_at fs z n (lf ∙ sym p), take_at cs z n (lc ∙ sym p)) (e ∙ ap (λ (l : List ℕ). flatten_of s o l l l) (take-replicate n 256 0 h))

-- ---- the list: one entry after another

length_entries : (ns fs cs : List ℕ) (n : ℕ) → length (entries_of ns fs cs n) ≡ n
unfolding entries_of
length_entries ns fs cs zero = refl
length_entries ns fs cs (suc n) = omega (arith, length-append (entries_of ns fs cs n) (entry_of ns fs cs n ∷ []), length_entries ns fs cs n)

pub over_none : (c : Columns) (l : List Body) → l ≡ over (entries_in c 0) l
unfolding over entries_of
over_none c l = refl

over_snoc : (xs l : List Body) (b : Body) (n : ℕ) → length xs ≡ n → n < length l → set (over xs l) n b ≡ over (xs ++ (b ∷ [])) l
unfolding over
over_snoc xs l b n e h =
    let k : length (xs ++ (b ∷ [])) ≡ suc n = omega (arith, length-append xs (b ∷ []), e) in
    ap (λ (j : ℕ). set (xs ++ drop j l) n b) e
    ∙ ap (λ (r : List Body). set (xs ++ r) n b) (drop-cons l n b h)
    ∙ set_at xs (get_or l n b) (drop (suc n) l) b n e
    ∙ sym (append_snoc xs b (drop (suc n) l))
    ∙ ap (λ (j : ℕ). (xs ++ (b ∷ [])) ++ drop j l) (sym k)

pub over_more : (c : Columns) (l zs : List Body) (b : Body) (i : ℕ) → i < length l → zs ≡ over (entries_in c i) l → b ≡ entry_at c i → set zs i b ≡ over (entries_in c (i + 1)) l
unfolding entries_of
over_more c l zs b i h e eb =
    ap (λ (ys : List Body). set ys i b) e
    ∙ over_snoc (entries_in c i) l b i (length_entries c.numbers c.firsts c.counts i) h
    ∙ ap (λ (y : Body). over (entries_in c i ++ (y ∷ [])) l) eb
    ∙ ap (λ (j : ℕ). over (entries_in c j) l) (sym (add-one i))

-- ---- entries and columns

beside_columns : (l : List Body) → beside (map number_in l) (map first_in l) (map count_in l) ≡ l
beside_columns [] = refl
beside_columns (b ∷ l) = ap (λ (r : List Body). b ∷ r) (beside_columns l)

beside_append : (bs : List Body) (ns fs cs : List ℕ) → beside (map number_in bs ++ ns) (map first_in bs ++ fs) (map count_in bs ++ cs) ≡ bs ++ beside ns fs cs
beside_append [] ns fs cs = refl
beside_append (b ∷ bs) ns fs cs = ap (λ (r : List Body). b ∷ r) (beside_append bs ns fs cs)

fill_column : (f : Body → ℕ) (bs l : List Body) → fill (map f bs) (map f l) ≡ map f bs ++ map f (drop (length bs) l)
unfolding fill
fill_column f bs l = ap (λ (k : ℕ). map f bs ++ drop k (map f l)) (length-map bs f) ∙ ap (λ (r : List ℕ). map f bs ++ r) (drop-map f (length bs) l)

-- the columns of a list, filled with the columns of entries, are the list with the entries over its start
pub beside_fill : (bs l : List Body) → beside (fill (map number_in bs) (map number_in l)) (fill (map first_in bs) (map first_in l)) (fill (map count_in bs) (map count_in l)) ≡ over bs l
unfolding over
beside_fill bs l =
    let r : List Body = drop (length bs) l in
    rw (fill_column number_in bs l, fill_column first_in bs l, fill_column count_in bs l) (beside_append bs (map number_in r) (map first_in r) (map count_in r) ∙ ap (λ (x : List Body). bs ++ x) (beside_columns r))

-- the entries at the head of columns
entries_cons : (x y z : ℕ) (ns fs cs : List ℕ) (n : ℕ) → entries_of (x ∷ ns) (y ∷ fs) (z ∷ cs) (suc n) ≡ entry x y z ∷ entries_of ns fs cs n
unfolding entries_of
entries_cons x y z ns fs cs zero = refl
entries_cons x y z ns fs cs (suc n) = ap (λ (r : List Body). r ++ (entry_of ns fs cs n ∷ [])) (entries_cons x y z ns fs cs n)

entries_head : (bs : List Body) (ns fs cs : List ℕ) → entries_of (map number_in bs ++ ns) (map first_in bs ++ fs) (map count_in bs ++ cs) (length bs) ≡ bs
unfolding entries_of
entries_head [] ns fs cs = refl
entries_head (b ∷ bs) ns fs cs =
    entries_cons b.number b.first b.count (map number_in bs ++ ns) (map first_in bs ++ fs) (map count_in bs ++ cs) (length bs)
    ∙ ap (λ (r : List Body). b ∷ r) (entries_head bs ns fs cs)

-- ---- room

room_short : (n m : ℕ) → m ≤ 256 → ltb (room_of n) m ≡ ltb n m
room_short n m h = by_case (ltb n m) (λ e. let f = ltb-true n m e in lt-ltb (room_of n) m (omega arith) ∙ sym e) (λ e. let f = ltb-false n m e in le-ltb (room_of n) m (omega arith) ∙ sym e)

module _ (s o : List ℕ) (l : List Body) where
  abbrev room : ℕ
  room = room_of (length l)

  short_same : (m : ℕ) → m ≤ 256 → too_short s o (zeros room) (zeros room) (zeros room) m ≡ too_short s o (map number_in l) (map first_in l) (map count_in l) m
  short_same m h = rw (length-replicate {A = ℕ} room 0, length-map l number_in, length-map l first_in, length-map l count_in, room_short (length l) m h) refl

  room_enough : (m : ℕ) → too_short s o (map number_in l) (map first_in l) (map count_in l) m ≡ false → m ≤ length l
  room_enough m e =
      let x : Bool = ltb (length o) (length s) in
      let n : Bool = ltb (length (map number_in l)) m in
      let f : Bool = ltb (length (map first_in l)) m in
      let k : Bool = ltb (length (map count_in l)) m in
      ltb-false (length l) m (ap (λ (j : ℕ). ltb j m) (sym (length-map l count_in)) ∙ or_right f k (or_right n (f || k) (or_right x (n || (f || k)) e)))

-- ---- the whole list, from what flattening into columns answers and leaves

column : (f : Body → ℕ) (bs : List Body) (n : ℕ) (old ns : List ℕ) → take n ns ≡ fill (map f bs) old → ns ≡ map f bs ++ (drop (length (map f bs)) old ++ drop n ns)
unfolding fill
column f bs n old ns e =
    sym (take-append-drop n ns) ∙ ap (λ (x : List ℕ). x ++ drop n ns) e ∙ append_assoc (map f bs) (drop (length (map f bs)) old) (drop n ns)

entries_are : (bs : List Body) (ns fs cs x y z : List ℕ) → ns ≡ map number_in bs ++ x → fs ≡ map first_in bs ++ y → cs ≡ map count_in bs ++ z → entries_of ns fs cs (length bs) ≡ bs
entries_are bs ns fs cs x y z e f g = rw (e, f, g) (entries_head bs x y z)

module _ (s o o' : List ℕ) (l : List Body) (a : Flattening) (c : Columns) where
  abbrev pub rows : ℕ
  rows = bodies_of a

  -- the entries fit, and make the list that is due
  abbrev pub Makes : Listing → Type 0
  Makes x = ((rows ≤ length l) × (rows ≤ 256)) × (listing a o' (over (entries_in c rows) l) ≡ x)

  abbrev Left : Outcome → Type 0
  Left x = outcome a o' (take (room s o l) c.numbers) (take (room s o l) c.firsts) (take (room s o l) c.counts) ≡ x

  abbrev to_zeros : (List ℕ → List ℕ → List ℕ → Outcome) → Outcome
  to_zeros f = f (zeros (room s o l)) (zeros (room s o l)) (zeros (room s o l))

  abbrev to_list : (List ℕ → List ℕ → List ℕ → Outcome) → Listing
  to_list f = in_list (f (map number_in l) (map first_in l) (map count_in l))

  nothing_written : (r : FlattenError) → Left (to_zeros (λ ns fs cs. untouched s o ns fs cs r)) → Makes (to_list (λ ns fs cs. untouched s o ns fs cs r))
  nothing_written r e =
      let ea : a ≡ Err r = ap (λ (x : Outcome). x.answer) e in
      let eo : o' ≡ o = ap (λ (x : Outcome). x.out) e in
      let n : rows ≡ 0 = ap bodies_of ea in
      let t : over (entries_in c rows) l ≡ l = ap (λ (k : ℕ). over (entries_in c k) l) n ∙ sym (over_none c l) in
      let b = beside_columns l in
      ((omega (arith, n), omega (arith, n)), cc)

  all_written : (gs : List Op) (bs : List Body) → length bs ≤ length l → length bs ≤ 256 → Left (to_zeros (λ ns fs cs. written s o ns fs cs gs bs)) → Makes (to_list (λ ns fs cs. written s o ns fs cs gs bs))
  all_written gs bs hl hk e =
      let ea : a ≡ answers.written (length gs) (length (encode_all gs)) (length bs) = ap (λ (x : Outcome). x.answer) e in
      let eo : o' ≡ fill (encode_all gs) o = ap (λ (x : Outcome). x.out) e in
      let n : rows ≡ length bs = ap bodies_of ea in
      let t : entries_in c (length bs) ≡ bs =
      entries_are bs c.numbers c.firsts c.counts _ _ _
      (column number_in bs (room s o l) (zeros (room s o l)) c.numbers (ap (λ (x : Outcome). x.numbers) e))
      (column first_in bs (room s o l) (zeros (room s o l)) c.firsts (ap (λ (x : Outcome). x.firsts) e))
      (column count_in bs (room s o l) (zeros (room s o l)) c.counts (ap (λ (x : Outcome). x.counts) e)) in
      let u : over (entries_in c rows) l ≡ over bs l = ap (λ (k : ℕ). over (entries_in c k) l) n ∙ ap (λ (x : List Body). over x l) t in
      let b = beside_fill bs l in
      ((omega (arith, n), omega (arith, n)), cc)

  by_flat : (os : List Op) → marks_in os ≤ 256 → (f : Flat) → flatten os ≡ f → Left (to_zeros (λ ns fs cs. of_flat s o ns fs cs (marks_in os) f)) → Makes (to_list (λ ns fs cs. of_flat s o ns fs cs (marks_in os) f))
  by_flat os m (loose p) q e = nothing_written (NoOpenEnd p) e
  by_flat os m (flat gs bs) q e =
      go (too_short s o (map number_in l) (map first_in l) (map count_in l) (marks_in os)) refl
      (e ∙ ap (λ (t : Bool). to_zeros (λ ns fs cs. cond t (untouched s o ns fs cs NoRoom) (written s o ns fs cs gs bs))) (short_same s o l (marks_in os) m))
    where
      go : (t : Bool) → too_short s o (map number_in l) (map first_in l) (map count_in l) (marks_in os) ≡ t
          → Left (to_zeros (λ ns fs cs. cond t (untouched s o ns fs cs NoRoom) (written s o ns fs cs gs bs)))
          → Makes (to_list (λ ns fs cs. cond t (untouched s o ns fs cs NoRoom) (written s o ns fs cs gs bs)))
      go true x h = nothing_written NoRoom h
      go false x h =
          let few = as_many_entries os gs bs q in
          let r = room_enough s o l (marks_in os) x in
          all_written gs bs (omega (arith, few, r)) (omega (arith, few, m)) h

  made : Left (to_zeros (flatten_of s o)) → Makes (flatten_to s o l)
  unfolding flatten_of flatten_to
  made e = by (eqb (patch_of s).number 0) refl
    where
      by : (t : Bool) → eqb (patch_of s).number 0 ≡ t → Makes (to_list (flatten_of s o))
      by true q =
          let z : (patch_of s).number ≡ 0 = eqb-true (patch_of s).number 0 q in
          let h = is_patch s z in
          subst (λ (p : Patch). Makes (to_list (λ ns fs cs. of_patch s o ns fs cs p))) (sym h)
          (by_flat (ops_in s) (few_marks_in s (ops_in s) (is_patch s z)) (flatten (ops_in s)) refl (e ∙ ap (λ (p : Patch). to_zeros (λ ns fs cs. of_patch s o ns fs cs p)) h))
      by false q =
          let h = refused_are s (eqb-false (patch_of s).number 0 q) in
          subst (λ (p : Patch). Makes (to_list (λ ns fs cs. of_patch s o ns fs cs p))) (sym h)
          (nothing_written (BadFile (patch_of s).number (patch_of s).place) (e ∙ ap (λ (p : Patch). to_zeros (λ ns fs cs. of_patch s o ns fs cs p)) h))

-- what `write_entries` asks, and the whole, where flattening was lent the first n of each column
pub list_made : (s o o' : List ℕ) (l : List Body) (a : Flattening) (n : ℕ) (ns fs cs : List ℕ) → n ≡ room_of (length l)
    → length ns ≡ length (take n (zeros 256)) → length fs ≡ length (take n (zeros 256)) → length cs ≡ length (take n (zeros 256))
    → outcome a o' ns fs cs ≡ flatten_of s o (take n (zeros 256)) (take n (zeros 256)) (take n (zeros 256))
    → Makes s o o' l a (record { numbers = ns ++ drop n (zeros 256); firsts = fs ++ drop n (zeros 256); counts = cs ++ drop n (zeros 256) }) (flatten_to s o l)
list_made s o o' l a n ns fs cs en ln lf lc e =
    made s o o' l a _
    (subst
    (λ (k : ℕ). outcome a o' (take k (ns ++ drop n (zeros 256))) (take k (fs ++ drop n (zeros 256))) (take k (cs ++ drop n (zeros 256))) ≡ flatten_of s o (zeros k) (zeros k) (zeros k)) en
    (columns_are s o o' a n ns fs cs (omega (arith, en)) ln lf lc e))

-- ---- laws of the list

-- two answers that meet the contract of `flatten` coincide, with every byte and every entry that they leave
pub same_listing : (s o : List ℕ) (l : List Body) (x y : Listing) → x ≡ flatten_to s o l → y ≡ flatten_to s o l → x ≡ y
same_listing s o l x y e f = e ∙ sym f

-- what is left where k entries were written: the bytes are read as ops fs, each entry's ops in fs are its body, and the entries beyond are as they were
pub record Told (s : List ℕ) (l : List Body) (b k : ℕ) (r : Listing) : Type 0 where
  pub fs : List Op
  pub cs : List ℕ
  pub seen : List ℕ
  pub by : number 0 0 0 [] [] (notes (ops_in s)) ≡ numbered cs seen
  pub read : ops_of (take b r.out) ≡ ops fs
  pub each : (length (others seen) ≡ k) × Says fs cs (ops_in s) (others seen) (take k r.bodies)
  pub beyond : drop k r.bodies ≡ drop k l

module _ (s o : List ℕ) (l : List Body) (w : Below 256 s) where
  abbrev on_list : (List ℕ → List ℕ → List ℕ → Outcome) → Listing
  on_list f = in_list (f (map number_in l) (map first_in l) (map count_in l))

  written_told : (patch_of s).number ≡ 0 → (gs : List Op) (bs : List Body) → flatten (ops_in s) ≡ flat gs bs → Told s l (length (encode_all gs)) (length bs) (on_list (λ ns fs cs. written s o ns fs cs gs bs))
  unfolding fill over
  written_told z gs bs q =
      let t = bodies_say (ops_in s) gs bs q in
      let e = beside_fill bs l in
      record {
        fs = gs;
        cs = t.0;
        seen = t.1.0;
        by = t.1.1.0;
        read = ap ops_of (take-append_seam (encode_all gs) (drop (length (encode_all gs)) o)) ∙ patch_again s w z gs bs q;
        each = (sym t.1.1.1.0, rw (e, take-append_seam bs (drop (length bs) l)) t.1.1.1.1);
        beyond = ap (drop (length bs)) e ∙ drop_at bs (drop (length bs) l) (length bs) refl;
      }

  -- each entry's ops are the body that the entry says
  pub list_told : (n b k : ℕ) → (flatten_to s o l).answer ≡ answers.written n b k → Told s l b k (flatten_to s o l)
  unfolding flatten_of flatten_to
  list_told n b k a = by (eqb (patch_of s).number 0) refl
    where
      room : (z : (patch_of s).number ≡ 0) (gs : List Op) (bs : List Body) → flatten (ops_in s) ≡ flat gs bs → (t : Bool)
          → (on_list (λ ns fs cs. cond t (untouched s o ns fs cs NoRoom) (written s o ns fs cs gs bs))).answer ≡ answers.written n b k
          → Told s l b k (on_list (λ ns fs cs. cond t (untouched s o ns fs cs NoRoom) (written s o ns fs cs gs bs)))
      room z gs bs q true x = clash (cc)
      room z gs bs q false x =
          let eb : length (encode_all gs) ≡ b = ap bytes_of x in
          let ek : length bs ≡ k = ap bodies_of x in
          subst (λ (i : ℕ). Told s l i k (on_list (λ ns fs cs. written s o ns fs cs gs bs))) eb
          (subst (λ (i : ℕ). Told s l (length (encode_all gs)) i (on_list (λ ns fs cs. written s o ns fs cs gs bs))) ek (written_told z gs bs q))

      flats : (z : (patch_of s).number ≡ 0) (f : Flat) → flatten (ops_in s) ≡ f → (on_list (λ ns fs cs. of_flat s o ns fs cs (marks_in (ops_in s)) f)).answer ≡ answers.written n b k
          → Told s l b k (on_list (λ ns fs cs. of_flat s o ns fs cs (marks_in (ops_in s)) f))
      flats z (loose p) q x = clash (cc)
      flats z (flat gs bs) q x = room z gs bs q (too_short s o (map number_in l) (map first_in l) (map count_in l) (marks_in (ops_in s))) x

      by : (t : Bool) → eqb (patch_of s).number 0 ≡ t → Told s l b k (on_list (flatten_of s o))
      by true q =
          let z : (patch_of s).number ≡ 0 = eqb-true (patch_of s).number 0 q in
          let h = is_patch s z in
          subst (λ (p : Patch). Told s l b k (on_list (λ ns fs cs. of_patch s o ns fs cs p))) (sym h)
          (flats z (flatten (ops_in s)) refl (ap (λ (p : Patch). (on_list (λ ns fs cs. of_patch s o ns fs cs p)).answer) (sym h) ∙ a))
      by false q =
          let h = refused_are s (eqb-false (patch_of s).number 0 q) in
          let x : ◌≡◌ {A = Flattening} (Err (BadFile (patch_of s).number (patch_of s).place)) (answers.written n b k) = ap (λ (p : Patch). (on_list (λ ns fs cs. of_patch s o ns fs cs p)).answer) (sym h) ∙ a in
          clash (cc)
