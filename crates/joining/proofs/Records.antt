-- The record of an entry: it is the file's record, with the entry's value if it has one of its own. And the files of a stack's entries, one after
-- another. Assumes nothing.
use mathlib.Core.Path.{◌≡◌, refl, ap, ap₂, sym, ◌∙◌}
use Prim.Native.Nat.{ℕ, zero, suc, ◌+◌, ◌-◌, ◌/◌, ◌%◌, ◌<◌, ◌≤◌}
use native.Mathlib.Nat.{not-suc-le-zero, zero-add, add-zero, le_refl}
use native.Mathlib.Numerals.{add-one}
use native.Mathlib.Omega.{arith}
use mathlib.Core.Bool.{Bool, true, false, cond}
use mathlib.Core.List.{List, [], ◌∷◌, ◌++◌, map, reverse, reverse-cons, append-nil}
use lib.Dec.{eqb}
use lib.ListN.{length, get_or, take, drop, length-append}
use lib.Seq.{take_at}
use borrow.Author.Tests.{eqb-true, eqb-false, eq-eqb, ne_eqb}
use Rattle.basics.proofs.Clash.{clash}
use Rattle.byte_fields.specs.Bytes.{u32_at, u64_at, values_at, text_at, le16, le32, le64}
use Rattle.byte_fields.specs.Storage.{fill, placed}
use Rattle.kind_table.specs.Kinds.{shape, kind_at}
use Rattle.ops.specs.Record.{length_ok, count_of}
use Rattle.ops.specs.Patch.{Item}
use Rattle.ops.specs.Decode.{rows, row_at, op_with, op_at}
use Rattle.ops.specs.Syntax.{Op}
use Rattle.ops.specs.Syntax.Plain.{move}
use Rattle.ops.specs.Syntax.Sort.{ints}
use Rattle.ops.specs.Syntax.Op.{set, plain}
use Rattle.ops.specs.Write.{record_of, value_bytes, encode, encode_all, Below}
use Rattle.byte_fields.proofs.TextAt.{length_text}
use Rattle.file_laws.proofs.BytesBack.{text_add}
use Rattle.file_laws.proofs.Digits.{length_le64}
use Rattle.byte_fields.proofs.Storage.{placed_then, placed_none}
use Rattle.patch_reader.proofs.Whole.{tells}
use Rattle.file_laws.proofs.Items.{IsItem}
use Rattle.file_laws.proofs.Rewritten.{record_again}
use Rattle.file_laws.proofs.Written.{encode_append}
use Rattle.joining.specs.Source.{item_at, Holds}
use Rattle.joining.specs.Stack.{entry, seen_of, valued, value_of, entry_at, op_within, op_of, top_down, file, Within}
use Rattle.joining.specs.declared.entry.Entry.{Entry}
use Rattle.joining.specs.declared.entry.Seen.{Seen}
use Rattle.joining.proofs.StackIsOps.{is_item}

-- ---- an op of the file

-- what its item tells: p is the first byte of its payload, which has len bytes
record Stands (s : List ℕ) (i : Item) : Type 0 where
  len : ℕ
  after_head : 6 ≤ i.payload
  whole : i.payload + len ≤ length s
  sized : u32_at s (i.payload - 6) ≡ len + 2
  fits : length_ok (shape (kind_at i.row)) len ≡ true
  counts : i.count ≡ count_of s (shape (kind_at i.row)) i.payload len
  bytes : Below 256 s → encode (op_at s i) ≡ text_at s (i.payload - 6) (6 + len)

stands : (s : List ℕ) (i : Item) → IsItem s i → Stands s i
unfolding op_at
stands s i h =
    let t = tells s h.first i.row i.payload h.len i.count h.next h.is in
    let e : h.first ≡ i.payload - 6 = omega (arith, t.body) in
    record {
      len = h.len;
      after_head = omega (arith, t.body);
      whole = omega (arith, t.size, t.within);
      sized = ap (u32_at s) (sym e) ∙ t.sized;
      fits = t.fits;
      counts = t.counts;
      bytes = λ w. record_again s w h.first i.row i.payload h.len i.count h.next h.is ∙ ap (λ (j : ℕ). text_at s j (6 + h.len)) e;
    }

-- an op with a value of its own: a Move, or a Set of one value
data Valued (k n : ℕ) : Type 0 where
  is_move : k ≡ 11 → Valued k n
  is_set : k ≡ 1 → n ≡ 1 → Valued k n

has_value : (k n : ℕ) → valued k n ≡ true → Valued k n
unfolding valued
has_value k n e = by (eqb k 11) (eqb k 1) refl refl e
  where
    by : (a b : Bool) → eqb k 11 ≡ a → eqb k 1 ≡ b → cond a true (cond b (eqb n 1) false) ≡ true → Valued k n
    by true b p q r = is_move (eqb-true k 11 p)
    by false true p q r = is_set (eqb-true k 1 q) (eqb-true n 1 r)
    by false false p q r = clash (cc)

module _ (s : List ℕ) (i : Item) (d : Stands s i) where
  -- its record without a value of its own is the file's
  within_kept : (v : ℕ) → valued i.row i.count ≡ false → op_within s i v ≡ op_at s i
  unfolding valued
  within_kept v e = by (eqb i.row 11) (eqb i.row 1) (eqb i.count 1) e
    where
      by : (a b c : Bool) → cond a true (cond b c false) ≡ false → cond a (plain (move v)) (cond b (cond c (set ints (v ∷ [])) (op_at s i)) (op_at s i)) ≡ op_at s i
      by true b c r = clash (cc)
      by false true true r = clash (cc)
      by false true false r = refl
      by false false c r = refl

  -- with one, it has eight bytes
  len_eight : valued i.row i.count ≡ true → d.len ≡ 8
  unfolding length_ok count_of kind_at
  len_eight e = by (has_value i.row i.count e)
    where
      by : Valued i.row i.count → d.len ≡ 8
      by (is_move k) = eqb-true d.len 8 (rw k at d.fits)
      by (is_set k c) =
          let f : d.len % 8 ≡ 0 = eqb-true (d.len % 8) 0 (rw k at d.fits) in
          let q : i.count ≡ d.len / 8 = rw k at d.counts in
          omega arith

  -- the file's head, and the value
  head_of : (o : Op) (v : ℕ) → encode o ≡ text_at s (i.payload - 6) (6 + d.len) → (head : List ℕ) → take 6 (encode o) ≡ head → text_at s (i.payload - 6) 6 ≡ head
  head_of o v e head q =
      let l : length (text_at s (i.payload - 6) 6) ≡ 6 = length_text s (i.payload - 6) 6 (omega (arith, d.after_head, d.whole)) in
      sym (take_at (text_at s (i.payload - 6) 6) (text_at s (i.payload - 6 + 6) d.len) 6 l)
      ∙ ap (take 6) (sym (text_add s (i.payload - 6) 6 d.len))
      ∙ ap (take 6) (sym e)
      ∙ q

  moved : i.row ≡ 11 → op_at s i ≡ plain (move (u64_at s i.payload))
  unfolding op_at row_at rows
  moved k = ap (λ (j : ℕ). op_with s i.payload i.count (row_at j)) k

  was_set : i.row ≡ 1 → i.count ≡ 1 → op_at s i ≡ set ints (u64_at s i.payload ∷ [])
  unfolding op_at row_at rows values_at
  was_set k c = ap₂ (λ (j m : ℕ). op_with s i.payload m (row_at j)) k c

  within_changed : (v : ℕ) → Below 256 s → valued i.row i.count ≡ true → encode (op_within s i v) ≡ text_at s (i.payload - 6) 6 ++ le64 v
  unfolding encode record_of value_bytes le64 le32 le16
  within_changed v w e = by (has_value i.row i.count e)
    where
      by : Valued i.row i.count → encode (op_within s i v) ≡ text_at s (i.payload - 6) 6 ++ le64 v
      by (is_move k) =
          let q : op_within s i v ≡ plain (move v) = simp (eq-eqb i.row 11 k) in
          ap encode q
          ∙ ap (λ (l : List ℕ). l ++ le64 v) (sym (head_of (plain (move (u64_at s i.payload))) v (ap encode (sym (moved k)) ∙ d.bytes w) (le32 10 ++ le16 11) refl))
      by (is_set k c) =
          let q : op_within s i v ≡ set ints (v ∷ []) = simp (ne_eqb i.row 11 (λ z. omega arith), eq-eqb i.row 1 k, eq-eqb i.count 1 c) in
          ap encode q
          ∙ ap (λ (l : List ℕ). l ++ le64 v) (sym (head_of (set ints (u64_at s i.payload ∷ [])) v (ap encode (sym (was_set k c)) ∙ d.bytes w) (le32 10 ++ le16 1) refl))

-- ---- an entry, as the code writes it

module _ (s ks ns ps : List ℕ) (n : ℕ) (h : Holds s ks ns ps n) (i : ℕ) (l : i < n) where
  d : Stands s (item_at s i)
  d = stands s (item_at s i) (is_item s ks ns ps n h i l)

  -- where the record stands
  pub place_after : 6 ≤ get_or ps i 0
  place_after = rw (h.payloads i l) d.after_head

  pub head_within : get_or ps i 0 - 6 + 6 ≤ length s
  head_within = rw (h.payloads i l) (omega (arith, d.after_head, d.whole))

  pub record_within : get_or ps i 0 - 6 + (u32_at s (get_or ps i 0 - 6) + 4) ≤ length s
  record_within = rw (h.payloads i l) (omega (arith, d.after_head, d.whole, d.sized))

  pub value_within : valued (get_or ks i 0) (get_or ns i 0) ≡ true → get_or ps i 0 + 8 ≤ length s
  value_within e =
      let q : valued (item_at s i).row (item_at s i).count ≡ true = rw (h.rows i l, h.counts i l) at e in
      rw (h.payloads i l) (omega (arith, d.whole, len_eight s (item_at s i) d q))

  module _ (v : ℕ) (w : Below 256 s) where
    pub record_kept : valued (get_or ks i 0) (get_or ns i 0) ≡ false → encode (op_of s (entry i v)) ≡ text_at s (get_or ps i 0 - 6) (u32_at s (get_or ps i 0 - 6) + 4)
    record_kept e =
        let q : valued (item_at s i).row (item_at s i).count ≡ false = rw (h.rows i l, h.counts i l) at e in
        let z : 6 + d.len ≡ u32_at s ((item_at s i).payload - 6) + 4 = omega (arith, d.sized) in
        rw (h.payloads i l) (ap encode (within_kept s (item_at s i) d v q) ∙ d.bytes w ∙ ap (text_at s ((item_at s i).payload - 6)) z)

    pub record_changed : valued (get_or ks i 0) (get_or ns i 0) ≡ true → encode (op_of s (entry i v)) ≡ text_at s (get_or ps i 0 - 6) 6 ++ le64 v
    record_changed e =
        let q : valued (item_at s i).row (item_at s i).count ≡ true = rw (h.rows i l, h.counts i l) at e in
        rw (h.payloads i l) (within_changed s (item_at s i) d v w q)

-- ---- an op as it stands in the file, and an entry as it is written

-- whether an entry has a value of its own, by what is looked at of it
pub own_by : (ks ns : List ℕ) (e : Entry) {d : Seen} {b : Bool} → d ≡ seen_of ks ns e → b ≡ valued d.row d.count → b ≡ valued (get_or ks e.op 0) (get_or ns e.op 0)
own_by ks ns e q r = r ∙ ap (λ (d : Seen). valued d.row d.count) q

module _ {s ks ns ps : List ℕ} {n : ℕ} (h : Holds s ks ns ps n) {i : ℕ} (l : i < n) where
  -- the entry of an op without a value of its own, and of one with it
  pub entry_none : valued (get_or ks i 0) (get_or ns i 0) ≡ false → entry i 0 ≡ entry_at s i
  unfolding value_of
  entry_none e =
      let q : valued (item_at s i).row (item_at s i).count ≡ false = rw (h.rows i l, h.counts i l) at e in
      rw q refl

  pub entry_own : valued (get_or ks i 0) (get_or ns i 0) ≡ true → entry i (u64_at s (get_or ps i 0)) ≡ entry_at s i
  unfolding value_of
  entry_own e =
      let q : valued (item_at s i).row (item_at s i).count ≡ true = rw (h.rows i l, h.counts i l) at e in
      rw (q, h.payloads i l) refl

-- an entry to be written at byte `at`: its payload is at p in the file, and b is whether it has a value of its own
pub record Writes (s ks ns ps out : List ℕ) (n : ℕ) (e : Entry) (at p : ℕ) (b : Bool) : Type 0 where
  pub held : Holds s ks ns ps n
  pub there : e.op < n
  pub bytes : Below 256 s
  pub room : at + length (encode (op_of s e)) ≤ length out
  pub place : p ≡ get_or ps e.op 0
  pub own : b ≡ valued (get_or ks e.op 0) (get_or ns e.op 0)

module _ {s ks ns ps out : List ℕ} {n at p : ℕ} {e : Entry} {b : Bool} (g : Writes s ks ns ps out n e at p b) where
  head_fits : p - 6 + 6 ≤ length s
  head_fits = rw g.place (head_within s ks ns ps n g.held e.op g.there)

  pub has_length : p - 6 + 4 ≤ length s
  has_length = omega (arith, head_fits)

  module _ (t : b ≡ true) where
    same_changed : encode (op_of s e) ≡ text_at s (p - 6) 6 ++ le64 e.value
    same_changed = rw g.place (record_changed s ks ns ps n g.held e.op g.there e.value g.bytes (sym g.own ∙ t))

    head_long : length (text_at s (p - 6) 6) ≡ 6
    head_long = length_text s (p - 6) 6 head_fits

    long_changed : length (encode (op_of s e)) ≡ 14
    long_changed = ap length same_changed ∙ length-append (text_at s (p - 6) 6) (le64 e.value) ∙ ap₂ (λ (a b : ℕ). a + b) head_long (length_le64 e.value)

    pub asks_head : (at + 6 ≤ length out) × (p - 6 + 6 ≤ length s)
    asks_head = (omega (arith, g.room, long_changed), head_fits)

    pub asks_eight : at + 6 + 8 ≤ length out
    asks_eight = omega (arith, g.room, long_changed)

    pub wrote_changed : {a b : List ℕ} → a ≡ placed out at (text_at s (p - 6) 6) → b ≡ placed a (at + 6) (le64 e.value)
        → (at + 14 ≡ at + length (encode (op_of s e))) × (b ≡ placed out at (encode (op_of s e)))
    wrote_changed q r = (
      ap (λ (j : ℕ). at + j) (sym long_changed),
      r
          ∙ ap (λ (o : List ℕ). placed o (at + 6) (le64 e.value)) q
          ∙ placed_then out at (text_at s (p - 6) 6) (le64 e.value) (at + 6) (ap (λ (j : ℕ). at + j) head_long) asks_head.0
          ∙ ap (placed out at) (sym same_changed),
    )

  module _ (t : b ≡ false) {u : ℕ} (eu : u ≡ u32_at s (p - 6)) where
    same_kept : encode (op_of s e) ≡ text_at s (p - 6) (u + 4)
    same_kept = rw (eu, g.place) (record_kept s ks ns ps n g.held e.op g.there e.value g.bytes (sym g.own ∙ t))

    fits_kept : p - 6 + (u + 4) ≤ length s
    fits_kept = rw (eu, g.place) (record_within s ks ns ps n g.held e.op g.there)

    long_kept : length (encode (op_of s e)) ≡ u + 4
    long_kept = ap length same_kept ∙ length_text s (p - 6) (u + 4) fits_kept

    pub asks_record : (at + (u + 4) ≤ length out) × (p - 6 + (u + 4) ≤ length s)
    asks_record = (omega (arith, g.room, long_kept), fits_kept)

    pub wrote_kept : {a : List ℕ} → a ≡ placed out at (text_at s (p - 6) (u + 4))
        → (at + (u + 4) ≡ at + length (encode (op_of s e))) × (a ≡ placed out at (encode (op_of s e)))
    wrote_kept q = (ap (λ (j : ℕ). at + j) (sym long_kept), q ∙ ap (placed out at) (sym same_kept))

-- ---- one entry after another

file_more : (s : List ℕ) (e : Entry) (st : List Entry) → file s (e ∷ st) ≡ file s st ++ encode (op_of s e)
unfolding file encode_all
file_more s e st =
    ap encode_all (reverse-cons (op_of s e) (map (op_of s) st))
    ∙ encode_append (reverse (map (op_of s) st)) (op_of s e ∷ [])
    ∙ ap (λ (l : List ℕ). file s st ++ l) (append-nil (encode (op_of s e)))

module _ (s is vs : List ℕ) where
  abbrev entry_here : ℕ → Entry
  entry_here j = entry (get_or is j 0) (get_or vs j 0)

  abbrev written : ℕ → List ℕ
  written j = file s (top_down is vs j)

  written_more : (j : ℕ) → written (j + 1) ≡ written j ++ encode (op_of s (entry_here j))
  written_more j = rw add-one (file_more s (entry_here j) (top_down is vs j))

  written_long : (j k : ℕ) → length (written j) ≤ length (written (j + k))
  written_long j zero = rw (add-zero) (le_refl (length (written j)))
  written_long j (suc k) =
      let e : j + suc k ≡ (j + k) + 1 = omega arith in
      rw (e, written_more (j + k), length-append (written (j + k)) (encode (op_of s (entry_here (j + k)))))
      (omega (arith, written_long j k))

  -- there is room for one more
  written_room : (j n : ℕ) → j < n → length (written j) + length (encode (op_of s (entry_here j))) ≤ length (written n)
  written_room j n l =
      let e : (j + 1) + (n - (j + 1)) ≡ n = omega arith in
      let g : length (written (j + 1)) ≤ length (written n) = rw e at (written_long (j + 1) (n - (j + 1))) in
      let q : length (written (j + 1)) ≡ length (written j) + length (encode (op_of s (entry_here j))) =
      ap length (written_more j) ∙ length-append (written j) (encode (op_of s (entry_here j))) in
      omega arith

  within_at : (c n j : ℕ) → Within c (top_down is vs n) → j < n → (entry_here j).op < c
  within_at c zero j w l = absurd (not-suc-le-zero l)
  within_at c (suc n) j w l = by (λ x. within_at c n j w.1 x) (eqb j n) refl
    where
      by : (j < n → (entry_here j).op < c) → (t : Bool) → eqb j n ≡ t → (entry_here j).op < c
      by less true e = let q : j ≡ n = eqb-true j n e in rw q w.0
      by less false e = less (below j n l (eqb-false j n e))
        where
          below : (a b : ℕ) → a < suc b → (a ≡ b → ⊥) → a < b
          below a b x y = omega arith

-- ---- the turns of the loop

-- the first j entries are written, up to byte `at`
pub record Wrote (s is vs out₀ out : List ℕ) (j at : ℕ) : Type 0 where
  pub long : at ≡ length (file s (top_down is vs j))
  pub put : out ≡ placed out₀ 0 (file s (top_down is vs j))

pub none_wrote : {s is vs out : List ℕ} → Wrote s is vs out out 0 0
unfolding file encode_all
none_wrote {out = out} = record { long = refl; put = placed_none out 0 }

module _ {s is vs out₀ out : List ℕ} {j at : ℕ} (w : Wrote s is vs out₀ out j at) (n : ℕ) where
  -- the next of the first n
  abbrev next : Entry
  next = entry_here s is vs j

  module _ (l : j < n) (f : length (file s (top_down is vs n)) ≤ length out₀) where
    pub asks_within : {c : ℕ} → Within c (top_down is vs n) → next.op < c
    asks_within {c} h = within_at s is vs c n j h l

    pub asks_room : length out ≡ length out₀ → at + length (encode (op_of s next)) ≤ length out
    asks_room m = omega (arith, written_room s is vs j n l, w.long, m, f)

    pub wrote_more : {r : ℕ} {out' : List ℕ} → r ≡ at + length (encode (op_of s next)) → out' ≡ placed out at (encode (op_of s next)) → Wrote s is vs out₀ out' (j + 1) r
    wrote_more a b =
        let o = encode (op_of s next) in
        let m : written s is vs (j + 1) ≡ written s is vs j ++ o = written_more s is vs j in
        let h : length (written s is vs j) ≤ length out₀ = omega (arith, written_room s is vs j n l, f) in
        record {
          long = a ∙ ap (λ (a : ℕ). a + length o) w.long ∙ sym (length-append (written s is vs j) o) ∙ ap length (sym m);
          put =
              b
              ∙ ap (λ (o' : List ℕ). placed o' at o) w.put
              ∙ placed_then out₀ 0 (written s is vs j) o at (zero-add (length (written s is vs j)) ∙ sym w.long) (rw w.long h)
              ∙ ap (placed out₀ 0) (sym m);
        }

pub wrote_all : {s is vs out₀ out : List ℕ} {n j at : ℕ} → Wrote s is vs out₀ out j at → j ≡ n
    → (at ≡ length (file s (top_down is vs n))) × (out ≡ fill (file s (top_down is vs n)) out₀)
unfolding fill placed
wrote_all {s = s} {is = is} {vs = vs} {out₀ = out₀} w e =
    (w.long ∙ ap (λ (k : ℕ). length (written s is vs k)) e, w.put ∙ rw zero-add (ap (λ (k : ℕ). written s is vs k ++ drop (length (written s is vs k)) out₀) e))
