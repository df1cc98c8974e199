-- What 37 tests is 01's well-formed state: a computed `is_formed` is true exactly where what is held fits the patch. Assumes nothing.
use mathlib.Core.Path.{◌≡◌, ◌∙◌, refl, ap, sym}
use mathlib.Core.Bool.{Bool, true, false, ◌&&◌}
use mathlib.Core.List.{List, [], ◌∷◌, map}
use mathlib.Core.Logic.{inl, inr}
use Prim.Native.Nat.{ℕ, ◌+◌, ◌≤◌, ◌<◌}
use native.Mathlib.Omega.{arith}
use lib.Dec.{leb, ltb, eqb}
use lib.ListN.{length, get_or, take, get_or-map}
use lib.Seq.{length-take-le}
use borrow.Author.Tests.{leb-true, ltb-true, eqb-true, le-leb, lt-ltb, eq-eqb}
use Rattle.basics.proofs.Tests.{and_left, and_right, or_first, or_second, or_either}
use Rattle.ops.specs.Syntax.{Op, is_function}
use Rattle.ops.specs.Syntax.Plain.{comment}
use Rattle.ops.specs.Syntax.Op.{plain}
use Rattle.testing_device.proofs.Rings.{length_ring}
use Rattle.machine_model.specs.State.{Given}
use Rattle.machine_model.specs.Scan.{op_at, functions}
use Rattle.machine_model.specs.Formed.{Each, Rising, Marked, Whole}
use Rattle.machine_model.proofs.Each.{each_to}
use Rattle.partners.specs.Columns.{row_function}
use Rattle.machine_numbers.specs.declared.numbers.Numbers.{Numbers}
use Rattle.machine_step.specs.Held.{Held}
use Rattle.bridge.specs.Decoded.{code_of, patch_in, given_to}
use Rattle.bridge.specs.Fits.{Fits}
use Rattle.bridge.proofs.Control.{Rows}
use Rattle.bridge.proofs.Decoded.{rows}
use Rattle.states.specs.Formed.{has_room, can_start, is_whole, is_mode, in_limits, in_place, all_of, calls_below, refs_within, names_from, table_names, is_formed}

parts : (a b : Bool) → (a && b) ≡ true → (a ≡ true) × (b ≡ true)
parts a b e = (and_left a b e, and_right a b e)

both : {a b : Bool} → a ≡ true → b ≡ true → (a && b) ≡ true
both e f = rw (e, f) refl

-- ---- the lent room

pub record Room (g ts ch : List ℕ) : Type 0 where
  pub wide : 1024 ≤ length g
  pub tabled : 256 ≤ length ts
  pub ringed : 256 ≤ length ch

pub room : (g ts ch : List ℕ) → has_room g ts ch ≡ true → Room g ts ch
unfolding has_room
room g ts ch e =
    let e2 = parts _ _ e in let e1 = parts _ _ e2.0 in
    record { wide = leb-true _ _ e1.0; tabled = leb-true _ _ e1.1; ringed = leb-true _ _ e2.1 }

has_room_lem : (g ts ch : List ℕ) → Room g ts ch → has_room g ts ch ≡ true
unfolding has_room
has_room_lem g ts ch r = rw (le-leb _ _ r.wide, le-leb _ _ r.tabled, le-leb _ _ r.ringed) refl

-- what a fresh run asks
pub starts : (mode : ℕ) (g ts ch : List ℕ) → can_start mode g ts ch ≡ true → (mode ≤ 1) × Room g ts ch
unfolding can_start is_mode
starts mode g ts ch e = let t = parts _ _ e in (leb-true mode 1 t.0, room g ts ch t.1)

-- ---- the limits

whole : (l : ℕ) → is_whole l ≡ true → Whole l
unfolding is_whole
whole l e = or_either (eqb l 0) (leb 30_000 l) (Whole l) e (λ z. inl (eqb-true l 0 z)) (λ b. inr (leb-true 30_000 l b))

is_whole_lem : (l : ℕ) → Whole l → is_whole l ≡ true
unfolding is_whole
is_whole_lem l (inl z) = or_first (eqb l 0) _ (eq-eqb l 0 z)
is_whole_lem l (inr b) = or_second (eqb l 0) _ (le-leb 30_000 l b)

pub record Limits (p : Numbers) : Type 0 where
  pub near : p.pointer ≤ 1_000_000_000
  pub short : p.length ≤ 2_000_000_000
  pub narrow : p.lanes ≤ 1024
  pub few_entered : p.functions ≤ 256
  pub few_calls : p.depth ≤ 256
  pub few_refs : p.saved ≤ 256
  pub few_sent : p.waiting ≤ 256
  pub first : p.first < 256
  pub known : p.mode ≤ 1
  pub whole : Whole p.length

pub limits : (p : Numbers) → in_limits p ≡ true → Limits p
unfolding in_limits is_mode
limits p e =
    let e9 = parts _ _ e in let e8 = parts _ _ e9.0 in let e7 = parts _ _ e8.0 in let e6 = parts _ _ e7.0 in let e5 = parts _ _ e6.0 in
    let e4 = parts _ _ e5.0 in let e3 = parts _ _ e4.0 in let e2 = parts _ _ e3.0 in let e1 = parts _ _ e2.0 in
    record {
      near = leb-true _ _ e1.0;
      short = leb-true _ _ e1.1;
      narrow = leb-true _ _ e2.1;
      few_entered = leb-true _ _ e3.1;
      few_calls = leb-true _ _ e4.1;
      few_refs = leb-true _ _ e5.1;
      few_sent = leb-true _ _ e6.1;
      first = ltb-true _ _ e7.1;
      known = leb-true _ _ e8.1;
      whole = whole _ e9.1;
    }

in_limits_lem : (p : Numbers) → Limits p → in_limits p ≡ true
unfolding in_limits is_mode
in_limits_lem p l =
    rw (
      le-leb _ _ l.near,
      le-leb _ _ l.short,
      le-leb _ _ l.narrow,
      le-leb _ _ l.few_entered,
      le-leb _ _ l.few_calls,
      le-leb _ _ l.few_refs,
      le-leb _ _ l.few_sent,
      lt-ltb _ _ l.first,
      le-leb _ _ l.known,
      is_whole_lem _ l.whole,
    ) refl

pub record Within (p : Numbers) (ops inputs outputs : ℕ) : Type 0 where
  pub within : p.position ≤ ops
  pub read : p.taken ≤ inputs
  pub written : p.written ≤ outputs

within : (p : Numbers) (ops inputs outputs : ℕ) → in_place p ops inputs outputs ≡ true → Within p ops inputs outputs
unfolding in_place
within p ops inputs outputs e =
    let e2 = parts _ _ e in let e1 = parts _ _ e2.0 in
    record { within = leb-true _ _ e1.0; read = leb-true _ _ e1.1; written = leb-true _ _ e2.1 }

in_place_lem : (p : Numbers) (ops inputs outputs : ℕ) → Within p ops inputs outputs → in_place p ops inputs outputs ≡ true
unfolding in_place
in_place_lem p ops inputs outputs w = rw (le-leb _ _ w.within, le-leb _ _ w.read, le-leb _ _ w.written) refl

-- ---- the stacks and the table

module _ (p : ℕ → Bool) (P : ℕ → Type 0) where
  each_of : ((x : ℕ) → p x ≡ true → P x) → (l : List ℕ) → all_of p l ≡ true → Each P l
  unfolding all_of
  each_of h [] e = tt
  each_of h (x ∷ xs) e = (h x (and_left (p x) (all_of p xs) e), each_of h xs (and_right (p x) (all_of p xs) e))

  of_each : ((x : ℕ) → P x → p x ≡ true) → (l : List ℕ) → Each P l → all_of p l ≡ true
  unfolding all_of
  of_each h [] a = refl
  of_each h (x ∷ xs) a = both (h x a.0) (of_each h xs a.1)

module _ (g : Given) (ks : List ℕ) (r : Rows g.ops ks) where
  entered_map : (os : List Op) → functions os ≡ map is_function os
  entered_map [] = refl
  entered_map (o ∷ os) = ap (λ (l : List Bool). is_function o ∷ l) (entered_map os)

  -- a row of 2 is a Function mark's
  mark_is : (t : ℕ) → is_function (op_at g.ops t) ≡ eqb (get_or ks t 0) 2
  unfolding row_function
  mark_is t =
      sym (get_or-map is_function g.ops t (plain (comment [])))
      ∙ ap (λ (l : List Bool). get_or l t false) (sym (entered_map g.ops) ∙ r.entered)
      ∙ get_or-map row_function ks t 0

  above : (b : ℕ) (ts : List ℕ) → names_from ks (b + 1) ts ≡ true → Each (λ y. b < y) ts
  unfolding names_from
  above b [] e = tt
  above b (t ∷ ts) e =
      let f = parts _ _ e in let q = parts _ _ f.0 in
      let l : b < t = omega (arith, leb-true (b + 1) t q.0) in
      (l, each_to (λ y. t < y) (λ y. b < y) (λ y h. omega arith) ts (above t ts f.1))

  rising : (b : ℕ) (ts : List ℕ) → names_from ks b ts ≡ true → Rising ts
  unfolding names_from
  rising b [] e = tt
  rising b (t ∷ ts) e = let f = parts (leb b t && eqb (get_or ks t 0) 2) _ e in (above t ts f.1, rising (t + 1) ts f.1)

  marked : (b : ℕ) (ts : List ℕ) → names_from ks b ts ≡ true → Each (Marked g) ts
  unfolding names_from
  marked b [] e = tt
  marked b (t ∷ ts) e =
      let f = parts _ _ e in let q = parts (leb b t) _ f.0 in
      (mark_is t ∙ q.1, marked (t + 1) ts f.1)

  names : (b : ℕ) (ts : List ℕ) → Each (λ y. b ≤ y) ts → Rising ts → Each (Marked g) ts → names_from ks b ts ≡ true
  unfolding names_from
  names b [] l a m = refl
  names b (t ∷ ts) l a m =
      both (both (le-leb b t l.0) (sym (mark_is t) ∙ m.0))
      (names (t + 1) ts (each_to (λ y. t < y) (λ y. t + 1 ≤ y) (λ y h. omega arith) ts a.0) a.1 m.1)

-- ---- all of it

-- the first two of the tests
pub first_tests : (ks : List ℕ) (n : ℕ) (c : Held) → is_formed ks n c ≡ true
    → (has_room c.register c.table c.channel ≡ true) × (in_limits c.numbers ≡ true)
unfolding is_formed
first_tests ks n c e = parts (has_room c.register c.table c.channel) _ (and_left _ _ (and_left _ _ (and_left _ _ (and_left _ _ e))))

-- and so what a fresh run asks
pub formed_starts : (ks : List ℕ) (n : ℕ) (c : Held) → is_formed ks n c ≡ true → can_start c.numbers.mode c.register c.table c.channel ≡ true
unfolding can_start is_mode
formed_starts ks n c e = let t = first_tests ks n c e in both (le-leb _ _ (limits c.numbers t.1).known) t.0

every : (l : List ℕ) → Each (λ y. 0 ≤ y) l
every [] = tt
every (x ∷ xs) = (omega arith, every xs)

module _ (s input : List ℕ) (c : Held) (kc : length c.calls ≡ 256) (kr : length c.refs ≡ 256) where
  -- a state that the test passes fits the patch
  pub formed_fits : is_formed (code_of s).rows (length input) c ≡ true → Fits s input c
  unfolding is_formed calls_below refs_within table_names
  formed_fits e =
      let e5 = parts _ _ e in let e4 = parts _ _ e5.0 in let e3 = parts _ _ e4.0 in let e2 = parts _ _ e3.0 in let e1 = parts _ _ e2.0 in
      let r = room c.register c.table c.channel e1.0 in
      let l = limits c.numbers e1.1 in
      let w = within c.numbers (length (code_of s).rows) (length input) (length c.output) e2.1 in
      let rs = rows s in
      let n = rs.many in
      record {
        counted = record {
          wide = r.wide;
          tabled = r.tabled;
          ringed = r.ringed;
          call_room = kc;
          ref_room = kr;
          first = l.first;
          lanes = omega (arith, l.narrow, r.wide);
          functions = omega (arith, l.few_entered, r.tabled);
          depth = l.few_calls;
          saved = l.few_refs;
          waiting = l.few_sent;
          written = w.written;
        };
        formed = record {
          near = l.near;
          short = l.short;
          whole = l.whole;
          narrow = omega (arith, l.narrow, length-take-le c.numbers.lanes c.register (omega (arith, l.narrow, r.wide)));
          few_entered = omega (arith, l.few_entered, length-take-le c.numbers.functions c.table (omega (arith, l.few_entered, r.tabled)));
          few_calls = omega (arith, l.few_calls, length-take-le c.numbers.depth c.calls (omega (arith, l.few_calls, kc)));
          few_refs = omega (arith, l.few_refs, length-take-le c.numbers.saved c.refs (omega (arith, l.few_refs, kr)));
          few_sent = omega (arith, l.few_sent, length_ring c.channel c.numbers.first c.numbers.waiting);
          in_ring = l.first;
          within = omega (arith, w.within, n);
          saved = each_of (λ x. ltb x (length (code_of s).rows)) (λ x. x < length (patch_in s)) (λ x h. omega (arith, ltb-true x (length (code_of s).rows) h, n)) (take c.numbers.depth c.calls) e3.1;
          pointed = each_of (λ x. leb x 1_000_000_000) (λ x. x ≤ 1_000_000_000) (λ x h. leb-true x 1_000_000_000 h) (take c.numbers.saved c.refs) e4.1;
          rising = rising (given_to s input c) (code_of s).rows rs 0 (take c.numbers.functions c.table) e5.1;
          marked = marked (given_to s input c) (code_of s).rows rs 0 (take c.numbers.functions c.table) e5.1;
          read = w.read;
          fits = omega (arith, w.written, length-take-le c.numbers.written c.output w.written);
          known = l.known;
        };
      }

  -- and one that fits it passes
  pub fits_formed : Fits s input c → is_formed (code_of s).rows (length input) c ≡ true
  unfolding is_formed calls_below refs_within table_names
  fits_formed h =
      let k = h.counted in let f = h.formed in
      let rs = rows s in
      let n = rs.many in
      both (both (both (both (both
      (has_room_lem c.register c.table c.channel (record { wide = k.wide; tabled = k.tabled; ringed = k.ringed }))
      (in_limits_lem c.numbers
      (record {
        near = f.near;
        short = f.short;
        whole = f.whole;
        narrow = omega (arith, f.narrow, length-take-le c.numbers.lanes c.register k.lanes);
        few_entered = omega (arith, f.few_entered, length-take-le c.numbers.functions c.table k.functions);
        few_calls = k.depth;
        few_refs = k.saved;
        few_sent = k.waiting;
        first = k.first;
        known = f.known;
      })))
      (in_place_lem c.numbers (length (code_of s).rows) (length input) (length c.output) (record { within = omega (arith, f.within, n); read = f.read; written = k.written })))
      (of_each (λ x. ltb x (length (code_of s).rows)) (λ x. x < length (patch_in s)) (λ x h. lt-ltb x (length (code_of s).rows) (omega (arith, h, n))) (take c.numbers.depth c.calls) f.saved))
      (of_each (λ x. leb x 1_000_000_000) (λ x. x ≤ 1_000_000_000) (λ x h. le-leb x 1_000_000_000 h) (take c.numbers.saved c.refs) f.pointed))
      (names (given_to s input c) (code_of s).rows rs 0 (take c.numbers.functions c.table) (every (take c.numbers.functions c.table)) f.rising f.marked)
