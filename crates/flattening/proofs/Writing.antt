-- One body further in `write_bodies`: the invariant of its loop, and what it shows where the loop ends. Assumes nothing.
use Prim.Native.Nat.{ℕ, ◌+◌, ◌-◌, ◌≤◌, ◌<◌}
use native.Mathlib.Nat.{zero-add}
use native.Mathlib.Numerals.{add-one}
use native.Mathlib.Omega.{arith}
use mathlib.Core.Path.{◌≡◌, refl, ap, sym, ◌∙◌}
use mathlib.Core.Bool.{Bool, true, false}
use mathlib.Core.List.{List, [], ◌∷◌, ◌++◌, map, append_assoc, append-nil}
use lib.ListN.{length, get_or, set, drop, length-append, length-map, length-set, drop_of_length-le}
use Rattle.std.proofs.lemmas.List.{map-append}
use Rattle.ops.specs.Syntax.{Op}
use Rattle.byte_fields.specs.Storage.{fill, placed}
use Rattle.ops.specs.Write.{encode_all}
use Rattle.byte_fields.proofs.Storage.{placed_then, length_placed, fill_snoc}
use Rattle.flattening.specs.Flatten.{body, bodies, gathered}
use Rattle.flattening.specs.declared.body.Body.{Body}
use Rattle.flattening.specs.Scope.{listed}
use Rattle.flattening.specs.Flattened.{number_in, first_in, count_in, functions, ops_by, entries_by}
use Rattle.flattening.proofs.Flags.{others_listed, listed_over, listed_at}
use Rattle.file_laws.proofs.Written.{encode_append}
use Rattle.flattening.proofs.Copying.{encode_length}

-- ---- storage that is filled part by part

fill_placed : (xs old : List ℕ) → fill xs old ≡ placed old 0 xs
unfolding fill placed
fill_placed xs old = rw zero-add refl

fill_none : (old : List ℕ) → old ≡ fill [] old
unfolding fill
fill_none old = refl

pub fill_then : (xs ys old : List ℕ) (k : ℕ) → k ≡ length xs → k ≤ length old → placed (fill xs old) k ys ≡ fill (xs ++ ys) old
fill_then xs ys old k e h =
    ap (λ (l : List ℕ). placed l k ys) (fill_placed xs old)
    ∙ placed_then old 0 xs ys k (zero-add (length xs) ∙ sym e) h
    ∙ sym (fill_placed (xs ++ ys) old)

-- one more entry
more : (f : Body → ℕ) (es : List Body) (e : Body) (l old : List ℕ) (n v : ℕ) → l ≡ fill (map f es) old → n ≡ length es → v ≡ f e → n < length old
    → set l n v ≡ fill (map f (es ++ (e ∷ []))) old
more f es e l old n v q en ev h =
    ap (λ (x : List ℕ). set x n v) q
    ∙ fill_snoc (map f es) old v n (length-map es f ∙ sym en) h
    ∙ ap (λ (x : List ℕ). fill x old) (ap (λ (w : ℕ). map f es ++ (w ∷ [])) ev ∙ sym (map-append f es (e ∷ [])))

-- ---- the loop

-- the bodies below b are written: their ops are gs, their entries es
pub record Writing (cs : List ℕ) (os : List Op) (seen : List Bool) (out₀ ns₀ fs₀ ks₀ out ns fs ks : List ℕ) (at first n b : ℕ) : Type 0 where
  pub gs : List Op
  pub es : List Body
  pub upto : b ≤ 4097
  pub whole : gathered (functions seen) cs os ≡ gs ++ gathered (listed b (drop b seen)) cs os
  pub entries : entries_by seen cs os ≡ es ++ bodies first (listed b (drop b seen)) cs os
  pub left : length (functions seen) ≡ n + length (listed b (drop b seen))
  pub stands : out ≡ fill (encode_all gs) out₀
  pub to : at ≡ length (encode_all gs)
  pub ops : first ≡ length gs
  pub counted : n ≡ length es
  pub numbers : ns ≡ fill (map number_in es) ns₀
  pub firsts : fs ≡ fill (map first_in es) fs₀
  pub counts : ks ≡ fill (map count_in es) ks₀
  pub out_long : length out ≡ length out₀
  pub ns_long : length ns ≡ length ns₀
  pub fs_long : length fs ≡ length fs₀
  pub ks_long : length ks ≡ length ks₀

pub begin : (cs : List ℕ) (os : List Op) (seen : List Bool) (out ns fs ks : List ℕ) → length seen ≡ 4097 → Writing cs os seen out ns fs ks out ns fs ks 0 0 0 1
unfolding encode_all
begin cs os seen out ns fs ks h =
    let q : functions seen ≡ listed 1 (drop 1 seen) = others_listed seen (omega (arith, h)) in
    record {
      gs = [];
      es = [];
      upto = omega arith;
      whole = ap (λ (l : List ℕ). gathered l cs os) q;
      entries = ap (λ (l : List ℕ). bodies 0 l cs os) q;
      left = omega (arith, ap (λ (l : List ℕ). length l) q);
      stands = fill_none out;
      to = refl;
      ops = refl;
      counted = refl;
      numbers = fill_none ns;
      firsts = fill_none fs;
      counts = fill_none ks;
      out_long = refl;
      ns_long = refl;
      fs_long = refl;
      ks_long = refl;
    }

module _ (cs : List ℕ) (os : List Op) (seen : List Bool) (out₀ ns₀ fs₀ ks₀ out ns fs ks : List ℕ) (at first n b : ℕ) (c : Writing cs os seen out₀ ns₀ fs₀ ks₀ out ns fs ks at first n b) where
  -- no op is in the body b
  pub over : length seen ≡ 4097 → b < 4097 → get_or seen b false ≡ false → Writing cs os seen out₀ ns₀ fs₀ ks₀ out ns fs ks at first n (b + 1)
  over h l z =
      let q : listed b (drop b seen) ≡ listed (b + 1) (drop (b + 1) seen) = rw (add-one b) (listed_over seen b (omega (arith, h)) z) in
      record {
        gs = c.gs;
        es = c.es;
        upto = omega arith;
        whole = c.whole ∙ ap (λ (r : List ℕ). c.gs ++ gathered r cs os) q;
        entries = c.entries ∙ ap (λ (r : List ℕ). c.es ++ bodies first r cs os) q;
        left = c.left ∙ ap (λ (r : List ℕ). n + length r) q;
        stands = c.stands;
        to = c.to;
        ops = c.ops;
        counted = c.counted;
        numbers = c.numbers;
        firsts = c.firsts;
        counts = c.counts;
        out_long = c.out_long;
        ns_long = c.ns_long;
        fs_long = c.fs_long;
        ks_long = c.ks_long;
      }

  module _ (h : length seen ≡ 4097) (l : b < 4097) (z : get_or seen b false ≡ true)
      (few : length (gathered (functions seen) cs os) ≤ 4096)
      (room : length (encode_all (ops_by seen cs os)) ≤ length out₀) where
    rest : List ℕ
    rest = listed (b + 1) (drop (b + 1) seen)

    split : listed b (drop b seen) ≡ b ∷ rest
    unfolding rest
    split = rw (add-one b) (listed_at seen b (omega (arith, h)) z)

    whole_on : gathered (functions seen) cs os ≡ (c.gs ++ body b cs os) ++ gathered rest cs os
    unfolding gathered
    whole_on =
        c.whole
        ∙ ap (λ (r : List ℕ). c.gs ++ gathered r cs os) split
        ∙ sym (append_assoc c.gs (body b cs os) (gathered rest cs os))

    pub bytes_fit : at + length (encode_all (body b cs os)) ≤ length out
    bytes_fit =
        omega (
          arith,
          c.to,
          c.out_long,
          room,
          encode_length (gathered (functions seen) cs os) (body 0 cs os),
          ap (λ (x : List Op). length (encode_all x)) whole_on,
          encode_length (c.gs ++ body b cs os) (gathered rest cs os),
          encode_length c.gs (body b cs os),
        )

    pub ops_few : first + length (body b cs os) ≤ 4096
    ops_few =
        omega (
          arith,
          c.ops,
          few,
          ap (λ (x : List Op). length x) whole_on,
          length-append (c.gs ++ body b cs os) (gathered rest cs os),
          length-append c.gs (body b cs os),
        )

    pub entry_fits : n < length (functions seen)
    entry_fits = omega (arith, c.left, ap (λ (r : List ℕ). length r) split)

    pub on : length (functions seen) ≤ length ns₀ → length (functions seen) ≤ length fs₀ → length (functions seen) ≤ length ks₀
        → (m next : ℕ) (out' : List ℕ) → m ≡ length (body b cs os) → next ≡ at + length (encode_all (body b cs os)) → out' ≡ placed out at (encode_all (body b cs os))
        → Writing cs os seen out₀ ns₀ fs₀ ks₀ out' (set ns n (b - 1)) (set fs n first) (set ks n m) next (first + m) (n + 1) (b + 1)
    unfolding rest bodies
    on hn hf hk m next out' em ex eo =
        let e : Body = record { number = b - 1; first = first; count = length (body b cs os) } in
        let i = entry_fits in
        let f = bytes_fit in
        let w : out' ≡ fill (encode_all (c.gs ++ body b cs os)) out₀ =
        eo
        ∙ ap (λ (x : List ℕ). placed x at (encode_all (body b cs os))) c.stands
        ∙ fill_then (encode_all c.gs) (encode_all (body b cs os)) out₀ at c.to (omega (arith, c.out_long))
        ∙ ap (λ (x : List ℕ). fill x out₀) (sym (encode_append c.gs (body b cs os))) in
        record {
          gs = c.gs ++ body b cs os;
          es = c.es ++ (e ∷ []);
          upto = omega arith;
          whole = whole_on;
          entries =
              c.entries
              ∙ ap (λ (r : List ℕ). c.es ++ bodies first r cs os) split
              ∙ sym (append_assoc c.es (e ∷ []) (bodies (first + length (body b cs os)) rest cs os))
              ∙ ap (λ (j : ℕ). (c.es ++ (e ∷ [])) ++ bodies (first + j) rest cs os) (sym em);
          left = omega (arith, c.left, ap (λ (r : List ℕ). length r) split);
          stands = w;
          to = omega (arith, ex, c.to, encode_length c.gs (body b cs os));
          ops = omega (arith, em, c.ops, length-append c.gs (body b cs os));
          counted = omega (arith, c.counted, length-append c.es (e ∷ []));
          numbers = more number_in c.es e ns ns₀ n (b - 1) c.numbers c.counted refl (omega (arith, i));
          firsts = more first_in c.es e fs fs₀ n first c.firsts c.counted refl (omega (arith, i));
          counts = more count_in c.es e ks ks₀ n m c.counts c.counted em (omega (arith, i));
          out_long = ap length eo ∙ length_placed out at (encode_all (body b cs os)) f ∙ c.out_long;
          ns_long = length-set ns n (b - 1) ∙ c.ns_long;
          fs_long = length-set fs n first ∙ c.fs_long;
          ks_long = length-set ks n m ∙ c.ks_long;
        }

  module _ (h : length seen ≡ 4097) (l : 4097 ≤ b) where
    none : listed b (drop b seen) ≡ []
    unfolding listed
    none = ap (listed b) (drop_of_length-le seen {i = b} (omega (arith, h)))

    all_ops : gathered (functions seen) cs os ≡ c.gs
    unfolding gathered
    all_ops = c.whole ∙ ap (λ (r : List ℕ). c.gs ++ gathered r cs os) none ∙ append-nil c.gs

    all_entries : entries_by seen cs os ≡ c.es
    unfolding bodies
    all_entries = c.entries ∙ ap (λ (r : List ℕ). c.es ++ bodies first r cs os) none ∙ append-nil c.es

    pub count_is : n ≡ length (functions seen)
    count_is = omega (arith, c.left, ap (λ (r : List ℕ). length r) none)

    module _ (room : length (encode_all (ops_by seen cs os)) ≤ length out₀) where
      pub main_fits : at + length (encode_all (body 0 cs os)) ≤ length out
      main_fits =
          omega (
            arith,
            c.to,
            c.out_long,
            room,
            encode_length (gathered (functions seen) cs os) (body 0 cs os),
            ap (λ (x : List Op). length (encode_all x)) all_ops,
          )

      pub out_is : (out' : List ℕ) → out' ≡ placed out at (encode_all (body 0 cs os))
          → out' ≡ fill (encode_all (ops_by seen cs os)) out₀
      out_is out' eo =
          let f = main_fits in
          eo
          ∙ ap (λ (x : List ℕ). placed x at (encode_all (body 0 cs os))) c.stands
          ∙ fill_then (encode_all c.gs) (encode_all (body 0 cs os)) out₀ at c.to (omega (arith, c.out_long))
          ∙ ap (λ (x : List ℕ). fill x out₀) (sym (encode_append c.gs (body 0 cs os)))
          ∙ ap (λ (x : List Op). fill (encode_all (x ++ body 0 cs os)) out₀) (sym all_ops)

    pub numbers_are : ns ≡ fill (map number_in (entries_by seen cs os)) ns₀
    numbers_are = c.numbers ∙ ap (λ (x : List Body). fill (map number_in x) ns₀) (sym all_entries)

    pub firsts_are : fs ≡ fill (map first_in (entries_by seen cs os)) fs₀
    firsts_are = c.firsts ∙ ap (λ (x : List Body). fill (map first_in x) fs₀) (sym all_entries)

    pub counts_are : ks ≡ fill (map count_in (entries_by seen cs os)) ks₀
    counts_are = c.counts ∙ ap (λ (x : List Body). fill (map count_in x) ks₀) (sym all_entries)
