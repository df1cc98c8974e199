-- The records of a file and the ops that they mean, and one op further in `copy_body`. Assumes nothing.
use Prim.Native.Nat.{ℕ, suc, ◌+◌, ◌%◌, ◌≤◌, ◌<◌}
use native.Mathlib.Numerals.{add-one}
use native.Mathlib.Omega.{arith}
use mathlib.Core.Path.{◌≡◌, refl, ap, sym, ◌∙◌}
use mathlib.Core.List.{List, [], ◌∷◌, ◌++◌, append-nil}
use borrow.Author.Tests.{eq-eqb, ne_eqb}
use lib.ListN.{length, get_or, take, drop, length-append, drop_of_length-le}
use lib.Seq.{append_snoc, drop-cons, take-append_seam}
use Rattle.byte_fields.specs.Bytes.{u32_at, text_at}
use Rattle.ops.specs.Syntax.{Op}
use Rattle.ops.specs.Syntax.Op.{plain}
use Rattle.ops.specs.Syntax.Plain.{free}
use Rattle.ops.specs.Decode.{Patch, ops_of}
use Rattle.ops.specs.Decode.Patch.{ops}
use Rattle.ops.specs.Patch.{patch_of}
use Rattle.byte_fields.specs.Storage.{placed}
use Rattle.ops.specs.Write.{payload_of, encode, encode_all, Below}
use Rattle.file_laws.proofs.Digits.{after, at32}
use Rattle.file_laws.proofs.Fitting.{short, below_all}
use Rattle.file_laws.proofs.Meaning.{ops_are}
use Rattle.file_laws.proofs.Rewritten.{bytes_back}
use Rattle.byte_fields.proofs.Storage.{placed_none, placed_then, length_placed}
use Rattle.file_laws.proofs.Written.{length_encode, encode_append, parts, ends}
use Rattle.flattening.specs.Flatten.{body}
use Rattle.flattening.specs.Flattened.{good_ops, ops_in}

-- ---- a good file

module _ (s : List ℕ) (z : (patch_of s).number ≡ 0) where
  pub is_patch : ops_of s ≡ ops (ops_in s)
  unfolding ops_in
  is_patch = let e = ops_are s z in e ∙ sym (ap (λ (x : Patch). ops (good_ops x)) e)

  pub file_bytes : Below 256 s → encode_all (ops_in s) ≡ s
  file_bytes w = bytes_back s w (ops_in s) is_patch

pub encode_length : (xs ys : List Op) → length (encode_all (xs ++ ys)) ≡ length (encode_all xs) + length (encode_all ys)
encode_length xs ys = ap length (encode_append xs ys) ∙ length-append (encode_all xs) (encode_all ys)

-- ---- the record at a byte

module _ (s : List ℕ) (p : ℕ) (o : Op) (t : List ℕ) (d : drop p s ≡ encode o ++ t) where
  -- the record says how long it is
  size_is : length s ≤ 65536 → u32_at s p + 4 ≡ length (encode o)
  size_is h =
      let u : u32_at s p ≡ (length (payload_of o) + 2) % 4294967296 = at32 s p (length (payload_of o) + 2) _ (parts o s p t d) in
      omega (arith, u, ends o s p t d, length_encode o)

  text_is : text_at s p (length (encode o)) ≡ encode o
  unfolding text_at
  text_is = ap (take (length (encode o))) d ∙ take-append_seam (encode o) t

-- ---- one op more, of the body or of another

body_mine : (b c : ℕ) (cs : List ℕ) (o : Op) (os : List Op) → b ≡ c → body b (c ∷ cs) (o ∷ os) ≡ o ∷ body b cs os
unfolding body
body_mine b c cs o os e = rw (eq-eqb b c e) refl

body_other : (b c : ℕ) (cs : List ℕ) (o : Op) (os : List Op) → (b ≡ c → ⊥) → body b (c ∷ cs) (o ∷ os) ≡ body b cs os
unfolding body
body_other b c cs o os e = rw (ne_eqb b c e) refl

encode_end : (xs : List Op) (o : Op) → encode_all (xs ++ (o ∷ [])) ≡ encode_all xs ++ encode o
unfolding encode_all
encode_end xs o = encode_append xs (o ∷ []) ∙ ap (λ (l : List ℕ). encode_all xs ++ l) (append-nil (encode o))

-- ---- the loop

-- before op i, whose record is at byte `from`, the body's ops so far are acc: their records stand from byte `at` on, up to byte `next`
pub record Copying (s cs : List ℕ) (b : ℕ) (out₀ : List ℕ) (at : ℕ) (out : List ℕ) (from next n i : ℕ) : Type 0 where
  pub acc : List Op
  pub upto : i ≤ length cs
  pub whole : body b cs (ops_in s) ≡ acc ++ body b (drop i cs) (drop i (ops_in s))
  pub here : drop from s ≡ encode_all (drop i (ops_in s))
  pub stands : out ≡ placed out₀ at (encode_all acc)
  pub to : next ≡ at + length (encode_all acc)
  pub counts : n ≡ length acc
  pub few : n ≤ i
  pub long : length out ≡ length out₀

pub begin : (s cs : List ℕ) (b : ℕ) (out : List ℕ) (at : ℕ) → (patch_of s).number ≡ 0 → ((i : ℕ) → get_or s i 0 < 256) → Copying s cs b out at out 0 at 0 0
unfolding encode_all
begin s cs b out at z w = record {
  acc = [];
  upto = omega arith;
  whole = refl;
  here = sym (file_bytes s z (below_all s w));
  stands = placed_none out at;
  to = omega arith;
  counts = refl;
  few = omega arith;
  long = refl;
}

module _ (s cs : List ℕ) (b : ℕ) (out₀ : List ℕ) (at : ℕ) (out : List ℕ) (from next n i : ℕ) (c : Copying s cs b out₀ at out from next n i) where
  module _ (z : (patch_of s).number ≡ 0) (same : length cs ≡ length (ops_in s)) (h : i < length cs) where
    o : Op
    o = get_or (ops_in s) i (plain free)

    tail : List Op
    tail = drop (suc i) (ops_in s)

    op_at : drop i (ops_in s) ≡ o ∷ tail
    unfolding o tail
    op_at = drop-cons (ops_in s) i (plain free) (omega (arith, same))

    bytes_at : drop from s ≡ encode o ++ encode_all tail
    unfolding encode_all
    bytes_at = c.here ∙ ap encode_all op_at

    pub head_fits : from + 4 ≤ length s
    head_fits = omega (arith, ends o s from (encode_all tail) bytes_at)

    module _ (r : ℕ) (es : r ≡ u32_at s from) where
      abbrev size : ℕ
      size = r + 4

      size_here : size ≡ length (encode o)
      size_here = ap (λ (j : ℕ). j + 4) es ∙ size_is s from o (encode_all tail) bytes_at (short s z)

      pub size_fits : from + size ≤ length s
      size_fits = omega (arith, ends o s from (encode_all tail) bytes_at, size_here, length_encode o)

      here_on : drop (from + size) s ≡ encode_all tail
      here_on = ap (λ (j : ℕ). drop (from + j) s) size_here ∙ after s from (encode o) (encode_all tail) bytes_at

      module _ (m : ℕ) (em : m ≡ get_or cs i 0) where
        bodies_at : body b (drop i cs) (drop i (ops_in s)) ≡ body b (m ∷ drop (suc i) cs) (o ∷ tail)
        bodies_at = rw (drop-cons cs i 0 h, op_at, em) refl

        -- an op of another body
        pub over : (m ≡ b → ⊥) → Copying s cs b out₀ at out (from + size) next n (i + 1)
        unfolding tail
        over other = record {
          acc = c.acc;
          upto = omega arith;
          whole = rw (add-one i) (c.whole ∙ ap (λ (l : List Op). c.acc ++ l) (bodies_at ∙ body_other b m (drop (suc i) cs) o tail (λ e. other (sym e))));
          here = rw (add-one i) here_on;
          stands = c.stands;
          to = c.to;
          counts = c.counts;
          few = omega (arith, c.few);
          long = c.long;
        }

        -- an op of the body
        module _ (mine : m ≡ b) (room : at + length (encode_all (body b cs (ops_in s))) ≤ length out₀) where
          whole_on : body b cs (ops_in s) ≡ (c.acc ++ (o ∷ [])) ++ body b (drop (suc i) cs) tail
          whole_on =
              c.whole
              ∙ ap (λ (l : List Op). c.acc ++ l) (bodies_at ∙ body_mine b m (drop (suc i) cs) o tail (sym mine))
              ∙ sym (append_snoc c.acc o (body b (drop (suc i) cs) tail))

          long_on : length (encode_all (c.acc ++ (o ∷ []))) ≡ length (encode_all c.acc) + size
          long_on = ap length (encode_end c.acc o) ∙ length-append (encode_all c.acc) (encode o) ∙ ap (λ (j : ℕ). length (encode_all c.acc) + j) (sym size_here)

          pub room_here : next + size ≤ length out
          room_here =
              omega (
                arith,
                c.to,
                c.long,
                long_on,
                room,
                ap (λ (l : List Op). length (encode_all l)) whole_on,
                encode_length (c.acc ++ (o ∷ [])) (body b (drop (suc i) cs) tail),
              )

          pub on : (out' : List ℕ) → out' ≡ placed out next (text_at s from size) → Copying s cs b out₀ at out' (from + size) (next + size) (n + 1) (i + 1)
          unfolding tail
          on out' eo =
              let w : out' ≡ placed out₀ at (encode_all (c.acc ++ (o ∷ []))) =
              eo
              ∙ ap (placed out next) (ap (text_at s from) size_here ∙ text_is s from o (encode_all tail) bytes_at)
              ∙ ap (λ (l : List ℕ). placed l next (encode o)) c.stands
              ∙ placed_then out₀ at (encode_all c.acc) (encode o) next (sym c.to) (omega (arith, c.long, room_here))
              ∙ ap (placed out₀ at) (sym (encode_end c.acc o)) in
              record {
                acc = c.acc ++ (o ∷ []);
                upto = omega arith;
                whole = rw (add-one i) whole_on;
                here = rw (add-one i) here_on;
                stands = w;
                to = omega (arith, c.to, long_on);
                counts = omega (arith, c.counts, length-append c.acc (o ∷ []));
                few = omega (arith, c.few);
                long = ap length w ∙ length_placed out₀ at (encode_all (c.acc ++ (o ∷ []))) (omega (arith, room_here, long_on, c.to, c.long));
              }

  module _ (same : length cs ≡ length (ops_in s)) (h : length cs ≤ i) where
    all_copied : body b cs (ops_in s) ≡ c.acc
    unfolding body
    all_copied =
        let e : drop i cs ≡ [] = drop_of_length-le cs {i = i} h in
        c.whole ∙ ap (λ (l : List ℕ). c.acc ++ body b l (drop i (ops_in s))) e ∙ append-nil c.acc

    pub next_is : next ≡ at + length (encode_all (body b cs (ops_in s)))
    next_is = c.to ∙ ap (λ (l : List Op). at + length (encode_all l)) (sym all_copied)

    pub count_is : n ≡ length (body b cs (ops_in s))
    count_is = c.counts ∙ ap length (sym all_copied)

    pub out_is : out ≡ placed out₀ at (encode_all (body b cs (ops_in s)))
    out_is = c.stands ∙ ap (λ (l : List Op). placed out₀ at (encode_all l)) (sym all_copied)
