-- A flattened file is a patch again: the reader gives the flattened ops. Each body is the ops its entry says, and two answers coincide.
-- Assumes nothing.
use Prim.Native.Nat.{ℕ, ◌+◌, ◌-◌}
use native.Mathlib.Omega.{arith}
use mathlib.Core.Path.{◌≡◌, refl, ap, sym, ◌∙◌, subst}
use mathlib.Core.Bool.{Bool, true, false, cond}
use mathlib.Core.List.{List, [], ◌∷◌, ◌++◌, append_assoc}
use lib.Dec.{eqb}
use lib.ListN.{length, take, drop, length-append}
use lib.Seq.{take-append_seam, drop_at}
use Rattle.basics.proofs.Clash.{clash}
use Rattle.ops.specs.Syntax.{Op}
use Rattle.ops.specs.Patch.{patch_of}
use Rattle.ops.specs.Decode.{ops_of}
use Rattle.ops.specs.Decode.Patch.{ops}
use Rattle.ops.specs.Write.{encode_all, Below, Fits, Each}
use Rattle.file_laws.proofs.Fitting.{each_append, file_fit}
use Rattle.file_laws.proofs.RoundTrip.{ops_back}
use Rattle.flattening.specs.Flatten.{notes, Numbered, number, body, bodies, gathered, others, laid, flatten}
use Rattle.flattening.specs.declared.body.Body.{Body}
use Rattle.flattening.specs.Flatten.Numbered.{stray, numbered}
use Rattle.flattening.specs.Flatten.Flat.{flat}
use Rattle.flattening.specs.Flattened.{Outcome, ops_in, flatten_of}
use Rattle.flattening.proofs.InOrder.{length_bodies}
use Rattle.flattening.proofs.Flattened.{same_ops, same_bytes, same_marks}
use Rattle.flattening.proofs.Copying.{is_patch, file_bytes}

-- ---- the ops of the bodies fit a file, as those that are read do

fits_body : (b : ℕ) (cs : List ℕ) (os : List Op) → Each Fits os → Each Fits (body b cs os)
unfolding body
fits_body b [] os f = tt
fits_body b (c ∷ cs) [] f = tt
fits_body b (c ∷ cs) (o ∷ os) f = by (eqb b c) (fits_body b cs os f.1)
  where
    by : (x : Bool) → Each Fits (body b cs os) → Each Fits (cond x (o ∷ body b cs os) (body b cs os))
    by true t = (f.0, t)
    by false t = t

fits_gathered : (bs cs : List ℕ) (os : List Op) → Each Fits os → Each Fits (gathered bs cs os)
unfolding gathered
fits_gathered [] cs os f = tt
fits_gathered (b ∷ bs) cs os f = each_append Fits (body b cs os) (gathered bs cs os) (fits_body b cs os f) (fits_gathered bs cs os f)

fits_flat : (os fs : List Op) (es : List Body) → flatten os ≡ flat fs es → Each Fits os → Each Fits fs
unfolding flatten
fits_flat os fs es e f = by (number 0 0 0 [] [] (notes os)) e
  where
    by : (r : Numbered) → laid os r ≡ flat fs es → Each Fits fs
    by (stray p) x = clash (cc)
    by (numbered cs seen) x =
        let q : gathered (others seen) cs os ++ body 0 cs os ≡ fs = cc in
        subst (Each Fits) q (each_append Fits (gathered (others seen) cs os) (body 0 cs os) (fits_gathered (others seen) cs os f) (fits_body 0 cs os f))

-- ---- a patch again

module _ (s : List ℕ) (w : Below 256 s) (z : (patch_of s).number ≡ 0) where
  -- the bytes of the flattened ops are read as the flattened ops: a good file's flattening is a good file
  pub patch_again : (fs : List Op) (es : List Body) → flatten (ops_in s) ≡ flat fs es → ops_of (encode_all fs) ≡ ops fs
  patch_again fs es e =
      let f = file_fit s w (ops_in s) (is_patch s z) in
      ops_back fs (record {
        each = fits_flat (ops_in s) fs es e f.each;
        ops = omega (arith, same_ops (ops_in s) fs es e, f.ops);
        marks = omega (arith, same_marks (ops_in s) fs es e, f.marks);
        bytes = omega (arith, same_bytes (ops_in s) fs es e, f.bytes);
      })

  -- the result is as long as the file
  pub as_long : (fs : List Op) (es : List Body) → flatten (ops_in s) ≡ flat fs es → length (encode_all fs) ≡ length s
  as_long fs es e = same_bytes (ops_in s) fs es e ∙ ap length (file_bytes s z w)

-- ---- the entries

-- each entry has the number of its body, and the ops from its first on, as many as it counts, are the body's
abbrev pub Says : List Op → List ℕ → List Op → List ℕ → List Body → Type 0
Says fs cs os [] es = Unit {0}
Says fs cs os (b ∷ bs) [] = ⊥
Says fs cs os (b ∷ bs) (e ∷ es) = (e.number ≡ b - 1) × ((take e.count (drop e.first fs) ≡ body b cs os) × Says fs cs os bs es)

entries_say : (pre : List Op) (bs cs : List ℕ) (os post fs : List Op) (p : ℕ) → p ≡ length pre → fs ≡ pre ++ (gathered bs cs os ++ post) → Says fs cs os bs (bodies p bs cs os)
unfolding bodies gathered
entries_say pre [] cs os post fs p e q = tt
entries_say pre (b ∷ bs) cs os post fs p e q =
    let n = length (body b cs os) in
    let x : drop p fs ≡ body b cs os ++ (gathered bs cs os ++ post) =
    ap (drop p) q ∙ drop_at pre ((body b cs os ++ gathered bs cs os) ++ post) p (sym e) ∙ append_assoc (body b cs os) (gathered bs cs os) post in
    let y : fs ≡ (pre ++ body b cs os) ++ (gathered bs cs os ++ post) =
    q ∙ ap (λ (l : List Op). pre ++ l) (append_assoc (body b cs os) (gathered bs cs os) post) ∙ sym (append_assoc pre (body b cs os) (gathered bs cs os ++ post)) in (
      refl,
      (
        ap (take n) x ∙ take-append_seam (body b cs os) (gathered bs cs os ++ post),
        entries_say (pre ++ body b cs os) bs cs os post fs (p + n) (omega (arith, e, length-append pre (body b cs os))) y,
      ),
    )

-- each body is the ops its entry says: cs are the bodies of the ops, and seen the bodies, by the numbering
pub bodies_say : (os fs : List Op) (es : List Body) → flatten os ≡ flat fs es
    → (cs : List ℕ) × ((seen : List ℕ) × ((number 0 0 0 [] [] (notes os) ≡ numbered cs seen) × ((length es ≡ length (others seen)) × Says fs cs os (others seen) es)))
unfolding flatten
bodies_say os fs es e = by (number 0 0 0 [] [] (notes os)) refl e
  where
    by : (r : Numbered) → number 0 0 0 [] [] (notes os) ≡ r → laid os r ≡ flat fs es
        → (cs : List ℕ) × ((seen : List ℕ) × ((number 0 0 0 [] [] (notes os) ≡ numbered cs seen) × ((length es ≡ length (others seen)) × Says fs cs os (others seen) es)))
    by (stray p) n x = clash (cc)
    by (numbered cs seen) n x =
        let q : gathered (others seen) cs os ++ body 0 cs os ≡ fs = cc in
        let t : bodies 0 (others seen) cs os ≡ es = cc in (
          cs,
          (
            seen,
            (
              n,
              (
                ap length (sym t) ∙ length_bodies 0 (others seen) cs os,
                subst (λ (l : List Body). Says fs cs os (others seen) l) t (entries_say [] (others seen) cs os (body 0 cs os) fs 0 refl (sym q)),
              ),
            ),
          ),
        )

-- ---- one answer

-- two answers that meet the contract of `flatten` coincide, with all that they leave of the lent slices
pub same_answer : (s o ns fs ks : List ℕ) (x y : Outcome) → x ≡ flatten_of s o ns fs ks → y ≡ flatten_of s o ns fs ks → x ≡ y
same_answer s o ns fs ks x y e f = e ∙ sym f
