-- 02, ask 8, on the code: a patch and the same patch with comments added, run from fresh over the same slices, give the same answers, with the places
-- moved. Assumes nothing.
use mathlib.Core.Path.{◌≡◌, ◌∙◌, ap, sym}
use mathlib.Core.Bool.{true}
use mathlib.Core.List.{List, ◌∷◌, ◌++◌}
use Prim.Native.Nat.{ℕ}
use lib.ListN.{length}
use Rattle.ops.specs.Syntax.{Op}
use Rattle.ops.specs.Syntax.Plain.{comment}
use Rattle.ops.specs.Syntax.Op.{plain}
use Rattle.ops.specs.Patch.{patch_of}
use Rattle.machine_model.specs.State.{given, fresh}
use Rattle.machine_model.specs.Run.{run}
use Rattle.free_comments.specs.Free.{skip, bare, kept, answered, Same, CommentFree, CommentsFree}
use Rattle.free_comments.proofs.One.{comment_free}
use Rattle.free_comments.proofs.Bare.{comments_free}
use Rattle.busy.specs.Sums.{allowed}
use Rattle.bridge.specs.Decoded.{patch_in}
use Rattle.bridge.specs.Run.{seen}
use Rattle.bridge.proofs.Decoded.{Bytes}
use Rattle.machine.specs.Calls.{Slices, Ended, run_in, can_begin, ran_to, fresh_call}
use Rattle.machine.specs.declared.machine.Ran as code
use Rattle.demands.proofs.Calls.{fresh_is_model}

-- as much room for outputs, and a tape as long
abbrev pub SameRoom : Slices → Slices → Type 0
SameRoom l k = (length k.output ≡ length l.output) × (length k.tape ≡ length l.tape)

-- a good file of these ops
pub record IsFile (s : List ℕ) (os : List Op) : Type 0 where
  pub bytes : Bytes s
  pub good : (patch_of s).number ≡ 0
  pub ops : patch_in s ≡ os

-- two runs that meet the contract of `run_fresh`, of the file s and of the file t, in the same mode, lent slices of the same room, the counts one for each op: what is seen
-- of the second is what is seen of the first, with its places moved by f
abbrev pub SameFresh : List ℕ → List ℕ → (ℕ → ℕ) → Type 0
SameFresh s t f =
    (input : List ℕ) (budget mode : ℕ) (l k : Slices) → can_begin s mode l ≡ true → can_begin t mode k ≡ true → SameRoom l k
    → (r q : code.Ran) (n m : Slices) → ran_to r n ≡ fresh_call s input budget mode l → ran_to q m ≡ fresh_call t input budget mode k
    → seen (run_in (ran_to q m)) ≡ answered f (seen (run_in (ran_to r n)))

module _ (s : List ℕ) (os : List Op) (h : IsFile s os) where
  runs : (input : List ℕ) (budget mode : ℕ) (l : Slices) → can_begin s mode l ≡ true
      → (r : code.Ran) (n : Slices) → ran_to r n ≡ fresh_call s input budget mode l
      → seen (run_in (ran_to r n)) ≡ run (given os mode input (length l.output)) (allowed budget 0) (fresh (length l.tape))
  runs input b mode l w r n e =
      ap (λ (a : Ended). seen (run_in a)) e ∙ fresh_is_model s input h.bytes h.good b mode l w
      ∙ ap (λ (xs : List Op). run (given xs mode input (length l.output)) (allowed b 0) (fresh (length l.tape))) h.ops

same_fresh : (s t : List ℕ) (os os' : List Op) (f : ℕ → ℕ) → IsFile s os → IsFile t os' → Same os os' f → SameFresh s t f
same_fresh s t os os' f h k same input b mode l l' w w' room r q n m e d =
    runs t os' k input b mode l' w' q m d
    ∙ rw (room.0, room.1) (same mode input (length l.output) (length l.tape) (allowed b 0))
    ∙ ap (answered f) (sym (runs s os h input b mode l w r n e))

-- one comment, at any place of the patch
pub fresh_comment_free : (A : List Op) (bs : List ℕ) (B : List Op) (s t : List ℕ) → IsFile s (A ++ plain (comment bs) ∷ B) → IsFile t (A ++ B)
    → SameFresh s t (skip (length A))
unfolding CommentFree
fresh_comment_free A bs B s t h k = same_fresh s t (A ++ plain (comment bs) ∷ B) (A ++ B) (skip (length A)) h k (comment_free A bs B)

-- all of them
pub fresh_comments_free : (os : List Op) (s t : List ℕ) → IsFile s os → IsFile t (bare os) → SameFresh s t (kept os)
unfolding CommentsFree
fresh_comments_free os s t h k = same_fresh s t os (bare os) (kept os) h k (comments_free os)
