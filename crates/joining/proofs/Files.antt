-- What each way out of `join` shows of the file. Assumes nothing.
use mathlib.Core.Path.{◌≡◌, refl, ap, ap₂, sym, ◌∙◌}
use Prim.Native.Nat.{ℕ, zero, suc, ◌<◌, ◌≤◌}
use native.Mathlib.Omega.{arith}
use mathlib.Core.List.{List, map}
use lib.ListN.{length, get_or, drop, length-map, length-reverse, get_or-append, get_or-map}
use mir.Val.{Fits}
use mir.Syntax.{w8}
use borrow.Author.Tests.{lt-ltb, le-ltb}
use Rattle.byte_fields.specs.Storage.{fill}
use Rattle.ops.specs.Patch.{Item, item, row_in, count_in, payload_in, patch_of}
use Rattle.patch_reader.specs.Answer.{read_of}
use Rattle.ops.specs.Decode.{op_at, ops_of}
use Rattle.ops.specs.Decode.Patch.{ops}
use Rattle.ops.specs.Write.{encode_all, Below}
use Rattle.patch_reader.specs.declared.reader.Unread.{Unread}
use Rattle.file_laws.proofs.Loaded.{bad_file, bad_number, bad_place}
use Rattle.file_laws.proofs.Meaning.{ops_are, refused_are}
use Rattle.file_laws.proofs.Fitting.{below_all}
use Rattle.file_laws.proofs.Rewritten.{bytes_back}
use Rattle.joining.specs.Join.{join}
use Rattle.joining.specs.Joined.{outcome, joined_as, join_of}
use Rattle.joining.specs.Source.{Holds}
use Rattle.joining.specs.declared.stack.Stack.{Stack}
use Rattle.joining.specs.Stack.{stack, top_down, after, op_of, file, Within}
use Rattle.ops.specs.Syntax.{Op}
use Rattle.answers.specs.Join as answers
use Rattle.answers.specs.Join.{Joining, written}
use Rattle.answers.specs.declared.join.JoinError.TheVariants.{BadFile, NoRoom}
use Rattle.std.specs.Prelude.{Err}
use Rattle.std.proofs.lemmas.Result.{err_from_is_err_and}
use Rattle.std.specs.Result.{IsErrAnd}
use Rattle.joining.proofs.StackIsOps.{joined_seen}
use Rattle.joining.proofs.Sizes.{join_shorter}

-- ---- the bytes

-- a slice of bytes has numbers below 256
pub all_below : (s : List ℕ) → ((i : ℕ) → Fits w8 (get_or s i 0)) → Below 256 s
all_below s f = below_all s (λ i. (f i).fits)

-- ---- the arrays

module _ (f : Item → ℕ) (s old new : List ℕ) (e : new ≡ fill (map f (patch_of s).items) old) where
  array_at : f (item 0 0 0) ≡ 0 → (i : ℕ) → i < length (patch_of s).items → get_or new i 0 ≡ f (get_or (patch_of s).items i (item 0 0 0))
  unfolding fill
  array_at z i h =
      ap (λ (l : List ℕ). get_or l i 0) e
      ∙ get_or-append (map f (patch_of s).items) (drop (length (map f (patch_of s).items)) old) 0 i (rw (length-map (patch_of s).items f) h)
      ∙ ap (get_or (map f (patch_of s).items) i) (sym z)
      ∙ get_or-map f (patch_of s).items i (item 0 0 0)

-- ---- a file that is read, and refused or not

pub refused : (s : List ℕ) (u : Unread) → Err u ≡ read_of (patch_of s) → (v : Joining) → IsErrAnd v (λ e. e ≡ answers.bad_file u)
    → (out : List ℕ) → outcome v out ≡ join_of s out
unfolding join_of
refused s u e v h out =
    let w = err_from_is_err_and v h in
    ap (λ (a : Joining). outcome a out) (w.1 ∙ ap Err w.2)
    ∙ ap₂ (λ (a b : ℕ). outcome (Err (BadFile a b)) out) (bad_number s u e) (bad_place s u e)
    ∙ sym (ap (λ x. joined_as x s out) (refused_are s (bad_file s u e)))

pub holds : (s : List ℕ) (n : ℕ) → n ≡ length (patch_of s).items → (k₀ c₀ p₀ k c p : List ℕ)
    → k ≡ fill (map row_in (patch_of s).items) k₀ → c ≡ fill (map count_in (patch_of s).items) c₀
    → p ≡ fill (map payload_in (patch_of s).items) p₀ → Holds s k c p n
holds s n many k₀ c₀ p₀ k c p ek ec ep = record {
  many = many;
  rows = λ i l. array_at row_in s k₀ k ek refl i (omega (arith, l, many));
  counts = λ i l. array_at count_in s c₀ c ec refl i (omega (arith, l, many));
  payloads = λ i l. array_at payload_in s p₀ p ep refl i (omega (arith, l, many));
}

-- ---- a good file

module _ (s : List ℕ) (z : (patch_of s).number ≡ 0) where
  is_patch : ops_of s ≡ ops (map (op_at s) (patch_of s).items)
  is_patch = ops_are s z

  pub no_room : (out : List ℕ) → length out < length s → outcome (Err NoRoom) out ≡ join_of s out
  unfolding join_of
  no_room out l = sym (ap (λ x. joined_as x s out) is_patch ∙ rw (lt-ltb (length out) (length s) l) refl)

-- ---- the stack after all its ops

top_down_long : (is vs : List ℕ) (n : ℕ) → length (top_down is vs n) ≡ n
top_down_long is vs zero = refl
top_down_long is vs (suc n) = ap suc (top_down_long is vs n)

abbrev joined_ops : List ℕ → List Op
joined_ops s = join (map (op_at s) (patch_of s).items)

module _ {s k c p : List ℕ} {n : ℕ} (h : Holds s k c p n) (st : Stack) (q : stack st ≡ after s k c n) where
  pub all_within : Within n (stack st)
  all_within = rw q (joined_seen s k c p n h).1

  file_is : file s (stack st) ≡ encode_all (joined_ops s)
  unfolding file
  file_is = rw q (ap encode_all (sym (joined_seen s k c p n h).0))

  ops_are_left : st.n ≡ length (joined_ops s)
  ops_are_left =
      sym (ap length (joined_seen s k c p n h).0
      ∙ length-reverse (map (op_of s) (after s k c n))
      ∙ length-map (after s k c n) (op_of s)
      ∙ ap length (sym q)
      ∙ top_down_long st.ops st.values st.n)

  module _ (z : (patch_of s).number ≡ 0) (out : List ℕ) (room : length s ≤ length out) where
    pub file_fits : Below 256 s → length (file s (stack st)) ≤ length out
    file_fits w =
        let b : length (encode_all (map (op_at s) (patch_of s).items)) ≡ length s = ap length (bytes_back s w (map (op_at s) (patch_of s).items) (is_patch s z)) in
        let l = join_shorter (map (op_at s) (patch_of s).items) in
        rw file_is (omega arith)

    pub all_joined : {out' : List ℕ} {len : ℕ} → len ≡ length (file s (stack st)) → out' ≡ fill (file s (stack st)) out
        → outcome (written st.n len) out' ≡ join_of s out
    unfolding join_of
    all_joined {out' = out'} a b =
        ap₂ (λ (i j : ℕ). outcome (written i j) out') ops_are_left (a ∙ ap length file_is)
        ∙ ap (outcome (written (length (joined_ops s)) (length (encode_all (joined_ops s))))) (b ∙ ap (λ (l : List ℕ). fill l out) file_is)
        ∙ sym (ap (λ x. joined_as x s out) (is_patch s z) ∙ rw (le-ltb (length out) (length s) room) refl)
