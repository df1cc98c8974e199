-- The check's answer to a file, by what `load` left. Assumes nothing.
use Prim.Native.Nat.{ℕ, ◌≤◌}
use mathlib.Core.Path.{◌≡◌, ◌∙◌, ap, sym}
use mathlib.Core.List.{List, map}
use lib.ListN.{length, take}
use Rattle.basics.specs.Limits.{most_ops, lanes}
use Rattle.byte_fields.specs.Storage.{fill}
use Rattle.ops.specs.Patch.{row_in, count_in, patch_of}
use Rattle.patch_reader.specs.Answer.{read_of}
use Rattle.patch_reader.specs.declared.reader.Unread.{Unread}
use Rattle.file_laws.proofs.Items.{items_are}
use Rattle.file_laws.proofs.Loaded as loaded
use Rattle.file_laws.proofs.Meaning.{ops_are, refused_are}
use Rattle.patch_check.specs.Check.{check}
use Rattle.patch_check.specs.Rows.{row_scan}
use Rattle.patch_check.specs.File.{check_of}
use Rattle.std.proofs.Common.{Ok, Err}
use Rattle.std.specs.Result.{IsErrAnd}
use Rattle.std.proofs.lemmas.Result.{err_from_is_err_and}
use Rattle.answers.specs.Check.{Verdict, bad_file}
use Rattle.patch_check.proofs.RowsAreOps.{same_scan}

module _ (s : List ℕ) where
  pub bad_file_lem : (u : Unread) → Err u ≡ read_of (patch_of s) → (v : Verdict) → IsErrAnd v (λ e. e ≡ bad_file u) → v ≡ check_of s
  unfolding check_of
  bad_file_lem u e v h =
      let w = err_from_is_err_and v h in
      w.1 ∙ ap Err w.2 ∙ rw (refused_are s (loaded.bad_file s u e), loaded.bad_number s u e, loaded.bad_place s u e)

  -- the columns' first parts: what `check_ops` asks of them, and what its answer is
  module _ (n : ℕ) (e : Ok n ≡ read_of (patch_of s)) (k₀ c₀ k c : List ℕ) (ek : k ≡ fill (map row_in (patch_of s).items) k₀) (ec : c ≡ fill (map count_in (patch_of s).items) c₀) where
    pub parts : (length (take n k) ≤ most_ops) × (length (take n c) ≡ length (take n k))
    parts =
        let o = loaded.good_ops s n e in
        (loaded.part_few s n o row_in k k₀ ek, sym (loaded.part_length s n o count_in c c₀ ec) ∙ loaded.part_length s n o row_in k k₀ ek)

    pub good_file_lem : (v : Verdict) → v ≡ row_scan 0 0 lanes 0 (take n k) (take n c) → v ≡ check_of s
    unfolding check_of check
    good_file_lem v q =
        let o = loaded.good_ops s n e in
        q
        ∙ rw (loaded.part_is s n o row_in k k₀ ek, loaded.part_is s n o count_in c c₀ ec, ops_are s (loaded.good_file s n e))
        (same_scan s (patch_of s).items (items_are s) 0 0 lanes 0)
