-- Two answers that meet one contract of the readers and the writer coincide. Assumes nothing.
use mathlib.Core.Path.{◌≡◌, ◌∙◌, sym, ap}
use mathlib.Core.List.{List, map}
use Prim.Native.Nat.{ℕ}
use denote.Ref.{Bor}
use Rattle.std.proofs.Common.{Option, Result}
use Rattle.ops.specs.Record.{record_from}
use Rattle.ops.specs.Patch.{Item, patch_of}
use Rattle.patch_reader.specs.Answer.{read_of}
use Rattle.byte_fields.specs.Storage.{fill}
use Rattle.ops.specs.Write.{Wrote, wrote, write_of}
use Rattle.ops.specs.declared.refusals.Fault.{Fault}
use Rattle.ops.specs.declared.records.Record.{Record}
use Rattle.patch_reader.specs.declared.record_reader.Reader.{Reader}
use Rattle.patch_reader.specs.declared.reader.Unread.{Unread}

-- of every operation whose contract is one equation for a plain answer: `Refusal::number`, `kind_at`, `u16_at`, `mode_at` and their like,
-- in each crate
pub one_value : {A : Type 0} (v a b : A) → a ≡ v → b ≡ v → a ≡ b
one_value v a b p q = p ∙ sym q

-- `read_patch`, and `load`'s answer
pub unique : (s : List ℕ) (a b : Result ℕ Unread) → a ≡ read_of (patch_of s) → b ≡ read_of (patch_of s) → a ≡ b
unique s a b = one_value (read_of (patch_of s)) a b

-- `Reader::next_record` and `read_record`
pub unique_record : (s : List ℕ) (at : ℕ) (a b : Result Record Fault) → a ≡ record_from s at → b ≡ record_from s at → a ≡ b
unique_record s at a b = one_value (record_from s at) a b

-- `Reader::new` and `Reader::advanced`
abbrev reader : Bor (List ℕ) → ℕ → Reader
reader s at = record { bytes = s; at = at }

pub unique_reader : (s : Bor (List ℕ)) (at : ℕ) (a b : Reader) → (a.bytes ≡ s) × (a.at ≡ at) → (b.bytes ≡ s) × (b.at ≡ at) → a ≡ b
unique_reader s at a b p q =
    ap (λ (x : Bor (List ℕ)). reader x a.at) (p.0 ∙ sym q.0) ∙ ap (reader b.bytes) (p.1 ∙ sym q.1)

-- each of the four columns that `load` fills
pub unique_array : (column : Item → ℕ) (s old a b : List ℕ) → a ≡ fill (map column (patch_of s).items) old → b ≡ fill (map column (patch_of s).items) old → a ≡ b
unique_array column s old a b = one_value (fill (map column (patch_of s).items) old) a b

-- `write_record`: the answer and every byte
pub unique_write : (out : List ℕ) (at k : ℕ) (payload : List ℕ) (a b : Option ℕ) (p q : List ℕ) → wrote a p ≡ write_of out at k payload → wrote b q ≡ write_of out at k payload
    → (a ≡ b) × (p ≡ q)
unique_write out at k payload a b p q e f = (ap (λ (w : Wrote). w.answer) (e ∙ sym f), ap (λ (w : Wrote). w.bytes) (e ∙ sym f))
