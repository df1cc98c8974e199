-- What a record tells that reads as whole. Assumes nothing.
use mathlib.Core.Path.{◌≡◌, refl, sym, ap}
use mathlib.Core.Bool.{Bool, true, false, cond, not}
use mathlib.Core.List.{List}
use Prim.Native.Nat.{ℕ, ◌+◌, ◌-◌, ◌<◌, ◌≤◌}
use native.Mathlib.Omega.{arith}
use borrow.Author.Tests.{ltb-false, leb-false, not-false}
use lib.Dec.{ltb, leb, eqb}
use lib.ListN.{length}
use Rattle.std.proofs.Common.{Result, Ok}
use Rattle.byte_fields.specs.Bytes.{u16_at, u32_at}
use Rattle.kind_table.specs.Kinds.{shape, left_out, kind_at, index_of}
use Rattle.ops.specs.Record.{whole, bad, record_at, body_at, length_ok, count_of, named_of, last_of}
use Rattle.ops.specs.declared.refusals.Refusal.{Refusal}
use Rattle.ops.specs.declared.refusals.Fault.{Fault}
use Rattle.ops.specs.declared.records.Record.{Record}

-- a test that a whole record passed
past : (t : Bool) (r : Refusal) (q k b l n next : ℕ) (x : Result Record Fault) → cond t (bad r q) x ≡ whole k b l n next → (t ≡ false) × (x ≡ whole k b l n next)
past true r q k b l n next x e = let z : ◌≡◌ {A = ℕ} 0 1 = cc in absurd (omega arith)
past false r q k b l n next x e = (refl, e)

one_record : (x y : Record) → ◌≡◌ {A = Result Record Fault} (Ok x) (Ok y) → x ≡ y
one_record x y e = cc

-- the whole record at p: its row is k, its payload has l bytes from b on and counts n, and it ends at next
pub record Tells (s : List ℕ) (p k b l n next : ℕ) : Type 0 where
  pub numbered : index_of (u16_at s (p + 4)) ≡ k
  pub sized : u32_at s p ≡ l + 2
  pub small : k < 62
  pub body : b ≡ p + 6
  pub size : next ≡ b + l
  pub within : next ≤ length s
  pub counts : n ≡ count_of s (shape (kind_at k)) b l
  pub kept : left_out (shape (kind_at k)) ≡ false
  pub fits : length_ok (shape (kind_at k)) l ≡ true
  pub few : n ≤ 1024
  pub named : named_of s (shape (kind_at k)) b ≤ last_of (shape (kind_at k))
  pub float : eqb (named_of s (shape (kind_at k)) b) 2 ≡ false

record Body (s : List ℕ) (p K L k b l n next : ℕ) : Type 0 where
  is : whole K (p + 6) L (count_of s (shape (kind_at K)) (p + 6) L) (p + 6 + L) ≡ whole k b l n next
  kept : left_out (shape (kind_at K)) ≡ false
  fits : not (length_ok (shape (kind_at K)) L) ≡ false
  few : ltb 1024 (count_of s (shape (kind_at K)) (p + 6) L) ≡ false
  named : ltb (last_of (shape (kind_at K))) (named_of s (shape (kind_at K)) (p + 6)) ≡ false
  float : eqb (named_of s (shape (kind_at K)) (p + 6)) 2 ≡ false

body_tells : (s : List ℕ) (p K L k b l n next : ℕ) → body_at s p K L ≡ whole k b l n next → Body s p K L k b l n next
unfolding body_at
body_tells s p K L k b l n next e =
    let e₁ = past (left_out (shape (kind_at K))) _ _ _ _ _ _ _ _ e in
    let e₂ = past (not (length_ok (shape (kind_at K)) L)) _ _ _ _ _ _ _ _ e₁.1 in
    let e₃ = past (ltb 1024 (count_of s (shape (kind_at K)) (p + 6) L)) _ _ _ _ _ _ _ _ e₂.1 in
    let e₄ = past (ltb (last_of (shape (kind_at K))) (named_of s (shape (kind_at K)) (p + 6))) _ _ _ _ _ _ _ _ e₃.1 in
    let e₅ = past (eqb (named_of s (shape (kind_at K)) (p + 6)) 2) _ _ _ _ _ _ _ _ e₄.1 in
    record { is = e₅.1; kept = e₁.0; fits = e₂.0; few = e₃.0; named = e₄.0; float = e₅.0 }

pub tells : (s : List ℕ) (p k b l n next : ℕ) → record_at s p ≡ whole k b l n next → Tells s p k b l n next
unfolding record_at
tells s p k b l n next e =
    let K = index_of (u16_at s (p + 4)) in
    let L = u32_at s p - 2 in
    let C = count_of s (shape (kind_at K)) (p + 6) L in
    let e₁ = past (ltb (length s) (p + 4)) _ _ _ _ _ _ _ _ e in
    let e₂ = past (ltb (u32_at s p) 2) _ _ _ _ _ _ _ _ e₁.1 in
    let e₃ = past (ltb (length s) (p + 4 + u32_at s p)) _ _ _ _ _ _ _ _ e₂.1 in
    let e₄ = past (leb 62 K) _ _ _ _ _ _ _ _ e₃.1 in
    let t = body_tells s p K L k b l n next e₄.1 in
    let c : whole K (p + 6) L C (p + 6 + L) ≡ whole k b l n next = t.is in
    let kept : left_out (shape (kind_at K)) ≡ false = t.kept in
    let fits : length_ok (shape (kind_at K)) L ≡ true = not-false (length_ok (shape (kind_at K)) L) t.fits in
    let few : C ≤ 1024 = ltb-false 1024 C t.few in
    let named : named_of s (shape (kind_at K)) (p + 6) ≤ last_of (shape (kind_at K)) = ltb-false (last_of (shape (kind_at K))) (named_of s (shape (kind_at K)) (p + 6)) t.named in
    let float : eqb (named_of s (shape (kind_at K)) (p + 6)) 2 ≡ false = t.float in
    let q = one_record _ _ c in
    let qk : K ≡ k = ap (λ (r : Record). r.row) q in
    let qb : p + 6 ≡ b = ap (λ (r : Record). r.body) q in
    let ql : L ≡ l = ap (λ (r : Record). r.len) q in
    let qn : C ≡ n = ap (λ (r : Record). r.count) q in
    let qx : p + 6 + L ≡ next = ap (λ (r : Record). r.next) q in
    let qo : last_of (shape (kind_at K)) ≡ last_of (shape (kind_at k)) = cc in
    let qm : named_of s (shape (kind_at K)) (p + 6) ≡ named_of s (shape (kind_at k)) b = cc in
    record {
      numbered = qk;
      sized = omega (arith, ltb-false (u32_at s p) 2 e₂.0, ql);
      small = omega (arith, leb-false 62 K e₄.0, qk);
      body = sym qb;
      size = omega (arith, qb, ql, qx);
      within = omega (arith, ltb-false (length s) (p + 4 + u32_at s p) e₃.0, ltb-false (u32_at s p) 2 e₂.0, qx);
      counts = cc;
      kept = cc;
      fits = cc;
      few = omega (arith, few, qn);
      named = omega (arith, named, qm, qo);
      float = cc;
    }
