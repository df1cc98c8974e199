-- What `map_err` gave, taken back to what it was given. Assumes nothing.
use Rattle.std.proofs.Common.{◌≡◌, Result, Ok, Err, MatchResult, IsErrAnd, refl}
use Rattle.basics.proofs.Clash.{clash}

module _ {X E D : Type 0} (P : E → D → Type 0) where
  pub mapped_ok : (x : Result X E) (y : Result X D) → MatchResult x (λ r. y ≡ Ok r) (λ e. IsErrAnd y (P e)) → (r : X) → y ≡ Ok r → x ≡ Ok r
  mapped_ok (Ok a) y m r e = cc
  mapped_ok (Err f) y m r e = absurd (rw e at m)

  pub mapped_err : (x : Result X E) (y : Result X D) → MatchResult x (λ r. y ≡ Ok r) (λ e. IsErrAnd y (P e)) → (u : D) → y ≡ Err u → (f : E) × ((x ≡ Err f) × P f u)
  mapped_err (Ok a) y m u e = clash (cc)
  mapped_err (Err f) y m u e = (f, (refl, rw e at m))
