-- A text with a decimal at its start, as the reading of it meets it, and that every input begins with one. Assumes nothing.
use Rattle.std.proofs.Common.{◌≡◌, ◌∙◌, refl, ap, sym, subst, Bool, true, List, [], ◌∷◌, ◌++◌, ℕ, suc, ◌+◌, ◌%◌, length, take, arith}
use lib.Seq.{take-append_seam}
use borrow.Author.Tests.{eqb-true}
use Rattle.basics.proofs.Tests.{by_case}
use Rattle.decimals.specs.Chars.{is_space, is_digit, leading}
use Rattle.decimals.specs.Decimal.{is_point, point, after_point}
use Rattle.decimals.specs.Text.{All, Stops, Tail, Begins}
use Rattle.decimals.specs.Text.Tail.{pointed, bare}
use Rattle.decimals.specs.Text.Begins.{begins}

-- ---- the reading of a text

leading_of : (p : ℕ → Bool) (xs ys : List ℕ) → All p xs → Stops p ys → leading p (xs ++ ys) ≡ length xs
unfolding leading
leading_of p [] [] a s = refl
leading_of p [] (y ∷ ys) a s = rw s refl
leading_of p (x ∷ xs) ys a s = rw (a.0, leading_of p xs ys a.1 s) refl

-- a point is no digit
stops_digit : (v : ℕ) (vs : List ℕ) → is_point v ≡ true → Stops is_digit (v ∷ vs)
stops_digit v vs e = rw (eqb-true (v % 256) 46 e) refl

-- where there is no point, nothing is taken behind the digits
no_point : (r : List ℕ) → Stops is_point r → (point r ≡ 0) × (after_point r ≡ [])
no_point [] s = (refl, refl)
no_point (v ∷ vs) s = (rw s refl, rw s refl)

-- what is read behind the digits
pub record Behind (vs fs : List ℕ) (n : ℕ) : Type 0 where
  pub stops : Stops is_digit vs
  pub found : take (leading is_digit (after_point vs)) (after_point vs) ≡ fs
  pub taken : point vs + leading is_digit (after_point vs) ≡ n

pub behind : (vs fs : List ℕ) (n : ℕ) → Tail vs fs n → Behind vs fs n
unfolding leading
behind _ _ _ (pointed v fs rest e a s) =
    let l : leading is_digit (fs ++ rest) ≡ length fs = leading_of is_digit fs rest a s in
    record { stops = stops_digit v (fs ++ rest) e; found = rw (e, l) (take-append_seam fs rest); taken = rw (e, l) (omega arith) }
behind _ _ _ (bare rest d s) =
    let z = no_point rest s in
    record { stops = d; found = rw z.1 refl; taken = rw (z.0, z.1) refl }

-- ---- every input begins with one

record Split (p : ℕ → Bool) (vs : List ℕ) : Type 0 where
  front : List ℕ
  back : List ℕ
  whole : front ++ back ≡ vs
  all : All p front
  stops : Stops p back

split : (p : ℕ → Bool) (vs : List ℕ) → Split p vs
split p [] = record { front = []; back = []; whole = refl; all = tt; stops = tt }
split p (v ∷ vs) =
    by_case (p v)
    (λ e. let r = split p vs in record { front = v ∷ r.front; back = r.back; whole = ap (λ (l : List ℕ). v ∷ l) r.whole; all = (e, r.all); stops = r.stops })
    (λ e. record { front = []; back = v ∷ vs; whole = refl; all = tt; stops = e })

pub record Text (vs : List ℕ) : Type 0 where
  pub whole : List ℕ
  pub fraction : List ℕ
  pub taken : ℕ
  pub is : Begins vs whole fraction taken

record Ended (vs : List ℕ) : Type 0 where
  fraction : List ℕ
  taken : ℕ
  is : Tail vs fraction taken

ended : (vs : List ℕ) → Stops is_digit vs → Ended vs
ended [] s = record { fraction = []; taken = 0; is = bare [] tt tt }
ended (v ∷ vs) s =
    by_case (is_point v)
    (λ e. let r = split is_digit vs in
    record {
      fraction = r.front;
      taken = suc (length r.front);
      is = subst (λ (l : List ℕ). Tail (v ∷ l) r.front (suc (length r.front))) r.whole (pointed v r.front r.back e r.all r.stops);
    })
    (λ e. record { fraction = []; taken = 0; is = bare (v ∷ vs) s e })

pub text_there : (vs : List ℕ) → Text vs
text_there vs =
    let a = split is_space vs in let d = split is_digit a.back in let t = ended d.back d.stops in
    let q : a.front ++ (d.front ++ d.back) ≡ vs = ap (λ (l : List ℕ). a.front ++ l) d.whole ∙ a.whole in
    record {
      whole = d.front;
      fraction = t.fraction;
      taken = length a.front + length d.front + t.taken;
      is = subst (λ (l : List ℕ). Begins l d.front t.fraction (length a.front + length d.front + t.taken)) q
          (begins a.front d.front d.back t.fraction t.taken a.all d.all t.is (subst (Stops is_space) (sym d.whole) a.stops));
    }
