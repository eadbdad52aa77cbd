-- A number's digits in the library's words.
-- Assumes nothing.
use Rattle.std.proofs.Common.{◌≡◌, ℕ, zero, suc, ◌+◌, ◌^◌, ◌/◌, ◌%◌, ◌<◌, ◌≤◌, cond, List, [], ◌∷◌, ◌++◌, ◌⊎◌, inl, inr, sym, refl, ap, ◌∙◌, arith, pow-suc}
use Rattle.std.proofs.lemmas.Bool.{cases_lt}
use Rattle.std.proofs.lemmas.Fmt.{decimal_digit, decimal_step}
use Rattle.std.specs.Fmt.{decimal as Fmt·decimal}
use borrow.Author.Tests.{ne_eqb}
use Rattle.text.specs.Written.{digits, decimal}

-- no digits of zero
no_digits : (k n : ℕ) → n ≡ 0 → digits k n ≡ []
no_digits zero n is = refl
no_digits (suc k) n is = ap (digits (suc k)) is

-- the last digit, behind those that a number has before it
last_digit : (before : List ℕ) (n : ℕ) → (n < 10 → before ≡ []) → (10 ≤ n → before ≡ Fmt·decimal (n / 10)) → n < 2 ^ 64 → before ++ ((48 + n % 10) ∷ []) ≡ Fmt·decimal n
last_digit before n few more fits = either (cases_lt n 10)
  where
    either : (n < 10) ⊎ (10 ≤ n) → before ++ ((48 + n % 10) ∷ []) ≡ Fmt·decimal n
    either (inl h) =
        let same : n % 10 ≡ n = omega arith in
        ap (λ ds. ds ++ ((48 + n % 10) ∷ [])) (few h) ∙ ap (λ (d : ℕ). (48 + d) ∷ []) same ∙ sym (decimal_digit n h)
    either (inr h) = ap (λ ds. ds ++ ((48 + n % 10) ∷ [])) (more h) ∙ sym (decimal_step n h fits)

-- as many digits as a number may have are its digits
digits_is : (k n : ℕ) → 0 < n → n < 10 ^ k → n < 2 ^ 64 → digits k n ≡ Fmt·decimal n
digits_is zero n some most fits = absurd (omega arith)
digits_is (suc k) n some most fits =
    ap (λ t. cond t [] (digits k (n / 10) ++ ((48 + n % 10) ∷ []))) (ne_eqb n 0 (λ is. omega (arith, is, some)))
    ∙ last_digit (digits k (n / 10)) n (λ h. no_digits k (n / 10) (omega (arith, h)))
    (λ h. digits_is k (n / 10) (omega (arith, h)) (omega (arith, most, pow-suc 10 k)) (omega (arith, fits))) fits

pub decimal_is : (n : ℕ) → n < 2 ^ 64 → decimal n ≡ Fmt·decimal n
unfolding decimal
decimal_is n fits =
    last_digit (digits 19 (n / 10)) n (λ h. no_digits 19 (n / 10) (omega (arith, h))) (λ h. digits_is 19 (n / 10) (omega (arith, h)) (omega (arith, fits)) (omega (arith, fits))) fits
