-- What is written is read: a word that stands behind a blank, and the numbers of eight bits.
-- Assumes nothing.
use mathlib.Core.Bool.{Bool, true, false, cond, not, ◌&&◌, ◌||◌, false≢true}
use mathlib.Core.List.{List, [], ◌∷◌, ◌++◌}
use mathlib.Core.Path.{◌≡◌, refl, ap, ap₂, ◌∙◌}
use Prim.Native.Nat.{ℕ, zero, suc, ◌+◌, ◌-◌, ◌≤◌}
use native.Mathlib.Omega.{arith}
use borrow.Author.Tests.{eqb-true}
use lib.Dec.{eqb, ltb}
use lib.ListN.{length, get_or, take, drop}
use lib.Seq.{take_at, drop_at}
use Rattle.bits.proofs.Below.{both_left, both_right, every_each}
use Rattle.bits.specs.Below.{every}
use Rattle.text.specs.Words.{is_blank, is_letter, lead, word_start, word_end, word, decimal_in, hex_in}
use Rattle.text.specs.Written.{decimal, hex_byte}
use Rattle.std.specs.Prelude.{Option, Some, None}

-- each byte of a text passes a test
abbrev pub each : (ℕ → Bool) → List ℕ → Bool
each f [] = true
each f (c ∷ cs) = f c && each f cs

pub each_append : (f : ℕ → Bool) (x y : List ℕ) → each f x ≡ true → each f y ≡ true → each f (x ++ y) ≡ true
each_append f [] y first second = second
each_append f (c ∷ cs) y first second =
    ap₂ (λ a b. a && b) (both_left (f c) (each f cs) first) (each_append f cs y (both_right (f c) (each f cs) first) second)

pub each_at : (f : ℕ → Bool) (l : List ℕ) (i d : ℕ) → each f l ≡ true → f d ≡ true → f (get_or l i d) ≡ true
each_at f [] i d ok otherwise = otherwise
each_at f (c ∷ cs) zero d ok otherwise = both_left (f c) (each f cs) ok
each_at f (c ∷ cs) (suc i) d ok otherwise = each_at f cs i d (both_right (f c) (each f cs) ok) otherwise

-- a byte of a word that is no carriage return (13), and a word of such bytes
abbrev pub plain_byte : ℕ → Bool
plain_byte c = is_letter c && not (eqb c 13)

abbrev pub plain : List ℕ → Bool
plain w = ltb 0 (length w) && each plain_byte w

letters : (w rest : List ℕ) → each plain_byte w ≡ true → lead is_letter rest ≡ 0 → lead is_letter (w ++ rest) ≡ length w
letters [] rest ok none = none
letters (c ∷ cs) rest ok none =
    ap (λ t. cond t (suc (lead is_letter (cs ++ rest))) 0) (both_left (is_letter c) (not (eqb c 13)) (both_left (plain_byte c) (each plain_byte cs) ok))
    ∙ ap suc (letters cs rest (both_right (plain_byte c) (each plain_byte cs) ok) none)

no_letter_is_blank : (c : ℕ) → is_letter c ≡ true → is_blank c ≡ false
no_letter_is_blank c is = neither (is_blank c) (eqb c 35) is
  where
    neither : (a b : Bool) → not (a || b) ≡ true → a ≡ false
    neither true b h = absurd (false≢true h)
    neither false b h = refl

starts_there : (w rest : List ℕ) → plain w ≡ true → word_start (32 ∷ (w ++ rest)) ≡ 1
unfolding word_start
starts_there [] rest ok = absurd (false≢true ok)
starts_there (c ∷ cs) rest ok =
    ap (λ t. suc (cond t (suc (lead is_blank (cs ++ rest))) 0))
    (no_letter_is_blank c (both_left (is_letter c) (not (eqb c 13)) (both_left (plain_byte c) (each plain_byte cs) (both_right (ltb 0 (length (c ∷ cs))) (each plain_byte (c ∷ cs)) ok))))

ends_there : (w rest : List ℕ) → plain w ≡ true → lead is_letter rest ≡ 0 → word_end (32 ∷ (w ++ rest)) ≡ suc (length w)
unfolding word_end
ends_there w rest ok none =
    let more : 1 + length w ≡ suc (length w) = omega arith in
    ap (λ (n : ℕ). n + lead is_letter (drop n (32 ∷ (w ++ rest)))) (starts_there w rest ok)
    ∙ ap (λ (n : ℕ). 1 + n) (letters w rest (both_right (ltb 0 (length w)) (each plain_byte w) ok) none)
    ∙ more

-- a word behind a blank, and what is behind it
word_back : (w rest : List ℕ) → plain w ≡ true → lead is_letter rest ≡ 0 → word (32 ∷ (w ++ rest)) ≡ w
unfolding word
word_back w rest ok none =
    let long : word_end (32 ∷ (w ++ rest)) - 1 ≡ length w = omega (arith, ends_there w rest ok none) in
    ap (λ (n : ℕ). take (word_end (32 ∷ (w ++ rest)) - n) (drop n (32 ∷ (w ++ rest)))) (starts_there w rest ok)
    ∙ ap (λ (n : ℕ). take n (w ++ rest)) long
    ∙ take_at w rest (length w) refl

rest_back : (w rest : List ℕ) → plain w ≡ true → lead is_letter rest ≡ 0 → drop (word_end (32 ∷ (w ++ rest))) (32 ∷ (w ++ rest)) ≡ rest
rest_back w rest ok none = ap (λ (n : ℕ). drop n (32 ∷ (w ++ rest))) (ends_there w rest ok none) ∙ drop_at w rest (length w) refl

-- a number that is written is a plain word that says it; computed for each of the 256
abbrev gives : Option ℕ → ℕ → Bool
gives (Some value) n = eqb value n
gives None n = false

gives_it : (x : Option ℕ) (n : ℕ) → gives x n ≡ true → x ≡ Some n
gives_it (Some value) n is = ap Some (eqb-true value n is)
gives_it None n is = absurd (false≢true is)

abbrev reads : (ℕ → List ℕ) → (List ℕ → Option ℕ) → ℕ → Bool
reads write read n = plain (write n) && gives (read (write n)) n

-- so a number that is written is a plain word, and is read
abbrev pub Back : (ℕ → List ℕ) → (List ℕ → Option ℕ) → ℕ → Type 0
Back write read n = (plain (write n) ≡ true) × (read (write n) ≡ Some n)

back : (write : ℕ → List ℕ) (read : List ℕ → Option ℕ) → every 256 (reads write read) ≡ true → (n : ℕ) → n ≤ 255 → Back write read n
back write read each-is n h =
    let ok = every_each 256 (reads write read) each-is n (omega (arith, h)) in
    (both_left (plain (write n)) (gives (read (write n)) n) ok, gives_it (read (write n)) n (both_right (plain (write n)) (gives (read (write n)) n) ok))

pub decimal_back : (n : ℕ) → n ≤ 255 → Back decimal decimal_in n
unfolding decimal decimal_in
decimal_back n h = back decimal decimal_in refl n h

pub hex_back : (n : ℕ) → n ≤ 255 → Back hex_byte hex_in n
unfolding hex_byte hex_in
hex_back n h = back hex_byte hex_in refl n h

-- behind a blank, with a rest behind it: the number, and the rest
pub number_back :
    (write : ℕ → List ℕ) (read : List ℕ → Option ℕ) (n : ℕ) (rest : List ℕ)
    → Back write read n
    → lead is_letter rest ≡ 0
    → (read (word (32 ∷ (write n ++ rest))) ≡ Some n) × (drop (word_end (32 ∷ (write n ++ rest))) (32 ∷ (write n ++ rest)) ≡ rest)
number_back write read n rest is none =
    (ap read (word_back (write n) rest is.0 none) ∙ is.1, rest_back (write n) rest is.0 none)
