-- A text for which there is room is written whole, and can be taken out again; and how long a number's text may be.
-- Assumes nothing.
use mathlib.Core.Bool.{Bool, true, false, cond}
use mathlib.Core.List.{List, [], ◌∷◌, ◌++◌}
use mathlib.Core.Path.{◌≡◌, refl, ap, ap₂, ◌∙◌}
use Prim.Native.Nat.{ℕ, zero, suc, ◌+◌, ◌*◌, ◌/◌, ◌%◌, ◌≤◌}
use Prim.Native.String.{String}
use native.Mathlib.Nat.{zero-add, le_refl}
use native.Mathlib.Omega.{arith}
use lib.Dec.{eqb}
use lib.ListN.{length, take, drop, length-append}
use lib.Seq.{take_at, take_all}
use Rattle.text.specs.Fits.{Fits}
use Rattle.text.proofs.Written.{put_there}
use Rattle.text.specs.Written.{text, written, digits, decimal, hex_byte, joined, field, byte_field}

pub fits : Fits
fits =
    record {
      whole = λ old new h. put_there [] old new (length new) (omega (arith, h)) ∙ ap₂ (λ l (n : ℕ). (l ++ drop (length new) old, n)) (take_all (length new) new (le_refl (length new))) (zero-add (length new));
    }

-- so what was written can be taken out again
pub written_out : (old new after : List ℕ) (n : ℕ) → length new ≤ length old → ◌≡◌ {A = List ℕ × ℕ} (after, n) (written (old, 0) new) → (n ≡ length new) × (take n after ≡ new)
written_out old new after n h is =
    let all = is ∙ fits.whole old new h in
    (ap (λ to. to.1) all, ap (λ to. take to.1 to.0) all ∙ take_at new (drop (length new) old) (length new) refl)

-- a number has at most twenty digits
digits_le : (k n : ℕ) → length (digits k n) ≤ k
digits_le zero n = le_refl 0
digits_le (suc k) n = some (digits_le k (n / 10)) (eqb n 0)
  where
    some : length (digits k (n / 10)) ≤ k → (t : Bool) → length (cond t [] (digits k (n / 10) ++ ((48 + n % 10) ∷ []))) ≤ suc k
    some before true = omega arith
    some before false = omega (arith, before, length-append (digits k (n / 10)) ((48 + n % 10) ∷ []))

pub decimal_le : (n : ℕ) → length (decimal n) ≤ 20
unfolding decimal
decimal_le n = omega (arith, digits_le 19 (n / 10), length-append (digits 19 (n / 10)) ((48 + n % 10) ∷ []))

-- parts none of which is longer than some length
abbrev pub Each : ℕ → List (List ℕ) → Type 0
Each most [] = Unit {0}
Each most (part ∷ parts) = (length part ≤ most) × Each most parts

pub joined_le : (most : ℕ) (parts : List (List ℕ)) → Each most parts → length (joined parts) ≤ length parts * most
joined_le most [] each = omega arith
joined_le most (part ∷ parts) each =
    omega (arith, length-append part (joined parts), joined_le most parts each.1, each.0)

-- and how long they are together
abbrev pub total : List (List ℕ) → ℕ
total [] = 0
total (part ∷ parts) = length part + total parts

pub joined_total : (parts : List (List ℕ)) → length (joined parts) ≡ total parts
joined_total [] = refl
joined_total (part ∷ parts) = length-append part (joined parts) ∙ ap (λ (n : ℕ). length part + n) (joined_total parts)

-- a name of at most twelve letters, and a number or a byte
pub numbered_le : (name : List ℕ) (n : ℕ) → length name ≤ 12 → length (name ++ decimal n) ≤ 32
numbered_le name n h = omega (arith, length-append name (decimal n), decimal_le n, h)

pub field_le : (name : String) (n : ℕ) → length (text name) ≤ 12 → length (field name n) ≤ 32
field_le name n h = numbered_le (text name) n h

pub byte_le : (name : String) (byte : ℕ) → length (text name) ≤ 12 → length (byte_field name byte) ≤ 32
unfolding hex_byte
byte_le name byte h = omega (arith, length-append (text name) (hex_byte byte), h)
