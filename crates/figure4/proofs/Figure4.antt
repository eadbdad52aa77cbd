-- The codes in no row of Figure 4 are those that the paper lists, computed over all 256; how wide the numbers of a row are, and that one code alone gives the reset's row.
-- Assumes nothing.
use Rattle.std.specs.Prelude.{Ok, Err}
use mathlib.Core.Bool.{Bool, true, false, not, cond, ◌&&◌, ◌||◌, false≢true}
use mathlib.Core.Path.{◌≡◌, refl, ap, sym, ◌∙◌}
use Prim.Native.Nat.{ℕ, ◌/◌, ◌%◌, ◌≤◌, ◌<◌}
use native.Mathlib.Nat.{mod-lt, mod-eq_of_lt}
use native.Mathlib.Omega.{arith}
use lib.Dec.{eqb, ltb, lit<}
use borrow.Author.Tests.{le-leb, lt-leb, lt-ltb, ltb-true, ltb-false, ne_eqb, not-true}
use Rattle.bits.proofs.Below.{either, both_left, both_right, tested}
use Rattle.bits.specs.Byte.{bit}
use Rattle.figure4.specs.Figure4.{is_reset, load_read, all_or_one, row_in, figure4, undefined, Meaning}
use Rattle.figure4.specs.Undefined.{is_of_kind, is_undefined}
use Rattle.figure4.specs.declared.Command.{Command}
use Rattle.figure4.specs.declared.Command.TheVariants.{Reset, ClearIrrAndImr, ClearIrrAndImrBit, ClearImr, ClearImrBit, SetImr, SetImrBit, ClearIrr, ClearIrrBit, SetIrr, SetIrrBit, ClearHighestIsr, ClearIsr, ClearIsrBit, LoadMode, LoadRead, LoadReadAndArm, LoadReadAndDisarm, PreselectImr, PreselectAcr, PreselectLevel}
use Rattle.figure4.specs.declared.Undefined as kinds
use Rattle.figure4.specs.declared.Undefined.TheVariants.{Codes01To0F, Codes1010xx11, CodesD0ToDF}

-- a number that is no code is in the last row, and in no kind
past_the_codes : (code : ℕ) → 256 ≤ code → undefined (row_in (code / 16) code) ≡ is_undefined code
past_the_codes code h =
    simp (
      other code 0x0 h (lit< tt),
      other code 0x1 h (lit< tt),
      other code 0x2 h (lit< tt),
      other code 0x3 h (lit< tt),
      other code 0x4 h (lit< tt),
      other code 0x5 h (lit< tt),
      other code 0x6 h (lit< tt),
      other code 0x7 h (lit< tt),
      other code 0x8 h (lit< tt),
      other code 0x9 h (lit< tt),
      other code 0xA h (lit< tt),
      other code 0xB h (lit< tt),
      other code 0xC h (lit< tt),
      other code 0xD h (lit< tt),
      le-leb 0x01 code (omega arith),
      lt-leb code 0x0F (omega arith),
      le-leb 0xD0 code (omega arith),
      lt-leb code 0xDF (omega arith),
    )
  where
    other : (code high : ℕ) → 256 ≤ code → high < 16 → eqb (code / 16) high ≡ false
    other code high h low = ne_eqb (code / 16) high (λ is. absurd (omega (arith, is)))

pub undefined_codes : (code : ℕ) → undefined (figure4 code) ≡ is_undefined code
unfolding figure4
undefined_codes code = by (ltb code 256) refl
  where
    by : (is_code : Bool) → ltb code 256 ≡ is_code → undefined (row_in (code / 16) code) ≡ is_undefined code
    by true h = tested 256 (λ code. undefined (row_in (code / 16) code)) is_undefined tt code (ltb-true code 256 h)
    by false h = past_the_codes code (ltb-false code 256 h)

-- each is told as what it is
abbrev rightly : Meaning → ℕ → Bool
rightly (Ok row) code = true
rightly (Err kind) code = is_of_kind kind code

pub undefined_kind : (code : ℕ) (kind : kinds.Undefined) → code < 256 → figure4 code ≡ Err kind → is_of_kind kind code ≡ true
unfolding figure4
undefined_kind code kind h e =
    ap (λ (m : Meaning). rightly m code) (sym e) ∙ tested 256 (λ code. rightly (figure4 code) code) (λ code. true) tt code h

-- the numbers of a row have the widths of its bits in the figure: B2 B1 B0, M4 to M0, M6 M5, BY1 BY0 and L2 L1 L0
abbrev pub row_fits : Command → Bool
row_fits Reset = true
row_fits ClearIrrAndImr = true
row_fits (ClearIrrAndImrBit k) = ltb k 8
row_fits ClearImr = true
row_fits (ClearImrBit k) = ltb k 8
row_fits SetImr = true
row_fits (SetImrBit k) = ltb k 8
row_fits ClearIrr = true
row_fits (ClearIrrBit k) = ltb k 8
row_fits SetIrr = true
row_fits (SetIrrBit k) = ltb k 8
row_fits ClearHighestIsr = true
row_fits ClearIsr = true
row_fits (ClearIsrBit k) = ltb k 8
row_fits (LoadMode m) = ltb m 32
row_fits (LoadRead m) = ltb m 4
row_fits (LoadReadAndArm m) = ltb m 4
row_fits (LoadReadAndDisarm m) = ltb m 4
row_fits PreselectImr = true
row_fits PreselectAcr = true
row_fits (PreselectLevel count level) = ltb count 4 && ltb level 8

-- the row is the reset's
abbrev pub is_reset_row : Command → Bool
is_reset_row Reset = true
is_reset_row ClearIrrAndImr = false
is_reset_row (ClearIrrAndImrBit k) = false
is_reset_row ClearImr = false
is_reset_row (ClearImrBit k) = false
is_reset_row SetImr = false
is_reset_row (SetImrBit k) = false
is_reset_row ClearIrr = false
is_reset_row (ClearIrrBit k) = false
is_reset_row SetIrr = false
is_reset_row (SetIrrBit k) = false
is_reset_row ClearHighestIsr = false
is_reset_row ClearIsr = false
is_reset_row (ClearIsrBit k) = false
is_reset_row (LoadMode m) = false
is_reset_row (LoadRead m) = false
is_reset_row (LoadReadAndArm m) = false
is_reset_row (LoadReadAndDisarm m) = false
is_reset_row PreselectImr = false
is_reset_row PreselectAcr = false
is_reset_row (PreselectLevel count level) = false

below : (n width : ℕ) → 0 < width → ltb (n % width) width ≡ true
below n width h = lt-ltb (n % width) width (mod-lt n h)

-- one channel of eight
one : (code : ℕ) → ltb (code % 8) 8 ≡ true
one code = below code 8 (lit< tt)

level_row : (code : ℕ) → row_fits (PreselectLevel (code / 8 % 4) (code % 8)) ≡ true
level_row code = simp (below (code / 8) 4 (lit< tt), one code)

-- What holds of every row with numbers of these widths, and of the reset's for a code that is the reset's, holds of what the figure gives for any code.
module _ (Q : Meaning → Bool) (none : (kind : kinds.Undefined) → Q (Err kind) ≡ true)
    (each_row : (row : Command) → row_fits row ≡ true → is_reset_row row ≡ false → Q (Ok row) ≡ true)
  where
    or_else : (b : Bool) (x y : Meaning) → (b ≡ true → Q x ≡ true) → Q y ≡ true → Q (cond b x y) ≡ true
    or_else b x y ex ey = either (λ (m : Meaning). Q m ≡ true) b x y ex (λ _. ey)

    all_or_one_lem : (code : ℕ) (all one : Command) → Q (Ok all) ≡ true → Q (Ok one) ≡ true → Q (all_or_one code all one) ≡ true
    all_or_one_lem code all one ea eo = or_else (bit code 3) (Ok one) (Ok all) (λ _. eo) ea

    load_read_lem : (m low : ℕ) → ltb m 4 ≡ true → Q (load_read m low) ≡ true
    load_read_lem m low e =
        or_else (eqb low 0b00) _ _ (λ _. each_row (LoadRead m) e refl)
        (or_else (eqb low 0b01) _ _ (λ _. each_row (LoadReadAndArm m) e refl)
        (or_else (eqb low 0b10) _ _ (λ _. each_row (LoadReadAndDisarm m) e refl)
        (none Codes1010xx11)))

    in_figure : (high code : ℕ) → (is_reset code ≡ true → Q (Ok Reset) ≡ true) → Q (row_in high code) ≡ true
    in_figure high code reset =
        let single : ltb (code % 8) 8 ≡ true = one code in
        or_else (eqb high 0x0) _ _ (λ _. or_else (is_reset code) _ _ reset (none Codes01To0F))
        (or_else (eqb high 0x1) _ _ (λ _. all_or_one_lem code _ _ (each_row ClearIrrAndImr refl refl) (each_row (ClearIrrAndImrBit (code % 8)) single refl))
        (or_else (eqb high 0x2) _ _ (λ _. all_or_one_lem code _ _ (each_row ClearImr refl refl) (each_row (ClearImrBit (code % 8)) single refl))
        (or_else (eqb high 0x3) _ _ (λ _. all_or_one_lem code _ _ (each_row SetImr refl refl) (each_row (SetImrBit (code % 8)) single refl))
        (or_else (eqb high 0x4) _ _ (λ _. all_or_one_lem code _ _ (each_row ClearIrr refl refl) (each_row (ClearIrrBit (code % 8)) single refl))
        (or_else (eqb high 0x5) _ _ (λ _. all_or_one_lem code _ _ (each_row SetIrr refl refl) (each_row (SetIrrBit (code % 8)) single refl))
        (or_else (eqb high 0x6) _ _ (λ _. each_row ClearHighestIsr refl refl)
        (or_else (eqb high 0x7) _ _ (λ _. all_or_one_lem code _ _ (each_row ClearIsr refl refl) (each_row (ClearIsrBit (code % 8)) single refl))
        (or_else (eqb high 0x8 || eqb high 0x9) _ _ (λ _. each_row (LoadMode (code % 32)) (below code 32 (lit< tt)) refl)
        (or_else (eqb high 0xA) _ _ (λ _. load_read_lem (code / 4 % 4) (code % 4) (below (code / 4) 4 (lit< tt)))
        (or_else (eqb high 0xB) _ _ (λ _. each_row PreselectImr refl refl)
        (or_else (eqb high 0xC) _ _ (λ _. each_row PreselectAcr refl refl)
        (or_else (eqb high 0xD) _ _ (λ _. none CodesD0ToDF)
        (each_row (PreselectLevel (code / 8 % 4) (code % 8)) (level_row code) refl)))))))))))))

abbrev fits : Meaning → Bool
fits (Ok row) = row_fits row
fits (Err kind) = true

pub row_fits_lem : (code : ℕ) (row : Command) → figure4 code ≡ Ok row → row_fits row ≡ true
unfolding figure4
row_fits_lem code row e = ap fits (sym e) ∙ in_figure fits (λ kind. refl) (λ row fit other. fit) (code / 16) code (λ _. refl)

-- so a row's one number is below its width
row_lt : (kind : ℕ → Command) (width : ℕ) → ((m : ℕ) → row_fits (kind m) ≡ ltb m width)
    → (code m : ℕ) (row : Command) → figure4 code ≡ Ok row → row ≡ kind m → m < width
row_lt kind width wide code m row e is = ltb-true m width (sym (wide m) ∙ ap row_fits (sym is) ∙ row_fits_lem code row e)

-- M4 to M0, and M6 M5 in each of the three rows that load them
pub mode_lt : (code m : ℕ) (row : Command) → figure4 code ≡ Ok row → row ≡ LoadMode m → m < 32
mode_lt = row_lt LoadMode 32 (λ m. refl)

pub read_lt : (code m : ℕ) (row : Command) → figure4 code ≡ Ok row → row ≡ LoadRead m → m < 4
read_lt = row_lt LoadRead 4 (λ m. refl)

pub read_and_arm_lt : (code m : ℕ) (row : Command) → figure4 code ≡ Ok row → row ≡ LoadReadAndArm m → m < 4
read_and_arm_lt = row_lt LoadReadAndArm 4 (λ m. refl)

pub read_and_disarm_lt : (code m : ℕ) (row : Command) → figure4 code ≡ Ok row → row ≡ LoadReadAndDisarm m → m < 4
read_and_disarm_lt = row_lt LoadReadAndDisarm 4 (λ m. refl)

-- so a remainder by that width leaves it as it is
pub row_narrow : (kind : ℕ → Command) (width : ℕ) → ((m : ℕ) → row_fits (kind m) ≡ ltb m width)
    → (code m : ℕ) (row : Command) → figure4 code ≡ Ok row → row ≡ kind m → m % width ≡ m
row_narrow kind width wide code m row e is = mod-eq_of_lt (row_lt kind width wide code m row e is)

-- a preselected level is below 8, its count code below 4
pub preselected : (code count level : ℕ) (row : Command) → figure4 code ≡ Ok row → row ≡ PreselectLevel count level
    → (count < 4) × (level < 8)
preselected code count level row e is =
    let fit : ltb count 4 && ltb level 8 ≡ true = ap row_fits (sym is) ∙ row_fits_lem code row e in
    (ltb-true count 4 (both_left _ (ltb level 8) fit), ltb-true level 8 (both_right (ltb count 4) _ fit))

-- each of them, for what carries a row out
pub ruleset widths = (mode_lt, read_lt, read_and_arm_lt, read_and_disarm_lt, preselected)

abbrev is_no_reset : Meaning → Bool
is_no_reset (Ok row) = not (is_reset_row row)
is_no_reset (Err kind) = true

-- no code but its own gives the reset's row
pub no_reset : (code : ℕ) (row : Command) → figure4 code ≡ Ok row → is_reset code ≡ false → is_reset_row row ≡ false
unfolding figure4
no_reset code row e other =
    not-true (is_reset_row row)
    (ap is_no_reset (sym e) ∙ in_figure is_no_reset (λ kind. refl) (λ row fit is. ap not is) (code / 16) code (λ is. absurd (false≢true (sym other ∙ is))))
