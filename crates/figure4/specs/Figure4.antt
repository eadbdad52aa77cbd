-- Figure 4 of the data sheet: the one table from a command's code to its row. A code is read by its high hexadecimal digit; where a group has a
-- row for all channels and one for a single channel, bit 3 tells them apart, and B2 B1 B0 is code % 8. The other fields are M4 to M0
-- (code % 32), M6 M5 (code / 4 % 4), and BY1 BY0 with L2 L1 L0 (code / 8 % 4 and code % 8).
use Rattle.std.specs.Prelude.{Bool, true, false, cond, ◌||◌, Result, Ok, Err, ℕ, ◌/◌, ◌%◌, eqb}
use Rattle.bits.specs.Byte.{bit}
use Rattle.figure4.specs.declared.Command.{Command}
use Rattle.figure4.specs.declared.Command.TheVariants.{Reset, ClearIrrAndImr, ClearIrrAndImrBit, ClearImr, ClearImrBit, SetImr, SetImrBit, ClearIrr, ClearIrrBit, SetIrr, SetIrrBit, ClearHighestIsr, ClearIsr, ClearIsrBit, LoadMode, LoadRead, LoadReadAndArm, LoadReadAndDisarm, PreselectImr, PreselectAcr, PreselectLevel}
use Rattle.figure4.specs.declared.Undefined.{Undefined}
use Rattle.figure4.specs.declared.Undefined.TheVariants.{Codes01To0F, Codes1010xx11, CodesD0ToDF}

-- what a code means: a row of the figure, or nothing
abbrev pub Meaning : Type 0
Meaning = Result Command Undefined

-- the code of the reset command
abbrev pub is_reset : ℕ → Bool
is_reset code = eqb code 0b00000000

-- 00 is the reset; 01 to 0F are undefined
abbrev pub reset_or_undefined : ℕ → Meaning
reset_or_undefined code = cond (is_reset code) (Ok Reset) (Err Codes01To0F)

-- 1010 M6 M5 and then 00, 01, 10; 11 is undefined
abbrev pub load_read : ℕ → ℕ → Meaning
load_read m low =
    cond (eqb low 0b00) (Ok (LoadRead m))
    (cond (eqb low 0b01) (Ok (LoadReadAndArm m))
    (cond (eqb low 0b10) (Ok (LoadReadAndDisarm m))
    (Err Codes1010xx11)))

-- bit 3 clear: all channels; set: the one that B2 B1 B0 names
abbrev pub all_or_one : ℕ → Command → Command → Meaning
all_or_one code all one = cond (bit code 3) (Ok one) (Ok all)

-- the row of a code whose high digit is given
abbrev pub row_in : ℕ → ℕ → Meaning
row_in high code =
    cond (eqb high 0x0) (reset_or_undefined code)
    (cond (eqb high 0x1) (all_or_one code ClearIrrAndImr (ClearIrrAndImrBit (code % 8)))
    (cond (eqb high 0x2) (all_or_one code ClearImr (ClearImrBit (code % 8)))
    (cond (eqb high 0x3) (all_or_one code SetImr (SetImrBit (code % 8)))
    (cond (eqb high 0x4) (all_or_one code ClearIrr (ClearIrrBit (code % 8)))
    (cond (eqb high 0x5) (all_or_one code SetIrr (SetIrrBit (code % 8)))
    (cond (eqb high 0x6) (Ok ClearHighestIsr)
    (cond (eqb high 0x7) (all_or_one code ClearIsr (ClearIsrBit (code % 8)))
    (cond (eqb high 0x8 || eqb high 0x9) (Ok (LoadMode (code % 32)))
    (cond (eqb high 0xA) (load_read (code / 4 % 4) (code % 4))
    (cond (eqb high 0xB) (Ok PreselectImr)
    (cond (eqb high 0xC) (Ok PreselectAcr)
    (cond (eqb high 0xD) (Err CodesD0ToDF)
    (Ok (PreselectLevel (code / 8 % 4) (code % 8)))))))))))))))

unfoldable pub figure4 : ℕ → Meaning
figure4 code = row_in (code / 16) code

-- the code is in no row of the figure
abbrev pub undefined : Meaning → Bool
undefined (Ok row) = false
undefined (Err kind) = true
