-- Whatever a chip does, its record stays sound.
-- Assumes nothing.
use Rattle.std.specs.Prelude.{Ok}
use mathlib.Core.Bool.{Bool, true, false, cond, ◌&&◌}
use mathlib.Core.List.{List}
use mathlib.Core.Logic.{⊎_elim}
use mathlib.Core.Path.{◌≡◌, refl, ap, ◌∙◌}
use Prim.Native.Nat.{ℕ, ◌+◌, ◌%◌, ◌≤◌, ◌<◌}
use native.Mathlib.Nat.{le_of_suc-le-suc, mod-lt}
use native.Mathlib.Omega.{arith}
use lib.Dec.{leb, ltb, lit<}
use lib.ListN.{get_or, set, replicate}
use borrow.Author.Tests.{ltb-true, le-leb}
use Rattle.bits.specs.Byte.{bit, without_bit}
use Rattle.bits.proofs.Below.{both_left, both_right, every_each, every-all}
use Rattle.bits.proofs.Stored.{stored}
use Rattle.chip.specs.Acknowledge.{answered, finished}
use Rattle.chip.specs.Command.{obey, commanded}
use Rattle.chip.specs.Data.{is_past_its_count, data_written}
use Rattle.chip.specs.Fields.{with_isr}
use Rattle.chip.specs.Line.{line_set}
use Rattle.chip.specs.Reset.{reset, power_up}
use Rattle.chip.specs.Sound.{codes_sound, destination_sound, chip_sound}
use Rattle.chip.specs.declared.Chip.{Chip}
use Rattle.figure4.specs.declared.Command.{Command}
use Rattle.figure4.specs.declared.Command.TheVariants.{Reset, ClearIrrAndImr, ClearIrrAndImrBit, ClearImr, ClearImrBit, SetImr, SetImrBit, ClearIrr, ClearIrrBit, SetIrr, SetIrrBit, ClearHighestIsr, ClearIsr, ClearIsrBit, LoadMode, LoadRead, LoadReadAndArm, LoadReadAndDisarm, PreselectImr, PreselectAcr, PreselectLevel}
use Rattle.chip.specs.declared.Destination.{Destination}
use Rattle.chip.specs.declared.Destination.TheVariants.{Nowhere, Imr, Acr, Level}
use Rattle.figure4.proofs.Figure4.{row_fits}
use Rattle.chip.proofs.Rules.{chip_fields}
use Rattle.chip.proofs.Soundness.{codes_sound_lem, pointer_sound, destination_sound_lem, level_le, place_lt}

-- a code of at most 3 stored among sound codes
codes_stored : (counts : List ℕ) (level code : ℕ) → code ≤ 3 → codes_sound counts ≡ true → codes_sound (set counts level code) ≡ true
unfolding codes_sound
codes_stored counts level code h e =
    every-all 8 (λ k. leb (get_or (set counts level code) k 0) 3)
    (λ k l. ⊎_elim (λ is. ap (λ (n : ℕ). leb n 3) is ∙ le-leb code 3 h)
    (λ is. ap (λ (n : ℕ). leb n 3) is ∙ every_each 8 (λ k. leb (get_or counts k 0) 3) e k l)
    (stored counts level k code 0))

-- what is left to show of a chip whose codes and pointer were not touched
elsewhere : (c : Chip) (destination : Destination) → destination_sound destination ≡ true → chip_sound c ≡ true
    → codes_sound c.counts && leb c.pointer 7 && destination_sound destination ≡ true
elsewhere c destination d e = simp (codes_sound_lem c e, pointer_sound c e, d)

-- a command
pub commanded_kept : (row : Command) (code : ℕ) (c : Chip) → row_fits row ≡ true → chip_sound c ≡ true → chip_sound (commanded (Ok row) code c) ≡ true
unfolding chip_sound chip_fields commanded obey reset
commanded_kept Reset code c f e = simp (codes_sound_lem c e)
commanded_kept ClearIrrAndImr code c f e = elsewhere c Nowhere refl e
commanded_kept (ClearIrrAndImrBit k) code c f e = elsewhere c Nowhere refl e
commanded_kept ClearImr code c f e = elsewhere c Nowhere refl e
commanded_kept (ClearImrBit k) code c f e = elsewhere c Nowhere refl e
commanded_kept SetImr code c f e = elsewhere c Nowhere refl e
commanded_kept (SetImrBit k) code c f e = elsewhere c Nowhere refl e
commanded_kept ClearIrr code c f e = elsewhere c Nowhere refl e
commanded_kept (ClearIrrBit k) code c f e = elsewhere c Nowhere refl e
commanded_kept SetIrr code c f e = elsewhere c Nowhere refl e
commanded_kept (SetIrrBit k) code c f e = elsewhere c Nowhere refl e
commanded_kept ClearHighestIsr code c f e = elsewhere c Nowhere refl e
commanded_kept ClearIsr code c f e = elsewhere c Nowhere refl e
commanded_kept (ClearIsrBit k) code c f e = elsewhere c Nowhere refl e
commanded_kept (LoadMode m) code c f e = elsewhere c Nowhere refl e
commanded_kept (LoadRead m) code c f e = elsewhere c Nowhere refl e
commanded_kept (LoadReadAndArm m) code c f e = elsewhere c Nowhere refl e
commanded_kept (LoadReadAndDisarm m) code c f e = elsewhere c Nowhere refl e
commanded_kept PreselectImr code c f e = elsewhere c Imr refl e
commanded_kept PreselectAcr code c f e = elsewhere c Acr refl e
commanded_kept (PreselectLevel count level) code c f e =
    simp (
      codes_stored c.counts level count (le_of_suc-le-suc (ltb-true count 4 (both_left (ltb count 4) (ltb level 8) f))) (codes_sound_lem c e),
      pointer_sound c e,
      le-leb level 7 (le_of_suc-le-suc (ltb-true level 8 (both_right (ltb count 4) (ltb level 8) f))),
    )

-- a data write
next_le : (c : Chip) (level place : ℕ) → c.destination ≡ Level level place → is_past_its_count c.counts (Level level place) ≡ false → chip_sound c ≡ true → place + 1 ≤ 4
next_le c level place is left e =
    let below : place < 4 = place_lt c level place e is (ap (is_past_its_count c.counts) is ∙ left) in
    omega arith

written_to : (d : Destination) (byte : ℕ) (c : Chip) → c.destination ≡ d → is_past_its_count c.counts d ≡ false → chip_sound c ≡ true → chip_sound (data_written d byte c) ≡ true
unfolding chip_sound chip_fields data_written
written_to Nowhere byte c is left e = e
written_to Imr byte c is left e = e
written_to Acr byte c is left e = e
written_to (Level level place) byte c is left e =
    elsewhere c (Level level (place + 1)) (simp (le-leb level 7 (level_le c level place e is), le-leb (place + 1) 4 (next_le c level place is left e))) e

pub written_kept : (byte : ℕ) (c : Chip) → is_past_its_count c.counts c.destination ≡ false → chip_sound c ≡ true → chip_sound (data_written c.destination byte c) ≡ true
written_kept byte c left e = written_to c.destination byte c refl left e

-- a line level
pub line_kept : (channel : ℕ) (high : Bool) (c : Chip) → chip_sound c ≡ true → chip_sound (line_set channel high c) ≡ true
unfolding chip_sound chip_fields line_set
line_kept channel high c e = e

-- an answer: the pointer becomes the channel
pub answered_kept : (channel : ℕ) (c : Chip) → channel ≤ 7 → chip_sound c ≡ true → chip_sound (answered channel c) ≡ true
unfolding chip_sound chip_fields answered
answered_kept channel c h e = simp (codes_sound_lem c e, le-leb channel 7 h, destination_sound_lem c e)

-- the end of a response
finished_by : (auto : Bool) (channel : ℕ) (c : Chip) → chip_sound c ≡ true → chip_sound (cond auto (with_isr (without_bit c.isr channel) c) c) ≡ true
unfolding chip_sound chip_fields
finished_by true channel c e = e
finished_by false channel c e = e

pub finished_kept : (channel : ℕ) (c : Chip) → chip_sound c ≡ true → chip_sound (finished channel c) ≡ true
unfolding finished
finished_kept channel c e = finished_by (bit c.acr channel) channel c e

-- the power-up chip
remainder_sound : (code : ℕ) → code ≤ 3 → codes_sound (replicate 8 code) ≡ true
unfolding codes_sound
remainder_sound code h = simp (le-leb code 3 h)

pub power_up-sound : (fill : ℕ) → chip_sound (power_up fill) ≡ true
unfolding chip_sound chip_fields power_up reset
power_up-sound fill = simp (remainder_sound (fill % 4) (le_of_suc-le-suc (mod-lt fill (lit< tt))))
