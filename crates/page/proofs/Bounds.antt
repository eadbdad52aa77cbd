-- How long a page may be.
-- Assumes nothing.
use Rattle.std.specs.Prelude.{Some, None, Ok, Err}
use mathlib.Core.Bool.{Bool, true, false, cond}
use mathlib.Core.List.{List, []}
use mathlib.Core.Path.{◌≡◌, refl, ◌∙◌}
use Prim.Native.Nat.{ℕ, zero, suc, ◌+◌, ◌*◌, ◌≤◌}
use native.Mathlib.Omega.{arith}
use lib.Dec.{eqb}
use lib.ListN.{length, length-append}
use Rattle.chain.proofs.Soundness.{count_le}
use Rattle.chain.specs.Sound.{sound}
use Rattle.refusal.specs.Numbers.{Answer, is_accepted}
use Rattle.chain.specs.declared.Chain.{Chain}
use Rattle.page.specs.Page.{gint_field, heading, chip_pins, chain_pins, pins_parts, request_bytes, state_fields, registers_parts, pins_line, registers_line, chip_lines, chips_from, byte_text, event_parts, page_of}
use Rattle.event.specs.declared.Numbered.{Numbered}
use Rattle.steps.proofs.Bounds.{spelled_le}
use Rattle.text.proofs.Fits.{joined_le, numbered_le, field_le, byte_le}
use Rattle.text.specs.Written.{text, joined, field}
use Rattle.views.specs.Views.{register_view, pin_view}
use Rattle.views.specs.declared.PinView.{PinView}
use Rattle.views.specs.declared.Pins.{Pins}
use Rattle.views.specs.declared.RegisterView.{RegisterView}
use Rattle.views.specs.declared.Registers.{Registers}

gint_le : (g : ℕ) → length (gint_field g) ≤ 32
gint_le g = either (eqb g 2)
  where
    either : (t : Bool) → length (cond t (text " GINT z") (field " GINT " g)) ≤ 32
    either true = omega arith
    either false = field_le " GINT " g (omega arith)

heading_le : (name : List ℕ) (event i : ℕ) → length name ≤ 12 → length (joined (heading name event i)) ≤ 128
heading_le name event i h = omega (arith, joined_le 32 (heading name event i) (numbered_le name event h, (field_le " chip " i (omega arith), tt)))

-- a line of a chip: its parts, or nothing
or_nothing : (t : Bool) (line : List ℕ) → length line ≤ 512 → length (cond t line []) ≤ 512
or_nothing true line h = h
or_nothing false line h = omega arith

pins_le : (i : ℕ) (v : PinView) → length (pins_line i v) ≤ 512
unfolding pins_line
pins_le i v =
    let p : Pins = v.picture in
    let chip : length (joined (chip_pins p)) ≤ 128 =
    omega (arith, joined_le 32 (chip_pins p) (field_le " EI " p.ei (omega arith), (field_le " EO " p.eo (omega arith), (gint_le p.gint, tt)))) in
    let chain : length (joined (chain_pins p)) ≤ 128 =
    omega (arith, joined_le 32 (chain_pins p) (field_le " RIP " p.rip (omega arith), (field_le " PAUSE " p.pause (omega arith), (field_le " IACK " p.iack (omega arith), tt)))) in
    or_nothing (is_accepted v.verdict) (joined (pins_parts i p))
    (joined_le 128 (pins_parts i p) (heading_le (text "pins ") p.event i (omega arith), (chip, (chain, (omega arith, tt)))))

registers_le : (i : ℕ) (v : RegisterView) → length (registers_line i v) ≤ 512
unfolding registers_line
registers_le i v =
    let r : Registers = v.table in
    let requests : length (joined (request_bytes r)) ≤ 128 =
    joined_le 32 (request_bytes r)
    (byte_le " IRR " r.irr (omega arith), (byte_le " ISR " r.isr (omega arith), (byte_le " IMR " r.imr (omega arith), (byte_le " ACR " r.acr (omega arith), tt)))) in
    let state : length (joined (state_fields r)) ≤ 128 =
    omega (arith, joined_le 32 (state_fields r) (byte_le " MODE " r.mode (omega arith), (byte_le " STATUS " r.status (omega arith), (field_le " WAITING " r.waiting (omega arith), tt)))) in
    or_nothing (is_accepted v.verdict) (joined (registers_parts i r))
    (joined_le 128 (registers_parts i r) (heading_le (text "registers ") r.event i (omega arith), (requests, (state, (omega arith, tt)))))

-- the lines of some chips
chips_le : (n i : ℕ) (s : Chain) → length (chips_from n i s) ≤ n * 1024
chips_le zero i s = omega arith
chips_le (suc n) i s =
    omega (
      arith,
      length-append (chip_lines i s) (chips_from n (i + 1) s),
      length-append (pins_line i (pin_view i s)) (registers_line i (register_view i s)),
      pins_le i (pin_view i s),
      registers_le i (register_view i s),
      chips_le n (i + 1) s,
    )

-- a chain that is not sound has no view
no_line : (i : ℕ) (s : Chain) → sound s ≡ false → length (chip_lines i s) ≡ 0
unfolding pin_view register_view pins_line registers_line
no_line i s is = simp (is)

no_lines : (n i : ℕ) (s : Chain) → sound s ≡ false → length (chips_from n i s) ≡ 0
no_lines zero i s is = refl
no_lines (suc n) i s is =
    length-append (chip_lines i s) (chips_from n (i + 1) s)
    ∙ omega (arith, no_line i s is, no_lines n (i + 1) s is)

chips_all : (s : Chain) → length (chips_from s.count 0 s) ≤ 8192
chips_all s = either (sound s) refl
  where
    either : (t : Bool) → sound s ≡ t → length (chips_from s.count 0 s) ≤ 8192
    either true is = omega (arith, chips_le s.count 0 s, count_le s is)
    either false is = omega (arith, no_lines s.count 0 s is)

answer_le : (answer : Answer) → length (byte_text answer) ≤ 32
answer_le (Ok None) = omega arith
answer_le (Ok (Some b)) = byte_le " byte " b (omega arith)
answer_le (Err why) = omega arith

-- a page
pub page_le : (line : ℕ) (step : Numbered) (answer : Answer) (s : Chain) → length (page_of line step answer s) ≤ 10000
unfolding page_of
page_le line step answer s =
    let number : length (field "event " s.event) ≤ 256 = omega (arith, field_le "event " s.event (omega arith)) in
    let place : length (field " at " line) ≤ 256 = omega (arith, field_le " at " line (omega arith)) in
    let byte : length (byte_text answer) ≤ 256 = omega (arith, answer_le answer) in
    omega (
      arith,
      length-append (joined (event_parts line step answer s.event)) (chips_from s.count 0 s),
      chips_all s,
      joined_le 256 (event_parts line step answer s.event) (number, (place, (omega arith, (spelled_le step, (omega arith, (byte, (omega arith, tt))))))),
    )
