-- A page tried, by computation.
-- Assumes nothing.
use Rattle.std.specs.Prelude.{Some, Ok}
use mathlib.Core.List.{◌++◌}
use mathlib.Core.Path.{◌≡◌, refl}
use Rattle.chain.proofs.Rules.{rules}
use Rattle.chain.specs.Start.{started}
use Rattle.page.specs.Page.{pins_line, registers_line, page_of}
use Rattle.event.specs.Numbers.{in_numbers}
use Rattle.event.specs.declared.Event.TheVariants.{Status}
use Rattle.steps.specs.Kinds.{name_of}
use Rattle.steps.specs.Spelled.{spelled}
use Rattle.text.specs.Words.{line_end}
use Rattle.text.specs.Written.{text, decimal, hex_byte}
use Rattle.views.specs.Views.{register_view, pin_view}

page_of_a_start :
    page_of 12 (in_numbers (Status 0)) (Ok (Some 0x40)) (started 1 0)
    ≡ text "event 0 at 12 status 0 accepted byte 40\n"
    ++ text "pins 0 chip 0 EI 1 EO 0 GINT z RIP 1 PAUSE 1 IACK 1\n"
    ++ text "registers 0 chip 0 IRR 00 ISR 00 IMR FF ACR 00 MODE 00 STATUS 40 WAITING 0\n"
unfolding rules register_view pin_view page_of pins_line registers_line name_of spelled line_end decimal hex_byte
page_of_a_start = refl
