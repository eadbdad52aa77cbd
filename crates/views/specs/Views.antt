-- The two views of one state (the rules paper, "Views and runs"): the table of the registers and the picture of the pins.
use Rattle.std.specs.Prelude.{cond, [], ◌∷◌, ℕ}
use Rattle.bits.specs.Below.{digit}
use Rattle.chip.specs.Status.{status_byte, waiting_number}
use Rattle.refusal.specs.Numbers.{first_of_list, is_accepted}
use Rattle.refusal.specs.Numbers.{Verdict}
use Rattle.decide.specs.Refusals.{no_such_chip}
use Rattle.chain.specs.Refusals.{not_sound}
use Rattle.chain.specs.Fields.{chip_at}
use Rattle.chain.specs.Pins.{ei, eo, gint, rip, pause}
use Rattle.chain.specs.declared.Chain.{Chain}
use Rattle.views.specs.declared.PinView.{PinView}
use Rattle.views.specs.declared.Pins.{Pins}
use Rattle.views.specs.declared.RegisterView.{RegisterView}
use Rattle.views.specs.declared.Registers.{Registers}

-- the registers of chip i
abbrev pub table_of : ℕ → Chain → Registers
table_of i s =
    record {
      event = s.event;
      irr = (chip_at s i).irr;
      isr = (chip_at s i).isr;
      imr = (chip_at s i).imr;
      acr = (chip_at s i).acr;
      mode = (chip_at s i).mode;
      status = status_byte (chip_at s i) (ei s i);
      waiting = waiting_number (chip_at s i);
    }

-- the pins of chip i, and the chain's
abbrev pub picture_of : ℕ → Chain → Pins
picture_of i s =
    record {
      event = s.event;
      ei = digit (ei s i);
      eo = digit (eo s i);
      gint = gint s i;
      rip = digit (rip s);
      pause = digit (pause s);
      iack = digit s.iack;
    }

-- a refusal returns view fields 0
abbrev pub no_table : Registers
no_table = record { event = 0; irr = 0; isr = 0; imr = 0; acr = 0; mode = 0; status = 0; waiting = 0 }

abbrev pub no_picture : Pins
no_picture = record { event = 0; ei = 0; eo = 0; gint = 0; rip = 0; pause = 0; iack = 0 }

-- a view names a chip, so it takes refusals 1 and 2
abbrev pub view_verdict : ℕ → Chain → Verdict
view_verdict i s = first_of_list (not_sound s ∷ no_such_chip s.count i ∷ [])

-- the register view of chip i
unfoldable pub register_view : ℕ → Chain → RegisterView
register_view i s = record { verdict = view_verdict i s; table = cond (is_accepted (view_verdict i s)) (table_of i s) no_table }

-- the pin view of chip i
unfoldable pub pin_view : ℕ → Chain → PinView
pin_view i s = record { verdict = view_verdict i s; picture = cond (is_accepted (view_verdict i s)) (picture_of i s) no_picture }
