-- The pins of a chain (the rules paper, "Bits"). A level is true where it is high.
use Rattle.std.specs.Prelude.{Bool, not, ◌||◌, ℕ, zero, suc}
use Rattle.chip.specs.Status.{gint_active, gint_pin}
use Rattle.response.specs.Held.{is_idle}
use Rattle.response.specs.Walk.{eo_of}
use Rattle.chain.specs.Fields.{chip_at}
use Rattle.chain.specs.declared.Chain.{Chain}

-- EO of chip i at a level of its EI
abbrev pub eo_at : Bool → Chain → ℕ → Bool
eo_at ei s i = eo_of ei (chip_at s i) s.response i

-- EI of chip 0 is the chain's; EI of another is EO of the chip before
unfoldable pub ei : Chain → ℕ → Bool
ei s zero = s.enable
ei s (suc i) = eo_at (ei s i) s i

abbrev pub eo : Chain → ℕ → Bool
eo s i = eo_at (ei s i) s i

-- GINT of chip i, whatever its EI is
abbrev pub gint : Chain → ℕ → ℕ
gint s i = gint_pin (chip_at s i).mode (gint_active (chip_at s i))

-- RIP is low while a response is under way
abbrev pub rip : Chain → Bool
rip s = is_idle s.response

-- PAUSE is low when IACK is low and no response is under way
abbrev pub pause : Chain → Bool
pause s = s.iack || not (is_idle s.response)
