-- What the types of the arrays say stays so in the definitions: events and runs keep a chain whole, and a start gives a whole one.
-- Assumes nothing.
use native.Mathlib.Omega.{arith}
use Rattle.std.proofs.lemmas.Option.{IfSome_then}
use Rattle.std.specs.Prelude.{Ok, Err, IfSome}
use mathlib.Core.Bool.{Bool}
use mathlib.Core.List.{List}
use mathlib.Core.Path.{◌≡◌, refl, ◌∙◌}
use Prim.Native.Nat.{ℕ, min}
use lib.Dec.{eqb}
use lib.ListN.{length, replicate, length-set}
use Rattle.bits.proofs.Below.{either}
use Rattle.std.proofs.lemmas.List.{get_or_past}
use Rattle.refusal.specs.Numbers.{Verdict}
use Rattle.event.specs.declared.Event.{Event}
use Rattle.event.specs.Numbers.{Listed}
use Rattle.chip.proofs.Rules.{chip_fields}
use Rattle.chip.specs.Acknowledge.{answered, finished}
use Rattle.chip.specs.Command.{obey, commanded}
use Rattle.chip.specs.Data.{data_written}
use Rattle.chip.specs.Fields.{zero_chip}
use Rattle.figure4.specs.Figure4.{figure4, Meaning}
use Rattle.chip.specs.Line.{line_set}
use Rattle.chip.specs.Reset.{reset, power_up}
use Rattle.chip.specs.declared.Chip.{Chip}
use Rattle.figure4.specs.declared.Command.{Command}
use Rattle.chip.specs.declared.Destination.{Destination}
use Rattle.decide.specs.Decided.{decided}
use Rattle.decide.specs.declared.Seen.{Seen}
use Rattle.chain.proofs.Kept.{applied_chips}
use Rattle.chain.proofs.Rules.{chain_fields}
use Rattle.chain.specs.Apply.{decision, counted}
use Rattle.chain.specs.Events.{judged, event_of}
use Rattle.chain.specs.Fields.{chip_at}
use Rattle.chain.specs.Refusals.{verdict_of}
use Rattle.chain.specs.Seen.{seen_at, seen_by}
use Rattle.chain.specs.Sound.{count_sound}
use Rattle.chain.specs.Start.{started, start_of}
use Rattle.chain.specs.declared.Chain.{Chain}
use Rattle.chain.specs.declared.Outcome.{Outcome}
use Rattle.run.proofs.Steps.{run_through}
use Rattle.run.specs.List.{listed_at}
use Rattle.run.specs.Run.{list_length, listed_outcome, run_from, run_of}
use Rattle.image.specs.OneToOne.{WholeChip, Whole}
use Rattle.demands.proofs.Kept.{left, records}
use Rattle.demands.proofs.Puts.{puts}
use Rattle.demands.proofs.Runs as runs

-- one chip is as large as another
record AsLarge (c d : Chip) : Type 0 where
  counts : length d.counts ≡ length c.counts
  memory : length d.memory ≡ length c.memory

whole_as : (c d : Chip) → AsLarge c d → WholeChip c → WholeChip d
whole_as c d large w = search arith

obeyed : (row : Command) (c : Chip) → AsLarge c (obey row c)
unfolding chip_fields obey reset
obeyed row c = search (arith, length-set)

commanded_as : (meaning : Meaning) (code : ℕ) (c : Chip) → AsLarge c (commanded meaning code c)
unfolding chip_fields commanded
commanded_as (Ok row) code c = let o = obeyed row _ in record { counts = o.counts; memory = o.memory }
commanded_as (Err kind) code c = record { counts = refl; memory = refl }

written_as : (d : Destination) (byte : ℕ) (c : Chip) → AsLarge c (data_written d byte c)
unfolding chip_fields data_written
written_as d byte c = search (arith, length-set)

line_as : (channel : ℕ) (high : Bool) (c : Chip) → AsLarge c (line_set channel high c)
unfolding chip_fields line_set
line_as channel high c = search arith

answered_as : (channel : ℕ) (c : Chip) → AsLarge c (answered channel c)
unfolding chip_fields answered
answered_as channel c = search arith

finished_as : (channel : ℕ) (c : Chip) → AsLarge c (finished channel c)
unfolding chip_fields finished
finished_as channel c = search arith

-- the chip that is put in a chip's place is as large as the one that is seen there
decided_large : (e : Event) (v : Seen) → IfSome (decided e v).replaced (λ replaced. AsLarge v.chip replaced.chip)
decided_large e v =
    IfSome_then (decided e v).replaced
    (puts (λ e. v) (λ e c. AsLarge v.chip c)
    (record {
      command = λ i code. commanded_as (figure4 code) code v.chip;
      data_write = λ i byte. written_as v.chip.destination byte v.chip;
      line = λ i channel level. line_as channel (eqb level 1) v.chip;
      first_pulse_lem = λ r idle found. answered_as r.channel v.chip;
      last_rise = λ r under. finished_as r.channel v.chip;
    })
    e)
    (λ r there. there.1)

zero_whole : WholeChip zero_chip
unfolding zero_chip
zero_whole = search arith

-- every chip of a whole chain is whole, also what is seen past its records
each_whole : (s : Chain) (i : ℕ) → Whole s → WholeChip (chip_at s i)
each_whole s i w = search (arith, get_or_past, zero_whole)

judged_whole : (v : Verdict) (e : Event) (s : Chain) → Whole s → Whole (judged v e s).chain
unfolding decision seen_at counted chain_fields
judged_whole v e s w =
    record {
      eight_chips = records v e s ∙ w.eight_chips;
      whole_chips = λ k h.
          left (λ t. WholeChip (chip_at t k)) v e s (w.whole_chips k h)
          (λ ok. applied_chips WholeChip (decision e s) s k
          (IfSome_then (decision e s).replaced (decided_large e (seen_by e s)) (λ r large. whole_as (seen_by e s).chip _ large (each_whole s _ w)))
          (w.whole_chips k h));
    }

step_whole : (listed : Listed) (s : Chain) → Whole s → Whole (listed_outcome listed s).chain
unfolding event_of
step_whole (Ok e) s w = judged_whole (verdict_of e s) e s w
step_whole (Err _) s w = w

from_whole : (bytes : List ℕ) (left n : ℕ) (s : Chain) (results : List ℕ) → Whole s → Whole (run_from left bytes n s results).ran.chain
from_whole bytes =
    run_through bytes (λ n s results r k. Whole s → Whole r.ran.chain)
    (λ n s results v w. w)
    (λ n s results r k on rest w. rest (step_whole (listed_at bytes n) s w))

pub run_whole : (s : Chain) (bytes : List ℕ) (limit : ℕ) (results : List ℕ) → Whole s → Whole (run_of s bytes limit results).ran.chain
run_whole s bytes limit results w =
    runs.whole (λ r. Whole r.ran.chain) s bytes limit results _ refl (from_whole bytes (min limit (list_length bytes)) 0 s results w) w

-- eight times the same whole chip
eight : (c : Chip) (s : Chain) → s.chips ≡ replicate 8 c → WholeChip c → Whole s
eight c s is w = search arith

power_up_whole : (fill : ℕ) → WholeChip (power_up fill)
unfolding chip_fields power_up reset
power_up_whole fill = search arith

-- a start, also a refused one
pub start_whole : (count fill : ℕ) → Whole (start_of count fill).chain
unfolding chain_fields start_of started
start_whole count fill =
    either (λ (o : Outcome). Whole o.chain) (count_sound count) _ _
    (λ within. eight (power_up fill) _ refl (power_up_whole fill))
    (λ outside. eight zero_chip _ refl zero_whole)
