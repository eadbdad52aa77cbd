-- The second demand: one to eight chips behave by the rules, event by event, and what the two views show of a state cannot differ.
use Rattle.image.specs.OneToOne.{OneToOne}
use Rattle.demands.specs.Agree.{Agreement}
use Rattle.demands.specs.Cases.{cases, Hold}
use Rattle.demands.specs.Corners.{corners}
use Rattle.demands.specs.FromC.{AsTheModel}
use Rattle.demands.specs.Kept.{Kept}
use Rattle.demands.specs.Misread.{misreadings}
use Rattle.demands.specs.Rules.{ByTheRules}
use Rattle.demands.specs.Runs.{Runs}

pub record Demand2 : Type 0 where
  -- the rules are those of the paper: its bench cases K1 to K12 come out as written, none of its five misreadings does, and nine corners go as decided
  pub bench : Hold cases
  pub not_misread : Hold misreadings
  pub cornered : Hold corners
  -- an accepted event answers and changes the chain by its rule; the two views show each register, the status byte and each pin by its rule
  pub by_the_rules : ByTheRules
  -- a sound chain stays sound, all chips but at most one are unchanged, records past the count never change, the event number counts accepted events
  pub kept : Kept
  -- a run accepts the events before its limit, its end or its first refusal, performs each on the chain that those before it leave, and reports how many; a run of one event
  -- does what its call does
  pub runs : Runs
  -- the picture and the table of a state agree, whatever the state
  pub agreement : Agreement
  -- a chain and its image are one to one
  pub one_to_one : OneToOne
  -- a call from C is the model's own between reading the image and writing it, and the bytes of the two views of an image agree
  pub as_the_model : AsTheModel
