-- One name for the rules of a chain and its chips: a proof that says `unfolding rules` computes with all of them; and one for the
-- chain's fields alone.
-- Assumes nothing.
use Rattle.chip.proofs.Rules.{chip_rules}
use Rattle.decide.proofs.Rules.{decisions}
use Rattle.chain.specs.Apply.{replaced_in, set_in, applied, decision, changed, counted}
use Rattle.chain.specs.Events.{accepted, refused, judged, event_of}
use Rattle.chain.specs.Fields.{with_chips, with_chip, with_own, with_event, zero_chain}
use Rattle.chain.specs.Pins.{ei}
use Rattle.chain.specs.Refusals.{verdict_of}
use Rattle.chain.specs.Seen.{seen_at, selected}
use Rattle.chain.specs.Sound.{chips_sound, sound}
use Rattle.chain.specs.Start.{started, start_of}
use Rattle.chain.specs.Walk.{answering_chip}

-- a chain with one field replaced, as a record
unfoldable pub chain_fields : Unit {0}
unfolding with_chips with_chip with_own with_event zero_chain
chain_fields = tt

-- a chain with a change applied, as a record
unfoldable pub applying : Unit {0}
unfolding chain_fields replaced_in set_in applied
applying = tt

unfoldable pub rules : Unit {0}
unfolding chip_rules decisions applying decision changed counted accepted refused judged event_of ei answering_chip seen_at selected verdict_of chips_sound sound started start_of
rules = tt
