-- What the events keep (the rules paper, "A chip" and "Numbers handed back"): a sound chain stays sound, an event replaces at most one chip and
-- leaves the others, also those past the count, and the event number counts the accepted ones. (What a refused one leaves: Unchanged.)
use Rattle.std.specs.Prelude.{Bool, true, false, ◌&&◌, List, ◌≡◌, ℕ, ◌+◌, ◌%◌, ◌≤◌, ◌<◌, eqb, length}
use Rattle.refusal.specs.Numbers.{is_accepted}
use Rattle.refusal.specs.Answers.{handed}
use Rattle.chain.specs.Events.{event_of}
use Rattle.chain.specs.Fields.{chip_at}
use Rattle.response.specs.Held.{is_idle, is_responding}
use Rattle.chain.specs.Seen.{selected}
use Rattle.chain.specs.Refusals.{verdict_of}
use Rattle.chain.specs.Sound.{sound}
use Rattle.chain.specs.Start.{start_of}
use Rattle.chain.specs.declared.Chain.{Chain}
use Rattle.event.specs.declared.Event.{Event}
use Rattle.event.specs.declared.Event.TheVariants.{Command, Data, Status, Read, Line, Enable, Fall, Rise}
use Rattle.demands.specs.Along.{after, accepts, accepted_in}

-- chip k is the one that an event may replace: the chip that it names, or that a first pulse selects, or whose response a rise may end
abbrev pub replaces : Event → Chain → ℕ → Bool
replaces (Command i code) s k = eqb i k
replaces (Data i byte) s k = eqb i k
replaces (Status i) s k = false
replaces (Read i) s k = false
replaces (Line i channel level) s k = eqb i k
replaces (Enable level) s k = false
replaces Fall s k = is_idle s.response && is_responding (selected s) k
replaces Rise s k = is_responding s.response k

pub record Kept : Type 0 where
  -- every event keeps a sound chain sound, and start gives a sound one
  pub sound_kept : (e : Event) (s : Chain) → sound s ≡ true → sound (event_of e s).chain ≡ true
  pub start_sound : (count fill : ℕ) → (handed (start_of count fill).answer).number ≡ 0 → sound (start_of count fill).chain ≡ true
  -- an event replaces at most one chip, and all others are unchanged
  pub one_at_most : (e : Event) (s : Chain) (j k : ℕ) → replaces e s j ≡ true → replaces e s k ≡ true → j ≡ k
  pub others_unchanged : (e : Event) (s : Chain) (k : ℕ) → replaces e s k ≡ false → chip_at (event_of e s).chain k ≡ chip_at s k
  -- records past the count are never changed; the count and the number of records stay
  pub past_the_count : (e : Event) (s : Chain) (k : ℕ) → s.count ≤ k → chip_at (event_of e s).chain k ≡ chip_at s k
  pub count_kept : (e : Event) (s : Chain) → (event_of e s).chain.count ≡ s.count
  pub records_kept : (e : Event) (s : Chain) → length (event_of e s).chain.chips ≡ length s.chips
  -- the number 0 is handed back exactly where the verdict is accepted
  pub zero_is_accepted : (e : Event) (s : Chain) → accepts e s ≡ is_accepted (verdict_of e s)
  -- the event number is the number before plus the accepted events, modulo 65,536
  pub number_counts : (s : Chain) (es : List Event) → s.event < 65536 → (after s es).event ≡ (s.event + accepted_in s es) % 65536
