-- Document 01, "Numbers handed back", as one table for all calls: each number with the case in which it is given, in the table's order.
-- `decide/specs/Refusals` tells it event by event; that each call goes by this one table is the statement here.
use Rattle.std.specs.Prelude.{Bool, not, cond, ◌&&◌, ◌||◌, List, [], ◌∷◌, ◌++◌, ◌≡◌, ℕ, ◌+◌, ◌*◌, ◌/◌, ◌%◌, min, eqb, leb, ltb, get_or, length}
use Rattle.refusal.specs.Numbers.{verdict_number}
use Rattle.search.specs.Candidate.{search_number}
use Rattle.chip.specs.Data.{has_no_destination, is_past_its_count}
use Rattle.figure4.specs.Undefined.{is_undefined}
use Rattle.refusal.specs.Answers.{handed}
use Rattle.views.specs.Views.{register_view, pin_view}
use Rattle.chain.specs.Events.{event_of}
use Rattle.chain.specs.Fields.{chip_at}
use Rattle.chain.specs.Sound.{sound}
use Rattle.chain.specs.Start.{start_of}
use Rattle.chain.specs.declared.Chain.{Chain}
use Rattle.event.specs.declared.Event.{Event}
use Rattle.event.specs.Numbers.{numbered, in_numbers}
use Rattle.event.specs.declared.Numbered.{Numbered}
use Rattle.run.specs.Run.{Report, run_of}

-- an entry of the table: a number, and whether its case applies
abbrev pub Entry : Type 0
Entry = ℕ × Bool

-- the first that applies, in this order; 0, accepted, if none does
abbrev pub given : List Entry → ℕ
given [] = 0
given (entry ∷ entries) = cond entry.1 entry.0 (given entries)

-- chain not sound
abbrev pub chain_not_sound : Chain → Entry
chain_not_sound s = (1, not (sound s))

-- chip not below the count
abbrev pub chip_not_below : ℕ → Chain → Entry
chip_not_below chip s = (2, leb s.count chip)

-- 1 to 9, for an event
abbrev pub event_entries : Numbered → Chain → List Entry
event_entries e s =
    chain_not_sound s
    -- only events 1 to 5 name a chip
    ∷ (2, leb e.kind 5 && (chip_not_below e.chip s).1)
    -- line event, channel above 7
    ∷ (3, eqb e.kind 5 && ltb 7 e.channel)
    -- line or enable event, level above 1
    ∷ (4, (eqb e.kind 5 || eqb e.kind 6) && ltb 1 e.value)
    -- events 1 to 4 while IACK is low
    ∷ (5, leb e.kind 4 && not s.iack)
    -- IACK already at that level: a fall while it is low, a rise while it is high
    ∷ (6, cond (eqb e.kind 7) (not s.iack) (eqb e.kind 8 && s.iack))
    -- undefined command: a code of 01 to 0F, 1010xx11, D0 to DF
    ∷ (7, eqb e.kind 1 && is_undefined e.value)
    -- data write, no destination
    ∷ (8, eqb e.kind 2 && has_no_destination (chip_at s e.chip).destination)
    -- data write to a level, place at or past its count
    ∷ (9, eqb e.kind 2 && is_past_its_count (chip_at s e.chip).counts (chip_at s e.chip).destination)
    ∷ []

-- 1, 10 and 11, which a run takes before any event
abbrev pub run_entries : Chain → List ℕ → List ℕ → List Entry
run_entries s bytes results =
    chain_not_sound s
    -- event bytes not a multiple of four
    ∷ (10, not (eqb (length bytes % 4) 0))
    -- result buffer under two bytes per listed event, whatever the limit
    ∷ (11, ltb (length results) (2 * (length bytes / 4)))
    ∷ []

-- what it takes at an event of its list: 12, kind outside 1 to 8, before that event's own
abbrev pub listed_entries : Numbered → Chain → List Entry
listed_entries e s = (12, not (leb 1 e.kind && leb e.kind 8)) ∷ event_entries e s

-- the n-th event of a list, from its four bytes
abbrev pub four_bytes : List ℕ → ℕ → Numbered
four_bytes bytes n = numbered (get_or bytes (4 * n) 0) (get_or bytes (4 * n + 1) 0) (get_or bytes (4 * n + 2) 0) (get_or bytes (4 * n + 3) 0)

-- the entries of the event at which a run ended, if that is before so many events; else none
abbrev pub last_entries : List ℕ → ℕ → Report → List Entry
last_entries bytes most r = cond (ltb r.ran.accepted most) (listed_entries (four_bytes bytes r.ran.accepted) r.ran.chain) []

pub record ByTheTable : Type 0 where
  -- start count outside 1 to 8
  pub start : (count fill : ℕ) → (handed (start_of count fill).answer).number ≡ given ((1, not (leb 1 count && leb count 8)) ∷ [])
  pub event : (e : Event) (s : Chain) → (handed (event_of e s).answer).number ≡ given (event_entries (in_numbers e) s)
  pub register_view_lem : (chip : ℕ) (s : Chain) → verdict_number (register_view chip s).verdict ≡ given (chain_not_sound s ∷ chip_not_below chip s ∷ [])
  pub pin_view_lem : (chip : ℕ) (s : Chain) → verdict_number (pin_view chip s).verdict ≡ given (chain_not_sound s ∷ chip_not_below chip s ∷ [])
  -- a run: before any event, else at the event where it ended before its limit and the end of its list
  pub run : (s : Chain) (bytes : List ℕ) (limit : ℕ) (results : List ℕ)
      → verdict_number (run_of s bytes limit results).ran.verdict
      ≡ given (run_entries s bytes results ++ last_entries bytes (min limit (length bytes / 4)) (run_of s bytes limit results))
  -- the C search gives 254, which stands for refusal 1, exactly if the pointer is above 7
  pub search : (irr imr isr mode pointer : ℕ) → eqb (search_number irr imr isr mode pointer) 254 ≡ ltb 7 pointer
