-- The definition of a run tried: limit, end and first refusal, the unused bytes, and refusals 1, 10, 11 and 12.
-- Assumes nothing.
use mathlib.Core.List.{List, [], ◌∷◌}
use mathlib.Core.Path.{◌≡◌, refl}
use Prim.Native.Nat.{ℕ}
use lib.ListN.{take}
use Rattle.refusal.specs.Numbers.{verdict_number}
use Rattle.chain.specs.Fields.{zero_chain}
use Rattle.chain.specs.Start.{start_of}
use Rattle.chain.proofs.Rules.{rules}
use Rattle.run.specs.List.{listed_at}
use Rattle.run.specs.Run.{Report, run_from, before_any, run_of}

-- arm, status, a fall that stalls, and the fall again; the unused bytes are 9
unfoldable pub events : List ℕ
events = 1 ∷ 0 ∷ 9 ∷ 0xA1 ∷ 3 ∷ 0 ∷ 9 ∷ 9 ∷ 7 ∷ 9 ∷ 9 ∷ 9 ∷ 7 ∷ 9 ∷ 9 ∷ 9 ∷ []

unfoldable pub buffer : List ℕ
buffer = 0xEE ∷ 0xEE ∷ 0xEE ∷ 0xEE ∷ 0xEE ∷ 0xEE ∷ 0xEE ∷ 0xEE ∷ 0xEE ∷ []

abbrev on : ℕ → Report
on limit = run_of (start_of 1 0).chain events limit buffer

abbrev number_of : Report → ℕ
number_of r = verdict_number r.ran.verdict

-- past the list the first refusal stops it: three accepted, and the rest of the buffer untouched
first_refusal :
    (number_of (on 100) ≡ 6)
    × ((on 100).ran.accepted ≡ 3)
    × ((on 100).results ≡ 0 ∷ 0 ∷ 1 ∷ 0x48 ∷ 0 ∷ 0 ∷ 0xEE ∷ 0xEE ∷ 0xEE ∷ [])
unfolding rules events buffer listed_at run_from before_any run_of
first_refusal = (refl, refl, refl)

-- the limit stops it with 0; a limit of 0 stops it before any event, and the buffer stays
limited :
    (number_of (on 2) ≡ 0)
    × ((on 2).ran.accepted ≡ 2)
    × ((on 2).results ≡ 0 ∷ 0 ∷ 1 ∷ 0x48 ∷ 0xEE ∷ 0xEE ∷ 0xEE ∷ 0xEE ∷ 0xEE ∷ [])
unfolding rules events buffer listed_at run_from before_any run_of
limited = (refl, refl, refl)

none : (number_of (on 0) ≡ 0) × ((on 0).ran.accepted ≡ 0) × ((on 0).ran.chain ≡ (start_of 1 0).chain) × ((on 0).results ≡ buffer)
unfolding rules events buffer listed_at run_from before_any run_of
none = (refl, refl, refl, refl)

-- three events and room for just these: with the limit at the list and above it the end stops the run with 0
abbrev three : ℕ → Report
three limit = run_of (start_of 1 0).chain (take 12 events) limit (take 6 buffer)

ended :
    (number_of (three 3) ≡ 0)
    × ((three 3).ran.accepted ≡ 3)
    × ((three 3).results ≡ 0 ∷ 0 ∷ 1 ∷ 0x48 ∷ 0 ∷ 0 ∷ [])
    × (three 4 ≡ three 3)
unfolding rules events buffer listed_at run_from before_any run_of
ended = (refl, refl, refl, refl)

abbrev one_chip : List ℕ → ℕ → List ℕ → ℕ
one_chip bytes limit results = number_of (run_of (start_of 1 0).chain bytes limit results)

-- 1, 10 and 11 come before any event, whatever the limit; 12 at its event
before :
    (number_of (run_of zero_chain (7 ∷ []) 0 []) ≡ 1)
    × (one_chip (7 ∷ 0 ∷ 0 ∷ []) 0 [] ≡ 10)
    × (one_chip (7 ∷ 0 ∷ 0 ∷ 0 ∷ []) 0 (0 ∷ []) ≡ 11)
unfolding rules before_any run_of
before = (refl, refl, refl)

unknown_kind : one_chip (9 ∷ 0 ∷ 0 ∷ 0 ∷ []) 1 buffer ≡ 12
unfolding rules buffer listed_at run_from before_any run_of
unknown_kind = refl
