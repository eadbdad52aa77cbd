-- What is held of a response (the rules paper, "A chip" and events 1, 7 and 8).
use Rattle.std.specs.Prelude.{Bool, true, false, ◌&&◌, Option, Some, None, ℕ, ◌+◌, eqb}
use Rattle.search.specs.Candidate.{channel_of}
use Rattle.chip.specs.Acknowledge.{response_level, response_length}
use Rattle.figure4.specs.Figure4.{is_reset}
use Rattle.chip.specs.Status.{candidate_of}
use Rattle.chip.specs.declared.Chip.{Chip}
use Rattle.response.specs.declared.Reply.{Reply}

-- the response that is under way, if one is: there is one at most
abbrev pub Response : Type 0
Response = Option Reply

-- the response of chip i for its candidate, before its first byte: level and length are held from here on
abbrev pub reply_of : ℕ → Chip → Reply
reply_of i c =
    let channel : ℕ = channel_of (candidate_of c) in
    record { chip = i; channel = channel; level = response_level c channel; length = response_length c channel; delivered = 0 }

-- a response with one byte more delivered
abbrev pub one_more : Reply → Reply
one_more r = record { chip = r.chip; channel = r.channel; level = r.level; length = r.length; delivered = r.delivered + 1 }

-- no response is under way
abbrev pub is_idle : Response → Bool
is_idle None = true
is_idle (Some r) = false

-- chip i is responding
abbrev pub is_responding : Response → ℕ → Bool
is_responding None i = false
is_responding (Some r) i = eqb r.chip i

-- a reset of chip i ends a response of that chip (D)
abbrev pub ends_response : ℕ → ℕ → Response → Bool
ends_response i code response = is_reset code && is_responding response i
