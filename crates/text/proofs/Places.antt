-- The lines of a table, one after the other.
-- Assumes nothing.
use mathlib.Core.Bool.{cond}
use mathlib.Core.List.{List}
use mathlib.Core.Path.{◌≡◌, ap}
use Prim.Native.Nat.{ℕ, zero, suc, ◌+◌, ◌-◌, ◌≤◌, ◌<◌}
use native.Mathlib.Omega.{arith}
use lib.ListN.{length, length-take, length-drop}
use Rattle.std.proofs.Common.{Some, refl}
use Rattle.std.specs.List.{find, range_with_len}
use Rattle.text.specs.Tables.{behind_line, line_in, place_from}
use Rattle.text.specs.Words.{line_end, same}

-- one line further
pub line_more : (k i : ℕ) (text : List ℕ) → i < k → line_in (k - i) text ≡ line_in (k - (i + 1)) (behind_line text)
line_more k i text more =
    let left : k - i ≡ suc (k - (i + 1)) = omega (arith, more) in
    ap (λ (n : ℕ). line_in n text) left

-- no line is longer than its table
pub line_le : (k : ℕ) (l : List ℕ) → length (line_in k l) ≤ length l
line_le zero l = omega (arith, length-take (line_end l) l)
line_le (suc k) l = omega (arith, line_le k (behind_line l), length-drop (line_end l + 1) l)

-- where a word stands: the first line found that it is
pub place_is : (lines k : ℕ) (table word : List ℕ) → find (λ i. same word (line_in i table)) (range_with_len k lines) ≡ place_from lines k table word
place_is zero k table word = refl
place_is (suc lines) k table word = ap (cond (same word (line_in k table)) (Some k)) (place_is lines (k + 1) table word)
