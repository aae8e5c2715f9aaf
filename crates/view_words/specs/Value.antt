-- A value on the command line.
use Prim.Native.Char.{code}
use Rattle.std.specs.Prelude.{◌==◌, ◌&&◌, ℕ, ℤ, ◌*ℤ◌, neg_ℤ, int_le, Bool, List, length, Option, Some, None, if◌then◌else◌}
use Rattle.lift_frac.specs.Ratio.{Ratio}
use Rattle.lift_frac.specs.Written.{cut_at, written_ratio}

-- the fraction with the other sign
abbrev pub opposite : Option Ratio → Option Ratio
opposite None = None
opposite (Some q) = Some (record { num = neg_ℤ q.num; den = q.den })

-- a word, or where a minus stands at its front what is behind that, by the parts before and behind its first minus
abbrev pub signed : List ℕ → List ℕ × List ℕ → Option Ratio
signed word parts = if length parts.0 == 0 then opposite (written_ratio parts.1) else written_ratio word

-- a fraction, maybe behind a minus
abbrev pub value_of : List ℕ → Option Ratio
value_of word = elim (cut_at (code "-") word) [ None ↦ written_ratio word | Some parts ↦ signed word parts ]

-- the fraction n/m lies in a span over the grid d
abbrev pub is_inside : ℤ → ℤ × ℤ → ℤ → ℤ → Bool
is_inside d span n m = int_le (span.0 *ℤ m) (n *ℤ d) && int_le (n *ℤ d) (span.1 *ℤ m)
