-- What is asked: whether every scheduler keeps to a bound on its probability, and on which side of the bound the certificates of a rectangle have to be that decide it.
use Rattle.std.specs.Prelude.{ℕ, ◌^◌, Bool, true, false, ℤ, pos, ◌*ℤ◌, ◌≤ℤ◌, ◌<ℤ◌}
use Rattle.lift_cert.specs.declared.bound.Bound.{Bound}
use Rattle.lift_cert.specs.Certificate.{IsWithin, IsBeyond}
use Rattle.property_text.specs.declared.op.Op.{Op}
use Rattle.property_text.specs.declared.op.Op.TheVariants.{AtMost, Below, AtLeast, Above}

-- whether the bound itself counts to the lower side: it does for `<=` and `>`, which separate what is at most the bound from what is above it
abbrev pub is_closed : Op → Bool
is_closed AtMost = true
is_closed Below = false
is_closed AtLeast = false
is_closed Above = true

-- whether the property holds where numbers are on the lower side: then it speaks of the scheduler that reaches the most, and else of the one that reaches the least
abbrev pub is_upper : Op → Bool
is_upper AtMost = true
is_upper Below = true
is_upper AtLeast = false
is_upper Above = false

-- a number over 2 ^ w is on the lower side
abbrev pub IsLowSide : Op → Bound → ℕ → ℤ → Type 0
IsLowSide op bound w z = elim (is_closed op) [ true ↦ IsWithin bound w z | false ↦ (z *ℤ pos bound.den) <ℤ (pos bound.num *ℤ pos (2 ^ w)) ]

-- it is on the upper side
abbrev pub IsHighSide : Op → Bound → ℕ → ℤ → Type 0
IsHighSide op bound w z = elim (is_closed op) [ true ↦ IsBeyond bound w z | false ↦ (pos bound.num *ℤ pos (2 ^ w)) ≤ℤ (z *ℤ pos bound.den) ]
