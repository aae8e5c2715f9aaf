-- The limits of each kind.
use Rattle.std.proofs.Common.{◌<◌, ◌≤◌, ◌^◌, ◌*◌, ℕ, ℤ, pos, ◌*ℤ◌, ◌≤ℤ◌, unsigned_abs, arith, mul-le-mul, Option, Some, None}
use Rattle.std.proofs.Math.Nat.{pow-le-pow_right}
use Rattle.std.proofs.lemmas.Int.{ints, unsigned_abs-mul}
use Rattle.std.specs.Prelude.{IfSome}
use Rattle.corner_lift.specs.Case.{most_precision}
use Rattle.lift_cert.specs.Miss.{IsSmall}
use Rattle.lift_cert.specs.Certificate.{IsWithin, IsBeyond}
use Rattle.lift_cert.specs.declared.bound.Bound.{Bound}
use Rattle.property_text.specs.declared.op.Op.{Op}
use Rattle.property_text.specs.declared.op.Op.TheVariants.{AtMost, Below, AtLeast, Above}
use Rattle.lift_dual.specs.Property.{IsLowSide, IsHighSide}
use Rattle.audit_cert.specs.Claim.{KeepsTo, low, high, last}

pub low_in : (op : Op) (bound : Bound) (w : ℕ) (z : ℤ) → KeepsTo w z (low op bound) → IsLowSide op bound w z
low_in AtMost bound w z h = h
low_in Below bound w z h = h
low_in AtLeast bound w z h = h
low_in Above bound w z h = h

pub low_out : (op : Op) (bound : Bound) (w : ℕ) (z : ℤ) → IsLowSide op bound w z → KeepsTo w z (low op bound)
low_out AtMost bound w z h = h
low_out Below bound w z h = h
low_out AtLeast bound w z h = h
low_out Above bound w z h = h

pub high_in : (op : Op) (bound : Bound) (w : ℕ) (z : ℤ) → KeepsTo w z (high op bound) → IsHighSide op bound w z
high_in AtMost bound w z h = h
high_in Below bound w z h = h
high_in AtLeast bound w z h = h
high_in Above bound w z h = h

pub high_out : (op : Op) (bound : Bound) (w : ℕ) (z : ℤ) → IsHighSide op bound w z → KeepsTo w z (high op bound)
high_out AtMost bound w z h = h
high_out Below bound w z h = h
high_out AtLeast bound w z h = h
high_out Above bound w z h = h

-- at the last step, at which a bound is given
pub last_low_in : (bound : Option Bound) (w : ℕ) (z : ℤ) → IfSome (last low bound) (KeepsTo w z) → IfSome bound (λ b. IsWithin b w z)
last_low_in None w z h = h
last_low_in (Some bound) w z h = h

pub last_low_out : (bound : Option Bound) (w : ℕ) (z : ℤ) → IfSome bound (λ b. IsWithin b w z) → IfSome (last low bound) (KeepsTo w z)
last_low_out None w z h = h
last_low_out (Some bound) w z h = h

pub last_high_in : (bound : Option Bound) (w : ℕ) (z : ℤ) → IfSome (last high bound) (KeepsTo w z) → IfSome bound (λ b. IsBeyond b w z)
last_high_in None w z h = h
last_high_in (Some bound) w z h = h

pub last_high_out : (bound : Option Bound) (w : ℕ) (z : ℤ) → IfSome bound (λ b. IsBeyond b w z) → IfSome (last high bound) (KeepsTo w z)
last_high_out None w z h = h
last_high_out (Some bound) w z h = h

-- ---- sizes

pub scaled-small : (w : ℕ) (n : ℤ) (scale : ℕ) → w ≤ most_precision → pos 0 ≤ℤ n → n ≤ℤ pos (2 ^ w) → scale < 2 ^ 64 → IsSmall (n *ℤ pos scale)
scaled-small w n scale le least most fits =
    let power = pow-le-pow_right {n = 2} (omega arith) {i = w} {j = 40} le in
    let size : unsigned_abs n ≤ 2 ^ 40 = omega (arith, ints, least, most, power) in
    let narrow : scale ≤ 2 ^ 64 = omega (arith, fits) in
    let product : unsigned_abs n * scale ≤ 2 ^ 40 * 2 ^ 64 = mul-le-mul size narrow in
    rw (unsigned_abs-mul n (pos scale)) (omega (arith, product))
