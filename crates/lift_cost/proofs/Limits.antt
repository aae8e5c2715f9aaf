-- The greatest number that is affordable.
use Rattle.std.proofs.Common.{◌≡◌, ℕ, ◌*◌, ◌/◌, ◌<◌, ◌≤◌, ℤ, pos, negsuc, ◌*ℤ◌, ◌≤ℤ◌, arith}
use Rattle.std.proofs.lemmas.Nat.{le-div}
use Rattle.lift_poly.proofs.Ring.{linear}

-- a number from 0 on whose multiple is within a product is at most the quotient, rounded down
pub within_quotient : (n : ℤ) (num one scale most quotient : ℕ) → pos 0 ≤ℤ n → (n *ℤ pos scale) ≤ℤ (pos num *ℤ pos one) → most ≡ num * one → 0 < scale → quotient ≡ most / scale → n ≤ℤ pos quotient
within_quotient (pos m) num one scale most quotient least le is some same =
    let product : m * scale ≤ num * one = omega (arith, linear, le) in
    let under : m ≤ most / scale = le-div m most scale some (omega (arith, product, is)) in
    omega (arith, linear, under, same)
within_quotient (negsuc m) num one scale most quotient least le is some same = absurd (omega (arith, linear, least))
