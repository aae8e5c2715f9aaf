-- Powers of ten, and numbers times them.
use Rattle.std.proofs.Common.{◌≡◌, ◌≢◌, ◌+◌, ◌-◌, ◌*◌, ◌^◌, ◌<◌, ◌≤◌, ℕ, pos, ap, sym, ◌∙◌, arith, to_z, Bool, false, cond, Err, Result}
use Rattle.std.specs.Int.{w128}
use Rattle.std.proofs.Math.Nat.{one-le-pow, pow-le-pow_right}
use Rattle.std.proofs.lemmas.Nat.{mul-lt}
use Rattle.std.proofs.lemmas.Int.{ints, to_z_pos}
use Rattle.std.proofs.lemmas.Bool.Decides.{nat_tests}
use Rattle.lift_frac.specs.Limits.{size_limit}
use Rattle.lift_frac.specs.Ratio.{Ratio, fraction}
use Rattle.lift_frac.specs.Literal.{is_far, scaled}
use Rattle.lift_frac.specs.declared.error.FracError.{FracError}
use Rattle.lift_frac.specs.declared.error.FracError.TheVariants.{Wide}

near : (n up down : ℕ) → n < size_limit → up ≤ down + 18 → down ≤ up + 18 → is_far n up down ≡ false
near n up down h k l = grind (arith, nat_tests)

power_small : (k : ℕ) → k ≤ 18 → 10 ^ k < 2 ^ 60
power_small k h = let most = pow-le-pow_right {n = 10} (omega arith) {i = k} {j = 18} h in omega (arith, most)

power_fits : (k : ℕ) → k ≤ 30 → 10 ^ k < 2 ^ 100
power_fits k h = let most = pow-le-pow_right {n = 10} (omega arith) {i = k} {j = 30} h in omega (arith, most)

-- a power of ten, cast, is not 0
pub power-nonzero : (k p : ℕ) → k ≤ 30 → p ≡ 10 ^ k → to_z w128 p ≢ pos 0
power-nonzero k p h e none =
    let above : 1 ≤ 10 ^ k = one-le-pow k 10 (omega arith) in
    let exact = to_z_pos w128 p (omega (arith, e, power_fits k h)) in
    omega (arith, ints, exact, none, above, e)

-- a number that is raised by a power of ten
pub scaled-raised : (n up down p : ℕ) → n < size_limit → down ≤ up → up ≤ down + 18 → p ≡ 10 ^ (up - down) → fraction (to_z w128 (n * p)) (pos 1) ≡ scaled n up down
scaled-raised n up down p small order close e =
    let far = near n up down small close (omega arith) in
    let zero : down - up ≡ 0 = omega arith in
    let fits : n * p < size_limit * 2 ^ 60 = mul-lt n p size_limit (2 ^ 60) small (omega (arith, e, power_small (up - down) (omega arith))) in
    let num : to_z w128 (n * p) ≡ pos (n * 10 ^ (up - down)) = to_z_pos w128 (n * p) (omega arith) ∙ ap (λ k. pos (n * k)) e in
    let den : pos (10 ^ (down - up)) ≡ pos 1 = ap (λ k. pos (10 ^ k)) zero in
    let after_test = λ (b : Bool). let r : Result Ratio FracError = cond b (Err Wide) (fraction (pos (n * 10 ^ (up - down))) (pos (10 ^ (down - up)))) in r in
    ap (λ k. fraction k (pos 1)) num ∙ ap (λ k. fraction (pos (n * 10 ^ (up - down))) k) (sym den) ∙ sym (ap after_test far)
