-- The intervals in declared order.
use Rattle.std.proofs.Common.{◌≡◌, ◌<◌, ◌+◌, ◌-◌, ℕ, zero, suc, List, Ok, Err, None, refl, arith}
use Rattle.lift_grid.specs.Region.{Interval, in_order, given}
use Rattle.lift_grid.specs.declared.error.RegionError.TheVariants.{Missing}

later : (intervals : List Interval) (n more : ℕ) → in_order intervals n ≡ Err Missing → in_order intervals (more + n) ≡ Err Missing
later intervals n zero missing = let same : zero + n ≡ n = omega arith in rw same missing
later intervals n (suc more) missing =
    let same : suc more + n ≡ suc (more + n) = omega arith in
    rw (same, later intervals n more missing) refl

-- a parameter without an interval is missing, however many follow it
pub missing_from : (intervals front : List Interval) (n count : ℕ) → in_order intervals n ≡ Ok front → given intervals n ≡ None → n < count → in_order intervals count ≡ Err Missing
missing_from intervals front n count so_far none below =
    let here : in_order intervals (suc n) ≡ Err Missing = rw (so_far, none) refl in
    let same : count ≡ (count - suc n) + suc n = omega arith in
    rw same (later intervals (suc n) (count - suc n) here)
