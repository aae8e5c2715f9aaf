-- What decides a rectangle: the greatest number within a bound, and what a vector's number of the initial state shows.
use Rattle.std.proofs.Common.{◌≡◌, ℕ, ◌+◌, ◌*◌, ◌/◌, ◌%◌, ◌^◌, ◌<◌, ◌≤◌, List, ℤ, pos, ◌+ℤ◌, ◌≤ℤ◌, ◌<ℤ◌, SFits, w64, to_z, arith, mul-le-mul, mod-eq_of_lt, div-add-mod', le_of_mul-le-mul_right, pow_mono, Option, Some, None, IfSome}
use Rattle.std.proofs.lemmas.Int.{to_z_pos}
use Rattle.std.proofs.lemmas.Nat.{mod_below}
use Rattle.lift_poly.proofs.Ring.{linear, mul-comm, mul-le}
use Rattle.lift_grid.specs.Rectangle.{Spans}
use Rattle.lift_grid.specs.Tree.{RejectData}
use Rattle.lift_cert.specs.declared.bound.Bound.{Bound}
use Rattle.lift_cert.specs.Certificate.{IsWithin, IsBeyond, NoneAccepts}
use Rattle.corner_lift.specs.Case.{CaseData, IsCase, number}
use Rattle.corner_lift.specs.Certificate.{IsUpper, IsLeastUpper}
use Rattle.lower_cert.specs.declared.greatest.Rate.{Rate}
use Rattle.lower_cert.specs.AnyRanks.{RanksFit}
use Rattle.lower_cert.specs.Limit.{IsGreatestAbove, NoneIsAbove}
use Rattle.region_tree.specs.Decided.{IsGreatestBeyond, IsLeastAccepting, reject_in}
use Rattle.region_tree.specs.declared.pools.Pools.{Pools}
use Rattle.region_tree.specs.Right.{NoneRejects}
use Rattle.region_tree.proofs.AnyHeight.{none_at_any_height}

-- ---- the greatest number within a bound

-- q is the quotient of num times 2 ^ w by den, rounded down
pub record IsFloor (num den w q : ℕ) : Type 0 where
  pub fits : q ≤ 2 ^ 40
  pub within : q * den ≤ num * 2 ^ w
  pub beyond : num * 2 ^ w < (q + 1) * den

pub is_floor : (num den w : ℕ) → num < 2 ^ 32 → num ≤ den → 1 ≤ den → w ≤ 40 → IsFloor num den w (num * 2 ^ w % 2 ^ 128 / den)
is_floor num den w narrow most positive small =
    let power : 2 ^ w ≤ 2 ^ 40 = pow_mono {j = 40} small in
    let thin : num ≤ 2 ^ 32 = omega (arith, narrow) in
    let wide : num * 2 ^ w ≤ 2 ^ 32 * 2 ^ 40 = mul-le-mul thin power in
    let most : num * 2 ^ w ≤ den * 2 ^ 40 = mul-le-mul most power in
    let whole : num * 2 ^ w % 2 ^ 128 ≡ num * 2 ^ w = mod-eq_of_lt (omega (arith, wide)) in
    let parts : num * 2 ^ w / den * den + num * 2 ^ w % den ≡ num * 2 ^ w = div-add-mod' (num * 2 ^ w) den in
    let rest : num * 2 ^ w % den < den = mod_below (num * 2 ^ w) den positive in
    let below : num * 2 ^ w / den * den ≤ 2 ^ 40 * den = omega (arith, parts, most) in
    rw whole (record {
      fits = le_of_mul-le-mul_right below positive;
      within = omega (arith, parts);
      beyond = omega (arith, parts, rest);
    })

pub floor_fits : (q : ℕ) → q ≤ 2 ^ 40 → SFits w64 (pos q)
floor_fits q le = record { sfits = omega (arith, linear) }

pub floor_is : (q : ℕ) → q ≤ 2 ^ 40 → to_z w64 q ≡ pos q
floor_is q le = to_z_pos w64 q (omega arith)

module _ (bound : Bound) (w : ℕ) (limit n : ℤ) where
  pub within_below : IsWithin bound w limit → n ≤ℤ limit → IsWithin bound w n
  within_below within le =
      let scaled = mul-le (pos bound.den) n limit (omega (arith, linear)) le in
      omega (arith, linear, scaled, within, mul-comm (pos bound.den) n, mul-comm (pos bound.den) limit)

  pub beyond_above : IsBeyond bound w (limit +ℤ pos 1) → limit <ℤ n → IsWithin bound w n → ⊥
  beyond_above beyond lt within =
      let scaled = mul-le (pos bound.den) (limit +ℤ pos 1) n (omega (arith, linear)) (omega (arith, linear, lt)) in
      omega (arith, linear, scaled, within, beyond, mul-comm (pos bound.den) n, mul-comm (pos bound.den) (limit +ℤ pos 1))

-- ---- verdicts

module _ (k : CaseData) (ss : Spans) (bound : Bound) where
  pub is_accepted : (limit : ℤ) (x : List ℤ) → IsWithin bound k.w limit → IsLeastUpper k ss x → number x k.model.init ≤ℤ limit → IsLeastAccepting k ss bound x
  is_accepted limit x within least first = record {
    accepting = record { upper = least.upper; limit = within_below bound k.w limit (number x k.model.init) within first };
    least = least;
  }

  pub none_accepts : (limit : ℤ) → IsBeyond bound k.w (limit +ℤ pos 1) → ((y : List ℤ) → IsUpper k ss y → limit <ℤ number y k.model.init) → NoneAccepts k ss bound
  none_accepts limit beyond past x h = beyond_above bound k.w limit (number x k.model.init) beyond (past x h.upper) h.limit

  pub none_rejects : RanksFit → IsCase k → (limit : ℤ) → IsWithin bound k.w limit → NoneIsAbove k ss limit → NoneRejects k ss bound
  none_rejects fit is limit within none =
      none_at_any_height fit k ss bound is
      (λ q rejecting. let scaled = mul-le (pos bound.den) (number q.numbers k.model.init) limit (omega (arith, linear)) (none q rejecting.holds) in
      omega (arith, linear, scaled, within, rejecting.limit, mul-comm (pos bound.den) (number q.numbers k.model.init), mul-comm (pos bound.den) limit))

  beyond_at : (limit : ℤ) → IsBeyond bound k.w (limit +ℤ pos 1) → (r : RejectData) → IsGreatestAbove k ss limit r → IsGreatestBeyond k ss bound r
  beyond_at limit beyond r is =
      let scaled = mul-le (pos bound.den) (limit +ℤ pos 1) (number r.numbers k.model.init) (omega (arith, linear)) (omega (arith, linear, is.above)) in
      record {
        rejecting = record { holds = is.greatest.holds; limit = omega (arith, linear, scaled, beyond, mul-comm (pos bound.den) (limit +ℤ pos 1), mul-comm (pos bound.den) (number r.numbers k.model.init)) };
        greatest = is.greatest;
      }

  pub greatest_beyond : (limit : ℤ) → IsBeyond bound k.w (limit +ℤ pos 1) → (p : Pools) (rate : Option Rate)
      → IfSome rate (λ r. IsGreatestAbove k ss limit (reject_in p r.e r.k)) → IfSome rate (λ r. IsGreatestBeyond k ss bound (reject_in p r.e r.k))
  greatest_beyond limit beyond p (Some r) h = beyond_at limit beyond (reject_in p r.e r.k) h
  greatest_beyond limit beyond p None h = h
