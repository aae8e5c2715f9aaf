-- Tests that fail: what passes has none, and the first is one.
use Rattle.std.proofs.Common.{ℕ, ℤ, pos, ◌*ℤ◌, ◌<ℤ◌, ◌^◌, sym, subst, refl, ◌∙◌, arith, length, Option, Some, None, Result, Ok, Err}
use Rattle.std.specs.Prelude.{◌↔◌, IsOk, IsErr, IfSome, MatchResult}
use Rattle.lift_poly.proofs.Ring.{linear}
use Rattle.lift_grid.specs.Rectangle.{Spans}
use Rattle.lift_grid.specs.Tree.{RejectData}
use Rattle.corner_lift.specs.Case.{CaseData, number, row_whole}
use Rattle.lift_cert.specs.RejectMiss.{IsFast, weight_below}
use Rattle.lift_cert.specs.declared.miss.Miss.{Miss}
use Rattle.lift_cert.specs.declared.miss.Miss.TheVariants.{Goal, Unranked, Row, Rate, Limit}
use Rattle.audit_cert.specs.Claim.{LimitData, ClaimData, PassesCorner, PassesState, PassBefore, KeepsTo, Passes}
use Rattle.audit_cert.specs.Miss.{IsAtCorner, IsGoalMiss, IsUnrankedMiss, IsRowMiss, IsSlow, IsSlowBy, IsRateMiss, IsPastSome, IsMiss, IsFirstMiss}
use Rattle.audit_cert.specs.Laws.{PassingMissesNone}
use Rattle.audit_cert.specs.Held.{IsMissAt}

slow_refused : (k : CaseData) (spans : Spans) (r : RejectData) (s a corner : ℕ) (weight : ℤ) (e : ℕ) (all : ℤ) → IsSlow k spans r s a corner weight e all → IsFast k spans r s a corner → ⊥
slow_refused k spans r s a corner weight e all miss fast =
    let wrong : (weight_below k spans r s a corner *ℤ pos (2 ^ r.e)) <ℤ row_whole k s a = rw (← miss.weight_is, ← miss.e_is, ← miss.whole_is) miss.wrong in
    omega (arith, linear, fast, wrong)

slow_by_refused : (k : CaseData) (spans : Spans) (ranking : Option RejectData) (s a corner : ℕ) (weight : ℤ) (e : ℕ) (all : ℤ) → IsSlowBy k spans ranking s a corner weight e all → IfSome ranking (λ r. IsFast k spans r s a corner) → ⊥
slow_by_refused k spans None s a corner weight e all miss fast = miss
slow_by_refused k spans (Some r) s a corner weight e all miss fast = slow_refused k spans r s a corner weight e all miss fast

past_refused : (w : ℕ) (z : ℤ) (limit : Option LimitData) (left right : ℤ) → IsPastSome w z limit left right → IfSome limit (KeepsTo w z) → ⊥
past_refused w z None left right miss keeps = miss
past_refused w z (Some limit) left right miss keeps = miss.wrong keeps

module _ (k : CaseData) (spans : Spans) (c : ClaimData) where
  pub goal_refused : (s : ℕ) (value : ℤ) → IsGoalMiss k c s value → PassesState k spans c s → ⊥
  goal_refused s value miss passes = miss.wrong (miss.value_is ∙ passes.goal miss.goal)

  pub unranked_refused : (s : ℕ) (value : ℤ) → IsUnrankedMiss k c s value → PassesState k spans c s → ⊥
  unranked_refused s value miss passes = miss.wrong (miss.value_is ∙ passes.unranked miss.inner miss.unranked)

  pub met_refused : (s a corner : ℕ) (left right : ℤ) → IsRowMiss k spans c s a corner left right → PassesCorner k spans c s a corner → ⊥
  met_refused s a corner left right miss passes = miss.wrong passes.met

  pub rate_refused : (s a corner : ℕ) (weight : ℤ) (e : ℕ) (all : ℤ) → IsRateMiss k spans c s a corner weight e all → PassesCorner k spans c s a corner → ⊥
  rate_refused s a corner weight e all miss passes = slow_by_refused k spans c.ranking s a corner weight e all miss.slow passes.fast

  pub corner_refused : (s a corner : ℕ) → IsAtCorner k spans c s a corner → (PassesCorner k spans c s a corner → ⊥) → PassesState k spans c s → ⊥
  corner_refused s a corner at wrong passes = wrong (passes.rows at.row.inner at.row.ranked a at.row.tested corner at.in_range)

  -- what passes misses nothing
  pub misses_none : (m : Miss) → Passes k spans c → IsMiss k spans c m → ⊥
  misses_none (Goal s value) passes miss = goal_refused s value miss (passes.states s miss.state)
  misses_none (Unranked s value) passes miss = unranked_refused s value miss (passes.states s miss.state)
  misses_none (Row s a corner left right) passes miss = corner_refused s a corner miss.at (met_refused s a corner left right miss) (passes.states s miss.at.row.state)
  misses_none (Rate s a corner weight e all) passes miss = corner_refused s a corner miss.at (rate_refused s a corner weight e all miss) (passes.states s miss.at.row.state)
  misses_none (Limit left right) passes miss = past_refused k.w (number c.numbers k.model.init) c.limit left right miss passes.limit

  -- ---- answers

  -- a miss, where the states before it pass
  pub first_miss : (s : ℕ) (m : Miss) → PassBefore k spans c s → IsMissAt k spans c s m → IsFirstMiss k spans c m
  first_miss s m before miss = (subst (PassBefore k spans c) (sym miss.0) before, miss.1)

  pub answers_miss : {T : Type 0} (r : Result T Miss) (s : ℕ) (m : Miss) → IsErr r → IsMissAt k spans c s m → IsOk r ↔ Passes k spans c
  answers_miss (Ok u) s m refused miss = absurd (cc refused)
  answers_miss (Err e) s m refused miss = (λ ok. absurd (cc ok), λ passes. absurd (misses_none m passes miss.1))

  pub answers_limit : {T : Type 0} (r : Result T Miss) (s : ℕ) → PassBefore k spans c (length k.model.states) → MatchResult r (λ u. IfSome c.limit (KeepsTo k.w (number c.numbers k.model.init))) (IsMissAt k spans c s) → IsOk r ↔ Passes k spans c
  answers_limit (Ok u) s before limit = (λ ok. record { states = before; limit = limit }, λ passes. refl)
  answers_limit (Err m) s before miss = (λ ok. absurd (cc ok), λ passes. absurd (misses_none m passes miss.1))

pub passing_misses_none : PassingMissesNone
passing_misses_none k spans c m passes miss = misses_none k spans c m passes miss.1
