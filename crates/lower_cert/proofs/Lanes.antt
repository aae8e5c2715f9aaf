-- Rows whose sum and whole are given divided by the same number: what follows of the row itself.
use Rattle.std.proofs.Common.{◌≡◌, ℕ, ◌<◌, List, [], ◌∷◌, length, ℤ, pos, ◌+ℤ◌, ◌*ℤ◌, ◌≤ℤ◌, ◌<ℤ◌, sym, subst, arith}
use Rattle.std.proofs.lemmas.Nat.{pow_pos}
use Rattle.lift_poly.proofs.Ring.{linear, mul-comm, mul-assoc, mul-le, mul-lt, mul-le_cancel}
use Rattle.lift_grid.specs.Rectangle.{Spans}
use Rattle.lift_model.specs.Model.{choices, row_at, support}
use Rattle.lift_model.specs.Links.{targets_of}
use Rattle.corner_lift.specs.Corner.{whole, parameter_count}
use Rattle.corner_lift.specs.Case.{CaseData, IsInside, IsLeast, number, row_value, row_whole, corner_count}
use Rattle.corner_lift.specs.Laws.{ParametersAreTheRoots}
use Rattle.corner_lift.specs.Stages.{IsAllowed}
use Rattle.lower_cert.specs.Lowering.{HoldsNoMore}
use Rattle.lower_cert.proofs.Means.{Place, only, positive}
use Rattle.lower_cert.proofs.Sweeping.{holds_no_more}

scaled_less : (sum full q scale : ℤ) → pos 1 ≤ℤ scale → sum <ℤ ((q +ℤ pos 1) *ℤ full) → (sum *ℤ scale) <ℤ ((q +ℤ pos 1) *ℤ (full *ℤ scale))
scaled_less sum full q scale some less =
    let lt = mul-lt scale sum ((q +ℤ pos 1) *ℤ full) (omega (arith, linear, some)) less in
    omega (arith, linear, lt, mul-comm scale sum, mul-comm scale ((q +ℤ pos 1) *ℤ full), mul-assoc (q +ℤ pos 1) full scale)

scaled_le : (sum full n scale : ℤ) → pos 1 ≤ℤ scale → (n *ℤ full) ≤ℤ sum → (n *ℤ (full *ℤ scale)) ≤ℤ (sum *ℤ scale)
scaled_le sum full n scale some le =
    let up = mul-le scale (n *ℤ full) sum (omega (arith, linear, some)) le in
    omega (arith, linear, up, mul-comm scale sum, mul-comm scale (n *ℤ full), mul-assoc n full scale)

part_le : (sum full n scale : ℤ) → pos 1 ≤ℤ scale → (n *ℤ (full *ℤ scale)) ≤ℤ (sum *ℤ scale) → (n *ℤ full) ≤ℤ sum
part_le sum full n scale some le =
    mul-le_cancel scale (n *ℤ full) sum (omega (arith, linear, some))
    (omega (arith, linear, le, mul-comm scale sum, mul-comm scale (n *ℤ full), mul-assoc n full scale))

-- a number whose next one times the whole is above the least sum
pub lane_holds : ParametersAreTheRoots → (k : CaseData) (spans : Spans) (x : List ℤ) (s a : ℕ) (sum full scale r : ℤ) → IsInside k.root spans → IsLeast (row_value k spans s a x) (corner_count k s a) (sum *ℤ scale) → pos 1 ≤ℤ scale → full *ℤ scale ≡ row_whole k s a
    → sum <ℤ ((r +ℤ pos 1) *ℤ full) → HoldsNoMore k spans x s a r
lane_holds parameters k spans x s a sum full scale r within least some same less =
    holds_no_more parameters k spans x s a (sum *ℤ scale) r within least
    (subst (λ z. (sum *ℤ scale) <ℤ ((r +ℤ pos 1) *ℤ z)) same (scaled_less sum full r scale some less))

module _ (k : CaseData) (spans : Spans) (x : List ℤ) (s a : ℕ) (n sum full scale : ℤ) (least : IsLeast (row_value k spans s a x) (corner_count k s a) (sum *ℤ scale)) (some : pos 1 ≤ℤ scale) (same : full *ℤ scale ≡ row_whole k s a) where
  -- a number that the least sum reaches is held at each corner
  pub lane_reaches : (n *ℤ full) ≤ℤ sum → (c : ℕ) → c < corner_count k s a → (n *ℤ row_whole k s a) ≤ℤ row_value k spans s a x c
  lane_reaches le c lt =
      let up = subst (λ z. (n *ℤ z) ≤ℤ (sum *ℤ scale)) same (scaled_le sum full n scale some le) in
      omega (arith, linear, up, least.least c lt)

  -- and the other way round
  pub lane_is_reached : ((c : ℕ) → c < corner_count k s a → (n *ℤ row_whole k s a) ≤ℤ row_value k spans s a x c) → (n *ℤ full) ≤ℤ sum
  lane_is_reached held =
      let at = held least.attained.0 least.attained.1.0 in
      let le : (n *ℤ row_whole k s a) ≤ℤ (sum *ℤ scale) = omega (arith, linear, at, least.attained.1.1) in
      part_le sum full n scale some (subst (λ z. (n *ℤ z) ≤ℤ (sum *ℤ scale)) (sym same) le)

module _ (k : CaseData) (spans : Spans) (place : Place k spans) (x : List ℤ) (s a t : ℕ) (choice : a < length (choices k.model s)) (one : targets_of (row_at k.model s a) ≡ t ∷ []) where
  abbrev full : ℤ
  full = whole k.model k.d spans (row_at k.model s a)

  -- a row with one entry is allowed where its target's number is at least the state's
  pub single_allowed : number x s ≤ℤ number x t → IsAllowed k spans (number x) s a
  single_allowed le c lt =
      let up = mul-le full (number x s) (number x t) (let p = positive k spans place s a choice in omega (arith, linear, p)) le in
      omega (arith, linear, up, mul-comm full (number x s), only k spans place s a choice c lt t one (number x))

  -- and nowhere else
  pub allowed_single : IsAllowed k spans (number x) s a → number x s ≤ℤ number x t
  allowed_single h =
      let some = pow_pos (parameter_count spans (support (row_at k.model s a))) in
      let at = h 0 some in
      mul-le_cancel full (number x s) (number x t) (positive k spans place s a choice)
      (omega (arith, linear, at, mul-comm full (number x s), only k spans place s a choice 0 some t one (number x)))
