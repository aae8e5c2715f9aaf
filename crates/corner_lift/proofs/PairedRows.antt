-- Rows of two entries that are looked up: what their weights, given as parts of a scale, say of the row.
use Rattle.std.proofs.Common.{suc, ◌≡◌, ℕ, ◌+◌, ◌-◌, ◌*◌, ◌^◌, ◌<◌, ◌≤◌, List, length, get_or, slice_range, ℤ, pos, ◌*ℤ◌, ◌≤ℤ◌, ◌<ℤ◌, unsigned_abs, sym, ap, ap₂, subst, ◌∙◌, arith, mul-le-mul_left}
use Rattle.std.proofs.lemmas.Int.{ints, by_lt_z}
use Rattle.std.proofs.lemmas.Nat.{pow_pos, pow-add}
use Rattle.lift_poly.proofs.Ring.{linear, mul-comm, mul-zero, mul-le}
use Rattle.lift_grid.specs.Rectangle.{Spans}
use Rattle.lift_model.specs.declared.layout.RowPlace.{RowPlace}
use Rattle.lift_model.specs.Model.{row_at}
use Rattle.corner_lift.specs.Case.{CaseData, IsGreatest, IsLeast, row_whole, corner_count}
use Rattle.corner_lift.specs.Corner.{corner_sum}
use Rattle.corner_lift.specs.Dot.{lane_limit}
use Rattle.corner_lift.specs.declared.paired.Pair.{Pair}
use Rattle.corner_lift.specs.Table.{IsWhole}
use Rattle.corner_lift.specs.Pairs.{AreCorners, HasLane, IsPairNumber, IsLeastPair, IsGreatestPair}
use Rattle.corner_lift.specs.Paired.{IsPairOf, pair_block}
use Rattle.corner_lift.specs.ReadRow.{IsReadRow}
use Rattle.corner_lift.proofs.ReadRows as rows

-- what times a scale is above 0 is above 0
pub part_positive : (whole scale : ℤ) → pos 1 ≤ℤ scale → pos 1 ≤ℤ (whole *ℤ scale) → pos 1 ≤ℤ whole
part_positive whole scale one all = by_lt_z (pos 0) whole
    (λ (more : pos 0 <ℤ whole). omega (arith, linear, more))
    (λ (less : whole ≤ℤ pos 0).
    let none = mul-le scale whole (pos 0) (omega (arith, linear, one)) less in
    absurd (omega (arith, linear, none, all, mul-comm whole scale, mul-zero scale)))

-- a whole that leaves w of 63 bits free has room for numbers up to 2 ^ w
module _ (w : ℕ) (whole : ℤ) (le : w ≤ 63) (positive : pos 1 ≤ℤ whole) (short : whole <ℤ pos (2 ^ (63 - w))) where
  power : 2 ^ w * 2 ^ (63 - w) ≡ 2 ^ 63
  power = sym (pow-add 2 w (63 - w)) ∙ ap (λ n. 2 ^ n) (let e : w + (63 - w) ≡ 63 = omega (arith, le) in e)

  size : suc (unsigned_abs whole) ≤ 2 ^ (63 - w)
  size = omega (arith, ints, short, positive)

  some : 1 ≤ 2 ^ w
  some = pow_pos w

  pub lane_number : (n : ℤ) → IsPairNumber w n → HasLane whole n
  lane_number n range =
      let least : unsigned_abs n ≤ 2 ^ w = omega (arith, ints, range.0, range.1) in
      let first : unsigned_abs whole * unsigned_abs n ≤ unsigned_abs whole * 2 ^ w = mul-le-mul_left (unsigned_abs whole) least in
      let more : 2 ^ w * suc (unsigned_abs whole) ≤ 2 ^ w * 2 ^ (63 - w) = mul-le-mul_left (2 ^ w) size in
      (range.0, omega (arith, power, some, more, first))

  pub lane_whole : unsigned_abs whole < lane_limit
  lane_whole =
      let more : 2 ^ w * suc (unsigned_abs whole) ≤ 2 ^ w * 2 ^ (63 - w) = mul-le-mul_left (2 ^ w) size in
      let one : suc (unsigned_abs whole) * 1 ≤ suc (unsigned_abs whole) * 2 ^ w = mul-le-mul_left (suc (unsigned_abs whole)) some in
      omega (arith, power, more, one)

module _ (k : CaseData) (spans : Spans) (weights : List ℤ) (s a : ℕ) (place : RowPlace) (targets : List ℕ) (row : IsReadRow k spans weights s a place targets) (two : length targets ≡ 2)
    (p : Pair) (at : p.at ≡ place.weights) (corners : p.corners ≡ place.corners) (pair : IsPairOf weights p) where
  block_is : pair_block weights p ≡ slice_range weights place.weights (place.weights + place.count * place.corners)
  block_is = ap₂ (λ (i n : ℕ). slice_range weights i (i + 2 * n)) at corners ∙ ap (λ n. slice_range weights place.weights (place.weights + n * place.corners)) (sym (row.count ∙ two))

  whole_is : p.whole *ℤ p.scale ≡ row_whole k s a
  whole_is = pair.whole ∙ rows.pair_whole_is k spans weights s a place targets row two (pair_block weights p) block_is

  pub corners_are : AreCorners (pair_block weights p) (p.whole *ℤ p.scale)
  corners_are = subst (AreCorners (pair_block weights p)) (sym pair.whole) ((rows.pairs k spans weights s a place targets row two (pair_block weights p) block_is).corners)

  pub positive : pos 1 ≤ℤ p.whole
  positive = part_positive p.whole p.scale pair.scale (rw whole_is row.whole.positive)

  pub wholes : (pos 1 ≤ℤ p.whole) × ((pos 1 ≤ℤ p.scale) × IsWhole k s a (p.whole *ℤ p.scale))
  wholes = (positive, (pair.scale, rw whole_is row.whole))

  pub greatest : (x : ℕ → ℤ) (z : ℤ) → IsGreatestPair (pair_block weights p) (x (get_or targets 0 0)) (x (get_or targets 1 0)) z → IsGreatest (λ c. corner_sum k.d spans (row_at k.model s a) c x) (corner_count k s a) z
  greatest = rows.greatest_of_row k spans weights s a place targets row two (pair_block weights p) block_is

  pub least : (x : ℕ → ℤ) (z : ℤ) → IsLeastPair (pair_block weights p) (x (get_or targets 0 0)) (x (get_or targets 1 0)) z → IsLeast (λ c. corner_sum k.d spans (row_at k.model s a) c x) (corner_count k s a) z
  least = rows.least_of_row k spans weights s a place targets row two (pair_block weights p) block_is
