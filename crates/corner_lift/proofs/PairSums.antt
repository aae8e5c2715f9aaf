-- Rows of two entries: sums at their corners, in numbers of 64 and of 128 bits.
use Rattle.std.proofs.Common.{suc, Bool, true, false, cond, mul-le-mul, mul-le-mul_left, mul-le-mul_right, sym, ◌≡◌, ◌⊎◌, inl, inr, ℕ, ◌+◌, ◌-◌, ◌*◌, ◌^◌, ◌<◌, ◌≤◌, List, ℤ, pos, neg_ℤ, ◌+ℤ◌, ◌-ℤ◌, ◌*ℤ◌, ◌≤ℤ◌, ◌<ℤ◌, unsigned_abs, FitsSigned, SFits, w64, to_z, of_z, to_z-of_z, ap, ap₂, ◌∙◌, arith, subst, ⊎_elim}
use Rattle.std.proofs.lemmas.Int.{fits_signed_from_abs, unsigned_abs-mul, ints, by_lt_z}
use Rattle.std.proofs.lemmas.Nat.{pow_pos, pow-add}
use mir.Syntax.{w128}
use Rattle.lift_poly.proofs.Ring.{linear, mul-comm, mul-assoc, mul-add, add-mul, mul-neg, one-mul, zero-mul, mul-zero, mul-le, mul-le_cancel, mul-nonneg}
use Rattle.corner_lift.specs.Case.{number, IsGreatest, IsLeast, engine_limit}
use Rattle.corner_lift.specs.Dot.{lane_limit}
use Rattle.corner_lift.proofs.Rows.{in_or_past}
use Rattle.corner_lift.specs.Pairs.{HasLane, HasPair, pair_sum, AreCorners, ArePairs, IsLeastFirst, IsGreatestFirst, IsLeastPair, IsGreatestPair, IsPairNumber, HasRoom, FitsProducts, FitsPair, FitPairs}

abs-add : (a b : ℤ) → unsigned_abs (a +ℤ b) ≤ unsigned_abs a + unsigned_abs b
abs-add a b = omega (arith, ints)

-- a factor in the code
pub lane_weight : (w : ℤ) → SFits w128 w → SFits w64 w → to_z w64 (of_z w64 (to_z w128 (of_z w128 w))) ≡ w
lane_weight w wide lane = ap (λ z. to_z w64 (of_z w64 z)) (to_z-of_z wide) ∙ to_z-of_z lane

-- two factors in the code
pub lane_product : (w n : ℤ) → SFits w128 w → SFits w64 w → SFits w64 n → to_z w64 (of_z w64 (to_z w128 (of_z w128 w))) *ℤ to_z w64 (of_z w64 n) ≡ w *ℤ n
lane_product w n wide lane number = ap₂ ◌*ℤ◌ (ap (λ z. to_z w64 (of_z w64 z)) (to_z-of_z wide) ∙ to_z-of_z lane) (to_z-of_z number)

module _ (block : List ℤ) (c : ℕ) (first second : ℤ) where
  module _ (fits : FitsPair lane_limit block c first second) where
    pub first_weight : FitsSigned w64 (number block (2 * c))
    first_weight = fits_signed_from_abs w64 (number block (2 * c)) (omega (arith, fits.weights.0))

    pub second_weight : FitsSigned w64 (number block (2 * c + 1))
    second_weight = fits_signed_from_abs w64 (number block (2 * c + 1)) (omega (arith, fits.weights.1))

    pub first_product : FitsSigned w64 (number block (2 * c) *ℤ first)
    first_product = fits_signed_from_abs w64 (number block (2 * c) *ℤ first) (omega (arith, unsigned_abs-mul (number block (2 * c)) first, fits.products))

    pub second_product : FitsSigned w64 (number block (2 * c + 1) *ℤ second)
    second_product = fits_signed_from_abs w64 (number block (2 * c + 1) *ℤ second) (omega (arith, unsigned_abs-mul (number block (2 * c + 1)) second, fits.products))

    pub lane_sum : FitsSigned w64 (pair_sum block c first second)
    lane_sum = fits_signed_from_abs w64 (pair_sum block c first second) (omega (arith, abs-add (number block (2 * c) *ℤ first) (number block (2 * c + 1) *ℤ second), unsigned_abs-mul (number block (2 * c)) first, unsigned_abs-mul (number block (2 * c + 1)) second, fits.products))

    -- the sum in the code
    pub lane_code : SFits w128 (number block (2 * c)) → SFits w128 (number block (2 * c + 1)) → SFits w64 first → SFits w64 second
        → to_z w64 (of_z w64 (to_z w64 (of_z w64 (to_z w128 (of_z w128 (number block (2 * c))))) *ℤ to_z w64 (of_z w64 first))) +ℤ to_z w64 (of_z w64 (to_z w64 (of_z w64 (to_z w128 (of_z w128 (number block (2 * c + 1))))) *ℤ to_z w64 (of_z w64 second))) ≡ pair_sum block c first second
    lane_code w0 w1 one two = ap₂ ◌+ℤ◌
        (ap (λ z. to_z w64 (of_z w64 z)) (lane_product (number block (2 * c)) first w0 first_weight one) ∙ to_z-of_z first_product)
        (ap (λ z. to_z w64 (of_z w64 z)) (lane_product (number block (2 * c + 1)) second w1 second_weight two) ∙ to_z-of_z second_product)

  module _ (fits : FitsProducts engine_limit block c first second) where
    pub wide_sum : FitsSigned w128 (pair_sum block c first second)
    wide_sum = fits_signed_from_abs w128 (pair_sum block c first second) (omega (arith, abs-add (number block (2 * c) *ℤ first) (number block (2 * c + 1) *ℤ second), unsigned_abs-mul (number block (2 * c)) first, unsigned_abs-mul (number block (2 * c + 1)) second, fits))

    pub first_room : unsigned_abs (number block (2 * c)) * unsigned_abs first < engine_limit
    first_room = omega (arith, fits)

    pub second_room : unsigned_abs (number block (2 * c + 1)) * unsigned_abs second < engine_limit
    second_room = omega (arith, fits)

-- what holds of the corners before one, and of it, holds of those before the next one
pub one_more : (P : ℕ → Type 0) (n : ℕ) → ((c : ℕ) → c < n → P c) → P n → (c : ℕ) → c < n + 1 → P c
one_more P n before here c lt = ⊎_elim (λ (less : c < n). before c less) (λ (same : n ≤ c). let e : n ≡ c = omega (arith, lt, same) in subst P e here) (in_or_past c n)

-- ---- the block of a row

module _ (w : ℕ) (block : List ℤ) (whole : ℤ) (pairs : ArePairs w block whole) where
  whole_is : number block 0 +ℤ number block 1 ≡ whole
  whole_is = pairs.corners.sums 0 pairs.corners.some

  pub whole_times : unsigned_abs whole ≤ 2 ^ w * unsigned_abs whole
  whole_times = let more : 1 * unsigned_abs whole ≤ 2 ^ w * unsigned_abs whole = mul-le-mul_right (unsigned_abs whole) (pow_pos w) in omega (arith, more)

  pub whole_fits : FitsSigned w128 whole
  whole_fits = fits_signed_from_abs w128 whole (omega (arith, whole_times, pairs.room))

  pub whole_code : SFits w128 (number block 0) → SFits w128 (number block 1) → to_z w128 (of_z w128 (number block 0)) +ℤ to_z w128 (of_z w128 (number block 1)) ≡ whole
  whole_code one two = ap₂ ◌+ℤ◌ (to_z-of_z one) (to_z-of_z two) ∙ whole_is

  pub sum_code : SFits w128 (number block 0) → SFits w128 (number block 1) → to_z w128 (of_z w128 (to_z w128 (of_z w128 (number block 0)) +ℤ to_z w128 (of_z w128 (number block 1)))) ≡ whole
  sum_code one two = ap (λ z. to_z w128 (of_z w128 z)) (whole_code one two) ∙ to_z-of_z whole_fits

  -- where the whole times 2 ^ w is below a limit, so is what is formed of weights and numbers up to 2 ^ w
  pub fit_pairs : (limit : ℕ) (first second : ℤ) → unsigned_abs first ≤ 2 ^ w → unsigned_abs second ≤ 2 ^ w → 2 ^ w * unsigned_abs whole < limit → FitPairs limit block first second
  fit_pairs limit first second one two room c has =
      let w0 = number block (2 * c) in
      let w1 = number block (2 * c + 1) in
      let least = pairs.corners.least c has in
      let sizes : unsigned_abs w0 + unsigned_abs w1 ≡ unsigned_abs whole = omega (arith, ints, least.0, least.1, pairs.corners.sums c has) in
      let p0 : unsigned_abs w0 * unsigned_abs first ≤ unsigned_abs w0 * 2 ^ w = mul-le-mul_left (unsigned_abs w0) one in
      let p1 : unsigned_abs w1 * unsigned_abs second ≤ unsigned_abs w1 * 2 ^ w = mul-le-mul_left (unsigned_abs w1) two in
      let all : (unsigned_abs w0 + unsigned_abs w1) * 2 ^ w ≡ unsigned_abs whole * 2 ^ w = ap (λ n. n * 2 ^ w) sizes in
      record {
        weights = (omega (arith, sizes, whole_times, room), omega (arith, sizes, whole_times, room));
        products = omega (arith, p0, p1, all, room);
      }

  -- a whole that leaves w of 63 bits free
  pub lane_fits : w ≤ 63 → whole <ℤ pos (2 ^ (63 - w)) → 2 ^ w * unsigned_abs whole < lane_limit
  lane_fits le small =
      let power : 2 ^ w * 2 ^ (63 - w) ≡ 2 ^ 63 = sym (pow-add 2 w (63 - w)) ∙ ap (λ n. 2 ^ n) (let e : w + (63 - w) ≡ 63 = omega (arith, le) in e) in
      let size : suc (unsigned_abs whole) ≤ 2 ^ (63 - w) = omega (arith, ints, small, pairs.positive) in
      let some : 1 ≤ 2 ^ w = pow_pos w in
      let more : 2 ^ w * suc (unsigned_abs whole) ≤ 2 ^ w * 2 ^ (63 - w) = mul-le-mul_left (2 ^ w) size in
      omega (arith, power, some, more)

  pub whole_in_lane : w ≤ 63 → whole <ℤ pos (2 ^ (63 - w)) → FitsSigned w64 whole
  whole_in_lane le small = fits_signed_from_abs w64 whole (omega (arith, whole_times, lane_fits le small))

  -- the whole times a number
  pub most_size : (n : ℤ) → unsigned_abs n ≤ 2 ^ w → unsigned_abs whole * unsigned_abs n ≤ 2 ^ w * unsigned_abs whole
  most_size n le = let more : unsigned_abs whole * unsigned_abs n ≤ unsigned_abs whole * 2 ^ w = mul-le-mul_left (unsigned_abs whole) le in omega (arith, more)

  pub most_in_lane : w ≤ 63 → whole <ℤ pos (2 ^ (63 - w)) → (n : ℤ) → unsigned_abs n ≤ 2 ^ w → FitsSigned w64 (whole *ℤ n)
  most_in_lane le small n size = fits_signed_from_abs w64 (whole *ℤ n) (omega (arith, unsigned_abs-mul whole n, most_size n size, lane_fits le small))

  -- a number that stands for a part of 1
  pub has_room : (n : ℤ) → IsPairNumber w n → HasRoom whole n
  has_room n range = (range.0, omega (arith, most_size n (omega (arith, ints, range.0, range.1)), pairs.room))

-- ---- what a pair sums to by the weight of its first entry

mul-sub : (a b c : ℤ) → a *ℤ (b -ℤ c) ≡ a *ℤ b -ℤ a *ℤ c
mul-sub a b c =
    let minus : b -ℤ c ≡ b +ℤ neg_ℤ c = omega (arith, linear) in
    omega (arith, linear, ap (λ z. a *ℤ z) minus, mul-add a b (neg_ℤ c), mul-neg a c)

mul-one : (a : ℤ) → a *ℤ pos 1 ≡ a
mul-one a = mul-comm a (pos 1) ∙ one-mul a

-- the greater weight has the greater part, where the first number is the greater one
rises : (a b first second : ℤ) → second ≤ℤ first → a ≤ℤ b → (a *ℤ (first -ℤ second)) ≤ℤ (b *ℤ (first -ℤ second))
rises a b first second more le = omega (arith, linear, mul-le (first -ℤ second) a b (omega (arith, linear, more)) le, mul-comm a (first -ℤ second), mul-comm b (first -ℤ second))

-- and else the lesser one
falls : (a b first second : ℤ) → first ≤ℤ second → a ≤ℤ b → (b *ℤ (first -ℤ second)) ≤ℤ (a *ℤ (first -ℤ second))
falls a b first second more le = omega (arith, linear, rises a b second first more le, mul-sub a first second, mul-sub b first second, mul-sub a second first, mul-sub b second first)

module _ (block : List ℤ) (whole : ℤ) (corners : AreCorners block whole) where
  pub rise_is : (c : ℕ) → HasPair block c → (first second : ℤ) → pair_sum block c first second ≡ (whole *ℤ second) +ℤ (number block (2 * c) *ℤ (first -ℤ second))
  rise_is c has first second =
      let w0 = number block (2 * c) in
      let w1 = number block (2 * c + 1) in
      omega (arith, linear, ap (λ z. z *ℤ second) (corners.sums c has), add-mul w0 w1 second, mul-sub w0 first second)

  -- a weight of the first entry is a part of the whole
  pub first_range : (z : ℤ) → (c : ℕ) × (HasPair block c × (z ≡ number block (2 * c))) → (pos 0 ≤ℤ z) × (z ≤ℤ whole)
  first_range z at = let least = corners.least at.0 at.1.0 in (omega (arith, linear, least.0, at.1.1), omega (arith, linear, least.1, at.1.1, corners.sums at.0 at.1.0))

  -- the other weight, in the code
  pub rest_fits : (z : ℤ) → (c : ℕ) × (HasPair block c × (z ≡ number block (2 * c))) → unsigned_abs whole < engine_limit → FitsSigned w128 (whole -ℤ z)
  rest_fits z at room = let range = first_range z at in fits_signed_from_abs w128 (whole -ℤ z) (omega (arith, ints, range.0, range.1, room))

  module _ (first second : ℤ) where
    abbrev sum_with : ℤ → ℤ
    sum_with z = (whole *ℤ second) +ℤ (z *ℤ (first -ℤ second))

    attained : (z : ℤ) → (c : ℕ) × (HasPair block c × (z ≡ number block (2 * c))) → (c : ℕ) × (HasPair block c × ((whole *ℤ second) +ℤ (z *ℤ (first -ℤ second)) ≡ pair_sum block c first second))
    attained z at = (at.0, (at.1.0, ap sum_with at.1.1 ∙ sym (rise_is at.0 at.1.0 first second)))

    pub least_by_least : second ≤ℤ first → (z : ℤ) → IsLeastFirst block z → IsLeastPair block first second ((whole *ℤ second) +ℤ (z *ℤ (first -ℤ second)))
    least_by_least more z is = record {
      least = λ c has. omega (arith, linear, rise_is c has first second, rises z (number block (2 * c)) first second more (is.least c has));
      attained = attained z is.attained;
    }

    pub least_by_greatest : first ≤ℤ second → (z : ℤ) → IsGreatestFirst block z → IsLeastPair block first second ((whole *ℤ second) +ℤ (z *ℤ (first -ℤ second)))
    least_by_greatest more z is = record {
      least = λ c has. omega (arith, linear, rise_is c has first second, falls (number block (2 * c)) z first second more (is.most c has));
      attained = attained z is.attained;
    }

    pub greatest_by_greatest : second ≤ℤ first → (z : ℤ) → IsGreatestFirst block z → IsGreatestPair block first second ((whole *ℤ second) +ℤ (z *ℤ (first -ℤ second)))
    greatest_by_greatest more z is = record {
      most = λ c has. omega (arith, linear, rise_is c has first second, rises (number block (2 * c)) z first second more (is.most c has));
      attained = attained z is.attained;
    }

    pub greatest_by_least : first ≤ℤ second → (z : ℤ) → IsLeastFirst block z → IsGreatestPair block first second ((whole *ℤ second) +ℤ (z *ℤ (first -ℤ second)))
    greatest_by_least more z is = record {
      most = λ c has. omega (arith, linear, rise_is c has first second, falls z (number block (2 * c)) first second more (is.least c has));
      attained = attained z is.attained;
    }

  -- ---- entries that count

  pub both_count : IsLeastPair block (pos 1) (pos 1) whole
  both_count =
      let same : (c : ℕ) → HasPair block c → whole ≡ pair_sum block c (pos 1) (pos 1) = λ c has. omega (arith, linear, corners.sums c has, mul-one (number block (2 * c)), mul-one (number block (2 * c + 1))) in
      record {
        least = λ c has. omega (arith, linear, same c has);
        attained = (0, (corners.some, same 0 corners.some));
      }

  pub none_counts : IsLeastPair block (pos 0) (pos 0) (pos 0)
  none_counts =
      let same : (c : ℕ) → pos 0 ≡ pair_sum block c (pos 0) (pos 0) = λ c. omega (arith, linear, mul-zero (number block (2 * c)), mul-zero (number block (2 * c + 1))) in
      record {
        least = λ c has. omega (arith, linear, same c);
        attained = (0, (corners.some, same 0));
      }

  pub first_counts : (z : ℤ) → IsLeastFirst block z → IsLeastPair block (pos 1) (pos 0) z
  first_counts z is =
      let same : (c : ℕ) → number block (2 * c) ≡ pair_sum block c (pos 1) (pos 0) = λ c. omega (arith, linear, mul-one (number block (2 * c)), mul-zero (number block (2 * c + 1))) in
      record {
        least = λ c has. omega (arith, linear, same c, is.least c has);
        attained = (is.attained.0, (is.attained.1.0, is.attained.1.1 ∙ same is.attained.0));
      }

  pub second_counts : (z : ℤ) → IsGreatestFirst block z → IsLeastPair block (pos 0) (pos 1) (whole -ℤ z)
  second_counts z is =
      let same : (c : ℕ) → HasPair block c → whole -ℤ number block (2 * c) ≡ pair_sum block c (pos 0) (pos 1) = λ c has. omega (arith, linear, corners.sums c has, mul-zero (number block (2 * c)), mul-one (number block (2 * c + 1))) in
      record {
        least = λ c has. omega (arith, linear, same c has, is.most c has);
        attained = (is.attained.0, (is.attained.1.0, ap (λ n. whole -ℤ n) is.attained.1.1 ∙ same is.attained.0 is.attained.1.0));
      }

-- ---- room for a sum by the weight of the first entry

between : (first second : ℤ) → pos 0 ≤ℤ first → pos 0 ≤ℤ second → (unsigned_abs (first -ℤ second) ≤ unsigned_abs first) ⊎ (unsigned_abs (first -ℤ second) ≤ unsigned_abs second)
between first second one two = by_lt_z first second (λ less. inr (omega (arith, ints, one, two, less))) (λ more. inl (omega (arith, ints, one, two, more)))

module _ (whole weight first second : ℤ) (range : (pos 0 ≤ℤ weight) × (weight ≤ℤ whole)) (one : HasRoom whole first) (two : HasRoom whole second) where
  pub rise_room : unsigned_abs weight * unsigned_abs (first -ℤ second) < engine_limit
  rise_room =
      let size : unsigned_abs weight ≤ unsigned_abs whole = omega (arith, ints, range.0, range.1) in ⊎_elim
      (λ (le : unsigned_abs (first -ℤ second) ≤ unsigned_abs first). let more = mul-le-mul size le in omega (arith, more, one.1))
      (λ (le : unsigned_abs (first -ℤ second) ≤ unsigned_abs second). let more = mul-le-mul size le in omega (arith, more, two.1))
      (between first second one.0 two.0)

  pub risen_fits : FitsSigned w128 ((whole *ℤ second) +ℤ (weight *ℤ (first -ℤ second)))
  risen_fits = fits_signed_from_abs w128 ((whole *ℤ second) +ℤ (weight *ℤ (first -ℤ second))) (omega (arith, abs-add (whole *ℤ second) (weight *ℤ (first -ℤ second)), unsigned_abs-mul whole second, unsigned_abs-mul weight (first -ℤ second), rise_room, two.1))

-- ---- the same in 64 bits

module _ (whole weight first second : ℤ) (range : (pos 0 ≤ℤ weight) × (weight ≤ℤ whole)) (one : HasLane whole first) (two : HasLane whole second) where
  pub second_in_lane : FitsSigned w64 (whole *ℤ second)
  second_in_lane = fits_signed_from_abs w64 (whole *ℤ second) (omega (arith, unsigned_abs-mul whole second, two.1))

  pub rise_in_lane : FitsSigned w64 (weight *ℤ (first -ℤ second))
  rise_in_lane =
      let size : unsigned_abs weight ≤ unsigned_abs whole = omega (arith, ints, range.0, range.1) in
      let product = unsigned_abs-mul weight (first -ℤ second) in
      fits_signed_from_abs w64 (weight *ℤ (first -ℤ second)) (⊎_elim
      (λ (le : unsigned_abs (first -ℤ second) ≤ unsigned_abs first). let more = mul-le-mul size le in omega (arith, more, one.1, product))
      (λ (le : unsigned_abs (first -ℤ second) ≤ unsigned_abs second). let more = mul-le-mul size le in omega (arith, more, two.1, product))
      (between first second one.0 two.0))

  -- the sum lies between the whole times the one number and times the other
  sum_size : unsigned_abs ((whole *ℤ second) +ℤ (weight *ℤ (first -ℤ second))) < lane_limit
  sum_size =
      let above : pos 0 ≤ℤ whole = omega (arith, linear, range.0, range.1) in
      let none = zero-mul (first -ℤ second) in
      let all = mul-sub whole first second in
      let low = range.0 in
      let high = range.1 in
      let one_size = unsigned_abs-mul whole first in
      let two_size = unsigned_abs-mul whole second in
      let one_least : pos 0 ≤ℤ (whole *ℤ first) = mul-nonneg whole first above one.0 in
      let two_least : pos 0 ≤ℤ (whole *ℤ second) = mul-nonneg whole second above two.0 in
      by_lt_z first second
      (λ less.
      let le : first ≤ℤ second = omega (arith, linear, less) in
      let from = falls (pos 0) weight first second le low in
      let to = falls weight whole first second le high in
      omega (arith, ints, from, to, none, all, one_size, two_size, one.1, two.1, one_least, two_least))
      (λ more.
      let le : second ≤ℤ first = omega (arith, linear, more) in
      let from = rises (pos 0) weight first second le low in
      let to = rises weight whole first second le high in
      omega (arith, ints, from, to, none, all, one_size, two_size, one.1, two.1, one_least, two_least))

  pub risen_in_lane : FitsSigned w64 ((whole *ℤ second) +ℤ (weight *ℤ (first -ℤ second)))
  risen_in_lane = fits_signed_from_abs w64 ((whole *ℤ second) +ℤ (weight *ℤ (first -ℤ second))) (omega (arith, sum_size))

-- ---- weights that are given as parts of a scale

-- what is sorted by multiples is sorted
pub scaled_le : (a b scale : ℤ) → pos 1 ≤ℤ scale → (a *ℤ scale) ≤ℤ (b *ℤ scale) → a ≤ℤ b
scaled_le a b scale one le = mul-le_cancel scale a b (omega (arith, linear, one)) (omega (arith, linear, le, mul-comm scale a, mul-comm scale b))

-- a sum of multiples is a multiple of the sum
pub scaled_sum : (whole weight first second scale : ℤ) → ((whole *ℤ scale) *ℤ second) +ℤ ((weight *ℤ scale) *ℤ (first -ℤ second)) ≡ ((whole *ℤ second) +ℤ (weight *ℤ (first -ℤ second))) *ℤ scale
scaled_sum whole weight first second scale =
    let part : (a n : ℤ) → (a *ℤ scale) *ℤ n ≡ (a *ℤ n) *ℤ scale = λ a n. mul-assoc a scale n ∙ ap (λ z. a *ℤ z) (mul-comm scale n) ∙ sym (mul-assoc a n scale) in
    omega (arith, linear, part whole second, part weight (first -ℤ second), add-mul (whole *ℤ second) (weight *ℤ (first -ℤ second)) scale)

pub scaled_rest : (whole weight scale : ℤ) → (whole *ℤ scale) -ℤ (weight *ℤ scale) ≡ (whole -ℤ weight) *ℤ scale
scaled_rest whole weight scale = omega (arith, linear, mul-sub scale whole weight, mul-comm scale whole, mul-comm scale weight, mul-comm scale (whole -ℤ weight))

-- what is left of the whole
pub rest_in_lane : (whole weight : ℤ) → unsigned_abs whole < lane_limit → (pos 0 ≤ℤ weight) × (weight ≤ℤ whole) → FitsSigned w64 (whole -ℤ weight)
rest_in_lane whole weight room range =
    let size : unsigned_abs (whole -ℤ weight) ≤ unsigned_abs whole = omega (arith, ints, range.0, range.1) in
    fits_signed_from_abs w64 (whole -ℤ weight) (omega (arith, size, room))

-- a weight of the first entry is a part of the whole, and so is what it is a multiple of
module _ (block : List ℤ) (whole scale : ℤ) (one : pos 1 ≤ℤ scale) (corners : AreCorners block (whole *ℤ scale)) where
  pub part_range : (weight : ℤ) → (c : ℕ) × (HasPair block c × (weight *ℤ scale ≡ number block (2 * c))) → (pos 0 ≤ℤ weight) × (weight ≤ℤ whole)
  part_range weight at =
      let range = first_range block (whole *ℤ scale) corners (weight *ℤ scale) at in
      (scaled_le (pos 0) weight scale one (omega (arith, linear, zero-mul scale, range.0)), scaled_le weight whole scale one range.1)

pub small_fits : (z : ℤ) → unsigned_abs z < engine_limit → FitsSigned w128 z
small_fits z small = fits_signed_from_abs w128 z (omega (arith, small))

-- a part of 1 has a size of at most 2 ^ w
pub number_size : (w : ℕ) (n : ℤ) → IsPairNumber w n → unsigned_abs n ≤ 2 ^ w
number_size w n range = omega (arith, ints, range.0, range.1)

-- what counts counts as 1, and the rest as 0
pub counted_range : (b : Bool) → (pos 0 ≤ℤ cond b (pos 1) (pos 0)) × (cond b (pos 1) (pos 0) ≤ℤ pos 1)
counted_range true = (omega (arith, linear), omega (arith, linear))
counted_range false = (omega (arith, linear), omega (arith, linear))

-- the first value is the least of one
pub least_of_one : (f : ℕ → ℤ) (z : ℤ) → z ≡ f 0 → IsLeast f 1 z
least_of_one f z is = record {
  least = λ c lt. let e : c ≡ 0 = omega (arith, lt) in rw (e, is) (omega (arith, linear));
  attained = (0, (omega arith, is));
}

-- and the greatest
pub greatest_of_one : (f : ℕ → ℤ) (z : ℤ) → z ≡ f 0 → IsGreatest f 1 z
greatest_of_one f z is = record {
  most = λ c lt. let e : c ≡ 0 = omega (arith, lt) in rw (e, is) (omega (arith, linear));
  attained = (0, (omega arith, is));
}
