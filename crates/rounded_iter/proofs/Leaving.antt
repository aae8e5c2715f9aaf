-- One corner of a choice, in numbers: nothing leaves 128 bits.
use Rattle.std.proofs.Common.{◌≡◌, ◌*◌, ◌^◌, ◌<◌, ◌≤◌, ℤ, pos, negsuc, ◌-ℤ◌, ◌*ℤ◌, ◌≤ℤ◌, ◌<ℤ◌, unsigned_abs, ap, arith, mul-le-mul_right}
use Rattle.std.proofs.lemmas.Int.{by_lt_z}
use Rattle.lift_poly.proofs.Ring.{linear, mul-comm, mul-le, mul-nonneg, mul-zero}
use Rattle.corner_lift.specs.Case.{engine_limit, most_precision}
use Rattle.rounded_iter.specs.Reward.{CanLeave, CanPay, rest_of}

-- a product of numbers from 0 on is as small as one with a greater factor
pub product_small : (a t b : ℤ) → pos 0 ≤ℤ a → a ≤ℤ t → pos 0 ≤ℤ b → (t *ℤ b) <ℤ pos engine_limit → unsigned_abs a * unsigned_abs b < engine_limit
product_small (pos a) (pos t) (pos b) least most b_least small =
    let le : a ≤ t = omega (arith, linear, most) in
    let product : t * b < engine_limit = omega (arith, linear, small) in
    omega (arith, mul-le-mul_right b le, product)
product_small (negsuc a) t b least most b_least small = absurd (omega (arith, linear))
product_small (pos a) (negsuc t) b least most b_least small = absurd (omega (arith, linear))
product_small (pos a) (pos t) (negsuc b) least most b_least small = absurd (omega (arith, linear))

module _ (number reward top sum whole own : ℤ) (can : CanLeave number reward top sum whole own) where
  pub whole_least : pos 0 ≤ℤ whole
  whole_least = omega (arith, linear, can.whole_in)

  pub top_least : pos 0 ≤ℤ top
  top_least = omega (arith, linear, can.number_in.0, can.number_in.1)

  pub price_least : pos 0 ≤ℤ (reward *ℤ whole)
  price_least = mul-nonneg reward whole can.reward_in.0 whole_least

  pub price_most : (reward *ℤ whole) ≤ℤ (top *ℤ whole)
  price_most = omega (arith, linear, mul-le whole reward top whole_least can.reward_in.1, mul-comm whole reward, mul-comm whole top)

  pub kept_least : pos 0 ≤ℤ (number *ℤ own)
  kept_least = mul-nonneg number own can.number_in.0 can.own_in.0

  pub sum_least : pos 0 ≤ℤ sum
  sum_least = omega (arith, linear, kept_least, can.sum_in.0)

  -- top times a part of the whole is below the limit too
  pub part_small : (part : ℤ) → part ≤ℤ whole → (top *ℤ part) <ℤ pos engine_limit
  part_small part le = omega (arith, linear, mul-le top part whole top_least le, can.room)

  left_least : pos 0 ≤ℤ (whole -ℤ own)
  left_least = omega (arith, linear, can.own_in.1)

  left_most : (whole -ℤ own) ≤ℤ whole
  left_most = omega (arith, linear, can.own_in.0)

  -- what is due from elsewhere, over what leaves
  pub can_pay : CanPay number top (rest_of number reward sum whole own) (whole -ℤ own)
  can_pay = record {
    number_in = can.number_in;
    top_in = can.top_in;
    rest_in = omega (arith, linear, can.sum_in.0, price_least);
    left_in = left_least;
    room = part_small (whole -ℤ own) left_most;
  }

module _ (number top rest left : ℤ) (can : CanPay number top rest left) where
  pub number_room : unsigned_abs number * unsigned_abs left < engine_limit
  number_room = product_small number top left can.number_in.0 can.number_in.1 can.left_in can.room

  pub top_room : unsigned_abs top * unsigned_abs left < engine_limit
  top_room = product_small top top left (omega (arith, linear, can.number_in.0, can.number_in.1)) (omega (arith, linear)) can.left_in can.room

  pub left_positive : (number *ℤ left) <ℤ rest → rest ≤ℤ (top *ℤ left) → pos 1 ≤ℤ left
  left_positive short under = by_lt_z (pos 0) left (λ lt. omega (arith, linear, lt)) (λ none.
      let nothing : left ≡ pos 0 = omega (arith, linear, none, can.left_in) in
      absurd (omega (arith, linear, short, under, ap (λ m. top *ℤ m) nothing, ap (λ m. number *ℤ m) nothing, mul-zero top, mul-zero number)))

  pub rest_most : rest ≤ℤ (top *ℤ left) → rest ≤ℤ (pos (2 ^ most_precision) *ℤ left)
  rest_most under = omega (arith, linear, under, mul-le left top (pos (2 ^ most_precision)) can.left_in can.top_in, mul-comm left top, mul-comm left (pos (2 ^ most_precision)))
