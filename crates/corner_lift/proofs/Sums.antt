-- Sums over weights as a table has them.
use Rattle.std.proofs.Common.{◌≡◌, ℕ, zero, suc, ◌+◌, ◌-◌, ◌*◌, ◌^◌, ◌<◌, ◌≤◌, List, [], ◌∷◌, length, map, take, get_or, ℤ, pos, ◌+ℤ◌, ◌*ℤ◌, ◌≤ℤ◌, ◌<ℤ◌, unsigned_abs, FitsSigned, refl, sym, ap, ap₂, ◌∙◌, arith, All, add-one, mul-le-mul_right}
use Rattle.std.proofs.lemmas.List.Elements.{All-head, All-tail}
use Rattle.std.proofs.lemmas.Int.{fits_signed_from_abs, unsigned_abs-mul, ints}
use Rattle.std.proofs.lemmas.Nat.{pow_pos, pow-add}
use borrow.Author.Differences.{product_is}
use mir.Syntax.{w128, w64}
use Rattle.lift_poly.specs.Polynomial.{Valuation, weight}
use Rattle.lift_poly.proofs.Ring.{linear, mul-nonneg, mul-comm, one-mul, mul-lt}
use Rattle.lift_model.specs.declared.entry.Entry.{Entry}
use Rattle.lift_model.specs.Process.{weighted_sum}
use Rattle.lift_model.specs.Model.{moves_at}
use Rattle.lift_model.specs.Links.{targets_of}
use Rattle.corner_lift.specs.Case.{IsGreatest, IsLeast, engine_limit}
use Rattle.corner_lift.specs.Dot.{dot, total, CanSum, FitsLane, lane_limit}

abbrev pub Least : ℤ → Type 0
Least w = pos 0 ≤ℤ w

module _ (z : ℕ → ℤ) where
  dot_suc : (ws : List ℤ) (ts : List ℕ) (j : ℕ) (d : ℤ) (e : ℕ) → j < length ws → j < length ts → dot z (take (suc j) ws) (take (suc j) ts) ≡ dot z (take j ws) (take j ts) +ℤ get_or ws j d *ℤ z (get_or ts j e)
  dot_suc [] ts j d e lt inside = absurd (omega (arith, lt))
  dot_suc (w ∷ ws) [] j d e lt inside = absurd (omega (arith, inside))
  dot_suc (w ∷ ws) (t ∷ ts) zero d e lt inside = omega (arith, linear)
  dot_suc (w ∷ ws) (t ∷ ts) (suc j) d e lt inside = omega (arith, linear, dot_suc ws ts j d e (omega (arith, lt)) (omega (arith, inside)))

  pub dot_more : (ws : List ℤ) (ts : List ℕ) (j : ℕ) (d : ℤ) (e : ℕ) → j < length ws → j < length ts → dot z (take (j + 1) ws) (take (j + 1) ts) ≡ dot z (take j ws) (take j ts) +ℤ get_or ws j d *ℤ z (get_or ts j e)
  dot_more ws ts j d e lt inside = ap (λ n. dot z (take n ws) (take n ts)) (add-one j) ∙ dot_suc ws ts j d e lt inside

  pub dot_least : (ws : List ℤ) (ts : List ℕ) → All Least ws → ((t : ℕ) → pos 0 ≤ℤ z t) → pos 0 ≤ℤ dot z ws ts
  dot_least [] ts h g = omega (arith, linear)
  dot_least (w ∷ ws) [] h g = omega (arith, linear)
  dot_least (w ∷ ws) (t ∷ ts) h g = omega (arith, linear, mul-nonneg w (z t) (All-head Least w ws h) (g t), dot_least ws ts (All-tail Least w ws h) g)

  -- a part is no greater than all
  dot_part : (ws : List ℤ) (ts : List ℕ) (j : ℕ) → All Least ws → ((t : ℕ) → pos 0 ≤ℤ z t) → dot z (take j ws) (take j ts) ≤ℤ dot z ws ts
  dot_part ws ts zero h g = omega (arith, linear, dot_least ws ts h g)
  dot_part [] ts (suc j) h g = omega (arith, linear)
  dot_part (w ∷ ws) [] (suc j) h g = omega (arith, linear)
  dot_part (w ∷ ws) (t ∷ ts) (suc j) h g = omega (arith, linear, dot_part ws ts j (All-tail Least w ws h) g)

  dot_taken_least : (ws : List ℤ) (ts : List ℕ) (j : ℕ) → All Least ws → ((t : ℕ) → pos 0 ≤ℤ z t) → pos 0 ≤ℤ dot z (take j ws) (take j ts)
  dot_taken_least ws ts zero h g = omega (arith, linear)
  dot_taken_least [] ts (suc j) h g = omega (arith, linear)
  dot_taken_least (w ∷ ws) [] (suc j) h g = omega (arith, linear)
  dot_taken_least (w ∷ ws) (t ∷ ts) (suc j) h g = omega (arith, linear, mul-nonneg w (z t) (All-head Least w ws h) (g t), dot_taken_least ws ts j (All-tail Least w ws h) g)

  -- over a row
  pub dot_row : (v : Valuation) (row : List Entry) → dot z (map (λ (entry : Entry). weight v entry.poly) row) (targets_of row) ≡ weighted_sum z (moves_at v row)
  dot_row v [] = refl
  dot_row v (e ∷ row) = ap (λ r. weight v e.poly *ℤ z e.target +ℤ r) (dot_row v row)

  module _ (ws : List ℤ) (ts : List ℕ) (can : CanSum z ws ts) where
    -- a sum so far fits
    pub sum_fits : (j : ℕ) → FitsSigned w128 (dot z (take j ws) (take j ts))
    sum_fits j = fits_signed_from_abs w128 (dot z (take j ws) (take j ts)) (omega (arith, ints, dot_part ws ts j can.weights_least can.numbers_least, dot_taken_least ws ts j can.weights_least can.numbers_least, can.room))

    -- so does a product
    pub product_room : (j : ℕ) (d : ℤ) (e : ℕ) → j < length ts → unsigned_abs (get_or ws j d) * unsigned_abs (z (get_or ts j e)) < engine_limit
    product_room j d e inside =
        let lt : j < length ws = omega (arith, inside, can.sizes) in
        let more = dot_more ws ts j d e lt inside in
        let w : pos 0 ≤ℤ get_or ws j d = can.weights_least j d lt in
        let before = dot_taken_least ws ts j can.weights_least can.numbers_least in
        let after = dot_part ws ts (j + 1) can.weights_least can.numbers_least in
        let least = mul-nonneg (get_or ws j d) (z (get_or ts j e)) w (can.numbers_least (get_or ts j e)) in
        rw (← unsigned_abs-mul (get_or ws j d) (z (get_or ts j e))) (omega (arith, ints, more, before, after, least, can.room))

-- ---- totals

total_suc : (ws : List ℤ) (j : ℕ) (d : ℤ) → j < length ws → total (take (suc j) ws) ≡ total (take j ws) +ℤ get_or ws j d
total_suc [] j d lt = absurd (omega (arith, lt))
total_suc (w ∷ ws) zero d lt = omega (arith, linear)
total_suc (w ∷ ws) (suc j) d lt = omega (arith, linear, total_suc ws j d (omega (arith, lt)))

pub total_more : (ws : List ℤ) (j : ℕ) (d : ℤ) → j < length ws → total (take (j + 1) ws) ≡ total (take j ws) +ℤ get_or ws j d
total_more ws j d lt = ap (λ n. total (take n ws)) (add-one j) ∙ total_suc ws j d lt

total_least : (ws : List ℤ) → All Least ws → pos 0 ≤ℤ total ws
total_least [] h = omega (arith, linear)
total_least (w ∷ ws) h = omega (arith, linear, All-head Least w ws h, total_least ws (All-tail Least w ws h))

total_part : (ws : List ℤ) (j : ℕ) → All Least ws → (pos 0 ≤ℤ total (take j ws)) × (total (take j ws) ≤ℤ total ws)
total_part ws zero h = (omega (arith, linear), total_least ws h)
total_part [] (suc j) h = (omega (arith, linear), omega (arith, linear))
total_part (w ∷ ws) (suc j) h = let rest = total_part ws j (All-tail Least w ws h) in (omega (arith, linear, All-head Least w ws h, rest.0), omega (arith, linear, rest.1))

pub total_fits : (ws : List ℤ) (j : ℕ) → All Least ws → total ws <ℤ pos engine_limit → FitsSigned w128 (total (take j ws))
total_fits ws j h room = let part = total_part ws j h in fits_signed_from_abs w128 (total (take j ws)) (omega (arith, ints, part.0, part.1, room))

pub total_row : (v : Valuation) (row : List Entry) → total (map (λ (entry : Entry). weight v entry.poly) row) ≡ weighted_sum (λ t. pos 1) (moves_at v row)
total_row v [] = refl
total_row v (e ∷ row) = ap₂ (λ a b. a +ℤ b) (sym (mul-comm (weight v e.poly) (pos 1) ∙ one-mul (weight v e.poly))) (total_row v row)

-- ---- numbers of 64 bits

module _ (z : ℕ → ℤ) (ws : List ℤ) (ts : List ℕ) (can : CanSum z ws ts) (lane : FitsLane z ws ts) where
  -- a weight fits
  pub lane_weight : (j : ℕ) (d : ℤ) → j < length ws → FitsSigned w64 (get_or ws j d)
  lane_weight j d lt =
      let w : pos 0 ≤ℤ get_or ws j d = can.weights_least j d lt in
      fits_signed_from_abs w64 (get_or ws j d) (omega (arith, ints, w, total_more ws j d lt, (total_part ws j can.weights_least).0, (total_part ws (j + 1) can.weights_least).1, lane.weights_fit))

  -- so does a sum so far
  pub lane_sum : (j : ℕ) → FitsSigned w64 (dot z (take j ws) (take j ts))
  lane_sum j = fits_signed_from_abs w64 (dot z (take j ws) (take j ts)) (omega (arith, ints, dot_part z ws ts j can.weights_least can.numbers_least, dot_taken_least z ws ts j can.weights_least can.numbers_least, lane.sum_fits))

  -- and a product
  pub lane_product : (j : ℕ) (d : ℤ) (e : ℕ) → j < length ts → FitsSigned w64 (get_or ws j d *ℤ z (get_or ts j e))
  lane_product j d e inside =
      let lt : j < length ws = omega (arith, inside, can.sizes) in
      let more = dot_more z ws ts j d e lt inside in
      let w : pos 0 ≤ℤ get_or ws j d = can.weights_least j d lt in
      let least = mul-nonneg (get_or ws j d) (z (get_or ts j e)) w (can.numbers_least (get_or ts j e)) in
      let before = dot_taken_least z ws ts j can.weights_least can.numbers_least in
      let after = dot_part z ws ts (j + 1) can.weights_least can.numbers_least in
      fits_signed_from_abs w64 (get_or ws j d *ℤ z (get_or ts j e)) (omega (arith, ints, more, before, after, least, lane.sum_fits))

-- a total that leaves w of 63 bits free leaves room for its product with 2 ^ w
pub lane_room : (w : ℕ) (all sum : ℤ) → w ≤ 63 → all <ℤ pos (2 ^ (63 - w)) → sum ≤ℤ (pos (2 ^ w) *ℤ all) → (all <ℤ pos lane_limit) × (sum <ℤ pos lane_limit)
lane_room w all sum le small most =
    let power : 2 ^ w * 2 ^ (63 - w) ≡ 2 ^ 63 = sym (pow-add 2 w (63 - w)) ∙ ap (λ n. 2 ^ n) (let e : w + (63 - w) ≡ 63 = omega (arith, le) in e) in
    let some : 1 ≤ 2 ^ w = pow_pos w in
    let first : 1 * 2 ^ (63 - w) ≤ 2 ^ w * 2 ^ (63 - w) = mul-le-mul_right (2 ^ (63 - w)) some in
    let more : (pos (2 ^ w) *ℤ all) <ℤ (pos (2 ^ w) *ℤ pos (2 ^ (63 - w))) = mul-lt (pos (2 ^ w)) all (pos (2 ^ (63 - w))) (omega (arith, linear, some)) small in
    let product : pos (2 ^ w) *ℤ pos (2 ^ (63 - w)) ≡ pos (2 ^ w * 2 ^ (63 - w)) = omega (arith, linear, product_is) in
    (omega (arith, linear, small, first, power), omega (arith, linear, most, more, product, power))

-- ---- the same values

pub greatest_same : (f g : ℕ → ℤ) (n m : ℕ) (z : ℤ) → n ≡ m → ((c : ℕ) → c < m → f c ≡ g c) → IsGreatest f n z → IsGreatest g m z
greatest_same f g n m z e same h = record {
  most = λ c lt. omega (arith, linear, same c lt, h.most c (omega (arith, e, lt)));
  attained = let inside : h.attained.0 < m = omega (arith, e, h.attained.1.0) in (h.attained.0, (inside, h.attained.1.1 ∙ same h.attained.0 inside));
}

pub least_same : (f g : ℕ → ℤ) (n m : ℕ) (z : ℤ) → n ≡ m → ((c : ℕ) → c < m → f c ≡ g c) → IsLeast f n z → IsLeast g m z
least_same f g n m z e same h = record {
  least = λ c lt. omega (arith, linear, same c lt, h.least c (omega (arith, e, lt)));
  attained = let inside : h.attained.0 < m = omega (arith, e, h.attained.1.0) in (h.attained.0, (inside, h.attained.1.1 ∙ same h.attained.0 inside));
}
