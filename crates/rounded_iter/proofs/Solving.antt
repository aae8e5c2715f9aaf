-- What a number must be to be enough for a choice, and how far that goes when numbers rise.
use Rattle.std.proofs.Common.{◌≡◌, ◌≢◌, ◌==◌, ℕ, zero, suc, ◌+◌, ◌*◌, ◌^◌, ◌<◌, ◌≤◌, Bool, true, false, List, [], ◌∷◌, length, set, get_or, All, ℤ, pos, negsuc, ◌+ℤ◌, ◌-ℤ◌, ◌*ℤ◌, ◌≤ℤ◌, ◌<ℤ◌, refl, sym, ap, ap₂, subst, ◌∙◌, arith, ◌⊎◌, ⊎_elim, length-set, get_or-set_same, get_or-set_other, cond, pow_mono, Contains, Option, None, Some, IfSome, unsigned_abs, int_le, SFits, w64, to_z, of_z, to_z-of_z, mul-le-mul_left, mul-le-mul_right, ◌-◌}
use mir.Syntax.{w128}
use Rattle.std.proofs.lemmas.Bool.{both_ways}
use Rattle.std.proofs.lemmas.Int.{ints, by_lt_z, fits_signed_from_abs}
use Rattle.std.proofs.lemmas.List.Elements.{All-set}
use Rattle.std.proofs.lemmas.Nat.{pow_pos, pow-add}
use Rattle.lift_poly.proofs.Ring.{linear, mul-comm, mul-assoc, mul-add, add-mul, mul-le, mul-le_cancel, mul-zero, zero-mul, one-mul, as_diff, diffs, diff-same, test_from_le}
use Rattle.lift_grid.specs.Rectangle.{Spans}
use Rattle.lift_model.specs.declared.entry.Entry.{Entry}
use Rattle.lift_model.specs.Process.{Move, power, weighted_sum}
use Rattle.lift_model.specs.Model.{ModelData, choices, row_at, support, moves_at}
use Rattle.lift_model.specs.Links.{LinksData, HasChoice, targets_of}
use Rattle.lift_model.specs.declared.only_row.PairRow.{PairRow}
use Rattle.lift_model.specs.OnlyRow.{IsPairRow}
use Rattle.lift_poly.specs.Polynomial.{Valuation, weight}
use Rattle.lift_model.specs.Valid.{IsEntry}
use Rattle.corner_lift.specs.Certificate.{AreNumbers, AtMost}
use Rattle.corner_lift.specs.Corner.{corner, corner_sum, whole, parameter_count}
use Rattle.corner_lift.specs.Case.{CaseData, IsCase, IsInside, number, row_value, row_whole, corner_count, row_parameters, most_precision, engine_limit}
use Rattle.corner_lift.specs.Dot.{only_at}
use Rattle.corner_lift.specs.Quotient.{IsRoundedUp, IsRoundedUpFrom}
use Rattle.corner_lift.specs.Laws.{HasRow, ParametersAreTheRoots, NumbersAreInRange, SumsAreInRange, SumsRise, WeightsSumToWhole}
use Rattle.float_guess.specs.declared.rule.Extreme.{Extreme}
use Rattle.float_guess.specs.declared.rule.Extreme.TheVariants.{Greatest, Least}
use Rattle.float_guess.specs.declared.rule.Ends.{Ends}
use Rattle.float_guess.specs.declared.rule.Ends.TheVariants.{Goals, Unranked, Rewarded}
use Rattle.float_guess.specs.Rule.{added}
use Rattle.rounded_iter.specs.Rising.{Across, IsExtreme, IsMoreExtreme, IsEnoughAt, IsEnoughWith, IsEnoughBy, SolvesBy, SolvesAt, IsSolvedFor, IsSolved}

-- ---- order

-- a product with c above 0 keeps the order, and tells it
pub mul-lt_cancel : (c a b : ℤ) → pos 1 ≤ℤ c → (a *ℤ c) <ℤ (b *ℤ c) → a <ℤ b
mul-lt_cancel c a b positive h = by_lt_z a b (λ lt. lt) (λ le. absurd (omega (arith, linear, h, mul-le c b a (omega (arith, linear)) le, mul-comm a c, mul-comm b c)))

pub less-mul : (a b c : ℤ) → (a -ℤ b) *ℤ c ≡ a *ℤ c -ℤ b *ℤ c
less-mul a b c = rw (as_diff a, as_diff b, as_diff c) (simp diffs (diff-same _ _ _ _ (omega arith)))

pub mul-less : (a b c : ℤ) → a *ℤ (b -ℤ c) ≡ a *ℤ b -ℤ a *ℤ c
mul-less a b c = rw (as_diff a, as_diff b, as_diff c) (simp diffs (diff-same _ _ _ _ (omega arith)))

-- two numbers of one width are equal where their bits are
pub same_number : (a b : ℤ) → SFits w64 a → SFits w64 b → of_z w64 a ≡ of_z w64 b → a ≡ b
same_number a b a_fits b_fits e = sym (to_z-of_z a_fits) ∙ ap (to_z w64) e ∙ to_z-of_z b_fits

-- a test of an order that failed
pub lt_from_test : (a b : ℤ) → int_le a b ≡ false → b <ℤ a
lt_from_test a b e = by_lt_z b a (λ lt. lt) (λ le. absurd (both_ways (int_le a b) e (test_from_le a b le)))

-- the form in which the code holds a product
pub read_product : (n whole product : ℤ) → SFits w64 n → SFits w128 whole → SFits w128 product → product ≡ to_z w64 (of_z w64 n) *ℤ to_z w128 (of_z w128 whole) → to_z w128 (of_z w128 product) ≡ n *ℤ whole
read_product n whole product n_fits whole_fits product_fits e = to_z-of_z product_fits ∙ e ∙ ap₂ ◌*ℤ◌ (to_z-of_z n_fits) (to_z-of_z whole_fits)

-- the form in which the code holds a number of 64 bits that was made one of 128
pub read_wide : (z wide value : ℤ) → SFits w64 z → SFits w128 wide → wide ≡ to_z w64 (of_z w64 z) → z ≡ value → to_z w128 (of_z w128 wide) ≡ value
read_wide z wide value z_fits wide_fits e is = to_z-of_z wide_fits ∙ e ∙ to_z-of_z z_fits ∙ is

-- what is left of a number that fits
pub less_fits : (a b : ℤ) → SFits w128 a → pos 0 ≤ℤ b → pos 0 ≤ℤ (a -ℤ b) → SFits w128 (a -ℤ b)
less_fits (pos a) b fits least left = fits_signed_from_abs w128 (pos a -ℤ b) (omega (arith, ints, linear, fits.sfits, least, left))
less_fits (negsuc a) b fits least left = absurd (omega (arith, linear, least, left))

-- a part of a whole has as much room for products
pub part_room : (m : ℕ) (part whole : ℤ) (limit : ℕ) → pos 0 ≤ℤ part → part ≤ℤ whole → m * unsigned_abs whole < limit → m * unsigned_abs part < limit
part_room m part whole limit least most room =
    let le : unsigned_abs part ≤ unsigned_abs whole = omega (arith, ints, least, most) in
    omega (arith, mul-le-mul_left m le, room)

-- where the whole leaves w of 63 bits free, a part of it has room for products with numbers up to 2^w
pub lane_room : (m w : ℕ) (part whole : ℤ) → w ≤ 63 → m ≤ 2 ^ w → pos 0 ≤ℤ part → part ≤ℤ whole → whole <ℤ pos (2 ^ (63 - w)) → m * unsigned_abs part < engine_limit
lane_room m w part whole le small least most lane =
    let power : 2 ^ w * 2 ^ (63 - w) ≡ 2 ^ 63 = sym (pow-add 2 w (63 - w)) ∙ ap (λ n. 2 ^ n) (let e : w + (63 - w) ≡ 63 = omega (arith, le) in e) in
    let short : unsigned_abs part ≤ 2 ^ (63 - w) = omega (arith, ints, least, most, lane) in
    omega (arith, mul-le-mul_left m short, mul-le-mul_right (2 ^ (63 - w)) small, power)

-- ---- what is above 0

product_positive : (a b : ℤ) → pos 1 ≤ℤ a → pos 1 ≤ℤ b → pos 1 ≤ℤ (a *ℤ b)
product_positive a b f g = omega (arith, linear, f, mul-le a (pos 1) b (omega (arith, linear, f)) g, mul-comm a (pos 1), one-mul a)

power_positive : (b : ℤ) (n : ℕ) → pos 1 ≤ℤ b → pos 1 ≤ℤ power b n
power_positive b zero h = omega (arith, linear)
power_positive b (suc n) h = product_positive b (power b n) h (power_positive b n h)

pub same_or_not : (i j : ℕ) → (i ≡ j) ⊎ (i ≢ j)
same_or_not i j = grind arith

-- ---- sums

-- a sum over numbers of which each was moved by a multiple of another
pub sum_moved : (f g e : ℕ → ℤ) (d : ℤ) (moves : List Move) → ((t : ℕ) → g t ≡ f t +ℤ d *ℤ e t) → weighted_sum g moves ≡ weighted_sum f moves +ℤ d *ℤ weighted_sum e moves
sum_moved f g e d [] h = omega (arith, linear, mul-zero d)
sum_moved f g e d (m ∷ ms) h =
    let here : m.1 *ℤ g m.0 ≡ m.1 *ℤ f m.0 +ℤ m.1 *ℤ (d *ℤ e m.0) = ap (λ n. m.1 *ℤ n) (h m.0) ∙ mul-add m.1 (f m.0) (d *ℤ e m.0) in
    let turned : m.1 *ℤ (d *ℤ e m.0) ≡ d *ℤ (m.1 *ℤ e m.0) = sym (mul-assoc m.1 d (e m.0)) ∙ ap (λ n. n *ℤ e m.0) (mul-comm m.1 d) ∙ mul-assoc d m.1 (e m.0) in
    omega (arith, linear, here, turned, sum_moved f g e d ms h, mul-add d (m.1 *ℤ e m.0) (weighted_sum e ms))

sum_none : (moves : List Move) → weighted_sum (λ t. pos 0) moves ≡ pos 0
sum_none [] = refl
sum_none (m ∷ ms) = omega (arith, linear, mul-zero m.1, sum_none ms)

pub only_same : (s : ℕ) → only_at s s ≡ pos 1
only_same s = let e : (s == s) ≡ true = grind arith in ap (λ b. cond b (pos 1) (pos 0)) e

pub only_other : (s t : ℕ) → t ≢ s → only_at s t ≡ pos 0
only_other s t ne = let e : (t == s) ≡ false = grind arith in ap (λ b. cond b (pos 1) (pos 0)) e

only_least : (s t : ℕ) → pos 0 ≤ℤ only_at s t
only_least s t = by_test (t == s)
  where
    by_test : (b : Bool) → pos 0 ≤ℤ cond b (pos 1) (pos 0)
    by_test true = omega (arith, linear)
    by_test false = omega (arith, linear)

only_most : (s t : ℕ) → only_at s t ≤ℤ pos 1
only_most s t = by_test (t == s)
  where
    by_test : (b : Bool) → cond b (pos 1) (pos 0) ≤ℤ pos 1
    by_test true = omega (arith, linear)
    by_test false = omega (arith, linear)

contains_head : (x : ℕ) (xs : List ℕ) → Contains (x ∷ xs) x
contains_head x xs = (0, omega arith, refl)

contains_tail : (x t : ℕ) (xs : List ℕ) → Contains xs t → Contains (x ∷ xs) t
contains_tail x t xs (i, lt, e) = (suc i, omega (arith, lt), e)

-- a row without an entry into a state weighs nothing into it
pub own_none : (v : Valuation) (s : ℕ) (row : List Entry) → (Contains (targets_of row) s → ⊥) → weighted_sum (only_at s) (moves_at v row) ≡ pos 0
own_none v s [] none = refl
own_none v s (e ∷ row) none =
    let other : only_at s e.target ≡ pos 0 = only_other s e.target (λ same. none (subst (λ t. Contains (targets_of (e ∷ row)) t) same (contains_head e.target (targets_of row)))) in
    let product : weight v e.poly *ℤ only_at s e.target ≡ pos 0 = ap (λ n. weight v e.poly *ℤ n) other ∙ mul-zero (weight v e.poly) in
    omega (arith, linear, product, own_none v s row (λ at. none (contains_tail e.target s (targets_of row) at)))

-- a row with one entry weighs its target's number with all its weight
single : (v : Valuation) (f : ℕ → ℤ) (row : List Entry) (t : ℕ) → targets_of row ≡ t ∷ [] → weighted_sum f (moves_at v row) ≡ weighted_sum (λ i. pos 1) (moves_at v row) *ℤ f t
single v f [] t e = absurd (omega (arith, ap (length {A = ℕ}) e))
single v f (x ∷ []) t e =
    let same : x.target ≡ t = ap (λ l. get_or l 0 0) e in
    let w = weight v x.poly in
    let all : w *ℤ pos 1 +ℤ pos 0 ≡ w = omega (arith, linear, mul-comm w (pos 1), one-mul w) in
    omega (arith, linear, ap (λ i. w *ℤ f i) same, ap (λ n. n *ℤ f t) all)
single v f (x ∷ (y ∷ row)) t e = absurd (omega (arith, ap (length {A = ℕ}) e))

target_inside : (n p : ℕ) (row : List Entry) (t : ℕ) → targets_of row ≡ t ∷ [] → All (IsEntry n p) row → t < n
target_inside n p [] t e h = absurd (omega (arith, ap (length {A = ℕ}) e))
target_inside n p (x ∷ row) t e h =
    let same : x.target ≡ t = ap (λ l. get_or l 0 0) e in
    let here : IsEntry n p x = h 0 x (omega arith) in
    omega (arith, here.target, same)

-- ---- corners that count

pub across_map : (e : Extreme) (n : ℕ) (P Q : ℕ → Type 0) → ((c : ℕ) → c < n → P c → Q c) → Across e n P → Across e n Q
across_map Greatest n P Q f h = λ c lt. f c lt (h c lt)
across_map Least n P Q f h = (h.0, (h.1.0, f h.0 h.1.0 h.1.1))

pub one_more : (b a : ℕ) → b < a + 1 → (b < a) ⊎ (b ≡ a)
one_more b a lt = grind arith

-- a bound of the value that counts bounds the values that count
pub extreme_holds : (e : Extreme) (value : ℕ → ℤ) (n : ℕ) (z b : ℤ) → IsExtreme e value n z → z ≤ℤ b → Across e n (λ c. value c ≤ℤ b)
extreme_holds Greatest value n z b is le = λ c lt. omega (arith, linear, is.most c lt, le)
extreme_holds Least value n z b is le = (is.attained.0, (is.attained.1.0, omega (arith, linear, is.attained.1.1, le)))

-- and the other way round, where the values have risen
pub extreme_from : (e : Extreme) (value more : ℕ → ℤ) (n : ℕ) (z b : ℤ) → IsExtreme e value n z → ((c : ℕ) → value c ≤ℤ more c) → Across e n (λ c. more c ≤ℤ b) → z ≤ℤ b
extreme_from Greatest value more n z b is rise h = omega (arith, linear, is.attained.1.1, rise is.attained.0, h is.attained.0 is.attained.1.0)
extreme_from Least value more n z b is rise h = omega (arith, linear, is.least h.0 h.1.0, rise h.0, h.1.1)

pub some_at : (e : Extreme) (n : ℕ) (P : ℕ → Type 0) → 1 ≤ n → Across e n P → (c : ℕ) × ((c < n) × P c)
some_at Greatest n P some h = (0, (some, h 0 some))
some_at Least n P some h = h

pub extreme_attained : (e : Extreme) (value : ℕ → ℤ) (n : ℕ) (z : ℤ) → IsExtreme e value n z → (c : ℕ) × ((c < n) × (z ≡ value c))
extreme_attained Greatest value n z is = is.attained
extreme_attained Least value n z is = is.attained

-- ---- a row

-- what is enough stays so where neither the sum nor the number changes
pub enough_same : (k : CaseData) (spans : Spans) (s a : ℕ) (ends : Ends) (x y : List ℤ) (m n : ℤ) (c : ℕ) → row_value k spans s a y c ≡ row_value k spans s a x c → n ≡ m → IsEnoughBy ends k spans x s a m c → IsEnoughBy ends k spans y s a n c
enough_same k spans s a Goals x y m n c sum same h = omega (arith, linear, h, sum, ap (λ i. i *ℤ row_whole k s a) same)
enough_same k spans s a (Unranked ranks) x y m n c sum same h = omega (arith, linear, h, sum, ap (λ i. i *ℤ row_whole k s a) same)
enough_same k spans s a (Rewarded t) x y m n c sum same h = with_reward (added k (Rewarded t) s) h
  where
    with_reward : (reward : ℤ) → IsEnoughWith reward k spans x s a m c → IsEnoughWith reward k spans y s a n c
    with_reward reward h = λ below. omega (arith, linear, h (omega (arith, linear, same, below)), sum, ap (λ i. i *ℤ row_whole k s a) same)

-- the laws of rows that a raise rests on
pub record RowLaws : Type 0 where
  pub parameters : ParametersAreTheRoots
  pub numbers : NumbersAreInRange
  pub range : SumsAreInRange
  pub rise : SumsRise
  pub sum : WeightsSumToWhole

pub laws_of : ParametersAreTheRoots → NumbersAreInRange → SumsAreInRange → SumsRise → WeightsSumToWhole → RowLaws
laws_of parameters numbers range rise sum = record { parameters = parameters; numbers = numbers; range = range; rise = rise; sum = sum }

abbrev pub Range : ℕ → ℤ → Type 0
Range w n = (pos 0 ≤ℤ n) × (n ≤ℤ pos (2 ^ w))

module _ (laws : RowLaws) (k : CaseData) (spans : Spans) (is : IsCase k) (within : IsInside k.root spans) (s a : ℕ) (has : HasChoice k.model s a) where
  abbrev row : List Entry
  row = row_at k.model s a

  abbrev top : ℤ
  top = pos (2 ^ k.w)

  abbrev full : ℤ
  full = row_whole k s a

  row_of : HasRow k s a
  row_of = record { state = has.state; choice = has.choice }

  same_width : parameter_count spans (support row) ≡ parameter_count k.root (support row)
  same_width = laws.parameters k spans row within.within

  pub same_whole : whole k.model k.d spans row ≡ row_whole k s a
  same_whole = ap (λ n. k.model.common *ℤ power k.d n) same_width

  pub at_root : (c : ℕ) → c < 2 ^ parameter_count spans (support row) → c < corner_count k s a
  at_root c lt = subst (λ n. c < 2 ^ n) same_width lt

  pub at_spans : (c : ℕ) → c < corner_count k s a → c < 2 ^ parameter_count spans (support row)
  at_spans c lt = subst (λ n. c < 2 ^ n) (sym same_width) lt

  pub whole_positive : pos 1 ≤ℤ full
  whole_positive = product_positive k.model.common (power k.d (row_parameters k row)) is.asked.model.denominator.0 (power_positive k.d (row_parameters k row) (omega (arith, linear, is.asked.grid.positive)))

  -- a row has at least one corner
  pub some_corner : 1 ≤ corner_count k s a
  some_corner = pow_pos (row_parameters k row)

  -- what the row weighs into its own state
  abbrev own : ℕ → ℤ
  own c = corner_sum k.d spans row c (only_at s)

  full_sum : (c : ℕ) → c < corner_count k s a → corner_sum k.d spans row c (λ t. pos 1) ≡ full
  full_sum c lt = laws.sum k spans s a is within row_of c (at_spans c lt)

  pub own_least : (c : ℕ) → pos 0 ≤ℤ own c
  own_least c =
      let none : corner_sum k.d spans row c (λ t. pos 0) ≡ pos 0 = sum_none (moves_at (corner k.d spans (support row) c) row) in
      omega (arith, linear, none, laws.rise k spans s a c (λ t. pos 0) (only_at s) is within row_of (only_least s))

  pub own_most : (c : ℕ) → c < corner_count k s a → own c ≤ℤ full
  own_most c lt = omega (arith, linear, full_sum c lt, laws.rise k spans s a c (only_at s) (λ t. pos 1) is within row_of (only_most s))

  -- the sum rises by no more than d times the whole, where no number rises by more than d
  sum_shifted : (x y : List ℤ) (d : ℤ) → ((t : ℕ) → number y t ≤ℤ (number x t +ℤ d)) → number y s ≡ number x s +ℤ d → (c : ℕ) → c < corner_count k s a → (row_value k spans s a y c +ℤ number x s *ℤ full) ≤ℤ (row_value k spans s a x c +ℤ number y s *ℤ full)
  sum_shifted x y d le own_is c lt =
      let up : corner_sum k.d spans row c (number y) ≤ℤ corner_sum k.d spans row c (λ t. number x t +ℤ d) = laws.rise k spans s a c (number y) (λ t. number x t +ℤ d) is within row_of le in
      let ones : corner_sum k.d spans row c (λ t. number x t +ℤ d) ≡ corner_sum k.d spans row c (number x) +ℤ d *ℤ corner_sum k.d spans row c (λ t. pos 1) =
      sum_moved (number x) (λ t. number x t +ℤ d) (λ t. pos 1) d (moves_at (corner k.d spans (support row) c) row) (λ t. omega (arith, linear, mul-comm d (pos 1), one-mul d)) in
      let product : number y s *ℤ full ≡ number x s *ℤ full +ℤ d *ℤ full = ap (λ n. n *ℤ full) own_is ∙ add-mul (number x s) d full in
      omega (arith, linear, up, ones, ap (λ n. d *ℤ n) (full_sum c lt), product)

  enough_with_shifted : (reward : ℤ) (x y : List ℤ) (d : ℤ) → pos 0 ≤ℤ d → ((t : ℕ) → number y t ≤ℤ (number x t +ℤ d)) → number y s ≡ number x s +ℤ d → (c : ℕ) → c < corner_count k s a → IsEnoughWith reward k spans x s a (number x s) c → IsEnoughWith reward k spans y s a (number y s) c
  enough_with_shifted reward x y d least le own_is c lt h = λ below.
      let before : number x s <ℤ top = omega (arith, linear, below, own_is, least) in
      omega (arith, linear, h before, sum_shifted x y d le own_is c lt)

  -- what is enough stays so where no number rises more than the state's own
  pub enough_shifted : (ends : Ends) (x y : List ℤ) (d : ℤ) → pos 0 ≤ℤ d → ((t : ℕ) → number y t ≤ℤ (number x t +ℤ d)) → number y s ≡ number x s +ℤ d → (c : ℕ) → c < corner_count k s a → IsEnoughBy ends k spans x s a (number x s) c → IsEnoughBy ends k spans y s a (number y s) c
  enough_shifted Goals x y d least le own_is c lt h = omega (arith, linear, h, sum_shifted x y d le own_is c lt)
  enough_shifted (Unranked ranks) x y d least le own_is c lt h = omega (arith, linear, h, sum_shifted x y d le own_is c lt)
  enough_shifted (Rewarded t) x y d least le own_is c lt h = enough_with_shifted (added k (Rewarded t) s) x y d least le own_is c lt h

  module _ (x : List ℤ) (numbers : AreNumbers k x) where
    pub in_lane : s < length x
    in_lane = omega (arith, has.state, numbers.size)

    abbrev n : ℤ
    n = number x s

    pub value_range : (c : ℕ) → (pos 0 ≤ℤ row_value k spans s a x c) × (row_value k spans s a x c ≤ℤ (top *ℤ full))
    value_range c = laws.range k spans s a c x is within row_of numbers

    pub set_numbers : (v : ℤ) → pos 0 ≤ℤ v → v ≤ℤ top → AreNumbers k (set x s v)
    set_numbers v least most = record { size = length-set x s v ∙ numbers.size; range = All-set (Range k.w) x s v (least, most) numbers.range }

    number_set : (v : ℤ) (t : ℕ) → number (set x s v) t ≡ number x t +ℤ (v -ℤ n) *ℤ only_at s t
    number_set v t = ⊎_elim
        (λ (e : t ≡ s). subst (λ u. number (set x s v) u ≡ number x u +ℤ (v -ℤ n) *ℤ only_at s u) (sym e)
        (let lt = in_lane in
        let at : number (set x s v) s ≡ v = rw get_or-set_same refl in
        omega (arith, linear, at, ap (λ m. (v -ℤ n) *ℤ m) (only_same s), mul-comm (v -ℤ n) (pos 1), one-mul (v -ℤ n))))
        (λ (ne : t ≢ s).
        let at : number (set x s v) t ≡ number x t = rw get_or-set_other refl in
        omega (arith, linear, at, ap (λ m. (v -ℤ n) *ℤ m) (only_other s t ne), mul-zero (v -ℤ n)))
        (same_or_not t s)

    -- the sum where the state's own number is replaced
    pub value_set : (v : ℤ) (c : ℕ) → row_value k spans s a (set x s v) c +ℤ n *ℤ own c ≡ row_value k spans s a x c +ℤ v *ℤ own c
    value_set v c = omega (arith, linear, sum_moved (number x) (number (set x s v)) (only_at s) (v -ℤ n) (moves_at (corner k.d spans (support row) c) row) (number_set v), less-mul v n (own c))

    abbrev S : ℕ → ℤ
    S c = row_value k spans s a x c

    pub set_below : (v : ℤ) (y : List ℤ) → AtMost x y → v ≡ number y s → (t : ℕ) → number (set x s v) t ≤ℤ number y t
    set_below v y le e t = ⊎_elim
        (λ (same : t ≡ s). subst (λ u. number (set x s v) u ≤ℤ number y u) (sym same) (let lt = in_lane in rw get_or-set_same (omega (arith, linear, e))))
        (λ (ne : t ≢ s). rw get_or-set_other (le t))
        (same_or_not t s)

    pub n_range : (pos 0 ≤ℤ n) × (n ≤ℤ top)
    n_range = laws.numbers k x s numbers

    pub n_least : pos 0 ≤ℤ n
    n_least = n_range.0

    pub number_small : unsigned_abs n ≤ 2 ^ k.w
    number_small = omega (arith, ints, n_range.0, n_range.1)

    -- where the number is enough already
    pub still_at : (c : ℕ) → S c ≤ℤ (n *ℤ full) → SolvesAt k spans x s a c n
    still_at c le = record {
      grown = omega (arith, linear);
      most = n_range.1;
      enough = omega (arith, linear, value_set n c, le);
      least = λ y at h. at s;
    }

    module _ (c : ℕ) (lt : c < corner_count k s a) (short : (n *ℤ full) <ℤ S c) where
      top_value : (S c +ℤ top *ℤ own c) ≤ℤ (top *ℤ full +ℤ n *ℤ own c)
      top_value =
          let up = laws.range k spans s a c (set x s top) is within row_of (set_numbers top (omega (arith, linear, n_range.0, n_range.1)) (omega (arith, linear))) in
          omega (arith, linear, up.1, value_set top c)

      pub left_positive : pos 1 ≤ℤ (full -ℤ own c)
      left_positive = by_lt_z (own c) full (λ less. omega (arith, linear, less)) (λ le.
          let e : own c ≡ full = omega (arith, linear, le, own_most c lt) in
          absurd (omega (arith, linear, top_value, short, ap (λ z. top *ℤ z) e, ap (λ z. n *ℤ z) e)))

      pub rest_least : pos 0 ≤ℤ (S c -ℤ n *ℤ own c)
      rest_least =
          let none = laws.range k spans s a c (set x s (pos 0)) is within row_of (set_numbers (pos 0) (omega (arith, linear)) (omega (arith, linear, n_range.0, n_range.1))) in
          omega (arith, linear, none.0, value_set (pos 0) c, zero-mul (own c))

      rest_top : (S c -ℤ n *ℤ own c) ≤ℤ (top *ℤ (full -ℤ own c))
      rest_top = omega (arith, linear, top_value, mul-less top full (own c))

      pub rest_most : (S c -ℤ n *ℤ own c) ≤ℤ (pos (2 ^ most_precision) *ℤ (full -ℤ own c))
      rest_most =
          let small : 2 ^ k.w ≤ 2 ^ most_precision = pow_mono is.asked.precision.1 in
          let left = full -ℤ own c in
          omega (arith, linear, rest_top, mul-le left top (pos (2 ^ most_precision)) (omega (arith, linear, left_positive)) (omega (arith, linear, small)), mul-comm top left, mul-comm (pos (2 ^ most_precision)) left)

      -- what is left of the sum, over what is left of the whole, rounded up
      pub solved_at : (q : ℤ) → (S c -ℤ n *ℤ own c) ≤ℤ (q *ℤ (full -ℤ own c)) → ((q -ℤ pos 1) *ℤ (full -ℤ own c)) <ℤ (S c -ℤ n *ℤ own c) → SolvesAt k spans x s a c q
      solved_at q high low =
          let left = full -ℤ own c in
          record {
            grown = let less : n <ℤ q = mul-lt_cancel left n q left_positive (omega (arith, linear, short, high, mul-less n full (own c))) in omega (arith, linear, less);
            most = let less : (q -ℤ pos 1) <ℤ top = mul-lt_cancel left (q -ℤ pos 1) top left_positive (omega (arith, linear, low, rest_top)) in omega (arith, linear, less);
            enough = omega (arith, linear, value_set q c, high, mul-less q full (own c));
            least = λ y at h.
                let m = number y s in
                let up = laws.rise k spans s a c (number (set x s m)) (number y) is within row_of (set_below m y at refl) in
                let less : (q -ℤ pos 1) <ℤ m = mul-lt_cancel left (q -ℤ pos 1) m left_positive (omega (arith, linear, low, up, h, value_set m c, mul-less m full (own c))) in
                omega (arith, linear, less);
          }

    -- ---- all corners that count

    pub solved_first : (ends : Ends) (e : Extreme) (v : ℤ) → SolvesBy ends k spans x s a 0 v → IsSolvedFor ends e k spans x s a 1 v
    solved_first ends Greatest v h = record {
      grown = h.grown;
      most = h.most;
      enough = λ c lt. subst (λ i. IsEnoughBy ends k spans (set x s v) s a v i) (let z : 0 ≡ c = omega (arith, lt) in z) h.enough;
      least = λ y at all. h.least y at (all 0 (omega arith));
    }
    solved_first ends Least v h = record {
      grown = h.grown;
      most = h.most;
      enough = (0, (omega arith, h.enough));
      least = λ y at one. h.least y at (subst (λ i. IsEnoughBy ends k spans y s a (number y s) i) (let z : one.0 ≡ 0 = omega (arith, one.1.0) in z) one.1.1);
    }

    -- a number that is enough for a corner stays so when it rises
    sum_risen : (u v : ℤ) (c : ℕ) → c < corner_count k s a → u ≤ℤ v → (row_value k spans s a (set x s v) c +ℤ u *ℤ full) ≤ℤ (row_value k spans s a (set x s u) c +ℤ v *ℤ full)
    sum_risen u v c lt le =
        omega (arith, linear, value_set u c, value_set v c, mul-le (v -ℤ u) (own c) full (omega (arith, linear, le)) (own_most c lt), less-mul v u (own c), less-mul v u full)

    pub risen : (ends : Ends) (u v : ℤ) (c : ℕ) → c < corner_count k s a → u ≤ℤ v → IsEnoughBy ends k spans (set x s u) s a u c → IsEnoughBy ends k spans (set x s v) s a v c
    risen Goals u v c lt le h = omega (arith, linear, h, sum_risen u v c lt le)
    risen (Unranked ranks) u v c lt le h = omega (arith, linear, h, sum_risen u v c lt le)
    risen (Rewarded t) u v c lt le h = with_reward (added k (Rewarded t) s) h
      where
        with_reward : (reward : ℤ) → IsEnoughWith reward k spans (set x s u) s a u c → IsEnoughWith reward k spans (set x s v) s a v c
        with_reward reward h = λ below. omega (arith, linear, h (omega (arith, linear, le, below)), sum_risen u v c lt le)

    -- 2 ^ w is enough
    pub top_enough : (ends : Ends) (v : ℤ) (c : ℕ) → v ≡ top → IsEnoughBy ends k spans x s a v c
    top_enough Goals v c same = omega (arith, linear, (value_range c).1, ap (λ m. m *ℤ full) same)
    top_enough (Unranked ranks) v c same = omega (arith, linear, (value_range c).1, ap (λ m. m *ℤ full) same)
    top_enough (Rewarded t) v c same = λ below. absurd (omega (arith, linear, below, same))

    pub solved_more : (ends : Ends) (e : Extreme) (i : ℕ) (u v z : ℤ) → i < corner_count k s a → IsSolvedFor ends e k spans x s a i u → SolvesBy ends k spans x s a i v → IsMoreExtreme e u v z → IsSolvedFor ends e k spans x s a (i + 1) z
    solved_more ends Greatest i u v z lt h g o = record {
      grown = omega (arith, linear, h.grown, o.0);
      most = ⊎_elim (λ (e : z ≡ u). omega (arith, linear, e, h.most)) (λ (e : z ≡ v). omega (arith, linear, e, g.most)) o.2;
      enough = λ c less. ⊎_elim
          (λ (before : c < i). risen ends u z c (omega (arith, before, lt)) o.0 (h.enough c before))
          (λ (here : c ≡ i). subst (λ j. IsEnoughBy ends k spans (set x s z) s a z j) (sym here) (risen ends v z i lt o.1 g.enough))
          (one_more c i less);
      least = λ y at all.
          let first = h.least y at (λ c less. all c (omega (arith, less))) in
          let second = g.least y at (all i (omega arith)) in
          ⊎_elim (λ (e : z ≡ u). omega (arith, linear, e, first)) (λ (e : z ≡ v). omega (arith, linear, e, second)) o.2;
    }
    solved_more ends Least i u v z lt h g o = record {
      grown = ⊎_elim (λ (e : z ≡ u). omega (arith, linear, e, h.grown)) (λ (e : z ≡ v). omega (arith, linear, e, g.grown)) o.2;
      most = omega (arith, linear, h.most, o.0);
      enough = ⊎_elim
          (λ (e : z ≡ u). (h.enough.0, (omega (arith, h.enough.1.0), subst (λ m. IsEnoughBy ends k spans (set x s m) s a m h.enough.0) (sym e) h.enough.1.1)))
          (λ (e : z ≡ v). (i, (omega arith, subst (λ m. IsEnoughBy ends k spans (set x s m) s a m i) (sym e) g.enough)))
          o.2;
      least = λ y at one. ⊎_elim
          (λ (before : one.0 < i). omega (arith, linear, o.0, h.least y at (one.0, (before, one.1.1))))
          (λ (here : one.0 ≡ i). omega (arith, linear, o.1, g.least y at (subst (λ j. IsEnoughBy ends k spans y s a (number y s) j) here one.1.1)))
          (one_more one.0 i one.1.0);
    }

    -- a number that is 2 ^ w is enough
    pub top_solved : (e : Extreme) → 1 ≤ corner_count k s a → n ≡ top → IsSolved e k spans x s a (corner_count k s a) n
    top_solved e some is_top = record {
      grown = omega (arith, linear);
      most = n_range.1;
      enough = everywhere e;
      least = λ y at h. at s;
    }
      where
        at_corner : (c : ℕ) → IsEnoughAt k spans (set x s n) s a n c
        at_corner c = omega (arith, linear, value_set n c, (value_range c).1, ap (λ m. m *ℤ full) is_top)

        everywhere : (e : Extreme) → Across e (corner_count k s a) (IsEnoughAt k spans (set x s n) s a n)
        everywhere Greatest = λ c lt. at_corner c
        everywhere Least = (0, (some, at_corner 0))

    -- a row with one entry takes its target's number
    module _ (e : Extreme) (target : ℕ) (only : targets_of row ≡ target ∷ []) where
      pub only_inside : target < length x
      only_inside = omega (arith, numbers.size, target_inside (length k.model.states) (length k.model.names) row target only (is.asked.model.rows s [] has.state a [] has.choice).entries)

      pub only_value : (c : ℕ) → c < corner_count k s a → (f : ℕ → ℤ) → corner_sum k.d spans row c f ≡ full *ℤ f target
      only_value c lt f = single (corner k.d spans (support row) c) f row target only ∙ ap (λ w. w *ℤ f target) (full_sum c lt)

      pub only_solved : pos 1 ≤ℤ full → (v : ℤ) → IsMoreExtreme Greatest n (number x target) v → IsSolved e k spans x s a (corner_count k s a) v
      only_solved positive v o = record {
        grown = o.0;
        most = ⊎_elim (λ (e : v ≡ n). omega (arith, linear, e, n_range.1)) (λ (e : v ≡ number x target). omega (arith, linear, e, (laws.numbers k x target numbers).1)) o.2;
        enough = everywhere e;
        least = λ y at h.
            let one = some_at e (corner_count k s a) (IsEnoughAt k spans y s a (number y s)) some_corner h in
            let le : number y target ≤ℤ number y s = mul-le_cancel full (number y target) (number y s) (omega (arith, linear, positive)) (omega (arith, linear, one.1.1, only_value one.0 one.1.0 (number y), mul-comm full (number y s))) in
            ⊎_elim (λ (e : v ≡ n). omega (arith, linear, e, at s)) (λ (e : v ≡ number x target). omega (arith, linear, e, at target, le)) o.2;
      }
        where
          below : number (set x s v) target ≤ℤ v
          below = ⊎_elim
              (λ (same : target ≡ s). subst (λ u. number (set x s v) u ≤ℤ v) (sym same) (let lt = in_lane in rw get_or-set_same (omega (arith, linear))))
              (λ (ne : target ≢ s). rw get_or-set_other o.1)
              (same_or_not target s)

          at_corner : (c : ℕ) → c < corner_count k s a → IsEnoughAt k spans (set x s v) s a v c
          at_corner c lt = omega (arith, linear, only_value c lt (number (set x s v)), mul-le full (number (set x s v) target) v (omega (arith, linear, positive)) below, mul-comm full v)

          everywhere : (e : Extreme) → Across e (corner_count k s a) (IsEnoughAt k spans (set x s v) s a v)
          everywhere Greatest = λ c lt. at_corner c lt
          everywhere Least = (0, (some_corner, at_corner 0 some_corner))

    module _ (e : Extreme) (z : ℤ) (extreme : IsExtreme e (row_value k spans s a x) (corner_count k s a) z) where
      abbrev witness : (c : ℕ) × ((c < corner_count k s a) × (z ≡ S c))
      witness = extreme_attained e S (corner_count k s a) z extreme

      pub extreme_least : pos 0 ≤ℤ z
      extreme_least = omega (arith, linear, witness.1.1, (value_range witness.0).0)

      extreme_top : z ≤ℤ (top *ℤ full)
      extreme_top = omega (arith, linear, witness.1.1, (value_range witness.0).1)

      pub extreme_most : pos 1 ≤ℤ full → z ≤ℤ (pos (2 ^ most_precision) *ℤ full)
      extreme_most positive =
          let small : 2 ^ k.w ≤ 2 ^ most_precision = pow_mono is.asked.precision.1 in
          omega (arith, linear, extreme_top, mul-le full top (pos (2 ^ most_precision)) (omega (arith, linear, positive)) (omega (arith, linear, small)), mul-comm top full, mul-comm (pos (2 ^ most_precision)) full)

      -- the number is enough already
      pub still_solved : z ≤ℤ (n *ℤ full) → IsSolved e k spans x s a (corner_count k s a) n
      still_solved le = record {
        grown = omega (arith, linear);
        most = n_range.1;
        enough = across_map e (corner_count k s a) (λ c. S c ≤ℤ (n *ℤ full)) (IsEnoughAt k spans (set x s n) s a n) (λ c lt h. omega (arith, linear, value_set n c, h)) (extreme_holds e S (corner_count k s a) z (n *ℤ full) extreme le);
        least = λ y at h. at s;
      }

      -- the row has no self loop
      pub lone_solved : (Contains (targets_of row) s → ⊥) → pos 1 ≤ℤ full → (n *ℤ full) <ℤ z → (q : ℤ) → z ≤ℤ (q *ℤ full) → ((q -ℤ pos 1) *ℤ full) <ℤ z → IsSolved e k spans x s a (corner_count k s a) q
      lone_solved none positive short q high low = record {
        grown = let less : n <ℤ q = mul-lt_cancel full n q positive (omega (arith, linear, short, high)) in omega (arith, linear, less);
        most = let less : (q -ℤ pos 1) <ℤ top = mul-lt_cancel full (q -ℤ pos 1) top positive (omega (arith, linear, low, extreme_top)) in omega (arith, linear, less);
        enough = across_map e (corner_count k s a) (λ c. S c ≤ℤ (q *ℤ full)) (IsEnoughAt k spans (set x s q) s a q) (λ c lt h. omega (arith, linear, value_set q c, nothing c q, nothing c n, h)) (extreme_holds e S (corner_count k s a) z (q *ℤ full) extreme high);
        least = λ y at h.
            let le : z ≤ℤ (number y s *ℤ full) = extreme_from e S (row_value k spans s a y) (corner_count k s a) z (number y s *ℤ full) extreme (λ c. laws.rise k spans s a c (number x) (number y) is within row_of at) h in
            let less : (q -ℤ pos 1) <ℤ number y s = mul-lt_cancel full (q -ℤ pos 1) (number y s) positive (omega (arith, linear, low, le)) in
            omega (arith, linear, less);
      }
        where
          nothing : (c : ℕ) (m : ℤ) → m *ℤ own c ≡ pos 0
          nothing c m = ap (λ w. m *ℤ w) (own_none (corner k.d spans (support row) c) s row none) ∙ mul-zero m

      -- the least number from the state's own on that times the whole is at least the value
      pub first_solved : (Contains (targets_of row) s → ⊥) → pos 1 ≤ℤ full → (v : ℤ) → IsRoundedUpFrom n z full v → IsSolved e k spans x s a (corner_count k s a) v
      first_solved none positive v found = ⊎_elim
          (λ (still : (v ≡ n) × (z ≤ℤ (n *ℤ full))). rw still.0 (still_solved still.1))
          (λ (rose : ((n *ℤ full) <ℤ z) × IsRoundedUp z full v). lone_solved none positive rose.0 v rose.1.0 rose.1.1)
          found

-- ---- states with one row, which is short

-- a choice that is the only one
pub only_choice : (m : ModelData) (s : ℕ) → s < length m.states → length (choices m s) ≡ 1 → HasChoice m s 0
only_choice m s state only = record { state = state; choice = omega (arith, only) }

pub pair_choice : (k : CaseData) (l : LinksData) (s : ℕ) (p : PairRow) → s < length k.model.states → IsPairRow k.model l s p → HasChoice k.model s 0
pair_choice k l s p state pair = only_choice k.model s state pair.only

-- a row with two entries into other states has none into its own
pub pair_others : (m : ModelData) (l : LinksData) (s : ℕ) (p : PairRow) → IsPairRow m l s p → Contains (targets_of (row_at m s 0)) s → ⊥
pair_others m l s p pair at = neither p.first p.second pair.others.0 pair.others.1 (subst (λ list. Contains list s) pair.targets at)
  where
    neither : (t u : ℕ) → t ≢ s → u ≢ s → Contains (t ∷ u ∷ []) s → ⊥
    neither t u a b (zero, lt, e) = a e
    neither t u a b (suc zero, lt, e) = b e
    neither t u a b (suc (suc i), lt, e) = absurd (omega (arith, lt))

-- ---- a sum and a whole that were divided by the same number

pub scaled_least : (sum scale : ℤ) → pos 1 ≤ℤ scale → pos 0 ≤ℤ (sum *ℤ scale) → pos 0 ≤ℤ sum
scaled_least sum scale some least = mul-le_cancel scale (pos 0) sum (omega (arith, linear, some)) (omega (arith, linear, least, mul-zero scale, mul-comm sum scale))

pub map_some : (P Q : ℤ → Type 0) (o : Option ℤ) → ((v : ℤ) → P v → Q v) → IfSome o P → IfSome o Q
map_some P Q None f h = tt
map_some P Q (Some v) f h = f v h
