-- Two rectangles whose rows weigh the same, up to a positive factor for each row: what is said by weights is said of both.
use Rattle.std.proofs.Common.{◌≡◌, ℕ, zero, suc, ◌^◌, ◌<◌, ◌≤◌, List, ℤ, pos, ◌*ℤ◌, ◌≤ℤ◌, ◌<ℤ◌, sym, ap, ◌∙◌, subst, arith}
use Rattle.std.proofs.lemmas.Int.{by_lt_z}
use Rattle.lift_poly.proofs.Ring.{linear, mul-comm, mul-assoc, one-mul, mul-zero, zero-mul, mul-lt, mul-le, mul-le_cancel}
use Rattle.lift_grid.specs.Rectangle.{Spans}
use Rattle.lift_model.specs.declared.entry.Entry.{Entry}
use Rattle.lift_model.specs.Process.{power}
use Rattle.lift_model.specs.Model.{ModelData, support, row_at}
use Rattle.corner_lift.specs.Corner.{AtCorners, parameter_count, corner_sum, whole}
use Rattle.corner_lift.specs.Case.{CaseData, number}
use Rattle.corner_lift.specs.Certificate.{MeansAtMost, MeansAtLeast, ranked_below}
use Rattle.corner_lift.specs.Stages.{LeadsBelow}
use Rattle.lift_finer.specs.Finer.{finer_spans, finer_case, KnowsNoGrid}
use Rattle.lift_finer.proofs.Homogeneous.{parameters_stay, sums_are_homogeneous, wholes_are_homogeneous}

pub record AreAlike (m : ModelData) (d : ℤ) (spans : Spans) (e : ℤ) (others : Spans) : Type 0 where
  pub counts : (set : ℕ) → parameter_count others set ≡ parameter_count spans set
  pub here : List Entry → ℤ
  pub there : List Entry → ℤ
  pub here_positive : (row : List Entry) → pos 0 <ℤ here row
  pub there_positive : (row : List Entry) → pos 0 <ℤ there row
  pub sums : (row : List Entry) (c : ℕ) (y : ℕ → ℤ) → corner_sum d spans row c y *ℤ there row ≡ corner_sum e others row c y *ℤ here row
  pub wholes : (row : List Entry) → whole m d spans row *ℤ there row ≡ whole m e others row *ℤ here row

pub flipped : (m : ModelData) (d : ℤ) (spans : Spans) (e : ℤ) (others : Spans) → AreAlike m d spans e others → AreAlike m e others d spans
flipped m d spans e others a = record {
  counts = λ set. sym (a.counts set);
  here = a.there;
  there = a.here;
  here_positive = a.there_positive;
  there_positive = a.here_positive;
  sums = λ row c y. sym (a.sums row c y);
  wholes = λ row. sym (a.wholes row);
}

-- ---- a finer grid

pub power_positive : (n m : ℕ) → 1 ≤ n → pos 0 <ℤ power (pos n) m
power_positive n zero le = omega (arith, linear)
power_positive n (suc m) le =
    let rest = mul-lt (pos n) (pos 0) (power (pos n) m) (omega (arith, linear, le)) (power_positive n m le) in
    omega (arith, linear, rest, mul-zero (pos n))

times_one : (z : ℤ) → z ≡ z *ℤ pos 1
times_one z = sym (mul-comm z (pos 1) ∙ one-mul z)

pub finer_is_alike : (m : ModelData) (d : ℤ) (n : ℕ) (spans : Spans) → 1 ≤ n → AreAlike m d spans (d *ℤ pos n) (finer_spans n spans)
finer_is_alike m d n spans le = record {
  counts = parameters_stay n spans;
  here = λ row. pos 1;
  there = λ row. power (pos n) (parameter_count spans (support row));
  here_positive = λ row. omega (arith, linear);
  there_positive = λ row. power_positive n (parameter_count spans (support row)) le;
  sums = λ row c y. sym (sums_are_homogeneous d n spans row c y) ∙ times_one (corner_sum (d *ℤ pos n) (finer_spans n spans) row c y);
  wholes = λ row. sym (wholes_are_homogeneous m d n spans row) ∙ times_one (whole m (d *ℤ pos n) (finer_spans n spans) row);
}

-- ---- orders

carry_le : (a b x y p q : ℤ) → pos 0 <ℤ p → pos 0 <ℤ q → a *ℤ p ≡ x *ℤ q → b *ℤ p ≡ y *ℤ q → a ≤ℤ b → x ≤ℤ y
carry_le a b x y p q p_positive q_positive ax by le =
    let least : pos 0 ≤ℤ p = omega (arith, linear, p_positive) in
    mul-le_cancel q x y q_positive (omega (arith, linear, mul-le p a b least le, mul-comm p a, mul-comm p b, mul-comm q x, mul-comm q y, ax, by))

carry_lt : (a b x y p q : ℤ) → pos 0 <ℤ p → pos 0 <ℤ q → a *ℤ p ≡ x *ℤ q → b *ℤ p ≡ y *ℤ q → a <ℤ b → x <ℤ y
carry_lt a b x y p q p_positive q_positive ax by lt =
    by_lt_z x y (λ less. less) (λ le. absurd (omega (arith, linear, carry_le y x b a q p q_positive p_positive (sym by) (sym ax) le, lt)))

-- (a b) c = (a c) b
pub swap : (a b c : ℤ) → (a *ℤ b) *ℤ c ≡ (a *ℤ c) *ℤ b
swap a b c = mul-assoc a b c ∙ ap (λ z. a *ℤ z) (mul-comm b c) ∙ sym (mul-assoc a c b)

zeros : (p q : ℤ) → pos 0 *ℤ p ≡ pos 0 *ℤ q
zeros p q = zero-mul p ∙ sym (zero-mul q)

-- ---- what weights say

-- the same case with another root, over another grid, and of another depth
abbrev pub moved : CaseData → Spans → ℤ → ℕ → CaseData
moved k root d depth = record k { root = root; d = d; depth = depth }

-- what P says of a rectangle it says of each one that is alike
abbrev pub Carries : (CaseData → Spans → Type 0) → Type 0
Carries P = (k : CaseData) (root : Spans) (d : ℤ) (depth : ℕ) (spans others : Spans) → AreAlike k.model k.d spans d others → P k spans → P (moved k root d depth) others

pub knows_no_grid : (P : CaseData → Spans → Type 0) → Carries P → KnowsNoGrid P
knows_no_grid P carries k spans root n depth le =
    let alike = finer_is_alike k.model k.d n spans le in (
      carries k root (k.d *ℤ pos n) depth spans (finer_spans n spans) alike,
      carries (finer_case n root depth k) k.root k.d k.depth (finer_spans n spans) spans (flipped k.model k.d spans (k.d *ℤ pos n) (finer_spans n spans) alike),
    )

module _ (m : ModelData) (d : ℤ) (spans : Spans) (e : ℤ) (others : Spans) (a : AreAlike m d spans e others) (row : List Entry) where
  corner_here : (c : ℕ) → c < 2 ^ parameter_count others (support row) → c < 2 ^ parameter_count spans (support row)
  corner_here c lt = subst (λ g. c < 2 ^ g) (a.counts (support row)) lt

  whole_times : (n : ℤ) → (n *ℤ whole m d spans row) *ℤ a.there row ≡ (n *ℤ whole m e others row) *ℤ a.here row
  whole_times n = mul-assoc n (whole m d spans row) (a.there row) ∙ ap (λ z. n *ℤ z) (a.wholes row) ∙ sym (mul-assoc n (whole m e others row) (a.here row))

  sum_times : (c : ℕ) (y : ℕ → ℤ) (z : ℤ) → (corner_sum d spans row c y *ℤ z) *ℤ a.there row ≡ (corner_sum e others row c y *ℤ z) *ℤ a.here row
  sum_times c y z = swap (corner_sum d spans row c y) z (a.there row) ∙ ap (λ s. s *ℤ z) (a.sums row c y) ∙ swap (corner_sum e others row c y) (a.here row) z

  le_there : (x y u v : ℤ) → x *ℤ a.there row ≡ u *ℤ a.here row → y *ℤ a.there row ≡ v *ℤ a.here row → x ≤ℤ y → u ≤ℤ v
  le_there x y u v = carry_le x y u v (a.there row) (a.here row) (a.there_positive row) (a.here_positive row)

  lt_there : (x y u v : ℤ) → x *ℤ a.there row ≡ u *ℤ a.here row → y *ℤ a.there row ≡ v *ℤ a.here row → x <ℤ y → u <ℤ v
  lt_there x y u v = carry_lt x y u v (a.there row) (a.here row) (a.there_positive row) (a.here_positive row)

-- at each corner of the row the weighted sum of y, times z, is at least the whole
abbrev pub IsEnough : List Entry → (ℕ → ℤ) → ℤ → CaseData → Spans → Type 0
IsEnough row y z k spans = AtCorners spans row (λ c. whole k.model k.d spans row ≤ℤ (corner_sum k.d spans row c y *ℤ z))

pub most_carry : (row : List Entry) (x : List ℤ) (n : ℤ) → Carries (λ k spans. MeansAtMost k spans row x n)
most_carry row x n k root d depth spans others a h c lt =
    le_there k.model k.d spans d others a row (corner_sum k.d spans row c (number x)) (n *ℤ whole k.model k.d spans row) (corner_sum d others row c (number x)) (n *ℤ whole k.model d others row)
    (a.sums row c (number x)) (whole_times k.model k.d spans d others a row n) (h c (corner_here k.model k.d spans d others a row c lt))

pub least_carry : (row : List Entry) (y : ℕ → ℤ) (n : ℤ) → Carries (λ k spans. MeansAtLeast k spans row y n)
least_carry row y n k root d depth spans others a h c lt =
    le_there k.model k.d spans d others a row (n *ℤ whole k.model k.d spans row) (corner_sum k.d spans row c y) (n *ℤ whole k.model d others row) (corner_sum d others row c y)
    (whole_times k.model k.d spans d others a row n) (a.sums row c y) (h c (corner_here k.model k.d spans d others a row c lt))

pub enough_carry : (row : List Entry) (y : ℕ → ℤ) (z : ℤ) → Carries (IsEnough row y z)
enough_carry row y z k root d depth spans others a h c lt =
    le_there k.model k.d spans d others a row (whole k.model k.d spans row) (corner_sum k.d spans row c y *ℤ z) (whole k.model d others row) (corner_sum d others row c y *ℤ z)
    (a.wholes row) (sum_times k.model k.d spans d others a row c y z) (h c (corner_here k.model k.d spans d others a row c lt))

pub leads_carry : (rank : ℕ → ℕ) (r s b : ℕ) → Carries (λ k spans. LeadsBelow k spans rank r s b)
leads_carry rank r s b k root d depth spans others a h c lt =
    let row = row_at k.model s b in
    let y = ranked_below rank r in
    lt_there k.model k.d spans d others a row (pos 0) (corner_sum k.d spans row c y) (pos 0) (corner_sum d others row c y)
    (zeros (a.there row) (a.here row)) (a.sums row c y) (h c (corner_here k.model k.d spans d others a row c lt))
