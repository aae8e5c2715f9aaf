-- How high a choice holds a set of states that have the same number, at a corner.
use Rattle.std.proofs.Common.{◌≡◌, ℕ, ◌*◌, ◌^◌, ◌<◌, ◌≤◌, ◌⊎◌, length, ⊎_elim, Bool, true, false, ℤ, pos, ◌+ℤ◌, ◌-ℤ◌, ◌*ℤ◌, ◌≤ℤ◌, ◌<ℤ◌, unsigned_abs, int_le, sym, ap, subst, ◌∙◌, arith, mul-le-mul_left}
use Rattle.std.proofs.lemmas.Int.{ints, by_lt_z}
use Rattle.std.proofs.lemmas.Bool.{both_ways}
use Rattle.std.proofs.lemmas.Nat.{pow_pos}
use Rattle.lift_poly.proofs.Ring.{linear, mul-comm, mul-le, mul-zero, zero-mul, one-mul, as_diff, diffs, diff-same, test_from_le}
use Rattle.lift_grid.specs.Rectangle.{Spans}
use Rattle.lift_model.specs.Process.{power}
use Rattle.lift_model.specs.Model.{choices, row_at, support}
use Rattle.lift_model.specs.Links.{LinksData, AreLinks, HasChoice, place}
use Rattle.lift_model.specs.declared.layout.RowPlace.{RowPlace}
use Rattle.corner_lift.specs.Corner.{corner_sum, whole, parameter_count}
use Rattle.corner_lift.specs.Case.{CaseData, IsCase, row_whole, corner_count, row_parameters}
use Rattle.corner_lift.specs.Laws.{BitsAreParameters}
use Rattle.lower_cert.specs.Capping.{into, CapsAt}
use Rattle.lower_cert.specs.Lowering.{IsExit}
use Rattle.lower_cert.proofs.Means.{Place, either_way, level, mono, scaled, ones}
use Rattle.lower_cert.proofs.Capped.{level_caps, staying_caps}

-- ---- numbers

-- a part of a whole has as much room for products
pub part_room : (m : ℕ) (part whole : ℤ) (limit : ℕ) → pos 0 ≤ℤ part → part ≤ℤ whole → m * unsigned_abs whole < limit → m * unsigned_abs part < limit
part_room m part whole limit least most room =
    let le : unsigned_abs part ≤ unsigned_abs whole = omega (arith, ints, least, most) in
    omega (arith, mul-le-mul_left m le, room)

pub mul-less : (a b c : ℤ) → a *ℤ (b -ℤ c) ≡ a *ℤ b -ℤ a *ℤ c
mul-less a b c = rw (as_diff a, as_diff b, as_diff c) (simp diffs (diff-same _ _ _ _ (omega arith)))

-- what is left is less than a small multiple of what leaves
pub exit_room : (m sum weight total : ℤ) → m ≤ℤ pos (2 ^ 40) → weight <ℤ total → sum <ℤ (m *ℤ total) → (sum -ℤ m *ℤ weight) <ℤ (pos (2 ^ 41) *ℤ (total -ℤ weight))
exit_room m sum weight total most less short =
    let up = mul-le (total -ℤ weight) m (pos (2 ^ 41)) (omega (arith, linear, less)) (omega (arith, linear, most)) in
    omega (arith, linear, short, up, mul-less m total weight, mul-comm m (total -ℤ weight), mul-comm (pos (2 ^ 41)) (total -ℤ weight))

-- a test of an order that failed
pub lt_from_test : (a b : ℤ) → int_le a b ≡ false → b <ℤ a
lt_from_test a b e = by_lt_z b a (λ lt. lt) (λ le. absurd (both_ways (int_le a b) e (test_from_le a b le)))

pub one_of_two : (P : ℤ → Type 0) (a b r : ℤ) → (r ≡ a) ⊎ (r ≡ b) → P a → P b → P r
one_of_two P a b r one f g = ⊎_elim (λ (e : r ≡ a). subst P (sym e) f) (λ (e : r ≡ b). subst P (sym e) g) one

-- ---- a set of states with the same number

module _ (k : CaseData) (spans : Spans) (place : Place k spans) (s a : ℕ) (choice : a < length (choices k.model s)) where
  pub same_whole : whole k.model k.d spans (row_at k.model s a) ≡ row_whole k s a
  same_whole = ap (λ n. k.model.common *ℤ power k.d n) (place.laws.parameters k spans (row_at k.model s a) place.within.within)

  pub at_spans : (c : ℕ) → c < corner_count k s a → c < 2 ^ parameter_count spans (support (row_at k.model s a))
  at_spans c lt = subst (λ n. c < 2 ^ n) (sym (place.laws.parameters k spans (row_at k.model s a) place.within.within)) lt

  module _ (c : ℕ) (corner_lt : c < corner_count k s a) (inside : ℕ → Bool) (z : ℕ → ℤ) (m : ℤ) where
    abbrev inner : ℤ
    inner = corner_sum k.d spans (row_at k.model s a) c (into inside)

    indicator : (t : ℕ) → (pos 0 ≤ℤ into inside t) × (into inside t ≤ℤ pos 1)
    indicator t = either_way (inside t) (λ e. rw e (omega (arith, linear), omega (arith, linear))) (λ e. rw e (omega (arith, linear), omega (arith, linear)))

    pub into_least : pos 0 ≤ℤ inner
    into_least = omega (arith, linear, mono k spans place s a choice c (λ t. pos 0) (into inside) (λ t. (indicator t).0), level k spans place s a choice c (at_spans c corner_lt) (pos 0), mul-zero (whole k.model k.d spans (row_at k.model s a)))

    pub into_most : inner ≤ℤ row_whole k s a
    into_most = omega (arith, linear, mono k spans place s a choice c (into inside) (λ t. pos 1) (λ t. (indicator t).1), ones k spans place s a choice c (at_spans c corner_lt), same_whole)

    module _ (is_level : (t : ℕ) → inside t ≡ true → z t ≡ m) where
      -- what comes from beyond the set is not negative
      pub rest_least : ((t : ℕ) → pos 0 ≤ℤ z t) → (m *ℤ inner) ≤ℤ corner_sum k.d spans (row_at k.model s a) c z
      rest_least least =
          let each : (t : ℕ) → (into inside t *ℤ m) ≤ℤ z t = λ t. either_way (inside t) (λ e. rw e (omega (arith, linear, one-mul m, is_level t e))) (λ e. rw e (omega (arith, linear, zero-mul m, least t))) in
          omega (arith, linear, mono k spans place s a choice c (λ t. into inside t *ℤ m) z each, scaled k spans place s a choice c m (into inside), mul-comm m inner)

      -- an exit caps
      pub exit_caps : (r : ℤ) → IsExit m (corner_sum k.d spans (row_at k.model s a) c z) inner (row_whole k s a) r → CapsAt k spans inside z (r +ℤ pos 1) (row_at k.model s a) c
      exit_caps r one =
          ⊎_elim
          (λ (stays : row_whole k s a ≤ℤ inner). staying_caps place.laws k spans inside z (r +ℤ pos 1) s a c place.case place.within choice (at_spans c corner_lt) (omega (arith, linear, stays, same_whole)))
          (λ (less : (corner_sum k.d spans (row_at k.model s a) c z -ℤ inner *ℤ m) <ℤ ((r +ℤ pos 1) *ℤ (row_whole k s a -ℤ inner))).
          level_caps k spans inside z m (r +ℤ pos 1) s a c is_level (subst (λ n. (corner_sum k.d spans (row_at k.model s a) c z -ℤ inner *ℤ m) <ℤ ((r +ℤ pos 1) *ℤ (n -ℤ inner))) (sym same_whole) less))
          one

-- ---- the corners of a row

pub corners_is : BitsAreParameters → (k : CaseData) (l : LinksData) (s a : ℕ) (p : RowPlace) → IsCase k → AreLinks k.model l → HasChoice k.model s a → p ≡ place l s a → p.corners ≡ corner_count k s a
corners_is bits k l s a p is are has at =
    ap (λ (q : RowPlace). q.corners) at ∙ (are.laid.places s a has).corners ∙ ap (λ n. 2 ^ n) (bits k s a is.asked (record { state = has.state; choice = has.choice }))

pub some_corner : (k : CaseData) (s a : ℕ) → 1 ≤ corner_count k s a
some_corner k s a = pow_pos (row_parameters k (row_at k.model s a))
