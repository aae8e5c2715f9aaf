-- What a test of a row at all its corners says of the claim.
use Rattle.std.proofs.Common.{◌≡◌, ◌^◌, ◌<◌, ◌≤◌, ℕ, Bool, false, ℤ, pos, ◌*ℤ◌, ◌≤ℤ◌, ◌<ℤ◌, ◌*◌, unsigned_abs, refl, sym, subst, arith, le_refl, IsTrue}
use Rattle.std.specs.Prelude.{◌↔◌}
use Rattle.std.proofs.lemmas.Nat.{pow_pos}
use Rattle.std.proofs.lemmas.Int.{ints, unsigned_abs-mul}
use Rattle.lift_poly.proofs.Ring.{linear}
use Rattle.lift_cert.specs.Miss.{IsSmall}
use Rattle.lift_grid.specs.Rectangle.{Spans}
use Rattle.corner_lift.specs.Case.{CaseData, IsCase, IsInside, number, row_value, row_whole, row_parameters, corner_count, engine_limit}
use Rattle.lift_model.specs.Model.{row_at}
use Rattle.corner_lift.specs.Laws.{HasRow, NumbersAreInRange, SumsAreInRange}
use Rattle.audit_cert.specs.Claim.{Kind, ClaimData, IsMet}
use Rattle.audit_cert.specs.Claim.Kind.{upper, lower, priced}
use Rattle.audit_cert.specs.Form.{HasForm}
use Rattle.audit_cert.specs.Miss.{IsAtCorner, IsRowMiss, left_over, lesser, greater, product_of}
use Rattle.audit_cert.proofs.Saying.{in_place, denied}
use Rattle.audit_cert.proofs.Told.{told, unmet, whole-some, left-size, left-most}

-- a test that no sum is above the product, of any kind but a lower one
pub capped_by : (b : Bool) (w : ℕ) (kind : Kind) (s : ℕ) (n z whole : ℤ) (sum : ℕ → ℤ) (count : ℕ) → (kind ≡ lower → ⊥) → z ≡ left_over w kind s n
    → IsTrue b ↔ ((c : ℕ) → c < count → sum c ≤ℤ (z *ℤ whole))
    → IsTrue b ↔ ((c : ℕ) → c < count → lesser kind (sum c) (left_over w kind s n *ℤ whole) ≤ℤ greater kind (sum c) (left_over w kind s n *ℤ whole))
capped_by b w upper s n z whole sum count other same test = subst (λ (v : ℤ). IsTrue b ↔ ((c : ℕ) → c < count → sum c ≤ℤ (v *ℤ whole))) same test
capped_by b w lower s n z whole sum count other same test = absurd (other refl)
capped_by b w (priced costs cap) s n z whole sum count other same test = subst (λ (v : ℤ). IsTrue b ↔ ((c : ℕ) → c < count → sum c ≤ℤ (v *ℤ whole))) same test

-- and one that none is below it, of a lower one
pub held_by : (b : Bool) (w : ℕ) (kind : Kind) (s : ℕ) (n z whole : ℤ) (sum : ℕ → ℤ) (count : ℕ) → kind ≡ lower → z ≡ left_over w kind s n
    → IsTrue b ↔ ((c : ℕ) → c < count → (z *ℤ whole) ≤ℤ sum c)
    → IsTrue b ↔ ((c : ℕ) → c < count → lesser kind (sum c) (left_over w kind s n *ℤ whole) ≤ℤ greater kind (sum c) (left_over w kind s n *ℤ whole))
held_by b w upper s n z whole sum count is same test = absurd (cc is)
held_by b w lower s n z whole sum count is same test = subst (λ (v : ℤ). IsTrue b ↔ ((c : ℕ) → c < count → (v *ℤ whole) ≤ℤ sum c)) same test
held_by b w (priced costs cap) s n z whole sum count is same test = absurd (cc is)

-- so many digits have both
both_small : (kind : Kind) (sum product : ℤ) → IsSmall sum → IsSmall product → IsSmall (lesser kind sum product) × IsSmall (greater kind sum product)
both_small upper sum product f g = (f, g)
both_small lower sum product f g = (g, f)
both_small (priced costs cap) sum product f g = (f, g)

module _ (numbers : NumbersAreInRange) (sums : SumsAreInRange) (k : CaseData) (spans : Spans) (is : IsCase k) (inside : IsInside k.root spans) (c : ClaimData) (form : HasForm k c) (s a : ℕ) (there : HasRow k s a) where
  sum-least : (corner : ℕ) → pos 0 ≤ℤ row_value k spans s a c.targets corner
  sum-least corner = (sums k spans s a corner c.targets is inside there form.targets).0

  -- what is told is on its side exactly where the state's number is
  pub met_same : (corner : ℕ) → (lesser c.kind (row_value k spans s a c.targets corner) (product_of k c s a) ≤ℤ greater c.kind (row_value k spans s a c.targets corner) (product_of k c s a)) ↔ IsMet k spans c s a corner
  met_same corner = told k.w c.kind s (number c.numbers s) (row_value k spans s a c.targets corner) (row_whole k s a) (sum-least corner) (whole-some k s a is)

  pub each_met : (b : Bool) → IsTrue b ↔ ((corner : ℕ) → corner < corner_count k s a → lesser c.kind (row_value k spans s a c.targets corner) (product_of k c s a) ≤ℤ greater c.kind (row_value k spans s a c.targets corner) (product_of k c s a))
      → IsTrue b ↔ ((corner : ℕ) → corner < corner_count k s a → IsMet k spans c s a corner)
  each_met b test = in_place b test (λ all corner lt. (met_same corner).0 (all corner lt)) (λ all corner lt. (met_same corner).1 (all corner lt))

  -- where nothing is left, the row isn't met
  pub none_met : left_over k.w c.kind s (number c.numbers s) <ℤ pos 0 → IsTrue false ↔ ((corner : ℕ) → corner < corner_count k s a → IsMet k spans c s a corner)
  none_met less =
      let range = numbers k c.numbers s form.numbers in
      denied (λ all. unmet k.w (number c.numbers s) range.0 range.1 c.kind s (row_value k spans s a c.targets 0) (row_whole k s a) less (sum-least 0) (whole-some k s a is)
      (all 0 (pow_pos (row_parameters k (row_at k.model s a)))))

  -- ---- a corner

  pub mean_missed : (corner : ℕ) (left right : ℤ) → IsAtCorner k spans c s a corner → left ≡ lesser c.kind (row_value k spans s a c.targets corner) (product_of k c s a)
      → right ≡ greater c.kind (row_value k spans s a c.targets corner) (product_of k c s a) → right <ℤ left → IsRowMiss k spans c s a corner left right
  mean_missed corner left right at left_is right_is lt = record {
    at = at;
    left_is = left_is;
    right_is = right_is;
    above = lt;
    wrong = λ met. let le = (met_same corner).1 met in absurd (omega (arith, linear, le, left_is, right_is, lt));
  }

  pub mean_met : (corner : ℕ) (left right : ℤ) → left ≡ lesser c.kind (row_value k spans s a c.targets corner) (product_of k c s a)
      → right ≡ greater c.kind (row_value k spans s a c.targets corner) (product_of k c s a) → left ≤ℤ right → IsMet k spans c s a corner
  mean_met corner left right left_is right_is le = (met_same corner).0 (omega (arith, linear, le, left_is, right_is))

  -- what is left of the state's number has a size of at most 2 ^ w
  pub left_fits : unsigned_abs (left_over k.w c.kind s (number c.numbers s)) ≤ 2 ^ k.w
  left_fits = let range = numbers k c.numbers s form.numbers in left-size k.w (number c.numbers s) range.0 range.1 c.kind s

  pub left_range : (z : ℤ) → z ≡ left_over k.w c.kind s (number c.numbers s) → pos 0 ≤ℤ z → (pos 0 ≤ℤ z) × (z ≤ℤ pos (2 ^ k.w))
  left_range z same least = let range = numbers k c.numbers s form.numbers in (least, subst (λ (v : ℤ). v ≤ℤ pos (2 ^ k.w)) (sym same) (left-most k.w (number c.numbers s) range.0 range.1 c.kind s))

  pub told_small : ((n : ℕ) → n ≤ 2 ^ k.w → n * unsigned_abs (row_whole k s a) < engine_limit) → (corner : ℕ)
      → IsSmall (lesser c.kind (row_value k spans s a c.targets corner) (product_of k c s a)) × IsSmall (greater c.kind (row_value k spans s a c.targets corner) (product_of k c s a))
  told_small room corner =
      let range = sums k spans s a corner c.targets is inside there form.targets in
      let top : unsigned_abs (pos (2 ^ k.w) *ℤ row_whole k s a) ≡ 2 ^ k.w * unsigned_abs (row_whole k s a) = unsigned_abs-mul (pos (2 ^ k.w)) (row_whole k s a) in
      let sum_small : IsSmall (row_value k spans s a c.targets corner) = omega (arith, ints, range.0, range.1, top, room (2 ^ k.w) (le_refl (2 ^ k.w))) in
      let left = left_over k.w c.kind s (number c.numbers s) in
      let product_small : IsSmall (product_of k c s a) = rw (unsigned_abs-mul left (row_whole k s a)) (room (unsigned_abs left) left_fits) in
      both_small c.kind _ _ sum_small product_small
