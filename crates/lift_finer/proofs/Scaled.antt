-- Spans over a grid n times as fine: their lengths, and their halves.
use Rattle.std.proofs.Common.{◌≡◌, ℕ, zero, suc, ◌*◌, ◌≤◌, [], ◌∷◌, ℤ, pos, ◌+ℤ◌, ◌-ℤ◌, ◌*ℤ◌, ◌≤ℤ◌, unsigned_abs, refl, sym, ap, ap₂, ◌∙◌, arith, mul-le-mul_right, mul-lt-mul_of_pos_right, le_of_mul-le-mul_right, lt_of_mul-lt-mul_right}
use Rattle.std.specs.Prelude.{slice_index_or}
use Rattle.std.proofs.lemmas.Int.{ints, unsigned_abs-mul}
use Rattle.lift_poly.proofs.Ring.{linear, mul-comm, mul-le, add-mul, zero-mul, as_diff, diffs, diff-same}
use Rattle.lift_grid.specs.Rectangle.{Spans}
use Rattle.lift_grid.specs.Splitting.{span_length, IsSplitAxis, IsHalvable}
use Rattle.lift_grid.specs.Tree.{middle, lower_half, upper_half}
use Rattle.lift_finer.specs.Finer.{finer_spans}
use Rattle.lift_finer.specs.Laws.{SplitAxesStay, HalvesStay}
use Rattle.lift_finer.proofs.Alike.{swap}

-- ---- lengths

difference_times : (a b q : ℤ) → a *ℤ q -ℤ b *ℤ q ≡ (a -ℤ b) *ℤ q
difference_times a b q = rw (as_diff a, as_diff b, as_diff q) (simp diffs (diff-same _ _ _ _ (omega arith)))

module _ (n : ℕ) where
  span_at : (spans : Spans) (i : ℕ) → slice_index_or (finer_spans n spans) i (pos 0, pos 0) ≡ (let s = slice_index_or spans i (pos 0, pos 0) in (s.0 *ℤ pos n, s.1 *ℤ pos n))
  span_at [] i = ap₂ (λ (a b : ℤ). (a, b)) (sym (zero-mul (pos n))) (sym (zero-mul (pos n)))
  span_at (s ∷ spans) zero = refl
  span_at (s ∷ spans) (suc i) = span_at spans i

  length_times : (spans : Spans) (i : ℕ) → span_length (finer_spans n spans) i ≡ span_length spans i * n
  length_times spans i =
      let s = slice_index_or spans i (pos 0, pos 0) in
      ap (λ (r : ℤ × ℤ). unsigned_abs (r.1 -ℤ r.0)) (span_at spans i)
      ∙ ap unsigned_abs (difference_times s.1 s.0 (pos n))
      ∙ unsigned_abs-mul (s.1 -ℤ s.0) (pos n)

  finer_axis : (live : ℕ) (spans : Spans) (i : ℕ) → 1 ≤ n → IsSplitAxis live spans i → IsSplitAxis live (finer_spans n spans) i
  finer_axis live spans i le h = record {
    is_live = h.is_live;
    longest = λ j on. omega (arith, length_times spans i, length_times spans j, mul-le-mul_right n (h.longest j on));
    first = λ j on lt. omega (arith, length_times spans i, length_times spans j, mul-lt-mul_of_pos_right {k = n} (h.first j on lt) le);
  }

  coarse_axis : (live : ℕ) (spans : Spans) (i : ℕ) → 1 ≤ n → IsSplitAxis live (finer_spans n spans) i → IsSplitAxis live spans i
  coarse_axis live spans i le h = record {
    is_live = h.is_live;
    longest = λ j on. le_of_mul-le-mul_right {k = n} (omega (arith, length_times spans i, length_times spans j, h.longest j on)) le;
    first = λ j on lt. lt_of_mul-lt-mul_right n (omega (arith, length_times spans i, length_times spans j, h.first j on lt));
  }

pub split_axes_stay : SplitAxesStay
split_axes_stay live n spans i le = (finer_axis n live spans i le, coarse_axis n live spans i le)

-- ---- halves

middle_is : (low high m : ℤ) → low ≤ℤ high → low +ℤ high ≡ m *ℤ pos 2 → middle (low, high) ≡ m
middle_is low high m le e = omega (arith, ints)

-- where two ends have an even sum, the midpoint of n times as large ones is n times as large
middle_times : (n : ℕ) (low high half : ℤ) → low ≤ℤ high → low +ℤ high ≡ half *ℤ pos 2 → middle (low *ℤ pos n, high *ℤ pos n) ≡ middle (low, high) *ℤ pos n
middle_times n low high half le e =
    let q = pos n in
    let order : (low *ℤ q) ≤ℤ (high *ℤ q) = omega (arith, linear, mul-le q low high (omega (arith, linear)) le, mul-comm q low, mul-comm q high) in
    let sum : low *ℤ q +ℤ high *ℤ q ≡ (half *ℤ q) *ℤ pos 2 = sym (add-mul low high q) ∙ ap (λ z. z *ℤ q) e ∙ swap half (pos 2) q in
    middle_is (low *ℤ q) (high *ℤ q) (half *ℤ q) order sum ∙ ap (λ z. z *ℤ q) (sym (middle_is low high half le e))

halvable_rest : (axis : ℕ) (s : ℤ × ℤ) (spans : Spans) → IsHalvable (suc axis) (s ∷ spans) → IsHalvable axis spans
halvable_rest axis s spans h = record { some = omega (arith, h.some); even = h.even; apart = h.apart }

module _ (n : ℕ) where
  first_middle : (s : ℤ × ℤ) (spans : Spans) → IsHalvable 0 (s ∷ spans) → middle (s.0 *ℤ pos n, s.1 *ℤ pos n) ≡ middle s *ℤ pos n
  first_middle s spans can = middle_times n s.0 s.1 can.even.0 (omega (arith, linear, can.apart)) can.even.1

  lower_stays : (axis : ℕ) (spans : Spans) → IsHalvable axis spans → lower_half axis (finer_spans n spans) ≡ finer_spans n (lower_half axis spans)
  lower_stays axis [] can = refl
  lower_stays zero (s ∷ spans) can = ap (λ m. (s.0 *ℤ pos n, m) ∷ finer_spans n spans) (first_middle s spans can)
  lower_stays (suc axis) (s ∷ spans) can = ap (λ rest. (s.0 *ℤ pos n, s.1 *ℤ pos n) ∷ rest) (lower_stays axis spans (halvable_rest axis s spans can))

  upper_stays : (axis : ℕ) (spans : Spans) → IsHalvable axis spans → upper_half axis (finer_spans n spans) ≡ finer_spans n (upper_half axis spans)
  upper_stays axis [] can = refl
  upper_stays zero (s ∷ spans) can = ap (λ m. (m, s.1 *ℤ pos n) ∷ finer_spans n spans) (first_middle s spans can)
  upper_stays (suc axis) (s ∷ spans) can = ap (λ rest. (s.0 *ℤ pos n, s.1 *ℤ pos n) ∷ rest) (upper_stays axis spans (halvable_rest axis s spans can))

pub halves_stay : HalvesStay
halves_stay n axis spans can = (lower_stays n axis spans can, upper_stays n axis spans can)
