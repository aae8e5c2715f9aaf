-- While a halving is left, some parameter is live, and so the split rule chooses an axis: the first of the longest.
use Rattle.std.proofs.Common.{◌≡◌, ℕ, zero, suc, ◌*◌, ◌^◌, ◌<◌, ◌≤◌, ◌⊎◌, inl, inr, ⊎_elim, eqb, length, IsBitSet, bit_and, ap, sym, ◌∙◌, arith}
use Rattle.std.specs.Int.{bit_at}
use Rattle.std.proofs.lemmas.Bool.{cases_lt, cases_eq, cond-true, eq-eqb}
use Rattle.std.proofs.lemmas.Nat.{pow_pos}
use Rattle.std.proofs.lemmas.Nat.Bits.{and_pow, bit_at-lt, same_from_bits, bit_at-zero}
use Rattle.lift_grid.specs.Rectangle.{Spans}
use Rattle.lift_grid.specs.Splitting.{span_length, IsSplitAxis}
use Rattle.lift_model.specs.Model.{live}
use Rattle.corner_lift.specs.Case.{CaseData, IsCase, IsInside, greatest_depth}
use Rattle.corner_lift.specs.Laws.{LiveHasSpan}
use Rattle.region_tree.proofs.Searches.{at_most_or_not, both_or_not, implied_or_not, all_or_one, all_or_not, IsFirst, first, sum_to, sum-at}

set_or_not : (set j : ℕ) → IsBitSet set j ⊎ (IsBitSet set j → ⊥)
set_or_not set j = ⊎_elim (λ (off : bit_and set (2 ^ j) ≡ 0). inr (λ on. on off)) (λ (on : IsBitSet set j). inl on) (cases_eq (bit_and set (2 ^ j)) 0)

-- a set without members is 0
no_member : (set : ℕ) → ((j : ℕ) → IsBitSet set j → ⊥) → set ≡ 0
no_member set none = same_from_bits set 0 (λ j. bit_off j ∙ sym (bit_at-zero j))
  where
    of_product : (b p : ℕ) → 0 < p → b < 2 → b * p ≡ 0 → b ≡ 0
    of_product zero p some small e = omega arith
    of_product (suc b) p some small e = absurd (let one : b ≡ 0 = omega (arith, small) in let same : suc b * p ≡ 1 * p = ap (λ n. suc n * p) one in omega (arith, e, same, some))

    bit_off : (j : ℕ) → bit_at set j ≡ 0
    bit_off j =
        ⊎_elim
        (λ (off : bit_and set (2 ^ j) ≡ 0). of_product (bit_at set j) (2 ^ j) (pow_pos j) (bit_at-lt set j) (sym (and_pow set j) ∙ off))
        (λ (on : IsBitSet set j). absurd (none j on))
        (cases_eq (bit_and set (2 ^ j)) 0)

some_live : (k : CaseData) (depth : ℕ) → depth < greatest_depth k → live k.model ≡ 0 → ⊥
some_live k depth lt e =
    let none : greatest_depth k ≡ 0 = cond-true (eqb (live k.model) 0) 0 k.depth (eq-eqb (live k.model) 0 e) in
    omega (arith, lt, none)

module _ (set : ℕ) (ss : Spans) (n : ℕ) (below : (j : ℕ) → IsBitSet set j → j < n) (some : set ≡ 0 → ⊥) where
  -- no member has a longer span
  abbrev AreAtMost : ℕ → Type 0
  AreAtMost size = (j : ℕ) → j < n → IsBitSet set j → span_length ss j ≤ size

  abbrev IsLongest : ℕ → Type 0
  IsLongest i = IsBitSet set i × AreAtMost (span_length ss i)

  at_most_all : (size : ℕ) → AreAtMost size ⊎ (AreAtMost size → ⊥)
  at_most_all size = all_or_not (λ j. IsBitSet set j → span_length ss j ≤ size) (λ j. implied_or_not (set_or_not set j) (at_most_or_not (span_length ss j) size)) n

  longest_or_not : (i : ℕ) → IsLongest i ⊎ (IsLongest i → ⊥)
  longest_or_not i = both_or_not (set_or_not set i) (at_most_all (span_length ss i))

  -- a member whose span is of the least size that no member's exceeds
  longest_of : (size : ℕ) → IsFirst AreAtMost size → (i : ℕ) × IsLongest i
  longest_of zero least =
      ⊎_elim
      (λ (none : (j : ℕ) → j < n → IsBitSet set j → ⊥). absurd (some (no_member set (λ j on. none j (below j on) on))))
      (λ (one : (j : ℕ) × ((j < n) × IsBitSet set j)). (one.0, (one.1.1, λ j lt on. (let zero_length = least.holds j lt on in omega (arith, zero_length)))))
      (all_or_one (λ j. IsBitSet set j → ⊥) (λ j. IsBitSet set j)
      (λ j. ⊎_elim (λ (on : IsBitSet set j). inr on) (λ (off : IsBitSet set j → ⊥). inl off) (set_or_not set j))
      n)
  longest_of (suc size) least =
      ⊎_elim
      (λ (all : AreAtMost size). absurd (let most = least.least size all in omega (arith, most)))
      (λ (one : (j : ℕ) × ((j < n) × (IsBitSet set j × (size < span_length ss j)))).
      let longer = one.1.1.1 in
      (one.0, (one.1.1.0, λ j lt on. (let most = least.holds j lt on in omega (arith, most, longer)))))
      (all_or_one (λ j. IsBitSet set j → span_length ss j ≤ size) (λ j. IsBitSet set j × (size < span_length ss j))
      (λ j. ⊎_elim
      (λ (on : IsBitSet set j). ⊎_elim (λ (lt : size < span_length ss j). inr (on, lt)) (λ (le : span_length ss j ≤ size). inl (λ _. le)) (cases_lt size (span_length ss j)))
      (λ (off : IsBitSet set j → ⊥). inl (λ on. absurd (off on)))
      (set_or_not set j))
      n)

  longest : (i : ℕ) × IsLongest i
  longest = let size = first AreAtMost at_most_all (sum_to (span_length ss) n) (λ j lt on. sum-at (span_length ss) n j lt) in longest_of size.0 size.1

  pub axis : (i : ℕ) × IsSplitAxis set ss i
  axis =
      let i = first IsLongest longest_or_not longest.0 longest.1 in
      let is = i.1 in (
        i.0,
        record {
          is_live = is.holds.0;
          longest = λ j on. is.holds.1 j (below j on) on;
          first =
              λ j on before. ⊎_elim
              (λ (lt : span_length ss j < span_length ss i.0). lt)
              (λ (le : span_length ss i.0 ≤ span_length ss j).
              absurd (let least = is.least j (on, λ m lt here. (let most = is.holds.1 m lt here in omega (arith, most, le))) in omega (arith, least, before)))
              (cases_lt (span_length ss j) (span_length ss i.0));
        },
      )

pub split_axes_exist : LiveHasSpan → (k : CaseData) (spans : Spans) (depth : ℕ) → IsCase k → IsInside k.root spans → depth < greatest_depth k → (axis : ℕ) × IsSplitAxis (live k.model) spans axis
split_axes_exist has_span k spans depth is inside left = axis (live k.model) spans (length spans) (λ j on. has_span k spans j is inside on) (some_live k depth left)
