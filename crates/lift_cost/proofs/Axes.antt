-- While a halving is left, some parameter is live, and so the split rule chooses an axis: the first of the longest.
use Rattle.std.proofs.Common.{◌≡◌, ℕ, zero, suc, ◌*◌, ◌^◌, ◌<◌, ◌≤◌, ◌⊎◌, inl, inr, ⊎_elim, eqb, length, IsBitSet, bit_and, ap, sym, ◌∙◌, arith}
use Rattle.std.specs.Int.{bit_at}
use Rattle.std.proofs.Math.Nat.{eq_of_mul-eq-mul_right, zero-mul}
use Rattle.std.proofs.lemmas.Bool.{cases_lt, cases_eq, cond-true, eq-eqb}
use Rattle.std.proofs.lemmas.Nat.{pow_pos}
use Rattle.std.proofs.lemmas.Nat.Bits.{and_pow, same_from_bits, bit_at-zero}
use Rattle.lift_grid.specs.Rectangle.{Spans}
use Rattle.lift_grid.specs.Splitting.{span_length, IsSplitAxis, IsAxisAmong}
use Rattle.lift_model.specs.Model.{live}
use Rattle.corner_lift.specs.Case.{CaseData, IsCase, IsInside, greatest_depth}
use Rattle.corner_lift.specs.Laws.{LiveHasSpan}
use Rattle.lift_cost.proofs.Searches.{one_more_place}

-- a set without members is 0
no_member : (set : ℕ) → ((j : ℕ) → IsBitSet set j → ⊥) → set ≡ 0
no_member set none = same_from_bits set 0 (λ j.
    ⊎_elim
    (λ (off : bit_and set (2 ^ j) ≡ 0). eq_of_mul-eq-mul_right (2 ^ j) (pow_pos j) (bit_at set j) (bit_at 0 j) (sym (and_pow set j) ∙ off ∙ sym (ap (λ b. b * 2 ^ j) (bit_at-zero j) ∙ zero-mul (2 ^ j))))
    (λ (on : IsBitSet set j). absurd (none j on))
    (cases_eq (bit_and set (2 ^ j)) 0))

module _ (set : ℕ) (ss : Spans) where
  -- no parameter below n is in the set
  abbrev NoneBelow : ℕ → Type 0
  NoneBelow n = (j : ℕ) → j < n → IsBitSet set j → ⊥

  abbrev Among : ℕ → Type 0
  Among n = (i : ℕ) × IsAxisAmong n set ss i

  -- the axis among one parameter more, where that isn't longer
  still_among : (n : ℕ) → (one : Among n) → (IsBitSet set n → span_length ss n ≤ span_length ss one.0) → Among (suc n)
  still_among n one no_longer = (
    one.0,
    record {
      below = omega (arith, one.1.below);
      is_live = one.1.is_live;
      longest = λ j on lt. one_more_place (λ i. IsBitSet set i → span_length ss i ≤ span_length ss one.0) n (λ i less live. one.1.longest i live less) no_longer j lt on;
      first = one.1.first;
    },
  )

  -- where it is longer than all before
  longer_among : (n : ℕ) → IsBitSet set n → ((j : ℕ) → j < n → IsBitSet set j → span_length ss j < span_length ss n) → Among (suc n)
  longer_among n on longer = (
    n,
    record {
      below = omega arith;
      is_live = on;
      longest = λ j live lt. one_more_place (λ i. IsBitSet set i → span_length ss i ≤ span_length ss n) n (λ i less here. let lt = longer i less here in omega (arith, lt)) (λ here. omega arith) j lt live;
      first = λ j live lt. longer j lt live;
    },
  )

  among_or_none : (n : ℕ) → NoneBelow n ⊎ Among n
  among_or_none zero = inl (λ j lt on. absurd (omega (arith, lt)))
  among_or_none (suc n) =
      ⊎_elim
      (λ (off : bit_and set (2 ^ n) ≡ 0).
      ⊎_elim
      (λ (none : NoneBelow n). let no : NoneBelow (suc n) ⊎ Among (suc n) = inl (one_more_place (λ i. IsBitSet set i → ⊥) n none (λ on. on off)) in no)
      (λ (one : Among n). let yes : NoneBelow (suc n) ⊎ Among (suc n) = inr (still_among n one (λ on. absurd (on off))) in yes)
      (among_or_none n))
      (λ (on : IsBitSet set n).
      ⊎_elim
      (λ (none : NoneBelow n). let yes : NoneBelow (suc n) ⊎ Among (suc n) = inr (longer_among n on (λ j lt live. absurd (none j lt live))) in yes)
      (λ (one : Among n).
      ⊎_elim
      (λ (longer : span_length ss one.0 < span_length ss n). let yes : NoneBelow (suc n) ⊎ Among (suc n) = inr (longer_among n on (λ j lt live. let le = one.1.longest j live lt in omega (arith, le, longer))) in yes)
      (λ (no_longer : span_length ss n ≤ span_length ss one.0). let yes : NoneBelow (suc n) ⊎ Among (suc n) = inr (still_among n one (λ here. no_longer)) in yes)
      (cases_lt (span_length ss one.0) (span_length ss n)))
      (among_or_none n))
      (cases_eq (bit_and set (2 ^ n)) 0)

some_live : (k : CaseData) (depth : ℕ) → depth < greatest_depth k → live k.model ≡ 0 → ⊥
some_live k depth lt e =
    let none : greatest_depth k ≡ 0 = cond-true (eqb (live k.model) 0) 0 k.depth (eq-eqb (live k.model) 0 e) in
    omega (arith, lt, none)

-- while a halving is left, the split rule chooses an axis
pub split_axis : LiveHasSpan → (k : CaseData) (spans : Spans) (depth : ℕ) → IsCase k → IsInside k.root spans → depth < greatest_depth k → (axis : ℕ) × IsSplitAxis (live k.model) spans axis
split_axis has_span k spans depth is inside left =
    let below : (j : ℕ) → IsBitSet (live k.model) j → j < length spans = λ j on. has_span k spans j is inside on in
    ⊎_elim
    (λ (none : NoneBelow (live k.model) spans (length spans)). absurd (some_live k depth left (no_member (live k.model) (λ j on. none j (below j on) on))))
    (λ (one : Among (live k.model) spans (length spans)).
    let axis : (axis : ℕ) × IsSplitAxis (live k.model) spans axis = (one.0, record { is_live = one.1.is_live; longest = λ j on. one.1.longest j on (below j on); first = one.1.first }) in axis)
    (among_or_none (live k.model) spans (length spans))
