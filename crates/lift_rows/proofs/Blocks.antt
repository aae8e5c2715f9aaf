-- Sums of a row's coefficients, a block of 256 sets at a time.
use Rattle.std.proofs.Common.{◌≡◌, ◌≢◌, ℕ, zero, suc, ◌+◌, ◌-◌, ◌*◌, ◌/◌, ◌%◌, ◌<◌, ◌≤◌, List, [], ◌∷◌, length, drop, get_or, set, Option, None, Some, is_some, slice_get, true, false, cond, nat_eq, ne_eqb, ℤ, pos, ◌+ℤ◌, unsigned_abs, All, FitsSigned, ⊎_elim, bit_or, refl, sym, ap, ap₂, subst, ◌∙◌, arith, drop-cons}
use Rattle.std.specs.Prelude.{MatchOption}
use Rattle.std.proofs.lemmas.Bool.{cases_eq, cases_lt}
use Rattle.std.proofs.lemmas.Bool.Decides.{nat_tests}
use lib.Bits.{or_self, or_comm}
use Rattle.std.proofs.lemmas.Int.{fits_signed_from_abs, ints}
use Rattle.std.proofs.lemmas.List.{get_or-set_same, get_or-set_other}
use Rattle.std.proofs.lemmas.List.Elements.{All-tail, All-drop}
use Rattle.std.proofs.lemmas.Nat.{or_shr, le_or_l}
use Rattle.std.proofs.lemmas.Nat.Bits.{same_from_bits, bit_at_or}
use Rattle.std.proofs.lemmas.Option.{get_or_from_slice_get, slice_get_within}
use mir.Syntax.{w128}
use Rattle.lift_poly.specs.Polynomial.{Term, IsPolynomial}
use Rattle.lift_poly.specs.Arithmetic as polynomial
use Rattle.lift_poly.specs.Arithmetic.{coefficient}
use Rattle.lift_poly.specs.MultiAffine.{IsMultiAffine}
use Rattle.lift_poly.specs.Laws.{CoefficientsAreTerms}
use Rattle.lift_poly.proofs.Ring.{linear}
use Rattle.lift_model.specs.declared.entry.Entry.{Entry}
use Rattle.lift_model.specs.Model.{support}
use Rattle.corner_lift.specs.Case.{row_coefficient, due, SumsToOne}
use Rattle.lift_rows.specs.Fault.{IsSumFault}
use Rattle.lift_model.specs.Valid.{coefficient_limit}
use Rattle.lift_rows.specs.Sums.{IsFirstWrong, sum_limit}

-- ---- the terms of a polynomial

-- the coefficient's size is below coefficient_limit
abbrev pub IsSmall : Term → Type 0
IsSmall term = unsigned_abs term.1 < coefficient_limit

-- a polynomial without its first terms is one too
polynomial_rest : (t : Term) (ts : List Term) → IsPolynomial (t ∷ ts) → IsPolynomial ts
polynomial_rest t ts h = record {
  ascending = λ i lt. let next : suc i + 1 ≡ suc (i + 1) = omega arith in rw next at (h.ascending (suc i) (omega (arith, lt)));
  coefficients = All-tail (λ (u : Term). u.1 ≢ pos 0) t ts h.coefficients;
}

polynomial_left : (k : ℕ) (ts : List Term) → IsPolynomial ts → IsPolynomial (drop k ts)
polynomial_left zero ts h = h
polynomial_left (suc k) [] h = h
polynomial_left (suc k) (t ∷ ts) h = polynomial_left k ts (polynomial_rest t ts h)

pub coefficient_small : CoefficientsAreTerms → (ts : List Term) → IsPolynomial ts → All IsSmall ts → (at : ℕ) → unsigned_abs (coefficient at ts) < coefficient_limit
coefficient_small found ts h small at =
    ⊎_elim
    (λ none. subst (λ z. unsigned_abs z < coefficient_limit) (sym none) (omega arith))
    (λ term. subst IsSmall term.2 (small term.0 (at, coefficient at ts) term.1))
    (found ts at h)

-- the terms that are left make a polynomial too
left_small : CoefficientsAreTerms → (at k : ℕ) (ts : List Term) → IsPolynomial ts → All IsSmall ts → unsigned_abs (coefficient at (drop k ts)) < coefficient_limit
left_small found at k ts h small = coefficient_small found (drop k ts) (polynomial_left k ts h) (All-drop IsSmall k ts small) at

-- the coefficient at a set, by whether the first term has it
coefficient-here : (set : ℕ) (t : Term) (ts : List Term) → t.0 ≡ set → coefficient set (t ∷ ts) ≡ t.1 +ℤ coefficient set ts
coefficient-here set t ts e = grind (arith, nat_tests)

coefficient-other : (set : ℕ) (t : Term) (ts : List Term) → t.0 ≢ set → coefficient set (t ∷ ts) ≡ coefficient set ts
coefficient-other set t ts ne = let other : cond (nat_eq t.0 set) t.1 (pos 0) ≡ pos 0 = ap (λ b. cond b t.1 (pos 0)) (ne_eqb t.0 set ne) in omega (arith, linear, other)

-- a loop's step: one term more
module _ (ts : List Term) (k : ℕ) (t : Term) (is : slice_get ts k ≡ Some t) where
  terms_left : drop k ts ≡ t ∷ drop (k + 1) ts
  terms_left =
      drop-cons ts k t (slice_get_within ts k t is)
      ∙ ap₂ (λ (x : Term) (j : ℕ). x ∷ drop j ts) (get_or_from_slice_get ts k t t is) (let e : suc k ≡ k + 1 = omega arith in e)

  added_here : (at : ℕ) (sum whole : ℤ) → t.0 ≡ at → sum +ℤ coefficient at (drop k ts) ≡ whole → (sum +ℤ t.1) +ℤ coefficient at (drop (k + 1) ts) ≡ whole
  added_here at sum whole e h = omega (arith, linear, h, ap (coefficient at) terms_left, coefficient-here at t (drop (k + 1) ts) e)

  -- at any other set nothing is added
  pub left_out : (at : ℕ) (sum whole : ℤ) → t.0 ≢ at → sum +ℤ coefficient at (drop k ts) ≡ whole → sum +ℤ coefficient at (drop (k + 1) ts) ≡ whole
  left_out at sum whole ne h = omega (arith, linear, h, ap (coefficient at) terms_left, coefficient-other at t (drop (k + 1) ts) ne)

  module _ (block : ℕ) (at : t.0 / 256 ≡ block) where
    set_is : t.0 ≡ block * 256 + t.0 % 256
    set_is = omega arith

    -- with the term, the sum fits
    pub term_fits : CoefficientsAreTerms → (sum before : ℤ) → IsMultiAffine ts → All IsSmall ts → unsigned_abs before < sum_limit → sum +ℤ coefficient (block * 256 + t.0 % 256) (drop k ts) ≡ before +ℤ coefficient (block * 256 + t.0 % 256) ts → FitsSigned w128 (sum +ℤ t.1)
    term_fits found sum before fits small room h =
        let at = block * 256 + t.0 % 256 in
        fits_signed_from_abs w128 (sum +ℤ t.1)
        (omega (arith, ints, room, added_here at sum (before +ℤ coefficient at ts) set_is h, coefficient_small found ts fits.polynomial small at, left_small found at (k + 1) ts fits.polynomial small))

    -- the term is added to the sum at its set, and to no other
    pub added_in : (sums : List ℤ) (j : ℕ) (whole : ℤ) → t.0 % 256 < length sums → j < 256 → get_or sums j (pos 0) +ℤ coefficient (block * 256 + j) (drop k ts) ≡ whole
        → get_or (set sums (t.0 % 256) (get_or sums (t.0 % 256) (pos 0) +ℤ t.1)) j (pos 0) +ℤ coefficient (block * 256 + j) (drop (k + 1) ts) ≡ whole
    added_in sums j whole within lt h =
        ⊎_elim
        (λ (e : j ≡ t.0 % 256). rw (e, get_or-set_same) (added_here (block * 256 + t.0 % 256) (get_or sums (t.0 % 256) (pos 0)) whole set_is (rw e at h)))
        (λ (e : j ≡ t.0 % 256 → ⊥). rw (get_or-set_other sums (t.0 % 256) j (get_or sums (t.0 % 256) (pos 0) +ℤ t.1) (pos 0) e) (left_out (block * 256 + j) (get_or sums j (pos 0)) whole (omega (arith, set_is)) h))
        (cases_eq j (t.0 % 256))

-- ---- the sets of a row

or_assoc : (a b c : ℕ) → bit_or (bit_or a b) c ≡ bit_or a (bit_or b c)
or_assoc a b c =
    same_from_bits (bit_or (bit_or a b) c) (bit_or a (bit_or b c))
    (λ i. omega (arith, bit_at_or (bit_or a b) c i, bit_at_or a b i, bit_at_or a (bit_or b c) i, bit_at_or b c i))

-- the first set is part of the second
unfoldable PartOf : ℕ → ℕ → Type 0
PartOf a b = bit_or a b ≡ b

PartOf-first : (a b : ℕ) → PartOf a (bit_or a b)
unfolding PartOf
PartOf-first a b = sym (or_assoc a a b) ∙ ap (λ x. bit_or x b) (or_self a)

PartOf-second : (a b : ℕ) → PartOf b (bit_or a b)
unfolding PartOf
PartOf-second a b = or_comm b (bit_or a b) ∙ or_assoc a b b ∙ ap (bit_or a) (or_self b)

PartOf-trans : (a b c : ℕ) → PartOf a b → PartOf b c → PartOf a c
unfolding PartOf
PartOf-trans a b c h k = ap (bit_or a) (sym k) ∙ sym (or_assoc a b c) ∙ ap (λ x. bit_or x c) h ∙ k

-- no term has a set that isn't part of all
outside_terms : (at all : ℕ) (ts : List Term) → (PartOf at all → ⊥) → PartOf (polynomial.support ts) all → coefficient at ts ≡ pos 0
outside_terms at all [] apart part = refl
outside_terms at all (t ∷ ts) apart part =
    let rest = polynomial.support ts in
    coefficient-other at t ts (λ (e : t.0 ≡ at). apart (subst (λ n. PartOf n all) e (PartOf-trans t.0 (bit_or t.0 rest) all (PartOf-first t.0 rest) part)))
    ∙ outside_terms at all ts apart (PartOf-trans rest (bit_or t.0 rest) all (PartOf-second t.0 rest) part)

outside_row : (at all : ℕ) (row : List Entry) → (PartOf at all → ⊥) → PartOf (support row) all → row_coefficient at row ≡ pos 0
outside_row at all [] apart part = refl
outside_row at all (e ∷ row) apart part =
    let first = polynomial.support e.poly in
    let rest = support row in
    let terms = outside_terms at all e.poly apart (PartOf-trans first (bit_or first rest) all (PartOf-first first rest) part) in
    omega (arith, linear, terms, outside_row at all row apart (PartOf-trans rest (bit_or first rest) all (PartOf-second first rest) part))

-- where no term has the set, nothing is summed, and 0 is due
outside : (common : ℤ) (row : List Entry) (at : ℕ) → (PartOf at (support row) → ⊥) → row_coefficient at row ≡ due common at
unfolding PartOf
outside common row zero apart = absurd (apart refl)
outside common row (suc at) apart = rw (ne_eqb (suc at) 0 (omega arith)) (outside_row (suc at) (support row) row apart (or_self (support row)))

part_block : (at all : ℕ) → PartOf at all → bit_or (at / 256) (all / 256) ≡ all / 256
unfolding PartOf
part_block at all h = sym (or_shr at all 8) ∙ ap (λ n. n / 256) h

part_le : (at all : ℕ) → PartOf at all → at ≤ all
unfolding PartOf
part_le at all h = subst (λ n. at ≤ n) h (le_or_l at all)

-- ---- blocks of sets

-- the coefficients sum to what is due, at each set below the block
abbrev pub AreRight : ℤ → List Entry → ℕ → Type 0
AreRight common row block = (at : ℕ) → at < block * 256 → row_coefficient at row ≡ due common at

-- they do at each set of the block
abbrev pub IsRight : ℤ → List Entry → ℕ → Type 0
IsRight common row block = (i : ℕ) → i < 256 → row_coefficient (block * 256 + i) row ≡ due common (block * 256 + i)

module _ (common : ℤ) (row : List Entry) (block : ℕ) where
  abbrev IsRightAt : ℕ → Type 0
  IsRightAt at = row_coefficient at row ≡ due common at

  -- a set that isn't below the block, by its place
  place : (at : ℕ) → block * 256 ≤ at → block * 256 + (at - block * 256) ≡ at
  place at le = omega arith

  pub right_more : AreRight common row block → IsRight common row block → AreRight common row (block + 1)
  right_more before here at lt =
      ⊎_elim (before at) (λ (le : block * 256 ≤ at). subst IsRightAt (place at le) (here (at - block * 256) (omega arith))) (cases_lt at (block * 256))

  -- a block that is passed over has no set of the row
  pub right_over : bit_or block (support row / 256) ≢ support row / 256 → IsRight common row block
  right_over ne i lt =
      let at = block * 256 + i in
      let e : at / 256 ≡ block = omega arith in
      outside common row at (λ part. ne (subst (λ n. bit_or n (support row / 256) ≡ support row / 256) e (part_block at (support row) part)))

  -- nor has one past the last
  pub right_all : support row / 256 < block → AreRight common row block → SumsToOne common row
  right_all last before at =
      ⊎_elim (before at) (λ (le : block * 256 ≤ at). outside common row at (λ part. omega (arith, part_le at (support row) part))) (cases_lt at (block * 256))

  module _ (sums : List ℤ) (is : (i : ℕ) → i < 256 → get_or sums i (pos 0) ≡ row_coefficient (block * 256 + i) row) where
    -- what `first_wrong` answers
    abbrev Found : Option (ℕ × ℤ) → Type 0
    Found wrong = MatchOption wrong ((i : ℕ) → i < 256 → get_or sums i (pos 0) ≡ due common (block * 256 + i)) (λ fault. IsFirstWrong sums block common fault.0 fault.1)

    pub right_here : (wrong : Option (ℕ × ℤ)) → is_some wrong ≡ false → Found wrong → IsRight common row block
    right_here None e h i lt = sym (is i lt) ∙ h i lt
    right_here (Some fault) e h i lt = cc

    pub wrong_here : (wrong : Option (ℕ × ℤ)) → is_some wrong ≡ true → Found wrong → AreRight common row block → MatchOption wrong (SumsToOne common row) (λ fault. IsSumFault common row fault.0 fault.1)
    wrong_here None e h before = cc
    wrong_here (Some fault) e h before = record {
      is = h.is ∙ is h.place h.in_block ∙ ap (λ at. row_coefficient at row) (sym h.set_is);
      wrong = h.wrong;
      least = λ at lt.
          ⊎_elim
          (before at)
          (λ (le : block * 256 ≤ at).
          let i = at - block * 256 in
          let near : i < h.place = omega (arith, h.set_is) in
          subst IsRightAt (place at le) (sym (is i (omega (arith, h.in_block))) ∙ h.least i near))
          (cases_lt at (block * 256));
    }
