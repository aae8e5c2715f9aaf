-- The ladder is a valid model, and is admitted.
use Rattle.std.proofs.Common.{◌≡◌, ◌≤◌, ◌+◌, ◌*◌, ℕ, zero, suc, Bool, true, false, List, [], ◌∷◌, length, refl, sym, All, pos, negsuc, arith, length-append, Ok}
use Rattle.std.specs.Prelude.{◌+ℤ◌, ◌≤ℤ◌, if◌then◌else◌}
use Rattle.std.proofs.lemmas.Bool.{ne_eqb}
use Rattle.std.proofs.lemmas.List.Elements.{All-nil, All-append, All-from_recursion}
use Rattle.lift_poly.specs.Polynomial.{weight}
use Rattle.lift_grid.specs.Region.{region, intervals_of, interval_at, interval_of, clause_at, name_at, end_at, quotient, divisor_at, sign_at, literal_at, spans_over, over_grid}
use Rattle.lift_frac.specs.Gcd.{gcd}
use Rattle.lift_model.specs.Model.{ModelData, support}
use Rattle.lift_model.specs.Valid.{IsModel}
use Rattle.lift_model.specs.declared.entry.Entry.{Entry}
use Rattle.corner_lift.specs.Case.{IsAdmittedRow, IsAdmitted, IsCase, SumsToOne, IsNowhereNegative, case_of}
use Rattle.corner_lift.specs.Corner.{corner}
use Rattle.drn_read.specs.Laws.{SaysMore, TextsAreValid}
use Rattle.model_gen.specs.Ladder.{most_blocks, ladder_text, ladder, ladder_states, block_states, ladder_region_text, ladder_depth, ladder_precision, ladder_region, ladder_case, to, p_poly, not_p_poly, q_poly, not_q_poly, one_poly}
use Rattle.model_gen.proofs.Steps.{done}
use Rattle.model_gen.proofs.Whole.{ladder_read}

-- ---- a valid model

pub ladder_valid : SaysMore → TextsAreValid → (n : ℕ) → 1 ≤ n → n ≤ most_blocks → IsModel (ladder n)
ladder_valid more valid n h m = (valid (ladder_text n) done (ladder n) (ladder_read more n h m)).valid

count_states : (n i : ℕ) → length (ladder_states n i) ≡ 2 * i
unfolding ladder_states
count_states n zero = refl
count_states n (suc i) = omega (arith, count_states n i, length-append (ladder_states n i) (block_states n i))

pub states_count : (n : ℕ) → length (ladder n).states ≡ 2 * n + 2
states_count n = omega (arith, count_states n n, length-append (ladder_states n n) (((to (2 * n) one_poly ∷ []) ∷ []) ∷ ((to (2 * n + 1) one_poly ∷ []) ∷ []) ∷ []))

-- ---- the rows

-- an admitted row, whatever the model is but for its denominator
abbrev IsFine : ModelData → List Entry → Type 0
IsFine m row = IsAdmittedRow (case_of m ladder_region ladder_precision) row

-- x and 1-x sum to 1, by which set is asked for
sum_by : (empty single : Bool) → (single ≡ true → empty ≡ false)
    → ((if single then pos 1 else pos 0) +ℤ pos 0) +ℤ (((if empty then pos 1 else pos 0) +ℤ ((if single then negsuc 0 else pos 0) +ℤ pos 0)) +ℤ pos 0) ≡ (if empty then pos 1 else pos 0)
sum_by true true h = cc
sum_by true false h = refl
sum_by false true h = refl
sum_by false false h = refl

p_row : (m : ModelData) (s t : ℕ) → m.common ≡ pos 1 → IsFine m (to s p_poly ∷ to t not_p_poly ∷ [])
p_row m s t e = record {
  sum = sums;
  least = corners;
  few = omega arith;
  narrow = omega arith;
}
  where
    sums : SumsToOne m.common (to s p_poly ∷ to t not_p_poly ∷ [])
    sums zero = sym e
    sums (suc zero) = refl
    sums (suc (suc k)) = rw (ne_eqb 1 (suc (suc k)) (λ h. omega arith), ne_eqb 0 (suc (suc k)) (λ h. omega arith), ne_eqb (suc (suc k)) 0 (λ h. omega arith)) refl

    corners : IsNowhereNegative (case_of m ladder_region ladder_precision) (to s p_poly ∷ to t not_p_poly ∷ [])
    corners zero l = All-from_recursion (λ entry. pos 0 ≤ℤ weight (corner ladder_region.d ladder_region.spans (support (to s p_poly ∷ to t not_p_poly ∷ [])) 0) entry.poly) (to s p_poly ∷ to t not_p_poly ∷ []) (omega arith, (omega arith, tt))
    corners (suc zero) l = All-from_recursion (λ entry. pos 0 ≤ℤ weight (corner ladder_region.d ladder_region.spans (support (to s p_poly ∷ to t not_p_poly ∷ [])) 1) entry.poly) (to s p_poly ∷ to t not_p_poly ∷ []) (omega arith, (omega arith, tt))
    corners (suc (suc c)) l = absurd (omega arith)

q_row : (m : ModelData) (s t : ℕ) → m.common ≡ pos 1 → IsFine m (to s q_poly ∷ to t not_q_poly ∷ [])
q_row m s t e = record {
  sum = sums;
  least = corners;
  few = omega arith;
  narrow = omega arith;
}
  where
    sums : SumsToOne m.common (to s q_poly ∷ to t not_q_poly ∷ [])
    sums zero = sym e
    sums (suc zero) = refl
    sums (suc (suc zero)) = refl
    sums (suc (suc (suc k))) = rw (ne_eqb 2 (suc (suc (suc k))) (λ h. omega arith), ne_eqb 0 (suc (suc (suc k))) (λ h. omega arith), ne_eqb (suc (suc (suc k))) 0 (λ h. omega arith)) refl

    corners : IsNowhereNegative (case_of m ladder_region ladder_precision) (to s q_poly ∷ to t not_q_poly ∷ [])
    corners zero l = All-from_recursion (λ entry. pos 0 ≤ℤ weight (corner ladder_region.d ladder_region.spans (support (to s q_poly ∷ to t not_q_poly ∷ [])) 0) entry.poly) (to s q_poly ∷ to t not_q_poly ∷ []) (omega arith, (omega arith, tt))
    corners (suc zero) l = All-from_recursion (λ entry. pos 0 ≤ℤ weight (corner ladder_region.d ladder_region.spans (support (to s q_poly ∷ to t not_q_poly ∷ [])) 1) entry.poly) (to s q_poly ∷ to t not_q_poly ∷ []) (omega arith, (omega arith, tt))
    corners (suc (suc c)) l = absurd (omega arith)

one_row : (m : ModelData) (s : ℕ) → m.common ≡ pos 1 → IsFine m (to s one_poly ∷ [])
one_row m s e = record {
  sum = sums;
  least = corners;
  few = omega arith;
  narrow = omega arith;
}
  where
    sums : SumsToOne m.common (to s one_poly ∷ [])
    sums zero = sym e
    sums (suc k) = rw (ne_eqb 0 (suc k) (λ h. omega arith), ne_eqb (suc k) 0 (λ h. omega arith)) refl

    corners : IsNowhereNegative (case_of m ladder_region ladder_precision) (to s one_poly ∷ [])
    corners zero l = All-from_recursion (λ entry. pos 0 ≤ℤ weight (corner ladder_region.d ladder_region.spans (support (to s one_poly ∷ [])) 0) entry.poly) (to s one_poly ∷ []) (omega arith, tt)
    corners (suc c) l = absurd (omega arith)

one_choice : (m : ModelData) (row : List Entry) → IsFine m row → All (IsFine m) (row ∷ [])
one_choice m row h = All-from_recursion (IsFine m) (row ∷ []) (h, tt)

blocks_fine : (m : ModelData) (n i : ℕ) → m.common ≡ pos 1 → All (All (IsFine m)) (ladder_states n i)
unfolding ladder_states
blocks_fine m n zero e = All-nil (All (IsFine m))
blocks_fine m n (suc i) e =
    All-append (All (IsFine m)) (ladder_states n i) (block_states n i) (blocks_fine m n i e)
    (All-from_recursion (All (IsFine m)) (block_states n i) (one_choice m _ (p_row m (2 * i + 2) (2 * i + 1) e), (one_choice m _ (q_row m (2 * i) (2 * n + 1) e), tt)))

pub ladder_fine : (n : ℕ) → All (All (IsFine (ladder n))) (ladder n).states
ladder_fine n =
    let last : List (List (List Entry)) = ((to (2 * n) one_poly ∷ []) ∷ []) ∷ ((to (2 * n + 1) one_poly ∷ []) ∷ []) ∷ [] in
    All-append (All (IsFine (ladder n))) (ladder_states n n) last (blocks_fine (ladder n) n n refl)
    (All-from_recursion (All (IsFine (ladder n))) last (one_choice (ladder n) _ (one_row (ladder n) (2 * n) refl), (one_choice (ladder n) _ (one_row (ladder n) (2 * n + 1) refl), tt)))

pub ladder_admitted : (n : ℕ) → 1 ≤ n → n ≤ most_blocks → IsAdmitted (ladder_case n)
ladder_admitted n h m = ladder_fine n

pub ladder_is_case : SaysMore → TextsAreValid → (n : ℕ) → 1 ≤ n → n ≤ most_blocks → IsCase (ladder_case n)
ladder_is_case more valid n h m = record {
  asked = record {
    model = ladder_valid more valid n h m;
    spans = (record { rising = omega arith; low = omega arith; high = omega arith }, (record { rising = omega arith; low = omega arith; high = omega arith }, tt));
    grid = record { positive = omega arith; small = omega arith; one_each = refl; multiples = (((pos 5, refl), (pos 6, refl)), (((pos 5, refl), (pos 6, refl)), tt)) };
    depth = omega arith;
    precision = (omega arith, omega arith);
  };
  admitted = ladder_fine n;
}

pub names_region : (n : ℕ) → region (ladder n).names ladder_depth ladder_region_text ≡ Ok ladder_region
unfolding region intervals_of interval_at interval_of clause_at name_at end_at quotient divisor_at sign_at literal_at spans_over over_grid gcd
names_region n = refl
