-- Rows with the same polynomials, entry for entry, are admitted alike.
use Rattle.std.proofs.Common.{◌≡◌, ℕ, ◌*◌, ◌^◌, ◌<◌, ◌≤◌, List, [], ◌∷◌, map, length, get_or, ℤ, pos, ◌+ℤ◌, ◌≤ℤ◌, bit_or, refl, sym, ap, subst, ◌∙◌, arith}
use Rattle.std.specs.List.{sum}
use Rattle.std.proofs.lemmas.List.Sums.{sum-map}
use Rattle.std.proofs.lemmas.List.{get_or-map, get_or_default, length-map}
use Rattle.lift_poly.specs.Polynomial.{Term, weight}
use Rattle.lift_poly.specs.Arithmetic as polynomial
use Rattle.lift_model.specs.declared.entry.Entry.{Entry}
use Rattle.lift_model.specs.Links.{LinksData, ArePlaces, HasChoice, polynomials, first_row, no_first}
use Rattle.lift_model.specs.Model.{union, support, choices, row_at}
use Rattle.corner_lift.specs.Corner.{corner, parameter_count}
use Rattle.corner_lift.specs.Case.{CaseData, IsAdmittedRow, IsAdmitted, row_coefficient, row_parameters, abs_sum, greatest_size, engine_limit, most_row_parameters}

-- ---- what the polynomials alone give

coefficient_of : ℕ → List (List Term) → ℤ
coefficient_of set [] = pos 0
coefficient_of set (p ∷ ps) = polynomial.coefficient set p +ℤ coefficient_of set ps

coefficient_by : (set : ℕ) (row : List Entry) → row_coefficient set row ≡ coefficient_of set (polynomials row)
unfolding coefficient_of
coefficient_by set [] = refl
coefficient_by set (entry ∷ row) = ap (λ z. polynomial.coefficient set entry.poly +ℤ z) (coefficient_by set row)

support_by : (row : List Entry) → support row ≡ union (map polynomial.support (polynomials row))
support_by [] = refl
support_by (entry ∷ row) = ap (λ set. bit_or (polynomial.support entry.poly) set) (support_by row)

sizes_by : (row : List Entry) → map (λ (entry : Entry). polynomial.abs_sum entry.poly) row ≡ map polynomial.abs_sum (polynomials row)
sizes_by [] = refl
sizes_by (entry ∷ row) = ap (λ sizes. polynomial.abs_sum entry.poly ∷ sizes) (sizes_by row)

-- ---- two rows with the same polynomials

module _ (one other : List Entry) (same : polynomials one ≡ polynomials other) where
  same_support : support one ≡ support other
  same_support = support_by one ∙ ap (λ ps. union (map polynomial.support ps)) same ∙ sym (support_by other)

  same_sizes : abs_sum one ≡ abs_sum other
  same_sizes =
      sym (sum-map (λ (entry : Entry). polynomial.abs_sum entry.poly) one)
      ∙ ap sum (sizes_by one ∙ ap (map polynomial.abs_sum) same ∙ sym (sizes_by other))
      ∙ sum-map (λ (entry : Entry). polynomial.abs_sum entry.poly) other

  same_coefficient : (set : ℕ) → row_coefficient set other ≡ row_coefficient set one
  same_coefficient set = coefficient_by set other ∙ ap (coefficient_of set) (sym same) ∙ sym (coefficient_by set one)

  same_length : length one ≡ length other
  same_length = sym (length-map one (λ (entry : Entry). entry.poly)) ∙ ap length same ∙ length-map other (λ (entry : Entry). entry.poly)

  same_poly : (i : ℕ) (e : Entry) → i < length other → (get_or one i e).poly ≡ (get_or other i e).poly
  same_poly i e lt =
      sym (get_or-map (λ (entry : Entry). entry.poly) one i e e.poly (omega (arith, same_length)))
      ∙ ap (λ ps. get_or ps i e.poly) same
      ∙ get_or-map (λ (entry : Entry). entry.poly) other i e e.poly lt

  pub admitted_as : (k : CaseData) → IsAdmittedRow k one → IsAdmittedRow k other
  admitted_as k h =
      let count : row_parameters k one ≡ row_parameters k other = ap (parameter_count k.root) same_support in
      record {
        sum = λ set. same_coefficient set ∙ h.sum set;
        few = subst (λ n. n ≤ most_row_parameters) count h.few;
        narrow = subst (λ n. abs_sum other * greatest_size k.d k.root ^ n * 2 ^ k.w < engine_limit) count (subst (λ n. n * greatest_size k.d k.root ^ row_parameters k one * 2 ^ k.w < engine_limit) same_sizes h.narrow);
        least = λ c lt i e at.
            subst (λ set. pos 0 ≤ℤ weight (corner k.d k.root set c) (get_or other i e).poly) same_support
            (subst (λ p. pos 0 ≤ℤ weight (corner k.d k.root (support one) c) p) (same_poly i e at)
            (h.least c (subst (λ n. c < 2 ^ n) (sym count) lt) i e (omega (arith, same_length))));
      }

-- ---- the first row of each block

-- the first rows of the blocks before one are admitted
abbrev pub AreFirstsAdmitted : CaseData → LinksData → ℕ → Type 0
AreFirstsAdmitted k links count = (block : ℕ) → block < count → IsAdmittedRow k (first_row k.model (get_or links.firsts block no_first))

pub all_admitted : (k : CaseData) (links : LinksData) → ArePlaces k.model links → AreFirstsAdmitted k links (length links.firsts) → IsAdmitted k
all_admitted k links are firsts s rows state a row choice =
    let at : a < length (choices k.model s) = rw (get_or_default k.model.states s [] rows state) choice in
    let has : HasChoice k.model s a = record { state = state; choice = at } in
    let block = (are.places s a has).block in
    rw (get_or_default k.model.states s rows [] state, get_or_default (choices k.model s) a row [] at)
    (admitted_as (first_row k.model (get_or links.firsts block.block no_first)) (row_at k.model s a) block.same k (firsts block.block block.inside))
