-- The quotient of a case is a case: its rows sum to one, have no more parameters and no larger coefficients than rows of the whole model, and are nowhere negative.
use Rattle.std.proofs.Common.{◌≡◌, ◌≢◌, ◌⊎◌, inl, inr, ℕ, zero, suc, ◌+◌, ◌*◌, ◌^◌, ◌/◌, ◌%◌, ◌<◌, ◌≤◌, Bool, true, false, cond, List, [], ◌∷◌, ◌++◌, length, get_or, ℤ, pos, ◌+ℤ◌, ◌*ℤ◌, ◌≤ℤ◌, ◌<ℤ◌, unsigned_abs, All, nat_eq, nat_lt, int_eq, refl, sym, ap, ap₂, ◌∙◌, subst, arith}
use Rattle.std.proofs.Math.Nat.{mul-le-mul, pow-le-pow_right}
use Rattle.std.proofs.lemmas.Int.{ints}
use Rattle.std.proofs.lemmas.List.{get_or_default}
use Rattle.std.proofs.lemmas.List.Elements.{All-nil, All-cons, All-head, All-tail, All-map}
use Rattle.std.proofs.lemmas.List.Sums.{sum_by-cons, sum_by-append}
use Rattle.std.proofs.lemmas.Bool.Decides.{nat_tests, Decides-int_eq}
use Rattle.lift_poly.proofs.Ring.{linear, mul-comm, one-mul, mul-zero, mul-nonneg, mul-le_cancel}
use Rattle.lift_poly.specs.Polynomial.{Term, Valuation, weight, monomial, constant}
use Rattle.lift_poly.specs.Arithmetic as polynomial
use Rattle.lift_poly.specs.Laws.{TermsSumToPolynomial, TermsSumBySet, TermsSumByWeight}
use Rattle.lift_grid.specs.Rectangle.{Spans, Inside}
use Rattle.lift_model.specs.declared.kind.Kind.TheVariants.{Dtmc}
use Rattle.lift_model.specs.declared.entry.Entry.{Entry}
use Rattle.lift_model.specs.Model.{ModelData, is_goal, choices, row_at, support}
use Rattle.corner_lift.specs.Corner.{corner}
use Rattle.corner_lift.specs.Case.{CaseData, IsCase, IsInside, IsAdmittedRow, SumsToOne, IsNarrow, IsNowhereNegative, row_coefficient, due, row_parameters, greatest_size, most_row_parameters, engine_limit}
use Rattle.corner_lift.specs.Case as case
use Rattle.corner_lift.specs.Laws.{WeightsInside, RootIsInside}
use Rattle.lift_lump.specs.Lumping.{Partition, terms_into, sum_into, in_block, IsRight}
use Rattle.lift_lump.specs.Quotient.{Blocks, block, first, AreNumbered, one_entry, entries_into, quotient_row, quotient}
use Rattle.lift_lump.specs.Laws.{CasesHaveGoalEntries, HasSmallCoefficients, QuotientsAreCases, quotient_case}
use Rattle.lift_lump.proofs.Grouping.{flat, grouped, grouped-flat}
use Rattle.lift_lump.proofs.Holding.{targets_inside, weight-append}
use Rattle.lift_lump.proofs.Keeping.{coefficients-add}
use Rattle.lift_lump.proofs.Entries.{either, entries-hold, collected-sets, into-sets, measured, at_block, total}
use Rattle.lift_lump.proofs.Modelled.{quotients_are_models}
use Rattle.lift_lump.proofs.Sets.{PartOf, SetsIn, row_part, row_within, part-none, parameters_part}
use Rattle.lift_lump.proofs.Filling.{parity, filled, gain, gain-positive, filled-inside, filled-weight, corner-even, corner-odd}

-- ---- coefficients

coefficient-rows : (set : ℕ) (xs ys : List Entry) → row_coefficient set (xs ++ ys) ≡ row_coefficient set xs +ℤ row_coefficient set ys
coefficient-rows set [] ys = omega (arith, linear)
coefficient-rows set (e ∷ xs) ys = omega (arith, linear, coefficient-rows set xs ys)

one-coefficient : (set b : ℕ) (terms : List Term) → row_coefficient set (one_entry b terms) ≡ polynomial.coefficient set terms
one-coefficient set b [] = refl
one-coefficient set b (t ∷ ts) = omega (arith, linear)

module _ (law : TermsSumBySet) (block : Partition) (row : List Entry) (set : ℕ) where
  abbrev φ : List Term → ℤ
  φ = polynomial.coefficient set

  times-one : (z : ℤ) → z *ℤ pos 1 ≡ z
  times-one z = mul-comm z (pos 1) ∙ one-mul z

  upto : (count : ℕ) → row_coefficient set (entries_into block row count) ≡ grouped φ (coefficients-add set) block (λ b. pos 1) count row
  upto zero = refl
  upto (suc b) =
      coefficient-rows set (entries_into block row b) (one_entry b (sum_into (in_block block b) row))
      ∙ ap₂ (λ y z. y +ℤ z) (upto b) (one-coefficient set b (sum_into (in_block block b) row) ∙ law (terms_into (in_block block b) row) set ∙ sym (times-one (φ (terms_into (in_block block b) row))))

  flat-coefficient : (rest : List Entry) → flat φ (coefficients-add set) block (λ b. pos 1) rest ≡ row_coefficient set rest
  flat-coefficient [] = refl
  flat-coefficient (e ∷ rest) = ap₂ (λ y z. y +ℤ z) (times-one (φ e.poly)) (flat-coefficient rest)

  entries-coefficient : (count : ℕ) → All (λ (e : Entry). block e.target < count) row → row_coefficient set (entries_into block row count) ≡ row_coefficient set row
  entries-coefficient count all = upto count ∙ grouped-flat φ (coefficients-add set) block (λ b. pos 1) count row all ∙ flat-coefficient row

-- ---- sizes

abs-add : (a b : ℤ) → unsigned_abs (a +ℤ b) ≤ unsigned_abs a + unsigned_abs b
abs-add a b = omega (arith, ints)

abbrev size : List Term → ℕ
size ts = polynomial.abs_sum ts

size-cons : (t : Term) (ts : List Term) → size (t ∷ ts) ≡ unsigned_abs t.1 + size ts
size-cons t ts = sum_by-cons (λ (u : Term). unsigned_abs u.1) t ts

kept-size : (t : Term) (ts : List Term) → size (polynomial.kept t ts) ≤ unsigned_abs t.1 + size ts
kept-size t ts = either (λ (us : List Term). size us ≤ unsigned_abs t.1 + size ts) (int_eq t.1 (pos 0)) ts (t ∷ ts) (omega arith) (omega (arith, size-cons t ts))

with-size : (t : Term) (ts : List Term) → size (polynomial.with_term t ts) ≤ unsigned_abs t.1 + size ts
with-size t [] = kept-size t []
with-size t (first ∷ others) =
    let most : List Term → Type 0 = λ us. size us ≤ unsigned_abs t.1 + size (first ∷ others) in
    either most (nat_lt t.0 first.0) (polynomial.kept t (first ∷ others)) (cond (nat_eq t.0 first.0) (polynomial.kept (first.0, t.1 +ℤ first.1) others) (first ∷ polynomial.with_term t others))
    (kept-size t (first ∷ others))
    (either most (nat_eq t.0 first.0) (polynomial.kept (first.0, t.1 +ℤ first.1) others) (first ∷ polynomial.with_term t others)
    (omega (arith, kept-size (first.0, t.1 +ℤ first.1) others, abs-add t.1 first.1, size-cons first others))
    (omega (arith, size-cons first (polynomial.with_term t others), with-size t others, size-cons first others)))

collected-size : (ts : List Term) → size (polynomial.collected ts) ≤ size ts
collected-size [] = omega arith
collected-size (t ∷ ts) = omega (arith, with-size t (polynomial.collected ts), collected-size ts, size-cons t ts)

module _ (block : Partition) where
  into-size : (b : ℕ) (row : List Entry) → size (terms_into (in_block block b) row) ≡ at_block block size b row
  into-size b [] = refl
  into-size b (e ∷ row) =
      sum_by-append (λ (u : Term). unsigned_abs u.1) (cond (nat_eq (block e.target) b) e.poly []) (terms_into (in_block block b) row)
      ∙ ap₂ (λ x y. x + y) (one (nat_eq (block e.target) b) e.poly) (into-size b row)
    where
      one : (t : Bool) (ts : List Term) → size (cond t ts []) ≡ cond t (size ts) 0
      one true ts = refl
      one false ts = refl

  one-size : (b : ℕ) (ts : List Term) → case.abs_sum (one_entry b ts) ≡ size ts
  one-size b [] = refl
  one-size b (t ∷ ts) = sum_by-cons (λ (e : Entry). size e.poly) (record { target = b; poly = t ∷ ts }) [] ∙ (let e : size (t ∷ ts) + 0 ≡ size (t ∷ ts) = omega arith in e)

  total-size : (row : List Entry) → total block size row ≡ case.abs_sum row
  total-size [] = refl
  total-size (e ∷ row) = ap (λ n. size e.poly + n) (total-size row) ∙ sym (sum_by-cons (λ (x : Entry). size x.poly) e row)

  entries-size : (row : List Entry) (count : ℕ) → case.abs_sum (entries_into block row count) ≤ case.abs_sum row
  entries-size row count =
      let m = measured block size case.abs_sum refl row (λ xs b.
      omega (arith, sum_by-append (λ (e : Entry). size e.poly) xs (one_entry b (sum_into (in_block block b) row)), one-size b (sum_into (in_block block b) row), collected-size (terms_into (in_block block b) row), into-size b row)) count in
      omega (arith, m, total-size row)

coefficient_size : (terms : List Term) → unsigned_abs (polynomial.coefficient 0 terms) ≤ size terms
coefficient_size [] = omega arith
coefficient_size (t ∷ ts) = omega (arith, size-cons t ts, coefficient_size ts, abs-add (cond (nat_eq t.0 0) t.1 (pos 0)) (polynomial.coefficient 0 ts), by_test (nat_eq t.0 0) t.1)
  where
    by_test : (b : Bool) (n : ℤ) → unsigned_abs (cond b n (pos 0)) ≤ unsigned_abs n
    by_test true n = omega arith
    by_test false n = omega arith

row_size : (row : List Entry) → unsigned_abs (row_coefficient 0 row) ≤ case.abs_sum row
row_size [] = omega arith
row_size (e ∷ row) = omega (arith, row_size row, coefficient_size e.poly, sum_by-cons (λ (x : Entry). size x.poly) e row, abs-add (polynomial.coefficient 0 e.poly) (row_coefficient 0 row))

grid_below : (d : ℤ) (spans : Spans) → unsigned_abs d ≤ greatest_size d spans
grid_below d [] = omega arith
grid_below d (s ∷ spans) = omega (arith, grid_below d spans)

-- less of each is narrower
narrower : (a b g h size w limit : ℕ) → 0 < size → a ≤ b → g ≤ h → b * size ^ h * 2 ^ w < limit → a * size ^ g * 2 ^ w < limit
narrower a b g h size w limit some less fewer narrow =
    let powers : size ^ g ≤ size ^ h = pow-le-pow_right some fewer in
    let products : a * size ^ g ≤ b * size ^ h = mul-le-mul less powers in
    let all : a * size ^ g * 2 ^ w ≤ b * size ^ h * 2 ^ w = mul-le-mul products (let e : 2 ^ w ≤ 2 ^ w = omega arith in e) in
    omega (arith, all, narrow)

-- ---- weights

terms-least : (v : Valuation) (inside : ℕ → Bool) (row : List Entry) → All (λ (e : Entry). pos 0 ≤ℤ weight v e.poly) row → pos 0 ≤ℤ weight v (terms_into inside row)
terms-least v inside [] all = omega (arith, linear)
terms-least v inside (e ∷ row) all =
    omega (
      arith,
      linear,
      weight-append v (cond (inside e.target) e.poly []) (terms_into inside row),
      one (inside e.target) e.poly (All-head (λ (x : Entry). pos 0 ≤ℤ weight v x.poly) e row all),
      terms-least v inside row (All-tail (λ (x : Entry). pos 0 ≤ℤ weight v x.poly) e row all),
    )
  where
    one : (b : Bool) (ts : List Term) → pos 0 ≤ℤ weight v ts → pos 0 ≤ℤ weight v (cond b ts [])
    one true ts h = h
    one false ts h = omega (arith, linear)

-- the number 1 weighs no less than 0 at a corner
module _ (d : ℤ) (positive : pos 0 <ℤ d) where
  corner-one : (spans : Spans) (set c : ℕ) → pos 0 ≤ℤ monomial (corner d spans set c) 0
  corner-one [] set c = omega (arith, linear)
  corner-one (s ∷ spans) set c = by (parity set) (corner-one spans (set / 2) c) (corner-one spans (set / 2) (c / 2))
    where
      by : (set % 2 ≡ 0) ⊎ (set % 2 ≡ 1) → pos 0 ≤ℤ monomial (corner d spans (set / 2) c) 0 → pos 0 ≤ℤ monomial (corner d spans (set / 2) (c / 2)) 0 → pos 0 ≤ℤ monomial (corner d (s ∷ spans) set c) 0
      by (inl even) first second = subst (λ (v : Valuation). pos 0 ≤ℤ monomial v 0) (sym (corner-even d positive s spans set c even)) (mul-nonneg (pos 1) (monomial (corner d spans (set / 2) c) 0) (omega (arith, linear)) first)
      by (inr odd) first second = subst (λ (v : Valuation). pos 0 ≤ℤ monomial v 0) (sym (corner-odd d positive s spans set c odd)) (mul-nonneg d (monomial (corner d spans (set / 2) (c / 2)) 0) (omega (arith, linear)) second)

-- ---- the rows

-- a goal state of a case has an entry, since its row sums to one
pub goals_have_entries : CasesHaveGoalEntries
goals_have_entries k is s lt goal = by (row_at k.model s 0) ((is.admitted s [] lt 0 [] (is.asked.model.some_choice s [] lt)).sum 0)
  where
    by : (row : List Entry) → row_coefficient 0 row ≡ k.model.common → 1 ≤ length row
    by [] e = let low = is.asked.model.denominator.0 in absurd (omega (arith, linear, low, e))
    by (e ∷ row) h = omega arith

module _ (sums : TermsSumBySet) (weights : TermsSumByWeight) (inside : WeightsInside) (root : RootIsInside) (k : CaseData) (p : Blocks) (is : IsCase k) (right : IsRight k.model (block p)) (numbered : AreNumbered (length k.model.states) p) where
  abbrev m : ModelData
  m = k.model

  abbrev count : ℕ
  count = length p.firsts

  positive : pos 0 <ℤ k.d
  positive = is.asked.grid.positive

  grid_some : 0 < greatest_size k.d k.root
  grid_some = let p = positive in omega (arith, ints, grid_below k.d k.root, p)

  some : (s : ℕ) → s < length m.states → 0 < length (choices m s)
  some s lt = is.asked.model.some_choice s [] lt

  admitted : (s : ℕ) → s < length m.states → IsAdmittedRow k (row_at m s 0)
  admitted s lt = is.admitted s [] lt 0 [] (some s lt)

  blocks_inside : (s : ℕ) → All (λ (e : Entry). block p e.target < count) (row_at m s 0)
  blocks_inside s i d lt = (numbered.inside (get_or (row_at m s 0) i d).target (targets_inside m is.asked.model s i d lt)).0

  module _ (s : ℕ) (lt : s < length m.states) where
    abbrev old : List Entry
    old = row_at m s 0

    abbrev new : List Entry
    new = entries_into (block p) old count

    abbrev to_goal : List Entry
    to_goal = record { target = block p s; poly = constant m.common } ∷ []

    -- the sets of the quotient's row are part of those of the row
    new_sets : SetsIn (support old) new
    new_sets = entries-hold (λ (e : Entry). All (λ (t : Term). PartOf t.0 (support old)) e.poly) (block p) old count
        (λ b below. collected-sets (λ set. PartOf set (support old)) (terms_into (in_block (block p) b) old) (into-sets (λ set. PartOf set (support old)) (in_block (block p) b) old (row_part old)))

    fewer : (row : List Entry) → SetsIn (support old) row → row_parameters k row ≤ row_parameters k old
    fewer row sets = parameters_part k.root (support row) (support old) (row_within (support old) row sets)

    narrow_row : (row : List Entry) → case.abs_sum row ≤ case.abs_sum old → SetsIn (support old) row → IsNarrow k row
    narrow_row row less sets = narrower (case.abs_sum row) (case.abs_sum old) (row_parameters k row) (row_parameters k old) (greatest_size k.d k.root) k.w engine_limit grid_some less (fewer row sets) (admitted s lt).narrow

    few_row : (row : List Entry) → SetsIn (support old) row → row_parameters k row ≤ most_row_parameters
    few_row row sets = let f = fewer row sets in let g = (admitted s lt).few in omega (arith, f, g)

    -- a row that weighs no less than 0 at each valuation inside does so at its corners
    nowhere : (row : List Entry) → ((v : Valuation) → Inside k.d k.root v → All (λ (e : Entry). pos 0 ≤ℤ weight v e.poly) row) → IsNowhereNegative k row
    nowhere row least c c_in i e i_in =
        let v = filled k.d k.root (support row) c in
        let terms = (get_or row i e).poly in
        let here : pos 0 ≤ℤ weight v terms = least v (filled-inside k.d positive k.root (support row) c is.asked.spans) i e i_in in
        let same = filled-weight k.d positive k.root (support row) c terms (row_part row i e i_in) in
        let g = gain k.d k.root (support row) in
        mul-le_cancel g (pos 0) (weight (corner k.d k.root (support row) c) terms) (gain-positive k.d positive k.root (support row)) (omega (arith, linear, mul-zero g, here, same))

    row_least : (v : Valuation) → Inside k.d k.root v → All (λ (e : Entry). pos 0 ≤ℤ weight v e.poly) old
    row_least v v_in = inside k k.root v is (root k is) v_in s [] lt 0 [] (some s lt)

    new_least : (v : Valuation) → Inside k.d k.root v → All (λ (e : Entry). pos 0 ≤ℤ weight v e.poly) new
    new_least v v_in = entries-hold (λ (e : Entry). pos 0 ≤ℤ weight v e.poly) (block p) old count
        (λ b below. subst (λ z. pos 0 ≤ℤ z) (sym (weights v (terms_into (in_block (block p) b) old))) (terms-least v (in_block (block p) b) old (row_least v v_in)))

    new_admitted : IsAdmittedRow (quotient_case k p) new
    new_admitted = record {
      sum = λ set. entries-coefficient sums (block p) old set count (blocks_inside s) ∙ (admitted s lt).sum set;
      few = few_row new new_sets;
      narrow = narrow_row new (entries-size (block p) old count) new_sets;
      least = nowhere new new_least;
    }

    -- ---- the entry of goal states

    common_some : m.common ≢ pos 0
    common_some e = let low = is.asked.model.denominator.0 in absurd (omega (arith, linear, low, e))

    abbrev alone : List Term
    alone = (0, m.common) ∷ []

    constant_is : constant m.common ≡ alone
    constant_is = by (int_eq m.common (pos 0)) refl
      where
        by : (b : Bool) → int_eq m.common (pos 0) ≡ b → cond (int_eq m.common (pos 0)) [] alone ≡ alone
        by true e = absurd (common_some ((Decides-int_eq m.common (pos 0)).0 e))
        by false e = ap (λ b. cond b [] alone) e

    abbrev goal_row : List Entry
    goal_row = record { target = block p s; poly = alone } ∷ []

    goal_sets : SetsIn (support old) goal_row
    goal_sets = All-cons (λ (e : Entry). All (λ (t : Term). PartOf t.0 (support old)) e.poly) (record { target = block p s; poly = alone }) []
        (All-cons (λ (t : Term). PartOf t.0 (support old)) (0, m.common) [] (part-none (support old)) (All-nil (λ (t : Term). PartOf t.0 (support old))))
        (All-nil (λ (e : Entry). All (λ (t : Term). PartOf t.0 (support old)) e.poly))

    goal_sum : SumsToOne m.common goal_row
    goal_sum zero = omega (arith, linear)
    goal_sum (suc set) =
        let here : nat_eq 0 (suc set) ≡ false = grind (arith, nat_tests) in
        let there : nat_eq (suc set) 0 ≡ false = grind (arith, nat_tests) in
        rw (here, there) (omega (arith, linear))

    goal_size : case.abs_sum goal_row ≤ case.abs_sum old
    goal_size =
        let size_is : case.abs_sum goal_row ≡ unsigned_abs m.common = sum_by-cons (λ (e : Entry). size e.poly) (record { target = block p s; poly = alone }) [] ∙ (let e : size alone + 0 ≡ unsigned_abs m.common = omega (arith, size-cons (0, m.common) []) in e) in
        let least = row_size old in
        let coefficient_is : unsigned_abs (row_coefficient 0 old) ≡ unsigned_abs m.common = ap unsigned_abs ((admitted s lt).sum 0) in
        omega (arith, size_is, least, coefficient_is)

    goal_least : IsNowhereNegative k goal_row
    goal_least c c_in =
        let v = corner k.d k.root (support goal_row) c in
        let one = corner-one k.d positive k.root (support goal_row) c in
        let low = is.asked.model.denominator.0 in
        let product = mul-nonneg m.common (monomial v 0) (omega (arith, linear, low)) one in
        All-cons (λ (e : Entry). pos 0 ≤ℤ weight v e.poly) (record { target = block p s; poly = alone }) [] (omega (arith, linear, product)) (All-nil (λ (e : Entry). pos 0 ≤ℤ weight v e.poly))

    goal_admitted : IsAdmittedRow (quotient_case k p) to_goal
    goal_admitted = subst (λ (ts : List Term). IsAdmittedRow (quotient_case k p) (record { target = block p s; poly = ts } ∷ [])) (sym constant_is)
        (record { sum = goal_sum; few = few_row goal_row goal_sets; narrow = narrow_row goal_row goal_size goal_sets; least = goal_least })

    made_admitted : IsAdmittedRow (quotient_case k p) (quotient_row m p s)
    made_admitted = either (IsAdmittedRow (quotient_case k p)) (is_goal m s) to_goal new goal_admitted new_admitted

  all_admitted : All (All (IsAdmittedRow (quotient_case k p))) (quotient m p).states
  all_admitted = All-map (All (IsAdmittedRow (quotient_case k p))) (λ s. quotient_row m p s ∷ []) p.firsts
      (λ i d lt.
      let s_in : get_or p.firsts i d < length m.states = subst (λ s. s < length m.states) (get_or_default p.firsts i 0 d lt) (numbered.least i lt).0 in
      All-cons (IsAdmittedRow (quotient_case k p)) (quotient_row m p (get_or p.firsts i d)) [] (made_admitted (get_or p.firsts i d) s_in) (All-nil (IsAdmittedRow (quotient_case k p))))

  quotient_is_case : TermsSumToPolynomial → m.kind ≡ Dtmc → HasSmallCoefficients (quotient m p) → IsCase (quotient_case k p)
  quotient_is_case polynomials chain small = record {
    asked = record {
      model = quotients_are_models polynomials m p is.asked.model chain right numbered (goals_have_entries k is) small;
      spans = is.asked.spans;
      grid = is.asked.grid;
      depth = is.asked.depth;
      precision = is.asked.precision;
    };
    admitted = all_admitted;
  }

pub quotients_are_cases : TermsSumToPolynomial → TermsSumBySet → TermsSumByWeight → WeightsInside → RootIsInside → QuotientsAreCases
quotients_are_cases polynomials sums weights inside root k p is chain right numbered small = quotient_is_case sums weights inside root k p is right numbered polynomials chain small
