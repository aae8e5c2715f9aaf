-- The model of a head that was read is valid.
use Rattle.std.proofs.Common.{◌≡◌, ◌≢◌, ℕ, zero, suc, ◌+◌, ◌-◌, ◌^◌, ◌<◌, ◌≤◌, Bool, true, false, List, [], ◌∷◌, ◌++◌, length, map, All, refl, sym, subst, arith}
use Rattle.std.specs.Prelude.{pos, unsigned_abs, bit_or, sum_by, AllPairs, Contains, ◌≤ℤ◌}
use Rattle.std.specs.List.{AllByRecursion}
use Rattle.std.specs.List.Sorted.{IsStrictlyIncreasing}
use Rattle.std.proofs.lemmas.Int.{ints}
use Rattle.std.proofs.lemmas.List.Elements.{All-from_recursion}
use Rattle.std.proofs.lemmas.List.Kept.{AllPairs-cons}
use Rattle.std.proofs.lemmas.List.Sums.{sum_by-cons}
use Rattle.lift_poly.specs.Polynomial.{Term, IsPolynomial}
use Rattle.lift_model.specs.declared.entry.Entry.{Entry}
use Rattle.lift_model.specs.declared.kind.Kind.{Kind}
use Rattle.lift_model.specs.declared.kind.Kind.TheVariants.{Dtmc}
use Rattle.lift_model.specs.Valid.{IsEntry, IsRow, IsModel}
use Rattle.cert_text.specs.Head.{HeadData}
use Rattle.cert_text.specs.Report.{goal_states}
use Rattle.line_text.specs.Parts.{Words}
use Rattle.cert_text.proofs.FirstLines.{Fresh, Named, AreTerms}
use Rattle.cert_text.proofs.RowLaws.{AreEntries, AreRows, AreStates}
use Rattle.cert_text.proofs.HeadLaws.{HeadForm}

fresh_at : {A : Type 0} (pre before : List A) (n m : A) → Fresh m (pre ++ n ∷ before) → n ≢ m
fresh_at [] before n m h = λ e. h.0 (sym e)
fresh_at (p ∷ pre) before n m h = fresh_at pre before n m h.1

later_names : (pre before names : Words) (n : List ℕ) → Named (pre ++ n ∷ before) names → AllByRecursion (λ m. n ≢ m) names
later_names pre before [] n h = tt
later_names pre before (m ∷ names) n (fresh, len, more) = (fresh_at pre before n m fresh, later_names (m ∷ pre) before names n more)

no_pairs : {A : Type 0} (R : A → A → Type 0) → AllPairs R []
no_pairs R i j d lt h = absurd (omega (arith, h))

names_apart : (before names : Words) → Named before names → AllPairs (λ a b. a ≢ b) names
names_apart before [] h = no_pairs (λ a b. a ≢ b)
names_apart before (n ∷ names) (fresh, len, more) = AllPairs-cons (λ a b. a ≢ b) n names (All-from_recursion (λ m. n ≢ m) names (later_names [] before names n more)) (names_apart (n ∷ before) names more)

later_targets : (states parameters : ℕ) (pre before : List ℕ) (es : List Entry) (t : ℕ) → AreEntries states parameters (pre ++ t ∷ before) es → AllByRecursion (λ e. t ≢ e.target) es
later_targets states parameters pre before [] t h = tt
later_targets states parameters pre before (e ∷ es) t (low, fresh, few, terms, more) = (fresh_at pre before t e.target fresh, later_targets states parameters (e.target ∷ pre) before es t more)

targets_apart : (states parameters : ℕ) (before : List ℕ) (es : List Entry) → AreEntries states parameters before es → AllPairs (λ a b. a.target ≢ b.target) es
targets_apart states parameters before [] h = no_pairs (λ (a : Entry) (b : Entry). a.target ≢ b.target)
targets_apart states parameters before (e ∷ es) (low, fresh, few, terms, more) = AllPairs-cons (λ a b. a.target ≢ b.target) e es (All-from_recursion (λ x. e.target ≢ x.target) es (later_targets states parameters [] before es e.target more)) (targets_apart states parameters (e.target ∷ before) es more)

pub all_low : (parameters seen least : ℕ) (terms : List Term) → AreTerms parameters seen least terms → AllByRecursion (λ term. term.0 < 2 ^ parameters) terms
all_low parameters seen least [] h = tt
all_low parameters seen least (t ∷ terms) h = (h.1, all_low parameters (bit_or seen t.0) (t.0 + 1) terms h.5)

pub all_small : (parameters seen least : ℕ) (terms : List Term) → AreTerms parameters seen least terms → AllByRecursion (λ term. unsigned_abs term.1 < 2 ^ 100) terms
all_small parameters seen least [] h = tt
all_small parameters seen least (t ∷ terms) h = (h.4, all_small parameters (bit_or seen t.0) (t.0 + 1) terms h.5)

none_zero : (parameters seen least : ℕ) (terms : List Term) → AreTerms parameters seen least terms → AllByRecursion (λ term. term.1 ≢ pos 0) terms
none_zero parameters seen least [] h = tt
none_zero parameters seen least (t ∷ terms) h = (h.3, none_zero parameters (bit_or seen t.0) (t.0 + 1) terms h.5)

some_goal : (s : ℕ) (goal : List Bool) → 0 < length (goal_states s goal) → Contains goal true
some_goal s [] h = absurd (omega (arith, h))
some_goal s (true ∷ goal) h = (0, omega arith, refl)
some_goal s (false ∷ goal) h = let m = some_goal (s + 1) goal h in (suc m.0, omega (arith, m.1), m.2)

row_sum : (states parameters choices transitions : ℕ) (rows : List (List Entry)) → AreRows states parameters choices transitions rows → (length rows ≤ choices) × (sum_by length rows ≤ transitions)
row_sum states parameters choices transitions [] h = (omega arith, omega (arith, sum_by-nil))
  where
    sum_by-nil : sum_by {X = List Entry} length [] ≡ 0
    sum_by-nil = refl
row_sum states parameters choices transitions (row ∷ rows) h = let more = row_sum states parameters (choices - 1) (transitions - length row) rows h.1 in (omega (arith, more.0, h.0.0), omega (arith, more.1, h.0.1, sum_by-cons length row rows))

states_sum : (kind : Kind) (states parameters choices transitions : ℕ) (all : List (List (List Entry))) → AreStates kind states parameters choices transitions all → (sum_by length all ≤ choices) × (sum_by (sum_by length) all ≤ transitions)
states_sum kind states parameters choices transitions [] h = (omega (arith, none), omega (arith, none_two))
  where
    none : sum_by {X = List (List Entry)} length [] ≡ 0
    none = refl

    none_two : sum_by {X = List (List Entry)} (sum_by length) [] ≡ 0
    none_two = refl
states_sum kind states parameters choices transitions (rows ∷ all) h =
    let one = row_sum states parameters choices transitions rows h.0.rows_fit in
    let more = states_sum kind states parameters (choices - length rows) (transitions - sum_by length rows) all h.1 in
    (omega (arith, one.0, more.0, sum_by-cons length rows all), omega (arith, one.1, more.1, sum_by-cons (sum_by length) rows all))

increasing : (parameters seen least : ℕ) (terms : List Term) → AreTerms parameters seen least terms → IsStrictlyIncreasing (map (λ term. term.0) terms)
increasing parameters seen least [] h k lt = absurd (omega (arith, lt))
increasing parameters seen least (t ∷ []) h k lt = absurd (omega (arith, lt))
increasing parameters seen least (t ∷ u ∷ terms) h zero lt = omega (arith, h.5.0)
increasing parameters seen least (t ∷ u ∷ terms) h (suc k) lt =
    let next : suc k + 1 ≡ suc (k + 1) = omega arith in
    rw next (increasing parameters (bit_or seen t.0) (t.0 + 1) (u ∷ terms) h.5 k (omega (arith, lt)))

pub polynomial_of : (parameters : ℕ) (terms : List Term) → AreTerms parameters 0 0 terms → IsPolynomial terms
polynomial_of parameters terms h = record { ascending = increasing parameters 0 0 terms h; coefficients = All-from_recursion (λ term. term.1 ≢ pos 0) terms (none_zero parameters 0 0 terms h) }

entries_of : (states parameters : ℕ) (before : List ℕ) (es : List Entry) → AreEntries states parameters before es → AllByRecursion (IsEntry states parameters) es
entries_of states parameters before [] h = tt
entries_of states parameters before (e ∷ es) (low, fresh, few, terms, more) = (
  record {
    target = low;
    polynomial = polynomial_of parameters e.poly terms;
    sets = All-from_recursion (λ term. term.0 < 2 ^ parameters) e.poly (all_low parameters 0 0 e.poly terms);
    sizes = All-from_recursion (λ term. unsigned_abs term.1 < 2 ^ 100) e.poly (all_small parameters 0 0 e.poly terms);
  },
  entries_of states parameters (e.target ∷ before) es more,
)

rows_of : (states parameters choices transitions : ℕ) (rows : List (List Entry)) → AreRows states parameters choices transitions rows → AllByRecursion (IsRow states parameters) rows
rows_of states parameters choices transitions [] h = tt
rows_of states parameters choices transitions (row ∷ rows) h = (
  record {
    entries = All-from_recursion (IsEntry states parameters) row (entries_of states parameters [] row h.0.2);
    distinct = targets_apart states parameters [] row h.0.2;
  },
  rows_of states parameters (choices - 1) (transitions - length row) rows h.1,
)

states_of : (kind : Kind) (states parameters choices transitions : ℕ) (all : List (List (List Entry))) → AreStates kind states parameters choices transitions all → AllByRecursion (All (IsRow states parameters)) all
states_of kind states parameters choices transitions [] h = tt
states_of kind states parameters choices transitions (rows ∷ all) h = (All-from_recursion (IsRow states parameters) rows (rows_of states parameters choices transitions rows h.0.rows_fit), states_of kind states parameters (choices - length rows) (transitions - sum_by length rows) all h.1)

some_choices : (kind : Kind) (states parameters choices transitions : ℕ) (all : List (List (List Entry))) → AreStates kind states parameters choices transitions all → AllByRecursion (λ rows. 1 ≤ length rows) all
some_choices kind states parameters choices transitions [] h = tt
some_choices kind states parameters choices transitions (rows ∷ all) h = (h.0.some, some_choices kind states parameters (choices - length rows) (transitions - sum_by length rows) all h.1)

one_choices : (kind : Kind) (states parameters choices transitions : ℕ) (all : List (List (List Entry))) → kind ≡ Dtmc → AreStates kind states parameters choices transitions all → AllByRecursion (λ rows. length rows ≡ 1) all
one_choices kind states parameters choices transitions [] chain h = tt
one_choices kind states parameters choices transitions (rows ∷ all) chain h = (h.0.one chain, one_choices kind states parameters (choices - length rows) (transitions - sum_by length rows) all chain h.1)

pub model_of : (h : HeadData) → HeadForm h → IsModel h.asked.model
model_of h k =
    let m = h.asked.model in
    let s : ℕ = length m.states in
    let p : ℕ = length m.names in
    let sums = states_sum m.kind s p 131072 262144 m.states k.rows in
    record {
      count = (k.states.0, omega (arith, k.states.1));
      goals = k.goals.size;
      some_goal = some_goal 0 m.goal k.goals.some;
      first = k.init;
      denominator = subst (λ z. (pos 1 ≤ℤ z) × (z ≤ℤ pos (2 ^ 62 - 1))) (sym k.common.1) (omega (arith, ints, k.common.2), omega (arith, ints, k.common.3));
      parameters = (k.declared.few, names_apart [] m.names k.declared.named);
      some_choice = All-from_recursion (λ rows. 1 ≤ length rows) m.states (some_choices m.kind s p 131072 262144 m.states k.rows);
      one_choice = λ chain. All-from_recursion (λ rows. length rows ≡ 1) m.states (one_choices m.kind s p 131072 262144 m.states chain k.rows);
      rows = All-from_recursion (All (IsRow s p)) m.states (states_of m.kind s p 131072 262144 m.states k.rows);
      choices = sums.0;
      transitions = sums.1;
    }
