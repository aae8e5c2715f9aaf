-- The end of a text: what was read without a fault is a valid model.
use Rattle.std.proofs.Common.{is_some, ◌≡◌, ◌≢◌, ◌==◌, ℕ, ◌/◌, ◌^◌, ◌<◌, ◌≤◌, ◌||◌, Bool, true, false, not, List, [], ◌∷◌, length, get_or, map, fold, All, Contains, pos, unsigned_abs, Option, Some, None, refl, sym, ap, subst, ◌∙◌, arith, count_ones, le_trans}
use Rattle.std.specs.Prelude.{nat_le}
use Rattle.std.specs.List.{list_any, find, flat_map, sum_by, count_by}
use Rattle.std.specs.Option.{option_map, unwrap_or}
use Rattle.std.proofs.Math.Nat.{pow-le-pow_right}
use Rattle.std.proofs.lemmas.Bool.{leb-false, eqb-true, eqb-false, not-false, or_parts}
use Rattle.std.proofs.lemmas.List.{length-map, get_or-map}
use Rattle.std.proofs.lemmas.List.Elements.{All-head, All-tail, All-map, All-weaker}
use Rattle.std.proofs.lemmas.List.Folds.{Any-from_list_any}
use Rattle.lift_poly.specs.Arithmetic.{times, support}
use Rattle.lift_poly.proofs.Ring.{linear}
use Rattle.lift_model.specs.declared.kind.Kind.{Kind}
use Rattle.lift_model.specs.declared.kind.Kind.TheVariants.{Dtmc, Mdp}
use Rattle.lift_model.specs.declared.entry.Entry.{Entry}
use Rattle.lift_model.specs.Valid.{common_limit, coefficient_limit, IsEntry, IsRow, IsModel}
use Rattle.drn_read.specs.Faults.{when, reported}
use Rattle.drn_read.specs.States.{StateText}
use Rattle.drn_read.specs.Judging.{Said, has, choice_count, choiceless}
use Rattle.lift_frac.specs.Gcd.{lcm}
use Rattle.drn_read.specs.Reading.{all_transitions, common, scaled, is_large, mismatch, end_fault, entry, model}
use Rattle.drn_read.specs.declared.error.DrnCause.{DrnCause}
use Rattle.drn_read.specs.declared.error.DrnCause.TheVariants.{MissingSection, NoState, CountMismatch, TargetRange, InitCount, UnknownLabel, CommonDenominator}
use Rattle.drn_read.specs.declared.error.DrnError.{DrnError}
use Rattle.drn_read.specs.declared.section.Section.TheVariants.{Model}
use Rattle.drn_read.specs.declared.state.Transition.{Transition}
use Rattle.drn_read.specs.Laws.{IsSmallEntry, IsReadModel}
use Rattle.drn_read.specs.Text.{most_value_parameters}
use Rattle.drn_read.proofs.Sets.{few_terms, scaled_hold, scaled_few}
use Rattle.drn_read.proofs.Declared.{first_none}
use Rattle.drn_read.proofs.Stated.{some_choice}
use Rattle.drn_read.proofs.Kept.{Laws, IsValue, IsChoice, IsState, AreStates, IsSound}
use Rattle.drn_read.proofs.Lists.{any_false, find_none, first_within, sum_by-map, sum_by-same, AllPairs-map, All-flat_map, All-from_flat_map}

-- ---- what the tests at the end tell

-- what holds of states at the end of a text without fault
record IsWhole (states : List StateText) : Type 0 where
  last : choiceless states ≡ None
  some : 1 ≤ length states
  targets : All (λ t. t.target < length states) (all_transitions states)
  init : count_by (λ s. s.init) states ≡ 1
  goal : list_any (λ s. s.goal) states ≡ true
  denominator : common states < common_limit
  sizes : All (λ t. is_large (common states) t ≡ false) (all_transitions states)

none_reported : (number : ℕ) (b : Bool) (cause : DrnCause) → reported number (when b cause) ≡ None → b ≡ false
none_reported number true cause e = cc
none_reported number false cause e = refl

not_found : (o : Option Transition) (f : Transition → DrnError) → option_map f o ≡ None → o ≡ None
not_found None f e = refl
not_found (Some t) f e = cc

at_end : (number : ℕ) (said : Said) → end_fault number said ≡ None → IsWhole said.states
unfolding end_fault
at_end number said e =
    let states = said.states in
    let count : ℕ = length states in
    let c : ℕ = common states in
    let large : Bool = list_any (is_large c) (all_transitions states) in
    let found : Option Transition = find (λ t. nat_le count t.target) (all_transitions states) in
    let range : Transition → DrnError = λ t. record { line = t.line; cause = TargetRange } in
    let none = reported number (when (count == 0) NoState) in
    let counted = reported number (when (is_some (mismatch said.header count (choice_count states))) CountMismatch) in
    let target = option_map range found in
    let init = reported number (when (not (count_by (λ s. s.init) states == 1)) InitCount) in
    let goal = reported number (when (not (list_any (λ s. s.goal) states)) UnknownLabel) in
    let wide = reported number (when (nat_le common_limit c || large) CommonDenominator) in
    let a = first_none (reported number (when (not (has Model said.header)) MissingSection)) (choiceless states ∷ none ∷ counted ∷ target ∷ init ∷ goal ∷ wide ∷ []) e in
    let b = first_none (choiceless states) (none ∷ counted ∷ target ∷ init ∷ goal ∷ wide ∷ []) a.1 in
    let d = first_none none (counted ∷ target ∷ init ∷ goal ∷ wide ∷ []) b.1 in
    let g = first_none counted (target ∷ init ∷ goal ∷ wide ∷ []) d.1 in
    let h = first_none target (init ∷ goal ∷ wide ∷ []) g.1 in
    let i = first_none init (goal ∷ wide ∷ []) h.1 in
    let j = first_none goal (wide ∷ []) i.1 in
    let k = first_none wide [] j.1 in
    let small = or_parts (nat_le common_limit c) large (none_reported number (nat_le common_limit c || large) CommonDenominator k.0) in
    let some : count ≡ 0 → ⊥ = eqb-false count 0 (none_reported number (count == 0) NoState d.0) in
    record {
      last = b.0;
      some = omega (arith, some);
      targets =
          All-weaker (λ (t : Transition). nat_le count t.target ≡ false) (λ t. t.target < count) (λ t no. leb-false count t.target no) (all_transitions states)
          (find_none (λ (t : Transition). nat_le count t.target) (all_transitions states) (not_found found range h.0));
      init = eqb-true (count_by (λ s. s.init) states) 1 (not-false (count_by (λ s. s.init) states == 1) (none_reported number (not (count_by (λ s. s.init) states == 1)) InitCount i.0));
      goal = not-false (list_any (λ s. s.goal) states) (none_reported number (not (list_any (λ s. s.goal) states)) UnknownLabel j.0);
      denominator = leb-false common_limit c small.0;
      sizes = any_false (is_large c) (all_transitions states) small.1;
    }

-- ---- the common denominator

lcm_above : (laws : Laws) (a b : ℕ) → 1 ≤ a → 1 ≤ b → 1 ≤ lcm a b
lcm_above laws a b h i = le_trans h (laws.multiples a b i)

folded_above : (laws : Laws) (ts : List Transition) (c : ℕ) → 1 ≤ c → All (λ t. 1 ≤ t.value.den) ts → 1 ≤ fold (λ c t. lcm c t.value.den) c ts
folded_above laws [] c h each = h
folded_above laws (t ∷ ts) c h each = folded_above laws ts (lcm c t.value.den) (lcm_above laws c t.value.den h (All-head (λ u. 1 ≤ u.value.den) t ts each)) (All-tail (λ u. 1 ≤ u.value.den) t ts each)

all_over : (kind : Option Kind) (count : ℕ) (states : List StateText) → AreStates kind count states → All (λ t. IsValue count t.value) (all_transitions states)
all_over kind count states h =
    let Over : Transition → Type 0 = λ t. IsValue count t.value in
    All-flat_map Over (λ (s : StateText). flat_map (λ choice. choice) s.choices) states
    (All-weaker (IsState kind count) (λ s. All Over (flat_map (λ choice. choice) s.choices))
    (λ s is. All-flat_map Over (λ (choice : List Transition). choice) s.choices (All-weaker (IsChoice count) (All Over) (λ c i. i.values) s.choices is.choices)) states h.each)

common_above : (laws : Laws) (kind : Option Kind) (count : ℕ) (states : List StateText) → AreStates kind count states → 1 ≤ common states
common_above laws kind count states h =
    folded_above laws (all_transitions states) 1 (omega arith)
    (All-weaker (λ (t : Transition). IsValue count t.value) (λ t. 1 ≤ t.value.den) (λ t value. value.over.value.positive) (all_transitions states) (all_over kind count states h))

-- ---- rows

-- a transition that is in range and not too large
abbrev Fine : ℕ → ℕ → Transition → Type 0
Fine count c t = (t.target < count) × (is_large c t ≡ false)

entry_is : (laws : Laws) (count parameters c : ℕ) (t : Transition) → IsValue parameters t.value → Fine count c t → IsEntry count parameters (entry c t)
entry_is laws count parameters c t value fine = record {
  target = fine.0;
  polynomial = laws.sums (times (pos (c / t.value.den)) t.value.terms);
  sets = scaled_hold (λ s. s < 2 ^ parameters) (pos (c / t.value.den)) t.value.terms value.over.sets;
  sizes =
      All-weaker (λ term. nat_le coefficient_limit (unsigned_abs term.1) ≡ false) (λ term. unsigned_abs term.1 < coefficient_limit) (λ term no. leb-false coefficient_limit (unsigned_abs term.1) no) (scaled c t.value)
      (any_false (λ term. nat_le coefficient_limit (unsigned_abs term.1)) (scaled c t.value) fine.1);
}

row_is : (laws : Laws) (count parameters c : ℕ) (choice : List Transition) → IsChoice parameters choice → All (Fine count c) choice → IsRow count parameters (map (entry c) choice)
row_is laws count parameters c choice h fine = record {
  entries = All-map (IsEntry count parameters) (entry c) choice (λ i d lt. entry_is laws count parameters c (get_or choice i d) (h.values i d lt) (fine i d lt));
  distinct = AllPairs-map (λ a b. a.target ≢ b.target) (entry c) choice h.distinct;
}

-- the rows of a state
abbrev rows_of : ℕ → StateText → List (List Entry)
rows_of c s = map (map (entry c)) s.choices

all_fine : (states : List StateText) → IsWhole states → All (λ s. All (All (Fine (length states) (common states))) s.choices) states
all_fine states w =
    let fine = Fine (length states) (common states) in
    All-weaker (λ (s : StateText). All fine (flat_map (λ choice. choice) s.choices)) (λ s. All (All fine) s.choices) (λ s h. All-from_flat_map fine (λ (choice : List Transition). choice) s.choices h) states
    (All-from_flat_map fine (λ (s : StateText). flat_map (λ choice. choice) s.choices) states (λ k d lt. (w.targets k d lt, w.sizes k d lt)))

all_rows : (laws : Laws) (kind : Option Kind) (parameters : ℕ) (states : List StateText) → AreStates kind parameters states → IsWhole states
    → All (All (IsRow (length states) parameters)) (map (rows_of (common states)) states)
all_rows laws kind parameters states h w =
    All-map (All (IsRow (length states) parameters)) (rows_of (common states)) states
    (λ k d lt. let s = get_or states k d in
    All-map (IsRow (length states) parameters) (map (entry (common states))) s.choices
    (λ i c within. row_is laws (length states) parameters (common states) (get_or s.choices i c) ((h.each k d lt).choices i c within) (all_fine states w k d lt i c within)))

row_count : (c : ℕ) (states : List StateText) → sum_by length (map (rows_of c) states) ≡ choice_count states
row_count c states = sum_by-map length (rows_of c) states ∙ sum_by-same (λ (s : StateText). length (rows_of c s)) (λ s. length s.choices) states (λ s. length-map s.choices (map (entry c)))

entry_count : (c : ℕ) (states : List StateText) → sum_by (sum_by length) (map (rows_of c) states) ≡ sum_by (λ s. sum_by length s.choices) states
entry_count c states =
    sum_by-map (sum_by length) (rows_of c) states
    ∙ sum_by-same (λ (s : StateText). sum_by length (rows_of c s)) (λ s. sum_by length s.choices) states
    (λ s. sum_by-map length (map (entry c)) s.choices ∙ sum_by-same (λ (choice : List Transition). length (map (entry c) choice)) length s.choices (λ choice. length-map choice (entry c)))

-- ---- the model

chain_kind : (kind : Option Kind) → unwrap_or kind Dtmc ≡ Dtmc → kind ≢ Some Mdp
chain_kind kind e same = let f : unwrap_or kind Dtmc ≡ Mdp = ap (λ (k : Option Kind). unwrap_or k Dtmc) same in cc

goal_there : (states : List StateText) → list_any (λ s. s.goal) states ≡ true → Contains (map (λ s. s.goal) states) true
goal_there states e =
    let found = Any-from_list_any (λ (s : StateText). s.goal) states e in
    (found.0, omega (arith, found.2, length-map states (λ (s : StateText). s.goal)), get_or-map (λ (s : StateText). s.goal) states found.0 found.1 true found.2 ∙ ap (λ (s : StateText). s.goal) found.3 ∙ found.4)

whole_model : (laws : Laws) (number : ℕ) (said : Said) → IsSound said → end_fault number said ≡ None → IsModel (model said)
unfolding model
whole_model laws number said sound e =
    let states = said.states in
    let c : ℕ = common states in
    let h = sound.states in
    let w = at_end number said e in
    let kind = said.header.kind in
    let parameters : ℕ = length said.header.names in
    let size : length (map (rows_of c) states) ≡ length states = length-map states (rows_of c) in
    let above = common_above laws kind parameters states h in
    let some = some_choice kind parameters states w.last h in
    record {
      count = (omega (arith, w.some, size), omega (arith, h.few, size));
      goals = length-map states (λ (s : StateText). s.goal) ∙ sym size;
      some_goal = goal_there states w.goal;
      first = omega (arith, size, first_within (λ (s : StateText). s.init) states (omega (arith, w.init)));
      denominator = (omega (arith, linear, above), omega (arith, linear, w.denominator));
      parameters = (sound.declared.parameters.0, sound.declared.parameters.1);
      some_choice = All-map (λ rows. 1 ≤ length rows) (rows_of c) states (λ k d lt. omega (arith, some k d lt, length-map (get_or states k d).choices (map (entry c))));
      one_choice =
          λ chain. All-map (λ rows. length rows ≡ 1) (rows_of c) states
          (λ k d lt. omega (arith, some k d lt, (h.each k d lt).one (chain_kind kind chain), length-map (get_or states k d).choices (map (entry c))));
      rows = subst (λ n. All (All (IsRow n parameters)) (map (rows_of c) states)) (sym size) (all_rows laws kind parameters states h w);
      choices = omega (arith, h.choices, row_count c states);
      transitions = omega (arith, h.transitions, entry_count c states);
    }

-- ---- small entries

small_entry : (laws : Laws) (parameters c : ℕ) (t : Transition) → IsValue parameters t.value → IsSmallEntry (entry c t)
small_entry laws parameters c t value =
    let by = pos (c / t.value.den) in
    let below = value.over.sets in
    let few : count_ones (support (scaled c t.value)) ≤ most_value_parameters = le_trans (scaled_few parameters by t.value.terms below) value.few in
    let terms = few_terms parameters (scaled c t.value) (laws.sums (times by t.value.terms)) (scaled_hold (λ s. s < 2 ^ parameters) by t.value.terms below) in
    let most : 2 ^ count_ones (support (scaled c t.value)) ≤ 2 ^ most_value_parameters = pow-le-pow_right {n = 2} (omega arith) few in
    record { parameters = few; terms = le_trans terms most }

small_entries : (laws : Laws) (kind : Option Kind) (parameters c : ℕ) (states : List StateText) → AreStates kind parameters states → All (All (All IsSmallEntry)) (map (rows_of c) states)
small_entries laws kind parameters c states h =
    All-map (All (All IsSmallEntry)) (rows_of c) states
    (λ k d lt. let s = get_or states k d in
    All-map (All IsSmallEntry) (map (entry c)) s.choices
    (λ i e within. let row = get_or s.choices i e in
    All-map IsSmallEntry (entry c) row (λ j t inside. small_entry laws parameters c (get_or row j t) (((h.each k d lt).choices i e within).values j t inside))))

-- what was read without a fault is a valid model, with short names and small entries
pub read_model_is : (laws : Laws) (number : ℕ) (said : Said) → IsSound said → end_fault number said ≡ None → IsReadModel (model said)
unfolding model
read_model_is laws number said sound e = record {
  valid = whole_model laws number said sound e;
  names = sound.declared.parameters.2;
  entries = small_entries laws said.header.kind (length said.header.names) (common said.states) said.states sound.states;
}
