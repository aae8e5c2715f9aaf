-- The ladder's text is read as the ladder.
use Rattle.std.proofs.Common.{◌≡◌, ◌==◌, ◌<◌, ◌≤◌, ◌+◌, ◌*◌, ℕ, zero, suc, Bool, true, false, cond, not, List, [], ◌∷◌, ◌++◌, length, map, refl, sym, ap, subst, ◌∙◌, Option, Some, None, Result, Ok, Err, arith, pos}
use Rattle.std.specs.Prelude.{codes, nat_le, ◌||◌}
use Rattle.std.specs.List.{flat_map, list_any, find, fold, count_by, position_or_len}
use Rattle.std.specs.Option.{option_map}
use Rattle.std.proofs.lemmas.Bool.{ne_eqb}
use Rattle.std.proofs.lemmas.Bool.Decides.{nat_tests}
use Rattle.std.proofs.lemmas.Grind.{flat_map-append}
use Rattle.std.proofs.lemmas.List.{append-nil, map-append}
use Rattle.std.proofs.lemmas.List.Folds.{list_any-append}
use Rattle.std.proofs.lemmas.List.Sums.{sum_by-append, sum_by-cons}
use Rattle.lift_frac.specs.Gcd.{gcd, lcm}
use Rattle.lift_model.specs.Valid.{common_limit}
use Rattle.lift_model.specs.Model.{ModelData}
use Rattle.lift_model.specs.declared.entry.Entry.{Entry}
use Rattle.lift_model.specs.declared.kind.Kind.TheVariants.{Dtmc}
use Rattle.drn_lexer.specs.Lines.{TextLine, numbered}
use Rattle.drn_read.specs.Faults.{when, first_of, reported}
use Rattle.drn_read.specs.States.{StateText}
use Rattle.drn_read.specs.Judging.{Said, has, choiceless}
use Rattle.drn_read.specs.Laws.{SaysMore}
use Rattle.drn_read.specs.Reading.{drn, said, first_fault, end_fault, ended, model, all_transitions, common, is_large, entry, last_number}
use Rattle.drn_read.specs.declared.error.DrnError.{DrnError}
use Rattle.drn_read.specs.declared.error.DrnCause.TheVariants.{MissingSection, NoState, CountMismatch, TargetRange, InitCount, UnknownLabel, CommonDenominator}
use Rattle.drn_read.specs.declared.state.Transition.{Transition}
use Rattle.drn_read.specs.declared.section.Section.TheVariants.{Model}
use Rattle.model_gen.specs.Ladder.{most_blocks, blocks, ladder_lines, ladder_text, ladder, ladder_states, block_states, no_goals, to, one_poly}
use Rattle.model_gen.proofs.Steps.{saying, done, ladder_header}
use Rattle.model_gen.proofs.States.{Sized}
use Rattle.model_gen.proofs.Blocks.{text_states, all_states, first_state, second_state, goal_state, sink_state, ladder_leads, sized_all}
use Rattle.model_gen.proofs.Texts.{lines_are}

-- ---- transitions

-- what the end of the text asks of a transition, among so many states
record IsFine (count : ℕ) (t : Transition) : Type 0 where
  pub den : t.value.den ≡ 1
  pub target : nat_le count t.target ≡ false
  pub small : is_large 1 t ≡ false

abbrev AreFine : ℕ → List Transition → Type 0
AreFine count [] = Unit {0}
AreFine count (t ∷ ts) = IsFine count t × AreFine count ts

fine_both : (count : ℕ) (ts us : List Transition) → AreFine count ts → AreFine count us → AreFine count (ts ++ us)
fine_both count [] us h g = g
fine_both count (t ∷ ts) us h g = (h.0, fine_both count ts us h.1 g)

lcm_one : lcm 1 1 ≡ 1
unfolding gcd
lcm_one = refl

common_one : (count : ℕ) (ts : List Transition) → AreFine count ts → fold (λ c t. lcm c t.value.den) 1 ts ≡ 1
common_one count [] h = refl
common_one count (t ∷ ts) h = ap (λ c. fold (λ c t. lcm c t.value.den) c ts) (ap (lcm 1) h.0.den ∙ lcm_one) ∙ common_one count ts h.1

none_outside : (count : ℕ) (ts : List Transition) → AreFine count ts → find (λ t. nat_le count t.target) ts ≡ None
none_outside count [] h = refl
none_outside count (t ∷ ts) h = ap (λ b. cond b (Some t) (find (λ t. nat_le count t.target) ts)) h.0.target ∙ none_outside count ts h.1

none_large : (count : ℕ) (ts : List Transition) → AreFine count ts → list_any (is_large 1) ts ≡ false
none_large count [] h = refl
none_large count (t ∷ ts) h = ap (λ b. b || list_any (is_large 1) ts) h.0.small ∙ none_large count ts h.1

below : (count target : ℕ) → target < count → nat_le count target ≡ false
below count target h = grind (arith, nat_tests, h)

fine_states : (n i : ℕ) → i ≤ n → AreFine (2 * n + 2) (all_transitions (text_states n i))
unfolding text_states
fine_states n zero l = tt
fine_states n (suc i) l =
    let x = first_state (5 + length (blocks n i)) i in
    let y = second_state (5 + length (blocks n i) + 1 + 1 + 1) n i in
    subst (AreFine (2 * n + 2)) (sym (flat_map-append (λ s. flat_map (λ choice. choice) s.choices) (text_states n i) (x ∷ y ∷ [])))
    (fine_both (2 * n + 2) (all_transitions (text_states n i)) (all_transitions (x ∷ y ∷ [])) (fine_states n i (omega arith)) (
      record { den = refl; target = below (2 * n + 2) (2 * i + 2) (omega arith); small = refl },
      (
        record { den = refl; target = below (2 * n + 2) (2 * i + 1) (omega arith); small = refl },
        (
          record { den = refl; target = below (2 * n + 2) (2 * i) (omega arith); small = refl },
          (record { den = refl; target = below (2 * n + 2) (2 * n + 1) (omega arith); small = refl }, tt),
        ),
      ),
    ))

fine_all : (n : ℕ) → AreFine (2 * n + 2) (all_transitions (all_states n))
fine_all n =
    let x = goal_state (5 + length (blocks n n)) n in
    let y = sink_state (5 + length (blocks n n) + 1 + 1) n in
    subst (AreFine (2 * n + 2)) (sym (flat_map-append (λ s. flat_map (λ choice. choice) s.choices) (text_states n n) (x ∷ y ∷ [])))
    (fine_both (2 * n + 2) (all_transitions (text_states n n)) (all_transitions (x ∷ y ∷ [])) (fine_states n n (omega arith)) (
      record { den = refl; target = below (2 * n + 2) (2 * n) (omega arith); small = refl },
      (record { den = refl; target = below (2 * n + 2) (2 * n + 1) (omega arith); small = refl }, tt),
    ))

-- ---- the initial state and the goal

-- the first state is the initial one, and no other
record BeginsOnce (states : List StateText) : Type 0 where
  pub first : StateText
  pub rest : List StateText
  pub is : states ≡ first ∷ rest
  pub init : first.init ≡ true
  pub none : count_by (λ s. s.init) rest ≡ 0

once_more : (states more : List StateText) → BeginsOnce states → count_by (λ s. s.init) more ≡ 0 → BeginsOnce (states ++ more)
once_more states more h e = record {
  first = h.first;
  rest = h.rest ++ more;
  is = ap (λ ss. ss ++ more) h.is;
  init = h.init;
  none = omega (arith, h.none, e, sum_by-append (λ (s : StateText). cond s.init 1 0) h.rest more);
}

begins_once : (n i : ℕ) → BeginsOnce (text_states n (suc i))
unfolding text_states
begins_once n zero = record { first = first_state (5 + length (blocks n 0)) 0; rest = second_state (5 + length (blocks n 0) + 1 + 1 + 1) n 0 ∷ []; is = refl; init = refl; none = refl }
begins_once n (suc i) = once_more (text_states n (suc i)) (first_state (5 + length (blocks n (suc i))) (suc i) ∷ second_state (5 + length (blocks n (suc i)) + 1 + 1 + 1) n (suc i) ∷ []) (begins_once n i) refl

all_begin_once : (n : ℕ) → 1 ≤ n → BeginsOnce (all_states n)
all_begin_once zero h = absurd (omega arith)
all_begin_once (suc i) h = once_more (text_states (suc i) (suc i)) _ (begins_once (suc i) i) refl

one_init : (states : List StateText) → BeginsOnce states → count_by (λ s. s.init) states ≡ 1
one_init states h = ap (count_by (λ s. s.init)) h.is ∙ omega (arith, sum_by-cons (λ (s : StateText). cond s.init 1 0) h.first h.rest, ap (λ (b : Bool). let k : ℕ = cond b 1 0 in k) h.init, h.none)

init_place : (states : List StateText) → BeginsOnce states → position_or_len (λ s. s.init) states ≡ 0
init_place states h = ap (position_or_len (λ s. s.init)) h.is ∙ ap (λ b. cond (not b) (1 + position_or_len (λ s. s.init) h.rest) 0) h.init

-- ---- the model

rows_of : StateText → List (List Entry)
rows_of s = map (map (entry 1)) s.choices

rows_are : (n i : ℕ) → map rows_of (text_states n i) ≡ ladder_states n i
unfolding text_states ladder_states rows_of
rows_are n zero = refl
rows_are n (suc i) = map-append rows_of (text_states n i) _ ∙ ap (λ rows. rows ++ block_states n i) (rows_are n i)

goals_are : (n i : ℕ) → map (λ s. s.goal) (text_states n i) ≡ no_goals i
unfolding text_states no_goals
goals_are n zero = refl
goals_are n (suc i) = map-append (λ (s : StateText). s.goal) (text_states n i) _ ∙ ap (λ goals. goals ++ false ∷ false ∷ []) (goals_are n i)

all_rows_are : (n : ℕ) → map rows_of (all_states n) ≡ (ladder n).states
unfolding rows_of
all_rows_are n = map-append rows_of (text_states n n) _ ∙ ap (λ rows. rows ++ ((to (2 * n) one_poly ∷ []) ∷ []) ∷ ((to (2 * n + 1) one_poly ∷ []) ∷ []) ∷ []) (rows_are n n)

all_goals_are : (n : ℕ) → map (λ s. s.goal) (all_states n) ≡ (ladder n).goal
all_goals_are n = map-append (λ (s : StateText). s.goal) (text_states n n) _ ∙ ap (λ goals. goals ++ true ∷ false ∷ []) (goals_are n n)

common_is : (n : ℕ) → common (all_states n) ≡ 1
common_is n = common_one (2 * n + 2) (all_transitions (all_states n)) (fine_all n)

model_by : List Bool → ℕ → List (List (List Entry)) → ℕ → ModelData
model_by goal init states c = record { kind = Dtmc; common = pos c; names = codes "p" ∷ codes "q" ∷ []; goal = goal; init = init; states = states }

pub model_is : (n : ℕ) → 1 ≤ n → model (saying (all_states n)) ≡ ladder n
unfolding model model_by rows_of
model_is n h =
    ap (λ c. model_by (map (λ s. s.goal) (all_states n)) (position_or_len (λ s. s.init) (all_states n)) (map (λ s. map (map (entry c)) s.choices) (all_states n)) c) (common_is n)
    ∙ ap (λ g. model_by g (position_or_len (λ s. s.init) (all_states n)) (map rows_of (all_states n)) 1) (all_goals_are n)
    ∙ ap (λ i. model_by (ladder n).goal i (map rows_of (all_states n)) 1) (init_place (all_states n) (all_begin_once n h))
    ∙ ap (λ rows. model_by (ladder n).goal 0 rows 1) (all_rows_are n)

-- ---- the tests at the end

-- the fault at the end, by its tests
end_by : ℕ → Option DrnError → Bool → Option Transition → Bool → Bool → Bool → Option DrnError
end_by number closed empty outside inits goals large = first_of (
    reported number (when (not (has Model ladder_header)) MissingSection)
    ∷ closed
    ∷ reported number (when empty NoState)
    ∷ reported number (when false CountMismatch)
    ∷ option_map (λ t. record { line = t.line; cause = TargetRange }) outside
    ∷ reported number (when (not inits) InitCount)
    ∷ reported number (when (not goals) UnknownLabel)
    ∷ reported number (when large CommonDenominator)
    ∷ [])

end_is : (number : ℕ) (states : List StateText) → end_fault number (saying states)
    ≡ end_by number (choiceless states) (length states == 0) (find (λ t. nat_le (length states) t.target) (all_transitions states)) (count_by (λ s. s.init) states == 1) (list_any (λ s. s.goal) states)
    (nat_le (common_limit) (common states) || list_any (is_large (common states)) (all_transitions states))
unfolding end_fault end_by
end_is number states = refl

no_fault_by : (number : ℕ) (closed : Option DrnError) (empty : Bool) (outside : Option Transition) (inits goals large : Bool)
    → closed ≡ None → empty ≡ false → outside ≡ None → inits ≡ true → goals ≡ true → large ≡ false → end_by number closed empty outside inits goals large ≡ None
unfolding end_by
no_fault_by number closed empty outside inits goals large a b c d e f =
    ap (λ x. end_by number x empty outside inits goals large) a
    ∙ ap (λ x. end_by number None x outside inits goals large) b
    ∙ ap (λ x. end_by number None false x inits goals large) c
    ∙ ap (λ x. end_by number None false None x goals large) d
    ∙ ap (λ x. end_by number None false None true x large) e
    ∙ ap (end_by number None false None true true) f

some_goal : (n : ℕ) → list_any (λ s. s.goal) (all_states n) ≡ true
some_goal n = list_any-append (λ (s : StateText). s.goal) (text_states n n) _ ∙ or_true (list_any (λ s. s.goal) (text_states n n))
  where
    or_true : (b : Bool) → (b || true) ≡ true
    or_true true = refl
    or_true false = refl

pub no_end_fault : (n number : ℕ) → 1 ≤ n → end_fault number (saying (all_states n)) ≡ None
no_end_fault n number h =
    let states = all_states n in
    let sized : Sized states (2 * n + 2) = sized_all n in
    let fine = fine_all n in
    end_is number states
    ∙ no_fault_by number (choiceless states) (length states == 0) (find (λ t. nat_le (length states) t.target) (all_transitions states)) (count_by (λ s. s.init) states == 1) (list_any (λ s. s.goal) states)
    (nat_le (common_limit) (common states) || list_any (is_large (common states)) (all_transitions states))
    sized.closed
    (ne_eqb (length states) 0 (λ e. omega (arith, e, sized.count_is)))
    (ap (λ k. find (λ t. nat_le k t.target) (all_transitions states)) sized.count_is ∙ none_outside (2 * n + 2) (all_transitions states) fine)
    (ap (λ k. k == 1) (one_init states (all_begin_once n h)))
    (some_goal n)
    (ap (λ c. nat_le (common_limit) c || list_any (is_large c) (all_transitions states)) (common_is n) ∙ none_large (2 * n + 2) (all_transitions states) fine)

-- ---- the whole

drn_by : List ℕ → List TextLine → Option DrnError → Said → Result ModelData DrnError
drn_by label ls fault s = elim fault [ Some f ↦ Err f | None ↦ ended (last_number ls) s ]

no_line : (label : List ℕ) (before : List TextLine) → first_fault label before [] ≡ None
unfolding first_fault
no_line label before = refl

-- the text stands for the ladder
pub ladder_read : SaysMore → (n : ℕ) → 1 ≤ n → n ≤ most_blocks → drn (ladder_text n) (codes "done") ≡ Ok (ladder n)
unfolding drn drn_by
ladder_read more n h m =
    let ls = numbered 1 0 (ladder_lines n) in
    let lead = ladder_leads n m in
    let fault : first_fault done [] ls ≡ None = ap (first_fault done []) (sym (append-nil ls)) ∙ lead.fault more [] [] refl ∙ no_line done ls in
    let s : said done ls ≡ saying (all_states n) = lead.said_is more [] refl in
    ap (λ ls. drn_by done ls (first_fault done [] ls) (said done ls)) (lines_are n m)
    ∙ ap (λ f. drn_by done ls f (said done ls)) fault
    ∙ ap (drn_by done ls None) s
    ∙ ap (λ o. elim o as (λ o. Result ModelData DrnError) [ Some f ↦ Err f | None ↦ Ok (model (saying (all_states n))) ]) (no_end_fault n (last_number ls) h)
    ∙ ap (λ m. let r : Result ModelData DrnError = Ok m in r) (model_is n h)
