-- What a state's line and a transition's line say.
use Rattle.std.proofs.Common.{◌≡◌, ◌==◌, ◌<◌, ◌≤◌, ℕ, Bool, true, false, not, List, [], ◌∷◌, ◌++◌, length, drop, refl, ap, ◌∙◌, Option, Some, None, Result, Ok, Err, arith}
use Rattle.std.specs.Prelude.{nat_le, nat_lt, ◌&&◌, ◌||◌, if◌then◌else◌, codes}
use Rattle.std.specs.List.{list_all, list_any, prefix_len, position_or_len}
use Rattle.std.specs.Char.{is_ascii_digit}
use Rattle.std.specs.Str.{bytes_eq}
use Rattle.std.specs.Str.Parse.{digits_value}
use Rattle.std.proofs.lemmas.Bool.{eq-eqb}
use Rattle.std.proofs.lemmas.Bool.Decides.{nat_tests}
use Rattle.lift_model.specs.declared.kind.Kind.TheVariants.{Dtmc}
use Rattle.lift_bytes.specs.Bytes.{is_blank, first_passes, behind}
use Rattle.drn_lexer.specs.Bytes.{is_text_byte}
use Rattle.drn_lexer.specs.Cutting.{Piece}
use Rattle.drn_lexer.specs.Lines.{TextLine, content, is_blank_line}
use Rattle.drn_lexer.specs.Words.{WordKind, words}
use Rattle.drn_expr.specs.RatPolys.{OverOne}
use Rattle.drn_read.specs.Faults.{when, first_of, fault_of, reported}
use Rattle.drn_read.specs.Parts.{is_empty}
use Rattle.drn_read.specs.Text.{most_digits, is_digits, behind_colon}
use Rattle.drn_read.specs.Sections.{Header}
use Rattle.drn_read.specs.States.{StateText, is_transition, target_text, target_of, named_value, entry_value, is_label, begins_with, model_line}
use Rattle.drn_read.specs.Judging.{Said, line_fault, words_fault, transition_fault, state_fault, number_fault, labels_fault, choiceless, transition_count, target_fault}
use Rattle.drn_read.specs.Keeping.{states_with, on_last, with_choice, with_transitions}
use Rattle.drn_read.specs.declared.error.DrnCause.{DrnCause}
use Rattle.drn_read.specs.declared.error.DrnCause.TheVariants.{Syntax, UnknownSection, StateOrder, LimitStates, LimitTransitions}
use Rattle.drn_read.specs.declared.error.DrnError.{DrnError}
use Rattle.drn_read.specs.declared.section.Phase.TheVariants as phase
use Rattle.drn_read.specs.declared.section.Section.TheVariants.{ModelType, Parameters, Model}
use Rattle.drn_read.specs.declared.state.Transition.{Transition}
use Rattle.lift_model.specs.Valid.{most_states, most_transitions}
use Rattle.model_gen.proofs.Lists.{on_last-push}
use Rattle.model_gen.proofs.Numbers.{IsNumber, digit}
use Rattle.model_gen.proofs.Plain.{SaysPlain, plain}
use Rattle.model_gen.proofs.Words.{plain_word, digits_of, behind_digits, front_digits, number_word, state_words, EndsWell, plain_state, plain_transition}
use Rattle.model_gen.proofs.Leads.{Leads, leads_one}

-- what the lines before the states say
abbrev pub ladder_header : Header
ladder_header = record {
  phase = phase.Model;
  seen = ModelType ∷ Parameters ∷ Model ∷ [];
  kind = Some Dtmc;
  names = codes "p" ∷ codes "q" ∷ [];
  placeholders = [];
  state_count = None;
  choice_count = None;
}

-- the lines before the states said, and these states
abbrev pub saying : List StateText → Said
saying states = record { header = ladder_header; states = states }

-- the goal's label
abbrev pub done : List ℕ
done = codes "done"

-- ---- a line of the model by its tests

abbrev fault_by : Header → List StateText → TextLine → Bool → Bool → List ℕ → Option DrnError
fault_by h states line head blank text =
    if head then reported line.number (Some UnknownSection)
    else (if blank then None
    else (if is_transition text then reported line.number (transition_fault h states text)
    else words_fault h states line (words text)))

fault_is : (states : List StateText) (l : TextLine) (text : List ℕ) → SaysPlain l text → line_fault (saying states) l ≡ fault_by ladder_header states l false false text
fault_is states l text p =
    ap (λ b. fault_by ladder_header states l b (is_blank_line l) (content l)) p.no_head
    ∙ ap (λ b. fault_by ladder_header states l false b (content l)) p.no_blank
    ∙ ap (λ t. fault_by ladder_header states l false false t) p.says

three : (a b c : Bool) (x y z : DrnCause) → a ≡ false → b ≡ false → c ≡ false → first_of (when a x ∷ when b y ∷ when c z ∷ []) ≡ None
three a b c x y z e f g =
    ap (λ a. first_of (when a x ∷ when b y ∷ when c z ∷ [])) e
    ∙ ap (λ b. first_of (when b y ∷ when c z ∷ [])) f
    ∙ ap (λ c. first_of (when c z ∷ [])) g

-- ---- a state's line

-- labels of a state, as words, and whether they hold `init` and `done`
pub record IsLabels (label : List ℕ) (ws : List (Piece WordKind)) (init goal : Bool) : Type 0 where
  pub words_are : words label ≡ ws
  pub stops : position_or_len is_blank label ≡ 0
  pub calm : labels_fault true ws ≡ None
  pub init_is : list_any (is_label (codes "init")) ws ≡ init
  pub goal_is : list_any (is_label done) ws ≡ goal
  pub bytes : list_all is_text_byte label ≡ true
  pub short : length label ≤ 5
  pub ends : (ds : List ℕ) (n : ℕ) → IsNumber ds n → EndsWell (ds ++ label)

number_calm : (ds : List ℕ) (n before : ℕ) → IsNumber ds n → n ≡ before → before < most_states → number_fault before (plain_word ds) ≡ None
number_calm ds n before h e few =
    three (not (is_digits ds)) (not (digits_value 10 ds == before)) (nat_le most_states before) Syntax StateOrder LimitStates
    (grind (arith, nat_tests, h.digits, h.some))
    (ap not (eq-eqb (digits_value 10 ds) before (h.value ∙ e)))
    (grind (arith, nat_tests, few))

state_calm : (ds : List ℕ) (n before : ℕ) (ws : List (Piece WordKind)) → IsNumber ds n → n ≡ before → before < most_states → labels_fault true ws ≡ None → state_fault before (plain_word ds ∷ ws) ≡ None
state_calm ds n before ws h e few calm =
    ap (λ o. elim o [ Some cause ↦ Some cause | None ↦ labels_fault true ws ]) (number_calm ds n before h e few) ∙ calm

-- the states with one more, of this line and words
abbrev with_state : List StateText → TextLine → Bool → List (Piece WordKind) → List StateText
with_state states l blank ws =
    if blank then states
    else (if begins_with (codes "state") ws then states ++ record { line = l.number; init = list_any (is_label (codes "init")) (drop 2 ws); goal = list_any (is_label done) (drop 2 ws); choices = [] } ∷ []
    else (if begins_with (codes "action") ws then on_last with_choice states
    else states))

-- a state as its line says it, with these choices
abbrev pub text_state : ℕ → Bool → Bool → List (List Transition) → StateText
text_state number init goal choices = record { line = number; init = init; goal = goal; choices = choices }

pub state_leads : (l : TextLine) (ds label : List ℕ) (ws : List (Piece WordKind)) (init goal : Bool) (states : List StateText)
    → l.bytes ≡ (codes "state " ++ ds) ++ label → IsNumber ds (length states) → IsLabels label ws init goal → choiceless states ≡ None → length states < most_states
    → Leads done (l ∷ []) (saying states) (saying (states ++ text_state l.number init goal [] ∷ []))
state_leads l ds label ws init goal states e n is closed few =
    let p = plain l ((codes "state " ++ ds) ++ label) e (plain_state ds label (length states) n is.bytes is.short (is.ends ds (length states) n)) in
    let ws_are : words ((codes "state " ++ ds) ++ label) ≡ plain_word (codes "state") ∷ plain_word ds ∷ ws = state_words ds label (length states) n is.stops ∙ ap (λ w. plain_word (codes "state") ∷ plain_word ds ∷ w) is.words_are in
    let calm : line_fault (saying states) l ≡ None =
    fault_is states l ((codes "state " ++ ds) ++ label) p
    ∙ ap (words_fault ladder_header states l) ws_are
    ∙ ap (λ o. first_of (o ∷ reported l.number (state_fault (length states) (plain_word ds ∷ ws)) ∷ [])) closed
    ∙ ap (λ o. first_of (reported l.number o ∷ [])) (state_calm ds (length states) (length states) ws n refl few is.calm) in
    let step : states_with done ladder_header states l ≡ states ++ text_state l.number init goal [] ∷ [] =
    ap (λ b. states_by b (words (content l))) p.no_blank
    ∙ ap (λ t. states_by false (words t)) p.says
    ∙ ap (states_by false) ws_are
    ∙ ap (λ b. states ++ text_state l.number b (list_any (is_label done) ws) [] ∷ []) is.init_is
    ∙ ap (λ b. states ++ text_state l.number init b [] ∷ []) is.goal_is in
    leads_one done l (saying states) (saying (states ++ text_state l.number init goal [] ∷ [])) p.own p.no_comment calm (ap saying step)
  where
    states_by : Bool → List (Piece WordKind) → List StateText
    states_by blank ws =
        if blank then states
        else (if begins_with (codes "state") ws then states ++ text_state l.number (list_any (is_label (codes "init")) (drop 2 ws)) (list_any (is_label done) (drop 2 ws)) [] ∷ []
        else (if begins_with (codes "action") ws then on_last with_choice states
        else on_last (with_transitions (Rattle.drn_read.specs.States.transition (model_line ladder_header.names [] l))) states))

-- ---- a transition's line

-- the value that a tail behind a target gives
abbrev value_behind : List ℕ → Result OverOne DrnCause
value_behind tail = elim (behind_colon tail) [ Some value ↦ named_value ladder_header.names [] value | None ↦ Err Syntax ]

-- what stands behind a target, and the value that it gives
pub record IsValue (tail : List ℕ) (v : OverOne) : Type 0 where
  pub no_digit : prefix_len is_ascii_digit tail ≡ 0
  pub stops : position_or_len is_blank tail ≡ 0
  pub colon : first_passes (λ b. b == 58) (behind is_blank tail) ≡ true
  pub value : value_behind tail ≡ Ok v
  pub bytes : list_all is_text_byte tail ≡ true
  pub short : length tail ≤ 6
  pub ends : EndsWell tail

-- the tests of a transition's line, by its target's text and what is behind it
abbrev transition_by : List StateText → Bool → List ℕ → List ℕ → Option DrnCause
transition_by states empty target tail = first_of (
    when empty Syntax
    ∷ when (nat_lt most_digits (length target) || not (first_passes (λ b. b == 58) (behind is_blank tail))) Syntax
    ∷ first_of (target_fault states (digits_value 10 target) ∷ when (nat_le most_transitions (transition_count states)) LimitTransitions ∷ [])
    ∷ fault_of (value_behind tail)
    ∷ [])

six : (a b c e : Bool) (d f : Option DrnCause) → a ≡ false → b ≡ false → c ≡ false → d ≡ None → e ≡ false → f ≡ None
    → first_of (when a Syntax ∷ when (b || c) Syntax ∷ first_of (d ∷ when e LimitTransitions ∷ []) ∷ f ∷ []) ≡ None
six a b c e d f g h i j k l =
    ap (λ a. first_of (when a Syntax ∷ when (b || c) Syntax ∷ first_of (d ∷ when e LimitTransitions ∷ []) ∷ f ∷ [])) g
    ∙ ap (λ b. first_of (when (b || c) Syntax ∷ first_of (d ∷ when e LimitTransitions ∷ []) ∷ f ∷ [])) h
    ∙ ap (λ c. first_of (when c Syntax ∷ first_of (d ∷ when e LimitTransitions ∷ []) ∷ f ∷ [])) i
    ∙ ap (λ d. first_of (first_of (d ∷ when e LimitTransitions ∷ []) ∷ f ∷ [])) j
    ∙ ap (λ e. first_of (first_of (when e LimitTransitions ∷ []) ∷ f ∷ [])) k
    ∙ ap (λ f. first_of (f ∷ [])) l

transition_calm : (ds tail : List ℕ) (n : ℕ) (v : OverOne) (states : List StateText) → IsNumber ds n → IsValue tail v → is_empty states ≡ false → target_fault states n ≡ None → transition_count states < most_transitions
    → transition_fault ladder_header states (ds ++ tail) ≡ None
transition_calm ds tail n v states h is some fresh few =
    ap (λ t. transition_by states (is_empty states) t (behind is_ascii_digit (ds ++ tail))) (front_digits ds tail h.digits is.no_digit)
    ∙ ap (transition_by states (is_empty states) ds) (behind_digits ds tail h.digits is.no_digit)
    ∙ six (is_empty states) (nat_lt most_digits (length ds)) (not (first_passes (λ b. b == 58) (behind is_blank tail))) (nat_le most_transitions (transition_count states))
    (target_fault states (digits_value 10 ds)) (fault_of (value_behind tail))
    some
    (grind (arith, nat_tests, h.short))
    (ap not is.colon)
    (ap (target_fault states) h.value ∙ fresh)
    (grind (arith, nat_tests, few))
    (ap fault_of is.value)

-- a first word of digits is no word of the format
no_word : (b : ℕ) (bs : List ℕ) (ws : List (Piece WordKind)) → (b == 115) ≡ false → (b == 97) ≡ false → (begins_with (codes "state") (plain_word (b ∷ bs) ∷ ws) ≡ false) × (begins_with (codes "action") (plain_word (b ∷ bs) ∷ ws) ≡ false)
no_word b bs ws e f = (ap (λ c. c && bytes_eq bs (codes "tate")) e, ap (λ c. c && bytes_eq bs (codes "ction")) f)

-- a transition as its line says it
abbrev pub text_transition : ℕ → ℕ → OverOne → Transition
text_transition number target value = record { line = number; target = target; value = value }

-- the states with one more transition of this line
abbrev with_line_by : List StateText → TextLine → Bool → Bool → Bool → Result OverOne DrnCause → ℕ → List StateText
with_line_by states l blank state action value target =
    if blank then states
    else (if state then states ++ record { line = l.number; init = list_any (is_label (codes "init")) (drop 2 (words (content l))); goal = list_any (is_label done) (drop 2 (words (content l))); choices = [] } ∷ []
    else (if action then on_last with_choice states
    else on_last (with_transitions (elim value [ Ok v ↦ text_transition l.number target v ∷ [] | Err cause ↦ [] ])) states))

pub transition_leads : (l : TextLine) (ds tail : List ℕ) (n : ℕ) (v : OverOne) (front : List StateText) (s t : StateText)
    → l.bytes ≡ ds ++ tail → IsNumber ds n → IsValue tail v → is_empty (front ++ s ∷ []) ≡ false → target_fault (front ++ s ∷ []) n ≡ None → transition_count (front ++ s ∷ []) < most_transitions
    → with_transitions (text_transition l.number n v ∷ []) s ≡ t
    → Leads done (l ∷ []) (saying (front ++ s ∷ [])) (saying (front ++ t ∷ []))
transition_leads l ds tail n v front s t e h is some fresh few grown =
    let states : List StateText = front ++ s ∷ [] in
    let p = plain l (ds ++ tail) e (plain_transition ds tail n h is.bytes is.short is.ends) in
    let d = digits_of ds n h in
    let c = digit d.first d.first_is in
    let digit_first : is_transition (ds ++ tail) ≡ true = ap (λ x. is_transition (x ++ tail)) d.is ∙ d.first_is in
    let calm : line_fault (saying states) l ≡ None =
    fault_is states l (ds ++ tail) p
    ∙ ap (λ b. if b then reported l.number (transition_fault ladder_header states (ds ++ tail)) else words_fault ladder_header states l (words (ds ++ tail))) digit_first
    ∙ ap (reported l.number) (transition_calm ds tail n v states h is some fresh few) in
    let ws : words (content l) ≡ plain_word (d.first ∷ d.rest) ∷ words tail = ap words p.says ∙ number_word ds tail n h is.stops ∙ ap (λ x. plain_word x ∷ words tail) d.is in
    let no = no_word d.first d.rest (words tail) c.s c.a in
    let value : entry_value ladder_header.names [] (content l) ≡ Ok v = ap (entry_value ladder_header.names []) p.says ∙ ap (value_behind) (behind_digits ds tail h.digits is.no_digit) ∙ is.value in
    let target : target_of (content l) ≡ n = ap target_of p.says ∙ ap (digits_value 10) (front_digits ds tail h.digits is.no_digit) ∙ h.value in
    let step : states_with done ladder_header states l ≡ front ++ t ∷ [] =
    ap (λ b. with_line_by states l b (begins_with (codes "state") (words (content l))) (begins_with (codes "action") (words (content l))) (entry_value ladder_header.names [] (content l)) (target_of (content l))) p.no_blank
    ∙ ap (λ b. with_line_by states l false b (begins_with (codes "action") (words (content l))) (entry_value ladder_header.names [] (content l)) (target_of (content l))) (ap (begins_with (codes "state")) ws ∙ no.0)
    ∙ ap (λ b. with_line_by states l false false b (entry_value ladder_header.names [] (content l)) (target_of (content l))) (ap (begins_with (codes "action")) ws ∙ no.1)
    ∙ ap (λ r. with_line_by states l false false false r (target_of (content l))) value
    ∙ ap (with_line_by states l false false false (Ok v)) target
    ∙ on_last-push (with_transitions (text_transition l.number n v ∷ [])) front s
    ∙ ap (λ u. front ++ u ∷ []) grown in
    leads_one done l (saying states) (saying (front ++ t ∷ [])) p.own p.no_comment calm (ap saying step)
