-- What the lines of a text say, with one more line.
use Rattle.std.proofs.Common.{◌≡◌, ℕ, Bool, true, false, not, ◌&&◌, refl, List, [], ◌∷◌, ◌++◌, sym, ◌∙◌, ap, append_assoc, Option, Some, None}
use Rattle.std.specs.Prelude.{map, filter, if◌then◌else◌}
use Rattle.std.specs.List.{flat_map, list_all}
use Rattle.std.specs.Str.Parse.{digits_value}
use Rattle.std.proofs.lemmas.List.{append-nil, map-append}
use Rattle.std.proofs.lemmas.List.Elements.{filter-append}
use Rattle.std.proofs.lemmas.List.Folds.{list_all-append}
use Rattle.drn_lexer.specs.Lines.{TextLine, content, is_blank_line, is_comment}
use Rattle.drn_lexer.specs.Words.{words}
use Rattle.drn_read.specs.Parts.{Part, parts, last}
use Rattle.drn_read.specs.Sections.{Header, Placeholder, section_of, section_at, is_head, is_section, said_in, phase_of, list_words, names_in, names, placeholder, placeholders, header}
use Rattle.drn_read.specs.States.{ModelLine, StateText, model_line, model_lines, is_state, is_action, transition, states}
use Rattle.drn_read.specs.Judging.{Said, line_fault}
use Rattle.drn_read.specs.Reading.{said}
use Rattle.drn_read.specs.Keeping.{with_line, with_section, with_names, with_state_count, with_choice_count, with_placeholder, with_choice, with_transitions, states_with}
use Rattle.drn_read.specs.declared.section.Phase.{Phase}
use Rattle.drn_read.specs.declared.section.Phase.TheVariants as phase
use Rattle.drn_read.specs.declared.section.Section.{Section}
use Rattle.drn_read.specs.declared.section.Section.TheVariants.{ModelType, ValueType, Parameters, RewardModels, NrStates, NrChoices, Placeholders, Model}
use Rattle.drn_read.proofs.Cuts.{longer, begun, onto_last, parts_new, parts_grow, last-append, Ends, nothing, ending, ends, onto_last-ends}
use Rattle.drn_read.proofs.Choices.{states_of, states_new, states_more, state_action, state_transition}
use Rattle.drn_read.proofs.Headers.{header_at, same_header, count_of, places_in, lines_in, header-ends, model_lines-ends, flat_map-push}
use Rattle.drn_read.proofs.Phases.{step_sections, step_names, step_rewards, step_states, step_states_blank, step_choices, step_choices_blank, step_places, step_places_blank, step_model, blank_between, Begins, begins}
use Rattle.drn_read.proofs.Bodies.{new_header, nothing_named, no_lines, other_said, blank_said, more_said, other_names, known_section, no_section, known_phase, no_phase, names_kept, places_kept, count_kept, quiet_header, names_none, places_none}

-- what sections say of which this one is the last
unfoldable said_at : List ℕ → List (Part TextLine) → Part TextLine → Said
said_at label front p = record { header = header_at front p; states = states_of label (model_lines front ++ lines_in front p) }

-- what sections say
unfoldable said_of : List ℕ → List (Part TextLine) → Said
said_of label ps = record { header = header ps; states = states label ps }

abbrev both : Header → List StateText → Said
both h states = record { header = h; states = states }

said-ends : (label : List ℕ) (front : List (Part TextLine)) (p : Part TextLine) → said_of label (front ++ p ∷ []) ≡ said_at label front p
unfolding said_of said_at
said-ends label front p =
    ap (λ (h : Header). both h (states label (front ++ p ∷ []))) (header-ends front p)
    ∙ ap (λ (ls : List ModelLine). both (header_at front p) (states_of label ls)) (model_lines-ends front p)

phase_at : (label : List ℕ) (front : List (Part TextLine)) (p : Part TextLine) → (said_at label front p).header.phase ≡ phase_of p
unfolding said_at header_at
phase_at label front p = refl

-- ---- a line that begins a section

begin_said : (label : List ℕ) (ps : List (Part TextLine)) (l : TextLine) (b : Begins label (said_of label ps) l) → said_of label (ps ++ begun l ∷ []) ≡ with_line label (said_of label ps) l
unfolding said_of said_at
begin_said label ps l b =
    said-ends label ps (begun l)
    ∙ ap (λ (h : Header). both h (states_of label (model_lines ps ++ lines_in ps (begun l)))) (new_header ps l b.part b.is b.known)
    ∙ ap (λ (ls : List ModelLine). both (with_section (content l) (header ps) b.part) (states_of label ls)) (ap (λ (ls : List ModelLine). model_lines ps ++ ls) (no_lines ps l) ∙ append-nil (model_lines ps))
    ∙ sym b.step

-- ---- a line of the last section

changed : (label : List ℕ) (front : List (Part TextLine)) (p : Part TextLine) (l : TextLine) (h : Header) → header_at front (longer p l) ≡ h
    → said_in Model (longer p l) ≡ said_in Model p → said_at label front (longer p l) ≡ record (said_at label front p) { header = h }
unfolding said_at
changed label front p l h e m =
    ap (λ (k : Header). both k (states_of label (model_lines front ++ lines_in front (longer p l)))) e
    ∙ ap (λ (ls : List TextLine). both h (states_of label (model_lines front ++ map (model_line (names front) (placeholders front)) ls))) m

stays : (label : List ℕ) (front : List (Part TextLine)) (p : Part TextLine) (l : TextLine) → phase_of (longer p l) ≡ phase_of p → names_in (longer p l) ≡ names_in p
    → said_in Placeholders (longer p l) ≡ said_in Placeholders p → said_in NrStates (longer p l) ≡ said_in NrStates p → said_in NrChoices (longer p l) ≡ said_in NrChoices p
    → said_in Model (longer p l) ≡ said_in Model p → said_at label front (longer p l) ≡ said_at label front p
unfolding said_at
stays label front p l a b c d e f = changed label front p l (header_at front p) (quiet_header front p l a b c d e) f

stays_blank : (label : List ℕ) (front : List (Part TextLine)) (p : Part TextLine) (l : TextLine) → is_blank_line l ≡ true → phase_of (longer p l) ≡ phase_of p → names_in (longer p l) ≡ names_in p
    → said_at label front (longer p l) ≡ said_at label front p
stays_blank label front p l blank a b =
    stays label front p l a b (blank_said Placeholders p l blank) (blank_said NrStates p l blank) (blank_said NrChoices p l blank) (blank_said Model p l blank)

abbrev Grows : List ℕ → List (Part TextLine) → Part TextLine → TextLine → Type 0
Grows label front p l = said_at label front (longer p l) ≡ with_line label (said_at label front p) l

-- in a section without content of its own
idle : (label : List ℕ) (front : List (Part TextLine)) (p : Part TextLine) (l : TextLine) → is_head l ≡ false → phase_of p ≡ phase.Sections → phase_of (longer p l) ≡ phase.Sections
    → is_section Parameters p ≡ false → is_section Placeholders p ≡ false → is_section NrStates p ≡ false → is_section NrChoices p ≡ false → is_section Model p ≡ false → Grows label front p l
idle label front p l f now next a b c d e =
    stays label front p l (next ∙ sym now) (other_names p l a) (other_said Placeholders p l b) (other_said NrStates p l c) (other_said NrChoices p l d) (other_said Model p l e)
    ∙ sym (step_sections label (said_at label front p) l (phase_at label front p ∙ now) f)

in_none : (label : List ℕ) (front : List (Part TextLine)) (p : Part TextLine) (l : TextLine) → section_at p ≡ None → is_head l ≡ false → Grows label front p l
in_none label front p l e f =
    idle label front p l f (no_phase p e) (no_phase (longer p l) e)
    (no_section Parameters p e) (no_section Placeholders p e) (no_section NrStates p e) (no_section NrChoices p e) (no_section Model p e)

in_type : (label : List ℕ) (front : List (Part TextLine)) (p : Part TextLine) (l : TextLine) → section_at p ≡ Some ModelType → is_head l ≡ false → Grows label front p l
in_type label front p l e f =
    idle label front p l f (known_phase ModelType p e) (known_phase ModelType (longer p l) e)
    (known_section Parameters ModelType p e) (known_section Placeholders ModelType p e) (known_section NrStates ModelType p e)
    (known_section NrChoices ModelType p e) (known_section Model ModelType p e)

in_value_type : (label : List ℕ) (front : List (Part TextLine)) (p : Part TextLine) (l : TextLine) → section_at p ≡ Some ValueType → is_head l ≡ false → Grows label front p l
in_value_type label front p l e f =
    idle label front p l f (known_phase ValueType p e) (known_phase ValueType (longer p l) e)
    (known_section Parameters ValueType p e) (known_section Placeholders ValueType p e) (known_section NrStates ValueType p e)
    (known_section NrChoices ValueType p e) (known_section Model ValueType p e)

-- ---- in the sections of one line

-- the names that the first line behind `@parameters` gives
named : (front : List (Part TextLine)) (head l : TextLine) → section_of (content head) ≡ Some Parameters
    → header_at front (longer (begun head) l) ≡ with_names (header_at front (begun head)) (content l)
unfolding header_at count_of
named front head l e =
    let p = begun head in
    let list = map (λ word. word.bytes) (words (content l)) in
    let first : names_in (longer p l) ≡ list = names_by (known_section Parameters Parameters p e) in
    same_header (header_at front (longer p l)) (with_names (header_at front p) (content l))
    (known_phase Parameters (longer p l) e)
    refl refl
    (ap (λ (xs : List (List ℕ)). names front ++ xs) first
    ∙ ap (λ (xs : List (List ℕ)). xs ++ list) (sym (append-nil (names front)) ∙ ap (λ (xs : List (List ℕ)). names front ++ xs) (sym (nothing_named head))))
    (places_kept front p l (other_said Placeholders p l (known_section Placeholders Parameters p e)))
    (count_kept NrStates front p l (other_said NrStates p l (known_section NrStates Parameters p e)))
    (count_kept NrChoices front p l (other_said NrChoices p l (known_section NrChoices Parameters p e)))
  where
    names_by : is_section Parameters (begun head) ≡ true → names_in (longer (begun head) l) ≡ map (λ word. word.bytes) (words (content l))
    names_by g = ap (λ (c : Bool). if c then list_words (l ∷ []) else []) g

in_parameters : (label : List ℕ) (front : List (Part TextLine)) (head : TextLine) (body : List TextLine) (l : TextLine) → section_of (content head) ≡ Some Parameters → is_head l ≡ false
    → Grows label front (record { head = head; body = body }) l
unfolding said_at
in_parameters label front head [] l e f =
    let p = begun head in
    changed label front p l (with_names (header_at front p) (content l)) (named front head l e) (other_said Model p l (known_section Model Parameters p e))
    ∙ sym (step_names label (said_at label front p) l (phase_at label front p ∙ known_phase Parameters p e) f)
in_parameters label front head (k ∷ body) l e f =
    let p : Part TextLine = record { head = head; body = k ∷ body } in
    stays label front p l (known_phase Parameters (longer p l) e ∙ sym (known_phase Parameters p e)) refl (other_said Placeholders p l (known_section Placeholders Parameters p e))
    (other_said NrStates p l (known_section NrStates Parameters p e)) (other_said NrChoices p l (known_section NrChoices Parameters p e)) (other_said Model p l (known_section Model Parameters p e))
    ∙ sym (step_sections label (said_at label front p) l (phase_at label front p ∙ known_phase Parameters p e) f)

passed : (front : List (Part TextLine)) (head l : TextLine) → section_of (content head) ≡ Some RewardModels
    → header_at front (longer (begun head) l) ≡ record (header_at front (begun head)) { phase = phase.Sections }
unfolding header_at count_of
passed front head l e =
    let p = begun head in
    same_header (header_at front (longer p l)) (record (header_at front p) { phase = phase.Sections })
    (known_phase RewardModels (longer p l) e)
    refl refl
    (names_kept front p l (other_names p l (known_section Parameters RewardModels p e)))
    (places_kept front p l (other_said Placeholders p l (known_section Placeholders RewardModels p e)))
    (count_kept NrStates front p l (other_said NrStates p l (known_section NrStates RewardModels p e)))
    (count_kept NrChoices front p l (other_said NrChoices p l (known_section NrChoices RewardModels p e)))

in_rewards : (label : List ℕ) (front : List (Part TextLine)) (head : TextLine) (body : List TextLine) (l : TextLine) → section_of (content head) ≡ Some RewardModels → is_head l ≡ false
    → Grows label front (record { head = head; body = body }) l
unfolding said_at
in_rewards label front head [] l e f =
    let p = begun head in
    changed label front p l (record (header_at front p) { phase = phase.Sections }) (passed front head l e) (other_said Model p l (known_section Model RewardModels p e))
    ∙ sym (step_rewards label (said_at label front p) l (phase_at label front p ∙ known_phase RewardModels p e) f)
in_rewards label front head (k ∷ body) l e f =
    let p : Part TextLine = record { head = head; body = k ∷ body } in
    idle label front p l f (known_phase RewardModels p e) (known_phase RewardModels (longer p l) e)
    (known_section Parameters RewardModels p e) (known_section Placeholders RewardModels p e) (known_section NrStates RewardModels p e)
    (known_section NrChoices RewardModels p e) (known_section Model RewardModels p e)

-- ---- in the sections of a number

all_blank : (body : List TextLine) (l : TextLine) (c d : Bool) → list_all is_blank_line body ≡ c → is_blank_line l ≡ d → list_all is_blank_line (body ++ l ∷ []) ≡ (c && (d && true))
all_blank body l c d e f =
    list_all-append is_blank_line body (l ∷ [])
    ∙ ap (λ (b : Bool). b && list_all is_blank_line (l ∷ [])) e
    ∙ ap (λ (b : Bool). c && (b && true)) f

last_said : (before ls : List TextLine) (l : TextLine) → count_of (last (before ++ (ls ++ l ∷ []))) ≡ Some (digits_value 10 (content l))
unfolding count_of
last_said before ls l = ap (λ (xs : List TextLine). count_of (last xs)) (sym (append_assoc before ls (l ∷ []))) ∙ ap count_of (last-append (before ++ ls) l)

states_counted : (front : List (Part TextLine)) (p : Part TextLine) (l : TextLine) → section_at p ≡ Some NrStates → phase_of (longer p l) ≡ phase.Sections → is_blank_line l ≡ false
    → header_at front (longer p l) ≡ with_state_count (header_at front p) (content l)
unfolding header_at count_of
states_counted front p l e next g =
    same_header (header_at front (longer p l)) (with_state_count (header_at front p) (content l))
    next refl refl
    (names_kept front p l (other_names p l (known_section Parameters NrStates p e)))
    (places_kept front p l (other_said Placeholders p l (known_section Placeholders NrStates p e)))
    (ap (λ (ls : List TextLine). count_of (last (flat_map (said_in NrStates) front ++ ls))) (more_said NrStates p l (known_section NrStates NrStates p e) g)
    ∙ last_said (flat_map (said_in NrStates) front) (said_in NrStates p) l)
    (count_kept NrChoices front p l (other_said NrChoices p l (known_section NrChoices NrStates p e)))

choices_counted : (front : List (Part TextLine)) (p : Part TextLine) (l : TextLine) → section_at p ≡ Some NrChoices → phase_of (longer p l) ≡ phase.Sections → is_blank_line l ≡ false
    → header_at front (longer p l) ≡ with_choice_count (header_at front p) (content l)
unfolding header_at count_of
choices_counted front p l e next g =
    same_header (header_at front (longer p l)) (with_choice_count (header_at front p) (content l))
    next refl refl
    (names_kept front p l (other_names p l (known_section Parameters NrChoices p e)))
    (places_kept front p l (other_said Placeholders p l (known_section Placeholders NrChoices p e)))
    (count_kept NrStates front p l (other_said NrStates p l (known_section NrStates NrChoices p e)))
    (ap (λ (ls : List TextLine). count_of (last (flat_map (said_in NrChoices) front ++ ls))) (more_said NrChoices p l (known_section NrChoices NrChoices p e) g)
    ∙ last_said (flat_map (said_in NrChoices) front) (said_in NrChoices p) l)

abbrev states_phase : Bool → Phase
states_phase waiting = if waiting then phase.StateCount else phase.Sections

abbrev choices_phase : Bool → Phase
choices_phase waiting = if waiting then phase.ChoiceCount else phase.Sections

in_states : (label : List ℕ) (front : List (Part TextLine)) (p : Part TextLine) (l : TextLine) → section_at p ≡ Some NrStates → is_head l ≡ false → line_fault (said_at label front p) l ≡ None
    → (c d : Bool) → list_all is_blank_line p.body ≡ c → is_blank_line l ≡ d → Grows label front p l
unfolding said_at
in_states label front p l e f h false d g k =
    let now : phase_of p ≡ phase.Sections = known_phase NrStates p e ∙ ap states_phase g in
    let next : phase_of (longer p l) ≡ phase.Sections = known_phase NrStates (longer p l) e ∙ ap states_phase (all_blank p.body l false d g k) in
    stays_blank label front p l (blank_between (said_at label front p) l (phase_at label front p ∙ now) f h) (next ∙ sym now) (other_names p l (known_section Parameters NrStates p e))
    ∙ sym (step_sections label (said_at label front p) l (phase_at label front p ∙ now) f)
in_states label front p l e f h true true g k =
    let now : phase_of p ≡ phase.StateCount = known_phase NrStates p e ∙ ap states_phase g in
    let next : phase_of (longer p l) ≡ phase.StateCount = known_phase NrStates (longer p l) e ∙ ap states_phase (all_blank p.body l true true g k) in
    stays_blank label front p l k (next ∙ sym now) (other_names p l (known_section Parameters NrStates p e))
    ∙ sym (step_states_blank label (said_at label front p) l (phase_at label front p ∙ now) k)
in_states label front p l e f h true false g k =
    let now : phase_of p ≡ phase.StateCount = known_phase NrStates p e ∙ ap states_phase g in
    let next : phase_of (longer p l) ≡ phase.Sections = known_phase NrStates (longer p l) e ∙ ap states_phase (all_blank p.body l true false g k) in
    changed label front p l (with_state_count (header_at front p) (content l)) (states_counted front p l e next k) (other_said Model p l (known_section Model NrStates p e))
    ∙ sym (step_states label (said_at label front p) l (phase_at label front p ∙ now) k)

in_choices : (label : List ℕ) (front : List (Part TextLine)) (p : Part TextLine) (l : TextLine) → section_at p ≡ Some NrChoices → is_head l ≡ false → line_fault (said_at label front p) l ≡ None
    → (c d : Bool) → list_all is_blank_line p.body ≡ c → is_blank_line l ≡ d → Grows label front p l
unfolding said_at
in_choices label front p l e f h false d g k =
    let now : phase_of p ≡ phase.Sections = known_phase NrChoices p e ∙ ap choices_phase g in
    let next : phase_of (longer p l) ≡ phase.Sections = known_phase NrChoices (longer p l) e ∙ ap choices_phase (all_blank p.body l false d g k) in
    stays_blank label front p l (blank_between (said_at label front p) l (phase_at label front p ∙ now) f h) (next ∙ sym now) (other_names p l (known_section Parameters NrChoices p e))
    ∙ sym (step_sections label (said_at label front p) l (phase_at label front p ∙ now) f)
in_choices label front p l e f h true true g k =
    let now : phase_of p ≡ phase.ChoiceCount = known_phase NrChoices p e ∙ ap choices_phase g in
    let next : phase_of (longer p l) ≡ phase.ChoiceCount = known_phase NrChoices (longer p l) e ∙ ap choices_phase (all_blank p.body l true true g k) in
    stays_blank label front p l k (next ∙ sym now) (other_names p l (known_section Parameters NrChoices p e))
    ∙ sym (step_choices_blank label (said_at label front p) l (phase_at label front p ∙ now) k)
in_choices label front p l e f h true false g k =
    let now : phase_of p ≡ phase.ChoiceCount = known_phase NrChoices p e ∙ ap choices_phase g in
    let next : phase_of (longer p l) ≡ phase.Sections = known_phase NrChoices (longer p l) e ∙ ap choices_phase (all_blank p.body l true false g k) in
    changed label front p l (with_choice_count (header_at front p) (content l)) (choices_counted front p l e next k) (other_said Model p l (known_section Model NrChoices p e))
    ∙ sym (step_choices label (said_at label front p) l (phase_at label front p ∙ now) k)

-- ---- among the placeholders

placed : (front : List (Part TextLine)) (p : Part TextLine) (l : TextLine) → section_at p ≡ Some Placeholders → is_blank_line l ≡ false
    → header_at front (longer p l) ≡ with_placeholder (header_at front p) (content l)
unfolding header_at count_of
placed front p l e g =
    let give : TextLine → List Placeholder = λ line. placeholder (names front) (content line) in
    let no_names = names_none front p (known_section Parameters Placeholders p e) in
    same_header (header_at front (longer p l)) (with_placeholder (header_at front p) (content l))
    (known_phase Placeholders (longer p l) e ∙ sym (known_phase Placeholders p e))
    refl refl
    (names_kept front p l (other_names p l (known_section Parameters Placeholders p e)))
    (ap (λ (ls : List TextLine). placeholders front ++ flat_map give ls) (more_said Placeholders p l (known_section Placeholders Placeholders p e) g)
    ∙ ap (λ (ps : List Placeholder). placeholders front ++ ps) (flat_map-push give (said_in Placeholders p) l)
    ∙ sym (append_assoc (placeholders front) (flat_map give (said_in Placeholders p)) (give l))
    ∙ ap (λ (ns : List (List ℕ)). (placeholders front ++ flat_map give (said_in Placeholders p)) ++ placeholder ns (content l)) (sym no_names))
    (count_kept NrStates front p l (other_said NrStates p l (known_section NrStates Placeholders p e)))
    (count_kept NrChoices front p l (other_said NrChoices p l (known_section NrChoices Placeholders p e)))

in_placeholders : (label : List ℕ) (front : List (Part TextLine)) (p : Part TextLine) (l : TextLine) → section_at p ≡ Some Placeholders → is_head l ≡ false
    → (c : Bool) → is_blank_line l ≡ c → Grows label front p l
unfolding said_at
in_placeholders label front p l e f true g =
    stays_blank label front p l g (known_phase Placeholders (longer p l) e ∙ sym (known_phase Placeholders p e)) (other_names p l (known_section Parameters Placeholders p e))
    ∙ sym (step_places_blank label (said_at label front p) l (phase_at label front p ∙ known_phase Placeholders p e) f g)
in_placeholders label front p l e f false g =
    changed label front p l (with_placeholder (header_at front p) (content l)) (placed front p l e g) (other_said Model p l (known_section Model Placeholders p e))
    ∙ sym (step_places label (said_at label front p) l (phase_at label front p ∙ known_phase Placeholders p e) f g)

-- ---- in the model

-- one more line of the model
states_step : (label : List ℕ) (lines : List ModelLine) (h : Header) (l : TextLine) → is_blank_line l ≡ false
    → (c d : Bool) → is_state (model_line h.names h.placeholders l) ≡ c → is_action (model_line h.names h.placeholders l) ≡ d
    → states_of label (lines ++ model_line h.names h.placeholders l ∷ []) ≡ states_with label h (states_of label lines) l
states_step label lines h l g true d e f = states_new label lines (model_line h.names h.placeholders l) e ∙ rw (g, e) refl
states_step label lines h l g false true e f =
    states_more label lines (model_line h.names h.placeholders l) with_choice e (state_action label (model_line h.names h.placeholders l) f) ∙ rw (g, e, f) refl
states_step label lines h l g false false e f =
    states_more label lines (model_line h.names h.placeholders l) (with_transitions (transition (model_line h.names h.placeholders l))) e (state_transition label (model_line h.names h.placeholders l) f) ∙ rw (g, e, f) refl

declared_before : (front : List (Part TextLine)) (p : Part TextLine) (l : TextLine) → section_at p ≡ Some Model
    → model_line (header_at front p).names (header_at front p).placeholders l ≡ model_line (names front) (placeholders front) l
unfolding header_at
declared_before front p l e =
    ap (λ (ns : List (List ℕ)). model_line ns (placeholders front ++ places_in front p) l) (names_none front p (known_section Parameters Model p e))
    ∙ ap (λ (ps : List Placeholder). model_line (names front) ps l) (places_none front p (known_section Placeholders Model p e))

model_grows : (front : List (Part TextLine)) (p : Part TextLine) (l : TextLine) → section_at p ≡ Some Model → is_blank_line l ≡ false
    → model_lines front ++ lines_in front (longer p l) ≡ (model_lines front ++ lines_in front p) ++ model_line (header_at front p).names (header_at front p).placeholders l ∷ []
model_grows front p l e g =
    let read = model_line (names front) (placeholders front) in
    ap (λ (ls : List TextLine). model_lines front ++ map read ls) (more_said Model p l (known_section Model Model p e) g)
    ∙ ap (λ (ls : List ModelLine). model_lines front ++ ls) (map-append read (said_in Model p) (l ∷ []))
    ∙ sym (append_assoc (model_lines front) (map read (said_in Model p)) (read l ∷ []))
    ∙ ap (λ (m : ModelLine). (model_lines front ++ map read (said_in Model p)) ++ m ∷ []) (sym (declared_before front p l e))

same_in_model : (front : List (Part TextLine)) (p : Part TextLine) (l : TextLine) → section_at p ≡ Some Model → header_at front (longer p l) ≡ header_at front p
same_in_model front p l e =
    quiet_header front p l (known_phase Model (longer p l) e ∙ sym (known_phase Model p e)) (other_names p l (known_section Parameters Model p e))
    (other_said Placeholders p l (known_section Placeholders Model p e)) (other_said NrStates p l (known_section NrStates Model p e)) (other_said NrChoices p l (known_section NrChoices Model p e))

blank_in_model : (label : List ℕ) (said : Said) (l : TextLine) → is_blank_line l ≡ true → states_with label said.header said.states l ≡ said.states
blank_in_model label said l g = rw g refl

in_model : (label : List ℕ) (front : List (Part TextLine)) (p : Part TextLine) (l : TextLine) → section_at p ≡ Some Model → (c : Bool) → is_blank_line l ≡ c → Grows label front p l
unfolding said_at
in_model label front p l e true g =
    stays_blank label front p l g (known_phase Model (longer p l) e ∙ sym (known_phase Model p e)) (other_names p l (known_section Parameters Model p e))
    ∙ ap (both (header_at front p)) (sym (blank_in_model label (said_at label front p) l g))
    ∙ sym (step_model label (said_at label front p) l (phase_at label front p ∙ known_phase Model p e))
in_model label front p l e false g =
    let h = header_at front p in
    let m = model_line h.names h.placeholders l in
    ap (λ (k : Header). both k (states_of label (model_lines front ++ lines_in front (longer p l)))) (same_in_model front p l e)
    ∙ ap (λ (ls : List ModelLine). both h (states_of label ls)) (model_grows front p l e g)
    ∙ ap (both h) (states_step label (model_lines front ++ lines_in front p) h l g (is_state m) (is_action m) refl refl)
    ∙ sym (step_model label (said_at label front p) l (phase_at label front p ∙ known_phase Model p e))

-- ---- in any section

in_part : (label : List ℕ) (front : List (Part TextLine)) (p : Part TextLine) (l : TextLine) → is_head l ≡ false → line_fault (said_at label front p) l ≡ None
    → (s : Option Section) → section_at p ≡ s → Grows label front p l
in_part label front p l f h None e = in_none label front p l e f
in_part label front p l f h (Some ModelType) e = in_type label front p l e f
in_part label front p l f h (Some ValueType) e = in_value_type label front p l e f
in_part label front p l f h (Some Parameters) e = in_parameters label front p.head p.body l e f
in_part label front p l f h (Some RewardModels) e = in_rewards label front p.head p.body l e f
in_part label front p l f h (Some NrStates) e = in_states label front p l e f h (list_all is_blank_line p.body) (is_blank_line l) refl refl
in_part label front p l f h (Some NrChoices) e = in_choices label front p l e f h (list_all is_blank_line p.body) (is_blank_line l) refl refl
in_part label front p l f h (Some Placeholders) e = in_placeholders label front p l e f (is_blank_line l) refl
in_part label front p l f h (Some Model) e = in_model label front p l e (is_blank_line l) refl

before_all : (label : List ℕ) (l : TextLine) → is_head l ≡ false → said_of label (onto_last [] l) ≡ with_line label (said_of label []) l
unfolding said_of onto_last
before_all label l f = sym (step_sections label (said_of label []) l refl f)

more_of : (label : List ℕ) (ps : List (Part TextLine)) (l : TextLine) → is_head l ≡ false → Ends ps → line_fault (said_of label ps) l ≡ None
    → said_of label (onto_last ps l) ≡ with_line label (said_of label ps) l
more_of label _ l f nothing h = before_all label l f
more_of label _ l f (ending front p) h =
    ap (said_of label) (onto_last-ends front p l)
    ∙ said-ends label front (longer p l)
    ∙ in_part label front p l f (sym (ap (λ (s : Said). line_fault s l) (said-ends label front p)) ∙ h) (section_at p) refl
    ∙ sym (ap (λ (s : Said). with_line label s l) (said-ends label front p))

-- ---- lines

abbrev pub plain : List TextLine → List TextLine
plain lines = filter (λ line. not (is_comment line)) lines

pub plain_more : (before : List TextLine) (l : TextLine) → is_comment l ≡ false → plain (before ++ l ∷ []) ≡ plain before ++ l ∷ []
plain_more before l e =
    let one : plain (l ∷ []) ≡ l ∷ [] = rw e refl in
    filter-append (λ line. not (is_comment line)) before (l ∷ []) ∙ ap (λ (ls : List TextLine). plain before ++ ls) one

pub plain_same : (before : List TextLine) (l : TextLine) → is_comment l ≡ true → plain (before ++ l ∷ []) ≡ plain before
plain_same before l e =
    let none : plain (l ∷ []) ≡ [] = rw e refl in
    filter-append (λ line. not (is_comment line)) before (l ∷ []) ∙ ap (λ (ls : List TextLine). plain before ++ ls) none ∙ append-nil (plain before)

said_plain : (label : List ℕ) (lines : List TextLine) → said label lines ≡ said_of label (parts is_head (plain lines)).1
unfolding said said_of
said_plain label lines = refl

grows_by : (label : List ℕ) (lines : List TextLine) (l : TextLine) → line_fault (said_of label (parts is_head lines).1) l ≡ None → (c : Bool) → is_head l ≡ c
    → said_of label (parts is_head (lines ++ l ∷ [])).1 ≡ with_line label (said_of label (parts is_head lines).1) l
grows_by label lines l h true f =
    ap (λ (r : List TextLine × List (Part TextLine)). said_of label r.1) (parts_new is_head lines l f)
    ∙ begin_said label (parts is_head lines).1 l (begins label (said_of label (parts is_head lines).1) l f h)
grows_by label lines l h false f =
    ap (said_of label) (parts_grow is_head lines l f)
    ∙ more_of label (parts is_head lines).1 l f (ends (parts is_head lines).1) h

-- a line without fault that is no comment
pub grows : (label : List ℕ) (before : List TextLine) (line : TextLine) → is_comment line ≡ false → line_fault (said label before) line ≡ None
    → said label (before ++ line ∷ []) ≡ with_line label (said label before) line
grows label before line e h =
    said_plain label (before ++ line ∷ [])
    ∙ ap (λ (ls : List TextLine). said_of label (parts is_head ls).1) (plain_more before line e)
    ∙ grows_by label (plain before) line (sym (ap (λ (s : Said). line_fault s line) (said_plain label before)) ∙ h) (is_head line) refl
    ∙ sym (ap (λ (s : Said). with_line label s line) (said_plain label before))

-- a comment line says nothing
pub skips : (label : List ℕ) (before : List TextLine) (line : TextLine) → is_comment line ≡ true → said label (before ++ line ∷ []) ≡ said label before
skips label before line e =
    said_plain label (before ++ line ∷ [])
    ∙ ap (λ (ls : List TextLine). said_of label (parts is_head ls).1) (plain_same before line e)
    ∙ sym (said_plain label before)
