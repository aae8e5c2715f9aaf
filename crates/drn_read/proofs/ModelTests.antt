-- The tests of a line of the model, step by step.
use Rattle.std.proofs.Common.{◌≡◌, ◌==◌, ℕ, Bool, true, false, List, [], ◌∷◌, length, Option, Some, None, Result, Ok, Err, ◌++◌, refl, sym, ◌∙◌, ap, arith}
use Rattle.std.specs.Prelude.{OnOk, drop, codes, if◌then◌else◌}
use Rattle.std.specs.Str.{bytes_eq}
use Rattle.drn_lexer.specs.Cutting.{Piece}
use Rattle.drn_lexer.specs.Lines.{TextLine}
use Rattle.drn_lexer.specs.Words.{WordKind, words}
use Rattle.drn_expr.specs.RatPolys.{OverOne}
use Rattle.drn_read.specs.Faults.{when, first_of, fault_of, reported}
use Rattle.drn_read.specs.Parts.{is_empty}
use Rattle.drn_read.specs.Sections.{Header, Placeholder}
use Rattle.drn_read.specs.States.{StateText, begins_with, is_transition, target_of, named_value, entry_value}
use Rattle.drn_read.specs.Judging.{words_fault, transition_fault, target_text_fault, room_fault}
use Rattle.drn_read.specs.Keeping.{states_with, on_last, with_choice, with_transitions}
use Rattle.drn_read.specs.Shown.{TellsLine, IsSource, rest}
use Rattle.drn_read.specs.declared.cursor.Cursor.{Cursor}
use Rattle.drn_read.specs.declared.front.TransitionFront.{TransitionFront}
use Rattle.drn_read.specs.ModelSteps.{transition_at, new_state, words_with, IsTransitionFront, on_line}
use Rattle.drn_read.specs.declared.error.DrnCause.{DrnCause}
use Rattle.drn_read.specs.declared.error.DrnCause.TheVariants.{Syntax}
use Rattle.drn_read.specs.declared.error.DrnError.{DrnError}
use Rattle.drn_read.proofs.Stated.{words_digit}

-- ---- a transition

behind_state : (h : Header) (states : List StateText) (line : List ℕ) (text : Option DrnCause) → is_empty states ≡ false → target_text_fault line ≡ text
    → transition_fault h states line ≡ first_of (text ∷ room_fault states (target_of line) ∷ fault_of (entry_value h.names h.placeholders line) ∷ [])
behind_state h states line text e f =
    ap (λ b. first_of (when b Syntax ∷ target_text_fault line ∷ room_fault states (target_of line) ∷ fault_of (entry_value h.names h.placeholders line) ∷ [])) e
    ∙ ap (λ (o : Option DrnCause). first_of (o ∷ room_fault states (target_of line) ∷ fault_of (entry_value h.names h.placeholders line) ∷ [])) f

-- the value behind the colon
pub entry_value_is : (names : List (List ℕ)) (defined : List Placeholder) (line : List ℕ) (front : TransitionFront) → IsTransitionFront line front
    → entry_value names defined line ≡ named_value names defined (rest front.value)
entry_value_is names defined line front is =
    ap (λ (o : Option (List ℕ)). elim o as (λ o. Result OverOne DrnCause) [ Some value ↦ named_value names defined value | None ↦ Err Syntax ]) is.value

-- a target and a colon
pub front_there : (h : Header) (states : List StateText) (line : List ℕ) (front : TransitionFront) (room : Option DrnCause) (value : Result OverOne DrnCause) → is_empty states ≡ false → IsTransitionFront line front
    → room_fault states front.target ≡ room → entry_value h.names h.placeholders line ≡ value → transition_fault h states line ≡ first_of (room ∷ fault_of value ∷ [])
front_there h states line front room value some is e f =
    behind_state h states line None some is.fault
    ∙ ap (λ (o : Option DrnCause). first_of (o ∷ fault_of (entry_value h.names h.placeholders line) ∷ [])) (sym (ap (room_fault states) is.target) ∙ e)
    ∙ ap (λ (r : Result OverOne DrnCause). first_of (room ∷ fault_of r ∷ [])) f

-- ---- a line

-- the states behind a line without fault that says this
abbrev states_by : List ℕ → Header → List StateText → ℕ → List ℕ → List StateText
states_by label h states number text =
    if length text == 0 then states
    else (if begins_with (codes "state") (words text) then states ++ new_state label number (drop 2 (words text)) ∷ []
    else (if begins_with (codes "action") (words text) then on_last with_choice states
    else on_last (with_transitions (transition_at number (target_of text) (entry_value h.names h.placeholders text))) states))

after_is : (label : List ℕ) (h : Header) (states : List StateText) (line : Cursor) (source : TextLine) → IsSource line source
    → states_by label h states line.line.number (rest line) ≡ states_with label h states source
after_is label h states line source spans = ap (λ (n : ℕ). states_by label h states n (rest line)) spans.number ∙ ap (states_by label h states source.number) spans.says

choose_second : {A : Type 0} (b : Bool) (x y : A) → b ≡ false → (if b then x else y) ≡ y
choose_second true x y e = cc
choose_second false x y e = refl

-- a transition's line
pub transition_line_after : (label : List ℕ) (h : Header) (states new : List StateText) (line : Cursor) (source : TextLine) → IsSource line source
    → (length (rest line) == 0) ≡ false → is_transition (rest line) ≡ true
    → new ≡ on_last (with_transitions (transition_at line.line.number (target_of (rest line)) (entry_value h.names h.placeholders (rest line)))) states
    → new ≡ states_with label h states source
transition_line_after label h states new line source spans blank first is =
    is
    ∙ sym (choose_second _ _ _ blank
    ∙ choose_second _ _ _ (words_digit 115 (codes "tate") (rest line) (omega arith) first)
    ∙ choose_second _ _ _ (words_digit 97 (codes "ction") (rest line) (omega arith) first))
    ∙ after_is label h states line source spans

state_or_action : (h : Header) (states : List StateText) (source : TextLine) (A B C : List StateText) (ws : List (Piece WordKind)) → words_fault h states source ws ≡ None
    → (if begins_with (codes "state") ws then A else B) ≡ (if begins_with (codes "state") ws then A else (if begins_with (codes "action") ws then B else C))
state_or_action h states source A B C [] e = cc
state_or_action h states source A B C (w ∷ ws) e = by_form w.form e
  where
    by_words : (s t : Bool) (F : Option DrnError) (G : Option DrnError) → (if s then F else (if t then G else reported source.number (Some Syntax))) ≡ None → (if s then A else B) ≡ (if s then A else (if t then B else C))
    by_words true t F G e = refl
    by_words false true F G e = refl
    by_words false false F G e = cc

    by_form : (form : WordKind) → words_fault h states source (record w { form = form } ∷ ws) ≡ None
        → (if bytes_eq w.bytes (codes "state") then A else B) ≡ (if bytes_eq w.bytes (codes "state") then A else (if bytes_eq w.bytes (codes "action") then B else C))
    by_form (Err fault) e = cc
    by_form (Ok form) e = by_words (bytes_eq w.bytes (codes "state")) (bytes_eq w.bytes (codes "action")) _ _ e

-- a line that begins a state or a choice
pub words_line_after : (label : List ℕ) (h : Header) (states new : List StateText) (line : Cursor) (source : TextLine) → IsSource line source
    → (length (rest line) == 0) ≡ false → words_fault h states source (words (rest line)) ≡ None
    → new ≡ words_with label states line.line.number (words (rest line)) → new ≡ states_with label h states source
words_line_after label h states new line source spans blank sound is =
    is ∙ state_or_action h states source _ _ _ (words (rest line)) sound ∙ sym (choose_second _ _ _ blank) ∙ after_is label h states line source spans

-- ---- calls

pub on_ok : (r : Result (Unit {0}) DrnCause) (number : ℕ) (P Q : Type 0) → OnOk r P → (P → Q) → OnOk (on_line number r) Q
on_ok (Ok x) number P Q p step = step p
on_ok (Err cause) number P Q p step = tt

-- where a line was read its fault is none
pub on_read : (r : Result (Unit {0}) DrnError) (P : Type 0) (S Q : TextLine → Type 0) (fault : TextLine → Option DrnError) → OnOk r P → ((source : TextLine) → S source → TellsLine r (fault source))
    → ((source : TextLine) → S source → P → fault source ≡ None → Q source) → OnOk r ((source : TextLine) → S source → Q source)
on_read (Ok x) P S Q fault p reported step = λ source s. step source s p (reported source s)
on_read (Err error) P S Q fault p reported step = tt
