-- Lines of the model: its states stay sound.
use Rattle.std.proofs.Common.{◌≡◌, ◌≢◌, ◌==◌, ℕ, zero, ◌+◌, ◌<◌, ◌≤◌, Bool, true, false, cond, not, List, [], ◌∷◌, ◌++◌, length, get_or, take, All, Option, Some, None, Result, Ok, Err, refl, sym, ap, subst, ◌∙◌, arith}
use Rattle.std.specs.Prelude.{nat_le, is_some, codes}
use Rattle.std.specs.List.{list_any, find, sum_by}
use Rattle.std.specs.Char.{is_ascii_digit}
use Rattle.std.specs.Option.{option_and_then}
use Rattle.std.specs.Str.{bytes_eq}
use Rattle.std.specs.Str.Parse.{digits_value}
use Rattle.std.proofs.lemmas.Bool.{both_ways, leb-false, eq-eqb, false_from_ne_true}
use Rattle.std.proofs.lemmas.Bool.Decides.{nat_tests}
use Rattle.std.proofs.lemmas.List.{length_push, same_from_push}
use Rattle.std.proofs.lemmas.List.Elements.{All-nil, All-cons, All-push}
use Rattle.std.proofs.lemmas.List.Quantifiers.{all_pairs_push}
use Rattle.std.proofs.lemmas.List.Sums.{sum_by-cons, sum_by_push}
use Rattle.std.proofs.lemmas.Slice.Eq.{bytes_eq-Decides}
use Rattle.lift_model.specs.declared.kind.Kind.{Kind}
use Rattle.lift_model.specs.declared.kind.Kind.TheVariants.{Dtmc, Mdp}
use Rattle.lift_bytes.specs.Bytes.{is_blank, behind}
use Rattle.drn_lexer.specs.Cutting.{Piece, pieces_behind}
use Rattle.drn_lexer.specs.Lines.{TextLine, content, is_blank_line}
use Rattle.drn_lexer.specs.Symbols.{symbols}
use Rattle.drn_lexer.specs.Words.{WordKind, words, word_front}
use Rattle.drn_expr.specs.RatPolys.{OverOne}
use Rattle.drn_read.specs.Faults.{when, first_of, fault_of, reported}
use Rattle.drn_read.specs.Parts.{last, is_empty}
use Rattle.drn_read.specs.Text.{behind_colon, is_digits, value_of}
use Rattle.drn_read.specs.Sections.{Header, Placeholder, is_head}
use Rattle.drn_read.specs.States.{StateText, ModelLine, model_line, is_transition, target_of, value_of_placeholder, named_value, entry_value, begins_with, is_state, is_action, state, transition, lone_name}
use Rattle.drn_read.specs.Judging.{choice_count, transition_count, open_choice, target_fault, transition_fault, state_fault, number_fault, labels_fault, choiceless, name_and_group_fault, action_fault, words_fault, model_fault, target_text_fault, room_fault, choice_fault}
use Rattle.drn_read.specs.Keeping.{on_last, with_choice, with_transitions, states_with}
use Rattle.drn_read.specs.declared.error.DrnCause.{DrnCause}
use Rattle.drn_read.specs.declared.error.DrnCause.TheVariants.{Syntax, UnknownPlace, UnknownSection, StateOrder, ExtraChoice, NoChoice, RepeatedTarget, LimitStates, LimitChoices, LimitTransitions}
use Rattle.drn_read.specs.declared.error.DrnError.{DrnError}
use Rattle.drn_read.specs.declared.state.Transition.{Transition}
use Rattle.drn_read.proofs.Declared.{first_none, when_none, fault_none, value_over, reported_none}
use Rattle.drn_read.proofs.Kept.{Laws, IsValue, IsChoice, IsState, AreStates}
use Rattle.drn_read.proofs.Lists.{split, last-push, on_last-push, All-front, All-end, any_false, find_keeps}
use Rattle.lift_model.specs.Valid.{most_transitions, most_choices, most_states}
use Rattle.drn_read.proofs.Tallies.{open_is}

-- ---- a changed last state

-- another last state, where its choices and transitions are within the limits
changed : (kind : Option Kind) (count : ℕ) (front : List StateText) (s t : StateText) → AreStates kind count (front ++ s ∷ []) → IsState kind count t
    → choice_count front + length t.choices ≤ most_choices → transition_count front + sum_by length t.choices ≤ most_transitions → AreStates kind count (front ++ t ∷ [])
changed kind count front s t h is few_choices few_transitions = record {
  few = omega (arith, h.few, length_push front s, length_push front t);
  choices = omega (arith, sum_by_push (λ (u : StateText). length u.choices) front t);
  transitions = omega (arith, sum_by_push (λ (u : StateText). sum_by length u.choices) front t);
  each = All-push (IsState kind count) front t (All-front (IsState kind count) front (s ∷ []) h.each) is;
  closed = λ other u e. subst (All (λ v. 1 ≤ length v.choices)) (same_from_push front other t u e).0 (h.closed front s refl);
}

the_last : (kind : Option Kind) (count : ℕ) (front : List StateText) (s : StateText) → AreStates kind count (front ++ s ∷ []) → IsState kind count s
the_last kind count front s h = All-end (IsState kind count) front s h.each

none_last : {A : Type 0} (xs : List A) → is_some (last xs) ≡ false → length xs ≡ 0
none_last [] e = refl
none_last (x ∷ xs) e = let s = split (x ∷ xs) refl in absurd (both_ways (is_some (last (x ∷ xs))) e (ap is_some (ap last s.is ∙ last-push s.front s.end)))

no_transition : (count : ℕ) → IsChoice count []
no_transition count = record { distinct = λ i j d lt within. absurd (omega arith); values = All-nil (λ t. IsValue count t.value) }

-- ---- one more choice

choice_added_to : (kind : Option Kind) (count : ℕ) (front : List StateText) (s : StateText) → (kind ≢ Some Mdp → is_some (open_choice (front ++ s ∷ [])) ≡ false) → choice_count (front ++ s ∷ []) < most_choices
    → AreStates kind count (front ++ s ∷ []) → AreStates kind count (front ++ with_choice s ∷ [])
choice_added_to kind count front s one few h =
    let is = the_last kind count front s h in
    changed kind count front s (with_choice s) h
    (record {
      one = λ ne. let none = none_last s.choices (ap is_some (sym (open_is front s)) ∙ one ne) in omega (arith, length_push s.choices [], none);
      choices = All-push (IsChoice count) s.choices [] is.choices (no_transition count);
    })
    (omega (arith, few, sum_by_push (λ (u : StateText). length u.choices) front s, length_push s.choices []))
    (omega (arith, h.transitions, sum_by_push (λ (u : StateText). sum_by length u.choices) front s, sum_by_push length s.choices []))

choice_added : (kind : Option Kind) (count : ℕ) (states : List StateText) → is_empty states ≡ false → (kind ≢ Some Mdp → is_some (open_choice states) ≡ false) → choice_count states < most_choices
    → AreStates kind count states → AreStates kind count (on_last with_choice states)
choice_added kind count states some one few h =
    let x = split states some in
    subst (λ ss. AreStates kind count (on_last with_choice ss)) (sym x.is)
    (subst (AreStates kind count) (sym (on_last-push with_choice x.front x.end))
    (choice_added_to kind count x.front x.end (λ ne. ap (λ ss. is_some (open_choice ss)) (sym x.is) ∙ one ne) (subst (λ ss. choice_count ss < most_choices) x.is few) (subst (AreStates kind count) x.is h)))

-- ---- one more transition

row_added : (count : ℕ) (c : List Transition) (t : Transition) → list_any (λ u. u.target == t.target) c ≡ false → IsValue count t.value → IsChoice count c → IsChoice count (c ++ t ∷ [])
row_added count c t new over h = record {
  distinct =
      all_pairs_push (λ a b. a.target ≢ b.target) c t h.distinct
      (λ k d lt same. both_ways ((get_or c k d).target == t.target) (any_false (λ (u : Transition). u.target == t.target) c new k d lt) (eq-eqb (get_or c k d).target t.target same));
  values = All-push (λ u. IsValue count u.value) c t h.values over;
}

-- the fault of a target, by the last choice of the last state
target_by : List StateText → ℕ → Option (List Transition) → Option DrnCause
target_by states target o = elim o [
  | None ↦ when (nat_le most_choices (choice_count states)) LimitChoices
  | Some choice ↦ when (list_any (λ t. t.target == target) choice) RepeatedTarget
]

transition_added_by : (kind : Option Kind) (count : ℕ) (front : List StateText) (s : StateText) (cs : List (List Transition)) (t : Transition)
    → target_by (front ++ record s { choices = cs } ∷ []) t.target (last cs) ≡ None
    → transition_count (front ++ record s { choices = cs } ∷ []) < most_transitions → IsValue count t.value → AreStates kind count (front ++ record s { choices = cs } ∷ [])
    → AreStates kind count (front ++ with_transitions (t ∷ []) (record s { choices = cs }) ∷ [])
unfolding target_by
transition_added_by kind count front s [] t e few over h =
    let before : StateText = record s { choices = [] } in
    let after : StateText = record s { choices = (t ∷ []) ∷ [] } in
    let limit = leb-false most_choices (choice_count (front ++ before ∷ [])) (when_none (nat_le most_choices (choice_count (front ++ before ∷ []))) LimitChoices e) in
    changed kind count front before after h
    (record { one = λ ne. omega arith; choices = All-cons (IsChoice count) (t ∷ []) [] (row_added count [] t refl over (no_transition count)) (All-nil (IsChoice count)) })
    (omega (arith, limit, sum_by_push (λ (u : StateText). length u.choices) front before))
    (omega (arith, few, sum_by_push (λ (u : StateText). sum_by length u.choices) front before, sum_by-cons length (t ∷ []) []))
transition_added_by kind count front s (c ∷ cs) t e few over h =
    let before : StateText = record s { choices = c ∷ cs } in
    let x = split (c ∷ cs) refl in
    let grown = on_last (λ (row : List Transition). row ++ t ∷ []) (c ∷ cs) in
    let is : grown ≡ x.front ++ (x.end ++ t ∷ []) ∷ [] = ap (on_last (λ (row : List Transition). row ++ t ∷ [])) x.is ∙ on_last-push (λ (row : List Transition). row ++ t ∷ []) x.front x.end in
    let held : All (IsChoice count) (x.front ++ x.end ∷ []) = subst (All (IsChoice count)) x.is (the_last kind count front before h).choices in
    let found : target_by (front ++ before ∷ []) t.target (Some x.end) ≡ None = subst (λ o. target_by (front ++ before ∷ []) t.target o ≡ None) (ap last x.is ∙ last-push x.front x.end) e in
    let new = when_none (list_any (λ u. u.target == t.target) x.end) RepeatedTarget found in
    let size : length grown ≡ length (c ∷ cs) = omega (arith, ap length is, length_push x.front (x.end ++ t ∷ []), ap length x.is, length_push x.front x.end) in
    let total : sum_by length grown ≡ sum_by length (c ∷ cs) + 1 =
    omega (arith, ap (sum_by length) is, sum_by_push length x.front (x.end ++ t ∷ []), ap (sum_by length) x.is, sum_by_push length x.front x.end, length_push x.end t) in
    changed kind count front before (record s { choices = grown }) h
    (record {
      one = λ ne. omega (arith, size, (the_last kind count front before h).one ne);
      choices =
          subst (All (IsChoice count)) (sym is)
          (All-push (IsChoice count) x.front (x.end ++ t ∷ []) (All-front (IsChoice count) x.front (x.end ∷ []) held) (row_added count x.end t new over (All-end (IsChoice count) x.front x.end held)));
    })
    (omega (arith, size, h.choices, sum_by_push (λ (u : StateText). length u.choices) front before))
    (omega (arith, total, few, sum_by_push (λ (u : StateText). sum_by length u.choices) front before))

transition_added_to : (kind : Option Kind) (count : ℕ) (front : List StateText) (s : StateText) (t : Transition) → target_fault (front ++ s ∷ []) t.target ≡ None
    → transition_count (front ++ s ∷ []) < most_transitions → IsValue count t.value → AreStates kind count (front ++ s ∷ []) → AreStates kind count (front ++ with_transitions (t ∷ []) s ∷ [])
unfolding target_by
transition_added_to kind count front s t e few over h =
    transition_added_by kind count front s s.choices t (subst (λ o. target_by (front ++ s ∷ []) t.target o ≡ None) (open_is front s) e) few over h

transition_added : (kind : Option Kind) (count : ℕ) (states : List StateText) (t : Transition) → is_empty states ≡ false → target_fault states t.target ≡ None → transition_count states < most_transitions
    → IsValue count t.value → AreStates kind count states → AreStates kind count (on_last (with_transitions (t ∷ [])) states)
transition_added kind count states t some e few over h =
    let x = split states some in
    subst (λ ss. AreStates kind count (on_last (with_transitions (t ∷ [])) ss)) (sym x.is)
    (subst (AreStates kind count) (sym (on_last-push (with_transitions (t ∷ [])) x.front x.end))
    (transition_added_to kind count x.front x.end t (subst (λ ss. target_fault ss t.target ≡ None) x.is e) (subst (λ ss. transition_count ss < most_transitions) x.is few) over (subst (AreStates kind count) x.is h)))

-- ---- one more state

pub some_choice : (kind : Option Kind) (count : ℕ) (states : List StateText) → choiceless states ≡ None → AreStates kind count states → All (λ t. 1 ≤ length t.choices) states
some_choice kind count [] e h = All-nil (λ t. 1 ≤ length t.choices)
some_choice kind count (s ∷ ss) e h =
    let x = split (s ∷ ss) refl in
    let at_end = subst (λ o. option_and_then {U = DrnError} (λ (u : StateText). cond (is_empty u.choices) (Some (record { line = u.line; cause = NoChoice })) None) o ≡ None) (ap last x.is ∙ last-push x.front x.end) e in
    subst (All (λ t. 1 ≤ length t.choices)) (sym x.is)
    (All-push (λ t. 1 ≤ length t.choices) x.front x.end (h.closed x.front x.end x.is) (by_choices x.end.choices (record { line = x.end.line; cause = NoChoice }) at_end))
  where
    by_choices : (cs : List (List Transition)) (fault : DrnError) → cond (is_empty cs) (Some fault) None ≡ None → 1 ≤ length cs
    by_choices [] fault e = cc
    by_choices (c ∷ cs) fault e = omega arith

state_added : (kind : Option Kind) (count : ℕ) (states : List StateText) (s : StateText) → s.choices ≡ [] → choiceless states ≡ None → length states < most_states → AreStates kind count states → AreStates kind count (states ++ s ∷ [])
state_added kind count states s none e few h = record {
  few = omega (arith, length_push states s);
  choices = omega (arith, h.choices, sum_by_push (λ (u : StateText). length u.choices) states s, ap length none);
  transitions = omega (arith, h.transitions, sum_by_push (λ (u : StateText). sum_by length u.choices) states s, ap (sum_by length) none);
  each = All-push (IsState kind count) states s h.each (record { one = λ ne. omega (arith, ap length none); choices = subst (All (IsChoice count)) (sym none) (All-nil (IsChoice count)) });
  closed = λ front t same. subst (All (λ u. 1 ≤ length u.choices)) (same_from_push states front s t same).0 (some_choice kind count states e h);
}

-- ---- the value of a transition

place_over : (count : ℕ) (places : List Placeholder) (name : List ℕ) (v : OverOne) → All (λ place. IsValue count place.value) places → value_of_placeholder places name ≡ Ok v → IsValue count v
place_over count places name v h e = by_found (find (λ place. bytes_eq name place.name) places) refl e
  where
    by_found : (o : Option Placeholder) → find (λ place. bytes_eq name place.name) places ≡ o → (elim o as (λ o. Result OverOne DrnCause) [ Some place ↦ Ok place.value | None ↦ Err UnknownPlace ]) ≡ Ok v → IsValue count v
    by_found (Some place) is e =
        let f : place.value ≡ v = cc in
        subst (IsValue count) f (find_keeps (λ (p : Placeholder). IsValue count p.value) (λ (p : Placeholder). bytes_eq name p.name) places place h is)
    by_found None is e = cc

named_over : (laws : Laws) (names : List (List ℕ)) (places : List Placeholder) (text : List ℕ) (v : OverOne) → All (λ place. IsValue (length names) place.value) places → named_value names places text ≡ Ok v → IsValue (length names) v
named_over laws names places text v h e = by_name (lone_name (symbols text)) e
  where
    by_name : (o : Option (List ℕ)) → (elim o as (λ o. Result OverOne DrnCause) [ Some name ↦ value_of_placeholder places name | None ↦ value_of names text ]) ≡ Ok v → IsValue (length names) v
    by_name (Some name) e = place_over (length names) places name v h e
    by_name None e = value_over laws names text v e

entry_over : (laws : Laws) (names : List (List ℕ)) (places : List Placeholder) (line : List ℕ) (v : OverOne) → All (λ place. IsValue (length names) place.value) places → entry_value names places line ≡ Ok v → IsValue (length names) v
entry_over laws names places line v h e = by_colon (behind_colon (behind is_ascii_digit line)) e
  where
    by_colon : (o : Option (List ℕ)) → (elim o as (λ o. Result OverOne DrnCause) [ Some text ↦ named_value names places text | None ↦ Err Syntax ]) ≡ Ok v → IsValue (length names) v
    by_colon (Some text) e = named_over laws names places text v h e
    by_colon None e = cc

transition_stays : (laws : Laws) (h : Header) (states : List StateText) (line : TextLine) → transition_fault h states (content line) ≡ None → All (λ place. IsValue (length h.names) place.value) h.placeholders
    → AreStates h.kind (length h.names) states → AreStates h.kind (length h.names) (on_last (with_transitions (transition (model_line h.names h.placeholders line))) states)
transition_stays laws h states line e values sound =
    let text = content line in
    let none = when (is_empty states) Syntax in
    let written = target_text_fault text in
    let target = target_fault states (target_of text) in
    let many = when (nat_le most_transitions (transition_count states)) LimitTransitions in
    let room = room_fault states (target_of text) in
    let value = fault_of (entry_value h.names h.placeholders text) in
    let a = first_none none (written ∷ room ∷ value ∷ []) e in
    let b = first_none written (room ∷ value ∷ []) a.1 in
    let c = first_none room (value ∷ []) b.1 in
    let d = first_none target (many ∷ []) c.0 in
    let f = first_none many [] d.1 in
    let g = first_none value [] c.1 in
    let read = fault_none (entry_value h.names h.placeholders text) g.0 in
    let new : Transition = record { line = line.number; target = target_of text; value = read.0 } in
    let one : transition (model_line h.names h.placeholders line) ≡ new ∷ [] =
    ap (λ (r : Result OverOne DrnCause). elim r as (λ r. List Transition) [ Ok value ↦ record { line = line.number; target = target_of text; value = value } ∷ [] | Err cause ↦ [] ]) read.1 in
    subst (λ more. AreStates h.kind (length h.names) (on_last (with_transitions more) states)) (sym one)
    (transition_added h.kind (length h.names) states new (when_none (is_empty states) Syntax a.0) d.0
    (leb-false most_transitions (transition_count states) (when_none (nat_le most_transitions (transition_count states)) LimitTransitions f.0))
    (entry_over laws h.names h.placeholders text read.0 values read.1) sound)

-- ---- an action

action_added : (kind : Option Kind) (count : ℕ) (states : List StateText) (extra : Option DrnCause)
    → first_of (when (is_empty states) Syntax ∷ extra ∷ when (nat_le most_choices (choice_count states)) LimitChoices ∷ []) ≡ None
    → (extra ≡ None → kind ≢ Some Mdp → is_some (open_choice states) ≡ false) → AreStates kind count states → AreStates kind count (on_last with_choice states)
action_added kind count states extra e one sound =
    let none = when (is_empty states) Syntax in
    let many = when (nat_le most_choices (choice_count states)) LimitChoices in
    let a = first_none none (extra ∷ many ∷ []) e in
    let b = first_none extra (many ∷ []) a.1 in
    let c = first_none many [] b.1 in
    choice_added kind count states (when_none (is_empty states) Syntax a.0) (one b.0)
    (leb-false most_choices (choice_count states) (when_none (nat_le most_choices (choice_count states)) LimitChoices c.0)) sound

choice_stays : (kind : Option Kind) (count : ℕ) (states : List StateText) → choice_fault kind states ≡ None → AreStates kind count states → AreStates kind count (on_last with_choice states)
choice_stays (Some Mdp) count states e sound = action_added (Some Mdp) count states None e (λ x ne. absurd (ne refl)) sound
choice_stays (Some Dtmc) count states e sound = action_added (Some Dtmc) count states (when (is_some (open_choice states)) ExtraChoice) e (λ x ne. when_none (is_some (open_choice states)) ExtraChoice x) sound
choice_stays None count states e sound = action_added None count states (when (is_some (open_choice states)) ExtraChoice) e (λ x ne. when_none (is_some (open_choice states)) ExtraChoice x) sound

action_stays : (h : Header) (states : List StateText) (ws : List (Piece WordKind)) → action_fault h states ws ≡ None
    → AreStates h.kind (length h.names) states → AreStates h.kind (length h.names) (on_last with_choice states)
action_stays h states ws e sound = choice_stays h.kind (length h.names) states (first_none (choice_fault h.kind states) (name_and_group_fault ws ∷ []) e).0 sound

-- ---- the words of a line

-- a line that begins with a digit begins with no such word
pub words_digit : (c : ℕ) (name line : List ℕ) → 57 < c → is_transition line ≡ true → begins_with (c ∷ name) (words line) ≡ false
unfolding pieces_behind
words_digit c name [] above e = cc
words_digit c name (b ∷ tail) above e =
    let most : b ≤ 57 = grind (arith, nat_tests) in
    let least : 48 ≤ b = grind (arith, nat_tests) in
    let full : is_blank b ≡ false = grind (arith, nat_tests) in
    by_blank (is_blank b) full (λ same. omega (arith, above, most, same))
  where
    by_blank : (x : Bool) → x ≡ false → (b ≡ c → ⊥)
        → begins_with (c ∷ name) (elim x as (λ x. List (Piece WordKind)) [ true ↦ pieces_behind word_front zero tail | false ↦ record { form = (word_front b tail).1; bytes = b ∷ take (word_front b tail).0 tail } ∷ pieces_behind word_front (word_front b tail).0 tail ]) ≡ false
    by_blank true is ne = cc
    by_blank false is ne =
        let word : List ℕ = b ∷ take (word_front b tail).0 tail in
        false_from_ne_true (bytes_eq word (c ∷ name)) (λ t. let same = (bytes_eq-Decides word (c ∷ name)).0 t in ne (cc))

number_small : (before : ℕ) (w : Piece WordKind) (form : WordKind) → number_fault before (record w { form = form }) ≡ None → before < most_states
number_small before w (Err fault) e = cc
number_small before w (Ok form) e =
    let digits = when (not (is_digits w.bytes)) Syntax in
    let order = when (not (digits_value 10 w.bytes == before)) StateOrder in
    let many = when (nat_le most_states before) LimitStates in
    let a = first_none digits (order ∷ many ∷ []) e in
    let b = first_none order (many ∷ []) a.1 in
    let c = first_none many [] b.1 in
    leb-false most_states before (when_none (nat_le most_states before) LimitStates c.0)

state_small : (before : ℕ) (ws : List (Piece WordKind)) → state_fault before ws ≡ None → before < most_states
state_small before [] e = cc
state_small before (w ∷ ws) e = by_number (number_fault before w) refl e
  where
    by_number : (o : Option DrnCause) → number_fault before w ≡ o → (elim o as (λ o. Option DrnCause) [ Some cause ↦ Some cause | None ↦ labels_fault true ws ]) ≡ None → before < most_states
    by_number (Some cause) is e = cc
    by_number None is e = number_small before w w.form is

-- a line that is no transition begins a state or a choice
words_stay : (P : List StateText → Type 0) (h : Header) (states : List StateText) (line : TextLine) (A B C : List StateText) (ws : List (Piece WordKind)) → words_fault h states line ws ≡ None
    → (choiceless states ≡ None → length states < most_states → P A) → ((others : List (Piece WordKind)) → action_fault h states others ≡ None → P B)
    → P (cond (begins_with (codes "state") ws) A (cond (begins_with (codes "action") ws) B C))
words_stay P h states line A B C [] e a b = cc
words_stay P h states line A B C (w ∷ ws) e a b = by_form w.form e
  where
    by_words : (s t : Bool)
        → cond s (first_of (choiceless states ∷ reported line.number (state_fault (length states) ws) ∷ [])) (cond t (reported line.number (action_fault h states ws)) (reported line.number (Some Syntax))) ≡ None → P (cond s A (cond t B C))
    by_words true t e =
        let x = first_none (choiceless states) (reported line.number (state_fault (length states) ws) ∷ []) e in
        let y = first_none (reported line.number (state_fault (length states) ws)) [] x.1 in
        a x.0 (state_small (length states) ws (reported_none line.number (state_fault (length states) ws) y.0))
    by_words false true e = b ws (reported_none line.number (action_fault h states ws) e)
    by_words false false e = cc

    by_form : (form : WordKind) → words_fault h states line (record w { form = form } ∷ ws) ≡ None → P (cond (bytes_eq w.bytes (codes "state")) A (cond (bytes_eq w.bytes (codes "action")) B C))
    by_form (Err fault) e = cc
    by_form (Ok form) e = by_words (bytes_eq w.bytes (codes "state")) (bytes_eq w.bytes (codes "action")) e

neither : (P : List StateText → Type 0) (s t : Bool) (A B C : List StateText) → s ≡ false → t ≡ false → P C → P (cond s A (cond t B C))
neither P true t A B C e f h = cc
neither P false true A B C e f h = cc
neither P false false A B C e f h = h

-- ---- a line of the model

pub model_stays : (laws : Laws) (label : List ℕ) (h : Header) (states : List StateText) (line : TextLine) → model_fault h states line ≡ None → All (λ place. IsValue (length h.names) place.value) h.placeholders
    → AreStates h.kind (length h.names) states → AreStates h.kind (length h.names) (states_with label h states line)
model_stays laws label h states line e values sound = by_head (is_head line) e
  where
    P : List StateText → Type 0
    P = AreStates h.kind (length h.names)

    l : ModelLine
    l = model_line h.names h.placeholders line

    fresh : List StateText
    fresh = states ++ state label (record { head = l; body = [] }) ∷ []

    chosen : List StateText
    chosen = on_last with_choice states

    moved : List StateText
    moved = on_last (with_transitions (transition l)) states

    by_transition : (t : Bool) → is_transition (content line) ≡ t
        → cond t (reported line.number (transition_fault h states (content line))) (words_fault h states line (words (content line))) ≡ None
        → P (cond (is_state l) fresh (cond (is_action l) chosen moved))
    by_transition true is e =
        neither P (is_state l) (is_action l) fresh chosen moved (words_digit 115 (codes "tate") (content line) (omega arith) is) (words_digit 97 (codes "ction") (content line) (omega arith) is)
        (transition_stays laws h states line (reported_none line.number (transition_fault h states (content line)) e) values sound)
    by_transition false is e =
        words_stay P h states line fresh chosen moved (words (content line)) e
        (λ x few. state_added h.kind (length h.names) states (state label (record { head = l; body = [] })) refl x few sound)
        (λ others x. action_stays h states others x sound)

    by_blank : (b : Bool) → cond b None (cond (is_transition (content line)) (reported line.number (transition_fault h states (content line))) (words_fault h states line (words (content line)))) ≡ None
        → P (cond b states (cond (is_state l) fresh (cond (is_action l) chosen moved)))
    by_blank true e = sound
    by_blank false e = by_transition (is_transition (content line)) refl e

    by_head : (b : Bool) → cond b (reported line.number (Some UnknownSection)) (cond (is_blank_line line) None (cond (is_transition (content line)) (reported line.number (transition_fault h states (content line))) (words_fault h states line (words (content line))))) ≡ None
        → P (cond (is_blank_line line) states (cond (is_state l) fresh (cond (is_action l) chosen moved)))
    by_head true e = cc
    by_head false e = by_blank (is_blank_line line) e
