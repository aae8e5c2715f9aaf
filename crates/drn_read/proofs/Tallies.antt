-- What is kept beside the states: their choices and transitions counted, and the targets of the last choice.
use Rattle.std.proofs.Common.{◌≡◌, ◌==◌, ◌<◌, ◌≤◌, ◌+◌, ℕ, Bool, true, false, cond, not, ◌||◌, List, [], ◌∷◌, ◌++◌, length, take, get_or, Option, Some, None, refl, sym, ◌∙◌, ap, subst, arith}
use Rattle.std.specs.Prelude.{is_some, unwrap_or, nat_lt, nat_le}
use Rattle.std.specs.List.{list_any, sum_by}
use Rattle.std.specs.Option.{option_and_then}
use Rattle.std.specs.Ordering.{nat_cmp, is_eq}
use Rattle.std.specs.Int.{from_bool}
use Rattle.std.specs.declared.cmp.Ordering.TheVariants.{Less, Equal, Greater}
use Rattle.std.specs.BTreeMap.{is_at}
use Rattle.std.proofs.lemmas.Bool.{both_ways, leb-false}
use Rattle.std.proofs.lemmas.Bool.Decides.{nat_tests}
use Rattle.std.proofs.lemmas.List.{length_push}
use Rattle.std.proofs.lemmas.List.Folds.{list_any-append, list_any_more}
use Rattle.std.proofs.lemmas.List.Sums.{sum_by-cons, sum_by_push}
use Rattle.drn_read.specs.Faults.{when}
use Rattle.drn_read.specs.Parts.{last, is_empty}
use Rattle.drn_read.specs.States.{StateText}
use Rattle.drn_read.specs.Judging.{choice_count, transition_count, open_choice, target_fault, room_fault}
use Rattle.drn_read.specs.Keeping.{on_last, with_choice, with_transitions}
use Rattle.drn_read.specs.ModelSteps.{open_row, IsKept}
use Rattle.drn_read.specs.declared.error.DrnCause.{DrnCause}
use Rattle.drn_read.specs.declared.error.DrnCause.TheVariants.{RepeatedTarget, LimitChoices, LimitTransitions}
use Rattle.drn_read.specs.declared.state.Transition.{Transition}
use Rattle.drn_read.proofs.Declared.{first_none, when_none}
use Rattle.drn_read.proofs.Lists.{split, last-push, on_last-push}
use Rattle.lift_model.specs.Valid.{most_states, most_choices, most_transitions}

-- the last state of some states was changed: it has so many more choices and transitions
record Changed (old new : List StateText) (s t : StateText) (choices transitions : ℕ) : Type 0 where
  pub length_is : length new ≡ length old
  pub choices_are : choice_count new ≡ choice_count old + choices
  pub transitions_are : transition_count new ≡ transition_count old + transitions
  pub was_open : open_choice old ≡ last s.choices
  pub is_open : open_choice new ≡ last t.choices

pub open_is : (front : List StateText) (s : StateText) → open_choice (front ++ s ∷ []) ≡ last s.choices
open_is front s = ap (option_and_then (λ (u : StateText). last u.choices)) (last-push front s)

changed : (front : List StateText) (s t : StateText) (a b : ℕ) → length t.choices ≡ length s.choices + a → sum_by length t.choices ≡ sum_by length s.choices + b
    → Changed (front ++ s ∷ []) (front ++ t ∷ []) s t a b
changed front s t a b e f = record {
  length_is = omega (arith, length_push front s, length_push front t);
  choices_are = omega (arith, e, sum_by_push (λ (u : StateText). length u.choices) front s, sum_by_push (λ (u : StateText). length u.choices) front t);
  transitions_are = omega (arith, f, sum_by_push (λ (u : StateText). sum_by length u.choices) front s, sum_by_push (λ (u : StateText). sum_by length u.choices) front t);
  was_open = open_is front s;
  is_open = open_is front t;
}

changed_last : (states : List StateText) (change : StateText → StateText) (a b : ℕ) → is_empty states ≡ false
    → ((s : StateText) → (open_choice states ≡ last s.choices) → (length (change s).choices ≡ length s.choices + a) × (sum_by length (change s).choices ≡ sum_by length s.choices + b))
    → (s : StateText) × Changed states (on_last change states) s (change s) a b
changed_last states change a b some more =
    let x = split states some in
    let e = more x.end (ap open_choice x.is ∙ open_is x.front x.end) in (
      x.end,
      subst (λ ss. Changed ss (on_last change ss) x.end (change x.end) a b) (sym x.is)
          (subst (λ ss. Changed (x.front ++ x.end ∷ []) ss x.end (change x.end) a b) (sym (on_last-push change x.front x.end))
          (changed x.front x.end (change x.end) a b e.0 e.1)),
    )

-- ---- targets

-- comparing by order and by equality is the same
at_is : (a q : ℕ) → is_at (nat_cmp a) q ≡ (a == q)
at_is a q = by_order (nat_lt a q) refl
  where
    by_equality : (b : Bool) → is_eq (cond b Equal Greater) ≡ b
    by_equality true = refl
    by_equality false = refl

    by_order : (b : Bool) → nat_lt a q ≡ b → is_eq (cond b Less (cond (a == q) Equal Greater)) ≡ (a == q)
    by_order true is = let ne : (a == q) ≡ false = grind (arith, nat_tests) in sym ne
    by_order false is = by_equality (a == q)

-- the set of the first targets, with one more
pub set_next : (targets : List ℕ) (i q : ℕ) (old new : Bool) → i < length targets → new ≡ cond (is_at (nat_cmp (get_or targets i 0)) q) true old → old ≡ list_any (λ t. t == q) (take i targets)
    → new ≡ list_any (λ t. t == q) (take (i + 1) targets)
set_next targets i q old new h e f =
    e ∙ ap (λ b. cond b true old) (at_is (get_or targets i 0) q) ∙ ap (cond (get_or targets i 0 == q) true) f ∙ either (get_or targets i 0 == q) (list_any (λ t. t == q) (take i targets))
    ∙ sym (list_any_more (λ (t : ℕ). t == q) targets i 0 h)
  where
    either : (a b : Bool) → cond a true b ≡ (b || a)
    either true true = refl
    either true false = refl
    either false true = refl
    either false false = refl

-- the set of many targets, with one more
pub set_more : (targets : List ℕ) (t q : ℕ) (old new : Bool) → new ≡ cond (is_at (nat_cmp t) q) true old → old ≡ list_any (λ u. u == q) targets
    → new ≡ list_any (λ u. u == q) (targets ++ t ∷ [])
set_more targets t q old new e f =
    e ∙ ap (λ b. cond b true old) (at_is t q) ∙ ap (cond (t == q) true) f ∙ either (t == q) (list_any (λ u. u == q) targets)
    ∙ sym (list_any-append (λ (u : ℕ). u == q) targets (t ∷ []))
  where
    either : (a b : Bool) → cond a true b ≡ (b || (a || false))
    either true true = refl
    either true false = refl
    either false true = refl
    either false false = refl

-- no targets are those of a row without transitions
no_targets : (targets : List ℕ) (row : List Transition) (target : ℕ) → targets ≡ [] → row ≡ [] → list_any (λ t. t == target) targets ≡ list_any (λ t. t.target == target) row
no_targets targets row target e f = ap (list_any (λ (t : ℕ). t == target)) e ∙ sym (ap (list_any (λ (t : Transition). t.target == target)) f)

-- one more target
more_targets : (row : List Transition) (t : Transition) (q : ℕ) (old new : List ℕ) → new ≡ old ++ t.target ∷ [] → list_any (λ u. u == q) old ≡ list_any (λ u. u.target == q) row
    → list_any (λ u. u == q) new ≡ list_any (λ u. u.target == q) (row ++ t ∷ [])
more_targets row t q old new e f =
    ap (list_any (λ (u : ℕ). u == q)) e ∙ list_any-append (λ (u : ℕ). u == q) old (t.target ∷ []) ∙ ap (λ b. b || ((t.target == q) || false)) f
    ∙ sym (list_any-append (λ (u : Transition). u.target == q) row (t ∷ []))

-- there is room for a transition to this target
record RoomFor (states : List StateText) (target : ℕ) : Type 0 where
  pub new : list_any (λ t. t.target == target) (open_row states) ≡ false
  pub transitions : transition_count states < most_transitions
  pub choices : is_some (open_choice states) ≡ false → choice_count states < most_choices

room_for : (states : List StateText) (target : ℕ) → room_fault states target ≡ None → RoomFor states target
room_for states target e =
    let many = when (nat_le most_transitions (transition_count states)) LimitTransitions in
    let a = first_none (target_fault states target) (many ∷ []) e in
    let b = first_none many [] a.1 in
    let few = leb-false most_transitions (transition_count states) (when_none (nat_le most_transitions (transition_count states)) LimitTransitions b.0) in
    by_open (open_choice states) refl few a.0
  where
    by_open : (o : Option (List Transition)) → open_choice states ≡ o → transition_count states < most_transitions
        → (elim o as (λ o. Option DrnCause) [ None ↦ when (nat_le most_choices (choice_count states)) LimitChoices | Some choice ↦ when (list_any (λ t. t.target == target) choice) RepeatedTarget ]) ≡ None
        → RoomFor states target
    by_open None is few e = record {
      new = ap (λ o. list_any (λ (t : Transition). t.target == target) (unwrap_or o [])) is;
      transitions = few;
      choices = λ none. leb-false most_choices (choice_count states) (when_none (nat_le most_choices (choice_count states)) LimitChoices e);
    }
    by_open (Some choice) is few e = record {
      new = ap (λ o. list_any (λ (t : Transition). t.target == target) (unwrap_or o [])) is ∙ when_none (list_any (λ t. t.target == target) choice) RepeatedTarget e;
      transitions = few;
      choices = λ none. absurd (both_ways (is_some (open_choice states)) none (ap (λ (o : Option (List Transition)). is_some o) is));
    }

-- ---- steps

-- one more state without choice
pub kept_state : (states new : List StateText) (s : StateText) (choices transitions : ℕ) (old targets : List ℕ) → IsKept states choices transitions old → length states < most_states
    → s.choices ≡ [] → new ≡ states ++ s ∷ [] → targets ≡ [] → IsKept new choices transitions targets
kept_state states new s choices transitions old targets h room none is empty = record {
  choices_are = omega (arith, h.choices_are, ap choice_count is, sum_by_push (λ (u : StateText). length u.choices) states s, ap length none);
  transitions_are = omega (arith, h.transitions_are, ap transition_count is, sum_by_push (λ (u : StateText). sum_by length u.choices) states s, ap (sum_by length) none);
  few_states = omega (arith, ap length is, length_push states s);
  few_choices = h.few_choices;
  few_transitions = h.few_transitions;
  targets_are = λ q. no_targets targets (open_row new) q empty (ap (λ ss. open_row ss) is ∙ ap (λ o. unwrap_or o []) (open_is states s ∙ ap last none));
}

-- one more choice
pub kept_choice : (states new : List StateText) (choices transitions : ℕ) (old targets : List ℕ) → IsKept states choices transitions old → is_empty states ≡ false → choice_count states < most_choices
    → new ≡ on_last with_choice states → targets ≡ [] → IsKept new (choices + 1) transitions targets
kept_choice states new choices transitions old targets h some room is empty =
    let c = changed_last states with_choice 1 0 some (λ s e. (length_push s.choices [], sum_by_push length s.choices [])) in
    record {
      choices_are = omega (arith, h.choices_are, ap choice_count is, c.1.choices_are);
      transitions_are = omega (arith, h.transitions_are, ap transition_count is, c.1.transitions_are);
      few_states = omega (arith, h.few_states, ap length is, c.1.length_is);
      few_choices = omega (arith, room, h.choices_are);
      few_transitions = h.few_transitions;
      targets_are = λ q. no_targets targets (open_row new) q empty (ap (λ ss. open_row ss) is ∙ ap (λ o. unwrap_or o []) (c.1.is_open ∙ last-push c.0.choices []));
    }

-- a state with one more transition, by its choices so far
record Grown (s t : StateText) (more : Transition) : Type 0 where
  pub rows : length t.choices ≡ length s.choices + from_bool (not (is_some (last s.choices)))
  pub total : sum_by length t.choices ≡ sum_by length s.choices + 1
  pub row : unwrap_or (last t.choices) [] ≡ unwrap_or (last s.choices) [] ++ more ∷ []

some_last : {A : Type 0} (x : A) (xs : List A) → is_some (last (x ∷ xs)) ≡ true
some_last x [] = refl
some_last x (y ∷ xs) = some_last y xs

grown_by : (s : StateText) (cs : List (List Transition)) (t : Transition) → Grown (record s { choices = cs }) (with_transitions (t ∷ []) (record s { choices = cs })) t
grown_by s [] t = record { rows = refl; total = sum_by-cons length (t ∷ []) []; row = refl }
grown_by s (c ∷ cs) t =
    let x = split (c ∷ cs) refl in
    let grown = on_last (λ (row : List Transition). row ++ t ∷ []) (c ∷ cs) in
    let is : grown ≡ x.front ++ (x.end ++ t ∷ []) ∷ [] = ap (on_last (λ (row : List Transition). row ++ t ∷ [])) x.is ∙ on_last-push (λ (row : List Transition). row ++ t ∷ []) x.front x.end in
    let none : from_bool (not (is_some (last (c ∷ cs)))) ≡ 0 = ap (λ b. from_bool (not b)) (some_last c cs) in
    record {
      rows = omega (arith, none, ap length is, length_push x.front (x.end ++ t ∷ []), ap length x.is, length_push x.front x.end);
      total = omega (arith, ap (sum_by length) is, sum_by_push length x.front (x.end ++ t ∷ []), ap (sum_by length) x.is, sum_by_push length x.front x.end, length_push x.end t);
      row = ap (λ rows. unwrap_or (last rows) []) is ∙ ap (λ o. unwrap_or o []) (last-push x.front (x.end ++ t ∷ [])) ∙ sym (ap (λ rows. unwrap_or (last rows) [] ++ t ∷ []) x.is ∙ ap (λ o. unwrap_or o [] ++ t ∷ []) (last-push x.front x.end));
    }

-- one more transition
pub kept_transition : (states new : List StateText) (t : Transition) (choices transitions : ℕ) (begins : Bool) (old targets : List ℕ) → IsKept states choices transitions old → is_empty states ≡ false
    → room_fault states t.target ≡ None → new ≡ on_last (with_transitions (t ∷ [])) states → begins ≡ not (is_some (open_choice states))
    → targets ≡ old ++ t.target ∷ []
    → IsKept new (choices + from_bool begins) (transitions + 1) targets
kept_transition states new t choices transitions begins old targets h some room is first add =
    let r = room_for states t.target room in
    let c = changed_last states (with_transitions (t ∷ [])) (from_bool begins) 1 some (λ s e. let g = grown_by s s.choices t in (g.rows ∙ ap (λ b. length s.choices + from_bool b) (ap (λ (o : Option (List Transition)). not (is_some o)) (sym e) ∙ sym first), g.total)) in
    let row : open_row new ≡ open_row states ++ t ∷ [] =
    ap (λ ss. open_row ss) is ∙ ap (λ o. unwrap_or o []) c.1.is_open ∙ (grown_by c.0 c.0.choices t).row ∙ sym (ap (λ o. unwrap_or o [] ++ t ∷ []) c.1.was_open) in
    record {
      choices_are = omega (arith, h.choices_are, ap choice_count is, c.1.choices_are);
      transitions_are = omega (arith, h.transitions_are, ap transition_count is, c.1.transitions_are);
      few_states = omega (arith, h.few_states, ap length is, c.1.length_is);
      few_choices = few_more begins first r.choices;
      few_transitions = omega (arith, r.transitions, h.transitions_are);
      targets_are = λ q. more_targets (open_row states) t q old targets add (h.targets_are q) ∙ sym (ap (list_any (λ (u : Transition). u.target == q)) row);
    }
  where
    few_more : (b : Bool) → b ≡ not (is_some (open_choice states)) → (is_some (open_choice states) ≡ false → choice_count states < most_choices) → choices + from_bool b ≤ most_choices
    few_more true e room = let few = room (unless (is_some (open_choice states)) e) in omega (arith, few, h.choices_are)
      where
        unless : (b : Bool) → true ≡ not b → b ≡ false
        unless true e = cc
        unless false e = refl
    few_more false e room = omega (arith, h.few_choices)

-- nothing is kept
pub kept_none : IsKept [] 0 0 []
kept_none = record {
  choices_are = refl;
  transitions_are = refl;
  few_states = omega arith;
  few_choices = omega arith;
  few_transitions = omega arith;
  targets_are = λ q. refl;
}
