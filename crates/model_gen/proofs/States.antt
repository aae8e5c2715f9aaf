-- A state's lines together: with one transition, and with two.
use Rattle.std.proofs.Common.{◌≡◌, ◌≢◌, ◌==◌, ◌<◌, ◌≤◌, ◌+◌, ◌*◌, ℕ, Bool, false, List, [], ◌∷◌, ◌++◌, length, refl, sym, ap, subst, ◌∙◌, Option, Some, None, arith}
use Rattle.std.specs.Prelude.{nat_le, codes, if◌then◌else◌}
use Rattle.std.specs.List.{list_any, sum_by}
use Rattle.std.specs.Option.{option_and_then}
use Rattle.std.proofs.lemmas.Bool.Decides.{nat_tests}
use Rattle.std.proofs.lemmas.List.{length_push}
use Rattle.std.proofs.lemmas.List.Sums.{sum_by_push}
use Rattle.drn_lexer.specs.Cutting.{Piece}
use Rattle.drn_lexer.specs.Lines.{TextLine}
use Rattle.drn_lexer.specs.Words.{WordKind}
use Rattle.drn_expr.specs.RatPolys.{OverOne}
use Rattle.drn_read.specs.Faults.{when}
use Rattle.drn_read.specs.Parts.{last, is_empty}
use Rattle.drn_read.specs.States.{StateText}
use Rattle.drn_read.specs.Judging.{choiceless, choice_count, transition_count, open_choice, target_fault}
use Rattle.drn_read.specs.declared.error.DrnCause.{DrnCause}
use Rattle.drn_read.specs.declared.error.DrnCause.TheVariants.{LimitChoices, RepeatedTarget, NoChoice}
use Rattle.drn_read.specs.declared.state.Transition.{Transition}
use Rattle.lift_model.specs.Valid.{most_states, most_choices, most_transitions}
use Rattle.model_gen.proofs.Lists.{last-push}
use Rattle.model_gen.proofs.Numbers.{IsNumber}
use Rattle.model_gen.proofs.Leads.{Leads, leads_both}
use Rattle.model_gen.proofs.Steps.{saying, done, text_state, text_transition, IsLabels, IsValue, state_leads, transition_leads}

-- states that leave room, each with a choice
pub record Sized (states : List StateText) (count : ℕ) : Type 0 where
  pub count_is : length states ≡ count
  pub choices : choice_count states ≤ count
  pub transitions : transition_count states ≤ 2 * count
  pub closed : choiceless states ≡ None

some_state : (front : List StateText) (s : StateText) → is_empty (front ++ s ∷ []) ≡ false
some_state [] s = refl
some_state (t ∷ ts) s = refl

pub no_states : Sized [] 0
no_states = record { count_is = refl; choices = omega arith; transitions = omega arith; closed = refl }

-- one more state, with one choice of at most two transitions
pub sized_more : (states : List StateText) (count : ℕ) (number : ℕ) (init goal : Bool) (row : List Transition) → Sized states count → length row ≤ 2 → Sized (states ++ text_state number init goal (row ∷ []) ∷ []) (count + 1)
sized_more states count number init goal row h few =
    let s : StateText = text_state number init goal (row ∷ []) in
    record {
      count_is = omega (arith, h.count_is, length_push states s);
      choices = omega (arith, h.choices, sum_by_push (λ (u : StateText). length u.choices) states s);
      transitions = omega (arith, h.transitions, few, sum_by_push (λ (u : StateText). sum_by length u.choices) states s);
      closed = ap (option_and_then (λ (u : StateText). if is_empty u.choices then Some (record { line = u.line; cause = NoChoice }) else None)) (last-push states s);
    }

open_is : (front : List StateText) (s : StateText) → open_choice (front ++ s ∷ []) ≡ last s.choices
open_is front s = ap (option_and_then (λ (u : StateText). last u.choices)) (last-push front s)

-- the fault of a target, by the last choice of the last state
abbrev target_by : List StateText → ℕ → Option (List Transition) → Option DrnCause
target_by states target o = elim o [
  | None ↦ when (nat_le most_choices (choice_count states)) LimitChoices
  | Some choice ↦ when (list_any (λ t. t.target == target) choice) RepeatedTarget
]

-- a state and its first transition
pub one_leads : (l k : TextLine) (ds label : List ℕ) (ws : List (Piece WordKind)) (init goal : Bool) (es tail : List ℕ) (n : ℕ) (v : OverOne) (states : List StateText) (count : ℕ)
    → l.bytes ≡ (codes "state " ++ ds) ++ label → IsNumber ds count → IsLabels label ws init goal
    → k.bytes ≡ es ++ tail → IsNumber es n → IsValue tail v → Sized states count → count < most_states
    → Leads done (l ∷ k ∷ []) (saying states) (saying (states ++ text_state l.number init goal ((text_transition k.number n v ∷ []) ∷ []) ∷ []))
one_leads l k ds label ws init goal es tail n v states count e h is f g value sized few =
    let s : StateText = text_state l.number init goal [] in
    let t : StateText = text_state l.number init goal ((text_transition k.number n v ∷ []) ∷ []) in
    let room : choice_count (states ++ s ∷ []) ≤ count = omega (arith, sized.choices, sum_by_push (λ (u : StateText). length u.choices) states s) in
    let space : transition_count (states ++ s ∷ []) < most_transitions = omega (arith, sized.transitions, few, sum_by_push (λ (u : StateText). sum_by length u.choices) states s) in
    let full : nat_le most_choices (choice_count (states ++ s ∷ [])) ≡ false = grind (arith, nat_tests, room, few) in
    let fresh : target_fault (states ++ s ∷ []) n ≡ None = ap (target_by (states ++ s ∷ []) n) (open_is states s) ∙ ap (λ b. when b LimitChoices) full in
    leads_both done (l ∷ []) (k ∷ []) (saying states) (saying (states ++ s ∷ [])) (saying (states ++ t ∷ []))
    (state_leads l ds label ws init goal states e (subst (IsNumber ds) (sym sized.count_is) h) is sized.closed (omega (arith, sized.count_is, few)))
    (transition_leads k es tail n v states s t f g value (some_state states s) fresh space refl)

-- a state and its two transitions
pub two_leads : (l k j : TextLine) (ds label : List ℕ) (ws : List (Piece WordKind)) (init goal : Bool) (es tail : List ℕ) (n : ℕ) (v : OverOne) (es2 tail2 : List ℕ) (n2 : ℕ) (v2 : OverOne) (states : List StateText) (count : ℕ)
    → l.bytes ≡ (codes "state " ++ ds) ++ label → IsNumber ds count → IsLabels label ws init goal
    → k.bytes ≡ es ++ tail → IsNumber es n → IsValue tail v → j.bytes ≡ es2 ++ tail2 → IsNumber es2 n2 → IsValue tail2 v2 → n ≢ n2 → Sized states count → count < most_states
    → Leads done (l ∷ k ∷ j ∷ []) (saying states) (saying (states ++ text_state l.number init goal ((text_transition k.number n v ∷ text_transition j.number n2 v2 ∷ []) ∷ []) ∷ []))
two_leads l k j ds label ws init goal es tail n v es2 tail2 n2 v2 states count e h is f g value f2 g2 value2 other sized few =
    let s : StateText = text_state l.number init goal ((text_transition k.number n v ∷ []) ∷ []) in
    let t : StateText = text_state l.number init goal ((text_transition k.number n v ∷ text_transition j.number n2 v2 ∷ []) ∷ []) in
    let space : transition_count (states ++ s ∷ []) < most_transitions = omega (arith, sized.transitions, few, sum_by_push (λ (u : StateText). sum_by length u.choices) states s) in
    let fresh : target_fault (states ++ s ∷ []) n2 ≡ None = ap (target_by (states ++ s ∷ []) n2) (open_is states s) ∙ grind (arith, nat_tests, other) in
    leads_both done (l ∷ k ∷ []) (j ∷ []) (saying states) (saying (states ++ s ∷ [])) (saying (states ++ t ∷ []))
    (one_leads l k ds label ws init goal es tail n v states count e h is f g value sized few)
    (transition_leads j es2 tail2 n2 v2 states s t f2 g2 value2 (some_state states s) fresh space refl)
