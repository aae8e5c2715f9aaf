-- How certificates by steps are made, step by step.
use Rattle.std.proofs.Common.{◌≡◌, ℕ, zero, suc, ◌+◌, ◌<◌, ◌≤◌, ◌^◌, true, false, cond, List, [], length, ℤ, pos, ◌≤ℤ◌, ap, ◌∙◌, arith, ◌⊎◌, ⊎_elim, subst}
use Rattle.std.proofs.lemmas.List.{get_or_past}
use Rattle.std.proofs.lemmas.List.Elements.{All-from_get_or}
use Rattle.lift_poly.proofs.Ring.{linear, mul-comm, mul-le}
use Rattle.lift_grid.specs.Rectangle.{Spans}
use Rattle.lift_model.specs.Model.{choices, is_goal}
use Rattle.corner_lift.specs.Case.{CaseData, IsCase, IsInside, number}
use Rattle.corner_lift.specs.Certificate.{AreNumbers, AtMost, MeansAtMost, mark}
use Rattle.corner_lift.specs.Laws.{SumsRise, HasRow}
use Rattle.lift_bounded.specs.Steps.{nth, IsStart, IsUpperStep, AreUppers, IsHeldBy, IsLowerStep, LowersData, AreLowers, IsLeastStep, IsGreatestStep}
use Rattle.lift_bounded.specs.Stepping.{StepsRise}
use Rattle.lift_bounded.specs.Laws.{LeastStepsAreLeast, GreatestStepsAreGreatest, LeastUppersRefute, GreatestLowersRefute}
use Rattle.lift_bounded.proofs.Inside.{in_or_past, state_of, true_or_false}

-- a state with a choice is one of the model
starts_alike : (k : CaseData) (x y : List ℤ) → IsStart k x → IsStart k y → AtMost x y
starts_alike k x y first second s = omega (arith, linear, first.value s, second.value s)

least_number : (k : CaseData) (z : List ℤ) (s : ℕ) → AreNumbers k z → pos 0 ≤ℤ number z s
least_number k z s numbers = ⊎_elim
    (λ (lt : s < length z). (numbers.range s (pos 0) lt).0)
    (λ (past : length z ≤ s). let none : number z s ≡ pos 0 = get_or_past z s (pos 0) past in omega (arith, linear, none))
    (in_or_past s (length z))

-- no step falls below the vector of no step
pub start_rises : (k : CaseData) (spans : Spans) (x : List ℤ) → IsStart k x → StepsRise k spans x
start_rises k spans x start z upper s = ⊎_elim
    (λ (g : is_goal k.model s ≡ true). let same : number x s ≡ pos (2 ^ k.w) = start.value s ∙ ap (λ b. cond b (pos (2 ^ k.w)) (pos 0)) g in omega (arith, linear, same, upper.goal s g))
    (λ (g : is_goal k.model s ≡ false). let same : number x s ≡ pos 0 = start.value s ∙ ap (λ b. cond b (pos (2 ^ k.w)) (pos 0)) g in omega (arith, linear, same, least_number k z s upper.numbers))
    (true_or_false (is_goal k.model s))

module _ (rise : SumsRise) (k : CaseData) (spans : Spans) (is : IsCase k) (within : IsInside k.root spans) where
  has_row : (s a : ℕ) → a < length (choices k.model s) → HasRow k s a
  has_row s a lt = record { state = state_of k.model.states s a lt; choice = lt }

  -- a vector of one step more than y is one of one step more than whatever lies at or below y
  upper_below : (x y z : List ℤ) → AtMost x y → IsUpperStep k spans y z → IsUpperStep k spans x z
  upper_below x y z below upper = record {
    numbers = upper.numbers;
    goal = upper.goal;
    means = λ s g. All-from_get_or (λ row. MeansAtMost k spans row x (number z s)) (choices k.model s) []
        (λ a lt c at. omega (arith, linear, upper.means s g a [] lt c at, rise k spans s a c (number x) (number y) is within (has_row s a lt) below));
  }

  -- from a vector of which no step falls below it, the least step is one too
  pub next_rises : (x z : List ℤ) → StepsRise k spans x → IsLeastStep k spans x z → StepsRise k spans z
  next_rises x z rises step u upper = step.least u (upper_below x z u (rises z step.upper) upper)

  pub held_above : (x y : List ℤ) (s a : ℕ) (z : ℤ) → AtMost x y → IsHeldBy k spans x s a z → IsHeldBy k spans y s a z
  held_above x y s a z below held = record {
    in_range = held.in_range;
    means = λ c at. omega (arith, linear, held.means c at, rise k spans s a c (number x) (number y) is within (has_row s a held.in_range) below);
  }

  lower_above : (x y z : List ℤ) (picks : List ℕ) → AtMost x y → IsLowerStep k spans x z picks → IsLowerStep k spans y z picks
  lower_above x y z picks below lower = record {
    numbers = lower.numbers;
    size = lower.size;
    goal = lower.goal;
    held = λ s state g. held_above x y s (mark picks s) (number z s) below (lower.held s state g);
  }

  module _ (h : ℕ) (xs ys : List (List ℤ)) (start : IsStart k (nth xs 0)) (steps : (n : ℕ) → n < h → IsLeastStep k spans (nth xs n) (nth xs (n + 1))) (uppers : AreUppers k spans h ys) where
    least : (n : ℕ) → n ≤ h → AtMost (nth xs n) (nth ys n)
    least zero le = starts_alike k (nth xs 0) (nth ys 0) start uppers.start
    least (suc n) le =
        let lt : n < h = omega (arith, le) in
        let next : n + 1 ≡ suc n = omega arith in
        subst (λ i. AtMost (nth xs i) (nth ys i)) next
        ((steps n lt).least (nth ys (n + 1)) (upper_below (nth xs n) (nth ys n) (nth ys (n + 1)) (least n (omega (arith, le))) (uppers.steps n lt)))

  module _ (h : ℕ) (r q : LowersData) (start : IsStart k (nth r.numbers 0)) (steps : (n : ℕ) → n < h → IsGreatestStep k spans (nth r.numbers n) (nth r.numbers (n + 1)) (nth r.picks n)) (lowers : AreLowers k spans h q) where
    greatest : (n : ℕ) → n ≤ h → AtMost (nth q.numbers n) (nth r.numbers n)
    greatest zero le = starts_alike k (nth q.numbers 0) (nth r.numbers 0) lowers.start start
    greatest (suc n) le =
        let lt : n < h = omega (arith, le) in
        let next : n + 1 ≡ suc n = omega arith in
        subst (λ i. AtMost (nth q.numbers i) (nth r.numbers i)) next
        ((steps n lt).greatest (nth q.numbers (n + 1)) (nth q.picks n) (lower_above (nth q.numbers n) (nth r.numbers n) (nth q.numbers (n + 1)) (nth q.picks n) (greatest n (omega (arith, le))) (lowers.steps n lt)))

pub least_steps_are_least : SumsRise → LeastStepsAreLeast
least_steps_are_least rise k spans h xs is within count start steps = record {
  uppers = record { count = count; start = start; steps = λ n lt. (steps n lt).upper };
  least = λ ys uppers n le. least rise k spans is within h xs ys start steps uppers n le;
}

pub greatest_steps_are_greatest : SumsRise → GreatestStepsAreGreatest
greatest_steps_are_greatest rise k spans h r is within counts start steps = record {
  lowers = record { counts = counts; start = start; steps = λ n lt. (steps n lt).lower };
  greatest = λ q lowers n le. greatest rise k spans is within h r q start steps lowers n le;
  lowest = λ n s a lt g less held. (steps n lt).lowest s a g less held;
}

pub least_uppers_refute : LeastUppersRefute
least_uppers_refute k spans bound h xs least beyond ys accepting =
    let n = number (nth xs h) k.model.init in
    let m = number (nth ys h) k.model.init in
    let below = mul-le (pos bound.den) n m (omega (arith, linear)) (least.least ys accepting.uppers h (omega arith) k.model.init) in
    omega (arith, linear, beyond, accepting.limit, below, mul-comm n (pos bound.den), mul-comm m (pos bound.den))

pub greatest_lowers_refute : GreatestLowersRefute
greatest_lowers_refute k spans bound h r greatest held q rejecting =
    let n = number (nth q.numbers h) k.model.init in
    let m = number (nth r.numbers h) k.model.init in
    let below = mul-le (pos bound.den) n m (omega (arith, linear)) (greatest.greatest q rejecting.lowers h (omega arith) k.model.init) in
    omega (arith, linear, held, rejecting.limit, below, mul-comm n (pos bound.den), mul-comm m (pos bound.den))
