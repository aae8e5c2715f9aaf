-- By which rules the least vectors of both kinds are least bounds.
use Rattle.std.proofs.Common.{◌≡◌, ℕ, ◌^◌, ◌<◌, ◌≤◌, ◌||◌, ◌&&◌, not, nat_lt, Bool, true, false, List, [], length, ℤ, pos, ◌*ℤ◌, ◌≤ℤ◌, refl, sym, ap, subst, arith, ltb-true, ltb-false, lt-ltb, le-ltb, ◌⊎◌, ⊎_elim, if◌then◌else◌}
use Rattle.std.proofs.lemmas.Bool.{both_ways}
use Rattle.std.proofs.lemmas.List.Elements.{All-from_get_or}
use Rattle.std.specs.Borrow.{Bor}
use Rattle.lift_poly.proofs.Ring.{linear}
use Rattle.lift_grid.specs.Rectangle.{Spans}
use Rattle.lift_model.specs.Process.{power}
use Rattle.lift_model.specs.Model.{is_goal, choices, row_at}
use Rattle.corner_lift.specs.Corner.{whole}
use Rattle.corner_lift.specs.Case.{CaseData, IsCase, IsInside, number, row_value, row_whole, corner_count}
use Rattle.corner_lift.specs.Certificate.{MeansAtMost, unmarked, mark}
use Rattle.corner_lift.specs.Laws.{ParametersAreTheRoots}
use Rattle.float_guess.specs.declared.rule.Ends.TheVariants.{Goals, Unranked}
use Rattle.float_guess.specs.Rule.{is_given, given}
use Rattle.rounded_iter.specs.Rising.{IsEnoughEverywhere, IsLeastBound}
use Rattle.lift_dual.specs.Sides.{IsUpperOne}
use Rattle.lift_dual.specs.Avoiding.{IsAvoiding, IsLeastAvoiding}
use Rattle.lift_dual.specs.Choosing.{IsSatisfied, HasSatisfied, AreLowestChoices, IsLeastUpperOne}
use Rattle.lift_dual.specs.Bounds.{for_one, for_all, BoundsAreAvoiding, LeastBoundIsAvoiding, UpperOneIsBound, BoundIsSatisfied, LeastBoundIsUpperOne}
use Rattle.lift_dual.proofs.Inside.{in_or_past, choice_inside, goal_inside, either_way}

-- a choice is met where it is at each of its corners
pub satisfied_is : ParametersAreTheRoots → (k : CaseData) (spans : Spans) (x : List ℤ) (s a : ℕ) → IsInside k.root spans
    → (((c : ℕ) → c < corner_count k s a → row_value k spans s a x c ≤ℤ (number x s *ℤ row_whole k s a)) → IsSatisfied k spans x s a)
    × (IsSatisfied k spans x s a → (c : ℕ) → c < corner_count k s a → row_value k spans s a x c ≤ℤ (number x s *ℤ row_whole k s a))
satisfied_is parameters k spans x s a within =
    let row = row_at k.model s a in
    let same = parameters k spans row within.within in
    let wholes : whole k.model k.d spans row ≡ row_whole k s a = ap (λ m. k.model.common *ℤ power k.d m) same in (
      λ h c lt. omega (arith, linear, h c (subst (λ m. c < 2 ^ m) same lt), ap (λ v. number x s *ℤ v) wholes),
      λ h c lt. omega (arith, linear, h c (subst (λ m. c < 2 ^ m) (sym same) lt), ap (λ v. number x s *ℤ v) wholes),
    )

module _ (parameters : ParametersAreTheRoots) (k : CaseData) (spans : Spans) (is : IsCase k) (within : IsInside k.root spans) where
  -- ---- avoiding vectors

  module _ (ranks : Bor (List ℕ)) where
    goal_given : (s : ℕ) → is_goal k.model s ≡ true → is_given k.model (Unranked ranks) s ≡ true
    goal_given s g = rw g refl

    lost_given : (s : ℕ) → s < length k.model.states → is_goal k.model s ≡ false → unmarked ≤ mark ranks.now s → is_given k.model (Unranked ranks) s ≡ true
    lost_given s lt g off = let inside = lt-ltb s (length k.model.states) lt in let none = le-ltb (mark ranks.now s) unmarked off in rw (g, inside, none) refl

    not_given : (s : ℕ) → is_goal k.model s ≡ false → mark ranks.now s < unmarked → is_given k.model (Unranked ranks) s ≡ false
    not_given s g ranked = let some = lt-ltb (mark ranks.now s) unmarked ranked in rw (g, some) (by_test (nat_lt s (length k.model.states)))
      where
        by_test : (b : Bool) → (b && false) ≡ false
        by_test true = refl
        by_test false = refl

    avoiding_of : (z : List ℤ) → IsEnoughEverywhere (for_all ranks) k spans z → IsAvoiding k spans (mark ranks.now) z
    avoiding_of z h = record {
      numbers = h.numbers;
      goal = λ s g. subst (λ v. number z s ≡ v) (let e : given k (Unranked ranks) s ≡ pos 0 = rw g refl in e) (h.given s (goal_given s g));
      lost = λ s lt g off. subst (λ v. number z s ≡ v) (let e : given k (Unranked ranks) s ≡ pos (2 ^ k.w) = rw g refl in e) (h.given s (lost_given s lt g off));
      means = λ s g ranked. All-from_get_or (λ row. MeansAtMost k spans row z (number z s)) (choices k.model s) [] (λ a lt. (satisfied_is parameters k spans z s a within).0 (h.enough s (choice_inside k s a lt) (not_given s g ranked) a lt));
    }

    bound_of : (z : List ℤ) → IsAvoiding k spans (mark ranks.now) z → IsEnoughEverywhere (for_all ranks) k spans z
    bound_of z h = record {
      numbers = h.numbers;
      given = λ s e. either_way (is_goal k.model s)
          (λ g. rw g (h.goal s g))
          (λ g. rw g (h.lost s (inside s g e) g (off s g e)));
      enough = λ s lt e a choice. (satisfied_is parameters k spans z s a within).1 (h.means s (no_goal s e) (ranked s lt e) a [] choice);
    }
      where
        inside : (s : ℕ) → is_goal k.model s ≡ false → is_given k.model (Unranked ranks) s ≡ true → s < length k.model.states
        inside s g e = either_way (nat_lt s (length k.model.states)) (λ l. ltb-true s (length k.model.states) l) (λ l. absurd (let wrong : false ≡ true = rw (g, l) at e in cc wrong))

        off : (s : ℕ) → is_goal k.model s ≡ false → is_given k.model (Unranked ranks) s ≡ true → unmarked ≤ mark ranks.now s
        off s g e = either_way (nat_lt (mark ranks.now s) unmarked) (λ l. absurd (let at : is_given k.model (Unranked ranks) s ≡ false = not_given s g (ltb-true (mark ranks.now s) unmarked l) in both_ways (is_given k.model (Unranked ranks) s) at e)) (λ l. ltb-false (mark ranks.now s) unmarked l)

        no_goal : (s : ℕ) → is_given k.model (Unranked ranks) s ≡ false → is_goal k.model s ≡ false
        no_goal s e = either_way (is_goal k.model s) (λ g. absurd (both_ways (is_given k.model (Unranked ranks) s) e (goal_given s g))) (λ g. g)

        ranked : (s : ℕ) → s < length k.model.states → is_given k.model (Unranked ranks) s ≡ false → mark ranks.now s < unmarked
        ranked s lt e = ⊎_elim (λ (l : mark ranks.now s < unmarked). l) (λ (past : unmarked ≤ mark ranks.now s). absurd (both_ways (is_given k.model (Unranked ranks) s) e (lost_given s lt (no_goal s e) past))) (in_or_past (mark ranks.now s) unmarked)

  -- ---- upper vectors for one scheduler

  bound_of_one : (x : List ℤ) (picks : List ℕ) → IsUpperOne k spans x picks → IsEnoughEverywhere for_one k spans x
  bound_of_one x picks h = record {
    numbers = h.numbers;
    given = λ s g. (h.goal s g).0;
    enough = λ s lt g. (mark picks s, (h.pick s lt g, (satisfied_is parameters k spans x s (mark picks s) within).1 (h.means s lt g)));
  }

  satisfied_of : (x : List ℤ) → IsEnoughEverywhere for_one k spans x → (s : ℕ) → s < length k.model.states → is_goal k.model s ≡ false → HasSatisfied k spans x s
  satisfied_of x h s lt g = let one = h.enough s lt g in (one.0, (one.1.0, (satisfied_is parameters k spans x s one.0 within).0 one.1.1))

  least_one_of : (x : List ℤ) (picks : List ℕ) → IsLeastBound for_one k spans x → AreLowestChoices k spans x picks → IsLeastUpperOne k spans x picks
  least_one_of x picks h chosen = record {
    upper = record {
      numbers = h.bound.numbers;
      size = chosen.size;
      goal = λ s g. (h.bound.given s g, (chosen.each s (goal_inside k s is g)).none g);
      pick = λ s lt g. ((chosen.each s lt).chosen g).in_range;
      means = λ s lt g. ((chosen.each s lt).chosen g).holds;
    };
    least = λ y others upper. h.least y (bound_of_one y others upper);
    lowest = chosen;
  }

pub bounds_are_avoiding : ParametersAreTheRoots → BoundsAreAvoiding
bounds_are_avoiding parameters k spans ranks z is within = (avoiding_of parameters k spans is within ranks z, bound_of parameters k spans is within ranks z)

pub least_bound_is_avoiding : ParametersAreTheRoots → LeastBoundIsAvoiding
least_bound_is_avoiding parameters k spans ranks z is within h = record {
  avoiding = avoiding_of parameters k spans is within ranks z h.bound;
  least = λ o avoiding. h.least o (bound_of parameters k spans is within ranks o avoiding);
}

pub upper_one_is_bound : ParametersAreTheRoots → UpperOneIsBound
upper_one_is_bound parameters k spans x picks is within h = bound_of_one parameters k spans is within x picks h

pub bound_is_satisfied : ParametersAreTheRoots → BoundIsSatisfied
bound_is_satisfied parameters k spans x is within h = satisfied_of parameters k spans is within x h

pub least_bound_is_upper_one : ParametersAreTheRoots → LeastBoundIsUpperOne
least_bound_is_upper_one parameters k spans x picks is within h chosen = least_one_of parameters k spans is within x picks h chosen
