-- What is left when no more is lowered is the greatest lower vector.
use Rattle.std.proofs.Common.{◌≡◌, ℕ, zero, suc, ◌^◌, ◌<◌, ◌≤◌, ◌<ℤ◌, ◌≤ℤ◌, ◌-ℤ◌, negsuc, SFits, w64, subst, inl, inr, false, List, [], ◌∷◌, length, get_or, All, ℤ, pos, arith, nat_lt, ltb-true, ltb-false}
use Rattle.std.proofs.lemmas.List.Elements.{All-nil, All-cons}
use Rattle.std.proofs.lemmas.List.{get_or_past}
use Rattle.std.proofs.lemmas.List.Sums.{get_or-le-sum_by}
use Rattle.lift_poly.proofs.Ring.{linear}
use Rattle.lift_grid.specs.Rectangle.{Spans}
use Rattle.lift_grid.specs.Tree.{RejectData}
use Rattle.lift_model.specs.Model.{is_goal}
use Rattle.corner_lift.specs.Case.{CaseData, IsCase, number}
use Rattle.corner_lift.specs.Certificate.{unmarked, mark}
use Rattle.corner_lift.specs.Laws.{NumbersAreInRange}
use Rattle.corner_lift.specs.Stages.{IsGreatestLower}
use Rattle.robust_rank.specs.Rate.{AreChoices, IsLeastRate}
use Rattle.lower_cert.specs.Lowering.{IsHigh, IsSettled, IsRanked, IsHeight, IsStuckLevel}
use Rattle.lower_cert.specs.Laws.{StagesAreGreatest}
use Rattle.lower_cert.proofs.Means.{either_way}
use Rattle.lower_cert.proofs.Heights.{mark-beyond}

module _ (k : CaseData) (spans : Spans) (x : List ℤ) (picks ranks : List ℕ) (ranked : IsRanked k spans x picks ranks) where
  -- a state with a chosen row is no goal state, and has a rank
  chosen : (s : ℕ) → mark picks s < unmarked → (is_goal k.model s ≡ false) × (mark ranks s < unmarked)
  chosen s some =
      either_way (is_goal k.model s)
      (λ g. absurd (omega (arith, some, ranked.others s (inl g))))
      (λ g. (g, either_way (nat_lt (mark ranks s) unmarked) (λ e. ltb-true (mark ranks s) unmarked e) (λ e. absurd (omega (arith, some, ranked.others s (inr (ltb-false (mark ranks s) unmarked e)))))))

  pub are_choices : AreChoices k spans ranks picks
  are_choices = record {
    sizes = (ranked.sizes.1, ranked.sizes.0);
    in_range = λ s some. let p = chosen s some in (ranked.stages.chosen s p.0 p.1).in_range;
    leads = λ s some. let p = chosen s some in (ranked.stages.chosen s p.0 p.1).leads;
  }

pub all_marks : (marks : List ℕ) → ((i : ℕ) → get_or marks i 0 ≤ unmarked) → All (λ rank. rank ≤ unmarked) marks
all_marks [] h = All-nil (λ rank. rank ≤ unmarked)
all_marks (m ∷ marks) h = All-cons (λ rank. rank ≤ unmarked) m marks (h 0) (all_marks marks (λ i. h (suc i)))

module _ (greatest : StagesAreGreatest) (ranges : NumbersAreInRange) (k : CaseData) (spans : Spans) (x : List ℤ) (picks ranks : List ℕ) (e h : ℕ) (high : IsHigh k spans x) (settled : IsSettled k spans x picks ranks) (marks : All (λ rank. rank ≤ unmarked) ranks) (rate : IsLeastRate k spans ranks picks e) (small : e ≤ 126) (height : IsHeight ranks (length ranks) h) (is : IsCase k) where
  abbrev r : RejectData
  r = record { numbers = x; picks = picks; ranks = ranks; e = e; k = h }

  has_choice : (s : ℕ) → is_goal k.model s ≡ false → mark ranks s < unmarked → s < length k.model.states
  has_choice s g some = either_way (nat_lt s (length k.model.states)) (λ b. ltb-true s (length k.model.states) b) (λ b. absurd (omega (arith, some, mark-beyond ranks s (omega (arith, ltb-false s (length k.model.states) b, settled.ranked.sizes.1)))))

  choices_small : (s : ℕ) → is_goal k.model s ≡ false → mark ranks s < unmarked → mark picks s < unmarked
  choices_small s g some =
      let few = get_or-le-sum_by length k.model.states s [] (has_choice s g some) in
      let inside = (settled.ranked.stages.chosen s g some).in_range in
      omega (arith, few, inside, is.asked.model.choices)

  pub is_greatest : IsGreatestLower k spans r
  is_greatest =
      greatest k spans r high.numbers settled.ranked.sizes marks (small, height.positive, height.small)
      (λ s g. (high.goal s g, settled.ranked.others s (inl g)))
      (λ s g free. (zero_number s free, settled.ranked.others s (inr free)))
      settled.ranked.stages
      (λ s some. height_most s some)
      (λ s g some. rate.holds s (has_choice s g some) (choices_small s g some))
      (λ f all. rate.least f (omega arith) (λ s lt some. let p = chosen k spans x picks ranks settled.ranked s some in all s p.0 p.1))
      (λ j positive all. height.least j positive all)
      (λ y lower s. high.above y lower (λ t. (ranges k y.numbers t lower.numbers).1) s)
    where
      zero_number : (s : ℕ) → unmarked ≤ mark ranks s → number x s ≡ pos 0
      zero_number s free = omega (arith, linear, settled.none s free, (ranges k x s high.numbers).0)

      height_most : (s : ℕ) → mark ranks s < unmarked → mark ranks s ≤ h
      height_most s some = height.most s (either_way (nat_lt s (length ranks)) (λ b. ltb-true s (length ranks) b) (λ b. absurd (omega (arith, some, mark-beyond ranks s (ltb-false s (length ranks) b))))) some

-- where the greatest number of a state without rank isn't above 0, none is
pub level_none : (x : List ℤ) (ranks : List ℕ) (v : ℤ) → IsStuckLevel x ranks (length x) v → v ≤ℤ pos 0 → (s : ℕ) → unmarked ≤ mark ranks s → number x s ≤ℤ pos 0
level_none x ranks v level low s free =
    either_way (nat_lt s (length x))
    (λ b. omega (arith, linear, level.most s (ltb-true s (length x) b) free, low))
    (λ b. let past : number x s ≡ pos 0 = get_or_past x s (pos 0) (ltb-false s (length x) b) in omega (arith, linear, past))

-- a state without rank is no goal state
pub no_goals : (k : CaseData) (spans : Spans) (x : List ℤ) (picks ranks : List ℕ) → IsRanked k spans x picks ranks → (s : ℕ) → unmarked ≤ mark ranks s → is_goal k.model s ≡ false
no_goals k spans x picks ranks ranked s free = either_way (is_goal k.model s) (λ g. absurd (omega (arith, free, ranked.stages.goal s g))) (λ g. g)

small_fits : (n : ℕ) → n < 2 ^ 41 → SFits w64 (pos n)
small_fits n lt = record { sfits = omega (arith, linear) }

-- one less than a number above 0
pub less_fits : (v : ℤ) → pos 0 <ℤ v → v ≤ℤ pos (2 ^ 40) → SFits w64 (v -ℤ pos 1)
less_fits (pos zero) positive most = absurd (omega (arith, linear, positive))
less_fits (pos (suc n)) positive most = let one : pos n ≡ pos (suc n) -ℤ pos 1 = omega (arith, linear) in subst (λ i. SFits w64 i) one (small_fits n (omega (arith, linear, most)))
less_fits (negsuc n) positive most = absurd (omega (arith, linear, positive))
