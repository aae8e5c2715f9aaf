-- Upper and lower vectors, stages and certificates of two rectangles that are alike.
use Rattle.std.proofs.Common.{ℕ, ◌^◌, List, All, ℤ, pos}
use Rattle.lift_grid.specs.Rectangle.{Spans}
use Rattle.lift_grid.specs.Tree.{RejectData}
use Rattle.lift_model.specs.Model.{choices}
use Rattle.corner_lift.specs.Case.{CaseData, number}
use Rattle.corner_lift.specs.Certificate.{AreNumbers, MeansAtMost, IsUpper, IsLeastUpper, IsRate, IsHeld, IsLower, mark, chosen_row, ranked_below}
use Rattle.corner_lift.specs.Stages.{LeadsBelow, IsAllowed, IsChosen, AreStages, IsGreatestLower}
use Rattle.lift_cert.specs.declared.bound.Bound.{Bound}
use Rattle.lift_cert.specs.Certificate.{IsAccepting, IsRejecting, NoneAccepts}
use Rattle.lift_finer.proofs.Alike.{Carries, AreAlike, flipped, moved, most_carry, least_carry, enough_carry, leads_carry}

pub All-each : {X : Type 0} (P Q : X → Type 0) → ((x : X) → P x → Q x) → (xs : List X) → All P xs → All Q xs
All-each P Q f xs h i d lt = f _ (h i d lt)

numbers_carry : (x : List ℤ) → Carries (λ k spans. AreNumbers k x)
numbers_carry x k root d depth spans others a h = record { size = h.size; range = h.range }

-- ---- from above

pub upper_carries : (x : List ℤ) → Carries (λ k spans. IsUpper k spans x)
upper_carries x k root d depth spans others a h = record {
  numbers = numbers_carry x k root d depth spans others a h.numbers;
  goal = h.goal;
  means = λ s is. All-each (λ row. MeansAtMost k spans row x (number x s)) (λ row. MeansAtMost (moved k root d depth) others row x (number x s)) (λ row. most_carry row x (number x s) k root d depth spans others a) (choices k.model s) (h.means s is);
}

-- what is said of the rectangle that is alike, said of the first one
back : (P : CaseData → Spans → Type 0) → Carries P → (k : CaseData) (root : Spans) (d : ℤ) (depth : ℕ) (spans others : Spans) → AreAlike k.model k.d spans d others → P (moved k root d depth) others → P k spans
back P carries k root d depth spans others a = carries (moved k root d depth) k.root k.d k.depth others spans (flipped k.model k.d spans d others a)

pub least_upper_carries : (x : List ℤ) → Carries (λ k spans. IsLeastUpper k spans x)
least_upper_carries x k root d depth spans others a h = record {
  upper = upper_carries x k root d depth spans others a h.upper;
  least = λ y upper. h.least y (back (λ k spans. IsUpper k spans y) (upper_carries y) k root d depth spans others a upper);
}

-- ---- from below

pub rate_carries : (r : RejectData) (e s : ℕ) → Carries (λ k spans. IsRate k spans r e s)
rate_carries r e s k root d depth spans others a = enough_carry (chosen_row k r s) (ranked_below (mark r.ranks) (mark r.ranks s)) (pos (2 ^ e)) k root d depth spans others a

held_carries : (r : RejectData) (s : ℕ) → Carries (λ k spans. IsHeld k spans r s)
held_carries r s k root d depth spans others a h = record {
  rank = h.rank;
  pick = h.pick;
  means = least_carry (chosen_row k r s) (number r.numbers) (number r.numbers s) k root d depth spans others a h.means;
  rates = rate_carries r r.e s k root d depth spans others a h.rates;
}

pub lower_carries : (r : RejectData) → Carries (λ k spans. IsLower k spans r)
lower_carries r k root d depth spans others a h = record {
  numbers = numbers_carry r.numbers k root d depth spans others a h.numbers;
  sizes = h.sizes;
  marks = h.marks;
  bounds = h.bounds;
  goal = h.goal;
  unranked = h.unranked;
  held = λ s is lt. held_carries r s k root d depth spans others a (h.held s is lt);
}

allowed_carries : (y : ℕ → ℤ) (s b : ℕ) → Carries (λ k spans. IsAllowed k spans y s b)
allowed_carries y s b k = least_carry _ y (y s) k

chosen_carries : (y : ℕ → ℤ) (pick rank : ℕ → ℕ) (s : ℕ) → Carries (λ k spans. IsChosen k spans (IsAllowed k spans y) pick rank s)
chosen_carries y pick rank s k root d depth spans others a h = record {
  later = h.later;
  in_range = h.in_range;
  is_allowed = allowed_carries y s (pick s) k root d depth spans others a h.is_allowed;
  leads = leads_carry rank (rank s) s (pick s) k root d depth spans others a h.leads;
  least = λ b lt is leads.
      h.least b lt (back (λ k spans. IsAllowed k spans y s b) (allowed_carries y s b) k root d depth spans others a is)
      (back (λ k spans. LeadsBelow k spans rank (rank s) s b) (leads_carry rank (rank s) s b) k root d depth spans others a leads);
}

pub stages_carry : (y : ℕ → ℤ) (pick rank : ℕ → ℕ) → Carries (λ k spans. AreStages k spans (IsAllowed k spans y) pick rank)
stages_carry y pick rank k root d depth spans others a h = record {
  goal = h.goal;
  chosen = λ s is lt. chosen_carries y pick rank s k root d depth spans others a (h.chosen s is lt);
  first = λ s is b r lt allowed some leads.
      h.first s is b r lt (back (λ k spans. IsAllowed k spans y s b) (allowed_carries y s b) k root d depth spans others a allowed) some
      (back (λ k spans. LeadsBelow k spans rank r s b) (leads_carry rank r s b) k root d depth spans others a leads);
}

pub greatest_lower_carries : (r : RejectData) → Carries (λ k spans. IsGreatestLower k spans r)
greatest_lower_carries r k root d depth spans others a h = record {
  holds = lower_carries r k root d depth spans others a h.holds;
  greatest = λ q lower. h.greatest q (back (λ k spans. IsLower k spans q) (lower_carries q) k root d depth spans others a lower);
  stages = stages_carry (number r.numbers) (mark r.picks) (mark r.ranks) k root d depth spans others a h.stages;
  least_rate = λ e rates. h.least_rate e (λ s is lt. back (λ k spans. IsRate k spans r e s) (rate_carries r e s) k root d depth spans others a (rates s is lt));
  least_height = h.least_height;
}

-- ---- certificates

pub accepting_carries : (bound : Bound) (x : List ℤ) → Carries (λ k spans. IsAccepting k spans bound x)
accepting_carries bound x k root d depth spans others a h = record { upper = upper_carries x k root d depth spans others a h.upper; limit = h.limit }

pub rejecting_carries : (bound : Bound) (r : RejectData) → Carries (λ k spans. IsRejecting k spans bound r)
rejecting_carries bound r k root d depth spans others a h = record { holds = lower_carries r k root d depth spans others a h.holds; limit = h.limit }

pub none_accepts_carries : (bound : Bound) → Carries (λ k spans. NoneAccepts k spans bound)
none_accepts_carries bound k root d depth spans others a none x h = none x (back (λ k spans. IsAccepting k spans bound x) (accepting_carries bound x) k root d depth spans others a h)
