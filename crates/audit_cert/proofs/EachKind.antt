-- A claim of a kind passes exactly where its vector is a certificate of that kind.
use Rattle.std.proofs.Common.{◌≡◌, ◌<◌, ◌≤◌, ℕ, Bool, true, false, not, nat_lt, List, [], length, All, ℤ, pos, ◌-ℤ◌, refl, sym, ap, ◌∙◌, arith, ⊎_elim, ltb-true, Option, Some}
use Rattle.std.specs.Prelude.{◌↔◌, IfSome}
use Rattle.std.proofs.lemmas.Bool.{lt-ltb}
use Rattle.std.proofs.lemmas.List.{get_or_past, get_or_default}
use Rattle.lift_grid.specs.Rectangle.{Spans}
use Rattle.lift_grid.specs.Tree.{RejectData}
use Rattle.lift_costs.specs.Costs.{CostData}
use Rattle.lift_model.specs.Model.{is_goal, choices, row_at}
use Rattle.corner_lift.specs.Case.{CaseData, IsCase, Within, number}
use Rattle.corner_lift.specs.Certificate.{AreNumbers, mark, unmarked}
use Rattle.corner_lift.specs.Laws.{ParametersAreTheRoots}
use Rattle.lift_cert.specs.Certificate.{IsWithin, IsBeyond}
use Rattle.lift_cert.specs.declared.bound.Bound.{Bound}
use Rattle.property_text.specs.declared.op.Op.{Op}
use Rattle.lift_dual.specs.Property.{IsLowSide, IsHighSide}
use Rattle.lift_dual.specs.Sides.{IsUpperOne, IsLowerAll, RowHolds}
use Rattle.lift_bounded.specs.Steps.{IsUpperStep, IsLowerStep}
use Rattle.lift_cost.specs.Certificate.{BudgetData, IsCostCertificate, price_over}
use Rattle.audit_cert.specs.Claim.{Passes, lacks_rank, upper_one, lower_all, upper_step, lower_step, cost}
use Rattle.audit_cert.specs.Form.{HasPicks, HasRanks, HasForm}
use Rattle.audit_cert.proofs.Limits.{low_in, low_out, high_in, high_out, last_low_in, last_low_out, last_high_in, last_high_out}
use Rattle.audit_cert.proofs.Rows.{inside_or_past, goal_there, choice_there, most_in, most_out, least_in, least_out, fast_in, fast_out}

-- ---- forms

pub form_upper_one : (k : CaseData) (op : Op) (bound : Bound) (x : List ℤ) (picks : List ℕ) → AreNumbers k x → HasPicks k picks → HasForm k (upper_one op bound x picks)
form_upper_one k op bound x picks are has = record { numbers = are; targets = are; picks = has; ranking = tt }

pub form_lower_all : (k : CaseData) (op : Op) (bound : Bound) (r : RejectData) → AreNumbers k r.numbers → HasRanks k r → HasForm k (lower_all op bound r)
form_lower_all k op bound r are has = record { numbers = are; targets = are; picks = tt; ranking = has }

pub form_upper_step : (k : CaseData) (bound : Option Bound) (x z : List ℤ) → AreNumbers k x → AreNumbers k z → HasForm k (upper_step bound x z)
form_upper_step k bound x z before are = record { numbers = are; targets = before; picks = tt; ranking = tt }

pub form_lower_step : (k : CaseData) (bound : Option Bound) (y z : List ℤ) (picks : List ℕ) → AreNumbers k y → AreNumbers k z → HasPicks k picks → HasForm k (lower_step bound y z picks)
form_lower_step k bound y z picks before are has = record { numbers = are; targets = before; picks = has; ranking = tt }

pub form_cost : (k : CaseData) (costs : List CostData) (cap : ℕ) (budget : BudgetData) (z : List ℤ) → AreNumbers k z → HasForm k (cost costs cap budget z)
form_cost k costs cap budget z are = record { numbers = are; targets = are; picks = tt; ranking = tt }

-- ---- ranks

either : {P : Type 0} (b : Bool) → (b ≡ true → P) → (b ≡ false → P) → P
either true f g = f refl
either false f g = g refl

no_truth : {P : Type 0} → false ≡ true → P
no_truth e = absurd (cc e)

pub lacks : (r : RejectData) (s : ℕ) → unmarked ≤ mark r.ranks s → lacks_rank (Some r) s ≡ true
lacks r s le = either (nat_lt (mark r.ranks s) unmarked)
    (λ is. let lt : mark r.ranks s < unmarked = ltb-true (mark r.ranks s) unmarked is in absurd (omega (arith, lt, le)))
    (λ not_less. ap not not_less)

pub has_rank : (r : RejectData) (s : ℕ) → mark r.ranks s < unmarked → lacks_rank (Some r) s ≡ false
has_rank r s lt = ap not (lt-ltb (mark r.ranks s) unmarked lt)

pub ranked : (r : RejectData) (s : ℕ) → lacks_rank (Some r) s ≡ false → mark r.ranks s < unmarked
ranked r s e = either (nat_lt (mark r.ranks s) unmarked) (λ is. ltb-true (mark r.ranks s) unmarked is) (λ isnt. no_truth (sym e ∙ ap not isnt))

pub unranked : (r : RejectData) (s : ℕ) → lacks_rank (Some r) s ≡ true → unmarked ≤ mark r.ranks s
unranked r s e = either (nat_lt (mark r.ranks s) unmarked)
    (λ is. no_truth (sym (ap not is) ∙ e))
    (λ isnt. ⊎_elim (λ (lt : mark r.ranks s < unmarked). no_truth (sym isnt ∙ lt-ltb (mark r.ranks s) unmarked lt)) (λ (le : unmarked ≤ mark r.ranks s). le) (inside_or_past (mark r.ranks s) unmarked))

-- a state that has a rank is one of the model's
ranked_there : (k : CaseData) (r : RejectData) (s : ℕ) → length r.ranks ≡ length k.model.states → mark r.ranks s < unmarked → s < length k.model.states
ranked_there k r s size lt = ⊎_elim (λ (there : s < length k.model.states). there)
    (λ (le : length k.model.states ≤ s). let past : mark r.ranks s ≡ unmarked = get_or_past r.ranks s unmarked (omega (arith, size, le)) in absurd (omega (arith, past, lt)))
    (inside_or_past s (length k.model.states))

-- no rank is beyond what stands for none
marks : (k : CaseData) (r : RejectData) → HasRanks k r → All (λ rank. rank ≤ unmarked) r.ranks
marks k r has s d lt =
    rw (get_or_default r.ranks s d unmarked lt)
    (either (is_goal k.model s)
    (λ e. omega (arith, has.goal s e))
    (λ e. ⊎_elim (λ (none : mark r.ranks s ≡ unmarked). omega (arith, none)) (λ (is : (1 ≤ mark r.ranks s) × (mark r.ranks s ≤ r.k)). omega (arith, is.1, has.bounds.2)) (has.others s e)))

-- a ranked state that is no goal state has a rank from 1 to k
rank_in_range : (k : CaseData) (r : RejectData) (s : ℕ) → HasRanks k r → is_goal k.model s ≡ false → mark r.ranks s < unmarked → (1 ≤ mark r.ranks s) × (mark r.ranks s ≤ r.k)
rank_in_range k r s has inner lt = ⊎_elim (λ (none : mark r.ranks s ≡ unmarked). absurd (omega (arith, none, lt))) (λ (is : (1 ≤ mark r.ranks s) × (mark r.ranks s ≤ r.k)). is) (has.others s inner)

-- ---- each kind

module _ (parameters : ParametersAreTheRoots) (k : CaseData) (spans : Spans) (within : Within spans k.root) (is : IsCase k) where
  pub upper_one_kind : (op : Op) (bound : Bound) (x : List ℤ) (picks : List ℕ) → AreNumbers k x → HasPicks k picks
      → Passes k spans (upper_one op bound x picks) ↔ (IsUpperOne k spans x picks × IsLowSide op bound k.w (number x k.model.init))
  upper_one_kind op bound x picks are has = (
    λ passes. (
      record {
        numbers = are;
        size = has.size;
        goal = λ s e. ((passes.states s (goal_there k s is e)).goal e, has.goal s e);
        pick = has.others;
        means = λ s lt inner. most_out parameters k spans within s (mark picks s) x (number x s) (λ c below. ((passes.states s lt).rows inner refl (mark picks s) refl c below).met);
      },
      low_in op bound k.w (number x k.model.init) passes.limit,
    ),
    λ both. record {
      states = λ s lt. record {
        goal = λ e. (both.0.goal s e).0;
        unranked = λ inner lacking. no_truth lacking;
        rows = λ inner ranking a tested c below. record {
          met = most_in parameters k spans within s a x (number x s) (rw tested (both.0.means s lt inner)) c below;
          fast = tt;
        };
      };
      limit = low_out op bound k.w (number x k.model.init) both.1;
    },
  )

  pub lower_step_kind : (bound : Option Bound) (y z : List ℤ) (picks : List ℕ) → AreNumbers k z → HasPicks k picks
      → Passes k spans (lower_step bound y z picks) ↔ (IsLowerStep k spans y z picks × IfSome bound (λ b. IsBeyond b k.w (number z k.model.init)))
  lower_step_kind bound y z picks are has = (
    λ passes. (
      record {
        numbers = are;
        size = has.size;
        goal = λ s e. ((passes.states s (goal_there k s is e)).goal e, has.goal s e);
        held = λ s lt inner. record {
          in_range = has.others s lt inner;
          means = least_out parameters k spans within s (mark picks s) y (number z s) (λ c below. ((passes.states s lt).rows inner refl (mark picks s) refl c below).met);
        };
      },
      last_high_in bound k.w (number z k.model.init) passes.limit,
    ),
    λ both. record {
      states = λ s lt. record {
        goal = λ e. (both.0.goal s e).0;
        unranked = λ inner lacking. no_truth lacking;
        rows = λ inner ranking a tested c below. record {
          met = least_in parameters k spans within s a y (number z s) (rw tested (both.0.held s lt inner).means) c below;
          fast = tt;
        };
      };
      limit = last_high_out bound k.w (number z k.model.init) both.1;
    },
  )

  pub upper_step_kind : (bound : Option Bound) (x z : List ℤ) → AreNumbers k z
      → Passes k spans (upper_step bound x z) ↔ (IsUpperStep k spans x z × IfSome bound (λ b. IsWithin b k.w (number z k.model.init)))
  upper_step_kind bound x z are = (
    λ passes. (
      record {
        numbers = are;
        goal = λ s e. (passes.states s (goal_there k s is e)).goal e;
        means = λ s inner a row lt. rw (get_or_default (choices k.model s) a row [] lt)
            (most_out parameters k spans within s a x (number z s) (λ c below. ((passes.states s (choice_there k s a lt)).rows inner refl a lt c below).met));
      },
      last_low_in bound k.w (number z k.model.init) passes.limit,
    ),
    λ both. record {
      states = λ s lt. record {
        goal = λ e. both.0.goal s e;
        unranked = λ inner lacking. no_truth lacking;
        rows = λ inner ranking a tested c below. record {
          met = most_in parameters k spans within s a x (number z s) (both.0.means s inner a [] tested) c below;
          fast = tt;
        };
      };
      limit = last_low_out bound k.w (number z k.model.init) both.1;
    },
  )

  pub cost_kind : (costs : List CostData) (cap : ℕ) (budget : BudgetData) (z : List ℤ) → AreNumbers k z
      → Passes k spans (cost costs cap budget z) ↔ IsCostCertificate k spans costs cap budget z
  cost_kind costs cap budget z are = (
    λ passes. record {
      priced = record {
        numbers = are;
        goal = λ s e. (passes.states s (goal_there k s is e)).goal e;
        means = λ s inner a row lt. rw (get_or_default (choices k.model s) a row [] lt)
            (most_out parameters k spans within s a z (number z s -ℤ price_over k.w costs cap s) (λ c below. ((passes.states s (choice_there k s a lt)).rows inner refl a lt c below).met));
      };
      limit = passes.limit;
    },
    λ certificate. record {
      states = λ s lt. record {
        goal = λ e. certificate.priced.goal s e;
        unranked = λ inner lacking. no_truth lacking;
        rows = λ inner ranking a tested c below. record {
          met = most_in parameters k spans within s a z (number z s -ℤ price_over k.w costs cap s) (certificate.priced.means s inner a [] tested) c below;
          fast = tt;
        };
      };
      limit = certificate.limit;
    },
  )

  pub lower_all_kind : (op : Op) (bound : Bound) (r : RejectData) → r.picks ≡ [] → AreNumbers k r.numbers → HasRanks k r
      → Passes k spans (lower_all op bound r) ↔ (IsLowerAll k spans r × IsHighSide op bound k.w (number r.numbers k.model.init))
  lower_all_kind op bound r none are has = (
    λ passes. (
      record {
        numbers = are;
        sizes = (none, has.size);
        marks = marks k r has;
        bounds = (has.bounds.0, has.bounds.1, omega (arith, has.bounds.2));
        goal = λ s e. ((passes.states s (goal_there k s is e)).goal e, has.goal s e);
        unranked = λ s inner le. ⊎_elim (λ (there : s < length k.model.states). (passes.states s there).unranked inner (lacks r s le))
            (λ (past : length k.model.states ≤ s). get_or_past r.numbers s (pos 0) (omega (arith, are.size, past))) (inside_or_past s (length k.model.states));
        held = λ s inner lt. record {
          rank = rank_in_range k r s has inner lt;
          rows = λ a row there. rw (get_or_default (choices k.model s) a row [] there) (holds passes s inner lt a there);
        };
      },
      high_in op bound k.w (number r.numbers k.model.init) passes.limit,
    ),
    λ both. record {
      states = λ s lt. record {
        goal = λ e. (both.0.goal s e).0;
        unranked = λ inner lacking. both.0.unranked s inner (unranked r s lacking);
        rows = λ inner ranking a tested c below. let row = (both.0.held s inner (ranked r s ranking)).rows a [] tested in record {
          met = least_in parameters k spans within s a r.numbers (number r.numbers s) row.means c below;
          fast = fast_in parameters k spans within r s a row.rates c below;
        };
      };
      limit = high_out op bound k.w (number r.numbers k.model.init) both.1;
    },
  )
    where
      holds : Passes k spans (lower_all op bound r) → (s : ℕ) → is_goal k.model s ≡ false → mark r.ranks s < unmarked → (a : ℕ) → a < length (choices k.model s) → RowHolds k spans r s (row_at k.model s a)
      holds passes s inner lt a there =
          let row = (passes.states s (choice_there k s a there)).rows inner (has_rank r s lt) a there in
          record {
            means = least_out parameters k spans within s a r.numbers (number r.numbers s) (λ c below. (row c below).met);
            rates = fast_out parameters k spans within r s a (λ c below. (row c below).fast);
          }
