-- What the end of a text with rewards gives.
use Rattle.std.proofs.Common.{◌≡◌, ◌≢◌, ℕ, Bool, true, false, refl, sym, ◌∙◌, ap, List, [], Option, Some, None, Result, Ok, Err}
use Rattle.std.specs.Prelude.{is_none}
use Rattle.std.proofs.lemmas.Bool.{both_ways}
use Rattle.lift_costs.specs.Costs.{CostData}
use Rattle.lift_model.specs.Model.{ModelData}
use Rattle.drn_read.specs.Faults.{when, reported}
use Rattle.drn_read.specs.Reading.{end_fault, model}
use Rattle.drn_read.specs.Costs.{Asked, CostSaid, cost_said, place_of, is_common, cost_end_fault, cost_ended, drn_costs}
use Rattle.drn_read.specs.CostShown.{asked_of}
use Rattle.drn_read.specs.declared.error.DrnCause.{DrnCause}
use Rattle.drn_read.specs.declared.error.DrnCause.TheVariants.{UnknownReward, Memory}
use Rattle.drn_read.specs.declared.error.DrnError.{DrnError}

-- the test whether the reward is known
abbrev pub unknown : ℕ → CostSaid → Option DrnError
unknown number s = reported number (when (is_none (place_of s.rewards)) UnknownReward)

-- where no other test fails
pub fault_none : (number : ℕ) (s : CostSaid) → end_fault number s.said ≡ None → unknown number s ≡ None → cost_end_fault number s ≡ None
fault_none number s e f = rw (e, f) refl

pub fault_unknown : (number : ℕ) (s : CostSaid) (error : DrnError) → end_fault number s.said ≡ None → unknown number s ≡ Some error → cost_end_fault number s ≡ Some error
fault_unknown number s error e f = rw (e, f) refl

-- where the common denominator is too large
pub fault_common : (number : ℕ) (s : CostSaid) (other error : DrnError) → end_fault number s.said ≡ Some other → is_common other.cause ≡ true → unknown number s ≡ Some error → cost_end_fault number s ≡ Some error
fault_common number s other error e f g = rw (e, f, g) refl

-- where the reward is known
pub fault_known : (number : ℕ) (s : CostSaid) (error : DrnError) → end_fault number s.said ≡ Some error → unknown number s ≡ None → cost_end_fault number s ≡ Some error
fault_known number s error e f = by_cause (is_common error.cause) refl
  where
    by_cause : (b : Bool) → is_common error.cause ≡ b → cost_end_fault number s ≡ Some error
    by_cause true g = rw (e, g, f) refl
    by_cause false g = rw (e, g) refl

-- where another test fails
pub fault_other : (number : ℕ) (s : CostSaid) (error : DrnError) → end_fault number s.said ≡ Some error → is_common error.cause ≡ false → cost_end_fault number s ≡ Some error
fault_other number s error e f = rw (e, f) refl

pub no_want : (cause : DrnCause) → is_common cause ≡ true → cause ≢ Memory
no_want cause e f = both_ways (is_common cause) (ap is_common f) e

-- ---- what the text stands for

pub costs_given : (asked : Asked) (text : List ℕ) (number : ℕ) (s : CostSaid) (m : ModelData) (cs : List CostData) → drn_costs text asked ≡ cost_ended number s → cost_end_fault number s ≡ None
    → m ≡ model s.said → cs ≡ s.rewards.costs → drn_costs text asked ≡ Ok (m, cs)
costs_given asked text number s m cs e f g h = e ∙ ended_by (cost_end_fault number s) f ∙ ap (λ (n : ModelData). Ok (n, s.rewards.costs)) (sym g) ∙ ap (λ (k : List CostData). Ok (m, k)) (sym h)
  where
    ended_by : (fault : Option DrnError) → fault ≡ None → ◌≡◌ {A = Result (ModelData × List CostData) DrnError} (elim fault [ Some error ↦ Err error | None ↦ Ok (model s.said, s.rewards.costs) ]) (Ok (model s.said, s.rewards.costs))
    ended_by None x = refl
    ended_by (Some error) x = cc

pub costs_refused : (asked : Asked) (text : List ℕ) (number : ℕ) (s : CostSaid) (error : DrnError) → drn_costs text asked ≡ cost_ended number s → cost_end_fault number s ≡ Some error → drn_costs text asked ≡ Err error
costs_refused asked text number s error e f = e ∙ ended_by (cost_end_fault number s) f
  where
    ended_by : (fault : Option DrnError) → fault ≡ Some error → ◌≡◌ {A = Result (ModelData × List CostData) DrnError} (elim fault [ Some error ↦ Err error | None ↦ Ok (model s.said, s.rewards.costs) ]) (Err error)
    ended_by None x = cc
    ended_by (Some other) x = ap (λ (o : Option DrnError). elim o as (λ o. Result (ModelData × List CostData) DrnError) [ Some e ↦ Err e | None ↦ Ok (model s.said, s.rewards.costs) ]) x

-- a reader that has said nothing keeps the reward that is asked for
pub asks : (asked : Asked) (s : CostSaid) → s ≡ cost_said asked [] → asked_of asked.label s ≡ asked
unfolding cost_said
asks asked s e = ap (λ (k : CostSaid). asked_of asked.label k) e
