-- The model that a job asks of a text, by the models that the text stands for.
use Rattle.std.proofs.Common.{◌≡◌, ◌≢◌, ℕ, Bool, List, [], None, Some, Ok, Err, refl, sym, ap, ap₂, ◌∙◌, subst, Result, IsErrAnd, IfErr}
use Rattle.std.specs.declared.option.Option.{Option}
use Rattle.lift_grid.specs.Region.{◌>>=◌}
use Rattle.lift_model.specs.Model.{ModelData}
use Rattle.lift_costs.specs.Costs.{CostData}
use Rattle.drn_read.specs.Reading.{drn}
use Rattle.drn_read.specs.Costs.{drn_costs}
use Rattle.drn_read.specs.declared.error.DrnCause.{DrnCause}
use Rattle.drn_read.specs.declared.error.DrnCause.TheVariants as cause
use Rattle.drn_read.specs.declared.error.DrnError.{DrnError}
use Rattle.property_text.specs.Restricted.{restricted}
use Rattle.plift_words.specs.Job.{VerifyData}
use Rattle.plift_top.specs.Asked.{AskedModel, uncut, cut, safe_in, safe_model, costed_model, asked_model, verified_model}
use Rattle.plift_top.specs.Refused.{model_refusal}
use Rattle.plift_top.specs.Steps.{IsModelOf, IsTextFault, without_costs}
use Rattle.plift_top.specs.declared.costed.CostedModel.{CostedModel}
use Rattle.plift_top.specs.declared.refusal.Refusal.{Refusal}
use Rattle.plift_top.specs.declared.refusal.Refusal.TheVariants as refusal
use Rattle.plift_top.proofs.Errors.{at_error}

-- what comes to two values comes to one
pub ok_same : {A E : Type 0} (r : Result A E) (a b : A) → r ≡ Ok a → r ≡ Ok b → a ≡ b
ok_same (Ok x) a b p q = (let first : x ≡ a = cc in let second : x ≡ b = cc in sym first ∙ second)
ok_same (Err e) a b p q = absurd (cc)

-- a model with these states as the safe ones
abbrev with_safe : ModelData → Option (List Bool) → AskedModel
with_safe m safe = record { read = m; safe = safe; costs = [] }

-- the same, or why the states aren't given
abbrev by_safe : ModelData → Result (Option (List Bool)) DrnError → Result AskedModel DrnError
by_safe m safe = safe >>= λ s. Ok (with_safe m s)

-- ---- faults

-- a text that is refused, where it isn't for want of memory
text_fault : {A : Type 0} (right : Result A DrnError) (line : ℕ) (c : DrnCause) → (c ≢ cause.Memory → right ≡ Err (record { line = line; cause = c })) → IsTextFault right (model_refusal (record { line = line; cause = c }))
text_fault right line cause.Memory h = tt
text_fault right line _ h = h (λ e. absurd (cc))

pub faulty : {A T : Type 0} (right : Result A DrnError) (error : DrnError) (result : Result T Refusal) → IsErrAnd result (λ e. e ≡ model_refusal error) → (error.cause ≢ cause.Memory → right ≡ Err error) → IfErr result (IsTextFault right)
faulty right error result is h = at_error (λ r. IfErr r (IsTextFault right)) (model_refusal error) result is (text_fault right error.line error.cause h)

-- a fault stays one in what follows
fault_after : {A B : Type 0} (right : Result A DrnError) (f : A → Result B DrnError) (why : Refusal) → IsTextFault right why → IsTextFault (right >>= f) why
fault_after right f (refusal.Model error) h = ap (λ (r : Result _ DrnError). r >>= f) h
fault_after right f refusal.Memory h = tt
fault_after right f _ h = absurd h

-- ---- a label of states

module _ (text label : List ℕ) where
  pub no_states : (error : DrnError) → drn text label ≡ Err error → safe_in text (Some label) ≡ Err error
  no_states error h = ap (λ (r : Result ModelData DrnError). r >>= λ m. Ok (Some m.goal)) h

  pub states_of : (m : ModelData) (states : List Bool) → drn text label ≡ Ok m → states ≡ m.goal → safe_in text (Some label) ≡ Ok (Some states)
  states_of m states h e = ap (λ (r : Result ModelData DrnError). r >>= λ n. Ok (Some n.goal)) h ∙ ap (λ s. Ok (Some s)) (sym e)

-- ---- the whole

-- what is asked of a text, by the reward
abbrev by_reward : VerifyData → List ℕ → Option (List ℕ) → Result AskedModel DrnError
by_reward job text reward = elim reward [ Some name ↦ costed_model text job.goal name | None ↦ safe_model job text ]

module _ (job : VerifyData) (text : List ℕ) (free : job.reward ≡ None) where
  -- by what each label gives
  asked_by : (read : Result ModelData DrnError) (safe : Result (Option (List Bool)) DrnError) → drn text job.goal ≡ read → safe_in text job.safe ≡ safe → asked_model job text ≡ (read >>= λ m. by_safe m safe)
  asked_by read safe p q = ap (by_reward job text) free ∙ ap₂ (λ (r : Result ModelData DrnError) (s : Result (Option (List Bool)) DrnError). r >>= λ m. by_safe m s) p q

  -- the text is refused with the label of the goal states
  pub no_model : (error : DrnError) → drn text job.goal ≡ Err error → verified_model job text ≡ Err error
  no_model error h = ap (λ (r : Result AskedModel DrnError). r >>= λ a. Ok (cut a)) (asked_by (Err error) (safe_in text job.safe) h refl)

  module _ (m : ModelData) (read : drn text job.goal ≡ Ok m) where
    -- without a label of safe states
    pub read_uncut_by : job.safe ≡ None → asked_model job text ≡ Ok (uncut m)
    read_uncut_by none = asked_by (Ok m) (Ok None) read (ap (safe_in text) none)

    pub model_as_read : job.safe ≡ None → IsModelOf job (without_costs m) text
    model_as_read none = record { asked = uncut m; read = read_uncut_by none; after = refl; costs = refl }

    -- with one
    module _ (label : List ℕ) (is : job.safe ≡ Some label) where
      pub model_cut : (safe : List Bool) → safe_in text (Some label) ≡ Ok (Some safe) → (after : ModelData) → after ≡ restricted m safe → IsModelOf job (without_costs after) text
      model_cut safe h after e = record { asked = with_safe m (Some safe); read = asked_by (Ok m) (Ok (Some safe)) read (ap (safe_in text) is ∙ h); after = e; costs = refl }

      pub no_safe_states : (why : Refusal) → IsTextFault (safe_in text (Some label)) why → IsTextFault (verified_model job text) why
      no_safe_states why h =
          let safe = safe_in text (Some label) in
          subst (λ (r : Result AskedModel DrnError). IsTextFault (r >>= λ a. Ok (cut a)) why) (sym (asked_by (Ok m) safe read (ap (safe_in text) is)))
          (fault_after (by_safe m safe) (λ a. Ok (cut a)) why (fault_after safe (λ s. Ok (with_safe m s)) why h))

  -- where neither a label of safe states nor a reward is told, a model is asked as it was read
  pub as_read : job.safe ≡ None → (a : AskedModel) → asked_model job text ≡ Ok a → (m : ModelData) × (drn text job.goal ≡ Ok m) × (a ≡ uncut m)
  as_read none a h = by (drn text job.goal) refl
    where
      by : (read : Result ModelData DrnError) → drn text job.goal ≡ read → (m : ModelData) × (drn text job.goal ≡ Ok m) × (a ≡ uncut m)
      by (Ok m) is = (m, is, ok_same (asked_model job text) a (uncut m) h (read_uncut_by m is none))
      by (Err e) is = (let never : Ok a ≡ Err e = sym h ∙ asked_by (Err e) (Ok None) is (ap (safe_in text) none) in absurd (cc))

-- with costs
module _ (job : VerifyData) (text reward : List ℕ) (is : job.reward ≡ Some reward) where
  costed_by : (found : Result (ModelData × List CostData) DrnError) → drn_costs text (record { label = job.goal; reward = reward }) ≡ found → asked_model job text ≡ (found >>= λ f. Ok (record { read = f.0; safe = None; costs = f.1 }))
  costed_by found h = ap (by_reward job text) is ∙ ap (λ (r : Result (ModelData × List CostData) DrnError). r >>= λ f. Ok (record { read = f.0; safe = None; costs = f.1 })) h

  pub model_costed : (m : ModelData) (costs : List CostData) → drn_costs text (record { label = job.goal; reward = reward }) ≡ Ok (m, costs) → IsModelOf job (record { model = m; costs = costs }) text
  model_costed m costs h = record { asked = record { read = m; safe = None; costs = costs }; read = costed_by (Ok (m, costs)) h; after = refl; costs = refl }

  pub no_costed : (error : DrnError) → drn_costs text (record { label = job.goal; reward = reward }) ≡ Err error → verified_model job text ≡ Err error
  no_costed error h = ap (λ (r : Result AskedModel DrnError). r >>= λ a. Ok (cut a)) (costed_by (Err error) h)

module _ (job : VerifyData) (text : List ℕ) where
  -- the model that is verified is the one that was read, after the cut
  pub verified_is : (m : CostedModel) → IsModelOf job m text → verified_model job text ≡ Ok m.model
  verified_is m is = ap (λ (r : Result AskedModel DrnError). r >>= λ a. Ok (cut a)) is.read ∙ ap (λ (n : ModelData). Ok n) (sym is.after)

  pub verified_of : (a : AskedModel) → asked_model job text ≡ Ok a → verified_model job text ≡ Ok (cut a)
  verified_of a read = ap (λ (r : Result AskedModel DrnError). r >>= λ b. Ok (cut b)) read

pub read_uncut : (job : VerifyData) (text : List ℕ) (m : ModelData) → job.reward ≡ None → job.safe ≡ None → drn text job.goal ≡ Ok m → asked_model job text ≡ Ok (uncut m)
read_uncut job text m free none read = read_uncut_by job text free m read none
