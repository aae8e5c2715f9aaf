-- What plain lines ask for.
use Rattle.std.proofs.Common.{◌≡◌, ◌||◌, ℕ, List, [], ◌∷◌, Bool, true, false, None, Some, Ok, Err, Result, codes, drop, refl, subst}
use Rattle.std.specs.Prelude.{⊤, option_and_then, is_some, if◌then◌else◌}
use Rattle.std.specs.Option.{ok_or, unwrap_or}
use Rattle.std.specs.declared.option.Option.{Option}
use Rattle.clap.specs.Words.{first_value}
use Rattle.clap.specs.declared.parser.matches.Found.{Found}
use Rattle.lift_grid.specs.Rectangle.{most_halvings}
use Rattle.lift_grid.specs.Region.{◌>>=◌}
use Rattle.corner_lift.specs.Case.{most_precision}
use Rattle.lift_cert.specs.declared.bound.Bound.{Bound}
use Rattle.plift_words.specs.Line.{is_lumped, is_property, is_cost, is_asking, is_check, is_migrate, depth_behind, word_behind, is_plain, options, value_of}
use Rattle.plift_words.specs.Values.{goal_of, reward_of, bound_of, cap_of, budget_of, option_number, steps_of, blocks_of}
use Rattle.plift_words.specs.Job.{JobData, from_in, query_in, limits_in, verify_job, formula_field, formula_in, property_job, cost_job, asking_job, blocks_job, refine_job, other_job, job}
use Rattle.plift_words.specs.Given.{IsOfVerify}
use Rattle.lift_cost.specs.declared.question.Budget.{Budget}
use Rattle.plift_words.specs.declared.query.CostLimits.{CostLimits}
use Rattle.plift_words.specs.declared.query.Query.TheVariants as query
use Rattle.property_text.specs.Formula.{FormulaData, formula_of}
use Rattle.property_text.specs.declared.error.FormulaError.{FormulaError}
use Rattle.property_text.specs.declared.error.FormulaError.TheVariants as error
use Rattle.plift_words.specs.Parser.{HasValues}
use Rattle.plift_words.specs.declared.job.Field.{Field}
use Rattle.plift_words.specs.declared.job.Field.TheVariants as field

-- the job of the values
abbrev job_by : Bool → Option (List ℕ) → Option Bound → List ℕ → Option ℕ → Option ℕ → Option (List ℕ) → Option (List ℕ) → Result JobData Field
job_by lumps goal bound region depth precision steps from = do
  goal ← ok_or goal field.Goal
  bound ← ok_or bound field.Bound
  depth ← ok_or depth field.Depth
  precision ← ok_or precision field.Precision
  asked ← query_in bound lumps precision steps from
  Ok (JobData.verify (record { goal = goal; safe = None; reward = None; region = region; depth = depth; precision = precision; query = asked }))

of_steps : (lumps : Bool) (goal : List ℕ) (bound : Bound) (region : List ℕ) (depth precision : ℕ) (word : List ℕ) (from : Option (List ℕ)) (steps : Option ℕ) → steps_of word ≡ steps
    → IsOfVerify (job_by lumps (Some goal) (Some bound) region (Some depth) (Some precision) (Some word) from)
of_steps l g b r d p word v (Some h) is = rw is tt
of_steps l g b r d p word v None is = rw is tt

of_from : (goal : List ℕ) (bound : Bound) (region : List ℕ) (depth precision : ℕ) (word : List ℕ) (from : Option ℕ) → option_number 1 precision word ≡ from
    → IsOfVerify (job_by false (Some goal) (Some bound) region (Some depth) (Some precision) None (Some word))
of_from g b r d p word (Some v) is = rw is tt
of_from g b r d p word None is = rw is tt

-- it is that of such a line
of_verify : (lumps : Bool) (goal : Option (List ℕ)) (bound : Option Bound) (region : List ℕ) (depth precision : Option ℕ) (steps from : Option (List ℕ))
    → IsOfVerify (job_by lumps goal bound region depth precision steps from)
of_verify true (Some g) (Some b) r (Some d) (Some p) None v = tt
of_verify false (Some g) (Some b) r (Some d) (Some p) None None = tt
of_verify false (Some g) (Some b) r (Some d) (Some p) None (Some word) = of_from g b r d p word (option_number 1 p word) refl
of_verify l (Some g) (Some b) r (Some d) (Some p) (Some word) v = of_steps l g b r d p word v (steps_of word) refl
of_verify l None b r d p h v = tt
of_verify l (Some g) None r d p h v = tt
of_verify l (Some g) (Some b) r None p h v = tt
of_verify l (Some g) (Some b) r (Some d) None h v = tt

-- the job of the values of a line of `property`
abbrev property_by : Result FormulaData Field → List ℕ → Option ℕ → Option ℕ → Option (List ℕ) → Result JobData Field
property_by formula region depth precision from = do
  formula ← formula
  depth ← ok_or depth field.Depth
  precision ← ok_or precision field.Precision
  least ← from_in precision from
  Ok (JobData.verify (record { goal = formula.goal; safe = formula.safe; reward = None; region = region; depth = depth; precision = precision; query = query.Property formula.bound formula.op least }))

of_range : (f : FormulaData) (region : List ℕ) (depth precision : ℕ) (word : List ℕ) (from : Option ℕ) → option_number 1 precision word ≡ from
    → IsOfVerify (property_by (Ok f) region (Some depth) (Some precision) (Some word))
of_range f r d p word (Some v) is = rw is tt
of_range f r d p word None is = rw is tt

of_formula : (f : Result FormulaData FormulaError) (region : List ℕ) (depth precision : Option ℕ) (from : Option (List ℕ)) → IsOfVerify (property_by (formula_field f) region depth precision from)
of_formula (Ok f) r (Some d) (Some p) None = tt
of_formula (Ok f) r (Some d) (Some p) (Some word) = of_range f r d p word (option_number 1 p word) refl
of_formula (Ok f) r None p v = tt
of_formula (Ok f) r (Some d) None v = tt
of_formula (Err error.Syntax) r d p v = tt
of_formula (Err error.Bound) r d p v = tt
of_formula (Err error.Memory) r d p v = tt

of_property : (word : Option (List ℕ)) (region : List ℕ) (depth precision : Option ℕ) (from : Option (List ℕ)) → IsOfVerify (property_by (formula_in word) region depth precision from)
of_property None r d p v = tt
of_property (Some word) r d p v = of_formula (formula_of word) r d p v

-- the job of the values of a line of `cost`
abbrev cost_by : Option (List ℕ) → List ℕ → Option ℕ → Option ℕ → Option (List ℕ) → Option (List ℕ) → Option (List ℕ) → Result JobData Field
cost_by goal region depth precision reward cap budget = do
  goal ← ok_or goal field.Goal
  depth ← ok_or depth field.Depth
  precision ← ok_or precision field.Precision
  reward ← ok_or reward field.Reward
  limits ← limits_in cap budget
  Ok (JobData.verify (record { goal = goal; safe = None; reward = Some reward; region = region; depth = depth; precision = precision; query = query.Cost limits }))

-- the limits are some, or the cap or the budget is at fault
abbrev IsOfLimits : Result CostLimits Field → Type 0
IsOfLimits (Ok limits) = ⊤
IsOfLimits (Err field.Cap) = ⊤
IsOfLimits (Err field.Budget) = ⊤
IsOfLimits (Err _) = ⊥

limits_of : (cap : Option ℕ) (budget : ℕ → Option Budget) → IsOfLimits (ok_or cap field.Cap >>= λ most. ok_or (budget most) field.Budget >>= λ paid. Ok (record { cap = most; budget = paid }))
limits_of None budget = tt
limits_of (Some most) budget = by (budget most)
  where
    by : (paid : Option Budget) → IsOfLimits (ok_or paid field.Budget >>= λ paid. Ok (record { cap = most; budget = paid }))
    by None = tt
    by (Some paid) = tt

with_limits : (goal : List ℕ) (region : List ℕ) (depth precision : ℕ) (reward : List ℕ) (limits : Result CostLimits Field) → IsOfLimits limits
    → IsOfVerify (limits >>= λ l. Ok (JobData.verify (record { goal = goal; safe = None; reward = Some reward; region = region; depth = depth; precision = precision; query = query.Cost l })))
with_limits g r d p n (Ok limits) h = tt
with_limits g r d p n (Err field.Cap) h = tt
with_limits g r d p n (Err field.Budget) h = tt
with_limits g r d p n (Err _) h = absurd h

of_cost : (goal : Option (List ℕ)) (region : List ℕ) (depth precision : Option ℕ) (reward cap budget : Option (List ℕ)) → IsOfVerify (cost_by goal region depth precision reward cap budget)
of_cost None r d p n c b = tt
of_cost (Some g) r None p n c b = tt
of_cost (Some g) r (Some d) None n c b = tt
of_cost (Some g) r (Some d) (Some p) None c b = tt
of_cost (Some g) r (Some d) (Some p) (Some n) c b = with_limits g r d p n (limits_in c b) (limits_of (option_and_then cap_of c) (λ most. option_and_then (budget_of most) b))

-- the job of the words as a line of one of the five
abbrev verified : List (List ℕ) → Result JobData Field
verified words = asking_job words (λ name. value_of name (options (drop 1 words)))

either_of : (b : Bool) (x y : Result JobData Field) → IsOfVerify x → IsOfVerify y → IsOfVerify (if b then x else y)
either_of true x y h k = h
either_of false x y h k = k

of_verified : (words : List (List ℕ)) → IsOfVerify (verified words)
of_verified words =
    let value = λ (name : List ℕ). value_of name (options (drop 1 words)) in
    let region = unwrap_or (value (codes "--region")) [] in
    let depth = option_number 0 most_halvings (unwrap_or (value (codes "--depth")) (codes "0")) in
    let precision = option_number 1 most_precision (unwrap_or (value (codes "--precision")) (codes "24")) in
    either_of (is_property words) (property_job value) (if is_cost words then cost_job value else verify_job (is_lumped words) value)
    (of_property (value (codes "--formula")) region depth precision (value (codes "--from")))
    (either_of (is_cost words) (cost_job value) (verify_job (is_lumped words) value)
    (of_cost (option_and_then goal_of (value (codes "--goal"))) region depth precision (option_and_then reward_of (value (codes "--reward"))) (value (codes "--cap")) (value (codes "--budget")))
    (of_verify (is_lumped words) (option_and_then goal_of (value (codes "--goal"))) (option_and_then bound_of (value (codes "--bound"))) region depth precision (value (codes "--steps")) (value (codes "--from"))))

of_first : (b : Bool) (x y : Result JobData Field) → b ≡ true → IsOfVerify x → IsOfVerify (if b then x else y)
of_first true x y e h = h
of_first false x y e h = absurd (cc)

-- the job of a plain line of `verify`, `bounded`, `lumped`, `property` or `cost`
pub verify_lines : (words : List (List ℕ)) → is_asking words ≡ true → IsOfVerify (job words)
verify_lines words e = of_first (is_asking words) (verified words) (other_job words) e (of_verified words)

-- the values that the parser found on a plain line make its job
pub found_job : (words : List (List ℕ)) (found : Found) → is_asking words ≡ true → HasValues found (options (drop 1 words)) → job words ≡ asking_job words (λ name. first_value found (drop 2 name))
found_job [] found e h = absurd (cc)
found_job (command ∷ words) found e h =
    rw (
      e,
      h (codes "--goal") refl,
      h (codes "--bound") refl,
      h (codes "--region") refl,
      h (codes "--depth") refl,
      h (codes "--precision") refl,
      h (codes "--steps") refl,
      h (codes "--from") refl,
      h (codes "--formula") refl,
      h (codes "--reward") refl,
      h (codes "--budget") refl,
      h (codes "--cap") refl,
    ) refl

-- ---- lines of the other commands

-- the job of a line, by its tests
abbrev job_of : Result JobData Field → Bool → Bool → Bool → Option (List ℕ) → Option (List ℕ) → Option (List ℕ) → Result JobData Field
job_of verified verifies checks migrates refines generates tests = if verifies then verified else if checks then Ok JobData.check else if migrates then Ok JobData.migrate else (elim refines [
  | Some word ↦ refine_job word
  | None ↦ elim generates [
    | Some word ↦ blocks_job JobData.generate word
    | None ↦ elim tests [ Some word ↦ blocks_job JobData.selftest word | None ↦ Err field.Words ]
  ]
])

-- a number of blocks is never at fault as a whole line
blocks_never : (make : ℕ → JobData) (blocks : Option ℕ) → (ok_or blocks field.Blocks >>= λ n. Ok (make n)) ≡ Err field.Words → ⊥
blocks_never make None e = absurd (cc)
blocks_never make (Some n) e = absurd (cc)

-- nor is a depth
depth_never : (depth : Option ℕ) → (ok_or depth field.Depth >>= λ n. Ok (JobData.refine n)) ≡ Err field.Words → ⊥
depth_never None e = absurd (cc)
depth_never (Some n) e = absurd (cc)

others_by : (verified : Result JobData Field) (verifies checks migrates : Bool) (refines generates tests : Option (List ℕ))
    → (verifies || checks || migrates || is_some refines || is_some generates || is_some tests) ≡ false → job_of verified verifies checks migrates refines generates tests ≡ Err field.Words
others_by v true c m r g t e = absurd (cc)
others_by v false true m r g t e = absurd (cc)
others_by v false false true r g t e = absurd (cc)
others_by v false false false (Some w) g t e = absurd (cc)
others_by v false false false None (Some w) t e = absurd (cc)
others_by v false false false None None (Some w) e = absurd (cc)
others_by v false false false None None None e = refl

plain_by : (verified : Result JobData Field) (verifies checks migrates : Bool) (refines generates tests : Option (List ℕ))
    → (verified ≡ Err field.Words → ⊥) → job_of verified verifies checks migrates refines generates tests ≡ Err field.Words → (verifies || checks || migrates || is_some refines || is_some generates || is_some tests) ≡ false
plain_by v true c m r g t never e = absurd (never e)
plain_by v false true m r g t never e = absurd (cc)
plain_by v false false true r g t never e = absurd (cc)
plain_by v false false false (Some w) g t never e = absurd (depth_never (option_number 1 most_halvings w) e)
plain_by v false false false None (Some w) t never e = absurd (blocks_never JobData.generate (blocks_of w) e)
plain_by v false false false None None (Some w) never e = absurd (blocks_never JobData.selftest (blocks_of w) e)
plain_by v false false false None None None never e = refl

pub others_at_fault : (words : List (List ℕ)) → is_plain words ≡ false → job words ≡ Err field.Words
others_at_fault words e =
    others_by (verified words) (is_asking words) (is_check words) (is_migrate words) (depth_behind (codes "refine") words) (word_behind (codes "generate") words) (word_behind (codes "selftest") words) e

pub plain_never : (words : List (List ℕ)) → job words ≡ Err field.Words → is_plain words ≡ false
plain_never words e =
    plain_by (verified words) (is_asking words) (is_check words) (is_migrate words) (depth_behind (codes "refine") words) (word_behind (codes "generate") words) (word_behind (codes "selftest") words)
    (λ is. subst IsOfVerify is (of_verified words)) e
