-- What reading the command line gives, without where it lies in memory.
use Rattle.std.specs.Prelude.{◌≡◌, ⊤, ℕ, List, String, string_bytes, map, Ok, Err, Result, option_map}
use Rattle.std.specs.Option.{option_copied}
use Rattle.std.specs.declared.alloc.Global.{Global}
use Rattle.plift_words.specs.Line as line
use Rattle.plift_words.specs.Job.{JobData, VerifyData, job}
use Rattle.plift_words.specs.declared.line.Setting.{Setting}
use Rattle.plift_words.specs.declared.line.Form.{Form}
use Rattle.plift_words.specs.declared.job.Job.{Job}
use Rattle.plift_words.specs.declared.job.Job.TheVariants as code
use Rattle.plift_words.specs.declared.job.VerifyJob.{VerifyJob}
use Rattle.plift_words.specs.declared.job.Field.{Field}
use Rattle.plift_words.specs.declared.job.Field.TheVariants as field
use Rattle.plift_words.specs.declared.error.WordsError.{WordsError}
use Rattle.plift_words.specs.declared.error.WordsError.TheVariants as error

-- an option
abbrev pub setting_of : Setting → line.Setting
setting_of s = record { name = s.name.now; value = option_map (λ v. v.now) s.value }

-- the options that have to stand behind a command
abbrev pub must_of : Form → List (List ℕ)
must_of f = map (λ name. name.now) f.must.now

-- those that may
abbrev pub may_of : Form → List (List ℕ)
may_of f = map (λ name. name.now) f.may.now

-- the job that some words ask for, or their part at fault
abbrev pub asked : List (String Global) → Result JobData Field
asked words = job (map string_bytes words)

-- what is to be verified
abbrev pub verify_data : VerifyJob → VerifyData
verify_data j = record { goal = j.goal.now; safe = option_copied j.safe; reward = option_copied j.reward; region = j.region.now; depth = j.depth; precision = j.precision; query = j.query }

-- a job
abbrev pub job_data : Job → JobData
job_data (code.Verify j) = JobData.verify (verify_data j)
job_data code.Check = JobData.check
job_data code.Migrate = JobData.migrate
job_data (code.Refine j) = JobData.refine j.depth
job_data (code.Generate ladder) = JobData.generate ladder.blocks
job_data (code.Selftest ladder) = JobData.selftest ladder.blocks

-- the job of some values, or the one at fault
abbrev pub answer_data : Result Job Field → Result JobData Field
answer_data (Ok j) = Ok (job_data j)
answer_data (Err f) = Err f

-- a line of `verify`, `bounded`, `lumped`, `property` or `cost`: it asks to verify, or a value of it is at fault
abbrev pub IsOfVerify : Result JobData Field → Type 0
IsOfVerify (Ok (JobData.verify j)) = ⊤
IsOfVerify (Err field.Goal) = ⊤
IsOfVerify (Err field.Bound) = ⊤
IsOfVerify (Err field.Depth) = ⊤
IsOfVerify (Err field.Precision) = ⊤
IsOfVerify (Err field.Steps) = ⊤
IsOfVerify (Err field.From) = ⊤
IsOfVerify (Err field.Formula) = ⊤
IsOfVerify (Err field.FormulaBound) = ⊤
IsOfVerify (Err field.Reward) = ⊤
IsOfVerify (Err field.Cap) = ⊤
IsOfVerify (Err field.Budget) = ⊤
IsOfVerify _ = ⊥

-- The answer to a line: the job that it asks for, or its part at fault. Want of memory comes only where it is a plain line of `verify`, `bounded`, `lumped`, `property` or `cost`.
abbrev pub Asks : Result JobData Field → Result Job WordsError → Type 0
Asks asked (Ok j) = asked ≡ Ok (job_data j)
Asks asked (Err (error.Usage f)) = asked ≡ Err f
Asks asked (Err error.Memory) = IsOfVerify asked
