-- What reading the command line gives, without where it lies in memory.
use Rattle.std.specs.Prelude.{◌≡◌, ⊤, map, Ok, Err, Result, option_map}
use Rattle.view_words.specs.Words.{WishData, ViewData, JobData}
use Rattle.view_words.specs.declared.job.Wish.{Wish}
use Rattle.view_words.specs.declared.job.View.{View}
use Rattle.view_words.specs.declared.job.View.TheVariants.{Picture, Summary}
use Rattle.view_words.specs.declared.job.Job.{Job}
use Rattle.view_words.specs.declared.job.Job.TheVariants.{Show, Follow}
use Rattle.view_words.specs.declared.job.Usage.{Usage}
use Rattle.view_words.specs.declared.error.WordsError.{WordsError}
use Rattle.view_words.specs.declared.error.WordsError.TheVariants as error

-- what a picture is to show
abbrev pub wish_data : Wish → WishData
wish_data w = record { x = option_map (λ v. v.now) w.x; y = option_map (λ v. v.now) w.y; at = map (λ v. v.now) w.at.items }

-- how a report is shown
abbrev pub view_data : View → ViewData
view_data (Picture w) = ViewData.picture (wish_data w)
view_data Summary = ViewData.summary

-- a job
abbrev pub job_data : Job → JobData
job_data (Show v) = JobData.show (view_data v)
job_data Follow = JobData.follow

-- The answer to a line: the job that it asks for, or its part at fault, or want of memory.
abbrev pub Asks : Result JobData Usage → Result Job WordsError → Type 0
Asks asked (Ok j) = asked ≡ Ok (job_data j)
Asks asked (Err (error.Usage fault)) = asked ≡ Err fault
Asks asked (Err error.Memory) = ⊤
