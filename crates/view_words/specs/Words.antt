-- What a command line asks for: its words are read by the rules of the kit's parser of command lines.
use Rattle.std.specs.Prelude.{List, [], codes, length, ◌==◌, Option, Some, None, Result, Err, Bool, true, false, not, ◌&&◌, is_some, if◌then◌else◌, unwrap_or}
use Rattle.std.specs.Option.{ok_or}
use Rattle.std.specs.Str.{bytes_eq}
use Rattle.clap.specs.Words.{App, Rule, Row, Text, new_app, new_rule, with_rule, first_of, all_of, matches_of, fault_of}
use Rattle.clap.specs.declared.builder.action.ArgAction.{ArgAction}
use Rattle.clap.specs.declared.builder.action.ArgAction.TheVariants.{Set, Append, SetTrue}
use Rattle.view_words.specs.declared.job.Usage.{Usage}
use Rattle.view_words.specs.declared.job.Usage.TheVariants.{Words}

-- an option, by its name without the dashes
abbrev pub option : Text → ArgAction → Rule
option name action = record (new_rule name) { long = Some name; action = Some action }

-- a command whose words don't begin with its own name
abbrev pub without_name : App → App
without_name a = record a { top = record a.top { no_binary_name = true } }

-- the options: --x and --y take a value, --at takes one each time that it stands there, and --summary and --follow take none
unfoldable pub view_app : App
view_app =
    let x = with_rule (without_name (new_app (codes "plift-view"))) (option (codes "x") Set) in
    let y = with_rule x (option (codes "y") Set) in
    let at = with_rule y (option (codes "at") Append) in
    let summary = with_rule at (option (codes "summary") SetTrue) in
    with_rule summary (option (codes "follow") SetTrue)

-- what a picture is to show, as it is written: the names of the parameters on its axes, and values of others
pub record WishData : Type 0 where
  pub x : Option Text
  pub y : Option Text
  pub at : List Text

-- how a report is shown
pub data ViewData : Type 0 where
  -- a slice of its region
  picture : WishData → ViewData
  -- a table of its leaves
  summary : ViewData

-- what a line asks for
pub data JobData : Type 0 where
  -- a report is to be read and shown
  show : ViewData → JobData
  -- a report is to be copied as it comes
  follow : JobData

-- nothing is said of a picture
abbrev pub is_plain : WishData → Bool
is_plain w = not (is_some w.x) && not (is_some w.y) && (length w.at == 0)

-- the flag with that value stands there
abbrev pub is_set : Option Text → Bool
is_set None = false
is_set (Some value) = bytes_eq value (codes "true")

-- a job where nothing else is asked for
abbrev pub alone : WishData → JobData → Option JobData
alone w job = if is_plain w then Some job else None

-- the job of the options that stand there; a flag stands alone
abbrev pub job_by : WishData → Bool → Bool → Option JobData
job_by w false false = Some (show (picture w))
job_by w true false = alone w (show summary)
job_by w false true = alone w follow
job_by w true true = None

-- what is said of a picture, by the values that were found
abbrev pub wish_in : List Row → WishData
wish_in rows = record { x = first_of (codes "x") rows; y = first_of (codes "y") rows; at = unwrap_or (all_of (codes "at") rows) [] }

-- the job, by the values that were found
abbrev pub job_in : List Row → Option JobData
job_in rows = job_by (wish_in rows) (is_set (first_of (codes "summary") rows)) (is_set (first_of (codes "follow") rows))

-- the job that words ask for where the parser tells no fault; else the words are at fault
abbrev pub job : List Text → Result JobData Usage
job words = if length (fault_of view_app words) == 0 then ok_or (job_in (matches_of view_app words)) Words else Err Words
