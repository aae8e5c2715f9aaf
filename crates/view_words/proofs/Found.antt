-- What was found in the words.
use Rattle.std.proofs.Common.{◌≡◌, List, [], map, Option, Some, None, Ok, Err, Result, Vec, refl, sym, ap, ◌∙◌}
use Rattle.std.specs.Prelude.{IfOk, unwrap_or, option_map}
use Rattle.std.specs.Option.{ok_or}
use Rattle.std.specs.Borrow.{Bor}
use Rattle.std.specs.declared.alloc.Global.{Global}
use Rattle.clap.specs.Words.{Row, Text, fault_of, matches_of}
use Rattle.view_words.specs.Words.{JobData, view_app, job, job_in}
use Rattle.view_words.specs.Given.{Asks, job_data}
use Rattle.view_words.specs.declared.job.Job.{Job}
use Rattle.view_words.specs.declared.job.Usage.TheVariants.{Words}
use Rattle.view_words.specs.declared.error.WordsError.{WordsError}
use Rattle.view_words.specs.declared.error.WordsError.TheVariants as error

-- a copy of the values
pub copied : {E : Type 0} (r : Result (Vec (Bor Text) Global) E) (xs : List (Bor Text)) (all : Option (List Text)) → Some (map (λ (v : Bor Text). v.now) xs) ≡ all
    → IfOk r (λ v. v.items ≡ xs) → IfOk r (λ v. map (λ v. v.now) v.items ≡ unwrap_or all [])
copied (Err e) xs all is h = tt
copied (Ok v) xs all is h = ap (map (λ (v : Bor Text). v.now)) h ∙ ap (λ (o : Option (List Text)). unwrap_or o []) is

-- what is asked for where the parser tells no fault
asked : (words : List Text) (rows : List Row) → fault_of view_app words ≡ [] → rows ≡ matches_of view_app words → job words ≡ ok_or (job_in rows) Words
asked words rows none is = rw (none, is) refl

pub asks_for : (words : List Text) (rows : List Row) (found : Option Job) (r : Result Job WordsError) → fault_of view_app words ≡ [] → rows ≡ matches_of view_app words
    → option_map job_data found ≡ job_in rows → r ≡ ok_or found (error.Usage Words) → Asks (job words) r
asks_for words rows (Some j) r none is found made = rw made (asked words rows none is ∙ ap (λ (o : Option JobData). ok_or o Words) (sym found))
asks_for words rows None r none is found made = rw made (asked words rows none is ∙ ap (λ (o : Option JobData). ok_or o Words) (sym found))
