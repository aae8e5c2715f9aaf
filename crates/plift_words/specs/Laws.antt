-- What lines ask for.
use Rattle.std.specs.Prelude.{◌≡◌, ℕ, false, List, Err}
use Rattle.plift_words.specs.Line.{is_plain}
use Rattle.plift_words.specs.Job.{job}
use Rattle.plift_words.specs.declared.job.Field.TheVariants as field

-- a line is at fault as a whole where it isn't plain
abbrev pub OthersAreAtFault : Type 0
OthersAreAtFault = (words : List (List ℕ)) → is_plain words ≡ false → job words ≡ Err field.Words

-- and nowhere else
abbrev pub PlainLinesAreNot : Type 0
PlainLinesAreNot = (words : List (List ℕ)) → job words ≡ Err field.Words → is_plain words ≡ false
