-- What the parser of command lines promises, said of this command.
use Rattle.std.proofs.Common.{◌≡◌, List, Ok, Err, Result, true, refl, ap, ◌∙◌, subst}
use Rattle.std.specs.Prelude.{IfOk}
use Rattle.clap.specs.Words.{App, FailsBy, HasMatchesOf, Text, fault_of, found_of, is_simple, is_simple_and_free, matches_of, rows_of}
use Rattle.clap.specs.declared.error.Error.{Error}
use Rattle.clap.specs.declared.parser.matches.ArgMatches.{ArgMatches}
use Rattle.view_words.specs.Words.{view_app}

simple : is_simple view_app ≡ true
unfolding view_app
simple = refl

free : is_simple_and_free view_app ≡ true
unfolding view_app
free = refl

-- the values that it finds
pub rows_found : (a : App) (words : List Text) (r : Result ArgMatches Error) → a ≡ view_app → IfOk r (HasMatchesOf a words) → IfOk r (λ m. rows_of (found_of m) ≡ matches_of view_app words)
rows_found a words (Err e) is h = tt
rows_found a words (Ok m) is h = (h (ap is_simple is ∙ simple)).0 ∙ ap (λ (b : App). matches_of b words) is

-- how it fails
pub fails_by : (a : App) (words : List Text) (r : Result ArgMatches Error) → a ≡ view_app → (is_simple_and_free a ≡ true → FailsBy (fault_of a words) r) → FailsBy (fault_of view_app words) r
fails_by a words r is h = subst (λ (b : App). FailsBy (fault_of b words) r) is (h (ap is_simple_and_free is ∙ free))
