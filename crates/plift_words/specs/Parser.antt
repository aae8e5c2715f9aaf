-- What the parser of command lines is told of the options, and what it gives.
use Rattle.std.specs.Prelude.{◌≡◌, ℕ, List, [], ◌∷◌, Some, codes, drop, true}
use Rattle.std.specs.List.{fold}
use Rattle.clap.specs.Words.{App, Rule, Text, new_app, new_rule, with_rule, first_value}
use Rattle.clap.specs.declared.builder.action.ArgAction.TheVariants.{Set}
use Rattle.clap.specs.declared.parser.matches.Found.{Found}
use Rattle.plift_words.specs.Line.{Setting, value_of, is_among}

-- an option that takes a value
abbrev pub option : Text → Rule
option name = record (new_rule name) { long = Some name; action = Some Set }

-- the options of all commands that ask; which of them may stand in a line, and which have to, is told by the plain lines
abbrev pub option_names : List Text
option_names = codes "--goal" ∷ codes "--bound" ∷ codes "--region" ∷ codes "--depth" ∷ codes "--precision" ∷ codes "--steps" ∷ codes "--from" ∷ codes "--formula" ∷ codes "--reward" ∷ codes "--budget" ∷ codes "--cap" ∷ []

-- the command with these options, each known by what stands behind its dashes
unfoldable pub verify_app : App
verify_app = fold (λ app name. with_rule app (option (drop 2 name))) (new_app (codes "verify")) option_names

-- the values that the parser found are those of the options
abbrev pub HasValues : Found → List Setting → Type 0
HasValues found settings = (name : List ℕ) → is_among option_names name ≡ true → first_value found (drop 2 name) ≡ value_of name settings
