-- An application with one option after another.
use Rattle.std.proofs.Common.{◌≡◌, ap, ◌∙◌, Result, Ok, Err, IfOk}
use Rattle.clap.specs.Words.{App, Text, app_of, with_rule}
use Rattle.clap.specs.declared.builder.command.Command.{Command}
use Rattle.plift_words.specs.Parser.{option}

-- with one more
pub with_more : (app before reported : App) (name : Text) → app ≡ with_rule before (option name) → before ≡ reported → app ≡ with_rule reported (option name)
with_more app before reported name h e = h ∙ ap (λ (a : App). with_rule a (option name)) e

-- with the last one
pub with_last : {E : Type 0} (before reported : App) (name : Text) (result : Result Command E) → IfOk result (λ c. app_of c ≡ with_rule before (option name)) → before ≡ reported → IfOk result (λ c. app_of c ≡ with_rule reported (option name))
with_last before reported name (Ok c) h e = with_more (app_of c) before reported name h e
with_last before reported name (Err f) h e = tt
