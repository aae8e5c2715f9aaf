use Rattle.std.proofs.Common.{sym, ap, ◌∙◌}
use Rattle.std.specs.Option.{option_map}
use Rattle.std.specs.Str.Parse.{digits_value}
use Rattle.line_text.specs.Words.{number_of}
use Rattle.line_text.specs.Parts.{first}
use Rattle.line_text.proofs.ShortNumbers.{digits_number, first_is}
use Rattle.line_text.proofs.words.Words.short.Goals as goal

pub returns : goal.returns
returns c =
    let word = c.cut-rest.result.0.now in
    let rest = c.cut-rest.result.1 in
    let short = c.front_digits-short.result.0 in
    let first_word = ap first c.in_ok-text.ensures.some ∙ c.cut-rest.ensures.first in
    let writes = digits_number word short (rw c.cut-rest.ensures.word (c.is_word.ensures.digits c.if-not-is_word.false)) (c.front_digits-short.ensures.value ∙ ap (λ w. digits_value 10 w) (sym c.cut-rest.ensures.word)) in
    first_is number_of c.args.self.now rest word first_word ∙ ap (option_map (λ x. (x, rest))) writes
