use Rattle.std.proofs.Common.{Some, sym, ap, ◌∙◌}
use Rattle.std.specs.Option.{option_map}
use Rattle.std.specs.Str.Parse.{digits_value}
use Rattle.line_text.specs.Words.{number_of}
use Rattle.line_text.specs.Parts.{first}
use Rattle.line_text.proofs.ShortNumbers.{digits_number, first_is}
use Rattle.line_text.proofs.words.Words.number.Goals as goal

pub of_few-requires-clause-digits : goal.of_few-requires-clause-digits
of_few-requires-clause-digits c = rw c.cut-rest.ensures.word (c.is_word.ensures.digits c.if-is_word.true)

pub of_few-requires-clause-value : goal.of_few-requires-clause-value
of_few-requires-clause-value c = c.front_digits-short.ensures.value ∙ ap (λ w. digits_value 10 w) (sym c.cut-rest.ensures.word)

pub returns-then-is_word : goal.returns-then-is_word
returns-then-is_word c =
    let word = c.cut-rest.result.0.now in
    let rest = c.cut-rest.result.1 in
    let short = c.front_digits-short.result.0 in
    let first_word = ap first c.in_ok-text.ensures.some ∙ c.cut-rest.ensures.first in
    let writes = digits_number word short (rw c.cut-rest.ensures.word (c.is_word.ensures.digits c.if-is_word.true)) (c.front_digits-short.ensures.value ∙ ap (λ w. digits_value 10 w) (sym c.cut-rest.ensures.word)) in
    ap (λ z. Some (z, rest)) c.of_few.ensures ∙ sym (first_is number_of c.args.self.now rest word first_word ∙ ap (option_map (λ x. (x, rest))) writes)
