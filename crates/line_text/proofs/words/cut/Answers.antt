use Rattle.std.proofs.Common.{take, Ok, sym, ap, ◌∙◌, arith}
use Rattle.line_text.proofs.WordsLeft.{last_word, first_word}
use Rattle.line_text.proofs.words.cut.Goals as goal

pub returns-then-len-text-clause-first : goal.returns-then-len-text-clause-first
returns-then-len-text-clause-first c = last_word c.args.text.now c.args.len c.requires.len c.if-len-text.true

pub returns-clause-first : goal.returns-clause-first
returns-clause-first c =
    first_word c.args.text.now c.args.len c.requires.len (omega (arith, c.requires.within, c.if-len-text.false))
    ∙ ap (λ rest. Ok (take c.args.len c.args.text.now, rest)) (sym c.of.ensures)
