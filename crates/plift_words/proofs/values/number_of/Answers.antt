use Rattle.std.proofs.Common.{rules, arith, ◌∙◌, sym}
use Rattle.plift_words.proofs.Numbers.{few_digits}
use Rattle.plift_words.proofs.values.number_of.Goals as goal

pub returns : goal.returns
returns c =
    c.ok.ensures.value ∙ few_digits c.args.most c.args.word.now c.parse.result c.parse.ensures.value.0 (search rules) (sym c.if-is_empty.ensures) c.requires (omega arith)
