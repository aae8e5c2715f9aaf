use Rattle.std.specs.Fmt.{signed_decimal}
use Rattle.property_tree.proofs.Texts.{line-words}
use Rattle.property_tree.proofs.writers.write_numbers.Goals as goal

pub returns : goal.returns
returns g c = rw (line-words signed_decimal c.args.key.now c.args.numbers.now) c.write_words.ensures
