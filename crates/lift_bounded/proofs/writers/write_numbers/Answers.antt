use Rattle.std.specs.Fmt.{signed_decimal}
use Rattle.lift_bounded.proofs.Texts.{step-line}
use Rattle.lift_bounded.proofs.writers.write_numbers.Goals as goal

pub returns : goal.returns
returns g c = rw (step-line signed_decimal c.args.key.now c.args.n c.args.numbers.now) (rw c.from.ensures at c.write_words.ensures)
