use Rattle.std.proofs.Common.{append-nil, ne_eqb}
use Rattle.view_text.proofs.Numbers.{divided}
use Rattle.view_text.proofs.fraction.write_divisor.Goals as goal

pub returns : goal.returns
returns g c = rw (divided c.args.den (ne_eqb c.args.den 1 c.if-den-eq1.false)) (rw append-nil at c.write_words.ensures)
