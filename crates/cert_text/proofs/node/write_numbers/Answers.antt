use Rattle.std.proofs.Common.{codes}
use Rattle.std.specs.Fmt.{signed_decimal}
use Rattle.cert_text.proofs.Lines.{line-words}
use Rattle.cert_text.proofs.node.write_numbers.Goals as goal

pub returns : goal.returns
returns g c = rw (line-words signed_decimal (codes "y") c.args.y.now) c.write_words.ensures
