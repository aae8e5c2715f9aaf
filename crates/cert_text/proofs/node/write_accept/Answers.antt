use Rattle.std.proofs.Common.{codes}
use Rattle.std.specs.Fmt.{signed_decimal}
use Rattle.cert_text.proofs.Lines.{line-words}
use Rattle.cert_text.proofs.node.write_accept.Goals as goal

pub returns : goal.returns
returns g c = rw (line-words signed_decimal (codes "accept") c.args.x.now) c.write_words.ensures
