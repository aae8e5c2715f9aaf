use Rattle.cert_text.proofs.SecondLines.{second_text}
use Rattle.cert_text.proofs.migrate.migrate_text.Goals as goal

pub returns : goal.returns
returns g c new m = rw (second_text c.args.text.now new m) at (rw c.precision_of.ensures at c.write_lines.ensures)
