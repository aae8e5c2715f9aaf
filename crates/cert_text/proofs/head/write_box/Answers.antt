use Rattle.std.proofs.Common.{codes}
use Rattle.std.specs.Fmt.{signed_decimal}
use Rattle.lift_grid.specs.Rectangle.{sides_of}
use Rattle.cert_text.proofs.Lines.{line-words}
use Rattle.cert_text.proofs.head.write_box.Goals as goal

pub returns : goal.returns
returns g c = rw (line-words signed_decimal (codes "box") (sides_of c.args.root.now)) (rw c.sides-sides.ensures.sides at c.write_words.ensures)
