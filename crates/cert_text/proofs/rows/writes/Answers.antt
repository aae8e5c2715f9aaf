use Rattle.std.proofs.Common.{pos, sym, ap, ◌∙◌, arith}
use Rattle.std.specs.Ordering.{int_eq}
use Rattle.cert_text.proofs.RowWords.{number_eq, none_eq}
use Rattle.cert_text.proofs.rows.writes.Goals as goal

pub returns-in-None : goal.returns-in-None
returns-in-None c = none_eq c.args.word.now c.args.n (omega (arith, c.ranges.n.fits)) (sym c.read.ensures ∙ c.in-None.is)

pub returns-in-Some : goal.returns-in-Some
returns-in-Some c = c.is_number.ensures ∙ ap (λ n. int_eq c.in-Some.number (pos n)) c.from.ensures ∙ number_eq c.args.word.now c.in-Some.number c.args.n (omega (arith, c.ranges.n.fits)) (sym c.read.ensures ∙ c.in-Some.is)
