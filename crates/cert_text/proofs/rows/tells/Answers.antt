use Rattle.std.proofs.Common.{ap, ◌∙◌, arith}
use Rattle.std.specs.Prelude.{◌==◌}
use Rattle.cert_text.proofs.RowWords.{short_tells}
use Rattle.cert_text.proofs.rows.tells.Goals as goal

pub returns-in-Some : goal.returns-in-Some
returns-in-Some c = ap (λ k. c.in-Some.number == k) c.from.ensures ∙ short_tells c.args.n c.in-Some.number c.args.words.now c.in-Some.field-0-1 (omega (arith, c.ranges.n.fits)) c.in-Some.ensures
