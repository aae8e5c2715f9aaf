use Rattle.std.proofs.Common.{◌∙◌, sym}
use Rattle.cert_text.proofs.TextLines.{range_line}
use Rattle.cert_text.proofs.migrate.write_line.Goals as goal

pub returns-then-starts_with-2 : goal.returns-then-starts_with-2
returns-then-starts_with-2 g c =
    rw (range_line c.args.precision.now c.args.line.now (sym c.starts_with.ensures.value ∙ c.if-starts_with.false) (sym c.starts_with-else-starts_with.ensures.value ∙ c.if-starts_with-2.true)) c.write_words.ensures
