use Rattle.std.proofs.Common.{◌∙◌, sym}
use Rattle.plift_top.proofs.Migrating.{answered_first}
use Rattle.plift_top.proofs.migrate.check_first.Goals as goal

pub returns : goal.returns
returns c = answered_first c.args.text.now c.check_text.result (sym c.starts_with.ensures.value ∙ c.if-starts_with.false) c.check_text.ensures.sound c.check_text.ensures.answer c.check_text.ensures.reported
