use Rattle.plift_top.proofs.Migrating.{tells}
use Rattle.plift_top.proofs.migrate.MigrationTelling.tell_to.Goals as goal

pub returns : goal.returns
returns g c = tells g.K.Sink.taken g.K.Sink.faults _ _ c.migrate_text.result _ c.requires c.migrate_text.ensures
