use Rattle.cert_check.proofs.Migrating.{sound_migrate}
use Rattle.cert_check.proofs.laws.sound_files_migrate.Goals as goal

pub returns : goal.returns
returns c = sound_migrate
