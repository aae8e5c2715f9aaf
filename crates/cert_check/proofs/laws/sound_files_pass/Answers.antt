use Rattle.cert_check.proofs.Following.{sound_passes}
use Rattle.cert_check.proofs.Passing.{passing_sound}
use Rattle.cert_check.proofs.laws.sound_files_pass.Goals as goal

pub returns-clause-pass : goal.returns-clause-pass
returns-clause-pass c = sound_passes c.heads_are_read.ensures.back c.nodes_are_read.ensures.back c.nodes_are_read.ensures.reported c.reports_are_read.ensures.back

pub returns-clause-sound : goal.returns-clause-sound
returns-clause-sound c = passing_sound c.heads_are_read.ensures.reported c.nodes_are_read.ensures.reported
