use Rattle.drn_read.proofs.Pairing.{name_goes_last}
use Rattle.drn_read.proofs.parameters.push_new.Goals as goal

pub returns-clause-names : goal.returns-clause-names
returns-clause-names c = name_goes_last _ _ _ _ c.in_ok-push.ensures.added c.in_ok-push.ensures.after c.requires.new
