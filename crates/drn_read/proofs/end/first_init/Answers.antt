use Rattle.std.proofs.Common.{◌∙◌}
use Rattle.drn_read.proofs.Ends.{place_or_len}
use Rattle.drn_read.proofs.end.first_init.Goals as goal

pub returns : goal.returns
returns c = c.unwrap_or.ensures ∙ place_or_len (λ s. s.init) c.args.states.now c.init_place.result c.init_place.ensures
