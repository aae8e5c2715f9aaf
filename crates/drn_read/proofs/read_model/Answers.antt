use Rattle.drn_read.proofs.Running.{valid_at_end}
use Rattle.drn_read.proofs.read_model.Goals as goal

pub finish-requires : goal.finish-requires
finish-requires c = valid_at_end _ _ _ _ c.texts_are_valid.ensures c.in_ok-number.ensures
