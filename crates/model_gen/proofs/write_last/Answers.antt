use Rattle.model_gen.proofs.Written.{last_text}
use Rattle.model_gen.proofs.write_last.Goals as goal

pub returns : goal.returns
returns g c = rw (last_text c.args.n) at c.write_words.ensures
