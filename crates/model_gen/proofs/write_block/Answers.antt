use Rattle.model_gen.proofs.Written.{block_text}
use Rattle.model_gen.proofs.write_block.Goals as goal

pub returns : goal.returns
returns g c = rw (block_text c.args.n c.args.i c.first_label.result.now c.first_label.ensures) at c.write_words.ensures
