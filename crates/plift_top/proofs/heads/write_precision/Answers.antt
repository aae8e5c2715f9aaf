use Rattle.plift_top.proofs.heads.write_precision.Goals as goal

pub returns : goal.returns
returns g c = rw (c.from.ensures, c.w.ensures.value) at c.write_words.ensures
