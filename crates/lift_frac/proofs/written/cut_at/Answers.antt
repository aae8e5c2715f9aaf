use Rattle.lift_frac.proofs.Cuts.{cut_from}
use Rattle.lift_frac.proofs.written.cut_at.Goals as goal

pub returns : goal.returns
returns c = cut_from c.args.mark c.args.text.now c.split_once.result (c.split_once.ensures.byte c.requires (λ w o h. h))
