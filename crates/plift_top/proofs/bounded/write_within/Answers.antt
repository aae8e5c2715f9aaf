use Rattle.std.proofs.Common.{append_assoc, subst}
use Rattle.std.specs.List.{concat}
use Rattle.lift_base.specs.Outside.{Wrote}
use Rattle.lift_cert.specs.Bound.{BoundData}
use Rattle.plift_top.specs.Bounded.{within_lines}
use Rattle.plift_top.proofs.bounded.write_within.Goals as goal

pub returns : goal.returns
unfolding within_lines
returns g c =
    let written = rw (c.from.ensures, c.from-2.ensures, c.from-3.ensures) at c.write_words.ensures in
    subst (λ (b : BoundData). Wrote g.K.Sink.taken g.K.Sink.faults c.args.out.now c.write_words.new.out c.write_words.result (concat (within_lines b c.args.steps))) c.bound.view_is (simp append_assoc written)
