use Rattle.std.proofs.Common.{append_assoc, subst}
use Rattle.std.specs.List.{concat}
use Rattle.lift_base.specs.Outside.{Wrote}
use Rattle.lift_cert.specs.Bound.{BoundData}
use Rattle.plift_top.specs.Property.{property_lines}
use Rattle.plift_top.proofs.property.write_asked.Goals as goal

pub returns : goal.returns
unfolding property_lines
returns g c =
    let written = rw (c.op_text.ensures, c.from.ensures, c.from-2.ensures) at c.write_words.ensures in
    subst (λ (b : BoundData). Wrote g.K.Sink.taken g.K.Sink.faults c.args.out.now c.write_words.new.out c.write_words.result (concat (property_lines c.args.op b))) c.bound.view_is (simp append_assoc written)
