use Rattle.std.proofs.Common.{◌++◌, List, ℕ, append_assoc, append-nil, codes, subst, ◌∙◌}
use Rattle.std.specs.Fmt.{decimal}
use Rattle.lift_base.specs.Outside.{Wrote}
use Rattle.lift_cert.specs.Bound.{BoundData}
use Rattle.view_text.proofs.title.write_bound.Goals as goal

pub returns : goal.returns
returns g c =
    let text : BoundData → List ℕ = λ b. codes "at most " ++ decimal b.num ++ codes "/" ++ decimal b.den ++ codes ", numbers over 2^" in
    let written = rw (append-nil, c.from.ensures, c.from-2.ensures) at c.write_words.ensures in
    subst (λ (b : BoundData). Wrote g.K.Sink.taken g.K.Sink.faults c.args.out.now c.write_words.new.out c.write_words.result (text b)) (c.bound.view_is ∙ c.bound-bound.ensures) (simp append_assoc written)
