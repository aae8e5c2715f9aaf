use Rattle.std.proofs.Common.{◌≡◌, ℕ, List, arith, sym, subst}
use Rattle.std.proofs.lemmas.Result.{on_ok_weaker}
use Rattle.lift_lump.specs.declared.arrows.Arrow.{Arrow}
use Rattle.lift_lump.specs.Search.{AreRaised}
use Rattle.lift_lump.proofs.Gathering.{counted_more}
use Rattle.lift_lump.proofs.gather.count_in.Goals as goal

pub returns-clause-counted : goal.returns-clause-counted
returns-clause-counted c = on_ok_weaker c.add_marks.result (λ (raised : AreRaised c.args.numbers.now c.add_marks.new.numbers c.args.into.now). λ (all : ℕ → List Arrow) (is : all c.args.t ≡ c.args.into.now).
    counted_more all c.args.labels.now c.args.block c.args.t c.args.marks.now c.args.numbers.now c.add_marks.new.numbers
    (omega (arith, c.requires.state, c.requires.sizes.0)) (omega (arith, c.requires.state, c.requires.sizes.1)) c.if-labels-at.false c.if-marks-at.false
    (subst (λ (xs : List Arrow). AreRaised c.args.numbers.now c.add_marks.new.numbers xs) (sym is) raised)) c.add_marks.ensures.numbers
