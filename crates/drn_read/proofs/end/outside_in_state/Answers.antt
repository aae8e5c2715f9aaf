use Rattle.std.proofs.Common.{sym, ◌∙◌, ap, arith}
use Rattle.drn_read.specs.Shown.{outside, first_in}
use Rattle.drn_read.proofs.Ends.{found_here, past_end, first_in-map}
use Rattle.drn_read.proofs.end.outside_in_state.Goals as goal

pub returns-in-Some : goal.returns-in-Some
returns-in-Some c =
    sym (first_in-map (first_in (outside c.args.count)) (λ row. row.items) c.args.choices.now
    ∙ found_here (λ row. first_in (outside c.args.count) row.items) c.args.choices.now c.loop-choice.choice-index c.choice-item.result _ c.in-Some.line c.loop-choice.invariant c.loop-choice-test.true c.choice-item.is
    (ap (first_in (outside c.args.count)) (sym c.deref.ensures.value) ∙ sym c.in-Some.ensures))

pub returns : goal.returns
returns c =
    sym (first_in-map (first_in (outside c.args.count)) (λ row. row.items) c.args.choices.now
    ∙ past_end (λ row. first_in (outside c.args.count) row.items) c.args.choices.now c.loop-choice.choice-index c.loop-choice.invariant (omega arith))
