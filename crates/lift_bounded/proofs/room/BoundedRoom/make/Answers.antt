use Rattle.std.proofs.Common.{◌≡◌, ◌+◌, length, replicate, ◌∙◌, ap, pos, arith}
use Rattle.lift_bounded.proofs.Shapes.{filled_lanes}
use Rattle.lift_bounded.proofs.room.BoundedRoom.make.Goals as goal

pub returns-clause-made : goal.returns-clause-made
returns-clause-made c =
    let k = c.args.case.now in
    let states : c.states-states.result ≡ length k.model.states = rw c.model.ensures.value at c.states-states.ensures.value in
    record {
      steps = c.requires.steps;
      lanes = record {
        weights = omega (arith, c.in_ok-vec.ensures.len, c.in_ok-vec.field-0.ok.0, c.weights_len.ensures);
        numbers = filled_lanes c.in_ok-filled.field-0 (c.args.steps + 1) c.states-states.result (pos 0) c.in_ok-filled.ensures ∙ ap (λ n. replicate (c.args.steps + 1) n) states;
        picks = filled_lanes c.in_ok-filled-2.field-0 c.args.steps c.states-states.result 0 c.in_ok-filled-2.ensures ∙ ap (λ n. replicate c.args.steps n) states;
        work = omega (arith, c.in_ok-vec-2.ensures.len, c.in_ok-vec-2.field-0.ok.0, states);
        marks = omega (arith, c.in_ok-vec-3.ensures.len, c.in_ok-vec-3.field-0.ok.0, states);
      };
      sides = c.in_ok-sides_of_case.ensures.made;
    }
