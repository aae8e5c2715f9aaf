use Rattle.corner_lift.specs.Case.{IsAdmitted}
use Rattle.lift_rows.proofs.admission.admit_linked.Goals as goal

pub new-requires : goal.new-requires
new-requires c =
    let all : IsAdmitted c.new-asked.result = c.if-firsts_pass.ensures in
    record {
      asked = record { model = c.states.ensures.model; spans = c.sides.ensures.spans; grid = c.requires.grid; depth = c.requires.depth; precision = c.requires.precision };
      admitted = rw c.new-asked.ensures at all;
    }
