use Rattle.std.proofs.Common.{to_z-of_z}
use Rattle.lift_dual.proofs.all.least_avoiding_within.Goals as goal

pub returns-clause-avoiding : goal.returns-clause-avoiding
returns-clause-avoiding g c =
    let found = rw (to_z-of_z c.ranges.limit) at c.least_bound_by_guess.ensures in
    let laws = c.bounds_are_vectors.ensures in
    record {
      least = λ e. laws.least_avoiding c.args.rows.now.case g.spans _ c.least_bound_by_guess.new.lane c.w-states.ensures.case c.requires.0.table.inside (found.least e);
      first = found.first;
      past = λ e o avoiding. found.past e o ((laws.avoiding c.args.rows.now.case g.spans _ o c.w-states.ensures.case c.requires.0.table.inside).1 avoiding);
      always = found.always;
    }
