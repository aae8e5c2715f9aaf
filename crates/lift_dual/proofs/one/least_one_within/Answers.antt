use Rattle.std.proofs.Common.{◌≡◌, true, false, refl, to_z-of_z}
use Rattle.lift_dual.proofs.one.least_one_within.Goals as goal

pub choose_all-requires : goal.choose_all-requires
choose_all-requires g c =
    let found = (rw (to_z-of_z c.ranges.limit) at c.least_bound_by_guess.ensures).least c.if-not-least_bound_by_guess.false in
    (c.requires.0.table, (found.bound.numbers, (c.requires.1, c.bounds_are_vectors.ensures.satisfied c.args.rows.now.case g.spans c.least_bound_by_guess.new.lane c.w.ensures.case c.requires.0.table.inside found.bound)))

pub returns-then-not-least_bound_by_guess : goal.returns-then-not-least_bound_by_guess
returns-then-not-least_bound_by_guess g c =
    let found = rw (to_z-of_z c.ranges.limit) at c.least_bound_by_guess.ensures in
    record {
      least = λ e. absurd (let wrong : false ≡ true = e in cc wrong);
      first = λ e. absurd (let wrong : false ≡ true = e in cc wrong);
      past = λ e y others upper. found.past c.if-not-least_bound_by_guess.true y (c.bounds_are_vectors.ensures.one c.args.rows.now.case g.spans y others c.w.ensures.case c.requires.0.table.inside upper);
      always = λ le. absurd (let is = found.always le in let isnt = c.if-not-least_bound_by_guess.true in let wrong : true ≡ false = cc (is, isnt) in cc wrong);
    }

pub returns : goal.returns
returns g c =
    let found = rw (to_z-of_z c.ranges.limit) at c.least_bound_by_guess.ensures in
    record {
      least = λ e. c.bounds_are_vectors.ensures.least_one c.args.rows.now.case g.spans c.least_bound_by_guess.new.lane c.choose_all.new.picks c.w.ensures.case c.requires.0.table.inside (found.least c.if-not-least_bound_by_guess.false) c.choose_all.ensures;
      first = λ e. found.first c.if-not-least_bound_by_guess.false;
      past = λ e. absurd (let wrong : true ≡ false = e in cc wrong);
      always = λ le. refl;
    }
