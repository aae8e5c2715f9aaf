use Rattle.std.proofs.Common.{◌≡◌, map, rules, None, sym, ap, ◌∙◌, arith}
use Rattle.std.specs.Option.{option_map}
use Rattle.lift_grid.specs.Region.{given}
use Rattle.lift_grid.specs.Parts.{ratios_of}
use Rattle.lift_grid.proofs.Ordering.{missing_from}
use Rattle.lift_grid.proofs.intervals.in_order.Goals as goal

pub returns-in_err-interval : goal.returns-in_err-interval
returns-in_err-interval c =
    let none : given (map ratios_of c.args.intervals.now) c.loop-parameter.parameter ≡ None
    = sym c.given.ensures ∙ ap (option_map ratios_of) c.in_err-interval.ensures.ok_part in
    let missing = missing_from _ _ c.loop-parameter.parameter c.args.count c.loop-parameter.invariant none (omega arith) in
    rw missing (search rules)
