use Rattle.std.proofs.Common.{◌≡◌, ◌∙◌, ap, rules, FitsSigned}
use Rattle.std.specs.Int.{w128}
use Rattle.std.proofs.lemmas.Int.{to_z-of_z}
use Rattle.lift_poly.specs.Arithmetic as poly
use Rattle.lift_poly.specs.MultiAffine.{narrow}
use Rattle.drn_read.specs.Reading.{scaled}
use Rattle.drn_read.proofs.Building.{wide_reported}
use Rattle.drn_read.proofs.scaled.scaled.Goals as goal

pub returns-in-Err : goal.returns-in-Err
returns-in-Err c =
    let same : poly.scaled c.from.result c.poly.result.now ≡ scaled c.args.common c.args.value.now = search rules in
    let fits : FitsSigned w128 c.from.result = search rules in
    record {
      fault = wide_reported (scaled c.args.common c.args.value.now) c.in-Err.error c.cause_of.result (λ safe. c.in-Err.ensures.answer safe ∙ ap (λ by. narrow (poly.scaled by c.poly.result.now)) (to_z-of_z w128 c.from.result fits) ∙ ap narrow same) c.cause_of.ensures.memory c.cause_of.ensures.wide;
      poly = tt;
    }
