use Rattle.std.proofs.Common.{rules, ◌≡◌, ◌<◌, ◌^◌, ◌*ℤ◌, pos, to_z, of_z, to_z-of_z, SFits, w64, arith}
use mir.Syntax.{w128}
use Rattle.lift_poly.proofs.Ring.{linear}
use Rattle.audit_cert.proofs.Limits.{scaled-small}
use Rattle.audit_cert.proofs.limit.Limit.beside.Goals as goal

pub returns-clause-small : goal.returns-clause-small
returns-clause-small c =
    let w = c.args.w in
    let fits : SFits w128 c.widening_mul.result = search rules in
    let more_fits : SFits w128 c.widening_mul-2.result = search rules in
    let number_fits : SFits w64 c.args.number = search rules in
    let one_fits : SFits w64 c.one_at.result = search rules in
    let scale : c.args.self.now.scale < 2 ^ 64 = search rules in
    let level : c.args.self.now.level < 2 ^ 64 = search rules in
    let left : to_z w128 (of_z w128 c.widening_mul.result) ≡ c.args.number *ℤ pos c.args.self.now.scale = cc (to_z-of_z fits, c.widening_mul.ensures, to_z-of_z number_fits) in
    let right : to_z w128 (of_z w128 c.widening_mul-2.result) ≡ pos (2 ^ w) *ℤ pos c.args.self.now.level = cc (to_z-of_z more_fits, c.widening_mul-2.ensures, to_z-of_z one_fits, c.one_at.ensures) in
    rw (left, right) (
      scaled-small w c.args.number c.args.self.now.scale c.requires.w c.requires.number.0 c.requires.number.1 scale,
      scaled-small w (pos (2 ^ w)) c.args.self.now.level c.requires.w (omega (arith, linear)) (omega (arith, linear)) level,
    )
