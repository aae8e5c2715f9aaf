use Rattle.std.proofs.Common.{◌≡◌, ◌-◌, ◌<◌, suc, ap, arith, length, ◌∙◌}
use Rattle.lift_pool.specs.Cuts.{start}
use Rattle.lift_pool.proofs.Cutting.{start-is}
use Rattle.lift_pool.proofs.pool.start_of.Goals as goal

pub returns-else-i-eq0 : goal.returns-else-i-eq0
returns-else-i-eq0 c =
    let positive : suc (c.args.i - 1) ≡ c.args.i = omega (arith, c.if-i-eq0.false) in
    let within : c.args.i - 1 < length c.args.ends.now = omega (arith, c.requires, c.if-i-eq0.false) in
    start-is 0 c.args.ends.now (c.args.i - 1) 0 within ∙ ap (λ n. start 0 c.args.ends.now n) positive
