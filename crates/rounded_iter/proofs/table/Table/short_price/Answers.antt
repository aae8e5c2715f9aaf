use Rattle.std.proofs.Common.{rules, ◌≤◌, ◌^◌, SFits, w64, unsigned_abs, to_z-of_z, arith}
use mir.Syntax.{w128}
use Rattle.std.proofs.lemmas.Int.{ints}
use Rattle.rounded_iter.proofs.Rewarding.{added_range}
use Rattle.rounded_iter.proofs.table.Table.short_price.Goals as goal

pub times-requires : goal.times-requires
times-requires g c =
    let reward_fits : SFits w64 c.reward_of.result = search rules in
    let whole_fits : SFits w128 c.table_whole.result = search rules in
    let reward = rw (← c.self.view_is) at c.reward_of.ensures in
    let range = added_range c.self.inside.rows.now.case c.self.inside.rule.ends c.args.s in
    let small : unsigned_abs c.reward_of.result ≤ 2 ^ c.self.inside.rows.now.case.w = omega (arith, ints, reward, range.0, range.1) in
    record { room = rw (to_z-of_z reward_fits, to_z-of_z whole_fits) (c.table_whole.ensures.room _ small) }
