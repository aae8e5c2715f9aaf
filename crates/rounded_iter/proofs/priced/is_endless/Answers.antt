use Rattle.std.proofs.Common.{◌≡◌, ◌<◌, ◌∷◌, [], ℕ, IsTrue, nat_lt, subst, ap, ◌∙◌, arith}
use Rattle.lift_model.specs.Model.{row_at}
use Rattle.lift_model.specs.Links.{targets_of}
use Rattle.float_guess.specs.Reward.{reward}
use Rattle.rounded_iter.proofs.Solving.{laws_of}
use Rattle.rounded_iter.proofs.Pricing.{none_endless}
use Rattle.rounded_iter.proofs.priced.is_endless.Goals as goal

above : (m : ℕ) → IsTrue (nat_lt 0 m) → 0 < m
above m e = grind arith

pub returns : goal.returns
returns g c e z priced =
    let k = c.args.rows.now.case in
    let paid : c.of-reward.result ≡ reward k.w c.args.rewards.now.costs.now c.args.rewards.now.cap c.args.s = c.of-reward.ensures ∙ ap (λ w. reward w c.args.rewards.now.costs.now c.args.rewards.now.cap c.args.s) c.w.ensures.value in
    let some = subst (λ m. 0 < m) paid (above c.of-reward.result e) in
    let same : c.in-Some.target ≡ c.args.s = grind arith in
    let only = subst (λ t. targets_of (row_at k.model c.args.s c.args.a) ≡ t ∷ []) same c.in-Some.ensures in
    none_endless (laws_of c.rows_at_corners.ensures.parameters c.rows_at_corners.ensures.numbers c.rows_at_corners.ensures.range c.rows_at_corners.ensures.rise c.corners_bound_weights.ensures.sum) k g.spans c.w.ensures.case c.requires.0.inside c.args.rewards.now c.args.s c.args.a c.requires.1.0 c.requires.1.1 only some z priced
