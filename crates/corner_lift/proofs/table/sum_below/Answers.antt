use Rattle.std.proofs.Common.{rules, ◌≡◌, ◌+◌, ◌<◌, ◌+ℤ◌, ◌*ℤ◌, ℕ, pos, cond, length, take, slice_index_or, nat_lt, to_z, of_z, to_z-of_z, SFits, sym, ap, ap₂, ◌∙◌, arith}
use Rattle.std.proofs.lemmas.List.{get_or_default}
use mir.Syntax.{w128}
use Rattle.corner_lift.specs.Certificate.{mark, ranked_below, unmarked}
use Rattle.corner_lift.specs.Dot.{dot}
use Rattle.corner_lift.proofs.Sums.{dot_more, sum_fits}
use Rattle.corner_lift.proofs.table.sum_below.Goals as goal
use Rattle.corner_lift.proofs.table.sum_below.Goals.{After-counted-sum}

summed : (c : After-counted-sum) → to_z w128 c.loop-j.sum-bits +ℤ to_z w128 (of_z w128 c.counted-sum.result) ≡ dot (ranked_below (mark c.args.ranks.now) c.args.below) (take (c.loop-j.j + 1) c.args.weights.now) (take (c.loop-j.j + 1) c.args.targets.now)
summed c =
    let w_fits : SFits w128 (slice_index_or c.args.weights.now c.loop-j.j (pos 0)) = search rules in
    let p_fits : SFits w128 c.counted-sum.result = search rules in
    let t = slice_index_or c.args.targets.now c.loop-j.j 0 in
    let inside : t < length c.args.ranks.now = c.requires.targets c.loop-j.j 0 c.loop-j-test.true in
    let rank : slice_index_or c.args.ranks.now t 0 ≡ mark c.args.ranks.now t = get_or_default c.args.ranks.now t 0 unmarked inside in
    let more = dot_more (ranked_below (mark c.args.ranks.now) c.args.below) c.args.weights.now c.args.targets.now c.loop-j.j (pos 0) 0 (omega (arith, c.loop-j-test.true, c.requires.room.sizes)) c.loop-j-test.true in
    let product = to_z-of_z p_fits ∙ c.counted-sum.ensures ∙ ap₂ ◌*ℤ◌ (to_z-of_z w_fits) (ap (λ (r : ℕ). cond (nat_lt r c.args.below) (pos 1) (pos 0)) rank) in
    ap₂ ◌+ℤ◌ c.loop-j.invariant product ∙ sym more

pub overflow_add-sum : goal.overflow_add-sum
overflow_add-sum c = rw (summed c) (sum_fits (ranked_below (mark c.args.ranks.now) c.args.below) c.args.weights.now c.args.targets.now c.requires.room (c.loop-j.j + 1))

pub loop-j-preserved : goal.loop-j-preserved
loop-j-preserved c =
    let fits = sum_fits (ranked_below (mark c.args.ranks.now) c.args.below) c.args.weights.now c.args.targets.now c.requires.room (c.loop-j.j + 1) in
    rw (summed c) (to_z-of_z fits)
