use Rattle.std.proofs.Common.{◌≡◌, ◌-◌, ℕ, sym, ap, ◌∙◌, arith}
use Rattle.view_text.specs.Summary.{least_below}
use Rattle.view_text.proofs.Counting.{least_here, least_next, least_none}
use Rattle.view_text.proofs.summary.least.Goals as goal

pub returns-in-Some : goal.returns-in-Some
returns-in-Some c = sym (c.loop-above.invariant ∙ least_here c.args.map.now.parts c.loop-above.above 21 _ c.loop-above-test.true (sym c.in-Some.ensures))

pub loop-above-preserved : goal.loop-above-preserved
loop-above-preserved c = c.loop-above.invariant ∙ least_next c.args.map.now.parts c.loop-above.above 21 c.loop-above-test.true (sym c.in_default.ensures)

pub returns : goal.returns
returns c =
    let end : c.loop-above.above ≡ 21 = omega arith in
    sym (c.loop-above.invariant ∙ ap (λ (n : ℕ). least_below c.args.map.now.parts (21 - n)) end ∙ least_none c.args.map.now.parts)
