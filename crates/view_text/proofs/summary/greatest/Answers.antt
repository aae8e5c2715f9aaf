use Rattle.std.proofs.Common.{◌≡◌, ◌-◌, ℕ, sym, ap, ◌∙◌, arith}
use Rattle.view_text.specs.Summary.{greatest_from}
use Rattle.view_text.proofs.Counting.{greatest_here, greatest_next, greatest_none}
use Rattle.view_text.proofs.summary.greatest.Goals as goal

pub returns-in-Some : goal.returns-in-Some
returns-in-Some c = sym (c.loop-depth.invariant ∙ greatest_here c.args.map.now.parts c.loop-depth.depth 21 _ c.loop-depth-test.true (sym c.in-Some.ensures))

pub loop-depth-preserved : goal.loop-depth-preserved
loop-depth-preserved c = c.loop-depth.invariant ∙ greatest_next c.args.map.now.parts c.loop-depth.depth 21 c.loop-depth-test.true (sym c.in_default.ensures)

pub returns : goal.returns
returns c =
    let end : c.loop-depth.depth ≡ 21 = omega arith in
    sym (c.loop-depth.invariant ∙ ap (λ (n : ℕ). greatest_from c.args.map.now.parts n (21 - n)) end ∙ greatest_none c.args.map.now.parts 21)
