use Rattle.std.proofs.Common.{◌≡◌, ◌+◌, ◌-◌, ℕ, ap, ◌∙◌, arith}
use Rattle.view_text.specs.Summary.{depths_from}
use Rattle.view_text.proofs.Counting.{depths_next, depths_end}
use Rattle.view_text.proofs.summary.write_depths.Goals as goal

pub returns-in_err-write_depth : goal.returns-in_err-write_depth
returns-in_err-write_depth g c = c.writes_in_turn.ensures.stops _ _ _ _ _ _ _ _ _ c.from_residual.ensures.0 c.loop-depth.invariant (depths_next c.args.map.now c.loop-depth.depth _ c.loop-depth-test.true) c.in_err-write_depth.ensures

pub loop-depth-preserved : goal.loop-depth-preserved
loop-depth-preserved g c = c.writes_in_turn.ensures.next _ _ _ _ _ _ _ c.loop-depth.invariant (depths_next c.args.map.now c.loop-depth.depth _ c.loop-depth-test.true) c.in_ok-write_depth.ensures

pub returns : goal.returns
returns g c =
    let n = c.grid-depth-end.result.depth + 1 in
    let end : c.loop-depth.depth ≡ n = omega arith in
    let none = ap (λ (i : ℕ). depths_from c.args.map.now i (n - i)) end ∙ depths_end c.args.map.now n in
    c.writes_in_turn.ensures.ends _ _ _ (rw none at c.loop-depth.invariant)
