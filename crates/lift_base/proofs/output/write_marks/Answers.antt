use Rattle.std.proofs.Common.{rules, ◌∙◌}
use Rattle.lift_base.specs.Word.{spaced_mark}
use Rattle.lift_base.proofs.Writing.{flat_map_parts, next_piece, stops_there}
use Rattle.lift_base.proofs.output.write_marks.Goals as goal

pub returns-in_err-write_few_marks : goal.returns-in_err-write_few_marks
returns-in_err-write_few_marks g c =
    let steps = c.in-Some.ensures.steps in
    stops_there _ _ _ c.from_residual.ensures.0 c.loop-group.invariant.3 (flat_map_parts (spaced_mark c.args.none) _ _ _ steps.1.0) c.in_err-write_few_marks.ensures

pub loop-group-preserved : goal.loop-group-preserved
loop-group-preserved g c =
    let steps = c.in-Some.ensures.steps in (
      search rules,
      tt,
      steps.0 ∙ c.loop-group.invariant.2,
      next_piece _ _ c.loop-group.invariant.3 (flat_map_parts (spaced_mark c.args.none) _ _ _ steps.1.0) c.in_ok-write_few_marks.ensures,
    )
