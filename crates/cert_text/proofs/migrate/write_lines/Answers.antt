use Rattle.std.proofs.Common.{ap}
use Rattle.std.specs.List.{flat_map}
use Rattle.cert_text.specs.Migrated.{second_line}
use Rattle.cert_text.proofs.migrate.write_lines.Goals as goal

pub returns-in_err-write_line : goal.returns-in_err-write_line
returns-in_err-write_line g c =
    c.writes_in_turn.ensures.stops _ _ _ _ _ _ _ _ _ c.from_residual.ensures.0 c.loop-rest.invariant (ap (flat_map (second_line c.args.precision.now)) c.cut_line.ensures.lines) c.in_err-write_line.ensures

pub loop-rest-preserved : goal.loop-rest-preserved
loop-rest-preserved g c =
    c.writes_in_turn.ensures.next _ _ _ _ _ _ _ c.loop-rest.invariant (ap (flat_map (second_line c.args.precision.now)) c.cut_line.ensures.lines) c.in_ok-write_line.ensures
