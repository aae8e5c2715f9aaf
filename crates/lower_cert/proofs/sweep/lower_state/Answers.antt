use Rattle.std.proofs.Common.{rules, SFits, w64, to_z-of_z}
use Rattle.lower_cert.proofs.Sweeping.{lowered_state, written_other}
use Rattle.lower_cert.proofs.sweep.lower_state.Goals as goal

pub returns : goal.returns
returns g c =
    let fits : SFits w64 c.most_held-number.result = search rules in
    let written = rw (to_z-of_z fits) at c.write_lower.ensures in
    record {
      lowered = lowered_state c.vectors_are_lowered.ensures.under c.rows_at_corners.ensures.numbers c.args.rows.now.case g.run c.args.lane.now c.args.s c.most_held-number.result c.w.ensures.case c.requires.0.table.inside c.requires.0.high c.requires.1.0 c.requires.1.1 c.most_held-number.ensures c.write_lower.new.lane c.write_lower.result written;
      other = written_other c.args.lane.now c.write_lower.new.lane c.args.s c.most_held-number.result c.write_lower.result written;
    }
