use Rattle.float_guess.proofs.Parts.{same_both}
use Rattle.float_guess.proofs.part.Part.counted_of_row.Goals as goal

pub loop-corner-preserved : goal.loop-corner-preserved
loop-corner-preserved c =
    let self = c.args.self.now in
    same_both self.rule.ends self.case.now self.links.now self.low self.high c.outlook.new.lane c.loop-corner.lane c.outlook-outlook.new.lane c.loop-corner.invariant c.outlook-outlook.ensures
