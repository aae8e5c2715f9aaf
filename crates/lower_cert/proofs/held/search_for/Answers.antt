use Rattle.lower_cert.proofs.Holding.{zeros_in_range}
use Rattle.lower_cert.proofs.held.search_for.Goals as goal

pub save-requires-clause-range : goal.save-requires-clause-range
save-requires-clause-range g c = zeros_in_range c.args.rows.now.case 512

pub save-requires-2-clause-range : goal.save-requires-2-clause-range
save-requires-2-clause-range g c = zeros_in_range c.args.rows.now.case 512
