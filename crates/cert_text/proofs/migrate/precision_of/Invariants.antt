use Rattle.std.proofs.Common.{◌≡◌, length}
use Rattle.cert_text.specs.Migrated.{lines_of, precision_in}
use Rattle.cert_text.proofs.migrate.precision_of.Given as goal

abbrev pub invariant-loop-rest : goal.invariant-loop-rest
invariant-loop-rest l = precision_in (lines_of l.rest) ≡ precision_in (lines_of l.text)

abbrev pub decreases-loop-rest : goal.decreases-loop-rest
decreases-loop-rest l = length l.rest
