use Rattle.std.proofs.Common.{◌≡◌, ◌≤◌, true, rules, arith, length}
use Rattle.drn_read.specs.Text.{is_digits}
use Rattle.drn_read.proofs.Counts.{counted}
use Rattle.drn_read.proofs.header.read_count.Goals as goal

pub returns-clause-fault : goal.returns-clause-fault
returns-clause-fault c =
    let digits : is_digits c.args.line.now ≡ true = search rules in
    let few : length c.args.line.now ≤ 20 = omega arith in
    counted _ _ _ digits few c.number_of.ensures c.ok_or.ensures.ok_part
