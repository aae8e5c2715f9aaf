use Rattle.lift_frac.proofs.Products.{exact_product}
use Rattle.lift_frac.proofs.frac.Frac.order.Goals as goal

pub returns : goal.returns
returns c =
    let left = exact_product c.args.self.num c.args.other.den c.args.self.small_num c.args.other.small_den in
    let right = exact_product c.args.other.num c.args.self.den c.args.other.small_num c.args.self.small_den in
    rw (left, right) at c.cmp.ensures
