use Rattle.lift_frac.proofs.Products.{exact_product, product_nonzero, den_nonzero}
use Rattle.lift_frac.proofs.frac.Frac.mul.Goals as goal

pub reduced-requires : goal.reduced-requires
reduced-requires c =
    let den = exact_product c.args.self.den c.args.other.den c.args.self.small_den c.args.other.small_den in
    rw den (product_nonzero c.args.self.den c.args.other.den (den_nonzero c.args.self) (den_nonzero c.args.other))

pub returns-clause-answer : goal.returns-clause-answer
returns-clause-answer c =
    let num = exact_product c.args.self.num c.args.other.num c.args.self.small_num c.args.other.small_num in
    let den = exact_product c.args.self.den c.args.other.den c.args.self.small_den c.args.other.small_den in
    rw (num, den) at c.reduced.ensures.answer

pub returns-clause-value : goal.returns-clause-value
returns-clause-value c =
    let num = exact_product c.args.self.num c.args.other.num c.args.self.small_num c.args.other.small_num in
    let den = exact_product c.args.self.den c.args.other.den c.args.self.small_den c.args.other.small_den in
    rw (num, den) at c.reduced.ensures.value
