use Rattle.lift_frac.proofs.Products.{exact_sum, exact_product, product_fits, sum_fits, product_nonzero, den_nonzero}
use Rattle.lift_frac.proofs.frac.Frac.add.Goals as goal

pub overflow_add-self : goal.overflow_add-self
overflow_add-self c = sum_fits c.args.self c.args.other

pub overflow_mul-self-2 : goal.overflow_mul-self-2
overflow_mul-self-2 c = product_fits c.args.self.den c.args.other.den c.args.self.small_den c.args.other.small_den

pub reduced-requires : goal.reduced-requires
reduced-requires c =
    let den = exact_product c.args.self.den c.args.other.den c.args.self.small_den c.args.other.small_den in
    rw den (product_nonzero c.args.self.den c.args.other.den (den_nonzero c.args.self) (den_nonzero c.args.other))

pub returns-clause-answer : goal.returns-clause-answer
returns-clause-answer c =
    let num = exact_sum c.args.self c.args.other in
    let den = exact_product c.args.self.den c.args.other.den c.args.self.small_den c.args.other.small_den in
    rw (num, den) at c.reduced.ensures.answer

pub returns-clause-value : goal.returns-clause-value
returns-clause-value c =
    let num = exact_sum c.args.self c.args.other in
    let den = exact_product c.args.self.den c.args.other.den c.args.self.small_den c.args.other.small_den in
    rw (num, den) at c.reduced.ensures.value
