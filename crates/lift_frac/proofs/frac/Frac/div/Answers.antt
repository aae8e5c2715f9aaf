use Rattle.std.proofs.Common.{ap, sym, ◌∙◌, of_z, ◌*ℤ◌}
use Rattle.std.specs.Int.{w128}
use Rattle.lift_frac.specs.Frac.{answer_of}
use Rattle.lift_frac.proofs.Reducing.{fraction-zero}
use Rattle.lift_frac.proofs.Products.{exact_product, product_nonzero, den_nonzero}
use Rattle.lift_frac.proofs.frac.Frac.div.Goals as goal

pub reduced-requires : goal.reduced-requires
reduced-requires c =
    let den = exact_product c.args.self.den c.args.other.num c.args.self.small_den c.args.other.small_num in
    rw den (product_nonzero c.args.self.den c.args.other.num (den_nonzero c.args.self) (λ e. c.if-other-eq0.false (ap (of_z w128) e)))

pub returns-clause-zero : goal.returns-clause-zero
returns-clause-zero c =
    let num = exact_product c.args.self.num c.args.other.den c.args.self.small_num c.args.other.small_den in
    let den = exact_product c.args.self.den c.args.other.num c.args.self.small_den c.args.other.small_num in
    let answer = rw (num, den) at c.reduced.ensures.answer in
    let reported = fraction-zero (c.args.self.num *ℤ c.args.other.den) (c.args.self.den *ℤ c.args.other.num) in
    (λ e. absurd (reported (sym answer ∙ ap answer_of e)), λ e. absurd (c.if-other-eq0.false (ap (of_z w128) e)))

pub returns-clause-answer : goal.returns-clause-answer
returns-clause-answer c =
    let num = exact_product c.args.self.num c.args.other.den c.args.self.small_num c.args.other.small_den in
    let den = exact_product c.args.self.den c.args.other.num c.args.self.small_den c.args.other.small_num in
    λ _. rw (num, den) at c.reduced.ensures.answer

pub returns-clause-value : goal.returns-clause-value
returns-clause-value c =
    let num = exact_product c.args.self.num c.args.other.den c.args.self.small_num c.args.other.small_den in
    let den = exact_product c.args.self.den c.args.other.num c.args.self.small_den c.args.other.small_num in
    rw (num, den) at c.reduced.ensures.value
