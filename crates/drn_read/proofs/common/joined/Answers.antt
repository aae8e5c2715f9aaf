use Rattle.std.proofs.Common.{◌≡◌, ◌%◌, sym, subst, rules}
use Rattle.lift_frac.specs.Gcd.{lcm}
use Rattle.drn_read.specs.Shown.{Becomes}
use Rattle.drn_read.proofs.Ends.{no_more, stays}
use Rattle.drn_read.proofs.common.joined.Goals as goal

pub returns-in_err-known : goal.returns-in_err-known
returns-in_err-known c =
    subst (λ r. Becomes c.args.common r (λ n. lcm n c.args.value.now.den)) (sym c.from_residual.ensures)
    (no_more c.divisors_and_multiples.ensures.at_least c.args.common c.args.value.now.den c.in_err-known.was c.den-den.ensures.rat_poly.positive)

pub returns-then-known-den-eq0 : goal.returns-then-known-den-eq0
returns-then-known-den-eq0 c =
    let law = c.divisors_and_multiples.ensures in
    let divides : c.in_ok-known.known % c.args.value.now.den ≡ 0 = search rules in
    stays law.multiple law.least c.args.common c.in_ok-known.known c.args.value.now.den c.in_ok-known.was divides
