use Rattle.std.proofs.Common.{◌≡◌, ◌≢◌, ◌==◌, ℕ, not, true, false, rules, SFits, w64, of_z, ap, arith}
use Rattle.corner_lift.specs.Case.{number}
use Rattle.rounded_iter.proofs.Solving.{same_number}
use Rattle.rounded_iter.proofs.worklist.write_number.Goals as goal

differ : (u v : ℕ) → not (u == v) ≡ true → u ≢ v
differ u v e = grind arith

agree : (u v : ℕ) → not (u == v) ≡ false → u ≡ v
agree u v e = grind arith

pub returns-clause-other : goal.returns-clause-other
returns-clause-other c = λ e same. differ _ _ e (ap (of_z w64) same)

pub returns-clause-same : goal.returns-clause-same
returns-clause-same c =
    let number_fits : SFits w64 (number c.args.lane.now c.args.s) = search rules in
    λ e. same_number _ _ c.ranges.number number_fits (agree _ _ e)
