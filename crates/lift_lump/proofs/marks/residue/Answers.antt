use Rattle.std.proofs.Common.{◌≡◌, ◌-◌, ◌%◌, FitsSigned, ap, ap₂, ◌∙◌, sym, subst, unsigned_abs}
use Rattle.std.specs.Int.{w128}
use Rattle.std.proofs.lemmas.Int.{to_z-of_z}
use Rattle.lift_lump.specs.Search.{modulus, IsCongruent}
use Rattle.lift_lump.proofs.Marking.{above_zero, below_zero, residue_plus, residue_minus, mod_most}
use Rattle.lift_lump.proofs.marks.residue.Goals as goal

pub returns-then-number-lt0-clause-same : goal.returns-then-number-lt0-clause-same
returns-then-number-lt0-clause-same c =
    let fits : FitsSigned w128 c.args.number = c.ranges.number in
    let size : c.unsigned_abs.result % c.from.result ≡ unsigned_abs c.args.number % modulus = ap₂ (λ x y. x % y) (c.unsigned_abs.ensures.value ∙ ap unsigned_abs (to_z-of_z w128 c.args.number fits)) c.from.ensures in
    subst (λ n. IsCongruent ((modulus - n) % modulus) c.args.number) (sym size) (residue_minus c.args.number (below_zero c.args.number (simp to_z-of_z at c.if-number-lt0.true)) (mod_most (unsigned_abs c.args.number)))

pub returns-else-number-lt0-clause-same : goal.returns-else-number-lt0-clause-same
returns-else-number-lt0-clause-same c =
    let fits : FitsSigned w128 c.args.number = c.ranges.number in
    let size : c.unsigned_abs.result % c.from.result ≡ unsigned_abs c.args.number % modulus = ap₂ (λ x y. x % y) (c.unsigned_abs.ensures.value ∙ ap unsigned_abs (to_z-of_z w128 c.args.number fits)) c.from.ensures in
    subst (λ n. IsCongruent n c.args.number) (sym size) (residue_plus c.args.number (above_zero c.args.number (simp to_z-of_z at c.if-number-lt0.false)))
