-- Rows that are admitted, over a finer grid.
use Rattle.std.proofs.Common.{◌^◌, ◌<◌, ◌≤◌, pos, ◌*ℤ◌, ◌≤ℤ◌, sym, subst, arith}
use Rattle.lift_poly.specs.Polynomial.{weight}
use Rattle.lift_poly.proofs.Ring.{linear, mul-nonneg}
use Rattle.lift_model.specs.Process.{power}
use Rattle.lift_model.specs.Model.{support}
use Rattle.corner_lift.specs.Corner.{corner, parameter_count}
use Rattle.corner_lift.specs.Case.{most_row_parameters}
use Rattle.lift_finer.specs.Finer.{finer_spans}
use Rattle.lift_finer.specs.Laws.{AdmittedRowsStay}
use Rattle.lift_finer.proofs.Homogeneous.{parameters_stay, weight_at}
use Rattle.lift_finer.proofs.Alike.{power_positive}
use Rattle.lift_finer.proofs.Vectors.{All-each}

pub admitted_rows_stay : AdmittedRowsStay
admitted_rows_stay k n depth row le h =
    let set = support row in
    let count = parameter_count k.root set in
    let same = parameters_stay n k.root set in (
      h.sum,
      subst (λ m. m ≤ most_row_parameters) (sym same) h.few,
      λ c lt.
          All-each (λ entry. pos 0 ≤ℤ weight (corner k.d k.root set c) entry.poly) (λ entry. pos 0 ≤ℤ weight (corner (k.d *ℤ pos n) (finer_spans n k.root) set c) entry.poly)
          (λ entry least.
          let more = mul-nonneg (weight (corner k.d k.root set c) entry.poly) (power (pos n) count) least (omega (arith, linear, power_positive n count le)) in
          omega (arith, linear, weight_at k.d n k.root row c entry.poly, more)) row (h.least c (subst (λ m. c < 2 ^ m) same lt)),
    )
