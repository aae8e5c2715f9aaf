use Rattle.std.proofs.Common.{◌≡◌, false, length, get_or, Result, Ok, Err, ap, subst, arith, below_more}
use Rattle.std.specs.Prelude.{MatchResult, is_err}
use Rattle.lift_model.specs.Links.{first_row, no_first}
use Rattle.corner_lift.specs.Case.{IsAdmittedRow}
use Rattle.lift_rows.proofs.Same.{all_admitted}
use Rattle.lift_rows.proofs.admission.firsts_pass.Goals as goal

passed : {X E : Type 0} (r : Result X E) (P : Type 0) (Q : E → Type 0) → is_err r ≡ false → MatchResult r (λ _. P) Q → P
passed (Ok x) P Q e h = h
passed (Err x) P Q e h = absurd (cc e)

pub loop-first-preserved : goal.loop-first-preserved
loop-first-preserved c =
    let k = c.args.asked.now in
    let no : is_err c.test_row.result ≡ false = cc in
    below_more _ _ c.loop-first.invariant
    (subst (λ firsts. IsAdmittedRow k (first_row k.model (get_or firsts c.loop-first.first-index no_first))) c.firsts-first-items.ensures
    (passed c.test_row.result _ _ no c.test_row.ensures.fault))

pub returns : goal.returns
returns c =
    all_admitted c.args.asked.now c.args.links.now c.requires
    (λ block lt. c.loop-first.invariant block (omega (arith, c.loop-first-test.false, ap length c.firsts-first-items.ensures)))
