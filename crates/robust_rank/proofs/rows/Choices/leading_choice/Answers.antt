use Rattle.std.proofs.Common.{◌≡◌, refl, subst, arith}
use Rattle.std.proofs.lemmas.Bool.{both_ways}
use Rattle.corner_lift.specs.Certificate.{mark}
use Rattle.robust_rank.specs.Staging.{IsLeading}
use Rattle.robust_rank.proofs.rows.Choices.leading_choice.Goals as goal

pub returns-then-not-leads-clause-none : goal.returns-then-not-leads-clause-none
returns-then-not-leads-clause-none g c e a lt leading =
    let first : a ≡ 0 = omega (arith, lt, c.in-Some.ensures.only refl) in
    both_ways _ c.if-not-leads.true (c.in-Some.ensures.leads.1 (subst (λ b. IsLeading c.args.self.now.rows.case.now g.spans c.args.self.now.allowed.now (mark c.args.ranks.now) c.args.below c.args.s b) first leading).1)

pub returns-then-not-is_allowed-clause-none : goal.returns-then-not-is_allowed-clause-none
returns-then-not-is_allowed-clause-none g c e a lt leading =
    let first : a ≡ 0 = omega (arith, lt, c.in-Some.ensures.only refl) in
    both_ways _ c.if-not-is_allowed.true (c.is_allowed.ensures.1 (subst (λ b. IsLeading c.args.self.now.rows.case.now g.spans c.args.self.now.allowed.now (mark c.args.ranks.now) c.args.below c.args.s b) first leading).0)

pub returns-in-Some-clause-some : goal.returns-in-Some-clause-some
returns-in-Some-clause-some g c = record {
  in_range = omega (arith, c.in-Some.ensures.only refl);
  holds = (c.is_allowed.ensures.0 c.if-not-is_allowed.false, c.in-Some.ensures.leads.0 c.if-not-leads.false);
  least = λ b lt. absurd (omega (arith, lt));
}
