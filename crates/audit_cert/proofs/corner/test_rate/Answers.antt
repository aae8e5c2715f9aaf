use Rattle.std.proofs.Common.{rules, ◌≡◌, ◌∙◌, ◌≤ℤ◌, ◌<ℤ◌, Bool, false, IsTrue, [], to_z-of_z, SFits, refl, ℤ}
use Rattle.std.specs.Prelude.{◌↔◌}
use mir.Syntax.{w128}
use Rattle.std.proofs.lemmas.Int.{by_lt_z}
use Rattle.audit_cert.specs.Held.{ranking_of}
use Rattle.audit_cert.proofs.Forms.{ranks_only, ranks_some}
use Rattle.audit_cert.proofs.corner.test_rate.Goals as goal

-- the answer no says that the product is less
too_little : (b : Bool) (all product : ℤ) → IsTrue b ↔ all ≤ℤ product → b ≡ false → product <ℤ all
too_little b all product test isnt = by_lt_z product all (λ lt. lt) (λ le. let is = test.1 le in absurd (cc (isnt, is)))

pub weight_below-weight-requires-clause-ranks : goal.weight_below-weight-requires-clause-ranks
weight_below-weight-requires-clause-ranks c =
    let k = c.args.case.now in
    let claim = c.args.claim.now in
    ranks_only k (ranking_of claim.numbers.now c.in-Some.ranking) (ranking_of [] c.in-Some.ranking) refl refl refl (ranks_some k claim c.in-Some.ranking c.in-Some.is c.requires.form)

pub returns-then-not-is_enough-clause-miss : goal.returns-then-not-is_enough-clause-miss
returns-then-not-is_enough-clause-miss c =
    let weight_fits : SFits w128 c.weight_below-weight.result = search rules in
    let whole_fits : SFits w128 c.whole-whole.result = search rules in (
      refl,
      record {
        at = c.requires.at;
        met = c.requires.met;
        slow = rw c.in-Some.is (record {
          weight_is = to_z-of_z weight_fits ∙ c.weight_below-weight.ensures.value;
          e_is = refl;
          whole_is = to_z-of_z whole_fits ∙ c.whole-whole.ensures.value;
          wrong = too_little _ _ _ c.is_enough.ensures c.if-not-is_enough.true;
        });
      },
    )

pub returns-clause-miss : goal.returns-clause-miss
returns-clause-miss c =
    let weight_fits : SFits w128 c.weight_below-weight.result = search rules in
    let whole_fits : SFits w128 c.whole-whole.result = search rules in
    let enough = c.is_enough.ensures.0 c.if-not-is_enough.false in
    rw c.in-Some.is (rw (to_z-of_z weight_fits, to_z-of_z whole_fits, c.weight_below-weight.ensures.value, c.whole-whole.ensures.value) at enough)
