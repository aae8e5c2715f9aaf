use Rattle.std.proofs.Common.{◌≡◌, ◌+◌, subst, arith}
use Rattle.std.proofs.lemmas.Bool.{both_ways}
use Rattle.std.proofs.lemmas.Option.{IfSome_then}
use Rattle.corner_lift.specs.Certificate.{unmarked, mark}
use Rattle.corner_lift.specs.Stages.{LeadsBelow}
use Rattle.robust_rank.specs.Staging.{HasNoLeading}
use Rattle.robust_rank.specs.InOrder.{HasNoLeadingTo}
use Rattle.robust_rank.proofs.InOrder.{found, found_none, found_all, seen_both, none_low, none_high, all_high}
use Rattle.robust_rank.proofs.rows.Choices.rank_between.Goals as goal

pub returns-then-low : goal.returns-then-low
returns-then-low g c =
    let row = c.requires.1.1.0 in
    let have = c.requires.1.1.1.1.1 in
    let last : c.args.two.low ≡ unmarked = omega (arith, c.if-low.true) in
    found_none c.args.self.now.rows.case.now g.spans c.args.self.now.allowed.now (mark c.args.ranks.now) c.args.s
    (seen_both c.args.self.now.rows.case.now g.spans c.args.self.now.allowed.now (mark c.args.ranks.now) c.args.s row.only c.args.two.low
    c.args.two.high have.1 have.0)
    (subst (λ r. HasNoLeadingTo c.args.self.now.rows.case.now g.spans c.args.self.now.allowed.now (mark c.args.ranks.now) r c.args.s) last
    (none_low c.args.self.now.rows.case.now g.spans c.args.self.now.allowed.now (mark c.args.ranks.now) c.args.s row.only c.args.two.low
    c.args.two.high have.1 have.0))

pub returns-then-leads : goal.returns-then-leads
returns-then-leads g c =
    let row = c.requires.1.1.0 in
    let have = c.requires.1.1.1.1.1 in
    let seen = seen_both c.args.self.now.rows.case.now g.spans c.args.self.now.allowed.now (mark c.args.ranks.now) c.args.s row.only
    c.args.two.low c.args.two.high have.1 have.0 in
    let none = none_low c.args.self.now.rows.case.now g.spans c.args.self.now.allowed.now (mark c.args.ranks.now) c.args.s row.only
    c.args.two.low c.args.two.high have.1 have.0 in
    IfSome_then c.next_rank.result c.next_rank.ensures (λ r next.
    found c.args.self.now.rows.case.now g.spans c.args.self.now.allowed.now (mark c.args.ranks.now) c.args.s c.args.two.low r seen next none
    (λ lt. (0, (omega (arith, row.only), (c.requires.1.1.1.1.0, c.in-Some.ensures.0 c.if-leads.true)))))

pub returns-in-Some : goal.returns-in-Some
returns-in-Some g c =
    let row = c.requires.1.1.0 in
    let have = c.requires.1.1.1.1.1 in
    let premises = c.rows_at_corners.ensures in
    let not : HasNoLeading c.args.self.now.rows.case.now g.spans c.args.self.now.allowed.now (mark c.args.ranks.now) (c.args.two.low + 1)
    c.args.s = λ a lt leading.
    let first : a ≡ 0 = omega (arith, lt, row.only) in
    both_ways _ c.if-leads.false (c.in-Some.ensures.1
    (subst (λ b. LeadsBelow c.args.self.now.rows.case.now g.spans (mark c.args.ranks.now) (c.args.two.low + 1) c.args.s b) first leading.1))
    in
    let none = none_high c.args.self.now.rows.case.now g.spans c.args.self.now.allowed.now (mark c.args.ranks.now) c.args.s row.only
    c.args.two.low c.args.two.high have.1 have.0 not in
    IfSome_then c.next_rank-in-Some.result c.next_rank-in-Some.ensures (λ r next.
    found_all c.args.self.now.rows.case.now g.spans c.args.self.now.allowed.now (mark c.args.ranks.now) c.args.s row.only c.w.ensures.case c.requires.0.table.inside premises.parameters premises.least c.requires.1.0 c.requires.1.1.1.1.0
    c.args.two.high r (all_high c.args.self.now.rows.case.now g.spans c.args.self.now.allowed.now (mark c.args.ranks.now) c.args.s row.only
    c.args.two.low c.args.two.high have.1 have.0) next none)
