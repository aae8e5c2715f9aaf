use Rattle.std.proofs.Common.{◌≡◌, refl, subst, arith}
use Rattle.std.proofs.lemmas.Option.{IfSome_then}
use Rattle.corner_lift.specs.Certificate.{unmarked, mark}
use Rattle.robust_rank.specs.InOrder.{HasNoLeadingTo}
use Rattle.robust_rank.proofs.InOrder.{none_to_0, none_on, none_more, seen_of, found, found_none}
use Rattle.robust_rank.proofs.rows.Choices.rank_by_choices.Goals as goal

pub loop-least-init : goal.loop-least-init
loop-least-init g c = none_to_0 c.args.self.now.rows.case.now g.spans c.args.self.now.allowed.now (mark c.args.ranks.now) c.args.s

pub returns-then-least : goal.returns-then-least
returns-then-least g c =
    let none = none_on c.args.self.now.rows.case.now g.spans c.args.self.now.allowed.now (mark c.args.ranks.now) c.args.s c.loop-least.from c.in_ok-least.least c.in_ok-least.ensures.clear c.loop-least.invariant in
    let last : c.in_ok-least.least ≡ unmarked = omega (arith, c.if-least.true) in
    found_none c.args.self.now.rows.case.now g.spans c.args.self.now.allowed.now (mark c.args.ranks.now) c.args.s
    (seen_of c.args.self.now.rows.case.now g.spans c.args.self.now.allowed.now (mark c.args.ranks.now) c.args.s c.loop-least.from c.in_ok-least.least c.in_ok-least.ensures.clear)
    (subst (λ r. HasNoLeadingTo c.args.self.now.rows.case.now g.spans c.args.self.now.allowed.now (mark c.args.ranks.now) r c.args.s) last none)

pub returns-in-Some : goal.returns-in-Some
returns-in-Some g c =
    let none = none_on c.args.self.now.rows.case.now g.spans c.args.self.now.allowed.now (mark c.args.ranks.now) c.args.s c.loop-least.from c.in_ok-least.least c.in_ok-least.ensures.clear c.loop-least.invariant in
    let seen = seen_of c.args.self.now.rows.case.now g.spans c.args.self.now.allowed.now (mark c.args.ranks.now) c.args.s c.loop-least.from c.in_ok-least.least c.in_ok-least.ensures.clear in
    let there = c.in-Some.ensures.some in
    IfSome_then c.next_rank.result c.next_rank.ensures (λ r next. found c.args.self.now.rows.case.now g.spans c.args.self.now.allowed.now (mark c.args.ranks.now) c.args.s c.in_ok-least.least r seen next none (λ lt. (c.in-Some.field-0, (there.in_range, there.holds))))

pub loop-least-preserved : goal.loop-least-preserved
loop-least-preserved g c =
    let none = none_on c.args.self.now.rows.case.now g.spans c.args.self.now.allowed.now (mark c.args.ranks.now) c.args.s c.loop-least.from c.in_ok-least.least c.in_ok-least.ensures.clear c.loop-least.invariant in
    none_more c.args.self.now.rows.case.now g.spans c.args.self.now.allowed.now (mark c.args.ranks.now) c.args.s c.in_ok-least.least none (c.in-None.ensures.none refl)
