use Rattle.std.proofs.Common.{rules, ◌<ℤ◌, ◌≤ℤ◌, pos, SFits, w64, to_z-of_z, ap, arith}
use Rattle.std.proofs.lemmas.Int.{ints}
use Rattle.corner_lift.specs.Case.{number, row_value, row_whole, corner_count}
use Rattle.audit_cert.specs.Miss.{left_over}
use Rattle.audit_cert.specs.Held.{claim_of, kind_of}
use Rattle.audit_cert.proofs.RowTests.{capped_by, held_by, each_met, none_met, left_range}
use Rattle.audit_cert.proofs.quick.is_row_met.Goals as goal

pub returns-then-left-lt0 : goal.returns-then-left-lt0
returns-then-left-lt0 g c =
    let k = c.args.table.now.case in
    let claim = claim_of c.args.claim.now in
    let fits : SFits w64 c.left_over-left.result = search rules in
    let was = rw (to_z-of_z fits, c.left_over-left.ensures, c.case.ensures.value) at c.if-left-lt0.true in
    let less : left_over k.w claim.kind c.args.state (number claim.numbers c.args.state) <ℤ pos 0 = omega (arith, ints, was) in
    none_met c.rows_at_corners.ensures.numbers c.rows_at_corners.ensures.range k g.spans c.case.ensures.case c.requires.0.inside
    claim c.requires.1.1 c.args.state c.args.choice (record { state = c.requires.1.0.state; choice = c.requires.1.0.choice }) less

pub returns-in-Upper : goal.returns-in-Upper
returns-in-Upper g c =
    let k = c.args.table.now.case in
    let claim = claim_of c.args.claim.now in
    let fits : SFits w64 c.left_over-left.result = search rules in
    let same = rw c.case.ensures.value at c.left_over-left.ensures in
    each_met c.rows_at_corners.ensures.numbers c.rows_at_corners.ensures.range k g.spans c.case.ensures.case c.requires.0.inside
    claim c.requires.1.1 c.args.state c.args.choice (record { state = c.requires.1.0.state; choice = c.requires.1.0.choice }) _
    (capped_by _ k.w claim.kind c.args.state (number claim.numbers c.args.state) c.left_over-left.result (row_whole k c.args.state c.args.choice)
    (λ n. row_value k g.spans c.args.state c.args.choice claim.targets n) (corner_count k c.args.state c.args.choice)
    (λ e. absurd (cc (e, ap kind_of c.in-Upper.is))) same (rw (to_z-of_z fits) at c.is_capped.ensures))

pub returns-in-Lower : goal.returns-in-Lower
returns-in-Lower g c =
    let k = c.args.table.now.case in
    let claim = claim_of c.args.claim.now in
    let fits : SFits w64 c.left_over-left.result = search rules in
    let same = rw c.case.ensures.value at c.left_over-left.ensures in
    each_met c.rows_at_corners.ensures.numbers c.rows_at_corners.ensures.range k g.spans c.case.ensures.case c.requires.0.inside
    claim c.requires.1.1 c.args.state c.args.choice (record { state = c.requires.1.0.state; choice = c.requires.1.0.choice }) _
    (held_by _ k.w claim.kind c.args.state (number claim.numbers c.args.state) c.left_over-left.result (row_whole k c.args.state c.args.choice)
    (λ n. row_value k g.spans c.args.state c.args.choice claim.targets n) (corner_count k c.args.state c.args.choice)
    (ap kind_of c.in-Lower.is) same (rw (to_z-of_z fits) at c.is_held.ensures))

pub returns-in-Priced : goal.returns-in-Priced
returns-in-Priced g c =
    let k = c.args.table.now.case in
    let claim = claim_of c.args.claim.now in
    let fits : SFits w64 c.left_over-left.result = search rules in
    let same = rw c.case.ensures.value at c.left_over-left.ensures in
    each_met c.rows_at_corners.ensures.numbers c.rows_at_corners.ensures.range k g.spans c.case.ensures.case c.requires.0.inside
    claim c.requires.1.1 c.args.state c.args.choice (record { state = c.requires.1.0.state; choice = c.requires.1.0.choice }) _
    (capped_by _ k.w claim.kind c.args.state (number claim.numbers c.args.state) c.left_over-left.result (row_whole k c.args.state c.args.choice)
    (λ n. row_value k g.spans c.args.state c.args.choice claim.targets n) (corner_count k c.args.state c.args.choice)
    (λ e. absurd (cc (e, ap kind_of c.in-Priced.is))) same (rw (to_z-of_z fits) at c.is_capped-in-Priced.ensures))

pub is_capped-requires : goal.is_capped-requires
is_capped-requires g c =
    let k = c.args.table.now.case in
    let claim = claim_of c.args.claim.now in
    let fits : SFits w64 c.left_over-left.result = search rules in
    let same = rw c.case.ensures.value at c.left_over-left.ensures in
    let was = rw (to_z-of_z fits) at c.if-left-lt0.false in
    let least : pos 0 ≤ℤ c.left_over-left.result = omega (arith, ints, was) in
    let range = left_range c.rows_at_corners.ensures.numbers c.rows_at_corners.ensures.range k g.spans c.case.ensures.case c.requires.0.inside
    claim c.requires.1.1 c.args.state c.args.choice (record { state = c.requires.1.0.state; choice = c.requires.1.0.choice }) c.left_over-left.result same least in
    (c.requires.0, (c.requires.1.0, (c.requires.1.1.targets, rw (to_z-of_z fits) range)))

pub is_held-requires : goal.is_held-requires
is_held-requires g c =
    let k = c.args.table.now.case in
    let claim = claim_of c.args.claim.now in
    let fits : SFits w64 c.left_over-left.result = search rules in
    let same = rw c.case.ensures.value at c.left_over-left.ensures in
    let was = rw (to_z-of_z fits) at c.if-left-lt0.false in
    let least : pos 0 ≤ℤ c.left_over-left.result = omega (arith, ints, was) in
    let range = left_range c.rows_at_corners.ensures.numbers c.rows_at_corners.ensures.range k g.spans c.case.ensures.case c.requires.0.inside
    claim c.requires.1.1 c.args.state c.args.choice (record { state = c.requires.1.0.state; choice = c.requires.1.0.choice }) c.left_over-left.result same least in
    (c.requires.0, (c.requires.1.0, (c.requires.1.1.targets, rw (to_z-of_z fits) range)))

pub is_capped-requires-in-Priced : goal.is_capped-requires-in-Priced
is_capped-requires-in-Priced g c =
    let k = c.args.table.now.case in
    let claim = claim_of c.args.claim.now in
    let fits : SFits w64 c.left_over-left.result = search rules in
    let same = rw c.case.ensures.value at c.left_over-left.ensures in
    let was = rw (to_z-of_z fits) at c.if-left-lt0.false in
    let least : pos 0 ≤ℤ c.left_over-left.result = omega (arith, ints, was) in
    let range = left_range c.rows_at_corners.ensures.numbers c.rows_at_corners.ensures.range k g.spans c.case.ensures.case c.requires.0.inside
    claim c.requires.1.1 c.args.state c.args.choice (record { state = c.requires.1.0.state; choice = c.requires.1.0.choice }) c.left_over-left.result same least in
    (c.requires.0, (c.requires.1.0, (c.requires.1.1.targets, rw (to_z-of_z fits) range)))
