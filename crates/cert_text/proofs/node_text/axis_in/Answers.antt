use Rattle.std.proofs.Common.{◌≡◌, ◌∙◌, false, pos, int_le, unsigned_abs, SFits, to_z-of_z, rules, ap}
use Rattle.std.specs.Int.{w128}
use Rattle.cert_text.proofs.NodeTexts.{axis_reported, axis_is, never_lost, never_below, never_above}
use Rattle.cert_text.proofs.node_text.axis_in.Goals as goal

pub returns-in-Some : goal.returns-in-Some
returns-in-Some c = λ axis rest low e.
    let fits : SFits w128 c.in-Some.n = search rules in
    let reported = axis_reported c.args.text.now c.len_before.result c.second_number.result axis rest c.len_before.ensures.len c.second_number.ensures low e in
    ap unsigned_abs (to_z-of_z fits ∙ axis_is c.in-Some.n axis c.second_number.result c.in-Some.is reported)

pub returns-in_default : goal.returns-in_default
returns-in_default c = λ axis rest low e.
    let fits : SFits w128 c.in-Some.n = search rules in
    let wide : SFits w128 c.from.result = search rules in
    let reported = axis_reported c.args.text.now c.len_before.result c.second_number.result axis rest c.len_before.ensures.len c.second_number.ensures low e in
    let test : int_le c.in-Some.n c.from.result ≡ false = rw (to_z-of_z fits, to_z-of_z wide) at c.if-n-from.false in
    absurd (never_above c.in-Some.n c.from.result axis (axis_is c.in-Some.n axis c.second_number.result c.in-Some.is reported) c.from.ensures low test)

pub returns-in_default-2 : goal.returns-in_default-2
returns-in_default-2 c = λ axis rest low e.
    let fits : SFits w128 c.in-Some.n = search rules in
    let reported = axis_reported c.args.text.now c.len_before.result c.second_number.result axis rest c.len_before.ensures.len c.second_number.ensures low e in
    let test : int_le (pos 0) c.in-Some.n ≡ false = rw (to_z-of_z fits) at c.if-n-ge0.false in
    absurd (never_below c.in-Some.n axis (axis_is c.in-Some.n axis c.second_number.result c.in-Some.is reported) test)

pub returns-in_default-3 : goal.returns-in_default-3
returns-in_default-3 c = λ axis rest low e.
    let reported = axis_reported c.args.text.now c.len_before.result c.second_number.result axis rest c.len_before.ensures.len c.second_number.ensures low e in
    absurd (never_lost axis c.second_number.result c.in_default.is reported)
