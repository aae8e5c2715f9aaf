use Rattle.std.proofs.Common.{rules, ◌≡◌, Some, pos, get_or, sym, ap, ◌∙◌, to_z, of_z}
use Rattle.std.specs.Int.{w128}
use Rattle.std.specs.Prelude.{neg_ℤ, ◌-ℤ◌}
use Rattle.line_text.specs.Words.{number_of}
use Rattle.line_text.specs.Shown.{first_of}
use Rattle.line_text.proofs.Pairs.{minus_text}
use Rattle.line_text.proofs.words.Words.signed.Goals as goal

pub returns-else-n-eq0 : goal.returns-else-n-eq0
returns-else-n-eq0 c =
    let text = c.in_ok-text.text.now in
    let n = c.in_ok-n-in-45.n in
    let rest = c.in_ok-n-in-45.rest in
    let first : get_or text 0 0 ≡ 45 = search rules in
    let narrow : to_z w128 (of_z w128 (pos 0 -ℤ to_z w128 (of_z w128 (pos n)))) ≡ neg_ℤ (pos n) = search rules in
    ap (first_of number_of) c.in_ok-text.ensures.some
    ∙ minus_text text n c.of.result rest c.in-45.len_at_least first c.of.ensures c.if-n-eq0.false c.in_ok-n-in-45.ensures
    ∙ ap (λ z. Some (z, rest)) (sym (ap (λ k. to_z w128 (of_z w128 (pos 0 -ℤ to_z w128 (of_z w128 k)))) c.from.ensures ∙ narrow))

pub returns-in_ok-n-in_default : goal.returns-in_ok-n-in_default
returns-in_ok-n-in_default c =
    let n = c.from-in_default.result in
    let narrow : to_z w128 (of_z w128 n) ≡ n = search rules in
    c.in_ok-n-in_default.ensures ∙ ap (λ z. Some (z, c.in_ok-n-in_default.rest)) (sym (narrow ∙ c.from-in_default.ensures))
