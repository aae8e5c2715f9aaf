use Rattle.std.proofs.Common.{rules, ◌≡◌, ◌+◌, Some, pos, drop, sym, ap, ◌∙◌, to_z, of_z}
use Rattle.std.specs.Int.{w128}
use Rattle.line_text.specs.Words.{number_of, pair_of, words}
use Rattle.line_text.specs.Shown.{first_of}
use Rattle.line_text.proofs.WordsLeft.{take_rest}
use Rattle.line_text.proofs.Pairs.{pair_front}
use Rattle.line_text.proofs.words.Words.short_pair.Goals as goal

pub returns : goal.returns
returns c =
    let text = c.in_ok-text.text.now in
    let first = c.front_digits-first.result.0 in
    let len = c.front_digits-first.result.1 in
    let second = c.in_ok-second.second in
    let rest = c.in_ok-second.rest in
    let at = c.is_before.ensures in
    let is = c.if-not-is_before.false in
    let behind : first_of number_of (words (drop (len + 1) text)) ≡ Some (second, rest) = ap (first_of number_of) (ap words (sym (take_rest text (len + 1))) ∙ sym c.of.ensures) ∙ c.in_ok-second.ensures in
    let narrow : to_z w128 (of_z w128 second) ≡ second = search rules in
    ap (first_of (pair_of c.args.byte)) c.in_ok-text.ensures.some
    ∙ pair_front text len c.args.byte first second rest (at.within is) c.front_digits-first.ensures.digits (at.digits is) (at.there is) (at.space is) (at.byte is) c.front_digits-first.ensures.value behind
    ∙ ap (λ z. Some ((pos first, z), rest)) (sym narrow)
