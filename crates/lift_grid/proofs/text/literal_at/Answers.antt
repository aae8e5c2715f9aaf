use Rattle.std.proofs.Common.{rules, ◌∙◌, sym, subst}
use Rattle.lift_frac.specs.Literal as literal
use Rattle.lift_frac.specs.Grammar.{Writes}
use Rattle.lift_grid.proofs.LiteralEnds.{literal_given}
use Rattle.lift_grid.proofs.text.literal_at.Goals as goal

pub returns-in-48-to-57 : goal.returns-in-48-to-57
returns-in-48-to-57 c =
    let rest = c.trimmed_front-rest.result.now in
    let written = subst (λ t. Writes t (literal.literal_at rest).0) (sym c.split_at.ensures.front) c.literal_len.ensures.literal in
    literal_given c.args.text.now rest c.split_at.result.1.now _ c.trimmed_front-rest.ensures.trimmed (search rules) (c.read_literal.ensures.literal _ written) (c.split_at.ensures.back ∙ c.literal_len.ensures.rest)
