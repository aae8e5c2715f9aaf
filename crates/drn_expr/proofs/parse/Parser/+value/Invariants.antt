use Rattle.std.proofs.Common.{◌+◌, ◌-◌, ◌*◌}
use Rattle.drn_expr.specs.Grammar.{value, term, factor, joins_terms, joins_factors}
use Rattle.drn_expr.specs.Parsing.{left, IsFurther}
use Rattle.drn_expr.proofs.Chains.{IsBegun}
use Rattle.drn_expr.proofs.parse.Parser.+value.Given as goal

abbrev pub decreases-factor : goal.decreases-factor
decreases-factor l = 3 * (64 - l.depth)

abbrev pub decreases-term : goal.decreases-term
decreases-term l = 3 * (64 - l.depth) + 1

abbrev pub decreases-value : goal.decreases-value
decreases-value l = 3 * (64 - l.depth) + 2

abbrev pub invariant-term-loop-operation : goal.invariant-term-loop-operation
invariant-term-loop-operation l =
    IsFurther l.self.text.now l.self.line l.at l.left.to
    × IsBegun 2 joins_factors (λ n. factor n l.self.names.now l.depth) (λ n. term n l.self.names.now l.depth)
    l.self.text.now l.self.line l.at l.left

abbrev pub decreases-term-loop-operation : goal.decreases-term-loop-operation
decreases-term-loop-operation l = left l.self.text.now l.self.line l.left.to

abbrev pub invariant-value-loop-operation : goal.invariant-value-loop-operation
invariant-value-loop-operation l =
    IsFurther l.self.text.now l.self.line l.at l.left.to
    × IsBegun 3 joins_terms (λ n. term n l.self.names.now l.depth) (λ n. value n l.self.names.now l.depth)
    l.self.text.now l.self.line l.at l.left

abbrev pub decreases-value-loop-operation : goal.decreases-value-loop-operation
decreases-value-loop-operation l = left l.self.text.now l.self.line l.left.to
