use Rattle.std.proofs.Common.{◌≡◌, Err, sym, ap, subst, ◌∙◌, arith, rules}
use Rattle.drn_expr.specs.Grammar.{value, term, factor, joins_terms, joins_factors}
use Rattle.drn_expr.specs.Parsing.{IsFactor, IsTerm, IsValue}
use Rattle.drn_expr.proofs.Places.{further_still}
use Rattle.drn_expr.proofs.Chains.{factors_chain, terms_chain, chain_begin, chain_begin_fault, chain_more, chain_fault, chain_end}
use Rattle.drn_expr.proofs.Factors.{factor_end, minus_deep, left_deep, minus_fault, minus_inner, left_fault, left_open, left_closed, literal_factor, name_factor, factor_other}
use Rattle.drn_expr.proofs.parse.Parser.+value.Goals as goal

pub factor-returns-in_default-clause-factor : goal.factor-returns-in_default-clause-factor
factor-returns-in_default-clause-factor t c =
    let p = c.args.self.now in
    factor_end p.names.now c.args.depth p.text.now p.line c.args.at _ c.in_default.ensures.answer

pub factor-returns-in_err-depth-in-Minus-clause-factor : goal.factor-returns-in_err-depth-in-Minus-clause-factor
factor-returns-in_err-depth-in-Minus-clause-factor t c =
    let p = c.args.self.now in
    let e : c.from_residual.result ≡ Err c.in_err-depth-in-Minus.field-0.0 = search rules in
    subst (IsFactor p.names.now c.args.depth p.text.now p.line c.args.at) (sym (e ∙ ap Err c.in_err-depth-in-Minus.ensures.deep.0))
    (minus_deep p.names.now c.args.depth p.text.now p.line c.args.at c.in-Some.symbol c.in-Some.ensures.next c.in-Minus.is
    c.in_err-depth-in-Minus.ensures.deep.1)

pub factor-returns-in_err-inner-in-Minus-clause-factor : goal.factor-returns-in_err-inner-in-Minus-clause-factor
factor-returns-in_err-inner-in-Minus-clause-factor t c =
    let p = c.args.self.now in
    let e : c.from_residual-in_err-inner-in-Minus.result ≡ Err c.in_err-inner-in-Minus.field-0.0 = search rules in
    subst (IsFactor p.names.now c.args.depth p.text.now p.line c.args.at) (sym e)
    (minus_fault p.names.now c.args.depth c.in_ok-depth-in-Minus.depth p.text.now p.line c.args.at c.in-Some.symbol _ c.in-Some.ensures.next
    c.in-Minus.is c.in_ok-depth-in-Minus.ensures.deeper.1 c.in_ok-depth-in-Minus.ensures.deeper.0
    c.in_err-inner-in-Minus.ensures.factor)

pub factor-returns-in_err-depth-in-Left-clause-factor : goal.factor-returns-in_err-depth-in-Left-clause-factor
factor-returns-in_err-depth-in-Left-clause-factor t c =
    let p = c.args.self.now in
    let e : c.from_residual-in_err-depth-in-Left.result ≡ Err c.in_err-depth-in-Left.field-0.0 = search rules in
    subst (IsFactor p.names.now c.args.depth p.text.now p.line c.args.at) (sym (e ∙ ap Err c.in_err-depth-in-Left.ensures.deep.0))
    (left_deep p.names.now c.args.depth p.text.now p.line c.args.at c.in-Some.symbol c.in-Some.ensures.next c.in-Left.is
    c.in_err-depth-in-Left.ensures.deep.1)

pub factor-returns-in_err-inner-in-Left-clause-factor : goal.factor-returns-in_err-inner-in-Left-clause-factor
factor-returns-in_err-inner-in-Left-clause-factor t c =
    let p = c.args.self.now in
    let e : c.from_residual-in_err-inner-in-Left.result ≡ Err c.in_err-inner-in-Left.field-0.0 = search rules in
    subst (IsFactor p.names.now c.args.depth p.text.now p.line c.args.at) (sym e)
    (left_fault p.names.now c.args.depth c.in_ok-depth-in-Left.depth p.text.now p.line c.args.at c.in-Some.symbol _ c.in-Some.ensures.next
    c.in-Left.is c.in_ok-depth-in-Left.ensures.deeper.1 c.in_ok-depth-in-Left.ensures.deeper.0 c.in_err-inner-in-Left.ensures.value)

pub factor-returns-in_err-to-in-Left-clause-factor : goal.factor-returns-in_err-to-in-Left-clause-factor
factor-returns-in_err-to-in-Left-clause-factor t c =
    let p = c.args.self.now in
    let e : c.from_residual-in_err-to-in-Left.result ≡ Err c.in_err-to-in-Left.field-0.0 = search rules in
    subst (IsFactor p.names.now c.args.depth p.text.now p.line c.args.at) (sym e)
    (left_open p.names.now c.args.depth c.in_ok-depth-in-Left.depth p.text.now p.line c.args.at c.in-Some.symbol c.in_ok-inner-in-Left.inner
    _ c.in-Some.ensures.next c.in-Left.is c.in_ok-depth-in-Left.ensures.deeper.1 c.in_ok-depth-in-Left.ensures.deeper.0
    c.in_ok-inner-in-Left.ensures.value c.in_err-to-in-Left.ensures.closed)

pub factor-returns-in_ok-inner-in-Minus-clause-factor : goal.factor-returns-in_ok-inner-in-Minus-clause-factor
factor-returns-in_ok-inner-in-Minus-clause-factor t c =
    let p = c.args.self.now in
    minus_inner p.names.now c.args.depth c.in_ok-depth-in-Minus.depth p.text.now p.line c.args.at c.in-Some.symbol
    c.in_ok-inner-in-Minus.inner _ c.in-Some.ensures.next c.in-Minus.is c.in_ok-depth-in-Minus.ensures.deeper.1
    c.in_ok-depth-in-Minus.ensures.deeper.0 c.in_ok-inner-in-Minus.ensures.factor c.negated.ensures

pub factor-returns-in_ok-to-in-Left-clause-factor : goal.factor-returns-in_ok-to-in-Left-clause-factor
factor-returns-in_ok-to-in-Left-clause-factor t c =
    let p = c.args.self.now in
    left_closed p.names.now c.args.depth c.in_ok-depth-in-Left.depth p.text.now p.line c.args.at _ c.in-Some.symbol
    c.in_ok-inner-in-Left.inner c.in-Some.ensures.next c.in-Left.is c.in_ok-depth-in-Left.ensures.deeper.1
    c.in_ok-depth-in-Left.ensures.deeper.0 c.in_ok-inner-in-Left.ensures.value c.in_ok-to-in-Left.ensures.closed

pub factor-returns-in-Literal-clause-factor : goal.factor-returns-in-Literal-clause-factor
factor-returns-in-Literal-clause-factor t c =
    let p = c.args.self.now in
    literal_factor p.names.now c.args.depth p.text.now p.line c.args.at c.in-Some.symbol _ c.in-Some.ensures.next c.in-Literal.is
    c.literal.ensures

pub factor-returns-in-Name-clause-factor : goal.factor-returns-in-Name-clause-factor
factor-returns-in-Name-clause-factor t c =
    let p = c.args.self.now in
    name_factor p.names.now c.args.depth p.text.now p.line c.args.at c.in-Some.symbol _ c.in-Some.ensures.next c.in-Name.is
    c.parameter.ensures

pub factor-returns-in_default-form : goal.factor-returns-in_default-form
factor-returns-in_default-form t c =
    let p = c.args.self.now in
    record {
      further = tt;
      factor = factor_other p.names.now c.args.depth p.text.now p.line c.args.at c.in-Some.symbol
          c.in-Some.ensures.next c.in_default-form.not-Literal c.in_default-form.not-Name c.in_default-form.not-Minus
          c.in_default-form.not-Left;
    }

pub term-returns-in_err-left-clause-term : goal.term-returns-in_err-left-clause-term
term-returns-in_err-left-clause-term t c =
    let p = c.args.self.now in
    let e : c.from_residual.result ≡ Err c.in_err-left.field-0.0 = search rules in
    subst (IsTerm p.names.now c.args.depth p.text.now p.line c.args.at) (sym e)
    (chain_begin_fault 1 joins_factors (λ n. factor n p.names.now c.args.depth) (λ n. term n p.names.now c.args.depth)
    (factors_chain p.names.now c.args.depth) p.text.now p.line c.args.at _ c.in_err-left.ensures.factor)

pub term-loop-operation-init : goal.term-loop-operation-init
term-loop-operation-init t c =
    let p = c.args.self.now in (
      c.in_ok-left.ensures.further,
      chain_begin 1 joins_factors (λ n. factor n p.names.now c.args.depth)
          (λ n. term n p.names.now c.args.depth) (factors_chain p.names.now c.args.depth) p.text.now p.line c.args.at c.in_ok-left.left
          (omega arith) c.in_ok-left.ensures.further c.in_ok-left.ensures.factor,
    )

pub term-returns-in_err-right-clause-term : goal.term-returns-in_err-right-clause-term
term-returns-in_err-right-clause-term t c =
    let p = c.args.self.now in
    let e : c.from_residual-in_err-right.result ≡ Err c.in_err-right.field-0.0 = search rules in
    subst (IsTerm p.names.now c.args.depth p.text.now p.line c.args.at) (sym e)
    (chain_fault 1 joins_factors (λ n. factor n p.names.now c.args.depth) (λ n. term n p.names.now c.args.depth)
    (factors_chain p.names.now c.args.depth) p.text.now p.line c.args.at c.loop-operation.left c.loop-operation.invariant.1 c.in-Some.to
    c.in-Some.operation c.loop-operation.invariant.0 c.in-Some.ensures.operator c.in-Some.ensures.further _
    c.in_err-right.ensures.factor)

pub term-loop-operation-preserved : goal.term-loop-operation-preserved
term-loop-operation-preserved t c =
    let p = c.args.self.now in
    let behind_operator = further_still p.text.now p.line c.loop-operation.left.to c.in-Some.to c.in_ok-right.right.to
    c.in-Some.ensures.further c.in_ok-right.ensures.further in (
      further_still p.text.now p.line c.args.at c.loop-operation.left.to c.in_ok-right.right.to c.loop-operation.invariant.0
          behind_operator,
      chain_more 1 joins_factors (λ n. factor n p.names.now c.args.depth) (λ n. term n p.names.now c.args.depth)
          (factors_chain p.names.now c.args.depth) p.text.now p.line c.args.at c.loop-operation.left c.loop-operation.invariant.1
          c.in-Some.to c.in-Some.operation c.loop-operation.invariant.0 c.in-Some.ensures.operator c.in-Some.ensures.further
          c.in_ok-right.right c.calculated.result c.in_ok-right.ensures.factor c.in_ok-right.ensures.further c.calculated.ensures,
    )

pub term-returns-clause-term : goal.term-returns-clause-term
term-returns-clause-term t c =
    let p = c.args.self.now in
    chain_end 1 joins_factors (λ n. factor n p.names.now c.args.depth) (λ n. term n p.names.now c.args.depth)
    (factors_chain p.names.now c.args.depth) p.text.now p.line c.args.at c.loop-operation.left c.loop-operation.invariant.1
    c.in_default.ensures.operator

pub value-returns-in_err-left-clause-value : goal.value-returns-in_err-left-clause-value
value-returns-in_err-left-clause-value t c =
    let p = c.args.self.now in
    let e : c.from_residual.result ≡ Err c.in_err-left.field-0.0 = search rules in
    subst (IsValue p.names.now c.args.depth p.text.now p.line c.args.at) (sym e)
    (chain_begin_fault 2 joins_terms (λ n. term n p.names.now c.args.depth) (λ n. value n p.names.now c.args.depth)
    (terms_chain p.names.now c.args.depth) p.text.now p.line c.args.at _ c.in_err-left.ensures.term)

pub value-loop-operation-init : goal.value-loop-operation-init
value-loop-operation-init t c =
    let p = c.args.self.now in (
      c.in_ok-left.ensures.further,
      chain_begin 2 joins_terms (λ n. term n p.names.now c.args.depth) (λ n. value n p.names.now c.args.depth)
          (terms_chain p.names.now c.args.depth) p.text.now p.line c.args.at c.in_ok-left.left (omega arith) c.in_ok-left.ensures.further
          c.in_ok-left.ensures.term,
    )

pub value-returns-in_err-right-clause-value : goal.value-returns-in_err-right-clause-value
value-returns-in_err-right-clause-value t c =
    let p = c.args.self.now in
    let e : c.from_residual-in_err-right.result ≡ Err c.in_err-right.field-0.0 = search rules in
    subst (IsValue p.names.now c.args.depth p.text.now p.line c.args.at) (sym e)
    (chain_fault 2 joins_terms (λ n. term n p.names.now c.args.depth) (λ n. value n p.names.now c.args.depth)
    (terms_chain p.names.now c.args.depth) p.text.now p.line c.args.at c.loop-operation.left c.loop-operation.invariant.1 c.in-Some.to
    c.in-Some.operation c.loop-operation.invariant.0 c.in-Some.ensures.operator c.in-Some.ensures.further _ c.in_err-right.ensures.term)

pub value-loop-operation-preserved : goal.value-loop-operation-preserved
value-loop-operation-preserved t c =
    let p = c.args.self.now in
    let behind_operator = further_still p.text.now p.line c.loop-operation.left.to c.in-Some.to c.in_ok-right.right.to
    c.in-Some.ensures.further c.in_ok-right.ensures.further in (
      further_still p.text.now p.line c.args.at c.loop-operation.left.to c.in_ok-right.right.to c.loop-operation.invariant.0
          behind_operator,
      chain_more 2 joins_terms (λ n. term n p.names.now c.args.depth) (λ n. value n p.names.now c.args.depth)
          (terms_chain p.names.now c.args.depth) p.text.now p.line c.args.at c.loop-operation.left c.loop-operation.invariant.1 c.in-Some.to
          c.in-Some.operation c.loop-operation.invariant.0 c.in-Some.ensures.operator c.in-Some.ensures.further
          c.in_ok-right.right c.calculated.result c.in_ok-right.ensures.term c.in_ok-right.ensures.further c.calculated.ensures,
    )

pub value-returns-clause-value : goal.value-returns-clause-value
value-returns-clause-value t c =
    let p = c.args.self.now in
    chain_end 2 joins_terms (λ n. term n p.names.now c.args.depth) (λ n. value n p.names.now c.args.depth)
    (terms_chain p.names.now c.args.depth) p.text.now p.line c.args.at c.loop-operation.left c.loop-operation.invariant.1
    c.in_default.ensures.operator
