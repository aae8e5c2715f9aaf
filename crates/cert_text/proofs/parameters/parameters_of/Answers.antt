use Rattle.std.proofs.Common.{map, sym, ap, subst, ◌∙◌, arith}
use Rattle.line_text.specs.Shown.{Says}
use Rattle.cert_text.specs.Shown.{distinct_names}
use Rattle.cert_text.proofs.NameLoop.{parameters_are}
use Rattle.cert_text.proofs.FirstLines.{map_len}
use Rattle.cert_text.proofs.parameters.parameters_of.Goals as goal

pub returns-clause-value : goal.returns-clause-value
returns-clause-value c =
    subst (Says (λ n. n) c.distinct_names.result)
    (ap (λ t. distinct_names (map (λ w. w.now) t)) c.deref.ensures.value ∙ sym (parameters_are c.args.words.now (map (λ w. w.now) c.in_ok-names.names.items) c.in_ok-names.ensures (omega (arith, map_len (λ w. w.now) c.in_ok-names.names.items, c.if-len-gt-MOST_PARAMETERS.false))))
    c.distinct_names.ensures
