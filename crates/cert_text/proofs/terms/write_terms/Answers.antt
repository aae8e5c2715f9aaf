use Rattle.std.proofs.Common.{◌∷◌}
use Prim.Native.Char.{code}
use Rattle.cert_text.specs.Report.{term_word}
use Rattle.cert_text.proofs.Lines.{flat_next}
use Rattle.cert_text.proofs.terms.write_terms.Goals as goal

pub returns-in_err-write_term : goal.returns-in_err-write_term
returns-in_err-write_term g c = c.writes_in_turn.ensures.stops _ _ _ _ _ _ _ _ _ c.from_residual.ensures.0 c.loop-index.invariant (flat_next (λ term. code " " ∷ term_word term) c.args.poly.now c.loop-index.index _ c.term.ensures) c.in_err-write_term.ensures

pub loop-index-preserved : goal.loop-index-preserved
loop-index-preserved g c = c.writes_in_turn.ensures.next _ _ _ _ _ _ _ c.loop-index.invariant (flat_next (λ term. code " " ∷ term_word term) c.args.poly.now c.loop-index.index _ c.term.ensures) c.in_ok-write_term.ensures
