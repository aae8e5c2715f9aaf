use Rattle.std.proofs.Common.{drop, ◌∷◌}
use Rattle.std.specs.List.{flat_map}
use Prim.Native.Char.{code}
use Rattle.lift_base.specs.Laws.{WroteUpTo}
use Rattle.cert_text.specs.Report.{term_word}
use Rattle.cert_text.proofs.terms.write_terms.Given as goal

abbrev pub invariant-loop-index : goal.invariant-loop-index
invariant-loop-index g l = WroteUpTo g.K.Sink.taken g.K.Sink.faults l.fn.out l.out (flat_map (λ term. code " " ∷ term_word term) l.poly) (flat_map (λ term. code " " ∷ term_word term) (drop l.index l.poly))
