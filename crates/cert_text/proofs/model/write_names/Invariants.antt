use Rattle.std.proofs.Common.{drop, ◌∷◌}
use Rattle.std.specs.List.{flat_map}
use Prim.Native.Char.{code}
use Rattle.lift_base.specs.Laws.{WroteUpTo}
use Rattle.cert_text.proofs.model.write_names.Given as goal

abbrev pub invariant-loop-place : goal.invariant-loop-place
invariant-loop-place g l = WroteUpTo g.K.Sink.taken g.K.Sink.faults l.fn.out l.out (flat_map (λ name. code " " ∷ name) l.names) (flat_map (λ name. code " " ∷ name) (drop l.place l.names))
