use Rattle.std.proofs.Common.{length, inl, arith, ap}
use Rattle.lift_model.specs.Model.{ModelData}
use Rattle.lower_cert.proofs.lower.allow.Goals as goal

pub returns : goal.returns
returns g c = record { flagged = λ t b has before. c.loop-s.invariant t b has (inl (omega (arith, has.state, c.loop-s-test.false, c.states-s-end.ensures.value, ap (λ (m : ModelData). length m.states) c.model.ensures))) }
