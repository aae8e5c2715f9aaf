use Rattle.std.proofs.Common.{subst, Option, List, ℕ}
use Rattle.lift_base.specs.Begins.{BeginsWith}
use Rattle.lift_base.proofs.Gathering.{gathered, gathered_in_part}
use Rattle.lift_base.proofs.buffered.BufferedSink.write_text.Goals as goal

pub returns-in_err-write_to : goal.returns-in_err-write_to
returns-in_err-write_to g c =
    let wrote = c.in_err-write_to.ensures in
    let new = c.write_to.new.out in
    gathered_in_part g.K.Sink.taken g.K.Sink.faults c.args.self.now.inner new.inner _ new.held _ _ c.from_residual.ensures.0 c.requires.empty
    (subst (λ (o : Option (List ℕ)). BeginsWith o (g.K.Sink.taken new.inner)) c.requires.origin new.begins) wrote.part wrote.cause wrote.later

pub returns : goal.returns
returns g c =
    let wrote = c.in_ok-write_to.ensures in
    let mid = c.write_to.new.out in
    let new = c.flush.new.self in
    gathered g.K.Sink.taken g.K.Sink.faults c.args.self.now.inner mid.inner new.inner _ mid.held _ _ c.requires.empty
    (subst (λ (o : Option (List ℕ)). BeginsWith o (g.K.Sink.taken new.inner)) c.requires.origin new.begins) wrote.whole wrote.calm c.flush.ensures.wrote
