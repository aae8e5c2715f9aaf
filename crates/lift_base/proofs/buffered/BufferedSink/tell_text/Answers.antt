use Rattle.std.proofs.Common.{subst, Option, List, ℕ}
use Rattle.lift_base.specs.Begins.{BeginsWith}
use Rattle.lift_base.proofs.Gathering.{gathered_some, gathered_some_in_part}
use Rattle.lift_base.proofs.buffered.BufferedSink.tell_text.Goals as goal

pub returns-in_err-tell_to : goal.returns-in_err-tell_to
returns-in_err-tell_to g c =
    let reported = c.in_err-tell_to.ensures in
    let new = c.tell_to.new.out in
    gathered_some_in_part (g.T.Telling.is_text c.args.text.now) g.K.Sink.taken g.K.Sink.faults c.args.self.now.inner new.inner _ new.held _ c.from_residual.ensures.0 c.requires.empty
    (subst (λ (o : Option (List ℕ)). BeginsWith o (g.K.Sink.taken new.inner)) c.requires.origin new.begins) reported.part reported.cause reported.later

pub returns : goal.returns
returns g c =
    let reported = c.in_ok-tell_to.ensures in
    let mid = c.tell_to.new.out in
    let new = c.flush.new.self in
    gathered_some (g.T.Telling.is_text c.args.text.now) g.K.Sink.taken g.K.Sink.faults c.args.self.now.inner mid.inner new.inner _ mid.held _ c.requires.empty
    (subst (λ (o : Option (List ℕ)). BeginsWith o (g.K.Sink.taken new.inner)) c.requires.origin new.begins) reported.some reported.whole reported.later c.flush.ensures.wrote
