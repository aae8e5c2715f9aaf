use Rattle.std.proofs.Common.{refl, sym, ◌∙◌}
use Rattle.view_follow.proofs.Telling.{passes_byte, passes_node}
use Rattle.view_follow.proofs.progress.Progress.take.Goals as goal

pub returns-in-Some : goal.returns-in-Some
returns-in-Some g c =
    passes_node g.E.Sink.taken g.E.Sink.faults _ _ c.args.self.now c.meet.new.self c.tell.new.self c.args.byte c.in-Some.node (sym c.behind-line.ensures.node ∙ c.in-Some.is) c.meet.ensures.state c.meet.ensures.lines c.tell.ensures.state (c.tell.ensures.line ∙ c.meet.ensures.line ∙ c.behind-line.ensures.line) c.tell.ensures.lines c.tell.ensures.reported

pub returns-in_default : goal.returns-in_default
returns-in_default g c =
    passes_byte g.E.Sink.taken g.E.Sink.faults _ c.args.self.now _ c.args.byte (sym c.behind-line.ensures.node ∙ c.in_default.is) refl c.behind-line.ensures.line refl
