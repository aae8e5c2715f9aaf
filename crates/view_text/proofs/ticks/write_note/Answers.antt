use Rattle.std.specs.Prelude.{◌||◌}
use Rattle.std.proofs.Common.{List, [], ℕ, sym, subst, ◌∙◌}
use Rattle.lift_base.specs.Outside.{Wrote}
use Rattle.lift_base.specs.declared.output.WriteFault.{WriteFault}
use Rattle.view_text.specs.Axes.{has_ticks}
use Rattle.view_text.specs.Style.{rounded_note}
use Rattle.view_text.proofs.Pieces.{cond_true}
use Rattle.view_text.proofs.ticks.write_note.Goals as goal

pub returns-then-is_ticked : goal.returns-then-is_ticked
returns-then-is_ticked g c =
    let h = c.args.head.now in
    let s = c.args.slice.now in
    subst (λ (t : List ℕ). Wrote {T = Unit {0}} {E = WriteFault} g.K.Sink.taken g.K.Sink.faults c.args.out.now c.write_all.new.out c.write_all.result t) (cond_true (has_ticks h s.x || has_ticks h s.y) rounded_note [] (sym c.is_ticked.ensures ∙ c.if-is_ticked.true)) c.write_all.ensures.wrote
