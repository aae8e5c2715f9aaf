use Rattle.std.proofs.Common.{List, [], ℕ, sym, subst, ◌∙◌}
use Rattle.lift_base.specs.Outside.{Wrote}
use Rattle.lift_base.specs.declared.output.WriteFault.{WriteFault}
use Rattle.view_text.specs.Field.{is_shown, leaf_outline}
use Rattle.view_text.proofs.Pieces.{cond_true}
use Rattle.view_text.proofs.field.write_part.Goals as goal

pub returns-then-is_shown : goal.returns-then-is_shown
returns-then-is_shown g c =
    let m = c.args.map.now in
    let s = c.args.slice.now in
    subst (λ (t : List ℕ). Wrote {T = Unit {0}} {E = WriteFault} g.K.Sink.taken g.K.Sink.faults c.args.out.now c.write_leaf.new.out c.write_leaf.result t) (cond_true (is_shown m s c.args.layer c.args.part.now) (leaf_outline m.head.asked.root s.x s.y c.args.part.now) [] (sym c.is_shown.ensures ∙ c.if-is_shown.true)) c.write_leaf.ensures
