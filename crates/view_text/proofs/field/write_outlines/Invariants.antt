use Rattle.std.proofs.Common.{drop}
use Rattle.std.specs.List.{flat_map}
use Rattle.lift_base.specs.Laws.{WroteUpTo}
use Rattle.view_text.specs.Field.{shown_outline}
use Rattle.view_text.proofs.field.write_outlines.Given as goal

abbrev pub invariant-loop-part : goal.invariant-loop-part
invariant-loop-part g l = WroteUpTo g.K.Sink.taken g.K.Sink.faults l.fn.out l.out (flat_map (shown_outline l.map l.slice l.layer) l.part-items) (flat_map (shown_outline l.map l.slice l.layer) (drop l.part-index l.part-items))
