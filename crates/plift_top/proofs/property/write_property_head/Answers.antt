use Rattle.std.proofs.Common.{refl}
use Rattle.plift_top.specs.Property.{property_line, property_lines}
use Rattle.plift_top.proofs.HeadedTexts.{head_parts}
use Rattle.plift_top.proofs.property.write_property_head.Goals as goal

pub returns-in_err-write_all : goal.returns-in_err-write_all
returns-in_err-write_all g c =
    let q = c.args.asked.now in
    rw (head_parts (property_line q.from) q.case.now q.from (property_lines q.op q.bound) q.case.now.model refl)
    (c.writes_in_turn.ensures.stopped _ _ _ _ _ _ c.from_residual.ensures.0 (rw c.version_line.ensures at c.in_err-write_all.ensures.wrote))

pub returns-in_err-write_model : goal.returns-in_err-write_model
returns-in_err-write_model g c =
    let q = c.args.asked.now in
    rw (head_parts (property_line q.from) q.case.now q.from (property_lines q.op q.bound) c.model.result.now c.model.ensures.value)
    (c.writes_in_turn.ensures.both _ _ _ _ _ _ (rw c.version_line.ensures at c.in_ok-write_all.ensures.wrote) (c.writes_in_turn.ensures.stopped _ _ _ _ _ _ c.from_residual-in_err-write_model.ensures.0 c.in_err-write_model.ensures))

pub returns-in_err-write_asked : goal.returns-in_err-write_asked
returns-in_err-write_asked g c =
    let q = c.args.asked.now in
    rw (head_parts (property_line q.from) q.case.now q.from (property_lines q.op q.bound) c.model.result.now c.model.ensures.value)
    (c.writes_in_turn.ensures.both _ _ _ _ _ _ (rw c.version_line.ensures at c.in_ok-write_all.ensures.wrote)
    (c.writes_in_turn.ensures.both _ _ _ _ _ _ c.in_ok-write_model.ensures (c.writes_in_turn.ensures.stopped _ _ _ _ _ _ c.from_residual-in_err-write_asked.ensures.0 c.in_err-write_asked.ensures)))

pub returns : goal.returns
returns g c =
    let q = c.args.asked.now in
    rw (head_parts (property_line q.from) q.case.now q.from (property_lines q.op q.bound) c.model.result.now c.model.ensures.value)
    (c.writes_in_turn.ensures.both _ _ _ _ _ _ (rw c.version_line.ensures at c.in_ok-write_all.ensures.wrote)
    (c.writes_in_turn.ensures.both _ _ _ _ _ _ c.in_ok-write_model.ensures (c.writes_in_turn.ensures.both _ _ _ _ _ _ c.in_ok-write_asked.ensures c.write_fineness.ensures)))
