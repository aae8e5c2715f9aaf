use Rattle.std.proofs.Common.{refl}
use Rattle.cert_text.proofs.Lines.{region_parts}
use Rattle.cert_text.proofs.head.write_region.Goals as goal

pub returns-in_err-write_scale : goal.returns-in_err-write_scale
returns-in_err-write_scale g c =
    rw (region_parts c.args.case.now c.args.case.now.root refl) (c.writes_in_turn.ensures.stopped _ _ _ _ _ _ c.from_residual.ensures.0 c.in_err-write_scale.ensures)

pub returns : goal.returns
returns g c =
    rw (region_parts c.args.case.now c.root.result.now c.root.ensures.value) (c.writes_in_turn.ensures.both _ _ _ _ _ _ c.in_ok-write_scale.ensures c.write_box.ensures)
