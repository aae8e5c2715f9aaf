use Rattle.model_gen.proofs.Written.{text_parts}
use Rattle.model_gen.proofs.generate.Goals as goal

pub returns-in_err-write_head : goal.returns-in_err-write_head
returns-in_err-write_head g c = rw (text_parts c.args.blocks) (c.writes_in_turn.ensures.stopped _ _ _ _ _ _ c.from_residual.ensures.0 c.in_err-write_head.ensures)

pub returns-in_err-write_blocks : goal.returns-in_err-write_blocks
returns-in_err-write_blocks g c =
    rw (text_parts c.args.blocks)
    (c.writes_in_turn.ensures.both _ _ _ _ _ _ c.in_ok-write_head.ensures (c.writes_in_turn.ensures.stopped _ _ _ _ _ _ c.from_residual-in_err-write_blocks.ensures.0 (rw c.from-n.ensures at c.in_err-write_blocks.ensures)))

pub returns : goal.returns
returns g c =
    rw (text_parts c.args.blocks)
    (c.writes_in_turn.ensures.both _ _ _ _ _ _ c.in_ok-write_head.ensures (c.writes_in_turn.ensures.both _ _ _ _ _ _ (rw c.from-n.ensures at c.in_ok-write_blocks.ensures) (rw c.from-n.ensures at c.write_last.ensures)))
