use Rattle.model_gen.proofs.Written.{blocks_none, blocks_more, further}
use Rattle.model_gen.proofs.write_blocks.Goals as goal

pub loop-i-init : goal.loop-i-init
loop-i-init g c = rw (blocks_none c.args.n) (c.writes_in_turn.ensures.nothing _)

pub returns-in_err-write_block : goal.returns-in_err-write_block
returns-in_err-write_block g c =
    rw (further c.args.n c.loop-i.i c.loop-i-test.true).is
    (c.writes_in_turn.ensures.stopped _ _ _ _ _ _ c.from_residual.ensures.0 (c.writes_in_turn.ensures.both _ _ _ _ _ _ c.loop-i.invariant c.in_err-write_block.ensures))

pub loop-i-preserved : goal.loop-i-preserved
loop-i-preserved g c = rw (blocks_more c.args.n c.loop-i.i) (c.writes_in_turn.ensures.both _ _ _ _ _ _ c.loop-i.invariant c.in_ok-write_block.ensures)
