use Rattle.std.proofs.Common.{arith}
use Rattle.plift_top.proofs.Testing.{counted, text_fits}
use Rattle.plift_top.proofs.selftest.text_of.Goals as goal

pub unreachable-requires : goal.unreachable-requires
unreachable-requires c =
    text_fits c.ladders_are_cases.ensures.short c.args.ladder.now.blocks c.args.ladder.now.in_range.1 c.write_to.new.out.bytes.items (rw c.in_ok-text.ensures.0 at c.in-Err.ensures.part)
    (omega (arith, c.write_to.new.out.full (counted _ (rw c.in_ok-text.ensures.1 at c.in-Err.ensures.cause)), c.write_to.new.out.bytes.ok.0))
