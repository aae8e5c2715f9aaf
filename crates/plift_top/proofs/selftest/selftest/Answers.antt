use Rattle.std.proofs.Common.{refl}
use Rattle.plift_top.proofs.Testing.{not_counted, line_written, line_cut}
use Rattle.plift_top.proofs.selftest.selftest.Goals as goal

pub returns-in_err-leaves : goal.returns-in_err-leaves
returns-in_err-leaves g c = not_counted g.K.Sink.taken g.K.Sink.faults _ _ c.in_ok-report.ensures _ c.in_err-leaves.ensures c.in_err-leaves.field-0.0 refl c.from_residual-in_err-leaves.result c.args.out.now c.from_residual-in_err-leaves.ensures.1

pub returns-in_err-write_tested : goal.returns-in_err-write_tested
returns-in_err-write_tested g c = line_cut g.K.Sink.taken g.K.Sink.faults _ _ c.in_ok-report.ensures _ c.in_ok-leaves.ensures c.in_ok-leaves.leaves refl c.args.out.now c.write_tested.new.out _ c.from_residual-in_err-write_tested.result c.from_residual-in_err-write_tested.ensures.1 c.in_err-write_tested.ensures

pub returns : goal.returns
returns g c = line_written g.K.Sink.taken g.K.Sink.faults _ _ c.in_ok-report.ensures _ c.in_ok-leaves.ensures c.in_ok-leaves.leaves refl c.args.out.now c.write_tested.new.out _ c.in_ok-write_tested.ensures
