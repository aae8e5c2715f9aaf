use Rattle.std.proofs.Common.{refl}
use Rattle.view_top.proofs.Showing.{whole, in_part}
use Rattle.view_top.proofs.shown.write_table.Goals as goal

pub returns-in_err-write_buffered : goal.returns-in_err-write_buffered
returns-in_err-write_buffered g c = in_part g.K.Sink.taken g.K.Sink.faults _ _ _ _ _ c.from_residual.result c.from_residual.ensures.1 refl c.in_err-write_buffered.ensures

pub returns : goal.returns
returns g c = whole g.K.Sink.taken g.K.Sink.faults _ _ _ _ _ _ refl c.in_ok-write_buffered.ensures
