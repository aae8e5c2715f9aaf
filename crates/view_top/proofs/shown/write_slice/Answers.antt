use Rattle.std.proofs.Common.{ap, refl}
use Rattle.view_words.specs.Given.{wish_data}
use Rattle.view_top.specs.Shown.{picture_of}
use Rattle.view_top.proofs.Showing.{whole, in_part, no_slice_at}
use Rattle.view_top.proofs.shown.write_slice.Goals as goal

pub returns-in_err-slice : goal.returns-in_err-slice
returns-in_err-slice g c = no_slice_at g.K.Sink.taken g.K.Sink.faults _ _ c.args.map.now _ (wish_data c.args.wish.now) c.head.ensures _ c.from_residual.result c.from_residual.ensures.1 c.in_err-slice.ensures refl

pub returns-in_err-write_buffered : goal.returns-in_err-write_buffered
returns-in_err-write_buffered g c =
    in_part g.K.Sink.taken g.K.Sink.faults _ _ _ _ _ c.from_residual-in_err-write_buffered.result c.from_residual-in_err-write_buffered.ensures.1 (ap (picture_of c.args.map.now) (rw c.head.ensures at c.in_ok-slice.ensures)) c.in_err-write_buffered.ensures

pub returns : goal.returns
returns g c = whole g.K.Sink.taken g.K.Sink.faults _ _ _ _ _ _ (ap (picture_of c.args.map.now) (rw c.head.ensures at c.in_ok-slice.ensures)) c.in_ok-write_buffered.ensures
