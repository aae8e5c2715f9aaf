use Rattle.std.proofs.Common.{ℕ, List, map, ap, Vec}
use Rattle.std.specs.declared.alloc.Global.{Global}
use Rattle.std.specs.Borrow.{Bor}
use Rattle.view_map.specs.Slice.{CutData, SliceData}
use Rattle.view_words.specs.Given.{wish_data}
use Rattle.view_top.specs.Choice.{slice_for}
use Rattle.view_top.proofs.Choosing.{no_memory, no_axes, no_values, has_slice}
use Rattle.view_top.proofs.choice.slice_for.Goals as goal

pub returns-in_err-axes : goal.returns-in_err-axes
returns-in_err-axes c = no_axes c.args.head.now (wish_data c.args.wish.now) _ c.from_residual.result c.from_residual.ensures.1 (rw (c.names.ensures.value, c.model.ensures) at c.in_err-axes.ensures)

pub returns-in_err-chosen : goal.returns-in_err-chosen
returns-in_err-chosen c = no_memory {X = SliceData} {Y = SliceData} (λ s. s) (slice_for c.args.head.now (wish_data c.args.wish.now)) c.from_residual-in_err-chosen.result c.from_residual-in_err-chosen.ensures.1

pub returns-in_err-given : goal.returns-in_err-given
returns-in_err-given c =
    no_values c.args.head.now (wish_data c.args.wish.now) c.in_ok-axes.axes c.in_ok-chosen.chosen (rw (c.names.ensures.value, c.model.ensures) at c.in_ok-axes.ensures) c.in_ok-chosen.ensures (λ (cuts : Vec CutData Global). cuts.items) _ _ c.from_residual-in_err-given.result c.from_residual-in_err-given.ensures.1
    (ap (map (λ (t : Bor (List ℕ)). t.now)) c.deref.ensures.value) c.in_err-given.ensures

pub returns-in_err-slice_of : goal.returns-in_err-slice_of
returns-in_err-slice_of c = no_memory {X = SliceData} {Y = SliceData} (λ s. s) (slice_for c.args.head.now (wish_data c.args.wish.now)) c.from_residual-in_err-slice_of.result c.from_residual-in_err-slice_of.ensures.1

pub returns : goal.returns
returns c =
    has_slice c.args.head.now (wish_data c.args.wish.now) c.in_ok-axes.axes c.in_ok-chosen.chosen (rw (c.names.ensures.value, c.model.ensures) at c.in_ok-axes.ensures) c.in_ok-chosen.ensures c.in_ok-given.given.items c.in_ok-slice_of.field-0
    (rw c.deref.ensures.value at c.in_ok-given.ensures) (rw c.deref-2.ensures.value at c.in_ok-slice_of.ensures)
