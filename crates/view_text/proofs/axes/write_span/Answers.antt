use Rattle.std.proofs.Common.{◌≡◌, rules, SFits, w64, to_z-of_z, ap, ◌∙◌}
use Rattle.lift_grid.specs.Rectangle.{Spans}
use Rattle.view_map.specs.Slice.{span_at}
use Rattle.view_text.proofs.axes.write_span.Goals as goal

pub returns-in_err-write_all : goal.returns-in_err-write_all
returns-in_err-write_all g c = c.writes_in_turn.ensures.stopped _ _ _ _ _ _ c.from_residual.ensures.0 (rw (c.name_start.ensures) at c.in_err-write_all.ensures.wrote)

pub returns-in_err-write_label : goal.returns-in_err-write_label
returns-in_err-write_label g c = c.writes_in_turn.ensures.both _ _ _ _ _ _ (rw (c.name_start.ensures) at c.in_ok-write_all.ensures.wrote) (c.writes_in_turn.ensures.stopped _ _ _ _ _ _ c.from_residual-in_err-write_label.ensures.0 c.in_err-write_label.ensures)

pub returns-in_err-write_all-2 : goal.returns-in_err-write_all-2
returns-in_err-write_all-2 g c = c.writes_in_turn.ensures.both _ _ _ _ _ _ (rw (c.name_start.ensures) at c.in_ok-write_all.ensures.wrote) (c.writes_in_turn.ensures.both _ _ _ _ _ _ c.in_ok-write_label.ensures (c.writes_in_turn.ensures.stopped _ _ _ _ _ _ c.from_residual-in_err-write_all-2.ensures.0 (rw (c.ends_start.ensures) at c.in_err-write_all-2.ensures.wrote)))

pub returns-in_err-write_ends : goal.returns-in_err-write_ends
returns-in_err-write_ends g c =
    let low : SFits w64 c.span_at-span.result.0 = search rules in
    let high : SFits w64 c.span_at-span.result.1 = search rules in
    let root = c.sides.ensures.same ∙ c.root.ensures in
    let span : c.span_at-span.result ≡ span_at c.args.head.now.asked.root c.args.parameter = c.span_at-span.ensures ∙ ap (λ (ss : Spans). span_at ss c.args.parameter) root in
    c.writes_in_turn.ensures.both _ _ _ _ _ _ (rw (c.name_start.ensures) at c.in_ok-write_all.ensures.wrote) (c.writes_in_turn.ensures.both _ _ _ _ _ _ c.in_ok-write_label.ensures (c.writes_in_turn.ensures.both _ _ _ _ _ _ (rw (c.ends_start.ensures) at c.in_ok-write_all-2.ensures.wrote) (c.writes_in_turn.ensures.stopped _ _ _ _ _ _ c.from_residual-in_err-write_ends.ensures.0 (rw span at (simp to_z-of_z at c.in_err-write_ends.ensures)))))

pub returns-in_err-write_all-3 : goal.returns-in_err-write_all-3
returns-in_err-write_all-3 g c =
    let low : SFits w64 c.span_at-span.result.0 = search rules in
    let high : SFits w64 c.span_at-span.result.1 = search rules in
    let root = c.sides.ensures.same ∙ c.root.ensures in
    let span : c.span_at-span.result ≡ span_at c.args.head.now.asked.root c.args.parameter = c.span_at-span.ensures ∙ ap (λ (ss : Spans). span_at ss c.args.parameter) root in
    c.writes_in_turn.ensures.both _ _ _ _ _ _ (rw (c.name_start.ensures) at c.in_ok-write_all.ensures.wrote) (c.writes_in_turn.ensures.both _ _ _ _ _ _ c.in_ok-write_label.ensures (c.writes_in_turn.ensures.both _ _ _ _ _ _ (rw (c.ends_start.ensures) at c.in_ok-write_all-2.ensures.wrote) (c.writes_in_turn.ensures.both _ _ _ _ _ _ (rw span at (simp to_z-of_z at c.in_ok-write_ends.ensures)) (c.writes_in_turn.ensures.stopped _ _ _ _ _ _ c.from_residual-in_err-write_all-3.ensures.0 c.in_err-write_all-3.ensures.wrote))))

pub returns : goal.returns
returns g c =
    let low : SFits w64 c.span_at-span.result.0 = search rules in
    let high : SFits w64 c.span_at-span.result.1 = search rules in
    let root = c.sides.ensures.same ∙ c.root.ensures in
    let span : c.span_at-span.result ≡ span_at c.args.head.now.asked.root c.args.parameter = c.span_at-span.ensures ∙ ap (λ (ss : Spans). span_at ss c.args.parameter) root in
    c.writes_in_turn.ensures.both _ _ _ _ _ _ (rw (c.name_start.ensures) at c.in_ok-write_all.ensures.wrote) (c.writes_in_turn.ensures.both _ _ _ _ _ _ c.in_ok-write_label.ensures (c.writes_in_turn.ensures.both _ _ _ _ _ _ (rw (c.ends_start.ensures) at c.in_ok-write_all-2.ensures.wrote) (c.writes_in_turn.ensures.both _ _ _ _ _ _ (rw span at (simp to_z-of_z at c.in_ok-write_ends.ensures)) (c.writes_in_turn.ensures.both _ _ _ _ _ _ c.in_ok-write_all-3.ensures.wrote (rw span at (simp to_z-of_z at c.write_ticks.ensures))))))
