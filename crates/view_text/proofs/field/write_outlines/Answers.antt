use Rattle.std.proofs.Common.{◌≡◌, List, ap, sym, ◌∙◌}
use Rattle.std.specs.List.{flat_map}
use Rattle.view_map.specs.Parts.{PartData}
use Rattle.view_text.specs.Field.{is_shown, leaf_outline, outlines, shown_outline}
use Rattle.view_text.proofs.Pieces.{flat_end, flat_filter, flat_item}
use Rattle.view_text.proofs.field.write_outlines.Goals as goal

pub returns-in_err-write_part : goal.returns-in_err-write_part
returns-in_err-write_part g c =
    let m = c.args.map.now in
    let s = c.args.slice.now in
    let all : outlines m s c.args.layer ≡ flat_map (shown_outline m s c.args.layer) c.parts-part-items.result.now =
    flat_filter (leaf_outline m.head.asked.root s.x s.y) (is_shown m s c.args.layer) m.parts
    ∙ ap (λ (ps : List PartData). flat_map (shown_outline m s c.args.layer) ps) (sym c.parts-part-items.ensures) in
    rw all (c.writes_in_turn.ensures.stops _ _ _ _ _ _ _ _ _ c.from_residual.ensures.0 c.loop-part.invariant (flat_item (shown_outline m s c.args.layer) _ _ c.part-item.result c.loop-part-test.true c.part-item.is) c.in_err-write_part.ensures)

pub loop-part-preserved : goal.loop-part-preserved
loop-part-preserved g c =
    c.writes_in_turn.ensures.next _ _ _ _ _ _ _ c.loop-part.invariant (flat_item (shown_outline c.args.map.now c.args.slice.now c.args.layer) _ _ c.part-item.result c.loop-part-test.true c.part-item.is) c.in_ok-write_part.ensures

pub returns : goal.returns
returns g c =
    let m = c.args.map.now in
    let s = c.args.slice.now in
    let ps = c.parts-part-items.result.now in
    let all : outlines m s c.args.layer ≡ flat_map (shown_outline m s c.args.layer) ps =
    flat_filter (leaf_outline m.head.asked.root s.x s.y) (is_shown m s c.args.layer) m.parts
    ∙ ap (λ (qs : List PartData). flat_map (shown_outline m s c.args.layer) qs) (sym c.parts-part-items.ensures) in
    let none = flat_end (shown_outline m s c.args.layer) ps c.loop-part.part-index c.loop-part-test.false in
    rw all (c.writes_in_turn.ensures.ends _ _ _ (rw none at c.loop-part.invariant))
