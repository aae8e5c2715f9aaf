use Rattle.std.proofs.Common.{◌≡◌, ◌∙◌, None, Some, sym, ap, subst}
use Rattle.std.specs.List.{list_all}
use Rattle.lift_grid.specs.Rectangle.{AreSides, spans_of}
use Rattle.lift_finer.specs.Finer.{finer_sides, is_small}
use Rattle.lift_finer.proofs.Rectangles.{ends_small, made, made_sides, made_rect, not_made}
use Rattle.lift_finer.proofs.finer.finer_rect.Goals as goal

pub finer_sides-requires-clause-sides : goal.finer_sides-requires-clause-sides
finer_sides-requires-clause-sides c = ap (list_all is_small) c.sides.ensures.sides ∙ ends_small c.args.root.now c.sides.ensures.spans

pub returns-in_default : goal.returns-in_default
returns-in_default c =
    let none : None ≡ finer_sides c.args.n c.sides.result.now = rw c.in_default.is at c.in_ok-sides.ensures in
    not_made c.args.n c.args.root.now c.sides.result.now c.sides.ensures.sides none

pub from_sides-requires : goal.from_sides-requires
from_sides-requires c =
    let given : Some c.in-Some.sides.items ≡ finer_sides c.args.n c.sides.result.now = rw c.in-Some.is at c.in_ok-sides.ensures in
    let ends = made c.args.n c.args.root.now c.sides.result.now c.in-Some.sides.items c.sides.ensures.sides given in
    subst AreSides (sym c.deref.ensures.value) (made_sides c.args.n c.args.root.now c.in-Some.sides.items c.requires.n.0 c.sides.ensures.spans ends)

pub returns : goal.returns
returns c =
    let given : Some c.in-Some.sides.items ≡ finer_sides c.args.n c.sides.result.now = rw c.in-Some.is at c.in_ok-sides.ensures in
    let ends = made c.args.n c.args.root.now c.sides.result.now c.in-Some.sides.items c.sides.ensures.sides given in
    made_rect c.args.n c.args.root.now c.in-Some.sides.items c.in_ok-rect.rect ends (c.in_ok-rect.ensures ∙ ap spans_of c.deref.ensures.value)
