use Rattle.std.proofs.Common.{◌≡◌, ◌-◌, ◌^◌, ℤ, Some, SFits, w64, to_z-of_z, rules, arith, sym, subst, length, if◌then◌else◌, None}
use Rattle.std.specs.List.{list_all}
use Rattle.lift_grid.specs.Rectangle.{IsOnGrid}
use Rattle.lift_grid.specs.Region.{is_narrow}
use Rattle.lift_finer.specs.Finer.{finer_number, finer_spans}
use Rattle.lift_finer.proofs.Rectangles.{fine_enough, found_on_grid}
use Rattle.lift_finer.proofs.finer.finer_region.Goals as goal

pub finer_number-requires-clause-n : goal.finer_number-requires-clause-n
finer_number-requires-clause-n c = (fine_enough (c.args.depth - c.args.grid.depth) c.pow-n.result (omega (arith, c.requires.depth.1)) c.pow-n.ensures).1

pub finer_rect-requires : goal.finer_rect-requires
finer_rect-requires c = record { n = fine_enough (c.args.depth - c.args.grid.depth) c.pow-n.result (omega (arith, c.requires.depth.1)) c.pow-n.ensures }

pub returns-clause-on_grid : goal.returns-clause-on_grid
returns-clause-on_grid c =
    let wide : SFits w64 c.args.grid.d = search rules in
    let fits : SFits w64 c.in-Some.d = search rules in
    let given : Some c.in-Some.d ≡ finer_number (2 ^ (c.args.depth - c.args.grid.depth)) c.args.grid.d = rw (c.pow-n.ensures, to_z-of_z wide) at c.in-Some.ensures in
    let made : Some c.in-Some-2.rect ≡ (if list_all is_narrow (finer_spans (2 ^ (c.args.depth - c.args.grid.depth)) c.args.root.now) then Some (finer_spans (2 ^ (c.args.depth - c.args.grid.depth)) c.args.root.now) else None) = rw (c.pow-n.ensures, c.in-Some-2.is) at c.in_ok-rect.ensures in
    let on = found_on_grid c.args.grid.d c.args.grid.depth c.args.depth (length c.args.root.now) c.args.root.now c.in-Some-2.rect c.in-Some.d c.requires.depth.0 c.requires.grid given made in
    subst (λ (z : ℤ). IsOnGrid z c.args.depth (length c.args.root.now) c.in-Some-2.rect) (sym (to_z-of_z fits)) on
