use Rattle.std.proofs.Common.{rules}
use Rattle.lift_grid.specs.Region.{region, Gives}
use Rattle.lift_grid.specs.Parts.{region_of}
use Rattle.lift_grid.proofs.Spans.{read_grid, read_depth}
use Rattle.lift_grid.proofs.region.read_region.Goals as goal

pub returns : goal.returns
unfolding region
returns c =
    let gives : Gives region_of c.over_grid.result (region c.args.names.now c.args.depth c.args.text.now) = search rules in
    let law = c.regions_are_on_grid.ensures in
    record {
      region = gives;
      on_grid = read_grid law c.args.names.now c.args.depth c.args.text.now c.over_grid.result gives;
      depth = read_depth law c.args.names.now c.args.depth c.args.text.now c.over_grid.result gives;
    }
