use Rattle.std.proofs.Common.{rules, append_assoc, ◌≡◌, to_z, of_z}
use Rattle.std.specs.Int.{w128}
use Rattle.cert_text.specs.Report.{scale_lines}
use Rattle.plift_top.proofs.heads.write_grid.Goals as goal

pub returns : goal.returns
unfolding scale_lines
returns g c =
    let d : to_z w128 (of_z w128 c.from-2.result) ≡ c.args.case.now.d = search rules in
    let written = rw (c.from.ensures, c.grid-grid.ensures.depth, d) at c.write_words.ensures in
    simp append_assoc written
