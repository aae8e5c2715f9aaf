use Rattle.std.proofs.Common.{rules, SFits, to_z-of_z}
use Rattle.std.specs.Int.{w128}
use Rattle.view_text.specs.Style.{cut_start}
use Rattle.view_text.proofs.style.write_cut_start.Goals as goal

pub returns : goal.returns
unfolding cut_start
returns g c =
    let fits : SFits w128 c.line_place.result = search rules in
    rw c.line_place.ensures at (simp to_z-of_z at c.write_words.ensures)
