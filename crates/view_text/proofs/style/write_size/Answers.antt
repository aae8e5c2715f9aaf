use Rattle.std.proofs.Common.{append_assoc, append-nil, rules, SFits, to_z-of_z}
use Rattle.std.specs.Int.{w128}
use Rattle.view_text.proofs.style.write_size.Goals as goal

pub returns : goal.returns
returns g c =
    let fits : SFits w128 c.height.result = search rules in
    simp append_assoc (rw (append-nil, c.picture_start.ensures, c.size_end.ensures, c.height.ensures, c.y.ensures, c.cuts.ensures) at (simp to_z-of_z at c.write_words.ensures))
