use Rattle.std.proofs.Common.{◌≡◌, ◌==◌, false, rules}
use Rattle.view_text.proofs.title.write_range.Goals as goal

pub returns : goal.returns
returns g c =
    let differ : (c.args.least == c.args.greatest) ≡ false = search rules in
    rw differ (rw c.from.ensures at c.write_words.ensures)
