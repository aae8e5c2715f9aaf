use Rattle.std.proofs.Common.{◌≡◌, false, map, string_bytes, sym}
use Rattle.plift_words.specs.Line.{is_property, is_cost}
use Rattle.plift_words.proofs.command.asking_job.Goals as goal

pub returns-else-is_cost : goal.returns-else-is_cost
returns-else-is_cost c =
    let words = map string_bytes c.args.words.now in
    let no : is_property words ≡ false = sym c.if-is_property.ensures in
    let none : is_cost words ≡ false = sym c.if-is_cost.ensures in
    rw (no, none) (rw c.is_lumped.ensures at c.job_in.ensures)
