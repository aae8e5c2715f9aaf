use Rattle.cert_check.proofs.Unique.{answers_one}
use Rattle.cert_check.proofs.laws.answers_are_one.Goals as goal

pub returns : goal.returns
returns c =
    let misses = c.first_miss_is_one.ensures in
    let faults = c.first_fault_is_one.ensures in
    let placed = c.rectangles_are_placed.ensures in
    answers_one misses.one misses.none misses.one_reject misses.none_reject faults.one faults.none placed.root placed.halves c.heads_are_read.ensures.reported
