use Rattle.std.proofs.Common.{ℕ, List, length, subst}
use Rattle.lift_lump.specs.Search.{arrows_into, IsByNumber}
use Rattle.lift_lump.specs.Splitting.{labelled}
use Rattle.lift_lump.proofs.Clearing.{kept_one}
use Rattle.lift_lump.proofs.split.split.Goals as goal

pub returns-clause-kept : goal.returns-clause-kept
returns-clause-kept c =
    let old = c.args.part.now.labels.items in
    let new = c.split_by.new.part.labels.items in
    kept_one (arrows_into c.args.arrows.now) old new c.count.new.room.numbers.items c.in_ok-count.ensures.telling
    (subst (λ (ns : List ℕ). IsByNumber (length old) (labelled old) ns (labelled new)) c.deref.ensures.value c.in_ok-split_by.ensures.numbers)
