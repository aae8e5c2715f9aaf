use Rattle.std.proofs.Common.{List, ℕ, sym, subst}
use Rattle.lift_lump.specs.Splitting.{AreInside}
use Rattle.lift_lump.proofs.Settling.{inside_opened}
use Rattle.lift_lump.proofs.partition.Partition.open.Goals as goal

pub returns-clause-inside : goal.returns-clause-inside
returns-clause-inside c =
    let part = c.args.self.now in
    subst (λ (ss : List ℕ). AreInside part.labels.items ss c.open.new.self) (sym c.in_ok-push.ensures.items)
    (subst (AreInside part.labels.items _) (sym c.in_ok-open.ensures) (inside_opened part.labels.items part.sizes.items part.members c.requires.inside))
