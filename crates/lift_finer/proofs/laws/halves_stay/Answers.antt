use Rattle.lift_finer.proofs.Scaled.{split_axes_stay, halves_stay}
use Rattle.lift_finer.proofs.laws.halves_stay.Goals as goal

pub returns : goal.returns
returns c = record { axes = split_axes_stay; halves = halves_stay }
