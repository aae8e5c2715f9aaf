use Rattle.std.proofs.Common.{◌≡◌, drop}
use Rattle.cert_text.specs.Nodes.{fit_states}
use Rattle.cert_text.proofs.marks.fit_states.Given as goal

abbrev pub invariant-loop-s : goal.invariant-loop-s
invariant-loop-s l = fit_states l.model.goal l.picks l.ranks ≡ fit_states (drop l.s l.model.goal) (drop l.s l.picks) (drop l.s l.ranks)
