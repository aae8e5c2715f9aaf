use Rattle.lift_collapse.proofs.lanes.Lanes.guess.Given as goal

abbrev pub ghost-guess_one : goal.ghost-guess_one
ghost-guess_one g a = g.spans

abbrev pub ghost-guess_avoiding : goal.ghost-guess_avoiding
ghost-guess_avoiding g a = g.spans
