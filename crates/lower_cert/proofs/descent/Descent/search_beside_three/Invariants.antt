use Rattle.std.proofs.Common.{◌≡◌}
use Rattle.corner_lift.specs.Case.{number}
use Rattle.float_guess.specs.Part.{KeepsOthers}
use Rattle.lower_cert.specs.Holding.{holding, IsSearch}
use Rattle.lower_cert.proofs.descent.Descent.search_beside_three.Given as goal

abbrev pub ghost-start_beside : goal.ghost-start_beside
ghost-start_beside g a = g.run

-- the state is held at the number that it has
abbrev pub ghost-fall_alone : goal.ghost-fall_alone
ghost-fall_alone g a = holding g.run a.held.state (number a.lane.now a.held.state)

abbrev pub ghost-keep : goal.ghost-keep
ghost-keep g a = g.run

abbrev pub invariant-loop : goal.invariant-loop
invariant-loop g l = record {
  held : l.search.held ≡ l.initial.search.held;
  search : IsSearch l.self.rows.now.case l.self.rows.now.links g.run l.search;
  kept : KeepsOthers l.self.rows.now.case l.self.rows.now.links l.initial.search.held.part.low l.initial.search.held.part.high l.initial.lane l.lane;
}
