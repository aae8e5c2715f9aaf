use Rattle.std.proofs.Common.{◌≡◌, ◌++◌, map, take}
use Rattle.std.specs.List.{concat}
use Rattle.lift_model.specs.Model.{choices}
use Rattle.lift_model.specs.Links.{targets_of}
use Rattle.lift_model.specs.Layout.{IsLaid}
use Rattle.lift_model.proofs.layout.push_rows.Given as goal

-- the choices so far were laid out
abbrev pub invariant-loop-a : goal.invariant-loop-a
invariant-loop-a l = record {
  laid : IsLaid l.model l.layout l.s l.a;
  targets : l.layout.targets.items ≡ l.initial.layout.targets.items ++ concat (map targets_of (take l.a (choices l.model l.s)));
}
