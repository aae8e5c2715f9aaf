use Rattle.std.proofs.Common.{◌≡◌, ◌+◌, [], map, drop}
use Rattle.view_top.specs.Choice.{cuts_for}
use Rattle.view_top.proofs.choice.cuts_for.Given as goal

abbrev pub invariant-loop-text : goal.invariant-loop-text
invariant-loop-text l = record {
  rest : cuts_for l.head l.axes [] 1 (map (λ t. t.now) l.texts) ≡ cuts_for l.head l.axes l.given.items l.place (map (λ t. t.now) (drop l.text-index l.texts));
  places : l.place ≡ l.text-index + 1;
}
