use Rattle.std.proofs.Common.{◌≡◌, ◌*◌, ◌++◌, List, ℤ, length, map, take, ap, ◌∙◌, arith, length-append}
use Rattle.std.proofs.lemmas.List.{length-map}
use Rattle.lift_model.specs.declared.entry.Entry.{Entry}
use Rattle.corner_lift.specs.Ends.{weight_at}
use Rattle.corner_lift.proofs.Filling.{part_written}
use Rattle.corner_lift.proofs.table.fill_pair_at.Goals as goal

pub returns : goal.returns
returns c =
    let row = c.args.row.now in
    let low : List ℤ = map (λ (entry : Entry). weight_at c.args.case.now.d c.args.pair.now.low entry.poly) row in
    let high : List ℤ = map (λ (entry : Entry). weight_at c.args.case.now.d c.args.pair.now.high entry.poly) row in
    let size : length c.fill_both.new.weights ≡ 2 * length row = ap (length {A = ℤ}) c.fill_both.ensures ∙ length-append low high
    ∙ omega (
      arith,
      length-map row (λ (entry : Entry). weight_at c.args.case.now.d c.args.pair.now.low entry.poly),
      length-map row (λ (entry : Entry). weight_at c.args.case.now.d c.args.pair.now.high entry.poly),
    ) in
    part_written c.args.place (2 * length row) c.args.weights.now c.fill_both.new.weights _ (omega (arith, c.requires.space)) size
    ∙ ap (λ (part : List ℤ). take c.args.place c.args.weights.now ++ part) c.fill_both.ensures
