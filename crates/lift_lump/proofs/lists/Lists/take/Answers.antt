use Rattle.std.proofs.Common.{List, set, Vec, Global, ap, ap₂, ◌∙◌}
use Rattle.std.proofs.lemmas.List.{map-set}
use Rattle.lift_lump.proofs.lists.Lists.take.Goals as goal

pub returns-clause-rest : goal.returns-clause-rest
returns-clause-rest g c =
    let f : Vec g.row.T.Denot Global → List g.row.T.Denot = λ v. v.items in
    map-set f c.self.inside.lists.items c.args.i c.replace.new.dest ∙ ap₂ (λ (xs : List (List g.row.T.Denot)). λ (x : List g.row.T.Denot). set xs c.args.i x) c.self.view_is (ap f c.replace.ensures.after ∙ c.new.ensures.items)
