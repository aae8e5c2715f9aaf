use Rattle.std.proofs.Common.{◌≡◌, ◌<◌, List, [], ◌∷◌, ◌++◌, length, set, get_or, Vec, Global, ap, ap₂, ◌∙◌, sym, arith}
use Rattle.std.proofs.lemmas.List.{map-set, get_or-map, length-map}
use Rattle.lift_lump.proofs.lists.Lists.push.Goals as goal

pub returns : goal.returns
returns g c =
    let f : Vec g.row.T.Denot Global → List g.row.T.Denot = λ v. v.items in
    let lists = c.self.inside.lists.items in
    let inside : c.args.i < length lists = omega (arith, c.requires, ap length c.self.view_is, length-map lists f) in
    let before : c.index_mut.result.now.items ≡ get_or c.args.self.now c.args.i [] = ap f c.index_mut.ensures.value ∙ sym (get_or-map f lists c.args.i c.index_mut.result.now [] inside) ∙ ap (λ (xs : List (List g.row.T.Denot)). get_or xs c.args.i []) c.self.view_is in
    map-set f lists c.args.i c.push.new.self ∙ ap₂ (λ (xs : List (List g.row.T.Denot)). λ (x : List g.row.T.Denot). set xs c.args.i x) c.self.view_is (c.in_ok-push.ensures.items ∙ ap (λ (x : List g.row.T.Denot). x ++ c.args.value ∷ []) before)
