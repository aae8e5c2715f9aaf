use Rattle.std.proofs.Common.{◌≡◌, List, ◌∷◌, [], None, map, rules, refl, sym, ap, subst, ◌∙◌}
use Rattle.lift_model.specs.Valid.{IsModel}
use Rattle.drn_read.specs.Faults.{first_of, reported}
use Rattle.drn_read.specs.States.{StateText}
use Rattle.drn_read.specs.Judging.{Said}
use Rattle.drn_read.specs.Reading.{end_fault, common_fault, model}
use Rattle.drn_read.proofs.Ends.{model_is, no_fault}
use Rattle.drn_read.proofs.end.finish.Goals as goal

pub new-requires : goal.new-requires
new-requires c =
    let said : Said = record { header = c.reader.inside.header; states = c.into_states-states.result.items } in
    let same : said ≡ c.args.reader = ap (λ (ss : List StateText). record { header = c.reader.inside.header; states = ss }) c.into_states-states.ensures.states ∙ c.reader.view_is in
    let tests : end_fault c.args.number said ≡ first_of (None ∷ reported c.args.number (common_fault c.into_states-states.result.items) ∷ []) = search rules in
    let last : common_fault c.into_states-states.result.items ≡ None = search rules in
    let whole = no_fault (end_fault c.args.number said) None c.args.number c.into_states-states.result.items tests refl last in
    let is = model_is c.reader.inside.header c.into_states-states.result.items c.kind.result c.kind_or_chain.result c.in-Ok.parts.common c.into_names.result c.in-Ok.parts.goal.items c.in-Ok.parts.init (map (λ v. v.items) c.in-Ok.parts.rows.items)
    c.kind.ensures c.kind_or_chain.ensures c.in-Ok.ensures.common c.in-Ok.ensures.small c.into_names.ensures c.in-Ok.ensures.goal c.in-Ok.ensures.init c.in-Ok.ensures.rows in
    let valid = c.requires (subst (λ (k : Said). end_fault c.args.number k ≡ None) same whole) in
    subst IsModel is (subst (λ (k : Said). IsModel (model k)) (sym same) valid)

pub returns-clause-model : goal.returns-clause-model
returns-clause-model c =
    let said : Said = record { header = c.reader.inside.header; states = c.into_states-states.result.items } in
    let same : said ≡ c.args.reader = ap (λ (ss : List StateText). record { header = c.reader.inside.header; states = ss }) c.into_states-states.ensures.states ∙ c.reader.view_is in
    let is = model_is c.reader.inside.header c.into_states-states.result.items c.kind.result c.kind_or_chain.result c.in-Ok.parts.common c.into_names.result c.in-Ok.parts.goal.items c.in-Ok.parts.init (map (λ v. v.items) c.in-Ok.parts.rows.items)
    c.kind.ensures c.kind_or_chain.ensures c.in-Ok.ensures.common c.in-Ok.ensures.small c.into_names.ensures c.in-Ok.ensures.goal c.in-Ok.ensures.init c.in-Ok.ensures.rows in
    c.new.ensures ∙ sym is ∙ ap model same
