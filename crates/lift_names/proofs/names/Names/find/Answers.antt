use Rattle.std.proofs.Common.{◌∙◌, sym, ap, is_some}
use Rattle.std.proofs.lemmas.Bool.Decides.{Decides-at}
use Rattle.lift_names.proofs.Naming.{place_of, there}
use Rattle.lift_names.proofs.names.Names.find.Goals as goal

pub returns-in_err-place-clause-place : goal.returns-in_err-place-clause-place
returns-in_err-place-clause-place c = c.from_residual.ensures ∙ sym c.in_err-place.was ∙ c.get_index_of.ensures.index ∙ place_of _ _ _ c.self.view_is

pub returns-in_err-place-clause-there : goal.returns-in_err-place-clause-there
returns-in_err-place-clause-there c =
    Decides-at _ _ (ap is_some (c.from_residual.ensures ∙ sym c.in_err-place.was) ∙ c.get_index_of.ensures.found) (there _ _ _ c.self.view_is)

pub returns-clause-place : goal.returns-clause-place
returns-clause-place c = c.in_ok-place.ensures.index ∙ place_of _ _ _ c.self.view_is

pub returns-clause-there : goal.returns-clause-there
returns-clause-there c = Decides-at _ _ c.in_ok-place.ensures.found (there _ _ _ c.self.view_is)
