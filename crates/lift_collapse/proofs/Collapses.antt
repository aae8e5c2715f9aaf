-- What was built of the states that are kept, and tested, is a collapse.
use Rattle.std.proofs.Common.{◌≡◌, ◌<◌, ℕ, Bool, false, List, [], length, map, get_or, slice_index_or, sym, ap, subst, refl, arith}
use Rattle.std.proofs.lemmas.List.{get_or-map, length-map}
use Rattle.lift_model.specs.Model.{ModelData, is_goal, choices}
use Rattle.lift_model.specs.Links.{LinksData, position}
use Rattle.lift_model.specs.Valid.{IsModel}
use Rattle.lift_collapse.specs.Building.{built, row_at_places, states_at_places}
use Rattle.lift_collapse.specs.Collapse.{CollapseData, IsKept, AreLost, StandsFor, IsCollapse, place}

-- the collapse with these places, of the states that are kept
abbrev pub collapse_of : ModelData → List ℕ → List ℕ → CollapseData
collapse_of m places kept = record { model = built m places kept; places = places }

module _ (m : ModelData) (places kept : List ℕ) (lost : List Bool) (l : LinksData) where
  kept_at : (i : ℕ) → i < length kept → (get_or kept i 0 < length m.states) × (place (collapse_of m places kept) (get_or kept i 0) ≡ i) → IsKept m (collapse_of m places kept) i (get_or kept i 0)
  kept_at i lt (inside, there) =
      record {
        inside = inside;
        place = there;
        goal = get_or-map (is_goal m) kept i 0 false lt;
        choices = get_or-map (λ s. map (row_at_places places) (choices m s)) kept i 0 [] lt;
      }

  pub is_collapse_of : IsModel (built m places kept) → length places ≡ length m.states
      → ((i : ℕ) → i < length kept → (get_or kept i 0 < length m.states) × (place (collapse_of m places kept) (get_or kept i 0) ≡ i))
      → ((s : ℕ) → s < length m.states → place (collapse_of m places kept) s < length kept)
      → ((s : ℕ) → s < length m.states → StandsFor m (collapse_of m places kept) (λ i. slice_index_or kept i 0) (λ t. slice_index_or lost t false) (position l) s)
      → AreLost m (collapse_of m places kept) (λ t. slice_index_or lost t false)
      → IsCollapse m (collapse_of m places kept)
  is_collapse_of model size at inside stands are_lost =
      let same : length (states_at_places m places kept) ≡ length kept = length-map kept (λ s. map (row_at_places places) (choices m s)) in
      record {
        model = model;
        common = refl;
        names = refl;
        size = size;
        init = refl;
        inside = λ s lt. omega (arith, same, inside s lt);
        kept = λ i. slice_index_or kept i 0;
        keeps = λ i lt. kept_at i (omega (arith, same, lt)) (at i (omega (arith, same, lt)));
        lost = λ t. slice_index_or lost t false;
        are_lost = are_lost;
        height = position l;
        stands = stands;
      }

-- the same of what the code holds
pub is_collapse_as_built : (m : ModelData) (c : CollapseData) (kept : List ℕ) (lost : List Bool) (l : LinksData) → c.model ≡ built m c.places kept → IsModel c.model → length c.places ≡ length m.states
    → ((i : ℕ) → i < length kept → (get_or kept i 0 < length m.states) × (place c (get_or kept i 0) ≡ i))
    → ((s : ℕ) → s < length m.states → place c s < length kept)
    → ((s : ℕ) → s < length m.states → StandsFor m c (λ i. slice_index_or kept i 0) (λ t. slice_index_or lost t false) (position l) s)
    → AreLost m c (λ t. slice_index_or lost t false)
    → IsCollapse m c
is_collapse_as_built m c kept lost l is model size at inside stands are_lost =
    let same : c ≡ collapse_of m c.places kept = ap (λ (q : ModelData). record { model = q; places = c.places }) is in
    subst (λ d. IsCollapse m d) (sym same) (is_collapse_of m c.places kept lost l (subst IsModel is model) size at inside (subst (λ d. (s : ℕ) → s < length m.states → StandsFor m d (λ i. slice_index_or kept i 0) (λ t. slice_index_or lost t false) (position l) s) same stands) (subst (λ d. AreLost m d (λ t. slice_index_or lost t false)) same are_lost))
