-- One step of the search keeps what every right partition refines.
use Rattle.std.proofs.Common.{◌≡◌, ℕ, ◌<◌, Bool, true, false, List, length, get_or, Contains, refl, sym, ap, ◌∙◌}
use Rattle.std.proofs.lemmas.List.{get_or_default}
use Rattle.lift_model.specs.Model.{ModelData}
use Rattle.lift_lump.specs.Lumping.{IsUnion}
use Rattle.lift_lump.specs.Search.{AreMarked, marked}
use Rattle.lift_lump.specs.Laws.{NumberedSplitsKeep, StepsKeep}

module _ (m : ModelData) (labels members : List ℕ) (marks : List Bool) (b : ℕ) (all : (s : ℕ) → s < length m.states → get_or labels s 0 ≡ b → Contains members s) (are : AreMarked labels b members marks) where
  along : (s t : ℕ) → t < length m.states → get_or labels s 0 ≡ get_or labels t 0 → marked marks s ≡ true → marked marks t ≡ true
  along s t t_in same is =
      let of_block : get_or labels t 0 ≡ b = sym same ∙ are.only s is in
      let found = all t t_in of_block in
      let at : get_or members found.0 0 ≡ t = place found.0 found.1 found.2 in
      sym (ap (marked marks) at) ∙ are.all found.0 found.1 (ap (λ u. get_or labels u 0) at ∙ of_block)
    where
      place : (k : ℕ) → k < length members → get_or members k t ≡ t → get_or members k 0 ≡ t
      place k lt e = get_or_default members k 0 t lt ∙ e

  union : IsUnion m (λ s. get_or labels s 0) (marked marks)
  union s t together = by (marked marks s) (marked marks t) refl refl
    where
      by : (x y : Bool) → marked marks s ≡ x → marked marks t ≡ y → marked marks s ≡ marked marks t
      by true y is other = is ∙ sym (along s t together.states.1 together.same is)
      by false true is other = along t s together.states.0 (sym together.same) other ∙ sym other
      by false false is other = is ∙ sym other

pub steps_keep : NumberedSplitsKeep → StepsKeep
steps_keep keep m v into labels members numbers marks b new is count arrows above all are numbers_of by_number =
    keep m v (λ s. get_or labels s 0) new (marked marks) numbers is above (union m labels members marks b all are) (numbers_of m v count arrows) by_number
