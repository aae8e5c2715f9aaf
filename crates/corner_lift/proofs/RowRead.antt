-- A row as it is read: all that its place and its targets tell of it.
use Rattle.std.proofs.Common.{◌≡◌, ℕ, ◌<◌, List, [], ◌∷◌, ℤ, arith, ◌∙◌, length, refl, sym}
use Rattle.std.proofs.lemmas.Nat.{pow_pos}
use Rattle.lift_grid.specs.Rectangle.{Spans}
use Rattle.lift_model.specs.declared.layout.RowPlace.{RowPlace}
use Rattle.lift_model.specs.Model.{row_at}
use Rattle.lift_model.specs.Links as links
use Rattle.lift_model.specs.Links.{LinksData, ArePlaces, targets_of}
use Rattle.lift_model.specs.declared.only_row.PairRow.{PairRow}
use Rattle.lift_model.specs.OnlyRow.{IsPairRow}
use Rattle.corner_lift.specs.Case.{CaseData, IsCase, row_parameters, row_whole}
use Rattle.corner_lift.specs.Premises.{Premises}
use Rattle.corner_lift.specs.Table.{CanRead, IsTable}
use Rattle.corner_lift.specs.ReadRow.{IsReadRow}
use Rattle.corner_lift.proofs.Reading as reading

pub row_read : Premises → (k : CaseData) (l : LinksData) (spans : Spans) (weights : List ℤ) (s a : ℕ) → IsCase k → CanRead k l spans weights s a
    → (place : RowPlace) → place ≡ links.place l s a → (targets : List ℕ) → targets ≡ targets_of (row_at k.model s a) → IsReadRow k spans weights s a place targets
row_read laws k l spans weights s a is can place place_is targets same =
    let placed = reading.row_placed k l spans weights s a place can place_is in
    let corners = reading.corners_all laws k l spans weights s a is can place placed in
    record {
      case = is;
      leads = same;
      inside = rw same (reading.targets_inside laws k l spans weights s a is can place placed (length k.model.states) (omega arith));
      count = rw same (placed.count ∙ reading.targets_count (row_at k.model s a));
      corners = corners;
      some = let some : 0 < place.corners = rw corners (pow_pos (row_parameters k (row_at k.model s a))) in omega (arith, some);
      ends = reading.block_ends laws k l spans weights s a is can place placed;
      sums = λ n lt x. rw same (reading.sum_stands laws k l spans weights s a is can place placed n (omega (arith, lt, corners)) x);
      least = λ n lt. reading.corner_least_at laws k l spans weights s a is can place placed n (omega (arith, lt, corners));
      totals = λ n lt. reading.whole_stands laws k l spans weights s a is can place placed n (omega (arith, lt, corners));
      whole = reading.is_whole laws k l spans weights s a is can place placed (row_whole k s a) refl;
      can_compare = λ x numbers. rw same (reading.can_compare laws k l spans weights s a is can place placed x numbers);
      can_sum = λ n lt x range. rw same (reading.can_sum laws k l spans weights s a is can place placed n (omega (arith, lt, corners)) x 1 (pow_pos k.w) range);
      lane = λ x numbers small. rw same (reading.lane_at_corners laws k l spans weights s a is can place placed x numbers small);
    }

-- the only row of a state, which has two entries
pub pair_read : Premises → (k : CaseData) (l : LinksData) (spans : Spans) (weights : List ℤ) (s : ℕ) → IsCase k → ArePlaces k.model l
    → IsTable k l spans weights → s < length k.model.states
    → (p : PairRow) → IsPairRow k.model l s p → IsReadRow k spans weights s 0 (links.place l s 0) (p.first ∷ p.second ∷ [])
pair_read laws k l spans weights s is places table state p pair =
    let can : CanRead k l spans weights s 0 = record
    { places = places; table = table; row = record { state = state; choice = omega (arith, pair.only) } } in
    row_read laws k l spans weights s 0 is can (links.place l s 0) refl (p.first ∷ p.second ∷ []) (sym pair.targets)
