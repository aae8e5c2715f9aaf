use Rattle.std.proofs.Common.{rules, ◌≡◌, ◌<◌, ◌≤◌, ◌^◌, ◌*◌, ℕ, suc, zero, List, [], ◌∷◌, ℤ, length, get_or, sym, ap, subst, ◌∙◌, to_z-of_z, SFits, w64, arith, mul-le-mul}
use mir.Syntax.{w128}
use Rattle.lift_poly.specs.Polynomial.{weight}
use Rattle.lift_poly.specs.Arithmetic as polynomial
use Rattle.lift_grid.specs.Rectangle.{spans_of}
use Rattle.lift_model.specs.declared.entry.Entry.{Entry}
use Rattle.lift_model.specs.Model.{row_at, support}
use Rattle.corner_lift.specs.Corner.{corner, no_entry}
use Rattle.corner_lift.specs.Case.{abs_sum}
use Rattle.corner_lift.specs.Ends.{StandFor}
use Rattle.corner_lift.proofs.RowBound.{PartOf}
use Rattle.corner_lift.proofs.Summing.{entry_size, entry_part, weight_stands}
use Rattle.corner_lift.proofs.Cases.{row_of_model, support_below, power-le}
use Rattle.corner_lift.proofs.row.raw_weight.Goals as goal
use Rattle.corner_lift.proofs.row.raw_weight.Goals.{After-weight}

half_of : (sides : List ℤ) (n : ℕ) → length sides ≡ 2 * n → length (spans_of sides) ≡ n
half_of [] n e = omega arith
half_of (low ∷ []) n e = absurd (omega arith)
half_of (low ∷ high ∷ sides) zero e = absurd (omega arith)
half_of (low ∷ high ∷ sides) (suc n) e = ap suc (half_of sides n (omega arith))

-- the weight of one entry fits where the row's do
fits : (row : List Entry) (e : Entry) (i : ℕ) (small great n m : ℕ) → i < length row → e ≡ get_or row i e → small ≤ great → n ≡ m → abs_sum row * great ^ m < 2 ^ 126 → polynomial.abs_sum e.poly * small ^ n < 2 ^ 126
fits row e i small great n m lt is le same room =
    let more : polynomial.abs_sum e.poly * small ^ m ≤ abs_sum row * great ^ m = mul-le-mul (entry_size row i e lt is) (power-le small great m le) in
    rw same (omega (arith, more, room))

-- the row's weight of an entry, by its place
at_place : (row : List Entry) (e : Entry) (i : ℕ) → i < length row → e ≡ get_or row i e → e ≡ get_or row i no_entry
at_place [] e i lt is = absurd (omega arith)
at_place (f ∷ row) e zero lt is = is
at_place (f ∷ row) e (suc i) lt is = at_place row e i (omega arith) is

pub at-ends-requires-clause-pairs : goal.at-ends-requires-clause-pairs
at-ends-requires-clause-pairs c =
    let m = c.args.model.now in
    let row = row_of_model m c.args.s c.args.a c.row-row.ensures.model c.requires.state c.requires.choice in
    rw (c.support.ensures, c.row-row.ensures.value, half_of c.args.sides.now (length m.names) c.requires.pairs) (support_below (length m.states) (length m.names) (row_at m c.args.s c.args.a) row.entries)

pub weight-requires-clause-room : goal.weight-requires-clause-room
weight-requires-clause-room c =
    let d_fits : SFits w64 c.args.d = c.ranges.d in
    let row = row_at c.args.model.now c.args.s c.args.a in
    let row_is = c.entries-entries.ensures ∙ c.row-row.ensures.value in
    let is = rw row_is at c.index-entries-entry.is in
    let count = rw (c.support.ensures, c.row-row.ensures.value) at c.at-ends.ensures.count in
    rw (to_z-of_z d_fits, c.deref.ensures) (fits row c.index-entries-entry.result c.args.entry _ _ _ _ c.requires.entry is (c.at-ends.ensures.sizes c.args.d) count c.requires.narrow)

pub returns-clause-value : goal.returns-clause-value
unfolding PartOf
returns-clause-value c =
    let d_fits : SFits w64 c.args.d = c.ranges.d in
    let w_fits : SFits w128 c.weight.result = search rules in
    let row = row_at c.args.model.now c.args.s c.args.a in
    let e = c.index-entries-entry.result in
    let row_is = c.entries-entries.ensures ∙ c.row-row.ensures.value in
    let is = rw row_is at c.index-entries-entry.is in
    let place = at_place row e c.args.entry c.requires.entry is in
    let set_is = c.support.ensures ∙ ap support c.row-row.ensures.value in
    let v = corner c.args.d (spans_of c.args.sides.now) (support row) c.args.corner in
    let stand = subst (λ set. StandFor c.args.d c.at-ends.result (corner c.args.d (spans_of c.args.sides.now) set c.args.corner) set) set_is (c.at-ends.ensures.stand c.args.d) in
    let part : PartOf (polynomial.support e.poly) (support row) = subst (λ (x : Entry). PartOf (polynomial.support x.poly) (support row)) (sym place) (entry_part row c.args.entry no_entry c.requires.entry) in
    to_z-of_z w_fits ∙ (rw c.deref.ensures at (simp to_z-of_z at c.weight.ensures.value))
    ∙ weight_stands c.args.d c.at-ends.result v (support row) e.poly stand part
    ∙ ap (λ (x : Entry). weight v x.poly) place

pub returns-clause-size : goal.returns-clause-size
returns-clause-size c =
    let d_fits : SFits w64 c.args.d = c.ranges.d in
    let w_fits : SFits w128 c.weight.result = search rules in
    let row = row_at c.args.model.now c.args.s c.args.a in
    let row_is = c.entries-entries.ensures ∙ c.row-row.ensures.value in
    let is = rw row_is at c.index-entries-entry.is in
    let count = rw (c.support.ensures, c.row-row.ensures.value) at c.at-ends.ensures.count in
    let room = fits row c.index-entries-entry.result c.args.entry _ _ _ _ c.requires.entry is (c.at-ends.ensures.sizes c.args.d) count c.requires.narrow in
    let size = rw c.deref.ensures at (simp to_z-of_z at c.weight.ensures.size) in
    rw (to_z-of_z w_fits) (omega (arith, size, room))
