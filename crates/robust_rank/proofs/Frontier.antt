-- Stages need only look at what leads into the stage before.
use Rattle.std.proofs.Common.{◌≡◌, ℕ, suc, ◌<◌, ◌≤◌, ◌⊎◌, inl, inr, ⊎_elim, Bool, true, false, cond, List, [], ◌∷◌, length, get_or, pos, ◌+ℤ◌, ◌*ℤ◌, ◌≤ℤ◌, refl, ap₂, arith, nat_lt, nat_eq, eqb-true, lt-ltb, le-ltb, ltb-true, ltb-false}
use Rattle.lift_poly.proofs.Ring.{linear}
use Rattle.lift_poly.specs.Polynomial.{Valuation, weight}
use Rattle.lift_model.specs.declared.entry.Entry.{Entry}
use Rattle.lift_model.specs.Process.{weighted_sum}
use Rattle.lift_model.specs.Model.{row_at, support, moves_at}
use Rattle.corner_lift.specs.Corner.{corner, no_entry}
use Rattle.corner_lift.specs.Certificate.{ranked_below}
use Rattle.corner_lift.specs.Laws.{SumsRise}
use Rattle.robust_rank.specs.Attracting.{FrontierLeads, GapLeads}
use Rattle.robust_rank.proofs.Means.{either_way, row_there}

-- but for rank r itself, below r + 1 is below r
apart_from : (rank : ℕ → ℕ) (r t : ℕ) → nat_eq (rank t) r ≡ false → ranked_below rank (suc r) t ≡ ranked_below rank r t
apart_from rank r t ne =
    either_way (nat_lt (rank t) r)
    (λ l. let below : rank t < r = ltb-true (rank t) r l in
    let more : nat_lt (rank t) (suc r) ≡ true = lt-ltb (rank t) (suc r) (omega (arith, below)) in
    rw (l, more) refl)
    (λ n. let above : r ≤ rank t = ltb-false (rank t) r n in
    let more : nat_lt (rank t) (suc r) ≡ false = le-ltb (rank t) (suc r) (not_there above) in
    rw (n, more) refl)
  where
    not_there : r ≤ rank t → suc r ≤ rank t
    not_there le = grind (arith, le, ne)

find : (rank : ℕ → ℕ) (r : ℕ) (row : List Entry) → ((i : ℕ) × ((i < length row) × (rank (get_or row i no_entry).target ≡ r))) ⊎ ((v : Valuation) → weighted_sum (ranked_below rank (suc r)) (moves_at v row) ≡ weighted_sum (ranked_below rank r) (moves_at v row))
find rank r [] = inr (λ v. refl)
find rank r (entry ∷ row) =
    either_way (nat_eq (rank entry.target) r)
    (λ e. inl (0, (omega arith, eqb-true (rank entry.target) r e)))
    (λ ne. ⊎_elim
    (λ (there : (i : ℕ) × ((i < length row) × (rank (get_or row i no_entry).target ≡ r))). inl (suc there.0, (omega (arith, there.1.0), there.1.1)))
    (λ (same : (v : Valuation) → weighted_sum (ranked_below rank (suc r)) (moves_at v row) ≡ weighted_sum (ranked_below rank r) (moves_at v row)). inr (λ v. ap₂ (λ a b. weight v entry.poly *ℤ a +ℤ b) (apart_from rank r entry.target ne) (same v)))
    (find rank r row))

pub frontier_leads : FrontierLeads
frontier_leads k spans rank r s a leads =
    let row = row_at k.model s a in
    ⊎_elim
    (λ (there : (i : ℕ) × ((i < length row) × (rank (get_or row i no_entry).target ≡ r))). inl there)
    (λ (same : (v : Valuation) → weighted_sum (ranked_below rank (suc r)) (moves_at v row) ≡ weighted_sum (ranked_below rank r) (moves_at v row)).
    inr (λ c lt. let here = leads c lt in omega (arith, linear, here, same (corner k.d spans (support row) c))))
    (find rank r row)

pub gap_leads : SumsRise → GapLeads
gap_leads rise k spans rank r q s a gap is within choice leads c lt =
    let less : (t : ℕ) → ranked_below rank q t ≤ℤ ranked_below rank r t =
    λ t. either_way (nat_lt (rank t) q)
    (λ l. let below = lt-ltb (rank t) r (gap t (ltb-true (rank t) q l)) in rw (l, below) (omega (arith, linear)))
    (λ n. rw n (least (nat_lt (rank t) r))) in
    let here = leads c lt in
    omega (arith, linear, here, rise k spans s a c (ranked_below rank q) (ranked_below rank r) is within (row_there k s a choice) less)
  where
    least : (b : Bool) → pos 0 ≤ℤ cond b (pos 1) (pos 0)
    least true = omega (arith, linear)
    least false = omega (arith, linear)
