-- A state and its block of the quotient reach the same.
use Rattle.std.proofs.Common.{◌⊎◌, inl, inr, ◌≡◌, ℕ, zero, suc, ◌<◌, ◌≤◌, Bool, true, false, cond, List, [], ◌∷◌, ◌++◌, length, map, get_or, ℤ, pos, ◌+ℤ◌, ◌*ℤ◌, All, refl, sym, ap, ap₂, ◌∙◌, subst, arith}
use Rattle.std.proofs.lemmas.List.{get_or-map, get_or_past}
use Rattle.std.proofs.lemmas.List.Elements.{All-head, All-tail}
use Rattle.lift_poly.proofs.Ring.{linear, zero-mul}
use Rattle.lift_poly.specs.Polynomial.{Term, Valuation, weight, constant}
use Rattle.lift_poly.specs.Laws.{TermsSumByWeight}
use Rattle.lift_model.specs.declared.entry.Entry.{Entry}
use Rattle.lift_model.specs.Process.{Move, power, weighted_sum}
use Rattle.lift_model.specs.Model.{ModelData, is_goal, choices, row_at, moves_at, process_at}
use Rattle.lift_model.specs.Valid.{IsEntry, IsModel}
use Rattle.lift_lump.specs.Lumping.{Partition, terms_into, sum_into, in_block, AreTogether, IsRight}
use Rattle.lift_lump.specs.Quotient.{Blocks, block, first, AreNumbered, one_entry, entries_into, quotient_row, quotient, hold}
use Rattle.lift_lump.specs.Laws.{QuotientsHold}
use Rattle.lift_lump.proofs.Grouping.{IsAdditive, flat, grouped, grouped-flat}

pub weight-append : (v : Valuation) (ts us : List Term) → weight v (ts ++ us) ≡ weight v ts +ℤ weight v us
weight-append v [] us = omega (arith, linear)
weight-append v (t ∷ ts) us = omega (arith, linear, weight-append v ts us)

weights-add : (v : Valuation) → IsAdditive (weight v)
weights-add v = record { none = refl; append = weight-append v }

sum-append : (x : ℕ → ℤ) (a b : List Move) → weighted_sum x (a ++ b) ≡ weighted_sum x a +ℤ weighted_sum x b
sum-append x [] b = omega (arith, linear)
sum-append x (move ∷ a) b = omega (arith, linear, sum-append x a b)

moves-append : (v : Valuation) (a b : List Entry) → moves_at v (a ++ b) ≡ moves_at v a ++ moves_at v b
moves-append v [] b = refl
moves-append v (e ∷ a) b = ap (λ (r : List Move). (e.target, weight v e.poly) ∷ r) (moves-append v a b)

-- one entry weighs what its polynomial weighs
one-sum : (x : ℕ → ℤ) (v : Valuation) (b : ℕ) (terms : List Term) → weighted_sum x (moves_at v (one_entry b terms)) ≡ weight v terms *ℤ x b
one-sum x v b [] = sym (zero-mul (x b))
one-sum x v b (t ∷ ts) = omega (arith, linear)

module _ (law : TermsSumByWeight) (v : Valuation) where
  -- the entries into the first blocks weigh what the row's entries weigh, block by block
  entries-grouped : (block : Partition) (x : ℕ → ℤ) (row : List Entry) (count : ℕ) → weighted_sum x (moves_at v (entries_into block row count)) ≡ grouped (weight v) (weights-add v) block x count row
  entries-grouped block x row zero = refl
  entries-grouped block x row (suc b) =
      let polys = one_entry b (sum_into (in_block block b) row) in
      ap (weighted_sum x) (moves-append v (entries_into block row b) polys)
      ∙ sum-append x (moves_at v (entries_into block row b)) (moves_at v polys)
      ∙ ap₂ (λ y z. y +ℤ z) (entries-grouped block x row b) (one-sum x v b (sum_into (in_block block b) row) ∙ ap (λ z. z *ℤ x b) (law v (terms_into (in_block block b) row)))

  flat-sum : (block : Partition) (x : ℕ → ℤ) (row : List Entry) → flat (weight v) (weights-add v) block x row ≡ weighted_sum (λ t. x (block t)) (moves_at v row)
  flat-sum block x [] = refl
  flat-sum block x (e ∷ row) = ap (λ z. weight v e.poly *ℤ x (block e.target) +ℤ z) (flat-sum block x row)

  entries-sum : (block : Partition) (x : ℕ → ℤ) (row : List Entry) (count : ℕ) → All (λ (e : Entry). block e.target < count) row → weighted_sum x (moves_at v (entries_into block row count)) ≡ weighted_sum (λ t. x (block t)) (moves_at v row)
  entries-sum block x row count all = entries-grouped block x row count ∙ grouped-flat (weight v) (weights-add v) block x count row all ∙ flat-sum block x row

-- sums over targets where the numbers agree
sum-same : (x y : ℕ → ℤ) (v : Valuation) (n : ℕ) → ((t : ℕ) → t < n → x t ≡ y t) → (row : List Entry) → All (λ (e : Entry). e.target < n) row → weighted_sum x (moves_at v row) ≡ weighted_sum y (moves_at v row)
sum-same x y v n same [] all = refl
sum-same x y v n same (e ∷ row) all =
    ap₂ (λ a b. weight v e.poly *ℤ a +ℤ b)
    (same e.target (All-head (λ (e : Entry). e.target < n) e row all))
    (sum-same x y v n same row (All-tail (λ (e : Entry). e.target < n) e row all))

-- rows whose sums into each block agree have the same entries into the first blocks
pub entries-same : (block : Partition) (left right : List Entry) → ((b : ℕ) → sum_into (in_block block b) left ≡ sum_into (in_block block b) right) → (count : ℕ) → entries_into block left count ≡ entries_into block right count
entries-same block left right same zero = refl
entries-same block left right same (suc b) = ap₂ (λ (xs : List Entry) (terms : List Term). xs ++ one_entry b terms) (entries-same block left right same b) (same b)

-- the entries of a row of the model
pub row_entries : (m : ModelData) → IsModel m → (s : ℕ) → All (IsEntry (length m.states) (length m.names)) (row_at m s 0)
row_entries m is s = inside (state s)
  where
    state : (s : ℕ) → (s < length m.states) ⊎ (length m.states ≤ s)
    state s = grind arith

    choice : (n : ℕ) → (0 < n) ⊎ (n ≡ 0)
    choice n = grind arith

    nothing : (row : List Entry) → row ≡ [] → All (IsEntry (length m.states) (length m.names)) row
    nothing row e = subst (All (IsEntry (length m.states) (length m.names))) (sym e) (λ i d lt. absurd (omega (arith, lt)))

    inside : (s < length m.states) ⊎ (length m.states ≤ s) → All (IsEntry (length m.states) (length m.names)) (row_at m s 0)
    inside (inl lt) = there (choice (length (choices m s)))
      where
        there : (0 < length (choices m s)) ⊎ (length (choices m s) ≡ 0) → All (IsEntry (length m.states) (length m.names)) (row_at m s 0)
        there (inl some) = ((is.rows s [] lt) 0 [] some).entries
        there (inr none) = nothing (row_at m s 0) (get_or_past (choices m s) 0 [] (omega (arith, none)))
    inside (inr past) = nothing (row_at m s 0) (ap (λ (rows : List (List Entry)). get_or rows 0 []) (get_or_past m.states s [] past))

pub targets_inside : (m : ModelData) → IsModel m → (s : ℕ) → All (λ (e : Entry). e.target < length m.states) (row_at m s 0)
targets_inside m is s i d lt = (row_entries m is s i d lt).target

module _ (m : ModelData) (p : Blocks) (is : IsModel m) (right : IsRight m (block p)) (numbered : AreNumbered (length m.states) p) where
  -- a state's block
  module _ (s : ℕ) (lt : s < length m.states) where
    below : block p s < length p.firsts
    below = (numbered.inside s lt).0

    abbrev leader : ℕ
    leader = first p (block p s)

    pub together : AreTogether m (block p) leader s
    together = record { states = ((numbered.least (block p s) below).0, lt); same = (numbered.least (block p s) below).1 }

    pub block_goal : is_goal (quotient m p) (block p s) ≡ is_goal m s
    block_goal = get_or-map (is_goal m) p.firsts (block p s) 0 false below ∙ right.goals leader s together

    pub block_row : row_at (quotient m p) (block p s) 0 ≡ quotient_row m p leader
    block_row = ap (λ (rows : List (List Entry)). get_or rows 0 []) (get_or-map (λ i. quotient_row m p i ∷ []) p.firsts (block p s) 0 [] below)

    -- the row of the block of a state that is no goal state
    pub open_row : is_goal m s ≡ false → quotient_row m p leader ≡ entries_into (block p) (row_at m s 0) (length p.firsts)
    open_row no_goal =
        let other : is_goal m leader ≡ false = right.goals leader s together ∙ no_goal in
        ap (λ b. cond b (record { target = block p leader; poly = constant m.common } ∷ []) (entries_into (block p) (row_at m leader 0) (length p.firsts))) other
        ∙ entries-same (block p) (row_at m leader 0) (row_at m s 0) (λ b. right.sums leader s b together other) (length p.firsts)

  blocks_inside : (s : ℕ) → All (λ (e : Entry). block p e.target < length p.firsts) (row_at m s 0)
  blocks_inside s i d lt = (numbered.inside (get_or (row_at m s 0) i d).target (targets_inside m is s i d lt)).0

  module _ (law : TermsSumByWeight) (v : Valuation) where
    -- the moves of the only choice
    chosen-row : (rows : List (List Entry)) → get_or (map (moves_at v) rows) 0 [] ≡ moves_at v (get_or rows 0 [])
    chosen-row [] = refl
    chosen-row (row ∷ rows) = refl

    abbrev total : ℤ
    total = (process_at m v).total

    abbrev next : ModelData → (ℕ → ℤ) → ℕ → ℤ
    next q x s = weighted_sum x (get_or (map (moves_at v) (choices q s)) 0 [])

    -- one step from a state that is no goal state
    step : (n s : ℕ) → s < length m.states → is_goal m s ≡ false → ((t : ℕ) → t < length m.states → hold (quotient m p) v n (block p t) ≡ hold m v n t)
        → next (quotient m p) (hold (quotient m p) v n) (block p s) ≡ next m (hold m v n) s
    step n s lt no_goal same =
        let x = hold (quotient m p) v n in
        ap (weighted_sum x) (chosen-row (choices (quotient m p) (block p s)))
        ∙ ap (λ (row : List Entry). weighted_sum x (moves_at v row)) (block_row s lt ∙ open_row s lt no_goal)
        ∙ entries-sum law v (block p) x (row_at m s 0) (length p.firsts) (blocks_inside s)
        ∙ sum-same (λ t. x (block p t)) (hold m v n) v (length m.states) same (row_at m s 0) (targets_inside m is s)
        ∙ sym (ap (weighted_sum (hold m v n)) (chosen-row (choices m s)))

    pub reach : (n s : ℕ) → s < length m.states → hold (quotient m p) v n (block p s) ≡ hold m v n s
    reach zero s lt = ap (λ b. cond b (pos 1) (pos 0)) (block_goal s lt)
    reach (suc n) s lt = by (is_goal m s) refl (λ t below. reach n t below)
      where
        by : (goal : Bool) → is_goal m s ≡ goal → ((t : ℕ) → t < length m.states → hold (quotient m p) v n (block p t) ≡ hold m v n t) → hold (quotient m p) v (suc n) (block p s) ≡ hold m v (suc n) s
        by true is same =
            ap (λ b. cond b (power total (suc n)) (next (quotient m p) (hold (quotient m p) v n) (block p s))) (block_goal s lt ∙ is)
            ∙ sym (ap (λ b. cond b (power total (suc n)) (next m (hold m v n) s)) is)
        by false not same =
            ap (λ b. cond b (power total (suc n)) (next (quotient m p) (hold (quotient m p) v n) (block p s))) (block_goal s lt ∙ not)
            ∙ step n s lt not same
            ∙ sym (ap (λ b. cond b (power total (suc n)) (next m (hold m v n) s)) not)

pub quotients_reach : TermsSumByWeight → QuotientsHold
quotients_reach law m p is right numbered v n s lt = reach m p is right numbered law v n s lt
