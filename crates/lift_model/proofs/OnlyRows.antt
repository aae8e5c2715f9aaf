-- What the flat lists tell of the only row of a state.
use Rattle.std.proofs.Common.{◌≡◌, ℕ, suc, ◌+◌, ◌-◌, ◌<◌, ◌≤◌, List, [], ◌∷◌, length, take, drop, slice_range, slice_index_or, drop-cons, length-append, sym, ap, ap₂, ◌∙◌, arith, subst, ◌++◌, ◌⊎◌, ⊎_elim}
use Rattle.std.proofs.lemmas.List.{get_or_append_left, get_or_past, get_or_push}
use Rattle.lift_model.specs.declared.layout.RowPlace.{RowPlace}
use Rattle.lift_model.specs.declared.only_row.OnlyRow.{OnlyRow}
use Rattle.lift_model.specs.declared.only_row.OnlyRow.TheVariants.{Single, Pair, Other}
use Rattle.lift_model.specs.Model.{ModelData, choices, row_at}
use Rattle.lift_model.specs.Links.{LinksData, ArePlaces, IsRowPlace, place, no_place}
use Rattle.lift_model.specs.OnlyRow.{IsOnlyRow, IsOnlyPlace, IsOnlyRowIn, AreOnlyRowsIn}

one_at : (xs : List ℕ) (e n : ℕ) → n ≡ 1 → e + n ≤ length xs → slice_range xs e (e + n) ≡ slice_index_or xs e 0 ∷ []
one_at xs e n one room =
    let count : e + n - e ≡ 1 = omega (arith, one) in
    ap (λ k. take k (drop e xs)) count ∙ ap (take 1) (drop-cons xs e 0 (omega (arith, one, room)))

two_at : (xs : List ℕ) (e n : ℕ) → n ≡ 2 → e + n ≤ length xs → slice_range xs e (e + n) ≡ slice_index_or xs e 0 ∷ slice_index_or xs (e + 1) 0 ∷ []
two_at xs e n two room =
    let count : e + n - e ≡ 2 = omega (arith, two) in
    let next : suc e ≡ e + 1 = omega arith in
    let cut : drop e xs ≡ slice_index_or xs e 0 ∷ slice_index_or xs (suc e) 0 ∷ drop (suc (suc e)) xs =
    drop-cons xs e 0 (omega (arith, two, room)) ∙ ap (λ rest. slice_index_or xs e 0 ∷ rest) (drop-cons xs (suc e) 0 (omega (arith, two, room))) in
    ap (λ k. take k (drop e xs)) count ∙ ap (take 2) cut ∙ ap (λ k. slice_index_or xs e 0 ∷ slice_index_or xs k 0 ∷ []) next

module _ (m : ModelData) (l : LinksData) (places : ArePlaces m l) (s : ℕ) (lt : s < length m.states) where
  only_choice : (at : RowPlace) → IsOnlyPlace l.row_starts l.rows s at → length (choices m s) ≡ 1
  only_choice at is = sym (places.choices s lt) ∙ is.only

  place_is : (at : RowPlace) → IsOnlyPlace l.row_starts l.rows s at → place l s 0 ≡ at
  place_is at is = let first : slice_index_or l.row_starts s 0 + 0 ≡ slice_index_or l.row_starts s 0 = omega arith in ap (λ n. slice_index_or l.rows n no_place) first ∙ is.is

  placed : (at : RowPlace) → IsOnlyPlace l.row_starts l.rows s at → IsRowPlace m l.targets l.firsts (row_at m s 0) (place l s 0)
  placed at is = places.places s 0 (record { state = lt; choice = omega (arith, only_choice at is) })

  reported : (row : OnlyRow) → IsOnlyRowIn l.row_starts l.rows l.targets s row → IsOnlyRow m l s row
  reported (Single t) (at, (is, (count, (first, other)))) =
      let there = rw (place_is at is) at (placed at is) in
      record {
        only = only_choice at is;
        targets = sym there.entries ∙ one_at l.targets at.entries at.count count there.room ∙ ap (λ n. n ∷ []) first;
        other = other;
      }
  reported (Pair p) (at, (is, (count, (first, (second, (one, (two, (weights, corners)))))))) =
      let there = rw (place_is at is) at (placed at is) in
      record {
        only = only_choice at is;
        targets = sym there.entries ∙ two_at l.targets at.entries at.count count there.room ∙ ap₂ (λ (n k : ℕ). n ∷ k ∷ []) first second;
        others = (one, two);
        weights = ap (λ (p : RowPlace). p.weights) (place_is at is) ∙ weights;
        corners = ap (λ (p : RowPlace). p.corners) (place_is at is) ∙ corners;
      }
  reported Other is = tt

  pub only_row_reported : (only : List OnlyRow) → AreOnlyRowsIn l.row_starts l.rows l.targets only → IsOnlyRow m l s (slice_index_or only s Other)
  only_row_reported only are = reported (slice_index_or only s Other) (are s)

-- ---- one state after another

-- one more is told
pub one_more : (starts : List ℕ) (rows : List RowPlace) (targets : List ℕ) (only : List OnlyRow) (row : OnlyRow) → AreOnlyRowsIn starts rows targets only → IsOnlyRowIn starts rows targets (length only) row → AreOnlyRowsIn starts rows targets (only ++ row ∷ [])
one_more starts rows targets only row are is s = ⊎_elim
    (λ (before : s < length only). rw (get_or_append_left only (row ∷ []) Other s before) (are s))
    (λ (rest : length only ≤ s). ⊎_elim
    (λ (past : length only < s). rw (get_or_past (only ++ row ∷ []) s Other (omega (arith, past, length-append only (row ∷ [])))) tt)
    (λ (here : s ≤ length only). let same : length only ≡ s = omega (arith, here, rest) in rw (get_or_push only row Other s same) (subst (λ n. IsOnlyRowIn starts rows targets n row) same is))
    (split (length only) s))
    (split s (length only))
  where
    split : (n k : ℕ) → (n < k) ⊎ (k ≤ n)
    split n k = grind arith
