-- The targets of a row, one after another.
use Rattle.std.proofs.Common.{◌≡◌, ◌<◌, ◌≤◌, ◌+◌, ℕ, List, length, get_or, slice_range, take, [], ◌∷◌, ◌++◌, suc, All, subst, ap, sym, ◌∙◌, ◌⊎◌, ⊎_elim, arith}
use Rattle.std.proofs.lemmas.List.{get_or_default, take_all}
use Rattle.std.proofs.lemmas.List.Elements.{All-push}
use Rattle.std.proofs.Math.Seq.{take-suc}
use Rattle.lift_model.specs.declared.layout.RowPlace.{RowPlace}
use Rattle.lift_model.specs.Model.{ModelData, row_at}
use Rattle.lift_model.specs.Links.{LinksData, ArePlaces, HasChoice, place, targets_of}

-- what holds of those that the links tell holds of the row's
pub all_targets : (P : ℕ → Type 0) (m : ModelData) (l : LinksData) (s a count : ℕ) (at : RowPlace) (items : List ℕ) → ArePlaces m l → HasChoice m s a → at ≡ place l s a → items ≡ slice_range l.targets at.entries (at.entries + at.count) → length items ≤ count → ((i : ℕ) → i < count → P (get_or items i 0)) → All P (targets_of (row_at m s a))
all_targets P m l s a count at items links choice at_is items_are end holds k d lt =
    let same : items ≡ targets_of (row_at m s a) = items_are ∙ ap (λ (p : RowPlace). slice_range l.targets p.entries (p.entries + p.count)) at_is ∙ (links.places s a choice).entries in
    let inside : k < count = omega (arith, lt, end, ap length same) in
    subst P (ap (λ (list : List ℕ). get_or list k 0) same ∙ get_or_default (targets_of (row_at m s a)) k 0 d lt) (holds k inside)

last : (i n : ℕ) → i < n + 1 → (i ≡ n) ⊎ (i < n)
last i n lt = grind arith

-- one more of them
pub one_more : (P : ℕ → Type 0) (n : ℕ) → ((i : ℕ) → i < n → P i) → P n → (i : ℕ) → i < n + 1 → P i
one_more P n before here i lt = ⊎_elim (λ (e : i ≡ n). subst P (sym e) here) (λ (less : i < n). before i less) (last i n lt)

-- with one element more all of a part of a list are so
pub all_more : {X : Type 0} (P : X → Type 0) (xs : List X) (i : ℕ) (x : X) → i < length xs → x ≡ get_or xs i x → All P (take i xs) → P x → All P (take (i + 1) xs)
all_more P xs i x lt is before here =
    let next : suc i ≡ i + 1 = omega arith in
    subst (All P) (ap (λ y. take i xs ++ y ∷ []) is ∙ sym (take-suc xs i x lt) ∙ ap (λ n. take n xs) next) (All-push P (take i xs) x before here)

-- the whole list is its part of that length
pub all_of : {X : Type 0} (P : X → Type 0) (xs : List X) (i : ℕ) → length xs ≤ i → All P (take i xs) → All P xs
all_of P xs i end all = subst (All P) (take_all i xs end) all
