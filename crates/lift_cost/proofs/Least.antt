-- A rectangle inside the root has a least priced vector, or none at all: from 0 on a state's number rises by one while a corner of one of its choices calls for more, and none may rise above 2 ^ w.
use Rattle.std.proofs.Common.{◌≡◌, ◌≢◌, ℕ, zero, suc, ◌-◌, ◌+◌, ◌^◌, ◌<◌, ◌≤◌, ◌⊎◌, inl, inr, ⊎_elim, true, false, List, [], ◌∷◌, length, map, set, length-set, get_or-set_same, get_or-set_other, get_or, replicate, ℤ, pos, ◌-ℤ◌, ◌*ℤ◌, ◌≤ℤ◌, ◌<ℤ◌, refl, sym, subst, ◌∙◌, arith}
use Rattle.std.proofs.lemmas.Bool.{cases_lt, cases_Bool, both_ways}
use Rattle.std.proofs.lemmas.Int.{by_lt_z}
use Rattle.std.proofs.lemmas.List.{length-replicate, get_or_past}
use Rattle.std.proofs.lemmas.List.Elements.{All-from_get_or}
use Rattle.lift_poly.proofs.Ring.{linear, mul-comm, mul-le, mul-lt, mul-zero}
use Rattle.lift_grid.specs.Rectangle.{Spans}
use Rattle.lift_model.specs.Process.{power}
use Rattle.lift_model.specs.Model.{is_goal, choices, row_at, support}
use Rattle.lift_model.specs.declared.entry.Entry.{Entry}
use Rattle.corner_lift.specs.Corner.{corner_sum, parameter_count, whole}
use Rattle.corner_lift.specs.Case.{CaseData, IsCase, IsInside, number}
use Rattle.corner_lift.specs.Certificate.{MeansAtMost}
use Rattle.corner_lift.specs.Laws.{NumbersAreInRange, SumsRise, HasRow}
use Rattle.rounded_iter.specs.Priced.{IsPriced, IsLeastPriced}
use Rattle.lift_cost.proofs.Cases.{power-positive}
use Rattle.lift_cost.proofs.Searches.{all_or_some}

-- ---- vectors of natural numbers

-- a state's number, as an integer
abbrev over : List ℕ → ℕ → ℤ
over v s = pos (get_or v s 0)

over_map : (v : List ℕ) (s : ℕ) → number (map pos v) s ≡ over v s
over_map [] s = refl
over_map (n ∷ v) zero = refl
over_map (n ∷ v) (suc s) = over_map v s

map_count : (v : List ℕ) → length (map pos v) ≡ length v
map_count [] = refl
map_count (n ∷ v) = omega (arith, map_count v)

abbrev zeros : ℕ → List ℕ
zeros n = replicate n 0

all_zero : (n s : ℕ) → get_or (zeros n) s 0 ≡ 0
all_zero zero s = refl
all_zero (suc n) zero = refl
all_zero (suc n) (suc s) = all_zero n s

-- by how much a vector can rise in all
abbrev room : ℕ → List ℕ → ℕ
room top [] = 0
room top (n ∷ v) = (top - n) + room top v

room_less : (top : ℕ) (v : List ℕ) (s : ℕ) → s < length v → get_or v s 0 < top → room top (set v s (suc (get_or v s 0))) < room top v
room_less top [] s lt less = absurd (omega (arith, lt))
room_less top (n ∷ v) zero lt less = omega (arith, less)
room_less top (n ∷ v) (suc s) lt less = let rest = room_less top v s (omega (arith, lt)) less in omega (arith, rest)

-- what holds of the number that is set and of all others
by_set : (P : ℕ → ℕ → Type 0) (v : List ℕ) (s n : ℕ) → s < length v → P s n → ((t : ℕ) → P t (get_or v t 0)) → (t : ℕ) → P t (get_or (set v s n) t 0)
by_set P v s n lt here other t = ⊎_elim
    (λ (same : t ≡ s).
    let at : get_or (set v s n) s 0 ≡ n = rw get_or-set_same refl in
    subst (λ i. P i (get_or (set v s n) i 0)) (sym same) (subst (P s) (sym at) here))
    (λ (ne : t ≢ s). let at : get_or (set v s n) t 0 ≡ get_or v t 0 = rw get_or-set_other refl in subst (P t) (sym at) (other t))
    (same_or_not t s)
  where
    same_or_not : (i j : ℕ) → (i ≡ j) ⊎ (i ≢ j)
    same_or_not i j = grind arith

-- ---- rising

-- numbers that each priced vector is at or above
record IsBelowPriced (k : CaseData) (spans : Spans) (prices : ℕ → ℤ) (v : List ℕ) : Type 0 where
  size : length v ≡ length k.model.states
  small : (s : ℕ) → get_or v s 0 ≤ 2 ^ k.w
  goal : (s : ℕ) → is_goal k.model s ≡ true → get_or v s 0 ≡ 0
  below : (y : List ℤ) → IsPriced k spans prices y → (s : ℕ) → over v s ≤ℤ number y s

module _ (in_range : NumbersAreInRange) (rise : SumsRise) (k : CaseData) (spans : Spans) (is : IsCase k) (within : IsInside k.root spans) (prices : ℕ → ℤ) where
  abbrev row_total : ℕ → ℕ → ℤ
  row_total s a = whole k.model k.d spans (row_at k.model s a)

  abbrev corners : ℕ → ℕ → ℕ
  corners s a = 2 ^ parameter_count spans (support (row_at k.model s a))

  abbrev IsEnoughAt : List ℕ → ℕ → ℕ → ℕ → Type 0
  IsEnoughAt v s a c = corner_sum k.d spans (row_at k.model s a) c (over v) ≤ℤ ((over v s -ℤ prices s) *ℤ row_total s a)

  abbrev LacksAt : List ℕ → ℕ → ℕ → ℕ → Type 0
  LacksAt v s a c = ((over v s -ℤ prices s) *ℤ row_total s a) <ℤ corner_sum k.d spans (row_at k.model s a) c (over v)

  -- the state's number is enough for all its choices
  abbrev IsEnough : List ℕ → ℕ → Type 0
  IsEnough v s = is_goal k.model s ≡ false → (a : ℕ) → a < length (choices k.model s) → (c : ℕ) → c < corners s a → IsEnoughAt v s a c

  -- a corner of one of them calls for more
  abbrev Lacks : List ℕ → ℕ → Type 0
  Lacks v s = (is_goal k.model s ≡ false) × ((a : ℕ) × ((a < length (choices k.model s)) × ((c : ℕ) × ((c < corners s a) × LacksAt v s a c))))

  enough_or_lacks : (v : List ℕ) (s : ℕ) → IsEnough v s ⊎ Lacks v s
  enough_or_lacks v s =
      ⊎_elim
      (λ (g : is_goal k.model s ≡ true). inl (λ f. absurd (both_ways (is_goal k.model s) f g)))
      (λ (f : is_goal k.model s ≡ false). at_choices f)
      (cases_Bool (is_goal k.model s))
    where
      at_corner : (a c : ℕ) → IsEnoughAt v s a c ⊎ LacksAt v s a c
      at_corner a c = by_lt_z ((over v s -ℤ prices s) *ℤ row_total s a) (corner_sum k.d spans (row_at k.model s a) c (over v)) (λ lt. inr lt) (λ le. inl le)

      at_choices : is_goal k.model s ≡ false → IsEnough v s ⊎ Lacks v s
      at_choices f =
          ⊎_elim
          (λ (all : (a : ℕ) → a < length (choices k.model s) → (c : ℕ) → c < corners s a → IsEnoughAt v s a c). inl (λ g. all))
          (λ (one : (a : ℕ) × ((a < length (choices k.model s)) × ((c : ℕ) × ((c < corners s a) × LacksAt v s a c)))). inr (f, one))
          (all_or_some (λ a. (c : ℕ) → c < corners s a → IsEnoughAt v s a c) (λ a. (c : ℕ) × ((c < corners s a) × LacksAt v s a c))
          (λ a. all_or_some (IsEnoughAt v s a) (LacksAt v s a) (at_corner a) (corners s a))
          (length (choices k.model s)))

  total_positive : (s a : ℕ) → pos 0 <ℤ row_total s a
  total_positive s a =
      let common_positive : pos 0 <ℤ k.model.common = omega (arith, linear, is.asked.model.denominator.0) in
      let n = parameter_count spans (support (row_at k.model s a)) in
      omega (arith, linear, mul-lt k.model.common (pos 0) (power k.d n) common_positive (power-positive k.d n (omega (arith, linear, is.asked.grid.positive))), mul-zero k.model.common)

  cancels : (s a : ℕ) (m n : ℤ) → (m *ℤ row_total s a) <ℤ (n *ℤ row_total s a) → m <ℤ n
  cancels s a m n lt =
      let total = row_total s a in
      by_lt_z m n (λ l. l)
      (λ le. absurd (omega (arith, linear, lt, mul-le total n m (omega (arith, linear, total_positive s a)) le, mul-comm total n, mul-comm total m)))

  state_inside : (s a : ℕ) → a < length (choices k.model s) → s < length k.model.states
  state_inside s a lt =
      ⊎_elim
      (λ (inside : s < length k.model.states). inside)
      (λ (past : length k.model.states ≤ s). absurd (none past))
      (cases_lt s (length k.model.states))
    where
      none : length k.model.states ≤ s → ⊥
      none past = let empty : choices k.model s ≡ [] = get_or_past k.model.states s [] past in let no_choice : a < length {A = List Entry} [] = subst (λ (rows : List (List Entry)). a < length rows) empty lt in omega (arith, no_choice)

  has_row : (s a : ℕ) → a < length (choices k.model s) → HasRow k s a
  has_row s a lt = record { state = state_inside s a lt; choice = lt }

  -- where a corner calls for more, each priced vector has more
  more_in_each : (v : List ℕ) → IsBelowPriced k spans prices v → (s : ℕ) → Lacks v s → (y : List ℤ) → IsPriced k spans prices y → over v s <ℤ number y s
  more_in_each v is_below s lacks y priced =
      let a = lacks.1.0 in
      let c = lacks.1.1.1.0 in
      let choice = lacks.1.1.0 in
      let mean : corner_sum k.d spans (row_at k.model s a) c (number y) ≤ℤ ((number y s -ℤ prices s) *ℤ row_total s a) = priced.means s lacks.0 a [] choice c lacks.1.1.1.1.0 in
      let sums = rise k spans s a c (over v) (number y) is within (has_row s a choice) (is_below.below y priced) in
      let less = cancels s a (over v s -ℤ prices s) (number y s -ℤ prices s) (omega (arith, linear, lacks.1.1.1.1.1, sums, mean)) in
      omega (arith, linear, less)

  risen : (v : List ℕ) → IsBelowPriced k spans prices v → (s : ℕ) → Lacks v s → get_or v s 0 < 2 ^ k.w → IsBelowPriced k spans prices (set v s (suc (get_or v s 0)))
  risen v is_below s lacks some =
      let lt : s < length v = omega (arith, state_inside s lacks.1.0 lacks.1.1.0, is_below.size) in
      let n = suc (get_or v s 0) in
      record {
        size = length-set v s n ∙ is_below.size;
        small = by_set (λ t m. m ≤ 2 ^ k.w) v s n lt (omega (arith, some)) is_below.small;
        goal = by_set (λ t m. is_goal k.model t ≡ true → m ≡ 0) v s n lt (λ g. absurd (both_ways (is_goal k.model s) lacks.0 g)) is_below.goal;
        below = λ y priced. by_set (λ t m. pos m ≤ℤ number y t) v s n lt (let more = more_in_each v is_below s lacks y priced in omega (arith, linear, more)) (is_below.below y priced);
      }

  settled : (v : List ℕ) → IsBelowPriced k spans prices v → ((s : ℕ) → s < length k.model.states → IsEnough v s) → IsLeastPriced k spans prices (map pos v)
  settled v is_below enough = record {
    priced = record {
      numbers = record {
        size = map_count v ∙ is_below.size;
        range = All-from_get_or (λ n. (pos 0 ≤ℤ n) × (n ≤ℤ pos (2 ^ k.w))) (map pos v) (pos 0) (λ i lt. (omega (arith, linear, over_map v i), omega (arith, linear, over_map v i, is_below.small i)));
      };
      goal = λ s g. omega (arith, linear, over_map v s, is_below.goal s g);
      means = λ s f. All-from_get_or (λ row. MeansAtMost k spans row (map pos v) (number (map pos v) s -ℤ prices s)) (choices k.model s) []
          (λ a lt c corner.
          let sums = rise k spans s a c (number (map pos v)) (over v) is within (has_row s a lt) (λ t. omega (arith, linear, over_map v t)) in
          let same : number (map pos v) s ≡ over v s = over_map v s in
          let held : IsEnoughAt v s a c = enough s (state_inside s a lt) f a lt c corner in
          let le : corner_sum k.d spans (row_at k.model s a) c (number (map pos v)) ≤ℤ ((over v s -ℤ prices s) *ℤ row_total s a) = omega (arith, linear, sums, held) in
          subst (λ n. corner_sum k.d spans (row_at k.model s a) c (number (map pos v)) ≤ℤ ((n -ℤ prices s) *ℤ row_total s a)) (sym same) le);
    };
    least = λ y priced s. omega (arith, linear, over_map v s, is_below.below y priced s);
  }

  abbrev HasLeast : Type 0
  HasLeast = ((z : List ℤ) × IsLeastPriced k spans prices z) ⊎ ((y : List ℤ) → IsPriced k spans prices y → ⊥)

  -- a vector below all priced ones goes on rising, or it is settled, or there is none
  next_of : (v : List ℕ) → IsBelowPriced k spans prices v → ((s : ℕ) → Lacks v s → get_or v s 0 < 2 ^ k.w → HasLeast) → HasLeast
  next_of v is_below go_on =
      ⊎_elim
      (λ (all : (s : ℕ) → s < length k.model.states → IsEnough v s). let found : HasLeast = inl (map pos v, settled v is_below all) in found)
      (λ (one : (s : ℕ) × ((s < length k.model.states) × Lacks v s)).
      ⊎_elim
      (λ (some : get_or v one.0 0 < 2 ^ k.w). go_on one.0 one.1.1 some)
      (λ (full : 2 ^ k.w ≤ get_or v one.0 0).
      let none : HasLeast = inr (λ y priced.
      let more = more_in_each v is_below one.0 one.1.1 y priced in
      let most = (in_range k y one.0 priced.numbers).1 in
      absurd (omega (arith, linear, more, most, full))) in none)
      (cases_lt (get_or v one.0 0) (2 ^ k.w)))
      (all_or_some (IsEnough v) (Lacks v) (enough_or_lacks v) (length k.model.states))

  rising : (fuel : ℕ) (v : List ℕ) → IsBelowPriced k spans prices v → room (2 ^ k.w) v ≤ fuel → HasLeast
  rising zero v is_below le = next_of v is_below
      (λ s lacks some. absurd (let less = room_less (2 ^ k.w) v s (omega (arith, state_inside s lacks.1.0 lacks.1.1.0, is_below.size)) some in omega (arith, less, le)))
  rising (suc fuel) v is_below le = next_of v is_below
      (λ s lacks some.
      let less = room_less (2 ^ k.w) v s (omega (arith, state_inside s lacks.1.0 lacks.1.1.0, is_below.size)) some in
      rising fuel (set v s (suc (get_or v s 0))) (risen v is_below s lacks some) (omega (arith, less, le)))

  pub least_or_none : HasLeast
  least_or_none =
      let start = zeros (length k.model.states) in
      let none = all_zero (length k.model.states) in
      rising (room (2 ^ k.w) start) start
      (record {
        size = length-replicate (length k.model.states) 0;
        small = λ s. omega (arith, none s);
        goal = λ s g. none s;
        below = λ y priced s. (let least = (in_range k y s priced.numbers).0 in omega (arith, linear, least, none s));
      })
      (omega arith)
