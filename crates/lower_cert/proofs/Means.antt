-- Weighted sums as means, and what a row of a case gives at the corners of a rectangle.
use Rattle.std.proofs.Common.{◌≡◌, ◌≢◌, ◌+◌, ℕ, zero, suc, ◌^◌, ◌<◌, ◌≤◌, ◌⊎◌, Bool, true, false, List, [], ◌∷◌, length, get_or, All, ℤ, pos, ◌+ℤ◌, ◌*ℤ◌, ◌≤ℤ◌, ◌<ℤ◌, refl, sym, ap, subst, arith, nat_lt, ltb-true, ltb-false}
use Rattle.std.proofs.lemmas.Int.{by_lt_z}
use Rattle.std.proofs.lemmas.List.Elements.{All-cons, All-nil}
use Rattle.lift_poly.proofs.Ring.{linear, mul-comm, mul-assoc, mul-add, add-mul, mul-zero, zero-mul, one-mul, mul-le, mul-lt}
use Rattle.lift_grid.specs.Rectangle.{Spans}
use Rattle.lift_grid.specs.Tree.{RejectData}
use Rattle.lift_model.specs.declared.entry.Entry.{Entry}
use Rattle.lift_model.specs.Links.{targets_of}
use Rattle.lift_model.specs.Valid.{IsEntry}
use Rattle.lift_model.specs.Process.{Move, power, weighted_sum}
use Rattle.lift_model.specs.Model.{ModelData, support, is_goal, choices, row_at, moves_at}
use Rattle.corner_lift.specs.Corner.{parameter_count, corner, corner_sum, whole}
use Rattle.corner_lift.specs.Case.{CaseData, IsCase, IsInside, row_whole, number}
use Rattle.corner_lift.specs.Certificate.{mark, unmarked, ranked_below, chosen_row, IsLower, IsHeld}
use Rattle.corner_lift.specs.Laws.{HasRow}
pub use Rattle.lower_cert.specs.Premises.{Premises}

-- a rectangle inside a case's root, with these laws
pub record Place (k : CaseData) (spans : Spans) : Type 0 where
  pub laws : Premises
  pub case : IsCase k
  pub within : IsInside k.root spans

pub stand : Premises → (k : CaseData) (spans : Spans) → IsCase k → IsInside k.root spans → Place k spans
stand laws k spans is within = record { laws = laws; case = is; within = within }

-- whether a number is below another
pub in_or_past : (s count : ℕ) → (s < count) ⊎ (count ≤ s)
in_or_past s count = grind arith

pub same_or_less : (b a : ℕ) → b < a + 1 → (b < a) ⊎ (b ≡ a)
same_or_less b a lt = grind arith

pub same_or_not : (i j : ℕ) → (i ≡ j) ⊎ (i ≢ j)
same_or_not i j = grind arith

pub either_way : {P : Type 0} (b : Bool) → (b ≡ true → P) → (b ≡ false → P) → P
either_way true f g = f refl
either_way false f g = g refl

pub sum-add : (f g : ℕ → ℤ) (moves : List Move) → weighted_sum (λ t. f t +ℤ g t) moves ≡ weighted_sum f moves +ℤ weighted_sum g moves
sum-add f g [] = omega (arith, linear)
sum-add f g (m ∷ moves) = omega (arith, linear, sum-add f g moves, mul-add m.1 (f m.0) (g m.0))

pub sum-same : (f g : ℕ → ℤ) (moves : List Move) → ((t : ℕ) → f t ≡ g t) → weighted_sum f moves ≡ weighted_sum g moves
sum-same f g [] same = refl
sum-same f g (m ∷ moves) same = omega (arith, linear, sum-same f g moves same, ap (λ z. m.1 *ℤ z) (same m.0))

pub sum-times : (q : ℤ) (f : ℕ → ℤ) (moves : List Move) → weighted_sum (λ t. f t *ℤ q) moves ≡ weighted_sum f moves *ℤ q
sum-times q f [] = omega (arith, linear, zero-mul q)
sum-times q f (m ∷ moves) = omega (arith, linear, sum-times q f moves, add-mul (m.1 *ℤ f m.0) (weighted_sum f moves) q, mul-assoc m.1 (f m.0) q)

pub cancel-lt : (a b c : ℤ) → pos 0 <ℤ c → (a *ℤ c) <ℤ (b *ℤ c) → a <ℤ b
cancel-lt a b c h lt = by_lt_z a b (λ l. l) (λ le. let f = mul-le c b a (omega (arith, linear)) le in absurd (omega (arith, linear, f, lt, mul-comm c a, mul-comm c b)))

-- a part of a whole above 0 is above 0
pub positive_part : (a b q : ℤ) → pos 0 ≤ℤ q → pos 0 <ℤ b → b ≤ℤ (a *ℤ q) → pos 0 <ℤ a
positive_part a b q h positive le = by_lt_z (pos 0) a (λ l. l) (λ n. let f = mul-le q a (pos 0) h n in absurd (omega (arith, linear, f, positive, le, mul-comm q a, mul-zero q)))

product-positive : (a b : ℤ) → pos 0 <ℤ a → pos 0 <ℤ b → pos 0 <ℤ (a *ℤ b)
product-positive a b f g = let lt = mul-lt a (pos 0) b f g in omega (arith, linear, lt, mul-zero a)

power-positive : (b : ℤ) (n : ℕ) → pos 0 <ℤ b → pos 0 <ℤ power b n
power-positive b zero h = omega (arith, linear)
power-positive b (suc n) h = product-positive b (power b n) h (power-positive b n h)

pub state_of : (m : ModelData) (s a : ℕ) → a < length (choices m s) → s < length m.states
state_of m s a lt = either_way (nat_lt s (length m.states)) (λ e. ltb-true s (length m.states) e) (λ e. absurd (past_end m.states s a (ltb-false s (length m.states) e) lt))
  where
    past_end : (states : List (List (List Entry))) (s a : ℕ) → length states ≤ s → a < length (get_or states s []) → ⊥
    past_end [] s a le lt = omega (arith, lt)
    past_end (state ∷ states) zero a le lt = omega (arith, le)
    past_end (state ∷ states) (suc s) a le lt = past_end states s a (omega (arith, le)) lt

-- where a row with one entry leads
pub only_inside : (n p : ℕ) (row : List Entry) (t : ℕ) → targets_of row ≡ t ∷ [] → All (IsEntry n p) row → t < n
only_inside n p [] t e h = absurd (omega (arith, ap (length {A = ℕ}) e))
only_inside n p (x ∷ row) t e h =
    let same : x.target ≡ t = ap (λ l. get_or l 0 0) e in
    let here : IsEntry n p x = h 0 x (omega arith) in
    omega (arith, here.target, same)

-- ---- a choice at the corners of a rectangle inside the root

module _ (k : CaseData) (spans : Spans) (place : Place k spans) (s a : ℕ) (choice : a < length (choices k.model s)) where
  there : HasRow k s a
  there = record { state = state_of k.model s a choice; choice = choice }

  pub positive : pos 0 <ℤ whole k.model k.d spans (row_at k.model s a)
  positive =
      let set = support (row_at k.model s a) in
      product-positive k.model.common (power k.d (parameter_count spans set)) (omega (arith, linear, place.case.asked.model.denominator.0)) (power-positive k.d (parameter_count spans set) (omega (arith, linear, place.case.asked.grid.positive)))

  -- where all targets of a row have the same number, its sum is the whole times it
  weighed : (c : ℕ) → c < 2 ^ parameter_count spans (support (row_at k.model s a)) → (f : ℕ → ℤ) (n : ℤ) → All (λ t. f t ≡ n) (targets_of (row_at k.model s a)) → corner_sum k.d spans (row_at k.model s a) c f ≡ whole k.model k.d spans (row_at k.model s a) *ℤ n
  weighed c lt f n all =
      let most = place.laws.most k spans s a f n place.case place.within there (λ i t at. omega (arith, linear, all i t at)) c lt in
      let least = place.laws.least k spans s a f n place.case place.within there (λ i t at. omega (arith, linear, all i t at)) c lt in
      let same : whole k.model k.d spans (row_at k.model s a) ≡ row_whole k s a = ap (λ count. k.model.common *ℤ power k.d count) (place.laws.parameters k spans (row_at k.model s a) place.within.within) in
      omega (arith, linear, most, least, mul-comm n (row_whole k s a), ap (λ z. z *ℤ n) same)

  pub level : (c : ℕ) → c < 2 ^ parameter_count spans (support (row_at k.model s a)) → (q : ℤ) → corner_sum k.d spans (row_at k.model s a) c (λ t. q) ≡ whole k.model k.d spans (row_at k.model s a) *ℤ q
  level c lt q = weighed c lt (λ t. q) q (λ i t at. refl)

  pub ones : (c : ℕ) → c < 2 ^ parameter_count spans (support (row_at k.model s a)) → corner_sum k.d spans (row_at k.model s a) c (λ t. pos 1) ≡ whole k.model k.d spans (row_at k.model s a)
  ones c lt = let whole_is = whole k.model k.d spans (row_at k.model s a) in omega (arith, linear, level c lt (pos 1), mul-comm whole_is (pos 1), one-mul whole_is)

  pub mono : (c : ℕ) (f g : ℕ → ℤ) → ((t : ℕ) → f t ≤ℤ g t) → corner_sum k.d spans (row_at k.model s a) c f ≤ℤ corner_sum k.d spans (row_at k.model s a) c g
  mono c f g le = place.laws.rise k spans s a c f g place.case place.within there le

  pub added : (c : ℕ) (f g : ℕ → ℤ) → corner_sum k.d spans (row_at k.model s a) c (λ t. f t +ℤ g t) ≡ corner_sum k.d spans (row_at k.model s a) c f +ℤ corner_sum k.d spans (row_at k.model s a) c g
  added c f g = sum-add f g (moves_at (corner k.d spans (support (row_at k.model s a)) c) (row_at k.model s a))

  pub scaled : (c : ℕ) (q : ℤ) (f : ℕ → ℤ) → corner_sum k.d spans (row_at k.model s a) c (λ t. f t *ℤ q) ≡ corner_sum k.d spans (row_at k.model s a) c f *ℤ q
  scaled c q f = sum-times q f (moves_at (corner k.d spans (support (row_at k.model s a)) c) (row_at k.model s a))

  pub only : (c : ℕ) → c < 2 ^ parameter_count spans (support (row_at k.model s a)) → (t : ℕ) → targets_of (row_at k.model s a) ≡ t ∷ [] → (f : ℕ → ℤ) → corner_sum k.d spans (row_at k.model s a) c f ≡ whole k.model k.d spans (row_at k.model s a) *ℤ f t
  only c lt t e f = weighed c lt f (f t) (subst (All (λ i. f i ≡ f t)) (sym e) (All-cons (λ i. f i ≡ f t) t [] refl (All-nil (λ i. f i ≡ f t))))

-- ---- a lower vector

module _ (k : CaseData) (spans : Spans) (place : Place k spans) (y : RejectData) (h : IsLower k spans y) where
  pub range : (s : ℕ) → (pos 0 ≤ℤ number y.numbers s) × (number y.numbers s ≤ℤ pos (2 ^ k.w))
  range s = place.laws.numbers k y.numbers s h.numbers

  -- a state that is no goal state is held or has 0
  pub held_or_zero : {P : Type 0} (s : ℕ) → is_goal k.model s ≡ false → (IsHeld k spans y s → P) → (number y.numbers s ≡ pos 0 → P) → P
  held_or_zero s g f z =
      either_way (nat_lt (mark y.ranks s) unmarked)
      (λ b. f (h.held s g (ltb-true (mark y.ranks s) unmarked b)))
      (λ b. z (h.unranked s g (ltb-false (mark y.ranks s) unmarked b)).0)

  module _ (s : ℕ) (held : IsHeld k spans y s) (c : ℕ) (lt : c < 2 ^ parameter_count spans (support (chosen_row k y s))) where
    -- there is weight into lower ranks
    pub sinking : pos 0 <ℤ corner_sum k.d spans (chosen_row k y s) c (ranked_below (mark y.ranks) (mark y.ranks s))
    sinking =
        let row = chosen_row k y s in
        positive_part (corner_sum k.d spans row c (ranked_below (mark y.ranks) (mark y.ranks s))) (whole k.model k.d spans row) (pos (2 ^ y.e)) (omega (arith, linear)) (positive k spans place s (mark y.picks s) held.pick) (held.rates c lt)

    -- y is at most f, whose mean there is below v
    pub below_mean : (f : ℕ → ℤ) (v : ℤ) → ((t : ℕ) → number y.numbers t ≤ℤ f t) → corner_sum k.d spans (chosen_row k y s) c f <ℤ (v *ℤ whole k.model k.d spans (chosen_row k y s)) → number y.numbers s <ℤ v
    below_mean f v le mean =
        let row = chosen_row k y s in
        let a = mark y.picks s in
        cancel-lt (number y.numbers s) v (whole k.model k.d spans row) (positive k spans place s a held.pick)
        (omega (arith, linear, held.means c lt, mono k spans place s a held.pick c (number y.numbers) f le, mean))

    -- y is at most f, and less on lower ranks, and f's mean there is at most v
    pub below_lower : (f : ℕ → ℤ) (v : ℤ) → ((t : ℕ) → (number y.numbers t +ℤ ranked_below (mark y.ranks) (mark y.ranks s) t) ≤ℤ f t) → corner_sum k.d spans (chosen_row k y s) c f ≤ℤ (v *ℤ whole k.model k.d spans (chosen_row k y s)) → number y.numbers s <ℤ v
    below_lower f v le mean =
        let row = chosen_row k y s in
        let a = mark y.picks s in
        let low = ranked_below (mark y.ranks) (mark y.ranks s) in
        cancel-lt (number y.numbers s) v (whole k.model k.d spans row) (positive k spans place s a held.pick)
        (omega (arith, linear, held.means c lt, mono k spans place s a held.pick c (λ t. number y.numbers t +ℤ low t) f le, added k spans place s a held.pick c (number y.numbers) low, sinking, mean))
