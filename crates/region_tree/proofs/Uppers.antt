-- A rectangle inside the root has a least upper vector: from 0 on, a state's number rises by one while a corner of one of its choices has a greater mean.
use Rattle.std.proofs.Common.{◌≡◌, ℕ, suc, ◌-◌, ◌^◌, ◌<◌, ◌≤◌, ◌⊎◌, inl, inr, ⊎_elim, true, false, cond, eqb, List, [], length, ℤ, pos, ◌*ℤ◌, ◌≤ℤ◌, ◌<ℤ◌, refl, sym, ap, ◌∙◌, subst, arith}
use Rattle.std.proofs.lemmas.Bool.{cases_Bool, both_ways, cond_both, cond-true, eqb-true, eqb-false}
use Rattle.std.proofs.lemmas.Int.{by_lt_z}
use Rattle.std.proofs.lemmas.List.Elements.{All-from_get_or}
use Rattle.lift_poly.proofs.Ring.{linear}
use Rattle.lift_grid.specs.Rectangle.{Spans}
use Rattle.lift_model.specs.Model.{is_goal, choices, row_at}
use Rattle.corner_lift.specs.Corner.{corner_sum, whole}
use Rattle.corner_lift.specs.Case.{CaseData, IsCase, IsInside, number}
use Rattle.corner_lift.specs.Certificate.{MeansAtMost, IsUpper, IsLeastUpper}
use Rattle.lower_cert.specs.Premises.{Premises}
use Rattle.region_tree.proofs.Searches.{all_or_one, descend, sum_to, sum-lt, listed, listed-length, listed-is}
use Rattle.region_tree.proofs.Rows.{Place, corners, goal_past, sum_rises, sum_most, whole_cancels}
use Rattle.region_tree.proofs.Unique.{no_state}

-- numbers over 2 ^ w, as integers
abbrev pub over : (ℕ → ℕ) → ℕ → ℤ
over v s = pos (v s)

-- numbers that each upper vector is at or above
record IsBelowUppers (k : CaseData) (spans : Spans) (v : ℕ → ℕ) : Type 0 where
  small : (s : ℕ) → v s ≤ 2 ^ k.w
  past : (s : ℕ) → length k.model.states ≤ s → v s ≡ 0
  goal : (s : ℕ) → is_goal k.model s ≡ true → v s ≡ 2 ^ k.w
  below : (y : List ℤ) → IsUpper k spans y → (s : ℕ) → pos (v s) ≤ℤ number y s

abbrev EnoughAt : CaseData → Spans → (ℕ → ℕ) → ℕ → ℕ → ℕ → Type 0
EnoughAt k spans v s a c = corner_sum k.d spans (row_at k.model s a) c (over v) ≤ℤ (pos (v s) *ℤ whole k.model k.d spans (row_at k.model s a))

abbrev LacksAt : CaseData → Spans → (ℕ → ℕ) → ℕ → ℕ → ℕ → Type 0
LacksAt k spans v s a c = (pos (v s) *ℤ whole k.model k.d spans (row_at k.model s a)) <ℤ corner_sum k.d spans (row_at k.model s a) c (over v)

-- the state's number is at least each mean of each choice
abbrev IsEnough : CaseData → Spans → (ℕ → ℕ) → ℕ → Type 0
IsEnough k spans v s = is_goal k.model s ≡ false → (a : ℕ) → a < length (choices k.model s) → (c : ℕ) → c < corners k spans s a → EnoughAt k spans v s a c

-- a corner of one of the state's choices has a greater mean
abbrev Lacks : CaseData → Spans → (ℕ → ℕ) → ℕ → Type 0
Lacks k spans v s = (is_goal k.model s ≡ false) × ((a : ℕ) × ((a < length (choices k.model s)) × ((c : ℕ) × ((c < corners k spans s a) × LacksAt k spans v s a c))))

enough_or_not : (k : CaseData) (spans : Spans) (v : ℕ → ℕ) (s : ℕ) → IsEnough k spans v s ⊎ Lacks k spans v s
enough_or_not k spans v s =
    ⊎_elim
    (λ (g : is_goal k.model s ≡ true). inl (λ f. absurd (both_ways (is_goal k.model s) f g)))
    (λ (f : is_goal k.model s ≡ false).
    ⊎_elim
    (λ (all : (a : ℕ) → a < length (choices k.model s) → (c : ℕ) → c < corners k spans s a → EnoughAt k spans v s a c). inl (λ g. all))
    (λ (one : (a : ℕ) × ((a < length (choices k.model s)) × ((c : ℕ) × ((c < corners k spans s a) × LacksAt k spans v s a c)))). inr (f, one))
    (all_or_one (λ a. (c : ℕ) → c < corners k spans s a → EnoughAt k spans v s a c) (λ a. (c : ℕ) × ((c < corners k spans s a) × LacksAt k spans v s a c))
    (λ a. all_or_one (EnoughAt k spans v s a) (LacksAt k spans v s a) (at a) (corners k spans s a))
    (length (choices k.model s))))
    (cases_Bool (is_goal k.model s))
  where
    at : (a c : ℕ) → EnoughAt k spans v s a c ⊎ LacksAt k spans v s a c
    at a c = by_lt_z (pos (v s) *ℤ whole k.model k.d spans (row_at k.model s a)) (corner_sum k.d spans (row_at k.model s a) c (over v)) (λ lt. inr lt) (λ le. inl le)

-- a state's number, raised by one
abbrev risen : (ℕ → ℕ) → ℕ → ℕ → ℕ
risen v s t = cond (eqb t s) (suc (v s)) (v t)

by_risen : (v : ℕ → ℕ) (s t : ℕ) (P : ℕ → Type 0) → (t ≡ s → P (suc (v s))) → ((t ≡ s → ⊥) → P (v t)) → P (risen v s t)
by_risen v s t P here other = cond_both (eqb t s) (suc (v s)) (v t) P (λ e. here (eqb-true t s e)) (λ e. other (eqb-false t s e))

module _ (k : CaseData) (spans : Spans) (place : Place k spans) where
  -- ---- one step

  module _ (v : ℕ → ℕ) (is : IsBelowUppers k spans v) (s a c : ℕ) (f : is_goal k.model s ≡ false) (choice : a < length (choices k.model s)) (corner : c < corners k spans s a) (lacks : LacksAt k spans v s a c) where
    -- where a number's product with the whole is at least the mean's, the number is above the state's
    above : (n : ℤ) → corner_sum k.d spans (row_at k.model s a) c (over v) ≤ℤ (n *ℤ whole k.model k.d spans (row_at k.model s a)) → pos (v s) <ℤ n
    above n le = whole_cancels k spans place s a choice (pos (v s)) n (omega (arith, linear, lacks, le))

    room : v s < 2 ^ k.w
    room =
        let top = pos (2 ^ k.w) in
        let less = above top (sum_most k spans place s a choice c corner (over v) top (λ t. omega (arith, linear, is.small t))) in
        omega (arith, linear, less)

    higher : (y : List ℤ) → IsUpper k spans y → pos (suc (v s)) ≤ℤ number y s
    higher y upper =
        let more = sum_rises k spans place s a choice c (over v) (number y) (is.below y upper) in
        let mean : corner_sum k.d spans (row_at k.model s a) c (number y) ≤ℤ (number y s *ℤ whole k.model k.d spans (row_at k.model s a)) = upper.means s f a [] choice c corner in
        let less = above (number y s) (omega (arith, linear, more, mean)) in
        omega (arith, linear, less)

    is_risen : IsBelowUppers k spans (risen v s)
    is_risen = record {
      small = λ t. by_risen v s t (λ m. m ≤ 2 ^ k.w) (λ e. omega (arith, room)) (λ o. is.small t);
      past = λ t le. by_risen v s t (λ m. m ≡ 0) (λ e. absurd (let lt = no_state k.model s a choice in omega (arith, lt, le, e))) (λ o. is.past t le);
      goal = λ t g. by_risen v s t (λ m. m ≡ 2 ^ k.w) (λ e. absurd (both_ways (is_goal k.model s) f (subst (λ i. is_goal k.model i ≡ true) e g))) (λ o. is.goal t g);
      below = λ y upper t. by_risen v s t (λ m. pos m ≤ℤ number y t) (λ e. subst (λ i. pos (suc (v s)) ≤ℤ number y i) (sym e) (higher y upper)) (λ o. is.below y upper t);
    }

    less_room : sum_to (λ t. 2 ^ k.w - risen v s t) (length k.model.states) < sum_to (λ t. 2 ^ k.w - v t) (length k.model.states)
    less_room =
        sum-lt (λ t. 2 ^ k.w - risen v s t) (λ t. 2 ^ k.w - v t) (length k.model.states) s
        (λ t lt. by_risen v s t (λ m. 2 ^ k.w - m ≤ 2 ^ k.w - v t) (λ e. subst (λ i. 2 ^ k.w - suc (v s) ≤ 2 ^ k.w - v i) (sym e) (omega arith)) (λ o. omega arith))
        (no_state k.model s a choice)
        (by_risen v s s (λ m. 2 ^ k.w - m < 2 ^ k.w - v s) (λ e. omega (arith, room)) (λ o. absurd (o refl)))

  -- ---- where no state lacks

  settled_by : (v : ℕ → ℕ) (x : List ℤ) → length x ≡ length k.model.states → number x ≡ over v → IsBelowUppers k spans v → ((s : ℕ) → s < length k.model.states → IsEnough k spans v s) → IsLeastUpper k spans x
  settled_by v x size same is enough = record {
    upper = record {
      numbers = record { size = size; range = All-from_get_or (λ n. (pos 0 ≤ℤ n) × (n ≤ℤ pos (2 ^ k.w))) x (pos 0) (λ i lt. (omega (arith, linear, at i), omega (arith, linear, at i, is.small i))) };
      goal = λ s g. at s ∙ ap pos (is.goal s g);
      means = λ s f. All-from_get_or (λ row. MeansAtMost k spans row x (number x s)) (choices k.model s) []
          (λ a lt c corner. subst (λ (y : ℕ → ℤ). corner_sum k.d spans (row_at k.model s a) c y ≤ℤ (y s *ℤ whole k.model k.d spans (row_at k.model s a))) (sym same) (enough s (no_state k.model s a lt) f a lt c corner));
    };
    least = λ y upper s. omega (arith, linear, at s, is.below y upper s);
  }
    where
      at : (s : ℕ) → number x s ≡ pos (v s)
      at s = ap (λ (y : ℕ → ℤ). y s) same

  abbrev Below : Type 0
  Below = (v : ℕ → ℕ) × IsBelowUppers k spans v

  abbrev room_of : Below → ℕ
  room_of b = sum_to (λ t. 2 ^ k.w - b.0 t) (length k.model.states)

  abbrev Found : Type 0
  Found = (x : List ℤ) × IsLeastUpper k spans x

  step : (b : Below) → Found ⊎ ((next : Below) × (room_of next < room_of b))
  step b =
      ⊎_elim
      (λ (all : (s : ℕ) → s < length k.model.states → IsEnough k spans b.0 s).
      inl (listed (over b.0) (length k.model.states), settled_by b.0 (listed (over b.0) (length k.model.states)) (listed-length (over b.0) (length k.model.states)) (listed-is (over b.0) (length k.model.states) (pos 0) (λ i le. ap pos (b.1.past i le))) b.1 all))
      (λ (one : (s : ℕ) × ((s < length k.model.states) × Lacks k spans b.0 s)).
      let f = one.1.1.0 in
      let row = one.1.1.1 in
      let lacks = row.1.1 in
      inr ((risen b.0 one.0, is_risen b.0 b.1 one.0 row.0 lacks.0 f row.1.0 lacks.1.0 lacks.1.1), less_room b.0 b.1 one.0 row.0 lacks.0 f row.1.0 lacks.1.0 lacks.1.1))
      (all_or_one (IsEnough k spans b.0) (Lacks k spans b.0) (enough_or_not k spans b.0) (length k.model.states))

  -- 2 ^ w on goal states, and 0 elsewhere
  abbrev start : ℕ → ℕ
  start s = cond (is_goal k.model s) (2 ^ k.w) 0

  start_below : IsBelowUppers k spans start
  start_below = record {
    small = λ s. cond_both (is_goal k.model s) (2 ^ k.w) 0 (λ m. m ≤ 2 ^ k.w) (λ e. omega arith) (λ e. omega arith);
    past = λ s le. cond_both (is_goal k.model s) (2 ^ k.w) 0 (λ m. m ≡ 0) (λ e. absurd (both_ways (is_goal k.model s) (goal_past k place.case s le) e)) (λ e. refl);
    goal = λ s g. cond-true (is_goal k.model s) (2 ^ k.w) 0 g;
    below = λ y upper s. cond_both (is_goal k.model s) (2 ^ k.w) 0 (λ m. pos m ≤ℤ number y s) (λ e. let top = upper.goal s e in omega (arith, linear, top)) (λ e. (place.laws.numbers k y s upper.numbers).0);
  }

  least_upper : Found
  least_upper = descend room_of step (start, start_below)

pub least_uppers_exist : Premises → (k : CaseData) (spans : Spans) → IsCase k → IsInside k.root spans → (x : List ℤ) × IsLeastUpper k spans x
least_uppers_exist laws k spans is inside = least_upper k spans (record { laws = laws; case = is; within = inside })
