-- Of two certificates from below of the cost to reach the goal there is one at or above both.
use Rattle.std.proofs.Common.{◌≡◌, ◌≤◌, ◌+◌, ◌^◌, ◌<◌, ℕ, zero, suc, Bool, true, false, cond, List, [], ◌∷◌, length, get_or, ℤ, pos, ◌-ℤ◌, ◌*ℤ◌, ◌≤ℤ◌, int_le, refl, sym, ap, subst, ◌∙◌, arith, ⊎_elim}
use Rattle.std.proofs.lemmas.List.{get_or_default, get_or_past}
use Rattle.std.proofs.lemmas.Bool.{both_ways}
use Rattle.std.proofs.lemmas.Int.{by_lt_z}
use Rattle.lift_poly.proofs.Ring.{linear, le_from_test, test_from_le}
use Rattle.lift_grid.specs.Rectangle.{Spans}
use Rattle.lift_model.specs.declared.entry.Entry.{Entry}
use Rattle.lift_model.specs.Model.{choices, row_at}
use Rattle.corner_lift.specs.Corner.{whole}
use Rattle.corner_lift.specs.Case.{CaseData, IsCase, IsInside, number}
use Rattle.corner_lift.specs.Certificate.{AreNumbers, unmarked, mark}
use Rattle.corner_lift.specs.Laws.{HasRow, NumbersAreInRange, SumsRise}
use Rattle.reward_cert.specs.Charges.{RewardData}
use Rattle.reward_cert.specs.Rounded.{reward_down}
use Rattle.reward_cert.specs.Rows.{IsBacked}
use Rattle.reward_cert.specs.Laws.{ReachingLowerAllsJoin, ReachingLowerOnesJoin}
use Rattle.reward_cert.proofs.Steps.{either_way}
use Rattle.reward_cert.proofs.Valuations.{in_or_past}

-- ---- lists by their places

tabulated : {A : Type 0} → ℕ → ℕ → (ℕ → A) → List A
tabulated first zero f = []
tabulated first (suc n) f = f first ∷ tabulated (suc first) n f

tabulated-length : {A : Type 0} (first n : ℕ) (f : ℕ → A) → length (tabulated first n f) ≡ n
unfolding tabulated
tabulated-length first zero f = refl
tabulated-length first (suc n) f = ap suc (tabulated-length (suc first) n f)

tabulated-at : {A : Type 0} (first n : ℕ) (f : ℕ → A) (s : ℕ) (d : A) → s < n → get_or (tabulated first n f) s d ≡ f (first + s)
unfolding tabulated
tabulated-at first zero f s d lt = absurd (omega (arith, lt))
tabulated-at first (suc n) f zero d lt = ap f (let e : first ≡ first + 0 = omega arith in e)
tabulated-at first (suc n) f (suc s) d lt = tabulated-at (suc first) n f s d (omega (arith, lt)) ∙ ap f (let e : suc first + s ≡ first + suc s = omega arith in e)

-- one element for each of so many places
pub listed : {A : Type 0} → ℕ → (ℕ → A) → List A
listed n f = tabulated 0 n f

pub listed-length : {A : Type 0} (n : ℕ) (f : ℕ → A) → length (listed n f) ≡ n
unfolding listed
listed-length n f = tabulated-length 0 n f

pub listed-at : {A : Type 0} (n : ℕ) (f : ℕ → A) (s : ℕ) (d : A) → s < n → get_or (listed n f) s d ≡ f s
unfolding listed
listed-at n f s d lt = tabulated-at 0 n f s d lt ∙ ap f (let e : 0 + s ≡ s = omega arith in e)

pub listed-past : {A : Type 0} (n : ℕ) (f : ℕ → A) (s : ℕ) (d : A) → n ≤ s → get_or (listed n f) s d ≡ d
listed-past n f s d le = get_or_past (listed n f) s d (omega (arith, le, listed-length n f))

-- a state with a choice is one of the model's
pub row_there : (k : CaseData) (s a : ℕ) → a < length (choices k.model s) → HasRow k s a
row_there k s a lt = ⊎_elim
    (λ (state : s < length k.model.states). record { state = state; choice = lt })
    (λ (past : length k.model.states ≤ s). absurd (let none = get_or_past k.model.states s [] past in omega (arith, lt, ap (length {A = List Entry}) none)))
    (in_or_past s (length k.model.states))

pub more_from_test : (a b : ℤ) → int_le a b ≡ false → b ≤ℤ a
more_from_test a b e = by_lt_z b a (λ lt. omega (arith, linear, lt)) (λ le. absurd (both_ways (int_le a b) e (test_from_le a b le)))

module _ (numbers : NumbersAreInRange) (rise : SumsRise) (k : CaseData) (spans : Spans) (r : RewardData) (is : IsCase k) (within : IsInside k.root spans) (x y : List ℤ) (are_x : AreNumbers k x) (are_y : AreNumbers k y) where
  abbrev n : ℕ
  n = length k.model.states

  -- whether the second has the greater number
  abbrev second : ℕ → Bool
  second s = int_le (number x s) (number y s)

  joined : List ℤ
  joined = listed n (λ s. cond (second s) (number y s) (number x s))

  past_number : (z : List ℤ) (s : ℕ) → AreNumbers k z → n ≤ s → number z s ≡ pos 0
  past_number z s are le = get_or_past z s (pos 0) (omega (arith, are.size, le))

  joined_is : (s : ℕ) → number joined s ≡ cond (second s) (number y s) (number x s)
  unfolding joined
  joined_is s = ⊎_elim
      (λ (lt : s < n). listed-at n (λ s. cond (second s) (number y s) (number x s)) s (pos 0) lt)
      (λ (past : n ≤ s).
      let none = listed-past n (λ s. cond (second s) (number y s) (number x s)) s (pos 0) past in
      let zero_x = past_number x s are_x past in
      let zero_y = past_number y s are_y past in
      either_way (second s) (λ e. rw e (none ∙ sym zero_y)) (λ e. rw e (none ∙ sym zero_x)))
      (in_or_past s n)

  from_second : (s : ℕ) → second s ≡ true → number joined s ≡ number y s
  from_second s e = joined_is s ∙ ap (λ b. cond b (number y s) (number x s)) e

  from_first : (s : ℕ) → second s ≡ false → number joined s ≡ number x s
  from_first s e = joined_is s ∙ ap (λ b. cond b (number y s) (number x s)) e

  over_x : (s : ℕ) → number x s ≤ℤ number joined s
  over_x s = either_way (second s) (λ e. omega (arith, linear, le_from_test (number x s) (number y s) e, from_second s e)) (λ e. omega (arith, linear, from_first s e))

  over_y : (s : ℕ) → number y s ≤ℤ number joined s
  over_y s = either_way (second s) (λ e. omega (arith, linear, from_second s e)) (λ e. omega (arith, linear, more_from_test (number x s) (number y s) e, from_first s e))

  joined_size : length joined ≡ n
  unfolding joined
  joined_size = listed-length n (λ s. cond (second s) (number y s) (number x s))

  joined_range : (s : ℕ) → (pos 0 ≤ℤ number joined s) × (number joined s ≤ℤ pos (2 ^ k.w))
  joined_range s =
      let in_x = numbers k x s are_x in
      let in_y = numbers k y s are_y in
      either_way (second s)
      (λ e. (omega (arith, linear, in_y.0, from_second s e), omega (arith, linear, in_y.1, from_second s e)))
      (λ e. (omega (arith, linear, in_x.0, from_first s e), omega (arith, linear, in_x.1, from_first s e)))

  joined_numbers : AreNumbers k joined
  joined_numbers = record {
    size = joined_size;
    range = λ i d lt. subst (λ z. (pos 0 ≤ℤ z) × (z ≤ℤ pos (2 ^ k.w))) (sym (get_or_default joined i d (pos 0) lt)) (joined_range i);
  }

  joined_goal : (s : ℕ) → number x s ≡ pos 0 → number y s ≡ pos 0 → number joined s ≡ pos 0
  joined_goal s in_x in_y = either_way (second s) (λ e. from_second s e ∙ in_y) (λ e. from_first s e ∙ in_x)

  -- what is backed stays so with the same number over greater ones
  kept : (z : List ℤ) (s a : ℕ) → a < length (choices k.model s) → ((t : ℕ) → number z t ≤ℤ number joined t) → number joined s ≡ number z s → IsBacked k spans r z s a → IsBacked k spans r joined s a
  kept z s a lt over same backed c at =
      omega (arith, linear, backed c at, rise k spans s a c (number z) (number joined) is within (row_there k s a lt) over, ap (λ i. (i -ℤ pos (reward_down k.w r s a)) *ℤ whole k.model k.d spans (row_at k.model s a)) same)

  -- of the one that has the number
  joined_backed : (s a b : ℕ) → a < length (choices k.model s) → b < length (choices k.model s) → IsBacked k spans r x s a → IsBacked k spans r y s b → IsBacked k spans r joined s (cond (second s) b a)
  joined_backed s a b in_a in_b by_x by_y = either_way (second s)
      (λ e. subst (λ i. IsBacked k spans r joined s i) (sym (ap (λ t. cond t b a) e)) (kept y s b in_b over_y (from_second s e) by_y))
      (λ e. subst (λ i. IsBacked k spans r joined s i) (sym (ap (λ t. cond t b a) e)) (kept x s a in_a over_x (from_first s e) by_x))

  -- ---- picks

  module _ (p q : List ℕ) (size_p : length p ≡ n) (size_q : length q ≡ n) where
    picks : List ℕ
    picks = listed n (λ s. cond (second s) (mark q s) (mark p s))

    picks_is : (s : ℕ) → s < n → mark picks s ≡ cond (second s) (mark q s) (mark p s)
    unfolding picks
    picks_is s lt = listed-at n (λ s. cond (second s) (mark q s) (mark p s)) s unmarked lt

    picks_size : length picks ≡ n
    unfolding picks
    picks_size = listed-length n (λ s. cond (second s) (mark q s) (mark p s))

    picks_past : (s : ℕ) → n ≤ s → mark picks s ≡ unmarked
    unfolding picks
    picks_past s past = listed-past n (λ s. cond (second s) (mark q s) (mark p s)) s unmarked past

    picks_goal : (s : ℕ) → mark p s ≡ unmarked → mark q s ≡ unmarked → mark picks s ≡ unmarked
    picks_goal s in_p in_q = ⊎_elim
        (λ (lt : s < n). picks_is s lt ∙ either_way (second s) (λ e. ap (λ t. cond t (mark q s) (mark p s)) e ∙ in_q) (λ e. ap (λ t. cond t (mark q s) (mark p s)) e ∙ in_p))
        (λ (past : n ≤ s). picks_past s past)
        (in_or_past s n)

    picks_inside : (s : ℕ) → s < n → mark p s < length (choices k.model s) → mark q s < length (choices k.model s) → mark picks s < length (choices k.model s)
    picks_inside s lt in_p in_q = either_way (second s)
        (λ e. omega (arith, in_q, picks_is s lt ∙ ap (λ t. cond t (mark q s) (mark p s)) e))
        (λ e. omega (arith, in_p, picks_is s lt ∙ ap (λ t. cond t (mark q s) (mark p s)) e))

pub reaching_lower_alls_join : NumbersAreInRange → SumsRise → ReachingLowerAllsJoin
reaching_lower_alls_join numbers rise k spans r x y is within in_x in_y = (
  joined numbers rise k spans r is within x y in_x.numbers in_y.numbers,
  (
    record {
      numbers = joined_numbers numbers rise k spans r is within x y in_x.numbers in_y.numbers;
      goal = λ s g. joined_goal numbers rise k spans r is within x y in_x.numbers in_y.numbers s (in_x.goal s g) (in_y.goal s g);
      rows = λ s a g lt. subst (λ i. IsBacked k spans r (joined numbers rise k spans r is within x y in_x.numbers in_y.numbers) s i) (same a (int_le (number x s) (number y s)))
          (joined_backed numbers rise k spans r is within x y in_x.numbers in_y.numbers s a a lt lt (in_x.rows s a g lt) (in_y.rows s a g lt));
    },
    over_x numbers rise k spans r is within x y in_x.numbers in_y.numbers,
    over_y numbers rise k spans r is within x y in_x.numbers in_y.numbers,
  ),
)
  where
    same : (a : ℕ) (b : Bool) → cond b a a ≡ a
    same a true = refl
    same a false = refl

pub reaching_lower_ones_join : NumbersAreInRange → SumsRise → ReachingLowerOnesJoin
reaching_lower_ones_join numbers rise k spans r x y p q is within in_x in_y = (
  joined numbers rise k spans r is within x y in_x.numbers in_y.numbers,
  (
    picks numbers rise k spans r is within x y in_x.numbers in_y.numbers p q in_x.size in_y.size,
    (
      record {
        numbers = joined_numbers numbers rise k spans r is within x y in_x.numbers in_y.numbers;
        size = picks_size numbers rise k spans r is within x y in_x.numbers in_y.numbers p q in_x.size in_y.size;
        goal = λ s g. (
          joined_goal numbers rise k spans r is within x y in_x.numbers in_y.numbers s (in_x.goal s g).0 (in_y.goal s g).0,
          picks_goal numbers rise k spans r is within x y in_x.numbers in_y.numbers p q in_x.size in_y.size s (in_x.goal s g).1 (in_y.goal s g).1,
        );
        picked = λ s lt g. picks_inside numbers rise k spans r is within x y in_x.numbers in_y.numbers p q in_x.size in_y.size s lt (in_x.picked s lt g) (in_y.picked s lt g);
        rows = λ s lt g. subst (λ i. IsBacked k spans r (joined numbers rise k spans r is within x y in_x.numbers in_y.numbers) s i) (sym (picks_is numbers rise k spans r is within x y in_x.numbers in_y.numbers p q in_x.size in_y.size s lt))
            (joined_backed numbers rise k spans r is within x y in_x.numbers in_y.numbers s (mark p s) (mark q s) (in_x.picked s lt g) (in_y.picked s lt g) (in_x.rows s lt g) (in_y.rows s lt g));
      },
      over_x numbers rise k spans r is within x y in_x.numbers in_y.numbers,
      over_y numbers rise k spans r is within x y in_x.numbers in_y.numbers,
    ),
  ),
)
