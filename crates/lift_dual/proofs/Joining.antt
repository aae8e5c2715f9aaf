-- Of two certificates over every choice there is one at or above both, and of two over one choice one at or below both.
use Rattle.std.proofs.Common.{◌≡◌, ℕ, zero, suc, ◌+◌, ◌^◌, ◌<◌, ◌≤◌, Bool, true, false, cond, List, [], ◌∷◌, length, get_or, All, ℤ, pos, ◌*ℤ◌, ◌≤ℤ◌, ◌<ℤ◌, int_le, nat_lt, refl, sym, ap, subst, ◌∙◌, arith, ltb-true, ltb-false, ◌⊎◌, ⊎_elim, inl, inr}
use Rattle.std.proofs.lemmas.List.{get_or_default, get_or_past}
use Rattle.std.proofs.lemmas.List.Elements.{All-from_get_or}
use Rattle.std.proofs.lemmas.Bool.{both_ways}
use Rattle.std.proofs.lemmas.Int.{by_lt_z}
use Rattle.std.proofs.Math.Pow.{pow_mono}
use Rattle.lift_poly.proofs.Ring.{linear, mul-zero, mul-le, mul-comm, le_from_test, test_from_le}
use Rattle.lift_grid.specs.Rectangle.{Spans}
use Rattle.lift_grid.specs.Tree.{RejectData}
use Rattle.lift_model.specs.declared.entry.Entry.{Entry}
use Rattle.lift_model.specs.Process.{Move, weighted_sum}
use Rattle.lift_model.specs.Model.{is_goal, choices, row_at, support, moves_at}
use Rattle.corner_lift.specs.Corner.{AtCorners, corner, corner_sum, whole}
use Rattle.corner_lift.specs.Case.{CaseData, IsCase, IsInside, number}
use Rattle.corner_lift.specs.Certificate.{AreNumbers, MeansAtMost, MeansAtLeast, unmarked, mark, ranked_below}
use Rattle.corner_lift.specs.Laws.{NumbersAreInRange, SumsRise}
use Rattle.lift_dual.specs.Sides.{RowHolds, IsHeldByAll, IsLowerAll, IsUpperOne}
use Rattle.lift_dual.specs.Laws.{LowerAllsJoin, UpperOnesMeet}
use Rattle.lift_dual.proofs.Inside.{in_or_past, has_row, either_way}

-- ---- lists by their places

tabulated : {A : Type 0} → ℕ → ℕ → (ℕ → A) → List A
tabulated first zero f = []
tabulated first (suc n) f = f first ∷ tabulated (suc first) n f

tabulated-length : {A : Type 0} (first n : ℕ) (f : ℕ → A) → length (tabulated first n f) ≡ n
unfolding tabulated
tabulated-length first zero f = refl
tabulated-length first (suc n) f = ap suc (tabulated-length (suc first) n f)

tabulated-at : {A : Type 0} (first n : ℕ) (f : ℕ → A) (s : ℕ) (d : A) → s < n → get_or (tabulated first n f) s d ≡ f (first + s)
unfolding tabulated
tabulated-at first zero f s d lt = absurd (omega (arith, lt))
tabulated-at first (suc n) f zero d lt = ap f (let e : first ≡ first + 0 = omega arith in e)
tabulated-at first (suc n) f (suc s) d lt = tabulated-at (suc first) n f s d (omega (arith, lt)) ∙ ap f (let e : suc first + s ≡ first + suc s = omega arith in e)

-- one element for each of so many places
pub listed : {A : Type 0} → ℕ → (ℕ → A) → List A
listed n f = tabulated 0 n f

pub listed-length : {A : Type 0} (n : ℕ) (f : ℕ → A) → length (listed n f) ≡ n
unfolding listed
listed-length n f = tabulated-length 0 n f

pub listed-at : {A : Type 0} (n : ℕ) (f : ℕ → A) (s : ℕ) (d : A) → s < n → get_or (listed n f) s d ≡ f s
unfolding listed
listed-at n f s d lt = tabulated-at 0 n f s d lt ∙ ap f (let e : 0 + s ≡ s = omega arith in e)

pub listed-past : {A : Type 0} (n : ℕ) (f : ℕ → A) (s : ℕ) (d : A) → n ≤ s → get_or (listed n f) s d ≡ d
listed-past n f s d le = get_or_past (listed n f) s d (omega (arith, le, listed-length n f))

-- ---- the greater and the lesser

lt_from_test : (a b : ℤ) → int_le a b ≡ false → b <ℤ a
lt_from_test a b e = by_lt_z b a (λ lt. lt) (λ le. absurd (both_ways (int_le a b) e (test_from_le a b le)))

-- the one that has the greater number of two
greater : ℤ → ℤ → ℤ
greater a b = cond (int_le a b) b a

record IsGreater (a b z : ℤ) : Type 0 where
  left : a ≤ℤ z
  right : b ≤ℤ z
  one : (z ≡ a) ⊎ (z ≡ b)

greater_is : (a b : ℤ) → IsGreater a b (greater a b)
unfolding greater
greater_is a b = by_test (int_le a b) refl
  where
    by_test : (t : Bool) → int_le a b ≡ t → IsGreater a b (cond t b a)
    by_test true e = record { left = le_from_test a b e; right = omega (arith, linear); one = inr refl }
    by_test false e = record { left = omega (arith, linear); right = omega (arith, linear, lt_from_test a b e); one = inl refl }

-- the first where the first number is at most the second one, and else the second
by_lesser : {A : Type 0} → ℤ → ℤ → A → A → A
by_lesser x y a b = cond (int_le x y) a b

record IsLesser (x y z : ℤ) (a b c : ℕ) : Type 0 where
  left : z ≤ℤ x
  right : z ≤ℤ y
  one : ((z ≡ x) × (c ≡ a)) ⊎ ((z ≡ y) × (c ≡ b))

lesser_is : (x y : ℤ) (a b : ℕ) → IsLesser x y (by_lesser x y x y) a b (by_lesser x y a b)
unfolding by_lesser
lesser_is x y a b = by_test (int_le x y) refl
  where
    by_test : (t : Bool) → int_le x y ≡ t → IsLesser x y (cond t x y) a b (cond t a b)
    by_test true e = record { left = omega (arith, linear); right = le_from_test x y e; one = inl (refl, refl) }
    by_test false e = record { left = omega (arith, linear, lt_from_test x y e); right = omega (arith, linear); one = inr (refl, refl) }

-- the lesser of two ranks, the greater of two heights
least : ℕ → ℕ → ℕ
least p q = cond (nat_lt p q) p q

record IsLeastOf (p q r : ℕ) : Type 0 where
  left : r ≤ p
  right : r ≤ q
  one : (r ≡ p) ⊎ (r ≡ q)

least_is : (p q : ℕ) → IsLeastOf p q (least p q)
unfolding least
least_is p q = by_test (nat_lt p q) refl
  where
    by_test : (t : Bool) → nat_lt p q ≡ t → IsLeastOf p q (cond t p q)
    by_test true e = record { left = omega arith; right = omega (arith, ltb-true p q e); one = inl refl }
    by_test false e = record { left = omega (arith, ltb-false p q e); right = omega arith; one = inr refl }

most : ℕ → ℕ → ℕ
most p q = cond (nat_lt p q) q p

record IsMostOf (p q r : ℕ) : Type 0 where
  left : p ≤ r
  right : q ≤ r
  one : (r ≡ p) ⊎ (r ≡ q)

most_is : (p q : ℕ) → IsMostOf p q (most p q)
unfolding most
most_is p q = by_test (nat_lt p q) refl
  where
    by_test : (t : Bool) → nat_lt p q ≡ t → IsMostOf p q (cond t q p)
    by_test true e = record { left = omega (arith, ltb-true p q e); right = omega arith; one = inr refl }
    by_test false e = record { left = omega arith; right = omega (arith, ltb-false p q e); one = inl refl }

nothing : (moves : List Move) → weighted_sum (λ t. pos 0) moves ≡ pos 0
nothing [] = refl
nothing (m ∷ moves) = omega (arith, linear, mul-zero m.1, nothing moves)

-- a lower number of the choices stays below
below-least : (rank : ℕ → ℕ) (r t : ℕ) → pos 0 ≤ℤ ranked_below rank r t
below-least rank r t = either_way (nat_lt (rank t) r) (λ e. rw e (omega (arith, linear))) (λ e. rw e (omega (arith, linear)))

below-more : (p q : ℕ → ℕ) (r t : ℕ) → q t ≤ p t → ranked_below p r t ≤ℤ ranked_below q r t
below-more p q r t le = either_way (nat_lt (p t) r)
    (λ e. either_way (nat_lt (q t) r)
    (λ f. rw (e, f) (omega (arith, linear)))
    (λ f. absurd (omega (arith, le, ltb-true (p t) r e, ltb-false (q t) r f))))
    (λ e. rw e (below-least q r t))

module _ (numbers : NumbersAreInRange) (rise : SumsRise) (k : CaseData) (spans : Spans) (is : IsCase k) (within : IsInside k.root spans) where
  abbrev n : ℕ
  n = length k.model.states

  rows_of : (P : List Entry → Type 0) (s : ℕ) → ((a : ℕ) → a < length (choices k.model s) → P (row_at k.model s a)) → All P (choices k.model s)
  rows_of P s h = All-from_get_or P (choices k.model s) [] h

  row_of : (P : List Entry → Type 0) (s a : ℕ) → a < length (choices k.model s) → All P (choices k.model s) → P (row_at k.model s a)
  row_of P s a lt h = h a [] lt

  -- ---- below, over every choice

  module _ (a b : RejectData) (ha : IsLowerAll k spans a) (hb : IsLowerAll k spans b) where
    join : RejectData
    join = record {
      numbers = listed n (λ s. greater (number a.numbers s) (number b.numbers s));
      picks = [];
      ranks = listed n (λ s. least (mark a.ranks s) (mark b.ranks s));
      e = most a.e b.e;
      k = most a.k b.k;
    }

    past_number : (x : List ℤ) (s : ℕ) → length x ≡ n → n ≤ s → number x s ≡ pos 0
    past_number x s size le = get_or_past x s (pos 0) (omega (arith, size, le))

    number_is : (s : ℕ) → IsGreater (number a.numbers s) (number b.numbers s) (number join.numbers s)
    unfolding join
    number_is s = ⊎_elim
        (λ (lt : s < n). subst (λ z. IsGreater (number a.numbers s) (number b.numbers s) z) (sym (listed-at n (λ s. greater (number a.numbers s) (number b.numbers s)) s (pos 0) lt)) (greater_is (number a.numbers s) (number b.numbers s)))
        (λ (past : n ≤ s).
        let zero_z = listed-past n (λ s. greater (number a.numbers s) (number b.numbers s)) s (pos 0) past in
        let zero_a = past_number a.numbers s ha.numbers.size past in
        let zero_b = past_number b.numbers s hb.numbers.size past in
        record { left = omega (arith, linear, zero_z, zero_a); right = omega (arith, linear, zero_z, zero_b); one = inl (zero_z ∙ sym zero_a) })
        (in_or_past s n)

    rank_is : (s : ℕ) → IsLeastOf (mark a.ranks s) (mark b.ranks s) (mark join.ranks s)
    unfolding join
    rank_is s = ⊎_elim
        (λ (lt : s < n). subst (λ z. IsLeastOf (mark a.ranks s) (mark b.ranks s) z) (sym (listed-at n (λ s. least (mark a.ranks s) (mark b.ranks s)) s unmarked lt)) (least_is (mark a.ranks s) (mark b.ranks s)))
        (λ (past : n ≤ s).
        let none_z = listed-past n (λ s. least (mark a.ranks s) (mark b.ranks s)) s unmarked past in
        let none_a = get_or_past a.ranks s unmarked (omega (arith, ha.sizes.1, past)) in
        let none_b = get_or_past b.ranks s unmarked (omega (arith, hb.sizes.1, past)) in
        record { left = omega (arith, none_z, none_a); right = omega (arith, none_z, none_b); one = inl (none_z ∙ sym none_a) })
        (in_or_past s n)

    -- what holds of a row in one of the two
    module _ (o : RejectData) (ho : IsLowerAll k spans o) (over : (t : ℕ) → number o.numbers t ≤ℤ number join.numbers t) (earlier : (t : ℕ) → mark join.ranks t ≤ mark o.ranks t) (slower : o.e ≤ join.e) (s i : ℕ) (lt : i < length (choices k.model s)) (g : is_goal k.model s ≡ false) (ranked : mark o.ranks s < unmarked) where
      held : RowHolds k spans o s (row_at k.model s i)
      held = row_of (RowHolds k spans o s) s i lt (ho.held s g ranked).rows

      join_means : number join.numbers s ≡ number o.numbers s → MeansAtLeast k spans (row_at k.model s i) (number join.numbers) (number join.numbers s)
      join_means same c at = omega (arith, linear, held.means c at, rise k spans s i c (number o.numbers) (number join.numbers) is within (has_row k s i lt) over, ap (λ z. z *ℤ whole k.model k.d spans (row_at k.model s i)) same)

      join_rates : mark join.ranks s ≡ mark o.ranks s → AtCorners spans (row_at k.model s i) (λ c. whole k.model k.d spans (row_at k.model s i) ≤ℤ (corner_sum k.d spans (row_at k.model s i) c (ranked_below (mark join.ranks) (mark join.ranks s)) *ℤ pos (2 ^ join.e)))
      join_rates same c at =
          let row = row_at k.model s i in
          let old = ranked_below (mark o.ranks) (mark o.ranks s) in
          let new = ranked_below (mark join.ranks) (mark join.ranks s) in
          let has = has_row k s i lt in
          let none : corner_sum k.d spans row c (λ t. pos 0) ≡ pos 0 = nothing (moves_at (corner k.d spans (support row) c) row) in
          let from = rise k spans s i c (λ t. pos 0) new is within has (λ t. below-least (mark join.ranks) (mark join.ranks s) t) in
          let more = rise k spans s i c old new is within has (λ t. subst (λ r. old t ≤ℤ ranked_below (mark join.ranks) r t) (sym same) (below-more (mark o.ranks) (mark join.ranks) (mark o.ranks s) t (earlier t))) in
          let first = mul-le (pos (2 ^ o.e)) (corner_sum k.d spans row c old) (corner_sum k.d spans row c new) (omega (arith, linear)) more in
          let second = mul-le (corner_sum k.d spans row c new) (pos (2 ^ o.e)) (pos (2 ^ join.e)) (omega (arith, linear, from, none)) (omega (arith, linear, pow_mono slower)) in
          omega (arith, linear, held.rates c at, first, second, mul-comm (pos (2 ^ o.e)) (corner_sum k.d spans row c old), mul-comm (pos (2 ^ o.e)) (corner_sum k.d spans row c new))

    over_a : (t : ℕ) → number a.numbers t ≤ℤ number join.numbers t
    over_a t = (number_is t).left

    over_b : (t : ℕ) → number b.numbers t ≤ℤ number join.numbers t
    over_b t = (number_is t).right

    earlier_a : (t : ℕ) → mark join.ranks t ≤ mark a.ranks t
    earlier_a t = (rank_is t).left

    earlier_b : (t : ℕ) → mark join.ranks t ≤ mark b.ranks t
    earlier_b t = (rank_is t).right

    rate_is : IsMostOf a.e b.e join.e
    unfolding join
    rate_is = most_is a.e b.e

    height_is : IsMostOf a.k b.k join.k
    unfolding join
    height_is = most_is a.k b.k

    module _ (s i : ℕ) (lt : i < length (choices k.model s)) (g : is_goal k.model s ≡ false) (ranked : mark join.ranks s < unmarked) where
      means_a : mark a.ranks s < unmarked → number join.numbers s ≡ number a.numbers s → MeansAtLeast k spans (row_at k.model s i) (number join.numbers) (number join.numbers s)
      means_a at = join_means a ha over_a earlier_a rate_is.left s i lt g at

      means_b : mark b.ranks s < unmarked → number join.numbers s ≡ number b.numbers s → MeansAtLeast k spans (row_at k.model s i) (number join.numbers) (number join.numbers s)
      means_b at = join_means b hb over_b earlier_b rate_is.right s i lt g at

      -- one of the two is ranked, and that one has the number
      means : MeansAtLeast k spans (row_at k.model s i) (number join.numbers) (number join.numbers s)
      means = ⊎_elim
          (λ (in_a : mark a.ranks s < unmarked). ⊎_elim
          (λ (in_b : mark b.ranks s < unmarked). ⊎_elim (λ (z : number join.numbers s ≡ number a.numbers s). means_a in_a z) (λ (z : number join.numbers s ≡ number b.numbers s). means_b in_b z) (number_is s).one)
          (λ (off_b : unmarked ≤ mark b.ranks s). means_a in_a (of_other (number a.numbers s) (number b.numbers s) (number join.numbers s) (number_is s) ((numbers k a.numbers s ha.numbers).0) (hb.unranked s g off_b)))
          (in_or_past (mark b.ranks s) unmarked))
          (λ (off_a : unmarked ≤ mark a.ranks s). ⊎_elim
          (λ (in_b : mark b.ranks s < unmarked). means_b in_b (of_first (number a.numbers s) (number b.numbers s) (number join.numbers s) (number_is s) ((numbers k b.numbers s hb.numbers).0) (ha.unranked s g off_a)))
          (λ (off_b : unmarked ≤ mark b.ranks s). absurd (neither off_a off_b))
          (in_or_past (mark b.ranks s) unmarked))
          (in_or_past (mark a.ranks s) unmarked)
        where
          of_other : (x y z : ℤ) → IsGreater x y z → pos 0 ≤ℤ x → y ≡ pos 0 → z ≡ x
          of_other x y z h from none = ⊎_elim (λ (e : z ≡ x). e) (λ (e : z ≡ y). omega (arith, linear, e, none, from, h.left)) h.one

          of_first : (x y z : ℤ) → IsGreater x y z → pos 0 ≤ℤ y → x ≡ pos 0 → z ≡ y
          of_first x y z h from none = ⊎_elim (λ (e : z ≡ x). omega (arith, linear, e, none, from, h.right)) (λ (e : z ≡ y). e) h.one

          neither : unmarked ≤ mark a.ranks s → unmarked ≤ mark b.ranks s → ⊥
          neither off_a off_b = ⊎_elim (λ (e : mark join.ranks s ≡ mark a.ranks s). omega (arith, e, off_a, ranked)) (λ (e : mark join.ranks s ≡ mark b.ranks s). omega (arith, e, off_b, ranked)) (rank_is s).one

      row_holds : RowHolds k spans join s (row_at k.model s i)
      row_holds = record {
        means = means;
        rates = ⊎_elim
            (λ (e : mark join.ranks s ≡ mark a.ranks s). join_rates a ha over_a earlier_a rate_is.left s i lt g (omega (arith, e, ranked)) e)
            (λ (e : mark join.ranks s ≡ mark b.ranks s). join_rates b hb over_b earlier_b rate_is.right s i lt g (omega (arith, e, ranked)) e)
            (rank_is s).one;
      }

    held_join : (s : ℕ) → is_goal k.model s ≡ false → mark join.ranks s < unmarked → IsHeldByAll k spans join s
    held_join s g ranked = record {
      rank = ⊎_elim
          (λ (e : mark join.ranks s ≡ mark a.ranks s). let at = (ha.held s g (omega (arith, e, ranked))).rank in (omega (arith, e, at.0), omega (arith, e, at.1, height_is.left)))
          (λ (e : mark join.ranks s ≡ mark b.ranks s). let at = (hb.held s g (omega (arith, e, ranked))).rank in (omega (arith, e, at.0), omega (arith, e, at.1, height_is.right)))
          (rank_is s).one;
      rows = rows_of (RowHolds k spans join s) s (λ i lt. row_holds s i lt g ranked);
    }

    join_range : (s : ℕ) → (pos 0 ≤ℤ number join.numbers s) × (number join.numbers s ≤ℤ pos (2 ^ k.w))
    join_range s =
        let in_a = numbers k a.numbers s ha.numbers in
        let in_b = numbers k b.numbers s hb.numbers in
        (omega (arith, linear, in_a.0, (number_is s).left), ⊎_elim (λ (z : number join.numbers s ≡ number a.numbers s). omega (arith, linear, z, in_a.1)) (λ (z : number join.numbers s ≡ number b.numbers s). omega (arith, linear, z, in_b.1)) (number_is s).one)

    join_size : length join.numbers ≡ n
    unfolding join
    join_size = listed-length n (λ s. greater (number a.numbers s) (number b.numbers s))

    join_numbers : AreNumbers k join.numbers
    join_numbers = record {
      size = join_size;
      range = λ i d lt. subst (λ z. (pos 0 ≤ℤ z) × (z ≤ℤ pos (2 ^ k.w))) (sym (get_or_default join.numbers i d (pos 0) lt)) (join_range i);
    }

    ranks_size : length join.ranks ≡ n
    unfolding join
    ranks_size = listed-length n (λ s. least (mark a.ranks s) (mark b.ranks s))

    choices_none : join.picks ≡ []
    unfolding join
    choices_none = refl

    is_join : IsLowerAll k spans join
    is_join = record {
      numbers = join_numbers;
      sizes = (choices_none, ranks_size);
      marks = λ i d lt. subst (λ z. z ≤ unmarked) (sym (get_or_default join.ranks i d unmarked lt)) (omega (arith, earlier_a i, mark_most a ha i));
      bounds = (⊎_elim (λ (e : join.e ≡ a.e). omega (arith, e, ha.bounds.0)) (λ (e : join.e ≡ b.e). omega (arith, e, hb.bounds.0)) rate_is.one, omega (arith, ha.bounds.1, height_is.left), ⊎_elim (λ (e : join.k ≡ a.k). omega (arith, e, ha.bounds.2)) (λ (e : join.k ≡ b.k). omega (arith, e, hb.bounds.2)) height_is.one);
      goal = λ s g. (⊎_elim (λ (z : number join.numbers s ≡ number a.numbers s). z ∙ (ha.goal s g).0) (λ (z : number join.numbers s ≡ number b.numbers s). z ∙ (hb.goal s g).0) (number_is s).one, omega (arith, earlier_a s, (ha.goal s g).1));
      unranked = λ s g off. ⊎_elim
          (λ (z : number join.numbers s ≡ number a.numbers s). z ∙ ha.unranked s g (omega (arith, off, earlier_a s)))
          (λ (z : number join.numbers s ≡ number b.numbers s). z ∙ hb.unranked s g (omega (arith, off, earlier_b s)))
          (number_is s).one;
      held = held_join;
    }
      where
        mark_most : (o : RejectData) → IsLowerAll k spans o → (i : ℕ) → mark o.ranks i ≤ unmarked
        mark_most o ho i = ⊎_elim (λ (lt : i < length o.ranks). ho.marks i unmarked lt) (λ (past : length o.ranks ≤ i). omega (arith, get_or_past o.ranks i unmarked past)) (in_or_past i (length o.ranks))

  -- ---- above, over one choice

  module _ (x y : List ℤ) (a b : List ℕ) (hx : IsUpperOne k spans x a) (hy : IsUpperOne k spans y b) where
    meet : List ℤ
    meet = listed n (λ s. by_lesser (number x s) (number y s) (number x s) (number y s))

    meet_choices : List ℕ
    meet_choices = listed n (λ s. by_lesser (number x s) (number y s) (mark a s) (mark b s))

    meet_is : (s : ℕ) → IsLesser (number x s) (number y s) (number meet s) (mark a s) (mark b s) (mark meet_choices s)
    unfolding meet meet_choices
    meet_is s = ⊎_elim
        (λ (lt : s < n). subst (λ z. IsLesser (number x s) (number y s) z (mark a s) (mark b s) (mark meet_choices s)) (sym (listed-at n (λ s. by_lesser (number x s) (number y s) (number x s) (number y s)) s (pos 0) lt))
        (subst (λ c. IsLesser (number x s) (number y s) (by_lesser (number x s) (number y s) (number x s) (number y s)) (mark a s) (mark b s) c) (sym (listed-at n (λ s. by_lesser (number x s) (number y s) (mark a s) (mark b s)) s unmarked lt)) (lesser_is (number x s) (number y s) (mark a s) (mark b s))))
        (λ (past : n ≤ s).
        let zero_z = listed-past n (λ s. by_lesser (number x s) (number y s) (number x s) (number y s)) s (pos 0) past in
        let none_z = listed-past n (λ s. by_lesser (number x s) (number y s) (mark a s) (mark b s)) s unmarked past in
        let zero_x = get_or_past x s (pos 0) (omega (arith, hx.numbers.size, past)) in
        let zero_y = get_or_past y s (pos 0) (omega (arith, hy.numbers.size, past)) in
        let none_a = get_or_past a s unmarked (omega (arith, hx.size, past)) in
        record { left = omega (arith, linear, zero_z, zero_x); right = omega (arith, linear, zero_z, zero_y); one = inl (zero_z ∙ sym zero_x, none_z ∙ sym none_a) })
        (in_or_past s n)

    meet_range : (s : ℕ) → (pos 0 ≤ℤ number meet s) × (number meet s ≤ℤ pos (2 ^ k.w))
    meet_range s =
        let in_x = numbers k x s hx.numbers in
        let in_y = numbers k y s hy.numbers in
        (⊎_elim (λ (z : (number meet s ≡ number x s) × (mark meet_choices s ≡ mark a s)). omega (arith, linear, z.0, in_x.0)) (λ (z : (number meet s ≡ number y s) × (mark meet_choices s ≡ mark b s)). omega (arith, linear, z.0, in_y.0)) (meet_is s).one, omega (arith, linear, in_x.1, (meet_is s).left))

    -- what one of the two has at a state
    module _ (o : List ℤ) (c : List ℕ) (ho : IsUpperOne k spans o c) (under : (t : ℕ) → number meet t ≤ℤ number o t) (s : ℕ) (same : number meet s ≡ number o s) (pick : mark meet_choices s ≡ mark c s) where
      choice_in : s < n → is_goal k.model s ≡ false → mark meet_choices s < length (choices k.model s)
      choice_in lt g = omega (arith, pick, ho.pick s lt g)

      means_at : s < n → is_goal k.model s ≡ false → MeansAtMost k spans (row_at k.model s (mark meet_choices s)) meet (number meet s)
      means_at lt g = subst (λ p. MeansAtMost k spans (row_at k.model s p) meet (number meet s)) (sym pick)
          (λ i at. omega (arith, linear, ho.means s lt g i at, rise k spans s (mark c s) i (number meet) (number o) is within (has_row k s (mark c s) (ho.pick s lt g)) under, ap (λ z. z *ℤ whole k.model k.d spans (row_at k.model s (mark c s))) same))

    under_x : (t : ℕ) → number meet t ≤ℤ number x t
    under_x t = (meet_is t).left

    under_y : (t : ℕ) → number meet t ≤ℤ number y t
    under_y t = (meet_is t).right

    choices_size : length meet_choices ≡ n
    unfolding meet_choices
    choices_size = listed-length n (λ s. by_lesser (number x s) (number y s) (mark a s) (mark b s))

    meet_size : length meet ≡ n
    unfolding meet
    meet_size = listed-length n (λ s. by_lesser (number x s) (number y s) (number x s) (number y s))

    is_meet : IsUpperOne k spans meet meet_choices
    is_meet = record {
      numbers = record { size = meet_size; range = λ i d lt. subst (λ z. (pos 0 ≤ℤ z) × (z ≤ℤ pos (2 ^ k.w))) (sym (get_or_default meet i d (pos 0) lt)) (meet_range i) };
      size = choices_size;
      goal = λ s g. ⊎_elim
          (λ (z : (number meet s ≡ number x s) × (mark meet_choices s ≡ mark a s)). (z.0 ∙ (hx.goal s g).0, z.1 ∙ (hx.goal s g).1))
          (λ (z : (number meet s ≡ number y s) × (mark meet_choices s ≡ mark b s)). (z.0 ∙ (hy.goal s g).0, z.1 ∙ (hy.goal s g).1))
          (meet_is s).one;
      pick = λ s lt g. ⊎_elim
          (λ (z : (number meet s ≡ number x s) × (mark meet_choices s ≡ mark a s)). choice_in x a hx under_x s z.0 z.1 lt g)
          (λ (z : (number meet s ≡ number y s) × (mark meet_choices s ≡ mark b s)). choice_in y b hy under_y s z.0 z.1 lt g)
          (meet_is s).one;
      means = λ s lt g. ⊎_elim
          (λ (z : (number meet s ≡ number x s) × (mark meet_choices s ≡ mark a s)). means_at x a hx under_x s z.0 z.1 lt g)
          (λ (z : (number meet s ≡ number y s) × (mark meet_choices s ≡ mark b s)). means_at y b hy under_y s z.0 z.1 lt g)
          (meet_is s).one;
    }

pub lower_alls_join : NumbersAreInRange → SumsRise → LowerAllsJoin
lower_alls_join numbers rise k spans a b is within ha hb = (join numbers rise k spans is within a b ha hb, (is_join numbers rise k spans is within a b ha hb, over_a numbers rise k spans is within a b ha hb, over_b numbers rise k spans is within a b ha hb))

pub upper_ones_meet : NumbersAreInRange → SumsRise → UpperOnesMeet
upper_ones_meet numbers rise k spans x y a b is within hx hy = (meet numbers rise k spans is within x y a b hx hy, (meet_choices numbers rise k spans is within x y a b hx hy, (is_meet numbers rise k spans is within x y a b hx hy, under_x numbers rise k spans is within x y a b hx hy, under_y numbers rise k spans is within x y a b hx hy)))
