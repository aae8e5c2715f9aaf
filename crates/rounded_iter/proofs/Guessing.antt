-- A bound that rose from a guess is the least of all, where at each state it rose above the guess or the guess is no more than any bound.
use Rattle.std.proofs.Common.{◌≡◌, ◌≢◌, ℕ, zero, suc, ◌+◌, ◌<◌, ◌≤◌, ◌^◌, Bool, true, false, not, cond, List, [], ◌∷◌, length, set, get_or-set_same, get_or-set_other, ℤ, pos, ◌+ℤ◌, ◌≤ℤ◌, ◌<ℤ◌, int_le, refl, sym, ap, subst, ◌∙◌, arith, ◌⊎◌, ⊎_elim, inl, inr, if◌then◌else◌}
use Rattle.std.proofs.lemmas.Int.{by_lt_z}
use Rattle.std.proofs.lemmas.List.{get_or_past, get_or_default}
use Rattle.std.proofs.lemmas.List.Elements.{All-from_get_or}
use Rattle.lift_poly.proofs.Ring.{linear, le_from_test}
use Rattle.lift_grid.specs.Rectangle.{Spans}
use Rattle.lift_model.specs.Model.{choices}
use Rattle.lift_model.specs.Links.{LinksData, HasChoice}
use Rattle.corner_lift.specs.Certificate.{AreNumbers, AtMost}
use Rattle.corner_lift.specs.Case.{CaseData, number, corner_count}
use Rattle.float_guess.specs.declared.rule.Extreme.{Extreme}
use Rattle.float_guess.specs.declared.rule.Extreme.TheVariants.{Greatest, Least}
use Rattle.float_guess.specs.declared.rule.Rule.{Rule}
use Rattle.float_guess.specs.Rule.{is_given, given}
use Rattle.float_guess.specs.Part.{KeepsBeyond}
use Rattle.rounded_iter.specs.Rising.{TableData, IsRead, IsBelow, IsEnoughEverywhere, IsLeastBound, IsLeastBoundWithin, IsEnough, IsEnoughBy, IsEnoughFor, Across}
use Rattle.float_guess.specs.Notes.{low_word, noted_word}
use Rattle.rounded_iter.specs.Watching.{count, flag, from_zero, IsGuess, IsLeastFrom, IsFound, IsSure}
use Rattle.rounded_iter.proofs.Solving.{RowLaws, across_map, enough_shifted, lt_from_test, same_or_not, some_corner, top_enough}
use Rattle.rounded_iter.proofs.Raising.{in_or_past, true_or_false, given_inside, given_range}

lesser : ℤ → ℤ → ℤ
lesser a b = cond (int_le a b) a b

record IsLesser (a b z : ℤ) : Type 0 where
  left : z ≤ℤ a
  right : z ≤ℤ b
  one : (z ≡ a) ⊎ (z ≡ b)

lesser_is : (a b : ℤ) → IsLesser a b (lesser a b)
unfolding lesser
lesser_is a b = by_test (int_le a b) refl
  where
    by_test : (t : Bool) → int_le a b ≡ t → IsLesser a b (cond t a b)
    by_test true e = record { left = omega (arith, linear); right = le_from_test a b e; one = inl refl }
    by_test false e = record { left = omega (arith, linear, lt_from_test a b e); right = omega (arith, linear); one = inr refl }

-- the lesser of x, and of y and m more
lowered : ℤ → List ℤ → List ℤ → List ℤ
lowered m [] ys = []
lowered m (x ∷ xs) [] = x ∷ lowered m xs []
lowered m (x ∷ xs) (y ∷ ys) = lesser x (y +ℤ m) ∷ lowered m xs ys

lowered-length : (m : ℤ) (xs ys : List ℤ) → length (lowered m xs ys) ≡ length xs
unfolding lowered
lowered-length m [] ys = refl
lowered-length m (x ∷ xs) [] = ap suc (lowered-length m xs [])
lowered-length m (x ∷ xs) (y ∷ ys) = ap suc (lowered-length m xs ys)

lowered-at : (m : ℤ) (xs ys : List ℤ) (s : ℕ) → pos 0 ≤ℤ m → length xs ≡ length ys → IsLesser (number xs s) (number ys s +ℤ m) (number (lowered m xs ys) s)
unfolding lowered
lowered-at m [] [] s le e = record { left = omega (arith, linear); right = omega (arith, linear, le); one = inl refl }
lowered-at m [] (y ∷ ys) s le e = absurd (omega (arith, e))
lowered-at m (x ∷ xs) [] s le e = absurd (omega (arith, e))
lowered-at m (x ∷ xs) (y ∷ ys) zero le e = lesser_is x (y +ℤ m)
lowered-at m (x ∷ xs) (y ∷ ys) (suc s) le e = lowered-at m xs ys s le (omega (arith, e))

-- the list of the first values of a function, so many
pub listed : ℕ → (ℕ → ℤ) → List ℤ
listed zero f = []
listed (suc n) f = f 0 ∷ listed n (λ i. f (suc i))

listed-length : (n : ℕ) (f : ℕ → ℤ) → length (listed n f) ≡ n
unfolding listed
listed-length zero f = refl
listed-length (suc n) f = ap suc (listed-length n (λ i. f (suc i)))

listed-at : (n : ℕ) (f : ℕ → ℤ) (s : ℕ) → s < n → number (listed n f) s ≡ f s
unfolding listed
listed-at zero f s lt = absurd (omega arith)
listed-at (suc n) f zero lt = refl
listed-at (suc n) f (suc s) lt = listed-at n (λ i. f (suc i)) s (omega (arith, lt))

-- what is so of all is so of those that count
across_all : (e : Extreme) (n : ℕ) (P : ℕ → Type 0) → 1 ≤ n → ((c : ℕ) → c < n → P c) → Across e n P
across_all Greatest n P some f = f
across_all Least n P some f = (0, (some, f 0 some))

-- a vector that rises from a guess, at first
pub guess_below : (r : Rule) (k : CaseData) (spans : Spans) (x : List ℤ) → IsGuess r k x → IsBelow r k (record { spans = spans; from = x }) x
guess_below r k spans x h = record {
  numbers = h.numbers;
  given = h.given;
  above = λ s. omega (arith, linear);
  least = λ y bound over. over;
}

-- what was noted of a number that differs
pub sure_of : (r : Rule) (k : CaseData) (guess x : List ℤ) (noted : List ℕ) (s : ℕ) → noted_word (flag noted s) ≡ low_word (number guess s) → IsSure r k noted x s → (number guess s ≢ number x s) ⊎ ((number x s ≡ pos 0) ⊎ (is_given k.model r.ends s ≡ true))
sure_of r k guess x noted s e h = ⊎_elim
    (λ (differs : noted_word (flag noted s) ≢ low_word (number x s)). inl (λ same. differs (e ∙ ap low_word same)))
    (λ (sure : (number x s ≡ pos 0) ⊎ (is_given k.model r.ends s ≡ true)). inr sure)
    h

-- a bound that is at most m more than another, and at least each number that is no more than that, nor than one of a vector with the given numbers
pub record IsMovedUp (r : Rule) (k : CaseData) (spans : Spans) (y : List ℤ) (m : ℤ) : Type 0 where
  pub vector : List ℤ
  pub bound : IsEnoughEverywhere r k spans vector
  pub most : (s : ℕ) → number vector s ≤ℤ (number y s +ℤ m)
  pub least : (x : List ℤ) → IsGuess r k x → (s : ℕ) (v : ℤ) → v ≤ℤ number x s → v ≤ℤ (number y s +ℤ m) → v ≤ℤ number vector s

module _ (laws : RowLaws) (t : TableData) (spans : Spans) (read : IsRead t spans) where
  abbrev k : CaseData
  k = t.case

  abbrev r : Rule
  r = t.rule

  abbrev e : Extreme
  e = r.corner

  abbrev Bound : List ℤ → Type 0
  Bound y = IsEnoughEverywhere r k spans y

  -- the greatest bound: 2 ^ w everywhere but where another number is given
  abbrev pub most : ℕ → ℤ
  most s = if is_given k.model r.ends s then given k r.ends s else pos (2 ^ k.w)

  pub top : List ℤ
  top = listed (count t) most

  top_at : (s : ℕ) → s < count t → number top s ≡ most s
  unfolding top
  top_at s lt = listed-at (count t) most s lt

  top_given : (s : ℕ) → s < count t → is_given k.model r.ends s ≡ true → number top s ≡ given k r.ends s
  top_given s lt e = top_at s lt ∙ ap (λ b. if b then given k r.ends s else pos (2 ^ k.w)) e

  top_free : (s : ℕ) → s < count t → is_given k.model r.ends s ≡ false → number top s ≡ pos (2 ^ k.w)
  top_free s lt e = top_at s lt ∙ ap (λ b. if b then given k r.ends s else pos (2 ^ k.w)) e

  top_numbers : AreNumbers k top
  unfolding top
  top_numbers = record {
    size = listed-length (count t) most;
    range = All-from_get_or (λ n. (pos 0 ≤ℤ n) × (n ≤ℤ pos (2 ^ k.w))) top (pos 0) (λ s lt. in_range s (omega (arith, lt, listed-length (count t) most)));
  }
    where
      in_range : (s : ℕ) → s < count t → (pos 0 ≤ℤ number top s) × (number top s ≤ℤ pos (2 ^ k.w))
      in_range s lt = ⊎_elim
          (λ (e : is_given k.model r.ends s ≡ true). subst (λ n. (pos 0 ≤ℤ n) × (n ≤ℤ pos (2 ^ k.w))) (sym (top_given s lt e)) (given_range k r.ends s))
          (λ (e : is_given k.model r.ends s ≡ false). subst (λ n. (pos 0 ≤ℤ n) × (n ≤ℤ pos (2 ^ k.w))) (sym (top_free s lt e)) (omega (arith, linear), omega (arith, linear)))
          (true_or_false (is_given k.model r.ends s))

  top_bound : Bound top
  top_bound = record {
    numbers = top_numbers;
    given = λ s e. top_given s (given_inside k r.ends read.case.asked.model.goals s e) e;
    enough = λ s state free. across_all r.choice (length (choices k.model s)) (λ a. IsEnoughFor r k spans top s a) (read.case.asked.model.some_choice s [] state) (λ a choice.
        let has : HasChoice k.model s a = record { state = state; choice = choice } in
        across_all e (corner_count k s a) (IsEnoughBy r.ends k spans top s a (number top s)) (some_corner laws k spans read.case read.table.inside s a has)
        (λ c lt. top_enough laws k spans read.case read.table.inside s a has top top_numbers r.ends (number top s) c (top_free s state free)));
  }

  module _ (u y : List ℤ) (m : ℤ) (bound : Bound u) (also : Bound y) (least : pos 0 ≤ℤ m) where
    sizes : length u ≡ length y
    sizes = bound.numbers.size ∙ sym also.numbers.size

    at : (s : ℕ) → IsLesser (number u s) (number y s +ℤ m) (number (lowered m u y) s)
    at s = lowered-at m u y s least sizes

    low : (s : ℕ) → pos 0 ≤ℤ number (lowered m u y) s
    low s = ⊎_elim
        (λ (is : number (lowered m u y) s ≡ number u s). omega (arith, linear, is, (laws.numbers k u s bound.numbers).0))
        (λ (is : number (lowered m u y) s ≡ number y s +ℤ m). omega (arith, linear, is, least, (laws.numbers k y s also.numbers).0))
        (at s).one

    lowered_enough : (s : ℕ) → s < count t → is_given k.model r.ends s ≡ false → IsEnough r k spans (lowered m u y) s
    lowered_enough s state free =
        let z = lowered m u y in
        let n = length (choices k.model s) in
        ⊎_elim
        (λ (is : number z s ≡ number u s). across_map r.choice n (λ a. IsEnoughFor r k spans u s a) (λ a. IsEnoughFor r k spans z s a)
        (λ a choice. across_map e (corner_count k s a) (IsEnoughBy r.ends k spans u s a (number u s)) (IsEnoughBy r.ends k spans z s a (number z s))
        (λ c lt. enough_shifted laws k spans read.case read.table.inside s a (record { state = state; choice = choice }) r.ends u z (pos 0) (omega (arith, linear)) (λ i. omega (arith, linear, (at i).left)) (omega (arith, linear, is)) c lt))
        (bound.enough s state free))
        (λ (is : number z s ≡ number y s +ℤ m). across_map r.choice n (λ a. IsEnoughFor r k spans y s a) (λ a. IsEnoughFor r k spans z s a)
        (λ a choice. across_map e (corner_count k s a) (IsEnoughBy r.ends k spans y s a (number y s)) (IsEnoughBy r.ends k spans z s a (number z s))
        (λ c lt. enough_shifted laws k spans read.case read.table.inside s a (record { state = state; choice = choice }) r.ends y z m least (λ i. (at i).right) is c lt))
        (also.enough s state free))
        (at s).one

    lowered_bound : Bound (lowered m u y)
    lowered_bound = record {
      numbers = record {
        size = lowered-length m u y ∙ bound.numbers.size;
        range = λ i d lt. subst (λ n. (pos 0 ≤ℤ n) × (n ≤ℤ pos (2 ^ k.w))) (sym (get_or_default (lowered m u y) i d (pos 0) lt)) (low i, omega (arith, linear, (at i).left, (laws.numbers k u i bound.numbers).1));
      };
      given = λ s g. ⊎_elim
          (λ (is : number (lowered m u y) s ≡ number u s). is ∙ bound.given s g)
          (λ (is : number (lowered m u y) s ≡ number y s +ℤ m). omega (arith, linear, is, least, also.given s g, bound.given s g, (at s).left))
          (at s).one;
      enough = λ s state free. lowered_enough s state free;
    }

  -- a vector with the given numbers is at most the greatest bound
  pub under_most : (x : List ℤ) → IsGuess r k x → AtMost x top
  under_most x h s = ⊎_elim
      (λ (lt : s < count t). ⊎_elim
      (λ (e : is_given k.model r.ends s ≡ true). omega (arith, linear, top_given s lt e, h.given s e))
      (λ (e : is_given k.model r.ends s ≡ false). omega (arith, linear, top_free s lt e, (laws.numbers k x s h.numbers).1))
      (true_or_false (is_given k.model r.ends s)))
      (λ (past : count t ≤ s). omega (arith, linear, get_or_past x s (pos 0) (omega (arith, past, h.numbers.size)), (laws.numbers k top s top_numbers).0))
      (in_or_past s (count t))

  -- some bound is at least each number of such a vector
  pub above_bound : (x : List ℤ) → IsGuess r k x → (y : List ℤ) × (Bound y × AtMost x y)
  above_bound x h = (top, (top_bound, under_most x h))

  -- a bound with m added, as far as bounds go, is one: it is at most m more, and at least what is at most m more and some such vector
  pub moved_up : (y : List ℤ) (m : ℤ) → Bound y → pos 0 ≤ℤ m → IsMovedUp r k spans y m
  moved_up y m bound least = record {
    vector = lowered m top y;
    bound = lowered_bound top y m top_bound bound least;
    most = λ s. (at top y m top_bound bound least s).right;
    least = λ x h s v under more. ⊎_elim
        (λ (is : number (lowered m top y) s ≡ number top s). omega (arith, linear, is, under, under_most x h s))
        (λ (is : number (lowered m top y) s ≡ number y s +ℤ m). omega (arith, linear, is, more))
        (at top y m top_bound bound least s).one;
  }

  module _ (guess x : List ℤ) (h : IsBelow r k (record { spans = spans; from = guess }) x) (sure : (s : ℕ) → s < count t → (number guess s ≢ number x s) ⊎ ((number x s ≡ pos 0) ⊎ (is_given k.model r.ends s ≡ true))) where
    past_none : (s : ℕ) → count t ≤ s → number x s ≡ pos 0
    past_none s past = get_or_past x s (pos 0) (omega (arith, past, h.numbers.size))

    under_top : (s : ℕ) → number x s ≤ℤ number top s
    under_top = under_most x (record { numbers = h.numbers; given = h.given })

    -- the guess at s is at most m more than a bound, where x is at most m + 1 more
    under : (y : List ℤ) (m : ℤ) → Bound y → pos 0 ≤ℤ m → (s : ℕ) → number x s ≤ℤ (number y s +ℤ (m +ℤ pos 1)) → s < count t → number guess s ≤ℤ (number y s +ℤ m)
    under y m bound least s near lt = ⊎_elim
        (λ (differs : number guess s ≢ number x s).
        let less : number guess s <ℤ number x s = by_lt_z (number guess s) (number x s) (λ lt. lt) (λ le. absurd (differs (omega (arith, linear, le, h.above s)))) in
        omega (arith, linear, less, near))
        (λ (known : (number x s ≡ pos 0) ⊎ (is_given k.model r.ends s ≡ true)). ⊎_elim
        (λ (nothing : number x s ≡ pos 0). omega (arith, linear, nothing, h.above s, least, (laws.numbers k y s bound.numbers).0))
        (λ (e : is_given k.model r.ends s ≡ true). omega (arith, linear, h.above s, h.given s e, bound.given s e, least))
        known)
        (sure s lt)

    closer : (n : ℕ) (y : List ℤ) → Bound y → ((s : ℕ) → number x s ≤ℤ (number y s +ℤ pos n)) → AtMost x y
    closer zero y bound near = λ s. omega (arith, linear, near s)
    closer (suc n) y bound near =
        let least : pos 0 ≤ℤ pos n = omega (arith, linear) in
        let z = lowered (pos n) top y in
        let over : AtMost guess z = λ s. ⊎_elim
        (λ (is : number z s ≡ number top s). omega (arith, linear, is, h.above s, under_top s))
        (λ (is : number z s ≡ number y s +ℤ pos n). ⊎_elim
        (λ (lt : s < count t). omega (arith, linear, is, under y (pos n) bound least s (omega (arith, linear, near s)) lt))
        (λ (past : count t ≤ s). omega (arith, linear, h.above s, past_none s past, low top y (pos n) top_bound bound least s))
        (in_or_past s (count t)))
        (at top y (pos n) top_bound bound least s).one in
        let below : AtMost x z = h.least z (lowered_bound top y (pos n) top_bound bound least) over in
        closer n y bound (λ s. omega (arith, linear, below s, (at top y (pos n) top_bound bound least s).right))

    under_bounds : (y : List ℤ) → Bound y → AtMost x y
    under_bounds y bound = closer (2 ^ k.w) y bound (λ s. omega (arith, linear, (laws.numbers k x s h.numbers).1, (laws.numbers k y s bound.numbers).0))

    -- what rises from the guess lies at or below every bound
    pub guessed_below : IsBelow r k (from_zero spans) x
    guessed_below = record {
      numbers = h.numbers;
      given = h.given;
      above = λ s. (laws.numbers k x s h.numbers).0;
      least = λ y bound over. under_bounds y bound;
    }

    pub guessed_least : Bound x → IsLeastBound r k spans x
    guessed_least bound = record { bound = bound; least = λ y other. under_bounds y other }

-- the least bound rises from 0
pub least_below : RowLaws → (r : Rule) (k : CaseData) (spans : Spans) (x : List ℤ) → IsLeastBound r k spans x → IsBelow r k (from_zero spans) x
least_below laws r k spans x h = record {
  numbers = h.bound.numbers;
  given = h.bound.given;
  above = λ s. (laws.numbers k x s h.bound.numbers).0;
  least = λ y bound over. h.least y bound;
}

pub least_from_zero : RowLaws → (t : TableData) (spans : Spans) (x : List ℤ) → IsLeastFrom t (from_zero spans) x → IsLeastBound t.rule t.case spans x
least_from_zero laws t spans x h = record { bound = h.bound; least = λ y bound. h.least y bound (λ s. (laws.numbers t.case y s bound.numbers).0) }

-- how it ends with the least bound
pub found_of : RowLaws → (t : TableData) (spans : Spans) (x : List ℤ) (past : Bool) → IsLeastBound t.rule t.case spans x → (past ≡ true → t.limit <ℤ number x t.case.model.init) → (past ≡ false → number x t.case.model.init ≤ℤ t.limit) → IsFound t spans x (not past)
found_of laws t spans x true h over within = record { below = least_below laws t.rule t.case spans x h; least = λ e. cc; within = λ e. cc; past = λ e. over refl }
found_of laws t spans x false h over within = record { below = least_below laws t.rule t.case spans x h; least = λ e. h; within = λ e. within refl; past = λ e. cc }

-- how it ends where the limit was passed
pub found_past : (t : TableData) (spans : Spans) (x : List ℤ) → IsBelow t.rule t.case (from_zero spans) x → t.limit <ℤ number x t.case.model.init → IsFound t spans x false
found_past t spans x below over = record { below = below; least = λ e. cc; within = λ e. cc; past = λ e. over }

-- the least bound within the limit, where no number is above the limit 2 ^ w
pub within_of : (laws : RowLaws) (t : TableData) (spans : Spans) → IsRead t spans → (x : List ℤ) (found : Bool) → IsFound t spans x found → IsLeastBoundWithin t.rule t.case spans t.limit x found
within_of laws t spans read x found h = record {
  least = h.least;
  first = h.within;
  past = λ e y bound. omega (arith, linear, h.past e, h.below.least y bound (λ s. (laws.numbers t.case y s bound.numbers).0) t.case.model.init);
  always = λ le. by_test found refl le;
}
  where
    by_test : (b : Bool) → found ≡ b → pos (2 ^ t.case.w) ≤ℤ t.limit → found ≡ true
    by_test true e le = e
    by_test false e le = absurd (omega (arith, linear, le, h.past e, (laws.numbers t.case x t.case.model.init h.below.numbers).1))

-- what was written in a part leaves it a guess
pub guess_kept : (r : Rule) (k : CaseData) (l : LinksData) (low high : ℕ) (x y : List ℤ) → IsGuess r k x → KeepsBeyond r.ends k l low high x y → IsGuess r k y
guess_kept r k l low high x y guess kept = record {
  numbers = kept.numbers;
  given = λ s g. kept.others s (rw g refl) ∙ guess.given s g;
}

-- what holds of the numbers of the states below s, and of the one that is written there, holds of one more
pub one_more : (P : ℕ → ℤ → Type 0) (x : List ℤ) (s : ℕ) (v : ℤ) → s < length x → ((i : ℕ) → i < s → P i (number x i)) → P s v → (i : ℕ) → i < s + 1 → P i (number (set x s v) i)
one_more P x s v inside before now i lt = ⊎_elim
    (λ (same : i ≡ s). subst (λ j. P j (number (set x s v) j)) (sym same) (subst (P s) (sym (get_or-set_same x s v (pos 0) inside)) now))
    (λ (differs : i ≢ s). subst (P i) (sym (get_or-set_other x s i v (pos 0) differs)) (before i (omega (arith, lt, differs))))
    (same_or_not i s)

-- numbers from 0 to 2 ^ w, and the given ones where they are given, are a guess
pub guess_of : (r : Rule) (k : CaseData) (x : List ℤ) → length k.model.goal ≡ length k.model.states → length x ≡ length k.model.states
    → ((s : ℕ) → s < length k.model.states → (is_given k.model r.ends s ≡ true → number x s ≡ given k r.ends s) × ((pos 0 ≤ℤ number x s) × (number x s ≤ℤ pos (2 ^ k.w)))) → IsGuess r k x
guess_of r k x goals size written = record {
  numbers = record {
    size = size;
    range = λ i d lt. subst (λ n. (pos 0 ≤ℤ n) × (n ≤ℤ pos (2 ^ k.w))) (sym (get_or_default x i d (pos 0) lt)) (written i (omega (arith, lt, size))).1;
  };
  given = λ s is. (written s (given_inside k r.ends goals s is)).0 is;
}
