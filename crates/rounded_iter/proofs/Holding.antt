-- What was raised beside a held state lies at or below each bound that has as much there, and below each bound once that state rises too.
use Rattle.std.proofs.Common.{◌≡◌, ◌≢◌, ℕ, zero, suc, ◌+◌, ◌-◌, ◌<◌, ◌≤◌, ◌^◌, true, false, List, [], ◌∷◌, length, set, get_or, get_or-set_same, get_or-set_other, length-set, ℤ, pos, ◌+ℤ◌, ◌-ℤ◌, ◌≤ℤ◌, ◌<ℤ◌, refl, sym, ap, subst, ◌∙◌, arith, ◌⊎◌, ⊎_elim, inl, inr}
use Rattle.std.proofs.lemmas.Bool.{both_ways}
use Rattle.std.proofs.lemmas.Int.{by_lt_z}
use Rattle.std.proofs.lemmas.List.{get_or_past, get_or_default}
use Rattle.lift_poly.proofs.Ring.{linear}
use Rattle.lift_model.specs.Links.{position}
use Rattle.corner_lift.specs.Certificate.{AtMost}
use Rattle.corner_lift.specs.Case.{CaseData, number}
use Rattle.float_guess.specs.declared.rule.Rule.{Rule}
use Rattle.float_guess.specs.Rule.{is_given, given}
use Rattle.rounded_iter.specs.declared.steering.Component.{Component}
use Rattle.rounded_iter.specs.declared.held.Search.{Search}
use Rattle.rounded_iter.specs.Rising.{TableData, Run, IsRead, IsBelow, IsEnoughEverywhere}
use Rattle.rounded_iter.specs.Watching.{count, IsGuess}
use Rattle.rounded_iter.specs.Held.{with_held, holding, IsInside, IsOutside, IsRaisedIn, kept_of, AreKept, IsRestored, IsUnder, AreUnder, CanHold, IsAbove, IsSearch, beside}
use Rattle.rounded_iter.proofs.Solving.{RowLaws, same_or_not}
use Rattle.rounded_iter.proofs.Raising.{in_or_past}
use Rattle.rounded_iter.proofs.Guessing.{moved_up, above_bound}

-- ---- the vector with a held number

pub held_here : (x : List ℤ) (f : ℕ) (c : ℤ) → number (with_held x f c) f ≡ c
held_here [] zero c = refl
held_here [] (suc f) c = held_here [] f c
held_here (n ∷ x) zero c = refl
held_here (n ∷ x) (suc f) c = held_here x f c

pub held_other : (x : List ℤ) (f i : ℕ) (c : ℤ) → i ≢ f → number (with_held x f c) i ≡ number x i
held_other [] zero zero c ne = absurd (ne refl)
held_other [] zero (suc i) c ne = refl
held_other [] (suc f) zero c ne = refl
held_other [] (suc f) (suc i) c ne = held_other [] f i c (λ e. ne (ap suc e))
held_other (n ∷ x) zero zero c ne = absurd (ne refl)
held_other (n ∷ x) zero (suc i) c ne = refl
held_other (n ∷ x) (suc f) zero c ne = refl
held_other (n ∷ x) (suc f) (suc i) c ne = held_other x f i c (λ e. ne (ap suc e))

-- a vector is at least one with a held number, where it is at least that one elsewhere and the number there
over_held : (x y : List ℤ) (f : ℕ) (c : ℤ) → c ≤ℤ number y f → ((i : ℕ) → i ≢ f → number x i ≤ℤ number y i) → AtMost (with_held x f c) y
over_held x y f c here other i = ⊎_elim
    (λ (same : i ≡ f). subst (λ j. number (with_held x f c) j ≤ℤ number y j) (sym same) (omega (arith, linear, held_here x f c, here)))
    (λ (ne : i ≢ f). omega (arith, linear, held_other x f i c ne, other i ne))
    (same_or_not i f)

-- a number in range written into a guess, where none is given
set_guess : (laws : RowLaws) (r : Rule) (k : CaseData) (x : List ℤ) (f : ℕ) (c : ℤ) → IsGuess r k x → f < length x → is_given k.model r.ends f ≡ false → pos 0 ≤ℤ c → c ≤ℤ pos (2 ^ k.w) → IsGuess r k (set x f c)
set_guess laws r k x f c h inside free least most = record {
  numbers = record {
    size = length-set x f c ∙ h.numbers.size;
    range = λ i d lt. subst (λ n. (pos 0 ≤ℤ n) × (n ≤ℤ pos (2 ^ k.w))) (sym (get_or_default (set x f c) i d (pos 0) lt)) (ranged i);
  };
  given = λ s g. ⊎_elim
      (λ (same : s ≡ f). absurd (both_ways (is_given k.model r.ends f) free (subst (λ j. is_given k.model r.ends j ≡ true) same g)))
      (λ (ne : s ≢ f). get_or-set_other x f s c (pos 0) ne ∙ h.given s g)
      (same_or_not s f);
}
  where
    ranged : (i : ℕ) → (pos 0 ≤ℤ number (set x f c) i) × (number (set x f c) i ≤ℤ pos (2 ^ k.w))
    ranged i = ⊎_elim
        (λ (same : i ≡ f). subst (λ n. (pos 0 ≤ℤ n) × (n ≤ℤ pos (2 ^ k.w))) (sym (ap (number (set x f c)) same ∙ get_or-set_same x f c (pos 0) inside)) (least, most))
        (λ (ne : i ≢ f). subst (λ n. (pos 0 ≤ℤ n) × (n ≤ℤ pos (2 ^ k.w))) (sym (get_or-set_other x f i c (pos 0) ne)) (laws.numbers k x i h.numbers))
        (same_or_not i f)

-- what rises is a guess
pub below_guess : (r : Rule) (k : CaseData) (run : Run) (x : List ℤ) → IsBelow r k run x → IsGuess r k x
below_guess r k run x h = record { numbers = h.numbers; given = h.given }

-- What counts for one iteration counts for the other with so much added: numbers that are held are less by no more. Those of the first are no more than some vector's with the given numbers.
record IsLessBy (t : TableData) (more less : Run) (by : ℤ) : Type 0 where
  spans : more.spans ≡ less.spans
  range : (pos 0 ≤ℤ by) × (by ≤ℤ pos (2 ^ t.case.w))
  held : (s : ℕ) → number more.from s ≤ℤ (number less.from s +ℤ by)
  most : (z : List ℤ) × (IsGuess t.rule t.case z × AtMost more.from z)

-- ---- steps

module _ (t : TableData) (run : Run) where
  pub raised_none : (low high : ℕ) (x : List ℤ) → IsBelow t.rule t.case run x → IsRaisedIn t run low high x x
  raised_none low high x h = record { below = h; outside = λ s out. refl }

  pub raised_then : (low high : ℕ) (x y z : List ℤ) → IsRaisedIn t run low high x y → IsRaisedIn t run low high y z → IsRaisedIn t run low high x z
  raised_then low high x y z g h = record { below = h.below; outside = λ s out. h.outside s out ∙ g.outside s out }

  -- in a wider component
  pub raised_wider : (low high from to : ℕ) (x y : List ℤ) → low ≤ from → to ≤ high → IsRaisedIn t run from to x y → IsRaisedIn t run low high x y
  raised_wider low high from to x y le ge h = record {
    below = h.below;
    outside = λ s out. h.outside s (λ is. out (record { state = is.state; from = omega (arith, le, is.from); to = omega (arith, ge, is.to) }));
  }

module _ (laws : RowLaws) (t : TableData) (run : Run) (read : IsRead t run.spans) where
  abbrev k : CaseData
  k = t.case

  abbrev r : Rule
  r = t.rule

  -- the same numbers
  pub below_same : (x y : List ℤ) → length y ≡ count t → ((s : ℕ) → s < count t → number y s ≡ number x s) → IsBelow r k run x → IsBelow r k run y
  below_same x y size same h = record {
    numbers = record {
      size = size;
      range = λ i d lt. subst (λ n. (pos 0 ≤ℤ n) × (n ≤ℤ pos (2 ^ k.w))) (sym (get_or_default y i d (pos 0) lt)) (subst (λ n. (pos 0 ≤ℤ n) × (n ≤ℤ pos (2 ^ k.w))) (sym (each i)) (laws.numbers k x i h.numbers));
    };
    given = λ s g. each s ∙ h.given s g;
    above = λ s. omega (arith, linear, each s, h.above s);
    least = λ z bound over s. omega (arith, linear, each s, h.least z bound over s);
  }
    where
      each : (s : ℕ) → number y s ≡ number x s
      each s = ⊎_elim
          (λ (lt : s < count t). same s lt)
          (λ (past : count t ≤ s). get_or_past y s (pos 0) (omega (arith, past, size)) ∙ sym (get_or_past x s (pos 0) (omega (arith, past, h.numbers.size))))
          (in_or_past s (count t))

  -- a state is held at a number, from its own on
  pub held_started : (x : List ℤ) (f : ℕ) (c : ℤ) → IsBelow r k run x → f < count t → is_given k.model r.ends f ≡ false → number x f ≤ℤ c → c ≤ℤ pos (2 ^ k.w) → IsBelow r k (holding run f c) (set x f c)
  held_started x f c h inside free le most =
      let own = laws.numbers k x f h.numbers in
      let guess : IsGuess r k (set x f c) = set_guess laws r k x f c (below_guess r k run x h) (omega (arith, inside, h.numbers.size)) free (omega (arith, linear, own.0, le)) most in
      let here : number (set x f c) f ≡ c = get_or-set_same x f c (pos 0) (omega (arith, inside, h.numbers.size)) in
      record {
        numbers = guess.numbers;
        given = guess.given;
        above = over_held run.from (set x f c) f c (omega (arith, linear, here)) (λ i ne. omega (arith, linear, get_or-set_other x f i c (pos 0) ne, h.above i));
        least = λ y bound over s.
            let at : c ≤ℤ number y f = omega (arith, linear, over f, held_here run.from f c) in
            ⊎_elim
            (λ (same : s ≡ f). subst (λ j. number (set x f c) j ≤ℤ number y j) (sym same) (omega (arith, linear, here, at)))
            (λ (ne : s ≢ f). omega (arith, linear, get_or-set_other x f s c (pos 0) ne, h.least y bound (from_over y at over) s))
            (same_or_not s f);
      }
    where
      from_over : (y : List ℤ) → c ≤ℤ number y f → AtMost (with_held run.from f c) y → AtMost run.from y
      from_over y at over i = ⊎_elim
          (λ (same : i ≡ f). subst (λ j. number run.from j ≤ℤ number y j) (sym same) (omega (arith, linear, h.above f, le, at)))
          (λ (ne : i ≢ f). omega (arith, linear, held_other run.from f i c ne, over i))
          (same_or_not i f)

  -- the held state rose too: no bound has less there
  pub held_risen : (z : List ℤ) (f : ℕ) (c : ℤ) → IsBelow r k (holding run f c) z → number run.from f ≤ℤ c → c <ℤ number z f → IsBelow r k run z
  held_risen z f c h le rose = record {
    numbers = h.numbers;
    given = h.given;
    above = λ s. ⊎_elim
        (λ (same : s ≡ f). subst (λ j. number run.from j ≤ℤ number z j) (sym same) (omega (arith, linear, le, rose)))
        (λ (ne : s ≢ f). from_under s ne)
        (same_or_not s f);
    least = λ y bound over. h.least y bound (over_held run.from y f c (enough y bound over) (λ i ne. over i));
  }
    where
      from_under : (i : ℕ) → i ≢ f → number run.from i ≤ℤ number z i
      from_under i ne = omega (arith, linear, h.above i, held_other run.from f i c ne)

      at : c ≤ℤ number z f
      at = omega (arith, linear, rose)

      enough : (y : List ℤ) → IsEnoughEverywhere r k run.spans y → AtMost run.from y → c ≤ℤ number y f
      enough y bound over = by_lt_z (number y f) c
          (λ lt. absurd (
          let up = moved_up laws t run.spans read y (c -ℤ number y f) bound (omega (arith, linear, lt)) in
          let guess = below_guess r k (holding run f c) z h in
          let under : AtMost (with_held run.from f c) up.vector = over_held run.from up.vector f c
          (up.least z guess f c at (omega (arith, linear)))
          (λ i ne. up.least z guess i (number run.from i) (from_under i ne) (omega (arith, linear, over i, lt))) in
          omega (arith, linear, h.least up.vector up.bound under f, up.most f, rose)))
          (λ le. le)

  -- what counts for an iteration counts, less by what its held numbers are more, for another one
  under_less : (more : Run) (by : ℤ) → IsLessBy t more run by → (s : ℕ) (v : ℤ) → IsUnder r k more s v → (y : List ℤ) → IsEnoughEverywhere r k run.spans y → AtMost run.from y → (v -ℤ by) ≤ℤ number y s
  under_less more by h s v u y bound over =
      let up = moved_up laws t run.spans read y by bound h.range.0 in
      let above : AtMost more.from up.vector = λ i. up.least h.most.0 h.most.1.0 i (number more.from i) (h.most.1.1 i) (omega (arith, linear, h.held i, over i)) in
      omega (arith, linear, u.least up.vector (subst (λ (sp : _). IsEnoughEverywhere r k sp up.vector) (sym h.spans) up.bound) above, up.most s)

  -- the greater of a number and of one that is less by so much
  raised_less : (more : Run) (by : ℤ) → IsLessBy t more run by → (x : List ℤ) (s : ℕ) (v w : ℤ) → IsBelow r k run x → s < count t → IsUnder r k more s v → ((w ≡ number x s) ⊎ (w ≡ v -ℤ by)) → number x s ≤ℤ w → IsBelow r k run (set x s w)
  raised_less more by less x s v w h inside u one le = record {
    numbers = record {
      size = length-set x s w ∙ h.numbers.size;
      range = λ i d lt. subst (λ n. (pos 0 ≤ℤ n) × (n ≤ℤ pos (2 ^ k.w))) (sym (get_or_default (set x s w) i d (pos 0) lt)) (ranged i);
    };
    given = λ i g. ⊎_elim
        (λ (same : i ≡ s). subst (λ j. is_given k.model r.ends j ≡ true → number (set x s w) j ≡ given k r.ends j) (sym same) (λ g. here ∙ stays g) g)
        (λ (ne : i ≢ s). get_or-set_other x s i w (pos 0) ne ∙ h.given i g)
        (same_or_not i s);
    above = λ i. ⊎_elim
        (λ (same : i ≡ s). subst (λ j. number run.from j ≤ℤ number (set x s w) j) (sym same) (omega (arith, linear, here, le, h.above s)))
        (λ (ne : i ≢ s). omega (arith, linear, get_or-set_other x s i w (pos 0) ne, h.above i))
        (same_or_not i s);
    least = λ y bound over i. ⊎_elim
        (λ (same : i ≡ s). subst (λ j. number (set x s w) j ≤ℤ number y j) (sym same) (omega (arith, linear, here, under y bound over)))
        (λ (ne : i ≢ s). omega (arith, linear, get_or-set_other x s i w (pos 0) ne, h.least y bound over i))
        (same_or_not i s);
  }
    where
      here : number (set x s w) s ≡ w
      here = get_or-set_same x s w (pos 0) (omega (arith, inside, h.numbers.size))

      under : (y : List ℤ) → IsEnoughEverywhere r k run.spans y → AtMost run.from y → w ≤ℤ number y s
      under y bound over = ⊎_elim
          (λ (is : w ≡ number x s). omega (arith, linear, is, h.least y bound over s))
          (λ (is : w ≡ v -ℤ by). omega (arith, linear, is, under_less more by less s v u y bound over))
          one

      -- a number that is given stays: it is that of some bound
      stays : is_given k.model r.ends s ≡ true → w ≡ given k r.ends s
      stays g =
          let b = above_bound laws t run.spans read x (below_guess r k run x h) in
          omega (arith, linear, under b.0 b.1.0 (λ i. omega (arith, linear, h.above i, b.1.1 i)), b.1.0.given s g, h.given s g, le)

      most : w ≤ℤ pos (2 ^ k.w)
      most = ⊎_elim
          (λ (is : w ≡ number x s). omega (arith, linear, is, (laws.numbers k x s h.numbers).1))
          (λ (is : w ≡ v -ℤ by). omega (arith, linear, is, u.range.1, less.range.0))
          one

      ranged : (i : ℕ) → (pos 0 ≤ℤ number (set x s w) i) × (number (set x s w) i ≤ℤ pos (2 ^ k.w))
      ranged i = ⊎_elim
          (λ (same : i ≡ s). subst (λ n. (pos 0 ≤ℤ n) × (n ≤ℤ pos (2 ^ k.w))) (sym (ap (number (set x s w)) same ∙ here)) (omega (arith, linear, le, (laws.numbers k x s h.numbers).0), most))
          (λ (ne : i ≢ s). subst (λ n. (pos 0 ≤ℤ n) × (n ≤ℤ pos (2 ^ k.w))) (sym (get_or-set_other x s i w (pos 0) ne)) (laws.numbers k x i h.numbers))
          (same_or_not i s)

  -- a state at a position
  pub stands_at : (i s : ℕ) → get_or t.links.order i 0 ≡ s → i < count t → position t.links s ≡ i
  stands_at i s at inside = ap (position t.links) (sym at) ∙ read.links.order.back i inside

  -- at one position
  pub raised_at : (i s : ℕ) (x y : List ℤ) → get_or t.links.order i 0 ≡ s → s < count t → i < count t → IsBelow r k run y → ((j : ℕ) → j ≢ s → number y j ≡ number x j) → IsRaisedIn t run i (i + 1) x y
  raised_at i s x y at state inside below other = record {
    below = below;
    outside = λ j out. other j (λ same.
        let here : position t.links j ≡ i = ap (position t.links) same ∙ stands_at i s at inside in
        out (record { state = omega (arith, same, state); from = omega (arith, here); to = omega (arith, here) }));
  }

  -- ---- kept numbers

  in_or_out : (low high s : ℕ) → (IsInside t low high s) ⊎ (IsOutside t low high s)
  in_or_out low high s = by_test (in_or_past s (count t)) (three low high (position t.links s))
    where
      three : (low high p : ℕ) → ((low ≤ p) × (p < high)) ⊎ ((low ≤ p) → (p < high) → ⊥)
      three low high p = grind arith

      by_test : (s < count t) ⊎ (count t ≤ s) → ((low ≤ position t.links s) × (position t.links s < high)) ⊎ ((low ≤ position t.links s) → (position t.links s < high) → ⊥) → (IsInside t low high s) ⊎ (IsOutside t low high s)
      by_test (inl state) (inl at) = inl (record { state = state; from = at.0; to = at.1 })
      by_test (inl state) (inr away) = inr (λ is. away is.from is.to)
      by_test (inr past) at = inr (λ is. absurd (omega (arith, past, is.state)))

  -- the numbers of a vector that rose are written back
  pub restored : (low high : ℕ) (kept x y z : List ℤ) → length z ≡ count t → AreKept t low high x kept → ((s : ℕ) → IsOutside t low high s → number y s ≡ number x s) → IsRestored t low high kept y z → IsBelow r k run x → IsBelow r k run z
  restored low high kept x y z size same out h below = below_same x z size (λ s lt. ⊎_elim
      (λ (is : IsInside t low high s). sym (h.inside s is) ∙ same s is)
      (λ (away : IsOutside t low high s). h.outside s away ∙ out s away)
      (in_or_out low high s)) below

  -- the numbers of a vector that rises are at most those of each bound that counts
  pub kept_under : (low high : ℕ) (x kept : List ℤ) → IsBelow r k run x → AreKept t low high x kept → AreUnder t run low high kept
  kept_under low high x kept h same s is =
      let e : kept_of t low kept s ≡ number x s = same s is in
      record {
        range = subst (λ n. (pos 0 ≤ℤ n) × (n ≤ℤ pos (2 ^ k.w))) (sym e) (laws.numbers k x s h.numbers);
        least = λ y bound over. omega (arith, linear, e, h.least y bound over s);
      }

  -- so they are at most those of each bound that has more where a state is held
  pub kept_first : (low high : ℕ) (x kept : List ℤ) (f : ℕ) (c : ℤ) → IsBelow r k run x → AreKept t low high x kept → number x f ≤ℤ c → AreUnder t (holding run f c) low high kept
  kept_first low high x kept f c h same le s is =
      let e : kept_of t low kept s ≡ number x s = same s is in
      record {
        range = subst (λ n. (pos 0 ≤ℤ n) × (n ≤ℤ pos (2 ^ k.w))) (sym e) (laws.numbers k x s h.numbers);
        least = λ y bound over. omega (arith, linear, e, h.least y bound (from_over y over) s);
      }
    where
      from_over : (y : List ℤ) → AtMost (with_held run.from f c) y → AtMost run.from y
      from_over y over i = ⊎_elim
          (λ (there : i ≡ f). subst (λ j. number run.from j ≤ℤ number y j) (sym there) (omega (arith, linear, h.above f, le, over f, held_here run.from f c)))
          (λ (ne : i ≢ f). omega (arith, linear, held_other run.from f i c ne, over i))
          (same_or_not i f)

  -- an iteration whose held number is less
  holding_less : (x : List ℤ) (f : ℕ) (c high : ℤ) → IsBelow r k (holding run f c) x → f < count t → is_given k.model r.ends f ≡ false → pos 0 ≤ℤ c → c ≤ℤ high → high ≤ℤ pos (2 ^ k.w) → IsLessBy t (holding run f high) (holding run f c) (high -ℤ c)
  holding_less x f c high h inside free from less most = record {
    spans = refl;
    range = (omega (arith, linear, less), omega (arith, linear, most, from));
    held = λ s. ⊎_elim
        (λ (same : s ≡ f). subst (λ j. number (with_held run.from f high) j ≤ℤ (number (with_held run.from f c) j +ℤ (high -ℤ c))) (sym same) (omega (arith, linear, held_here run.from f high, held_here run.from f c)))
        (λ (ne : s ≢ f). omega (arith, linear, held_other run.from f s high ne, held_other run.from f s c ne, less))
        (same_or_not s f);
    most = (
      set x f high,
      (
        set_guess laws r k x f high (record { numbers = h.numbers; given = h.given }) here free (omega (arith, linear, from, less)) most,
        over_held run.from (set x f high) f high (omega (arith, linear, get_or-set_same x f high (pos 0) here)) (λ i ne. omega (arith, linear, get_or-set_other x f i high (pos 0) ne, h.above i, held_other run.from f i c ne)),
      ),
    );
  }
    where
      here : f < length x
      here = omega (arith, inside, h.numbers.size)

module _ (laws : RowLaws) (t : TableData) (run : Run) (read : IsRead t run.spans) (p : Component) (can : CanHold t p.low p.high p.held) where
  abbrev held : ℕ
  held = get_or t.links.order p.held 0

  -- the state is held from its own number on
  pub set_held_in : (inside : p.high ≤ count t) (x : List ℤ) → IsBelow t.rule t.case run x → number x held ≤ℤ p.number → p.number ≤ℤ pos (2 ^ t.case.w) → IsRaisedIn t (beside t run p) p.low p.high x (set x held p.number)
  set_held_in inside x h le most = record {
    below = held_started laws t run read x held p.number h can.state can.free le most;
    outside = λ s out. get_or-set_other x held s p.number (pos 0) (λ same. out (held_inside s same));
  }
    where
      held_inside : (s : ℕ) → s ≡ held → IsInside t p.low p.high s
      held_inside s same =
          let at : position t.links s ≡ p.held = ap (position t.links) same ∙ stands_at laws t run read p.held held refl (omega (arith, can.to, inside)) in
          record { state = omega (arith, same, can.state); from = omega (arith, at, can.from); to = omega (arith, at, can.to) }

  -- a number that settled, less by what the state is held less
  pub raised_at_in : (inside : p.high ≤ count t) (x kept : List ℤ) (high v : ℤ) (i s : ℕ) → IsBelow t.rule t.case (beside t run p) x → IsAbove t run p kept high → p.low ≤ i → i < p.high → get_or t.links.order i 0 ≡ s → s < count t → v ≡ number kept (i - p.low) -ℤ (high -ℤ p.number) → number x s ≤ℤ v → IsRaisedIn t (beside t run p) p.low p.high x (set x s v)
  raised_at_in inside x kept high v i s h above from to at state is le = record {
    below = raised_less laws t (beside t run p) read (holding run held high) (high -ℤ p.number)
        (holding_less laws t run read x held p.number high h can.state can.free above.range.0 above.range.1 above.range.2)
        x s (kept_of t p.low kept s) v h state (above.under s there) (inr (subst (λ j. v ≡ number kept (j - p.low) -ℤ (high -ℤ p.number)) (sym here) is)) le;
    outside = λ j out. get_or-set_other x s j v (pos 0) (λ same. out (subst (λ u. IsInside t p.low p.high u) (sym same) there));
  }
    where
      here : position t.links s ≡ i
      here = stands_at laws t run read i s at (omega (arith, to, inside))

      there : IsInside t p.low p.high s
      there = record { state = state; from = omega (arith, here, from); to = omega (arith, here, to) }

  -- the held state rose too
  pub risen_in : (x z : List ℤ) → IsBelow t.rule t.case run x → number x held ≤ℤ p.number → IsRaisedIn t (beside t run p) p.low p.high x z → p.number <ℤ number z held → IsRaisedIn t run p.low p.high x z
  risen_in x z h le g rose = record {
    below = held_risen laws t run read z held p.number g.below (omega (arith, linear, h.above held, le)) rose;
    outside = g.outside;
  }

-- what settled at a position
pub under_at : (t : TableData) (run : Run) (read : IsRead t run.spans) (p : Component) → p.high ≤ count t → (kept : List ℤ) (high : ℤ) → IsAbove t run p kept high → (i s : ℕ) → p.low ≤ i → i < p.high → get_or t.links.order i 0 ≡ s → s < count t → IsUnder t.rule t.case (holding run (get_or t.links.order p.held 0) high) s (number kept (i - p.low))
under_at t run read p inside kept high above i s from to at state =
    let here : position t.links s ≡ i = ap (position t.links) (sym at) ∙ read.links.order.back i (omega (arith, to, inside)) in
    subst (λ j. IsUnder t.rule t.case (holding run (get_or t.links.order p.held 0) high) s (number kept (j - p.low))) here
    (above.under s (record { state = state; from = omega (arith, here, from); to = omega (arith, here, to) }))

-- ---- a search

module _ (laws : RowLaws) (t : TableData) (run : Run) (read : IsRead t run.spans) (p : Component) where
  -- it went on from what rose
  pub search_risen : (x : List ℤ) (old new : Search) → AreKept t p.low p.high x new.base → new.high ≡ old.high → new.settled ≡ old.settled → (pos 0 ≤ℤ old.high) × (old.high ≤ℤ pos (2 ^ t.case.w)) → AreUnder t (holding run (get_or t.links.order p.held 0) old.high) p.low p.high old.settled → IsSearch t run p x new
  search_risen x old new kept high settled range under = record {
    base = kept;
    range = subst (λ n. (pos 0 ≤ℤ n) × (n ≤ℤ pos (2 ^ t.case.w))) (sym high) range;
    under = subst (λ n. AreUnder t (holding run (get_or t.links.order p.held 0) n) p.low p.high new.settled) (sym high) (subst (λ list. AreUnder t (holding run (get_or t.links.order p.held 0) old.high) p.low p.high list) (sym settled) under);
  }

  -- at first
  pub search_first : (x : List ℤ) (search : Search) → IsBelow t.rule t.case run x → AreKept t p.low p.high x search.base → AreKept t p.low p.high x search.settled → search.high ≡ pos (2 ^ t.case.w) → IsSearch t run p x search
  search_first x search h kept also high = record {
    base = kept;
    range = (omega (arith, linear, high), omega (arith, linear, high));
    under = kept_first laws t run read p.low p.high x search.settled (get_or t.links.order p.held 0) search.high h also (omega (arith, linear, high, (laws.numbers t.case x (get_or t.links.order p.held 0) h.numbers).1));
  }

  -- a search that goes back to what was kept
  pub restored_in : (x y z base : List ℤ) (low high : ℕ) → length z ≡ length x → IsBelow t.rule t.case run x → AreKept t low high x base → ((s : ℕ) → IsOutside t low high s → number y s ≡ number x s) → IsRestored t low high base y z → IsRaisedIn t run low high x z
  restored_in x y z base low high size h same out is = record {
    below = restored laws t run read low high base x y z (size ∙ h.numbers.size) same out is h;
    outside = λ s away. is.outside s away ∙ out s away;
  }
