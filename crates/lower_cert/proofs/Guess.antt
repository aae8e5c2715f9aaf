-- A guess that was lowered everywhere: a lower vector above what it was lowered to would, made smaller by all but one, be a lower vector below the guess.
use Rattle.std.proofs.Common.{◌≡◌, ℕ, zero, suc, ◌^◌, ◌<◌, ◌≤◌, ◌⊎◌, inl, inr, ⊎_elim, true, false, cond, List, [], ◌∷◌, length, get_or, ℤ, pos, negsuc, ◌+ℤ◌, ◌-ℤ◌, ◌*ℤ◌, neg_ℤ, ◌≤ℤ◌, ◌<ℤ◌, refl, sym, ap, ◌∙◌, arith}
use Rattle.std.proofs.lemmas.List.{get_or_past}
use Rattle.std.proofs.lemmas.List.Elements.{All-from_get_or}
use Rattle.lift_poly.proofs.Ring.{linear, mul-comm, add-mul, zero-mul, mul-zero, mul-le}
use Rattle.lift_grid.specs.Tree.{RejectData}
use Rattle.lift_grid.specs.Rectangle.{Spans}
use Rattle.lift_model.specs.Model.{is_goal}
use Rattle.corner_lift.specs.Corner.{whole}
use Rattle.corner_lift.specs.Case.{CaseData}
use Rattle.corner_lift.specs.Case.{number}
use Rattle.corner_lift.specs.Certificate.{mark, chosen_row, IsLower}
use Rattle.lower_cert.specs.Capping.{IsAboveLowerUnder}
use Rattle.lower_cert.specs.Laws.{GuessIsAbove, SmallRefutes}
use Rattle.lower_cert.proofs.Means.{Premises, Place, stand, in_or_past, either_way, level, mono, added, range}

-- the list of the first so many values
table : ℕ → (ℕ → ℤ) → List ℤ
table zero f = []
table (suc n) f = f 0 ∷ table n (λ i. f (suc i))

length-table : (n : ℕ) (f : ℕ → ℤ) → length (table n f) ≡ n
unfolding table
length-table zero f = refl
length-table (suc n) f = omega (arith, length-table n (λ i. f (suc i)))

table-at : (n : ℕ) (f : ℕ → ℤ) (i : ℕ) → i < n → get_or (table n f) i (pos 0) ≡ f i
unfolding table
table-at zero f i lt = absurd (omega arith)
table-at (suc n) f zero lt = refl
table-at (suc n) f (suc i) lt = table-at n (λ i. f (suc i)) i (omega arith)

-- a number, or 0 where it is below
clamp : ℤ → ℤ
clamp (pos n) = pos n
clamp (negsuc n) = pos 0

clamp-least : (z : ℤ) → pos 0 ≤ℤ clamp z
unfolding clamp
clamp-least (pos n) = omega (arith, linear)
clamp-least (negsuc n) = omega (arith, linear)

clamp-above : (z : ℤ) → z ≤ℤ clamp z
unfolding clamp
clamp-above (pos n) = omega (arith, linear)
clamp-above (negsuc n) = omega (arith, linear)

clamp-either : (z : ℤ) → (clamp z ≡ z) ⊎ (clamp z ≡ pos 0)
unfolding clamp
clamp-either (pos n) = inl refl
clamp-either (negsuc n) = inr refl

clamp-most : (z b : ℤ) → z ≤ℤ b → pos 0 ≤ℤ b → clamp z ≤ℤ b
unfolding clamp
clamp-most (pos n) b h k = h
clamp-most (negsuc n) b h k = k

clamp-unmarked : (z : ℤ) → z ≤ℤ pos 0 → clamp z ≡ pos 0
clamp-unmarked z h = omega (arith, linear, clamp-most z (pos 0) h (omega (arith, linear)), clamp-least z)

module _ (k : CaseData) (spans : Spans) (place : Place k spans) (y : RejectData) (h : IsLower k spans y) (n : ℕ) where
  abbrev top : ℤ
  top = pos (2 ^ k.w)

  -- n less, but 2 ^ w on goal states
  pub less : ℕ → ℤ
  less s = cond (is_goal k.model s) top (clamp (number y.numbers s -ℤ pos n))

  pub lessened : List ℤ
  lessened = table (length k.model.states) less

  less-goal : (s : ℕ) → is_goal k.model s ≡ true → less s ≡ top
  unfolding less
  less-goal s g = rw g refl

  less-other : (s : ℕ) → is_goal k.model s ≡ false → less s ≡ clamp (number y.numbers s -ℤ pos n)
  unfolding less
  less-other s g = rw g refl

  less-least : (s : ℕ) → pos 0 ≤ℤ less s
  less-least s = either_way (is_goal k.model s) (λ g. rw (less-goal s g) (omega (arith, linear))) (λ g. rw (less-other s g) (clamp-least (number y.numbers s -ℤ pos n)))

  less-most : (s : ℕ) → less s ≤ℤ top
  less-most s = either_way (is_goal k.model s) (λ g. rw (less-goal s g) (omega (arith, linear))) (λ g. rw (less-other s g) (clamp-most (number y.numbers s -ℤ pos n) top (omega (arith, linear, (range k spans place y h s).1)) (omega (arith, linear))))

  -- at least n less than y
  pub less-above : (s : ℕ) → (number y.numbers s -ℤ pos n) ≤ℤ less s
  less-above s = either_way (is_goal k.model s) (λ g. rw (less-goal s g) (omega (arith, linear, (range k spans place y h s).1))) (λ g. rw (less-other s g) (clamp-above (number y.numbers s -ℤ pos n)))

  -- at most what y is at most
  pub less-under : (s : ℕ) (b : ℤ) → number y.numbers s ≤ℤ b → less s ≤ℤ b
  less-under s b le = either_way (is_goal k.model s) (λ g. rw (less-goal s g) (omega (arith, linear, le, (h.goal s g).0))) (λ g. rw (less-other s g) (clamp-most (number y.numbers s -ℤ pos n) b (omega (arith, linear, le)) (omega (arith, linear, le, (range k spans place y h s).0))))

  -- and at most what is n less, where y is no goal's
  pub less-shifted : (s : ℕ) (b : ℤ) → is_goal k.model s ≡ false → (number y.numbers s -ℤ pos n) ≤ℤ b → pos 0 ≤ℤ b → less s ≤ℤ b
  less-shifted s b g le least = rw (less-other s g) (clamp-most (number y.numbers s -ℤ pos n) b le least)

  pub lessened-is : (s : ℕ) → number lessened s ≡ less s
  unfolding lessened
  lessened-is s =
      ⊎_elim
      (λ (within : s < length k.model.states). table-at (length k.model.states) less s within)
      (λ (past : length k.model.states ≤ s).
      let size : length lessened ≤ s = omega (arith, length-table (length k.model.states) less, past) in
      let y_size : length y.numbers ≤ s = omega (arith, h.numbers.size, past) in
      let goal_size : length k.model.goal ≤ s = omega (arith, place.case.asked.model.goals, past) in
      let g : is_goal k.model s ≡ false = get_or_past k.model.goal s false goal_size in
      let zero_there : number y.numbers s ≡ pos 0 = get_or_past y.numbers s (pos 0) y_size in
      get_or_past lessened s (pos 0) size ∙ sym (less-other s g ∙ clamp-unmarked (number y.numbers s -ℤ pos n) (omega (arith, linear, zero_there))))
      (in_or_past s (length k.model.states))

  -- with the same picks and ranks
  abbrev pub lessened_data : RejectData
  lessened_data = record y { numbers = lessened }

  -- it is a lower vector
  pub lessened_lower : IsLower k spans lessened_data
  unfolding lessened
  lessened_lower = record {
    numbers = record {
      size = length-table (length k.model.states) less;
      range = All-from_get_or (λ x. (pos 0 ≤ℤ x) × (x ≤ℤ top)) lessened (pos 0) (λ i lt. let is = lessened-is i in (omega (arith, linear, is, less-least i), omega (arith, linear, is, less-most i)));
    };
    sizes = h.sizes;
    marks = h.marks;
    bounds = h.bounds;
    goal = λ s g. let old = h.goal s g in (lessened-is s ∙ less-goal s g, old.1, old.2);
    unranked = λ s g r. let old = h.unranked s g r in (lessened-is s ∙ less-other s g ∙ clamp-unmarked (number y.numbers s -ℤ pos n) (omega (arith, linear, old.0)), old.1);
    held =
        λ s g lt. let old = h.held s g lt in
        let a = mark y.picks s in
        let row = chosen_row k y s in
        let w = whole k.model k.d spans row in
        record {
          rank = old.rank;
          pick = old.pick;
          means =
              λ c l. let sums = mono k spans place s a old.pick c less (number lessened) (λ t. let is = lessened-is t in omega (arith, linear, is)) in
              let here : number lessened s ≡ clamp (number y.numbers s -ℤ pos n) = lessened-is s ∙ less-other s g in
              rw here
              (⊎_elim
              (λ (same : clamp (number y.numbers s -ℤ pos n) ≡ number y.numbers s -ℤ pos n).
              let more = mono k spans place s a old.pick c (λ t. number y.numbers t +ℤ neg_ℤ (pos n)) less (λ t. let up = less-above t in omega (arith, linear, up)) in
              rw same (omega (
                arith,
                linear,
                sums,
                more,
                old.means c l,
                added k spans place s a old.pick c (number y.numbers) (λ t. neg_ℤ (pos n)),
                level k spans place s a old.pick c l (neg_ℤ (pos n)),
                spread (number y.numbers s) (pos n) w,
              )))
              (λ (nothing : clamp (number y.numbers s -ℤ pos n) ≡ pos 0).
              let more = mono k spans place s a old.pick c (λ t. pos 0) less less-least in
              rw nothing (omega (arith, linear, sums, more, level k spans place s a old.pick c l (pos 0), zero-mul w, mul-zero w)))
              (clamp-either (number y.numbers s -ℤ pos n)));
          rates = old.rates;
        };
  }
    where
      spread : (a b w : ℤ) → (a -ℤ b) *ℤ w ≡ a *ℤ w +ℤ w *ℤ neg_ℤ b
      spread a b w = add-mul a (neg_ℤ b) w ∙ ap (λ z. a *ℤ w +ℤ z) (mul-comm (neg_ℤ b) w)

module _ (k : CaseData) (spans : Spans) (a z : ℕ → ℤ) (place : Place k spans) (least : (s : ℕ) → pos 0 ≤ℤ z s) (goals : (s : ℕ) → is_goal k.model s ≡ true → pos (2 ^ k.w) ≤ℤ z s) (above : IsAboveLowerUnder k spans a z) (strict : (s : ℕ) → (z s <ℤ a s) ⊎ ((y : RejectData) → IsLower k spans y → number y.numbers s ≤ℤ a s)) (y : RejectData) (h : IsLower k spans y) where
  one_less : (n : ℕ) → ((t : ℕ) → number y.numbers t ≤ℤ (z t +ℤ pos (suc n))) → (s : ℕ) → number y.numbers s ≤ℤ (z s +ℤ pos n)
  one_less n most s =
      let under : (t : ℕ) → number (lessened k spans place y h n) t ≤ℤ a t =
      λ t. rw (lessened-is k spans place y h n t)
      (⊎_elim
      (λ (lower_there : z t <ℤ a t).
      either_way (is_goal k.model t)
      (λ g. less-under k spans place y h n t (a t) (omega (arith, linear, lower_there, goals t g, (range k spans place y h t).1)))
      (λ g. less-shifted k spans place y h n t (a t) g (omega (arith, linear, lower_there, most t)) (omega (arith, linear, lower_there, least t))))
      (λ known. less-under k spans place y h n t (a t) (known y h))
      (strict t)) in
      let small = above (lessened_data k spans place y h n) (lessened_lower k spans place y h n) under s in
      let is = lessened-is k spans place y h n s in
      let up = less-above k spans place y h n s in
      omega (arith, linear, small, is, up)

  descends : (n : ℕ) → ((t : ℕ) → number y.numbers t ≤ℤ (z t +ℤ pos n)) → (s : ℕ) → number y.numbers s ≤ℤ z s
  descends zero most s = omega (arith, linear, most s)
  descends (suc n) most s = descends n (one_less n most) s

pub guess_is_above : Premises → GuessIsAbove
guess_is_above laws k spans a z is within least goals above strict y h s =
    descends k spans a z (stand laws k spans is within) least goals above strict y h (2 ^ k.w) (λ t. omega (arith, linear, (range k spans (stand laws k spans is within) y h t).1, least t)) s

pub small_refutes : SmallRefutes
small_refutes k spans bound z above small r rejecting =
    let le = above r rejecting.holds k.model.init in
    let more = mul-le (pos bound.den) (number r.numbers k.model.init) (z k.model.init) (omega (arith, linear)) le in
    absurd (omega (arith, linear, more, small, rejecting.limit, mul-comm (pos bound.den) (number r.numbers k.model.init), mul-comm (pos bound.den) (z k.model.init)))
