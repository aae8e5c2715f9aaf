-- A set of states none of whose choices holds v or more: every lower vector is below v there.
use Rattle.std.proofs.Common.{◌≡◌, ℕ, zero, suc, ◌^◌, ◌<◌, inl, inr, ⊎_elim, Bool, true, ℤ, pos, ◌+ℤ◌, ◌-ℤ◌, ◌*ℤ◌, ◌≤ℤ◌, ◌<ℤ◌, refl, arith, nat_lt, ltb-true}
use Rattle.lift_poly.proofs.Ring.{linear, mul-comm, add-mul, mul-zero, zero-mul, one-mul, mul-le, as_diff, diffs, diff-same}
use Rattle.lift_grid.specs.Tree.{RejectData}
use Rattle.lift_grid.specs.Rectangle.{Spans}
use Rattle.lift_model.specs.Model.{row_at, support, moves_at}
use Rattle.corner_lift.specs.Corner.{corner, corner_sum, whole, parameter_count}
use Rattle.corner_lift.specs.Case.{CaseData}
use Rattle.corner_lift.specs.Case.{number}
use Rattle.corner_lift.specs.Certificate.{mark, ranked_below, chosen_row, IsLower, IsHeld}
use Rattle.lower_cert.specs.Capping.{into, out, beyond, filled, IsCapped, HasNoGoal}
use Rattle.lower_cert.specs.Laws.{CappedIsBelow, CappingKeeps, QuotientCaps, StayingCaps, CapsMore, LevelCaps, CappingKeepsUnder}
use Rattle.lower_cert.proofs.Means.{Premises, Place, stand, either_way, sum-same, sum-add, sum-times, ones, positive, level, mono, added, scaled, range, held_or_zero, below_mean, below_lower}

module _ (k : CaseData) (spans : Spans) (inside : ℕ → Bool) (z : ℕ → ℤ) (v : ℤ) (place : Place k spans) (no_goal : HasNoGoal k inside) (v_positive : pos 0 <ℤ v) (capped : IsCapped k spans inside z v) (y : RejectData) (h : IsLower k spans y) (under : (t : ℕ) → number y.numbers t ≤ℤ z t) where
  abbrev top : ℤ
  top = pos (2 ^ k.w)

  -- Where no number of the set is above v + n, none reaches it.
  module _ (n : ℕ) (most : (t : ℕ) → inside t ≡ true → number y.numbers t ≤ℤ (v +ℤ pos n)) where
    raised : (t : ℕ) → number y.numbers t ≤ℤ (filled inside v z t +ℤ pos n)
    raised t =
        either_way (inside t)
        (λ i. rw i (omega (arith, linear, most t i)))
        (λ o. rw o (omega (arith, linear, under t)))

    -- a corner at which the mean, with v in the whole set, is below v
    by_filled : (s : ℕ) → (held : IsHeld k spans y s) → (c : ℕ) → c < 2 ^ parameter_count spans (support (chosen_row k y s)) → corner_sum k.d spans (chosen_row k y s) c (filled inside v z) <ℤ (v *ℤ whole k.model k.d spans (chosen_row k y s)) → number y.numbers s <ℤ (v +ℤ pos n)
    by_filled s held c lt mean =
        let row = chosen_row k y s in
        let a = mark y.picks s in
        let w = whole k.model k.d spans row in
        below_mean k spans place y h s held c lt (λ t. filled inside v z t +ℤ pos n) (v +ℤ pos n) raised
        (omega (arith, linear, mean, added k spans place s a held.pick c (filled inside v z) (λ t. pos n), level k spans place s a held.pick c lt (pos n), add-mul v (pos n) w, mul-comm w (pos n)))

    -- a corner at which z's own mean is below v
    by_mean : (s : ℕ) → (held : IsHeld k spans y s) → (c : ℕ) → c < 2 ^ parameter_count spans (support (chosen_row k y s)) → corner_sum k.d spans (chosen_row k y s) c z <ℤ (v *ℤ whole k.model k.d spans (chosen_row k y s)) → number y.numbers s <ℤ (v +ℤ pos n)
    by_mean s held c lt mean = let less = below_mean k spans place y h s held c lt z v under mean in omega (arith, linear, less)

    -- a corner at which nothing leaves the set
    by_out : (s : ℕ) → (held : IsHeld k spans y s) → ((t : ℕ) → mark y.ranks t < mark y.ranks s → inside t ≡ true → number y.numbers t <ℤ (v +ℤ pos n)) → (c : ℕ) → c < 2 ^ parameter_count spans (support (chosen_row k y s)) → corner_sum k.d spans (chosen_row k y s) c (out inside) ≤ℤ pos 0 → number y.numbers s <ℤ (v +ℤ pos n)
    by_out s held lower_ones c lt stays =
        let row = chosen_row k y s in
        let a = mark y.picks s in
        let w = whole k.model k.d spans row in
        let m = v +ℤ pos n in
        let low = ranked_below (mark y.ranks) (mark y.ranks s) in
        let f : ℕ → ℤ = λ t. m +ℤ out inside t *ℤ (top +ℤ pos 1) in
        let fits : (t : ℕ) → (number y.numbers t +ℤ low t) ≤ℤ f t =
        λ t. either_way (nat_lt (mark y.ranks t) (mark y.ranks s))
        (λ l. let less : mark y.ranks t < mark y.ranks s = ltb-true (mark y.ranks t) (mark y.ranks s) l in
        rw l (either_way (inside t)
        (λ i. rw i (omega (arith, linear, zero-mul (top +ℤ pos 1), lower_ones t less i)))
        (λ o. rw o (omega (arith, linear, one-mul (top +ℤ pos 1), (range k spans place y h t).1, v_positive)))))
        (λ l. rw l (either_way (inside t)
        (λ i. rw i (omega (arith, linear, zero-mul (top +ℤ pos 1), most t i)))
        (λ o. rw o (omega (arith, linear, one-mul (top +ℤ pos 1), (range k spans place y h t).1, v_positive))))) in
        let nothing = mul-le (top +ℤ pos 1) (corner_sum k.d spans row c (out inside)) (pos 0) (omega (arith, linear)) stays in
        below_lower k spans place y h s held c lt f m fits
        (omega (arith, linear, nothing, added k spans place s a held.pick c (λ t. m) (λ t. out inside t *ℤ (top +ℤ pos 1)), level k spans place s a held.pick c lt m, scaled k spans place s a held.pick c (top +ℤ pos 1) (out inside), mul-comm w m, mul-comm (top +ℤ pos 1) (corner_sum k.d spans row c (out inside)), mul-zero (top +ℤ pos 1)))

    -- rank by rank
    sinks : (r s : ℕ) → mark y.ranks s < r → inside s ≡ true → number y.numbers s <ℤ (v +ℤ pos n)
    sinks zero s lt i = absurd (omega arith)
    sinks (suc r) s lt i =
        held_or_zero k spans place y h s (no_goal s i)
        (λ held.
        let at = capped s (mark y.picks s) i held.pick in
        ⊎_elim
        (by_filled s held at.0 at.1.0)
        (⊎_elim
        (by_out s held (λ t less ins. sinks r t (omega (arith, less, lt)) ins) at.0 at.1.0)
        (by_mean s held at.0 at.1.0))
        at.1.1)
        (λ none_there. omega (arith, linear, none_there, v_positive))

  -- one less each time
  descends : (n : ℕ) → ((t : ℕ) → inside t ≡ true → number y.numbers t ≤ℤ ((v +ℤ pos n) -ℤ pos 1)) → (s : ℕ) → inside s ≡ true → number y.numbers s <ℤ v
  descends zero most s i = omega (arith, linear, most s i)
  descends (suc n) most s i =
      descends n
      (λ t ins. let less = sinks n (λ u there. omega (arith, linear, most u there)) (suc (mark y.ranks t)) t (omega arith) ins in omega (arith, linear, less))
      s i

  pub stays_below : (s : ℕ) → inside s ≡ true → number y.numbers s <ℤ v
  stays_below s i = descends (2 ^ k.w) (λ t there. omega (arith, linear, (range k spans place y h t).1, v_positive)) s i

pub capped_is_below : Premises → CappedIsBelow
capped_is_below laws k spans inside z v is within no_goal v_positive above capped y h s i =
    stays_below k spans inside z v (stand laws k spans is within) no_goal v_positive capped y h (above y h) s i

pub capping_keeps : Premises → CappingKeeps
capping_keeps laws k spans inside z v lowered is within no_goal v_positive above capped by y h s =
    ⊎_elim
    (λ (kept : z s ≤ℤ lowered s). omega (arith, linear, kept, above y h s))
    (λ (cut : (inside s ≡ true) × ((v -ℤ pos 1) ≤ℤ lowered s)).
    let less = capped_is_below laws k spans inside z v is within no_goal v_positive above capped y h s cut.0 in
    omega (arith, linear, less, cut.1))
    (by s)

pub capping_keeps_under : Premises → CappingKeepsUnder
capping_keeps_under laws k spans inside a z v lowered is within no_goal v_positive above capped by y h small s =
    ⊎_elim
    (λ (kept : z s ≤ℤ lowered s). omega (arith, linear, kept, above y h small s))
    (λ (cut : (inside s ≡ true) × ((v -ℤ pos 1) ≤ℤ lowered s)).
    let less = stays_below k spans inside z v (stand laws k spans is within) no_goal v_positive capped y h (above y h small) s cut.0 in
    omega (arith, linear, less, cut.1))
    (by s)

-- ---- at a corner

leaving : (v w i : ℤ) → v *ℤ (w -ℤ i) +ℤ i *ℤ v ≡ v *ℤ w
leaving v w i = rw (as_diff v, as_diff w, as_diff i) (simp diffs (diff-same _ _ _ _ (omega arith)))

pub quotient_caps : QuotientCaps
quotient_caps k spans inside z v s a c lt =
    let row = row_at k.model s a in
    let moves = moves_at (corner k.d spans (support row) c) row in
    let parts : (t : ℕ) → filled inside v z t ≡ beyond inside z t +ℤ into inside t *ℤ v =
    λ t. either_way (inside t)
    (λ i. rw i (omega (arith, linear, one-mul v)))
    (λ o. rw o (omega (arith, linear, zero-mul v))) in
    inl (omega (
      arith,
      linear,
      lt,
      sum-same (filled inside v z) (λ t. beyond inside z t +ℤ into inside t *ℤ v) moves parts,
      sum-add (beyond inside z) (λ t. into inside t *ℤ v) moves,
      sum-times v (into inside) moves,
      leaving v (whole k.model k.d spans row) (corner_sum k.d spans row c (into inside)),
    ))

pub staying_caps : Premises → StayingCaps
staying_caps laws k spans inside z v s a c is within choice lt stays =
    let row = row_at k.model s a in
    let moves = moves_at (corner k.d spans (support row) c) row in
    let parts : (t : ℕ) → out inside t +ℤ into inside t ≡ pos 1 =
    λ t. either_way (inside t)
    (λ i. rw i refl)
    (λ o. rw o refl) in
    inr (inl (omega (
      arith,
      linear,
      stays,
      sum-same (λ t. out inside t +ℤ into inside t) (λ t. pos 1) moves parts,
      sum-add (out inside) (into inside) moves,
      ones k spans (stand laws k spans is within) s a choice c lt,
    )))

pub caps_more : Premises → CapsMore
caps_more laws k spans inside z u v s a c is within choice lt le caps =
    let row = row_at k.model s a in
    let w = whole k.model k.d spans row in
    let more = mul-le w u v (let p = positive k spans (stand laws k spans is within) s a choice in omega (arith, linear, p)) le in
    ⊎_elim
    (λ (mean : corner_sum k.d spans row c (filled inside u z) <ℤ (u *ℤ w)).
    let raised : (t : ℕ) → filled inside v z t ≤ℤ (filled inside u z t +ℤ (v -ℤ u)) =
    λ t. either_way (inside t)
    (λ i. rw i (omega (arith, linear)))
    (λ o. rw o (omega (arith, linear, le))) in
    inl (omega (
      arith,
      linear,
      mean,
      mono k spans (stand laws k spans is within) s a choice c (filled inside v z) (λ t. filled inside u z t +ℤ (v -ℤ u)) raised,
      added k spans (stand laws k spans is within) s a choice c (filled inside u z) (λ t. v -ℤ u),
      level k spans (stand laws k spans is within) s a choice c lt (v -ℤ u),
      apart w u v,
    )))
    (⊎_elim
    (λ (stays : corner_sum k.d spans row c (out inside) ≤ℤ pos 0). inr (inl stays))
    (λ (mean : corner_sum k.d spans row c z <ℤ (u *ℤ w)). inr (inr (omega (arith, linear, mean, more, mul-comm w u, mul-comm w v)))))
    caps
  where
    apart : (w u v : ℤ) → u *ℤ w +ℤ w *ℤ (v -ℤ u) ≡ v *ℤ w
    apart w u v = rw (as_diff w, as_diff u, as_diff v) (simp diffs (diff-same _ _ _ _ (omega arith)))

pub level_caps : LevelCaps
level_caps k spans inside z m v s a c same lt =
    let row = row_at k.model s a in
    let moves = moves_at (corner k.d spans (support row) c) row in
    let parts : (t : ℕ) → z t ≡ beyond inside z t +ℤ into inside t *ℤ m =
    λ t. either_way (inside t)
    (λ i. rw i (omega (arith, linear, one-mul m, same t i)))
    (λ o. rw o (omega (arith, linear, zero-mul m))) in
    quotient_caps k spans inside z v s a c (omega (
      arith,
      linear,
      lt,
      sum-same z (λ t. beyond inside z t +ℤ into inside t *ℤ m) moves parts,
      sum-add (beyond inside z) (λ t. into inside t *ℤ m) moves,
      sum-times m (into inside) moves,
    ))
