-- The first test that fails is one.
use Rattle.std.proofs.Common.{◌≡◌, ◌<◌, ◌≤◌, ℕ, true, false, ℤ, length, Option, Some, None, sym, subst, ap, ◌∙◌, arith}
use Rattle.lift_grid.specs.Rectangle.{Spans}
use Rattle.lift_grid.specs.Tree.{RejectData}
use Rattle.lift_model.specs.Model.{is_goal}
use Rattle.corner_lift.specs.Case.{CaseData}
use Rattle.lift_cert.specs.declared.miss.Miss.{Miss}
use Rattle.lift_cert.specs.declared.miss.Miss.TheVariants.{Goal, Unranked, Row, Rate, Limit}
use Rattle.audit_cert.specs.Claim.{LimitData, ClaimData, PassesCorner, PassesState, lacks_rank}
use Rattle.audit_cert.specs.Miss.{IsAtCorner, IsRowMiss, IsRateMiss, IsSlowBy, IsPastSome, IsMiss, IsFirstMiss, place}
use Rattle.audit_cert.specs.Laws.{FirstMissIsOne}
use Rattle.audit_cert.proofs.Misses.{goal_refused, unranked_refused, met_refused, rate_refused, corner_refused}

neither_less : (m n : ℕ) → (m < n → ⊥) → (n < m → ⊥) → m ≡ n
neither_less m n f g = omega arith

-- what is told is determined
slow_same : (k : CaseData) (spans : Spans) (ranking : Option RejectData) (s a i : ℕ) (weight : ℤ) (e : ℕ) (all less : ℤ) (d : ℕ) (most : ℤ)
    → IsSlowBy k spans ranking s a i weight e all → IsSlowBy k spans ranking s a i less d most → Rate s a i weight e all ≡ Rate s a i less d most
slow_same k spans None s a i weight e all less d most f g = absurd f
slow_same k spans (Some r) s a i weight e all less d most f g = cc (f.weight_is, f.e_is, f.whole_is, g.weight_is, g.e_is, g.whole_is)

past_same : (w : ℕ) (z : ℤ) (limit : Option LimitData) (left right more above : ℤ) → IsPastSome w z limit left right → IsPastSome w z limit more above → Limit left right ≡ Limit more above
past_same w z None left right more above f g = absurd f
past_same w z (Some limit) left right more above f g = cc (f.left_is, f.right_is, g.left_is, g.right_is)

module _ (k : CaseData) (spans : Spans) (c : ClaimData) where
  place_most : (m : Miss) → IsMiss k spans c m → place k m ≤ length k.model.states
  place_most (Goal s value) miss = omega (arith, miss.state)
  place_most (Unranked s value) miss = omega (arith, miss.state)
  place_most (Row s a i left right) miss = omega (arith, miss.at.row.state)
  place_most (Rate s a i weight e all) miss = omega (arith, miss.at.row.state)
  place_most (Limit left right) miss = omega arith

  refused : (m : Miss) → IsMiss k spans c m → place k m < length k.model.states → PassesState k spans c (place k m) → ⊥
  refused (Goal s value) miss lt = goal_refused k spans c s value miss
  refused (Unranked s value) miss lt = unranked_refused k spans c s value miss
  refused (Row s a i left right) miss lt = corner_refused k spans c s a i miss.at (met_refused k spans c s a i left right miss)
  refused (Rate s a i weight e all) miss lt = corner_refused k spans c s a i miss.at (rate_refused k spans c s a i weight e all miss)
  refused (Limit left right) miss lt = absurd (omega (arith, lt))

  -- both stand at one state, or behind all
  same_place : (m n : Miss) → IsFirstMiss k spans c m → IsFirstMiss k spans c n → place k m ≡ place k n
  same_place m n f g = neither_less (place k m) (place k n)
      (λ lt. refused m f.1 (omega (arith, lt, place_most n g.1)) (g.0 (place k m) lt))
      (λ lt. refused n g.1 (omega (arith, lt, place_most m f.1)) (f.0 (place k n) lt))

  -- and at one corner
  same_corner : (s a b i j : ℕ) → IsAtCorner k spans c s a i → (PassesCorner k spans c s a i → ⊥) → IsAtCorner k spans c s b j → (PassesCorner k spans c s b j → ⊥) → (a ≡ b) × (i ≡ j)
  same_corner s a b i j f wrong g other =
      let rows : a ≡ b = neither_less a b (λ lt. wrong (g.row.rows a lt f.row.tested i f.in_range)) (λ lt. other (f.row.rows b lt g.row.tested j g.in_range)) in
      (rows, neither_less i j (λ lt. wrong (subst (λ n. PassesCorner k spans c s n i) (sym rows) (g.corners i lt))) (λ lt. other (subst (λ n. PassesCorner k spans c s n j) rows (f.corners j lt))))

  no_goal : {T : Type 0} (s t : ℕ) → s ≡ t → is_goal k.model s ≡ true → is_goal k.model t ≡ false → T
  no_goal s t e is not = let wrong : true ≡ false = cc (e, is, not) in absurd (cc wrong)

  no_rank : {T : Type 0} (s t : ℕ) → s ≡ t → lacks_rank c.ranking s ≡ true → lacks_rank c.ranking t ≡ false → T
  no_rank s t e is not = let wrong : true ≡ false = sym is ∙ ap (lacks_rank c.ranking) e ∙ not in absurd (cc wrong)

  no_limit : {T : Type 0} (s : ℕ) → s ≡ length k.model.states → s < length k.model.states → T
  no_limit s e lt = absurd (omega (arith, e, lt))

  same_row : (s t a b i j : ℕ) (left right more above : ℤ) → s ≡ t → IsRowMiss k spans c s a i left right → IsRowMiss k spans c t b j more above → Row s a i left right ≡ Row t b j more above
  same_row s t a b i j left right more above e f g =
      let here : IsRowMiss k spans c s b j more above = rw e g in
      let at = same_corner s a b i j f.at (met_refused k spans c s a i left right f) here.at (met_refused k spans c s b j more above here) in
      let same : IsRowMiss k spans c s a i more above = rw (at.0, at.1) here in
      cc (e, at.0, at.1, f.left_is, f.right_is, same.left_is, same.right_is)

  same_rate : (s t a b i j : ℕ) (weight : ℤ) (e : ℕ) (all less : ℤ) (d : ℕ) (most : ℤ) → s ≡ t → IsRateMiss k spans c s a i weight e all → IsRateMiss k spans c t b j less d most → Rate s a i weight e all ≡ Rate t b j less d most
  same_rate s t a b i j weight e all less d most is f g =
      let here : IsRateMiss k spans c s b j less d most = rw is g in
      let at = same_corner s a b i j f.at (rate_refused k spans c s a i weight e all f) here.at (rate_refused k spans c s b j less d most here) in
      let same : IsRateMiss k spans c s a i less d most = rw (at.0, at.1) here in
      let told = slow_same k spans c.ranking s a i weight e all less d most f.slow same.slow in
      cc (is, at.0, at.1, told)

  -- at one corner the mean doesn't both fail and pass
  not_both : {T : Type 0} (s t a b i j : ℕ) (left right weight : ℤ) (e : ℕ) (all : ℤ) → s ≡ t → IsRowMiss k spans c s a i left right → IsRateMiss k spans c t b j weight e all → T
  not_both s t a b i j left right weight e all is f g =
      let here : IsRateMiss k spans c s b j weight e all = rw is g in
      let at = same_corner s a b i j f.at (met_refused k spans c s a i left right f) here.at (rate_refused k spans c s b j weight e all here) in
      let same : IsRateMiss k spans c s a i weight e all = rw (at.0, at.1) here in
      absurd (f.wrong same.met)

  same_miss : (m n : Miss) → place k m ≡ place k n → IsMiss k spans c m → IsMiss k spans c n → m ≡ n
  same_miss (Goal s value) (Goal t other) e f g = cc (e, f.value_is, g.value_is)
  same_miss (Goal s value) (Unranked t other) e f g = no_goal s t e f.goal g.inner
  same_miss (Goal s value) (Row t b j left right) e f g = no_goal s t e f.goal g.at.row.inner
  same_miss (Goal s value) (Rate t b j weight d all) e f g = no_goal s t e f.goal g.at.row.inner
  same_miss (Goal s value) (Limit left right) e f g = no_limit s e f.state
  same_miss (Unranked s value) (Goal t other) e f g = no_goal t s (sym e) g.goal f.inner
  same_miss (Unranked s value) (Unranked t other) e f g = cc (e, f.value_is, g.value_is)
  same_miss (Unranked s value) (Row t b j left right) e f g = no_rank s t e f.unranked g.at.row.ranked
  same_miss (Unranked s value) (Rate t b j weight d all) e f g = no_rank s t e f.unranked g.at.row.ranked
  same_miss (Unranked s value) (Limit left right) e f g = no_limit s e f.state
  same_miss (Row s a i left right) (Goal t other) e f g = no_goal t s (sym e) g.goal f.at.row.inner
  same_miss (Row s a i left right) (Unranked t other) e f g = no_rank t s (sym e) g.unranked f.at.row.ranked
  same_miss (Row s a i left right) (Row t b j more above) e f g = same_row s t a b i j left right more above e f g
  same_miss (Row s a i left right) (Rate t b j weight d all) e f g = not_both s t a b i j left right weight d all e f g
  same_miss (Row s a i left right) (Limit more above) e f g = no_limit s e f.at.row.state
  same_miss (Rate s a i weight d all) (Goal t other) e f g = no_goal t s (sym e) g.goal f.at.row.inner
  same_miss (Rate s a i weight d all) (Unranked t other) e f g = no_rank t s (sym e) g.unranked f.at.row.ranked
  same_miss (Rate s a i weight d all) (Row t b j left right) e f g = not_both t s b a j i left right weight d all (sym e) g f
  same_miss (Rate s a i weight d all) (Rate t b j less u most) e f g = same_rate s t a b i j weight d all less u most e f g
  same_miss (Rate s a i weight d all) (Limit left right) e f g = no_limit s e f.at.row.state
  same_miss (Limit left right) (Goal s value) e f g = no_limit s (sym e) g.state
  same_miss (Limit left right) (Unranked s value) e f g = no_limit s (sym e) g.state
  same_miss (Limit left right) (Row s a i more above) e f g = no_limit s (sym e) g.at.row.state
  same_miss (Limit left right) (Rate s a i weight d all) e f g = no_limit s (sym e) g.at.row.state
  same_miss (Limit left right) (Limit more above) e f g = past_same k.w _ c.limit left right more above f g

pub first_miss_is_one : FirstMissIsOne
first_miss_is_one k spans c m n f g = same_miss k spans c m n (same_place k spans c m n f g) f.1 g.1
