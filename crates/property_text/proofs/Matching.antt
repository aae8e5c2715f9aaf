-- Until in a model is reach in the model after the cut.
use Rattle.std.proofs.Common.{◌≡◌, ℕ, zero, suc, ◌+◌, Bool, true, false, ◌||◌, cond, List, [], ◌∷◌, length, map, get_or, ℤ, pos, ◌+ℤ◌, ◌*ℤ◌, refl, sym, ap, ap₂, subst, ◌∙◌, arith, inl, inr, IsTrue}
use Rattle.lift_poly.specs.Polynomial.{Valuation, monomial, denominator}
use Rattle.lift_poly.proofs.Ring.{linear, zero-mul, mul-zero}
use Rattle.lift_model.specs.declared.entry.Entry.{Entry}
use Rattle.lift_model.specs.Process.{Process, Move, power, weighted_sum}
use Rattle.lift_model.specs.Plan.{Plan, Parts, Plans, MovesFit, PartFits, PartsFit, PlanFits, Fits}
use Rattle.lift_model.specs.Plan.Plan.{stop, toss}
use Rattle.lift_model.specs.Plan.Parts.{no_parts, part}
use Rattle.lift_model.specs.Plan.Plans.{no_plans, plan}
use Rattle.lift_model.specs.Reach.{moves_reach, parts_reach, plan_reach, reach}
use Rattle.lift_model.specs.Memoryless.{memoryless_reach}
use Rattle.lift_model.specs.Model.{ModelData, is_goal, choices, moves_at, process_at}
use Rattle.property_text.specs.Until.{until, memoryless_until}
use Rattle.property_text.specs.Restricted.{is_safe, is_kept, certain, staying, restricted}
use Rattle.property_text.proofs.Cutting.{cut-at}
use Rattle.property_text.specs.Laws.{UntilIsReach, MemorylessUntilIsReach, CutKeepsChoices, ReachIsUntil}

either_way : {P : Type 0} (b : Bool) → (b ≡ true → P) → (b ≡ false → P) → P
either_way true f g = f refl
either_way false f g = g refl

no_goal : {A : Type 0} (b : Bool) → b ≡ false → IsTrue b → A
no_goal true e t = cc
no_goal false e t = cc

-- ---- plans for the same choices

-- what one step of a plan is worth depends on what follows alone
record Same (fits other : ℕ → Plan → Type 0) (rest next : ℕ → Plan → ℤ) (t : ℕ) (p : Plan) : Type 0 where
  plan_is : Plan
  fit : other t plan_is
  same : next t plan_is ≡ rest t p

module _ (fits other : ℕ → Plan → Type 0) (rest next : ℕ → Plan → ℤ) (match : (t : ℕ) (p : Plan) → fits t p → Same fits other rest next t p) where
  record SameMoves (moves : List Move) (plans : Plans) : Type 0 where
    plans_are : Plans
    fit : MovesFit other moves plans_are
    same : moves_reach next moves plans_are ≡ moves_reach rest moves plans

  moves_match : (moves : List Move) (plans : Plans) → MovesFit fits moves plans → SameMoves moves plans
  moves_match [] no_plans f = record { plans_are = no_plans; fit = tt; same = refl }
  moves_match (m ∷ moves) (plan p plans) f =
      let first = match m.0 p f.0 in
      let others = moves_match moves plans f.1 in
      record { plans_are = plan first.plan_is others.plans_are; fit = (first.fit, others.fit); same = ap₂ (λ a b. m.1 *ℤ a +ℤ b) first.same others.same }
  moves_match [] (plan p plans) f = absurd f
  moves_match (m ∷ moves) no_plans f = absurd f

  record SamePart (moves : List Move) (u : ℕ) (plans : Plans) : Type 0 where
    plans_are : Plans
    fit : PartFits other moves u plans_are
    same : pos u *ℤ moves_reach next moves plans_are ≡ pos u *ℤ moves_reach rest moves plans

  part_match : (moves : List Move) (u : ℕ) (plans : Plans) → PartFits fits moves u plans → SamePart moves u plans
  part_match moves zero plans f = record { plans_are = no_plans; fit = refl; same = zero-mul (moves_reach next moves no_plans) ∙ sym (zero-mul (moves_reach rest moves plans)) }
  part_match moves (suc u) plans f = let m = moves_match moves plans f in record { plans_are = m.plans_are; fit = m.fit; same = ap (λ z. pos (suc u) *ℤ z) m.same }

  record SameParts (q : ℕ) (rows : List (List Move)) (parts : Parts) : Type 0 where
    parts_are : Parts
    fit : PartsFit other q rows parts_are
    same : parts_reach next rows parts_are ≡ parts_reach rest rows parts

  parts_match : (q : ℕ) (rows : List (List Move)) (parts : Parts) → PartsFit fits q rows parts → SameParts q rows parts
  parts_match q [] no_parts f = record { parts_are = no_parts; fit = f; same = refl }
  parts_match q (moves ∷ rows) (part u plans parts) f =
      let first = part_match moves u plans f.0 in
      let others = parts_match f.1.0 rows parts f.1.2 in
      record { parts_are = part u first.plans_are others.parts_are; fit = (first.fit, (f.1.0, f.1.1, others.fit)); same = ap₂ ◌+ℤ◌ first.same others.same }
  parts_match q [] (part u plans parts) f = absurd f
  parts_match q (moves ∷ rows) no_parts f = absurd f

-- ---- plans that stay

-- a choice that stays in the state with that weight; one without moves has none
pub stay : ℤ → ℕ → List Move → List Move
stay w s [] = []
stay w s (m ∷ moves) = (s, w) ∷ []

-- the plans for a choice that stays
idle_plans : Plan → List Move → ℕ → Plans
idle_plans p moves zero = no_plans
idle_plans p [] (suc u) = no_plans
idle_plans p (m ∷ moves) (suc u) = plan p no_plans

-- the same weights, and then the plan for each choice
idle : Plan → List (List Move) → Parts → Parts
idle p (moves ∷ rows) (part u plans parts) = part u (idle_plans p moves u) (idle p rows parts)
idle p rows parts = no_parts

module _ (fits other : ℕ → Plan → Type 0) (next : ℕ → Plan → ℤ) (w : ℤ) (s : ℕ) (p : Plan) (fit : other s p) (nothing : next s p ≡ pos 0) where
  idle_part : (moves : List Move) (u : ℕ) → PartFits other (stay w s moves) u (idle_plans p moves u)
  unfolding stay idle_plans
  idle_part moves zero = refl
  idle_part [] (suc u) = tt
  idle_part (m ∷ moves) (suc u) = (fit, tt)

  idle_reach : (moves : List Move) (u : ℕ) → pos u *ℤ moves_reach next (stay w s moves) (idle_plans p moves u) ≡ pos 0
  unfolding stay idle_plans
  idle_reach moves zero = zero-mul (moves_reach next (stay w s moves) no_plans)
  idle_reach [] (suc u) = mul-zero (pos (suc u))
  idle_reach (m ∷ moves) (suc u) = rw (nothing, mul-zero w) (mul-zero (pos (suc u)))

  idle_fits : (q : ℕ) (rows : List (List Move)) (parts : Parts) → PartsFit fits q rows parts → PartsFit other q (map (stay w s) rows) (idle p rows parts)
  unfolding idle
  idle_fits q [] no_parts f = f
  idle_fits q (moves ∷ rows) (part u plans parts) f = (idle_part moves u, (f.1.0, f.1.1, idle_fits f.1.0 rows parts f.1.2))
  idle_fits q [] (part u plans parts) f = absurd f
  idle_fits q (moves ∷ rows) no_parts f = absurd f

  idle_nothing : (q : ℕ) (rows : List (List Move)) (parts : Parts) → PartsFit fits q rows parts → parts_reach next (map (stay w s) rows) (idle p rows parts) ≡ pos 0
  unfolding idle
  idle_nothing q [] no_parts f = refl
  idle_nothing q (moves ∷ rows) (part u plans parts) f = ap₂ ◌+ℤ◌ (idle_reach moves u) (idle_nothing f.1.0 rows parts f.1.2)
  idle_nothing q [] (part u plans parts) f = absurd f
  idle_nothing q (moves ∷ rows) no_parts f = absurd f

-- ---- a process and the same after a cut

-- the choices after the cut: a state that is kept has its own, and any other has choices that stay
pub record IsCut (process : Process) (safe : ℕ → Bool) (after : ℕ → List (List Move)) : Type 0 where
  pub goal : (s : ℕ) → process.goal s ≡ true → after s ≡ process.choices s
  pub safe_is : (s : ℕ) → safe s ≡ true → after s ≡ process.choices s
  pub cut : (s : ℕ) → process.goal s ≡ false → safe s ≡ false → after s ≡ map (stay process.total s) (process.choices s)

module _ (process : Process) (safe : ℕ → Bool) (after : ℕ → List (List Move)) (is : IsCut process safe after) where
  abbrev new : Process
  new = record { goal = process.goal; choices = after; total = process.total }

  abbrev Matched : ℕ → ℕ → ℕ → Plan → Type 0
  Matched q n s p = Same (Fits process q n) (Fits new q n) (until process safe q n) (reach new q n) s p

  true-false : true ≡ false → ⊥
  true-false e = cc

  -- from a state that is cut, some plan fits, and reaches nothing
  record Stays (q n s : ℕ) : Type 0 where
    plan_is : Plan
    fit : Fits new q n s plan_is
    nothing : reach new q n s plan_is ≡ pos 0

  stays : (q m n s : ℕ) (parts : Parts) → process.goal s ≡ false → safe s ≡ false → PartsFit (Fits process q m) q (process.choices s) parts → Stays q n s
  stays q m zero s parts e c f = record { plan_is = stop; fit = tt; nothing = rw e refl }
  stays q m (suc n) s parts e c f =
      let before = stays q m n s parts e c f in
      let rows = process.choices s in
      record {
        plan_is = toss (idle before.plan_is rows parts);
        fit = inr (subst (λ z. PartsFit (Fits new q n) q z (idle before.plan_is rows parts)) (sym (is.cut s e c)) (idle_fits (Fits process q m) (Fits new q n) (reach new q n) process.total s before.plan_is before.fit before.nothing q rows parts f));
        nothing = rw e (ap (λ z. parts_reach (reach new q n) z (idle before.plan_is rows parts)) (is.cut s e c) ∙ idle_nothing (Fits process q m) (Fits new q n) (reach new q n) process.total s before.plan_is before.fit before.nothing q rows parts f);
      }

  by_plan : (q n s : ℕ) (p : Plan) → ((t : ℕ) (a : Plan) → Fits process q n t a → Matched q n t a) → process.goal s ≡ false → PlanFits (Fits process q n) q (process.choices s) p → Matched q (suc n) s p
  by_plan q n s stop later e f = absurd f
  by_plan q n s (toss parts) later e f = either_way (safe s)
      (λ is_safe_here.
      let same = parts_match (Fits process q n) (Fits new q n) (until process safe q n) (reach new q n) later q (process.choices s) parts f in
      record { plan_is = toss same.parts_are; fit = inr (subst (λ z. PartsFit (Fits new q n) q z same.parts_are) (sym (is.safe_is s is_safe_here)) same.fit); same = rw (e, is_safe_here) (ap (λ z. parts_reach (reach new q n) z same.parts_are) (is.safe_is s is_safe_here) ∙ same.same) })
      (λ is_cut_here.
      let there = stays q n (suc n) s parts e is_cut_here f in
      record { plan_is = there.plan_is; fit = there.fit; same = there.nothing ∙ cut_until e is_cut_here })
    where
      cut_until : process.goal s ≡ false → safe s ≡ false → pos 0 ≡ until process safe q (suc n) s (toss parts)
      cut_until e is_cut_here = rw (e, is_cut_here) refl

  matched : (q n s : ℕ) (p : Plan) → Fits process q n s p → Matched q n s p
  matched q zero s p f = record { plan_is = p; fit = tt; same = refl }
  matched q (suc n) s p (inl t) = record { plan_is = p; fit = inl t; same = goal_same _ _ _ (process.goal s) t }
    where
      goal_same : (a b c : ℤ) (g : Bool) → IsTrue g → cond g a b ≡ cond g a c
      goal_same a b c true t = refl
      goal_same a b c false t = no_goal false refl t
  matched q (suc n) s p (inr f) = either_way (process.goal s)
      (λ e. record { plan_is = p; fit = inl e; same = rw e refl })
      (λ e. by_plan q n s p (λ t a fits. matched q n t a fits) e f)

  -- ---- memoryless schedulers

  weighted_same : (f g : ℕ → ℤ) (row : List Move) → ((t : ℕ) → f t ≡ g t) → weighted_sum f row ≡ weighted_sum g row
  weighted_same f g [] same = refl
  weighted_same f g (m ∷ row) same = ap₂ (λ a b. m.1 *ℤ a +ℤ b) (same m.0) (weighted_same f g row same)

  stay_sum : (f : ℕ → ℤ) (w : ℤ) (s : ℕ) (rows : List (List Move)) (a : ℕ) → f s ≡ pos 0 → weighted_sum f (get_or (map (stay w s) rows) a []) ≡ pos 0
  unfolding stay
  stay_sum f w s [] a e = refl
  stay_sum f w s ([] ∷ rows) zero e = refl
  stay_sum f w s ((m ∷ moves) ∷ rows) zero e = rw (e, mul-zero w) refl
  stay_sum f w s (row ∷ rows) (suc a) e = stay_sum f w s rows a e

  memoryless_same : (choice : ℕ → ℕ) (n s : ℕ) → memoryless_reach new choice n s ≡ memoryless_until process safe choice n s
  memoryless_same choice zero s = refl
  memoryless_same choice (suc n) s = either_way (process.goal s)
      (λ e. rw e refl)
      (λ e. either_way (safe s)
      (λ is_safe_here. rw (e, is_safe_here) (ap (λ z. weighted_sum (memoryless_reach new choice n) (get_or z (choice s) [])) (is.safe_is s is_safe_here) ∙ weighted_same (memoryless_reach new choice n) (memoryless_until process safe choice n) (get_or (process.choices s) (choice s) []) (λ t. memoryless_same choice n t)))
      (λ is_cut_here. rw (e, is_cut_here) (ap (λ z. weighted_sum (memoryless_reach new choice n) (get_or z (choice s) [])) (is.cut s e is_cut_here) ∙ stay_sum (memoryless_reach new choice n) process.total s (process.choices s) (choice s) (memoryless_same choice n s ∙ cut_nothing n e is_cut_here))))
    where
      cut_nothing : (n : ℕ) → process.goal s ≡ false → safe s ≡ false → memoryless_until process safe choice n s ≡ pos 0
      cut_nothing zero e is_cut_here = rw e refl
      cut_nothing (suc n) e is_cut_here = rw (e, is_cut_here) refl

-- ---- where every state is safe

module _ (process : Process) (q : ℕ) where
  abbrev all_safe : ℕ → Bool
  all_safe t = true

  module _ (f g : ℕ → Plan → ℤ) (same : (t : ℕ) (p : Plan) → f t p ≡ g t p) where
    moves_same : (moves : List Move) (plans : Plans) → moves_reach f moves plans ≡ moves_reach g moves plans
    moves_same [] plans = refl
    moves_same (m ∷ moves) no_plans = refl
    moves_same (m ∷ moves) (plan p plans) = ap₂ (λ a b. m.1 *ℤ a +ℤ b) (same m.0 p) (moves_same moves plans)

    parts_same : (rows : List (List Move)) (parts : Parts) → parts_reach f rows parts ≡ parts_reach g rows parts
    parts_same [] parts = refl
    parts_same (moves ∷ rows) no_parts = refl
    parts_same (moves ∷ rows) (part u plans parts) = ap₂ (λ a b. pos u *ℤ a +ℤ b) (moves_same moves plans) (parts_same rows parts)

    plan_same : (rows : List (List Move)) (p : Plan) → plan_reach f rows p ≡ plan_reach g rows p
    plan_same rows stop = refl
    plan_same rows (toss parts) = parts_same rows parts

  safe_same : (n s : ℕ) (p : Plan) → until process all_safe q n s p ≡ reach process q n s p
  safe_same zero s p = refl
  safe_same (suc n) s p = ap (λ z. cond (process.goal s) (power (pos q *ℤ process.total) (suc n)) z) (plan_same (until process all_safe q n) (reach process q n) (λ t a. safe_same n t a) (process.choices s) p)

pub reach_is_until : ReachIsUntil
reach_is_until process q n s p = safe_same process q n s p

-- ---- models

module _ (v : Valuation) (common : ℤ) (kept : ℕ → Bool) where
  -- what a state's choices are after the cut, at the valuation
  at_valuation : (s : ℕ) (rows : List (List Entry)) → List (List Move)
  at_valuation s rows = map (moves_at v) (cond (kept s) rows (map (staying (certain common) s) rows))

  monomial-none : (w : Valuation) → monomial w 0 ≡ denominator w
  monomial-none [] = refl
  monomial-none (x ∷ w) = ap (λ z. x.1 *ℤ z) (monomial-none w)

  staying-moves : (s : ℕ) (row : List Entry) → moves_at v (staying (certain common) s row) ≡ stay (common *ℤ denominator v) s (moves_at v row)
  unfolding stay
  staying-moves s [] = refl
  staying-moves s (entry ∷ row) = ap (λ z. (s, z) ∷ []) (omega (arith, linear, ap (λ z. common *ℤ z) (monomial-none v)))

  staying-rows : (s : ℕ) (rows : List (List Entry)) → map (moves_at v) (map (staying (certain common) s) rows) ≡ map (stay (common *ℤ denominator v) s) (map (moves_at v) rows)
  staying-rows s [] = refl
  staying-rows s (row ∷ rows) = ap₂ ◌∷◌ (staying-moves s row) (staying-rows s rows)

module _ (m : ModelData) (safe : List Bool) (v : Valuation) where
  abbrev kept : ℕ → Bool
  kept s = is_kept m safe s

  after_is : (s : ℕ) → choices (restricted m safe) s ≡ cond (kept s) (choices m s) (map (staying (certain m.common) s) (choices m s))
  after_is s = subst (λ i. choices (restricted m safe) s ≡ cond (kept i) (choices m s) (map (staying (certain m.common) i) (choices m s))) (let e : 0 + s ≡ s = omega arith in e) (cut-at (certain m.common) (is_kept m safe) 0 s m.states)

  after_kept : (s : ℕ) → kept s ≡ true → map (moves_at v) (choices (restricted m safe) s) ≡ map (moves_at v) (choices m s)
  after_kept s e = ap (map (moves_at v)) (after_is s ∙ ap (λ b. cond b (choices m s) (map (staying (certain m.common) s) (choices m s))) e)

  or-right : (a b : Bool) → b ≡ true → (a || b) ≡ true
  or-right true b e = refl
  or-right false b e = e

  pub model_is_cut : IsCut (process_at m v) (is_safe safe) (λ s. map (moves_at v) (choices (restricted m safe) s))
  model_is_cut = record {
    goal = λ s e. after_kept s (ap (λ b. b || is_safe safe s) e);
    safe_is = λ s e. after_kept s (or-right (is_goal m s) (is_safe safe s) e);
    cut = λ s e c. ap (map (moves_at v)) (after_is s ∙ ap (λ b. cond b (choices m s) (map (staying (certain m.common) s) (choices m s))) (ap₂ ◌||◌ e c)) ∙ staying-rows v m.common kept s (choices m s);
  }

pub until_is_reach : UntilIsReach
until_is_reach m safe v q n s p f =
    let found = matched (process_at m v) (is_safe safe) (λ t. map (moves_at v) (choices (restricted m safe) t)) (model_is_cut m safe v) q n s p f in
    (found.plan_is, record { fits = found.fit; same = found.same })

pub memoryless_until_is_reach : MemorylessUntilIsReach
memoryless_until_is_reach m safe v choice n s = memoryless_same (process_at m v) (is_safe safe) (λ t. map (moves_at v) (choices (restricted m safe) t)) (model_is_cut m safe v) choice n s

-- a list keeps its length
map-length : {A B : Type 0} (f : A → B) (xs : List A) → length (map f xs) ≡ length xs
map-length f [] = refl
map-length f (x ∷ xs) = ap suc (map-length f xs)

pub cut_keeps_choices : CutKeepsChoices
cut_keeps_choices m safe s = ap (length {A = List Entry}) (after_is m safe [] s) ∙ either (kept m safe [] s) (choices m s)
  where
    either : (b : Bool) (rows : List (List Entry)) → length (cond b rows (map (staying (certain m.common) s) rows)) ≡ length rows
    either true rows = refl
    either false rows = map-length (staying (certain m.common) s) rows
