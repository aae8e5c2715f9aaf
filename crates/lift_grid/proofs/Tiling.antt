-- The leaves of a tree tile its rectangle.
use Rattle.std.proofs.Common.{◌≡◌, ℕ, zero, suc, ◌+◌, ◌-◌, ◌<◌, ◌≤◌, Bool, true, false, List, [], ◌∷◌, ◌++◌, length, map, get_or, ℤ, ◌≤ℤ◌, refl, sym, ◌∙◌, subst, arith, inl, inr, nat_lt, ltb-true, ltb-false, length-append}
use Rattle.std.specs.Prelude.{All, Any, ◌⊎◌}
use Rattle.std.specs.List.{AllPairs}
use Rattle.std.proofs.lemmas.List.{get_or_append_left, get_or-append-add, map-append}
use Rattle.std.proofs.Math.Seq.{get_or-append_right}
use Rattle.std.proofs.lemmas.List.Elements.{All-append}
use Rattle.lift_poly.proofs.Ring.{linear}
use Rattle.lift_poly.specs.Polynomial.{Valuation}
use Rattle.lift_grid.specs.Rectangle.{Spans, Inside, AreSpans}
use Rattle.lift_grid.specs.Tree.{Tree, Tiles, Apart, HalvesSpans, leaves, lower_half, upper_half}
use Rattle.lift_grid.specs.Tree.Tree.{split, accept, reject, unknown}
use Rattle.lift_grid.proofs.Halves.{middle_within, tiled}

-- ---- lists
module _ {X : Type 0} where
  only : (P : X → Type 0) (a : X) → P a → All P (a ∷ [])
  only P a p zero d h = p
  only P a p (suc i) d h = absurd (omega arith)

  one_pair : (R : X → X → Type 0) (a : X) → AllPairs R (a ∷ [])
  one_pair R a i j d h k = absurd (omega arith)

  in_place : (xs ys : List X) (i : ℕ) {P : Type 0} → (i < length xs → P) → (length xs ≤ i → P) → P
  in_place xs ys i f g = cases (nat_lt i (length xs)) (λ e. f (ltb-true i (length xs) e)) (λ e. g (ltb-false i (length xs) e))
    where
      cases : {P : Type 0} (b : Bool) → (b ≡ true → P) → (b ≡ false → P) → P
      cases true f g = f refl
      cases false f g = g refl

  pairs-append : (R : X → X → Type 0) (xs ys : List X) → AllPairs R xs → AllPairs R ys → All (λ x. All (R x) ys) xs → AllPairs R (xs ++ ys)
  pairs-append R xs ys h g across i j d lt below =
      let size = length-append xs ys in
      in_place xs ys j
      (λ left. rw (get_or_append_left xs ys d i (omega (arith, lt, left)), get_or_append_left xs ys d j left) (h i j d lt left))
      (λ right. in_place xs ys i
      (λ left. rw (get_or_append_left xs ys d i left, get_or-append_right xs ys j d right) (across i d left (j - length xs) d (omega (arith, size, below, right))))
      (λ past. rw (get_or-append_right xs ys i d past, get_or-append_right xs ys j d right) (g (i - length xs) (j - length xs) d (omega (arith, lt, past)) (omega (arith, size, below, right)))))

  any-left : (P : X → Type 0) (xs ys : List X) → Any P xs → Any P (xs ++ ys)
  any-left P xs ys h = (h.0, h.1, (let size = length-append xs ys in omega (arith, size, h.2)), get_or_append_left xs ys h.1 h.0 h.2 ∙ h.3, h.4)

  any-right : (P : X → Type 0) (xs ys : List X) → Any P ys → Any P (xs ++ ys)
  any-right P xs ys h = (length xs + h.0, h.1, (let size = length-append xs ys in omega (arith, size, h.2)), get_or-append-add xs ys h.0 h.1 ∙ h.3, h.4)

  of_two : (P : X → Type 0) (a b : X) (i : ℕ) (x : X) → i < length (a ∷ b ∷ []) → get_or (a ∷ b ∷ []) i x ≡ x → P x → P a ⊎ P b
  of_two P a b zero x lt e p = inl (subst P (sym e) p)
  of_two P a b (suc zero) x lt e p = inr (subst P (sym e) p)
  of_two P a b (suc (suc i)) x lt e p = absurd (omega arith)

-- ---- rectangles that lie in others

-- each span lies in the other rectangle's span of the same parameter
abbrev IsPartOf : Spans → Spans → Type 0
IsPartOf [] [] = Unit {0}
IsPartOf (s ∷ ss) (r ∷ rs) = (r.0 ≤ℤ s.0) × (s.1 ≤ℤ r.1) × IsPartOf ss rs
IsPartOf _ _ = ⊥

part_of_itself : (ss : Spans) → IsPartOf ss ss
part_of_itself [] = tt
part_of_itself (s ∷ ss) = (omega (arith, linear), omega (arith, linear), part_of_itself ss)

lower_is_part : (axis : ℕ) (ss root : Spans) → AreSpans ss → IsPartOf ss root → IsPartOf (lower_half axis ss) root
lower_is_part axis [] root spans h = h
lower_is_part axis (s ∷ ss) [] spans h = absurd h
lower_is_part zero (s ∷ ss) (r ∷ root) spans h = (h.0, (let m = middle_within s.0 s.1 spans.0.rising in omega (arith, linear, m.1, h.1)), h.2)
lower_is_part (suc axis) (s ∷ ss) (r ∷ root) spans h = (h.0, h.1, lower_is_part axis ss root spans.1 h.2)

upper_is_part : (axis : ℕ) (ss root : Spans) → AreSpans ss → IsPartOf ss root → IsPartOf (upper_half axis ss) root
upper_is_part axis [] root spans h = h
upper_is_part axis (s ∷ ss) [] spans h = absurd h
upper_is_part zero (s ∷ ss) (r ∷ root) spans h = ((let m = middle_within s.0 s.1 spans.0.rising in omega (arith, linear, m.0, h.0)), h.1, h.2)
upper_is_part (suc axis) (s ∷ ss) (r ∷ root) spans h = (h.0, h.1, upper_is_part axis ss root spans.1 h.2)

-- parts of rectangles that are apart are apart
apart_parts : (a b lower upper : Spans) → IsPartOf a lower → IsPartOf b upper → Apart lower upper → Apart a b
apart_parts a b [] upper h g apart = absurd apart
apart_parts a b (l ∷ lower) [] h g apart = absurd apart
apart_parts [] b (l ∷ lower) (u ∷ upper) h g apart = absurd h
apart_parts (x ∷ a) [] (l ∷ lower) (u ∷ upper) h g apart = absurd g
apart_parts (x ∷ a) (y ∷ b) (l ∷ lower) (u ∷ upper) h g apart =
    elim apart [
      | inl e ↦ inl (omega (arith, linear, e, h.1, g.0))
      | inr rest ↦ elim rest [ inl e ↦ inr (inl (omega (arith, linear, e, h.0, g.1))) | inr more ↦ inr (inr (apart_parts a b lower upper h.2 g.2 more)) ]
    ]

-- what tiles the two halves tiles the rectangle that they tile
tiles_both : (d : ℤ) (ss lower upper : Spans) (xs ys : List Spans) → Tiles d ss (lower ∷ upper ∷ []) → Tiles d lower xs → Tiles d upper ys → All (λ a. IsPartOf a lower) xs → All (λ b. IsPartOf b upper) ys → Tiles d ss (xs ++ ys)
tiles_both d ss lower upper xs ys halves below above in_lower in_upper = record {
  cover = λ v h.
      let P : Spans → Type 0 = λ rectangle. Inside d rectangle v in
      let half = halves.cover v h in
      elim (of_two P lower upper half.0 half.1 half.2 half.3 half.4) [ inl p ↦ any-left P xs ys (below.cover v p) | inr p ↦ any-right P xs ys (above.cover v p) ];
  within = All-append (λ rectangle. (v : Valuation) → Inside d rectangle v → Inside d ss v) xs ys
      (λ i e lt v h. halves.within 0 ss (omega arith) v (below.within i e lt v h))
      (λ i e lt v h. halves.within 1 ss (omega arith) v (above.within i e lt v h));
  apart = pairs-append Apart xs ys below.apart above.apart
      (λ i e lt j f lt'. apart_parts (get_or xs i e) (get_or ys j f) lower upper (in_lower i e lt) (in_upper j f lt') (halves.apart 0 1 ss (omega arith) (omega arith)));
}

tiles_itself : (d : ℤ) (ss : Spans) → Tiles d ss (ss ∷ [])
tiles_itself d ss = record {
  cover = λ v h. (0, ss, omega arith, refl, h);
  within = only (λ rectangle. (v : Valuation) → Inside d rectangle v → Inside d ss v) ss (λ v h. h);
  apart = one_pair Apart ss;
}

-- ---- the leaves of a tree

abbrev rectangles : Spans → ℕ → Tree → List Spans
rectangles ss depth t = map (λ leaf. leaf.spans) (leaves ss depth t)

rectangles-split : (ss : Spans) (depth axis : ℕ) (lower upper : Tree) → rectangles ss depth (split axis lower upper) ≡ rectangles (lower_half axis ss) (depth + 1) lower ++ rectangles (upper_half axis ss) (depth + 1) upper
rectangles-split ss depth axis lower upper = map-append (λ leaf. leaf.spans) (leaves (lower_half axis ss) (depth + 1) lower) (leaves (upper_half axis ss) (depth + 1) upper)

-- each lies in what the tree's rectangle lies in
leaves_are_parts : (t : Tree) (depth : ℕ) (ss root : Spans) → HalvesSpans ss t → IsPartOf ss root → All (λ rectangle. IsPartOf rectangle root) (rectangles ss depth t)
leaves_are_parts (accept u x) depth ss root h part = only (λ rectangle. IsPartOf rectangle root) ss part
leaves_are_parts (reject u r) depth ss root h part = only (λ rectangle. IsPartOf rectangle root) ss part
leaves_are_parts unknown depth ss root h part = only (λ rectangle. IsPartOf rectangle root) ss part
leaves_are_parts (split axis lower upper) depth ss root h part =
    let P : Spans → Type 0 = λ rectangle. IsPartOf rectangle root in
    subst (λ all. All P all) (sym (rectangles-split ss depth axis lower upper))
    (All-append P (rectangles (lower_half axis ss) (depth + 1) lower) (rectangles (upper_half axis ss) (depth + 1) upper)
    (leaves_are_parts lower (depth + 1) (lower_half axis ss) root h.2 (lower_is_part axis ss root h.0 part))
    (leaves_are_parts upper (depth + 1) (upper_half axis ss) root h.3 (upper_is_part axis ss root h.0 part)))

pub leaves_tile : (d : ℤ) (t : Tree) (depth : ℕ) (ss : Spans) → HalvesSpans ss t → Tiles d ss (rectangles ss depth t)
leaves_tile d (accept u x) depth ss h = tiles_itself d ss
leaves_tile d (reject u r) depth ss h = tiles_itself d ss
leaves_tile d unknown depth ss h = tiles_itself d ss
leaves_tile d (split axis lower upper) depth ss h =
    let low = lower_half axis ss in
    let up = upper_half axis ss in
    subst (λ all. Tiles d ss all) (sym (rectangles-split ss depth axis lower upper))
    (tiles_both d ss low up (rectangles low (depth + 1) lower) (rectangles up (depth + 1) upper)
    (tiled d axis ss h.0 h.1)
    (leaves_tile d lower (depth + 1) low h.2)
    (leaves_tile d upper (depth + 1) up h.3)
    (leaves_are_parts lower (depth + 1) low low h.2 (part_of_itself low))
    (leaves_are_parts upper (depth + 1) up up h.3 (part_of_itself up)))
