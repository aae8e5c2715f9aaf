-- The lanes of a room: what their shape says of them, and that decisions keep it.
use Rattle.std.proofs.Common.{◌≡◌, ℕ, zero, suc, ◌+◌, List, [], ◌∷◌, ℤ, length, map, replicate, refl, sym, ap, ◌∙◌, arith}
use Rattle.std.proofs.lemmas.List.{length-replicate}
use Rattle.lift_pool.specs.Lanes.{PoolData}
use Rattle.lift_pool.specs.Shapes.{HasLanes, IsSameShape}
use Rattle.lift_pool.specs.Laws.{LanesHaveLengths, SameShapesHaveLengths}
use Rattle.lift_model.specs.Model.{ModelData}
use Rattle.lift_model.specs.Links.{LinksData}
use Rattle.corner_lift.specs.Case.{CaseData}
use Rattle.lift_bounded.specs.Lanes.{HasVectors, HasChoices}
use Rattle.lift_bounded.specs.Rooms.{StepLanesData, AreReadyFor, HasStepLanes, KeepsShape}
use Rattle.lift_bounded.proofs.Filling.{shape_then}

map_count : {A B : Type 0} (f : A → B) (xs : List A) → length (map f xs) ≡ length xs
map_count f [] = refl
map_count f (x ∷ xs) = omega (arith, map_count f xs)

module _ {T : Type 0} where
  shape_count : (p q : PoolData T) → IsSameShape p q → length q.lanes ≡ length p.lanes
  shape_count p q same = sym (map_count (λ (l : List T). length l) q.lanes) ∙ ap length same.lanes ∙ map_count (λ (l : List T). length l) p.lanes

  lanes_count : (p : PoolData T) (count n : ℕ) → HasLanes p count n → length p.lanes ≡ count
  lanes_count p count n has = sym (map_count (λ (l : List T). length l) p.lanes) ∙ ap length has ∙ length-replicate count n

map_replicate : {T : Type 0} (count n : ℕ) (fill : T) → map (λ (l : List T). length l) (replicate count (replicate n fill)) ≡ replicate count n
map_replicate zero n fill = refl
map_replicate (suc count) n fill = let size = length-replicate n fill in let rest = map_replicate count n fill in rw (size, rest) refl

pub filled_lanes : {T : Type 0} (p : PoolData T) (count n : ℕ) (fill : T) → p.lanes ≡ replicate count (replicate n fill) → HasLanes p count n
filled_lanes p count n fill e = ap (λ lanes. map (λ l. length l) lanes) e ∙ map_replicate count n fill

pub vectors_kept : SameShapesHaveLengths ℤ → (k : CaseData) (h : ℕ) (p q : PoolData ℤ) → IsSameShape p q → HasVectors k h p.lanes → HasVectors k h q.lanes
vectors_kept lengths k h p q same has = record { count = shape_count p q same ∙ has.count; sizes = λ n le. lengths p q n same ∙ has.sizes n le }

pub choices_kept : SameShapesHaveLengths ℕ → (k : CaseData) (h : ℕ) (p q : PoolData ℕ) → IsSameShape p q → HasChoices k h p.lanes → HasChoices k h q.lanes
choices_kept lengths k h p q same has = record { count = shape_count p q same ∙ has.count; sizes = λ n lt. lengths p q n same ∙ has.sizes n lt }

pub vectors_of : LanesHaveLengths ℤ → (k : CaseData) (h : ℕ) (p : PoolData ℤ) → HasLanes p (h + 1) (length k.model.states) → HasVectors k h p.lanes
vectors_of lengths k h p has = record { count = lanes_count p (h + 1) (length k.model.states) has; sizes = λ n le. (lengths p (h + 1) (length k.model.states) n has (omega (arith, le))).1 }

pub choices_of : LanesHaveLengths ℕ → (k : CaseData) (h : ℕ) (p : PoolData ℕ) → HasLanes p h (length k.model.states) → HasChoices k h p.lanes
choices_of lengths k h p has = record { count = lanes_count p h (length k.model.states) has; sizes = λ n lt. (lengths p h (length k.model.states) n has lt).1 }

-- ---- lanes as made

pub shape_after : (a b c : StepLanesData) → KeepsShape a b → KeepsShape b c → KeepsShape a c
shape_after a b c h g = record {
  weights = g.weights ∙ h.weights;
  numbers = shape_then a.numbers b.numbers c.numbers h.numbers g.numbers;
  picks = shape_then a.picks b.picks c.picks h.picks g.picks;
  work = g.work ∙ h.work;
  marks = g.marks ∙ h.marks;
}

pub lanes_kept : (m : ModelData) (l : LinksData) (steps : ℕ) (a b : StepLanesData) → KeepsShape a b → HasStepLanes m l steps a → HasStepLanes m l steps b
lanes_kept m l steps a b h g = record {
  weights = h.weights ∙ g.weights;
  numbers = h.numbers.lanes ∙ g.numbers;
  picks = h.picks.lanes ∙ g.picks;
  work = h.work ∙ g.work;
  marks = h.marks ∙ g.marks;
}

-- a decision that keeps the shape of the lanes leaves them ready
pub still_ready : (k : CaseData) (l : LinksData) (steps : ℕ) (made a b : StepLanesData) → KeepsShape a b → AreReadyFor k l steps made a → AreReadyFor k l steps made b
still_ready k l steps made a b h ready = (ready.0, lanes_kept k.model l steps a b h ready.1, shape_after made a b ready.2 h)
