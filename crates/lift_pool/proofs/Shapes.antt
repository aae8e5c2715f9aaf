-- Lanes of one length, and how long a lane is.
use Rattle.std.proofs.Common.{◌≡◌, ℕ, zero, suc, ◌<◌, List, [], ◌∷◌, length, map, get_or, set, drop, replicate, refl, sym, ap, ◌∙◌, arith}
use Rattle.std.proofs.Math.Seq.{map-set_same}
use Rattle.lift_pool.specs.Lanes.{PoolData}
use Rattle.lift_pool.specs.Laws.{LanesHaveLengths, SameShapesHaveLengths, WritesKeepShape, OneLaneIsAll}

module _ {T : Type 0} where
  lane_at : (lanes : List (List T)) (count n i : ℕ) → map length lanes ≡ replicate count n → i < count → (i < length lanes) × (length (get_or lanes i []) ≡ n)
  lane_at lanes zero n i e lt = absurd (omega (arith, lt))
  lane_at [] (suc count) n i e lt = absurd (let size : 0 ≡ suc (length (replicate count n)) = ap length e in omega (arith, size))
  lane_at (a ∷ lanes) (suc count) n zero e lt = (omega arith, ap (λ l. get_or l 0 0) e)
  lane_at (a ∷ lanes) (suc count) n (suc i) e lt = let rest = lane_at lanes count n i (ap (λ l. drop 1 l) e) (omega (arith, lt)) in (omega (arith, rest.0), rest.1)

  lane_length : (lanes : List (List T)) (i : ℕ) → length (get_or lanes i []) ≡ get_or (map length lanes) i 0
  lane_length [] i = refl
  lane_length (a ∷ lanes) zero = refl
  lane_length (a ∷ lanes) (suc i) = lane_length lanes i

  set_one : (lanes : List (List T)) (n : ℕ) (w : List T) → map length lanes ≡ n ∷ [] → set lanes 0 w ≡ w ∷ []
  set_one [] n w e = absurd (let size : 0 ≡ 1 = ap length e in omega arith)
  set_one (a ∷ []) n w e = refl
  set_one (a ∷ b ∷ lanes) n w e = absurd (let size : suc (suc (length (map length lanes))) ≡ 1 = ap length e in omega (arith, size))

pub lanes_have_lengths : (T : Type 0) → LanesHaveLengths T
lanes_have_lengths T p count n i has lt = lane_at p.lanes count n i has lt

pub same_shapes_have_lengths : (T : Type 0) → SameShapesHaveLengths T
same_shapes_have_lengths T p q i same = lane_length q.lanes i ∙ ap (λ l. get_or l i 0) same.lanes ∙ sym (lane_length p.lanes i)

pub writes_keep_shape : (T : Type 0) → WritesKeepShape T
writes_keep_shape T p i lane size = record { lanes = map-set_same length p.lanes i lane [] size; spare = refl; spare_lanes = refl }

pub one_lane_is_all : (T : Type 0) → OneLaneIsAll T
one_lane_is_all T p n lane has = set_one p.lanes n lane has
