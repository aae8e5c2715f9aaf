-- Places for rectangles: lanes of one length in a pool.
use Rattle.std.proofs.Common.{◌≡◌, ℕ, zero, suc, ◌<◌, List, [], ◌∷◌, length, map, get_or, set, drop, replicate, ℤ, refl, sym, ap, ◌∙◌, arith}
use Rattle.std.proofs.Math.Seq.{map-set_same}
use Rattle.std.proofs.lemmas.List.{get_or-set_same, get_or-set_other}
use Rattle.lift_pool.specs.Lanes.{PoolData, pool_written}
use Rattle.lift_pool.specs.Laws.{WritesOneLane}
use Rattle.region_tree.specs.Recent.{IsSameShape, IsNotedAt}

pub lane_at : (lanes : List (List ℤ)) (count n i : ℕ) → map length lanes ≡ replicate count n → i < count → (i < length lanes) × (length (get_or lanes i []) ≡ n)
lane_at lanes zero n i e lt = absurd (omega (arith, lt))
lane_at [] (suc count) n i e lt = absurd (let size : 0 ≡ suc (length (replicate count n)) = ap length e in omega (arith, size))
lane_at (a ∷ lanes) (suc count) n zero e lt = (omega arith, ap (λ l. get_or l 0 0) e)
lane_at (a ∷ lanes) (suc count) n (suc i) e lt = let rest = lane_at lanes count n i (ap (λ l. drop 1 l) e) (omega (arith, lt)) in (omega (arith, rest.0), rest.1)

module _ (writes : WritesOneLane ℤ) (p : PoolData ℤ) (count n : ℕ) (has : map length p.lanes ≡ replicate count n) (place : ℕ) (there : place < count) (lane : List ℤ) (size : length lane ≡ n) where
  same_length : length lane ≡ length (get_or p.lanes place [])
  same_length = size ∙ sym (lane_at p.lanes count n place has there).1

  written : pool_written p place lane ≡ record p { lanes = set p.lanes place lane }
  written = writes p place lane (lane_at p.lanes count n place has there).0 same_length

  pub shape_written : IsSameShape p (pool_written p place lane)
  shape_written = record {
    lanes = ap (λ q. map length q.lanes) written ∙ map-set_same length p.lanes place lane [] same_length;
    spare = refl;
    spare_lanes = refl;
  }

  pub noted_written : (old : ℕ) (new : ℕ) → place < new → ((i : ℕ) → i < new → (i ≡ place → ⊥) → i < old) → IsNotedAt place lane (record { sides = p; count = old }) (record { sides = pool_written p place lane; count = new })
  noted_written old new used others = record {
    used = used;
    noted = ap (λ q. get_or q.lanes place []) written ∙ get_or-set_same p.lanes place lane [] (lane_at p.lanes count n place has there).0;
    others = λ i lt other. (others i lt other, ap (λ q. get_or q.lanes i []) written ∙ get_or-set_other p.lanes place i lane [] other);
  }
