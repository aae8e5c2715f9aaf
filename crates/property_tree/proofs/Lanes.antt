-- Pools of one lane, and what is left of their shape.
use Rattle.std.proofs.Common.{◌≡◌, ℕ, suc, ◌<◌, List, [], ◌∷◌, length, map, get_or, set, refl, ap, ◌∙◌, sym, arith}
use Rattle.lift_pool.specs.Lanes.{PoolData, pool_written}
use Rattle.lift_pool.specs.Laws.{WritesOneLane}
use Rattle.lift_model.specs.Model.{ModelData}
use Rattle.region_tree.specs.Decided.{lane}
use Rattle.region_tree.specs.Rooms.{HasLane, HasPools, IsSameShape, KeepsPools}
use Rattle.region_tree.specs.declared.pools.Pools.{Pools}

module _ {T : Type 0} where
  pub one_of : (lanes : List (List T)) (n : ℕ) → map length lanes ≡ n ∷ [] → (0 < length lanes) × (length (get_or lanes 0 []) ≡ n)
  one_of [] n e = absurd (let size : 0 ≡ 1 = ap length e in omega arith)
  one_of (a ∷ []) n e = (omega arith, ap (λ l. get_or l 0 0) e)
  one_of (a ∷ b ∷ lanes) n e = absurd (let size : suc (suc (length (map length lanes))) ≡ 1 = ap length e in omega (arith, size))

  set_one : (lanes : List (List T)) (n : ℕ) (w : List T) → map length lanes ≡ n ∷ [] → set lanes 0 w ≡ w ∷ []
  set_one [] n w e = absurd (let size : 0 ≡ 1 = ap length e in omega arith)
  set_one (a ∷ []) n w e = refl
  set_one (a ∷ b ∷ lanes) n w e = absurd (let size : suc (suc (length (map length lanes))) ≡ 1 = ap length e in omega (arith, size))

  -- a pool's one lane, written over
  written_one : WritesOneLane T → (p : PoolData T) (n : ℕ) (w : List T) → HasLane p n → length w ≡ n → pool_written p 0 w ≡ record p { lanes = w ∷ [] }
  written_one writes p n w has size =
      let one = one_of p.lanes n has in
      writes p 0 w one.0 (size ∙ sym one.1)
      ∙ ap (λ (lanes : List (List T)). let q : PoolData T = record p { lanes = lanes } in q) (set_one p.lanes n w has)

  -- what a lent lane of a pool of one ends with has the lane's length
  length_is : (p : PoolData T) (n : ℕ) (old new : List T) → HasLane p n → old ≡ get_or p.lanes 0 [] → length new ≡ length old → length new ≡ n
  length_is p n old new has same size = size ∙ ap length same ∙ (one_of p.lanes n has).1

  -- the one lane of a pool that was lent, and ends with as many words: they are what it then has
  pub lane_is : WritesOneLane T → (p : PoolData T) (n : ℕ) (old new : List T) → HasLane p n → old ≡ get_or p.lanes 0 [] → length new ≡ length old → lane (pool_written p 0 new) ≡ new
  lane_is writes p n old new has same size = ap (λ q. lane q) (written_one writes p n new has (length_is p n old new has same size))

  -- and the pool has the shape that it had
  pub lane_kept : WritesOneLane T → (p : PoolData T) (n : ℕ) (old new : List T) → HasLane p n → old ≡ get_or p.lanes 0 [] → length new ≡ length old → IsSameShape p (pool_written p 0 new)
  lane_kept writes p n old new has same size =
      let long = length_is p n old new has same size in
      record {
        lanes = ap (λ q. map length q.lanes) (written_one writes p n new has long) ∙ ap (λ m. m ∷ []) long ∙ sym has;
        spare = refl;
        spare_lanes = refl;
      }

  -- ---- shapes

  pub same_pool : (p : PoolData T) → IsSameShape p p
  same_pool p = record { lanes = refl; spare = refl; spare_lanes = refl }

  pool_then : (p q r : PoolData T) → IsSameShape p q → IsSameShape q r → IsSameShape p r
  pool_then p q r a b = record { lanes = b.lanes ∙ a.lanes; spare = b.spare ∙ a.spare; spare_lanes = b.spare_lanes ∙ a.spare_lanes }

pub pools_then : (p q r : Pools) → KeepsPools p q → KeepsPools q r → KeepsPools p r
pools_then p q r a b = record {
  values = pool_then p.values q.values r.values a.values b.values;
  allowed = pool_then p.allowed q.allowed r.allowed a.allowed b.allowed;
  ranks = pool_then p.ranks q.ranks r.ranks a.ranks b.ranks;
  picks = pool_then p.picks q.picks r.picks a.picks b.picks;
  work = pool_then p.work q.work r.work a.work b.work;
}

-- lanes of a model that keep their shape are lanes of that model
pub pools_kept : (m : ModelData) (p q : Pools) → KeepsPools p q → HasPools m p → HasPools m q
pools_kept m p q h g = record {
  values = h.values.lanes ∙ g.values;
  allowed = h.allowed.lanes ∙ g.allowed;
  ranks = h.ranks.lanes ∙ g.ranks;
  picks = h.picks.lanes ∙ g.picks;
  work = h.work.lanes ∙ g.work;
}
