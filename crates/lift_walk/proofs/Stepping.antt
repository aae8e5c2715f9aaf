-- Where a pool of sides stands, and what the halves of a rectangle leave.
use Rattle.std.proofs.Common.{◌≡◌, ℕ, suc, ◌+◌, ◌-◌, ◌*◌, ◌<◌, ◌≤◌, Bool, true, false, List, [], ◌∷◌, ◌++◌, length, get_or, set, ℤ, refl, sym, ap, ◌∙◌, subst, arith, length-append}
use Rattle.lift_pool.specs.Lanes.{PoolData, last_lane, pool_with, pool_written}
use Rattle.lift_pool.specs.Laws.{WritesOneLane, TakesCanBeUndone}
use Rattle.lift_grid.specs.Laws.{HalvesKeepCount, SpansAreHalvable, SpansOfSides, SidesOfSpans}
use Rattle.lift_grid.specs.Rectangle.{Spans, sides_of, spans_of}
use Rattle.lift_grid.specs.Splitting.{HasHalvings}
use Rattle.corner_lift.specs.Case.{greatest_depth}
use Rattle.corner_lift.specs.Laws.{LiveHasSpan}
use Rattle.lift_walk.specs.Laws.{RootIsAtDepth, HalvesAreDeeper, SidesBeginAtRoot, SidesGoDown}
use Rattle.lift_walk.specs.Sides.{IsAtDepth, half_of, sides_with_half}
use Rattle.lift_walk.proofs.Ends.{length-sides, root_ends}

module _ {T : Type 0} where
  pub snoc-get : (xs : List T) (x d : T) → get_or (xs ++ x ∷ []) (length xs) d ≡ x
  snoc-get [] x d = refl
  snoc-get (y ∷ xs) x d = let size : length (y ∷ xs) ≡ suc (length xs) = omega arith in ap (λ n. get_or (y ∷ (xs ++ x ∷ [])) n d) size ∙ snoc-get xs x d

  snoc-set : (xs : List T) (x y : T) → set (xs ++ x ∷ []) (length xs) y ≡ xs ++ y ∷ []
  snoc-set [] x y = refl
  snoc-set (z ∷ xs) x y = let size : length (z ∷ xs) ≡ suc (length xs) = omega arith in ap (λ n. set (z ∷ (xs ++ x ∷ [])) n y) size ∙ ap (λ l. z ∷ l) (snoc-set xs x y)

  -- the last lane of a pool that took one
  pub last-with : (p : PoolData T) (l : List T) → last_lane (pool_with p l).lanes ≡ l
  last-with p l =
      let size : length (p.lanes ++ l ∷ []) - 1 ≡ length p.lanes = (let a = length-append p.lanes (l ∷ []) in omega (arith, a)) in
      ap (λ n. get_or (p.lanes ++ l ∷ []) n []) size ∙ last_of p.lanes l
    where
      last_of : (lanes : List (List T)) (l : List T) → get_or (lanes ++ l ∷ []) (length lanes) [] ≡ l
      last_of [] l = refl
      last_of (y ∷ lanes) l = let size : length (y ∷ lanes) ≡ suc (length lanes) = omega arith in ap (λ n. get_or (y ∷ (lanes ++ l ∷ [])) n []) size ∙ last_of lanes l

  pub lanes-with : (p : PoolData T) (l : List T) → length (pool_with p l).lanes ≡ length p.lanes + 1
  lanes-with p l = length-append p.lanes (l ∷ [])

-- a lane that was taken, written over
pub half_taken : {T : Type 0} → WritesOneLane T → (p mid : PoolData T) (n : ℕ) (last w : List T) → mid ≡ pool_with p last → n ≡ length p.lanes → length w ≡ length last → pool_written mid n w ≡ pool_with p w
half_taken {T = T} writes p mid n last w e f size =
    let lt : length p.lanes < length (pool_with p last).lanes = (let a = lanes-with p last in omega (arith, a)) in
    let at_last : get_or (pool_with p last).lanes (length p.lanes) [] ≡ last = snoc-get p.lanes last [] in
    ap (λ q. pool_written q n w) e
    ∙ ap (λ i. pool_written (pool_with p last) i w) f
    ∙ writes (pool_with p last) (length p.lanes) w lt (size ∙ ap length (sym at_last))
    ∙ ap (λ (l : List (List T)). let q : PoolData T = record { lanes = l; spare = p.spare - length last; spare_lanes = p.spare_lanes - 1 } in q) (snoc-set p.lanes last w)
    ∙ ap (λ (m : ℕ). let q : PoolData T = record { lanes = p.lanes ++ w ∷ []; spare = p.spare - m; spare_lanes = p.spare_lanes - 1 } in q) (sym size)

one_left : (greatest depth n : ℕ) → depth < greatest → (greatest - depth) * n ≡ n + (greatest - (depth + 1)) * n
one_left greatest depth n lt =
    let left : greatest - depth ≡ suc (greatest - (depth + 1)) = omega arith in
    rw left (omega arith)

by_bool : (P : Bool → Type 0) (b : Bool) → P true → P false → P b
by_bool P true x y = x
by_bool P false x y = y

half-count : HalvesKeepCount → (lower : Bool) (axis : ℕ) (ss : Spans) → length (half_of lower axis ss) ≡ length ss
half-count keep lower axis ss = let both = keep axis ss in by_bool (λ b. length (half_of b axis ss) ≡ length ss) lower both.0 both.1

half-length : HalvesKeepCount → (lower : Bool) (axis : ℕ) (old : List ℤ) → sides_of (spans_of old) ≡ old → length (sides_of (half_of lower axis (spans_of old))) ≡ length old
half-length keep lower axis old paired =
    length-sides (half_of lower axis (spans_of old)) ∙ ap (λ n. 2 * n) (half-count keep lower axis (spans_of old)) ∙ sym (length-sides (spans_of old)) ∙ ap length paired

pub at_root : RootIsAtDepth → SpansOfSides → SidesOfSpans → SidesBeginAtRoot
at_root root spans sides k pool is made = record {
  some = omega arith;
  sides = sides k.root is.asked.spans;
  at_depth = rw (spans k.root) (root k is);
  words = (let ends = root_ends k is in let same : greatest_depth k - 0 ≡ greatest_depth k = omega arith in rw (same, ends) made.words);
  depths = omega (arith, made.depths);
}

pub go_down : HalvesAreDeeper → HalvesKeepCount → SpansAreHalvable → LiveHasSpan → SpansOfSides → SidesOfSpans → TakesCanBeUndone ℤ → SidesGoDown
go_down deeper keep halvable live_spans spans sides undone k pool depth axis lower is at more axis_is =
    let old = last_lane pool.lanes in
    let ss = spans_of old in
    let half = half_of lower axis ss in
    let n = greatest_depth k - (depth + 1) in
    let one : greatest_depth k - depth ≡ n + 1 = omega (arith, more) in
    let left : HasHalvings (n + 1) ss = subst (λ m. HasHalvings m ss) one at.at_depth.left in
    let below : axis < length ss = live_spans k ss axis is at.at_depth.inside axis_is.is_live in
    let next = deeper k ss depth axis is at.at_depth more axis_is in
    let there : IsAtDepth k (depth + 1) half = by_bool (λ b. IsAtDepth k (depth + 1) (half_of b axis ss)) lower next.0 next.1 in
    let last : last_lane (sides_with_half lower axis pool).lanes ≡ sides_of half = last-with pool (sides_of half) in
    let size = half-length keep lower axis old at.sides.paired in
    let all = one_left (greatest_depth k) depth (length old) more in
    let words : length old ≤ pool.spare = omega (arith, all, at.words) in
    let lanes : 1 ≤ pool.spare_lanes = omega (arith, at.depths, more) in
    record {
      can = record { some = at.some; sides = at.sides; halvable = halvable n axis ss left below; words = words; lanes = lanes };
      placed = record {
        some = (let a = lanes-with pool (sides_of half) in omega (arith, a));
        sides = rw last (sides half there.inside.rectangle);
        at_depth = rw (last, spans half) there;
        words = rw (last, size) (omega (arith, all, at.words));
        depths = omega (arith, at.depths, more);
      };
      half = rw last (spans half);
      back = undone pool (sides_of half) (omega (arith, size, words)) lanes;
    }
