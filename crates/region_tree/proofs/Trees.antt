-- A case has a right tree for each bound and each range of precisions: a rectangle is accepted, rejected or open, and the tree goes on in both halves of an open one while a halving is left.
use Rattle.std.proofs.Common.{◌≡◌, ℕ, zero, suc, ◌+◌, ◌-◌, ◌^◌, ◌<◌, ◌≤◌, ◌⊎◌, inl, inr, ⊎_elim, List, ℤ, pos, ◌*ℤ◌, ◌≤ℤ◌, arith, subst, le_trans}
use Rattle.std.proofs.lemmas.Bool.{cases_lt}
use Rattle.std.proofs.lemmas.Int.{by_lt_z}
use Rattle.lift_poly.proofs.Ring.{linear, mul-comm, mul-le}
use Rattle.lift_grid.specs.Rectangle.{Spans}
use Rattle.lift_grid.specs.Tree.{Tree, RejectData, lower_half, upper_half}
use Rattle.lift_grid.specs.Tree.Tree.{split, accept, reject, unknown}
use Rattle.corner_lift.specs.Case.{CaseData, IsCase, IsInside, at, number, greatest_depth}
use Rattle.corner_lift.specs.Laws.{LowerPrecisionIsCase}
use Rattle.lift_cert.specs.Certificate.{IsWithin, IsBeyond, IsAccepting}
use Rattle.lift_cert.specs.declared.bound.Bound.{Bound}
use Rattle.lower_cert.specs.AnyRanks.{RanksFit}
use Rattle.region_tree.specs.Laws.{LeastUppersExist, GreatestLowersExist, SplitAxesExist, HalvesAreDeeper}
use Rattle.region_tree.specs.Right.{IsRight, IsRightTree, IsAccepted, IsRejected, IsOpenAt, IsOpen, IsFirst, IsAtDepth}
use Rattle.region_tree.proofs.AnyHeight.{none_at_any_height}
use Rattle.region_tree.proofs.Ranges.{AreOpenBelow}

within_or_beyond : (bound : Bound) (w : ℕ) (n : ℤ) → IsWithin bound w n ⊎ IsBeyond bound w n
within_or_beyond bound w n = by_lt_z (pos bound.num *ℤ pos (2 ^ w)) (n *ℤ pos bound.den) (λ lt. inr lt) (λ le. inl le)

-- a number beyond the bound is above one within it
beyond_above : (bound : Bound) (w : ℕ) (m n : ℤ) → m ≤ℤ n → IsBeyond bound w m → IsWithin bound w n → ⊥
beyond_above bound w m n le beyond within =
    let scaled = mul-le (pos bound.den) m n (omega (arith, linear)) le in
    omega (arith, linear, scaled, beyond, within, mul-comm (pos bound.den) m, mul-comm (pos bound.den) n)

module _ (uppers : LeastUppersExist) (lowers : GreatestLowersExist) (axes : SplitAxesExist) (lower_case : LowerPrecisionIsCase) (fit : RanksFit) (halves : HalvesAreDeeper) (k : CaseData) (v : ℕ) (is : IsCase k) (positive : 1 ≤ v) (bound : Bound) where
  -- the rectangle is decided
  abbrev Decided : Spans → Type 0
  Decided ss = ((u : ℕ) × ((x : List ℤ) × IsAccepted k v ss bound u x)) ⊎ ((u : ℕ) × ((r : RejectData) × IsRejected k v ss bound u r))

  -- whether a precision decides before which none does
  decided_first : (ss : Spans) (u : ℕ) → IsInside k.root ss → IsFirst k v ss bound u → Decided ss ⊎ IsOpenAt k ss bound u
  decided_first ss u inside first =
      let is_at = lower_case k u is (le_trans positive first.between.0) first.between.1 in
      let upper = uppers (at k u) ss is_at inside in
      let lower = lowers (at k u) ss is_at inside in
      let x = upper.0 in
      let r = lower.0 in
      ⊎_elim
      (λ (within : IsWithin bound u (number x k.model.init)).
      let yes : Decided ss ⊎ IsOpenAt k ss bound u = inl (inl (u, (x, record { first = first; accepting = record { upper = upper.1.upper; limit = within }; least = upper.1 }))) in yes)
      (λ (past : IsBeyond bound u (number x k.model.init)).
      let none = λ (y : List ℤ) (h : IsAccepting (at k u) ss bound y). beyond_above bound u (number x k.model.init) (number y k.model.init) (upper.1.least y h.upper k.model.init) past h.limit in
      ⊎_elim
      (λ (within : IsWithin bound u (number r.numbers k.model.init)).
      let open_one : Decided ss ⊎ IsOpenAt k ss bound u = inr (record {
        accepts = none;
        rejects = none_at_any_height fit (at k u) ss bound is_at (λ q h. beyond_above bound u (number q.numbers k.model.init) (number r.numbers k.model.init) (lower.1.greatest q h.holds k.model.init) h.limit within);
      }) in open_one)
      (λ (beyond : IsBeyond bound u (number r.numbers k.model.init)).
      let no : Decided ss ⊎ IsOpenAt k ss bound u = inl (inr (u, (r, record { first = first; none = none; rejecting = record { holds = lower.1.holds; limit = beyond }; greatest = lower.1 }))) in no)
      (within_or_beyond bound u (number r.numbers k.model.init)))
      (within_or_beyond bound u (number x k.model.init))

  -- one of the first precisions of the range, so many, decides, or none of them does
  decided_among : (ss : Spans) → IsInside k.root ss → (n : ℕ) → v + n ≤ suc k.w → Decided ss ⊎ AreOpenBelow k v ss bound (v + n)
  decided_among ss inside zero le = inr (λ t from lt. absurd (omega (arith, from, lt)))
  decided_among ss inside (suc n) le =
      ⊎_elim
      (λ (found : Decided ss). let yes : Decided ss ⊎ AreOpenBelow k v ss bound (v + suc n) = inl found in yes)
      (λ (below : AreOpenBelow k v ss bound (v + n)).
      ⊎_elim
      (λ (found : Decided ss). let yes : Decided ss ⊎ AreOpenBelow k v ss bound (v + suc n) = inl found in yes)
      (λ (here : IsOpenAt k ss bound (v + n)).
      let none : Decided ss ⊎ AreOpenBelow k v ss bound (v + suc n) = inr (λ t from lt.
      ⊎_elim
      (λ (before : t < v + n). below t from before)
      (λ (past : v + n ≤ t). let same : v + n ≡ t = omega (arith, past, lt) in subst (λ u. IsOpenAt k ss bound u) same here)
      (cases_lt t (v + n))) in none)
      (decided_first ss (v + n) inside (record { between = (omega arith, omega (arith, le)); before = below })))
      (decided_among ss inside n (omega (arith, le)))

  -- what is decided of a rectangle
  outcome : (ss : Spans) → IsInside k.root ss → Decided ss ⊎ IsOpen k v ss bound
  outcome ss inside =
      ⊎_elim
      (λ (le : v ≤ k.w).
      ⊎_elim
      (λ (found : Decided ss). let yes : Decided ss ⊎ IsOpen k v ss bound = inl found in yes)
      (λ (below : AreOpenBelow k v ss bound (v + (suc k.w - v))).
      let none : Decided ss ⊎ IsOpen k v ss bound = inr (λ u between. below u between.0 (omega (arith, le, between.1))) in none)
      (decided_among ss inside (suc k.w - v) (omega (arith, le))))
      (λ (empty : k.w < v).
      let none : Decided ss ⊎ IsOpen k v ss bound = inr (λ u between. absurd (omega (arith, empty, between.0, between.1))) in none)
      (⊎_elim (λ (lt : k.w < v). inr lt) (λ (le : v ≤ k.w). inl le) (cases_lt k.w v))

  abbrev Found : Spans → ℕ → Type 0
  Found ss depth = (tree : Tree) × IsRight k v ss bound depth tree

  -- by how many halvings are left: what is right of an open rectangle
  abbrev OpenHave : ℕ → Type 0
  OpenHave left = (depth : ℕ) (ss : Spans) → depth + left ≡ greatest_depth k → IsAtDepth k depth ss → IsOpen k v ss bound → Found ss depth

  tree_of : (left : ℕ) → OpenHave left → (depth : ℕ) (ss : Spans) → depth + left ≡ greatest_depth k → IsAtDepth k depth ss → Found ss depth
  tree_of left opens depth ss e at_depth =
      ⊎_elim
      (λ (found : Decided ss).
      ⊎_elim
      (λ (yes : (u : ℕ) × ((x : List ℤ) × IsAccepted k v ss bound u x)). let tree : Found ss depth = (accept yes.0 yes.1.0, yes.1.1) in tree)
      (λ (no : (u : ℕ) × ((r : RejectData) × IsRejected k v ss bound u r)). let tree : Found ss depth = (reject no.0 no.1.0, no.1.1) in tree)
      found)
      (λ (neither : IsOpen k v ss bound). opens depth ss e at_depth neither)
      (outcome ss at_depth.inside)

  open_tree : (left : ℕ) → OpenHave left
  open_tree zero depth ss e at_depth neither = (unknown, (neither, omega (arith, e)))
  open_tree (suc left) depth ss e at_depth neither =
      let more : depth < greatest_depth k = omega (arith, e) in
      let axis = axes k ss depth is at_depth.inside more in
      let deeper = halves k ss depth axis.0 is at_depth more axis.1 in
      let next : depth + 1 + left ≡ greatest_depth k = omega (arith, e) in
      let low = tree_of left (open_tree left) (depth + 1) (lower_half axis.0 ss) next deeper.0 in
      let up = tree_of left (open_tree left) (depth + 1) (upper_half axis.0 ss) next deeper.1 in
      (split axis.0 low.0 up.0, (neither, record { left = more; axis_is = axis.1 }, low.1, up.1))

  pub right_tree : IsAtDepth k 0 k.root → (tree : Tree) × IsRightTree k v bound tree
  right_tree at_root = tree_of (greatest_depth k) (open_tree (greatest_depth k)) 0 k.root (omega arith) at_root
