-- What certificates of the model after the cut say of until in the model.
use Rattle.std.proofs.Common.{◌≡◌, ℕ, ◌-◌, ◌*◌, ◌^◌, Bool, List, ℤ, pos, negsuc, ◌+ℤ◌, ◌*ℤ◌, ◌≤ℤ◌, subst, sym, ap, ◌∙◌, arith, refl}
use Rattle.lift_poly.specs.Polynomial.{Valuation}
use Rattle.lift_poly.proofs.Ring.{linear, mul-add, mul-le, as_diff, diff-add, diff-mul, diff-same}
use Rattle.lift_grid.specs.Tree.{RejectData}
use Rattle.lift_model.specs.Process.{power}
use Rattle.lift_model.specs.Reach.{reach}
use Rattle.lift_model.specs.Memoryless.{memoryless_reach, undecided}
use Rattle.lift_model.specs.Model.{ModelData, process_at}
use Rattle.corner_lift.specs.Case.{number}
use Rattle.corner_lift.specs.Laws.{NumbersAreInRange}
use Rattle.lift_cert.specs.Reached.{Follows}
use Rattle.lift_cert.specs.Bounded.{IsBoundedAt}
use Rattle.lift_cert.specs.Certificate.{IsAccepting}
use Rattle.lift_cert.specs.Laws.{is_open, AcceptingBounds, LowerBounds}
use Rattle.lift_cert.specs.declared.bound.Bound.{Bound}
use Rattle.property_text.specs.Restricted.{restricted}
use Rattle.property_text.specs.Laws.{UntilIsReach, MemorylessUntilIsReach, CutKeepsChoices}
use Rattle.lift_dual.specs.Said.{IsAtMost, IsAtLeast, IsReachedByAllAt, IsBoundedForOneAt, UntilOfAllIsAtLeast, UntilOfAllIsAtMost, UntilOfOneIsAtMost}
use Rattle.lift_dual.specs.Laws.{LowerAllReaches, UpperOneBounds, UntilIsReachedByAll, UntilIsBoundedForOne, UntilIsBoundedForAll, UntilIsReachedByOne}

-- ---- of a process

module _ (m : ModelData) (safe : List Bool) (v : Valuation) (w : ℕ) where
  all_at_least : UntilIsReach → (r : RejectData) → IsReachedByAllAt (restricted m safe) v w r → UntilOfAllIsAtLeast m safe v w r
  all_at_least until r reached q j p fits =
      let found = until m safe v q (r.k * j) m.init p fits in
      subst (λ z. IsAtLeast w (number r.numbers m.init) (r.e * r.k) j (power (pos q *ℤ (process_at m v).total) (r.k * j)) z) found.1.same (reached q j found.0 found.1.fits)

pub until_is_reached_by_all : UntilIsReach → LowerAllReaches → UntilIsReachedByAll
until_is_reached_by_all until reaches m safe k spans r same is within lower v inside =
    all_at_least m safe v k.w until r (subst (λ model. IsReachedByAllAt model v k.w r) same (reaches k spans r is within lower v inside))

-- a memoryless scheduler that makes the choices in the model makes them after the cut
module _ (kept : CutKeepsChoices) (until : MemorylessUntilIsReach) (m : ModelData) (safe : List Bool) (v : Valuation) (w : ℕ) where
  one_at_most : (x : List ℤ) (picks : List ℕ) → IsBoundedForOneAt (restricted m safe) v w x picks → UntilOfOneIsAtMost m safe v w x picks
  one_at_most x picks bounded choice n follows =
      subst (λ z. IsAtMost w (number x m.init) (power (process_at m v).total n) z) (until m safe v choice n m.init)
      (bounded choice n (λ s lt. follows s (omega (arith, lt, kept m safe s))))

pub until_is_bounded_for_one : CutKeepsChoices → MemorylessUntilIsReach → UpperOneBounds → UntilIsBoundedForOne
until_is_bounded_for_one kept until bounds m safe k spans x picks same is within upper v inside =
    one_at_most kept until m safe v k.w x picks (subst (λ model. IsBoundedForOneAt model v k.w x picks) same (bounds k spans x picks is within upper v inside))

-- ---- for the landed certificates

-- the number of a number from 0 on
part : ℤ → ℕ
part (pos n) = n
part (negsuc n) = 0

part-is : (z : ℤ) → pos 0 ≤ℤ z → pos (part z) ≡ z
unfolding part
part-is (pos n) h = refl
part-is (negsuc n) h = absurd (omega (arith, linear, h))

all_at_most : UntilIsReach → (m : ModelData) (safe : List Bool) (v : Valuation) (w : ℕ) (x : List ℤ) (bound : Bound) → pos bound.num ≡ number x m.init → bound.den ≡ 2 ^ w → IsBoundedAt (restricted m safe) v bound → UntilOfAllIsAtMost m safe v w x
all_at_most until m safe v w x bound num den bounded q n p from_one fits =
    let found = until m safe v q n m.init p fits in
    subst (λ z. IsAtMost w (number x m.init) (power (pos q *ℤ (process_at m v).total) n) z) found.1.same
    (subst (λ y. (reach (process_at (restricted m safe) v) q n m.init found.0 *ℤ pos (2 ^ w)) ≤ℤ (y *ℤ power (pos q *ℤ (process_at m v).total) n)) num
    (subst (λ d. (reach (process_at (restricted m safe) v) q n m.init found.0 *ℤ pos d) ≤ℤ (pos bound.num *ℤ power (pos q *ℤ (process_at m v).total) n)) den (bounded q n found.0 from_one found.1.fits)))

pub until_is_bounded_for_all : UntilIsReach → NumbersAreInRange → AcceptingBounds → UntilIsBoundedForAll
until_is_bounded_for_all until numbers bounds m safe k spans x same is within upper v inside =
    let top : Bound = record { num = part (number x k.model.init); den = 2 ^ k.w } in
    let exact : pos (part (number x k.model.init)) ≡ number x k.model.init = part-is (number x k.model.init) ((numbers k x k.model.init upper.numbers).0) in
    let accepting : IsAccepting k spans top x = record { upper = upper; limit = omega (arith, linear, ap (λ z. z *ℤ pos (2 ^ k.w)) exact) } in
    all_at_most until m safe v k.w x top (exact ∙ ap (λ model. number x model.init) same) refl (subst (λ model. IsBoundedAt model v top) same (bounds k spans top x is within accepting v inside))

turned : (d y t : ℤ) → d *ℤ (y *ℤ t) ≡ y *ℤ (d *ℤ t)
turned d y t = rw (as_diff d, as_diff y, as_diff t) (simp diff-mul (diff-same _ _ _ _ (omega arith)))

shared : (d t r u : ℤ) → d *ℤ (t *ℤ (r +ℤ u)) ≡ t *ℤ (d *ℤ r) +ℤ t *ℤ (u *ℤ d)
shared d t r u = rw (as_diff d, as_diff t, as_diff r, as_diff u) (simp (diff-add, diff-mul) (diff-same _ _ _ _ (omega arith)))

pub until_is_reached_by_one : CutKeepsChoices → MemorylessUntilIsReach → LowerBounds → UntilIsReachedByOne
until_is_reached_by_one kept until bounds m safe k spans r same is within lower v inside choice j follows =
    subst (λ z. IsAtLeast k.w (number r.numbers m.init) (r.e * r.k) j (power (process_at m v).total (r.k * j)) z) (until m safe v choice (r.k * j) m.init)
    (subst (λ model. IsAtLeast k.w (number r.numbers model.init) (r.e * r.k) j (power (process_at model v).total (r.k * j)) (memoryless_reach (process_at model v) choice (r.k * j) model.init)) same reached)
  where
    follows_cut : Follows k.model r.picks choice
    follows_cut = subst (λ model. Follows model r.picks choice) (sym same) (λ s lt. follows s (omega (arith, lt, kept m safe s)))

    reached : IsAtLeast k.w (number r.numbers k.model.init) (r.e * r.k) j (power (process_at k.model v).total (r.k * j)) (memoryless_reach (process_at k.model v) choice (r.k * j) k.model.init)
    reached =
        let both = bounds k spans r is within lower v inside choice follows_cut in
        let d = pos (2 ^ (r.e * r.k * j)) in
        let total = power (process_at k.model v).total (r.k * j) in
        let won = memoryless_reach (process_at k.model v) choice (r.k * j) k.model.init in
        let open_ = undecided (process_at k.model v) choice (is_open k r) (r.k * j) k.model.init in
        let top = pos (2 ^ k.w) in
        let first = mul-le d (number r.numbers k.model.init *ℤ total) (top *ℤ (won +ℤ open_)) (omega (arith, linear)) (both.0 (r.k * j) k.model.init) in
        let second = mul-le top (open_ *ℤ d) (pos ((2 ^ (r.e * r.k) - 1) ^ j) *ℤ total) (omega (arith, linear)) (both.1 j k.model.init) in
        omega (arith, linear, first, second, turned d (number r.numbers k.model.init) total, shared d top won open_, mul-add top (d *ℤ won) (pos ((2 ^ (r.e * r.k) - 1) ^ j) *ℤ total))
