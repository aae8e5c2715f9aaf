-- The regions that a text names at two depths.
use Rattle.std.proofs.Common.{◌≡◌, ℕ, ◌+◌, ◌*◌, ◌/◌, ◌^◌, Bool, true, false, List, [], ◌∷◌, ℤ, pos, ◌*ℤ◌, nat_lt, length, map, Result, Ok, Err, refl, sym, ap, ap₂, ◌∙◌, cond}
use Rattle.std.specs.Prelude.{unsigned_abs}
use Rattle.std.specs.List.{list_all}
use Rattle.std.proofs.lemmas.Nat.{pow-add}
use Rattle.lift_frac.specs.Limits.{size_limit}
use Rattle.lift_frac.specs.Ratio.{Ratio}
use Rattle.lift_poly.proofs.Ring.{mul-assoc}
use Rattle.lift_grid.specs.Rectangle.{Spans}
use Rattle.lift_grid.specs.Region.{Region, Interval, ◌>>=◌, intervals_of, in_order, common_denominator, number_over, span_over, is_narrow, spans_over, over_grid, region}
use Rattle.lift_grid.specs.declared.error.RegionError.{RegionError}
use Rattle.lift_grid.specs.declared.error.RegionError.TheVariants.{Wide}
use Rattle.lift_finer.specs.Finer.{finer_spans}
use Rattle.lift_finer.specs.Laws.{RegionsAreFiner}

-- two answers that go on from one are both reached where the one is
both : {A : Type 0} (P : Type 0) (x : Result A RegionError) (f g : A → Result Region RegionError) (r q : Region)
    → ((a : A) → f a ≡ Ok r → g a ≡ Ok q → P) → x >>= f ≡ Ok r → x >>= g ≡ Ok q → P
both P (Ok a) f g r q next first second = next a first second
both P (Err e) f g r q next first second = absurd (cc)

-- a region that was made passed both tests
made : (small narrow : Bool) (spans : Spans) (make : Spans → Region) (r : Region) → cond small (cond narrow (Ok spans) (Err Wide) >>= λ s. Ok (make s)) (Err Wide) ≡ Ok r → make spans ≡ r
made true true spans make r e = cc
made true false spans make r e = absurd (cc)
made false narrow spans make r e = absurd (cc)

region_over : ℕ → List Interval → Region
region_over depth intervals = let common = common_denominator intervals in record { d = pos (common * 2 ^ depth); depth = depth; spans = map (span_over common depth) intervals }

over_grid_is : (depth : ℕ) (intervals : List Interval) (r : Region) → over_grid depth intervals ≡ Ok r → region_over depth intervals ≡ r
unfolding over_grid spans_over region_over
over_grid_is depth intervals r e =
    let common = common_denominator intervals in
    let spans = map (span_over common depth) intervals in
    made (nat_lt (common * 2 ^ depth) size_limit) (list_all is_narrow spans) spans (λ s. record { d = pos (common * 2 ^ depth); depth = depth; spans = s }) r e

module _ (depth more : ℕ) where
  times_power : (n : ℕ) → pos (n * 2 ^ (depth + more)) ≡ pos (n * 2 ^ depth) *ℤ pos (2 ^ more)
  times_power n = ap (λ p. pos (n * p)) (pow-add 2 depth more) ∙ sym (mul-assoc (pos n) (pos (2 ^ depth)) (pos (2 ^ more)))

  number_finer : (d : ℕ) (q : Ratio) → number_over d (depth + more) q ≡ number_over d depth q *ℤ pos (2 ^ more)
  number_finer d q = ap (λ z. q.num *ℤ z) (times_power (d / unsigned_abs q.den)) ∙ sym (mul-assoc q.num (pos (d / unsigned_abs q.den * 2 ^ depth)) (pos (2 ^ more)))

  spans_finer : (d : ℕ) (intervals : List Interval) → map (span_over d (depth + more)) intervals ≡ finer_spans (2 ^ more) (map (span_over d depth) intervals)
  spans_finer d [] = refl
  spans_finer d (i ∷ intervals) = ap₂ ◌∷◌ (ap₂ (λ (low high : ℤ). (low, high)) (number_finer d i.low) (number_finer d i.high)) (spans_finer d intervals)

  finer_region : Region → Region
  finer_region r = record { d = r.d *ℤ pos (2 ^ more); depth = depth + more; spans = finer_spans (2 ^ more) r.spans }

  region_over_finer : (intervals : List Interval) → region_over (depth + more) intervals ≡ finer_region (region_over depth intervals)
  unfolding region_over finer_region
  region_over_finer intervals =
      let common = common_denominator intervals in
      let make : ℤ → Spans → Region = λ d spans. record { d = d; depth = depth + more; spans = spans } in
      ap₂ make (times_power common) (spans_finer common intervals)

pub regions_are_finer : RegionsAreFiner
unfolding region finer_region
regions_are_finer names depth more text r finer first second =
    let P : Type 0 = finer ≡ finer_region depth more r in
    both P (intervals_of names text) (λ xs. in_order xs (length names) >>= λ ordered. over_grid depth ordered) (λ xs. in_order xs (length names) >>= λ ordered. over_grid (depth + more) ordered) r finer
    (λ xs. both P (in_order xs (length names)) (over_grid depth) (over_grid (depth + more)) r finer
    (λ ordered here there. sym (over_grid_is (depth + more) ordered finer there) ∙ region_over_finer depth more ordered ∙ ap (finer_region depth more) (over_grid_is depth ordered r here)))
    first second
