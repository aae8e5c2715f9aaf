-- The intervals over a grid, one by one.
use Rattle.std.proofs.Common.{◌≡◌, ◌<◌, ◌≤◌, ◌+◌, ◌*◌, ◌*ℤ◌, ◌/◌, ◌^◌, mul-pos, ◌&&◌, ℕ, zero, suc, List, [], ◌∷◌, ◌++◌, ℤ, pos, Bool, true, false, Some, None, Result, Ok, Err, IsErr, map, take, min, fold, length, get_or, refl, sym, ap, ◌∙◌, subst, arith, nat_lt}
use Rattle.std.specs.Prelude.{unsigned_abs, if◌then◌else◌, IfOk}
use Rattle.std.specs.List.{list_all, All}
use Rattle.std.specs.Result.{IsErrAnd}
use Rattle.std.proofs.lemmas.List.{map-append, take_more, take_all, length-map}
use Rattle.std.proofs.lemmas.List.Folds.{list_all-append}
use Rattle.std.proofs.Math.Nat.{mul-le-mul_left}
use Rattle.std.proofs.Math.Bool.{and-false}
use Rattle.std.proofs.lemmas.Nat.{pow_pos}
use Rattle.std.proofs.lemmas.Int.{ints}
use Rattle.lift_frac.specs.Gcd.{lcm}
use Rattle.lift_frac.specs.Laws.{LcmIsMultiple, LcmIsAtLeast, LowestIsFraction, ValueIsFraction}
use Rattle.lift_frac.specs.Limits.{size_limit}
use Rattle.lift_grid.specs.Rectangle.{AreMultiples, IsOnGrid, Spans, IsSpan, AreSpans, sides_of, spans_of}
use Rattle.lift_grid.specs.Region.{Region, Divides, Interval, common_denominator, span_over, is_narrow, spans_over, intervals_of, in_order, over_grid, region, Gives, Fails, ◌>>=◌}
use Rattle.lift_grid.specs.Laws.{IsRegionOf, NamedRegionsAreOnGrid}
use Rattle.lift_grid.specs.Parts.{ratios_of, region_of}
use Rattle.lift_grid.specs.declared.rect.Grid.{Grid}
use Rattle.lift_grid.specs.declared.interval.Interval as code
use Rattle.lift_grid.specs.declared.error.RegionError.{RegionError}
use Rattle.lift_grid.specs.declared.error.RegionError.TheVariants.{Syntax, UnknownName, Repeated, Missing, EmptyInterval, Wide, Memory}
use Rattle.std.proofs.lemmas.Result.{IfOk-at_ok, IfOk-weaker}
use Rattle.lift_grid.proofs.Multiples.{each-divides}
use Rattle.lift_grid.proofs.Parsed.{and_then, IsInterval, AreIntervals, AreSoMany, ratio_is, intervals_are, in_order_are}
use Rattle.lift_grid.proofs.Ring.{span-rises, number-multiple}
use Rattle.lift_grid.proofs.Sides.{spans_of-sides_of}

-- the intervals over the grid d · 2^depth
abbrev pub over : ℕ → ℕ → List code.Interval → Spans
over d depth xs = map (span_over d depth) (map ratios_of xs)

-- one interval more
pub over-more : (d depth : ℕ) (xs : List code.Interval) (i : ℕ) (x : code.Interval) → i < length xs → x ≡ get_or xs i x
    → over d depth (take (i + 1) xs) ≡ over d depth (take i xs) ++ span_over d depth (ratios_of x) ∷ []
over-more d depth xs i x below is =
    let parts : take (i + 1) xs ≡ take i xs ++ x ∷ [] = take_more xs i x below ∙ ap (λ y. take i xs ++ y ∷ []) (sym is) in
    rw (parts, map-append ratios_of (take i xs) (x ∷ []), map-append (span_over d depth)) refl

pub sides_of-append : (a b : Spans) → sides_of (a ++ b) ≡ sides_of a ++ sides_of b
sides_of-append [] b = refl
sides_of-append (s ∷ a) b = ap (λ rest. s.0 ∷ s.1 ∷ rest) (sides_of-append a b)

chosen_by : (b : Bool) (s : ℤ × ℤ) (ends : List ℤ) → Some ends ≡ (if b then Some (sides_of (s ∷ [])) else None) → (b ≡ true) × (ends ≡ sides_of (s ∷ []))
chosen_by true s ends is = (refl, cc)
chosen_by false s ends is = absurd (cc)

-- the two ends that were given, where the span is narrow
pub chosen : (s : ℤ × ℤ) (ends : List ℤ) → Some ends ≡ (if is_narrow s then Some (sides_of (s ∷ [])) else None) → (is_narrow s ≡ true) × (ends ≡ sides_of (s ∷ []))
chosen s ends is = chosen_by (is_narrow s) s ends is

refused_by : (b : Bool) (s : ℤ × ℤ) → None ≡ (if b then Some (sides_of (s ∷ [])) else None) → b ≡ false
refused_by true s is = absurd (cc)
refused_by false s is = refl

pub refused : (s : ℤ × ℤ) → None ≡ (if is_narrow s then Some (sides_of (s ∷ [])) else None) → is_narrow s ≡ false
refused s is = refused_by (is_narrow s) s is

both : (a b : Bool) → (a && b) ≡ true → (a ≡ true) × (b ≡ true)
both true b h = (refl, h)
both false b h = absurd (cc)

-- a narrow interval over the grid is a span
pub is_span : (d depth : ℕ) (i : Interval) → 0 < d → IsInterval i → Divides d i → is_narrow (span_over d depth i) ≡ true → IsSpan (span_over d depth i)
is_span d depth i above is divides narrow =
    let span : ℤ × ℤ = span_over d depth i in
    let parts = both (nat_lt (unsigned_abs span.0) (size_limit)) (nat_lt (unsigned_abs span.1) (size_limit)) narrow in
    record {
      rising = span-rises d (2 ^ depth) i.low.num i.low.den i.high.num i.high.den above (pow_pos depth) is.low is.high divides.low divides.high is.rising;
      low = grind (arith, parts.0);
      high = grind (arith, parts.1);
    }

pub AreSpans-append : (a : Spans) (s : ℤ × ℤ) → AreSpans a → IsSpan s → AreSpans (a ++ s ∷ [])
AreSpans-append [] s h k = (k, tt)
AreSpans-append (r ∷ a) s h k = (h.0, AreSpans-append a s h.1 k)

all_narrow : (a : Spans) (s : ℤ × ℤ) → list_all is_narrow a ≡ true → is_narrow s ≡ true → list_all is_narrow (a ++ s ∷ []) ≡ true
all_narrow a s h k = rw (list_all-append is_narrow a (s ∷ []), h, k) refl

-- what a loop over the intervals keeps
pub record Kept (d depth : ℕ) (items : List ℤ) (xs : List code.Interval) : Type 0 where
  pub ends : items ≡ sides_of (over d depth xs)
  pub narrow : list_all is_narrow (over d depth xs) ≡ true
  pub spans : AreSpans (over d depth xs)

pub kept_more : (d depth : ℕ) (items ends : List ℤ) (xs : List code.Interval) (i : ℕ) (x : code.Interval) → i < length xs → x ≡ get_or xs i x → 0 < d → Divides d (ratios_of x)
    → Kept d depth items (take i xs) → Some ends ≡ (if is_narrow (span_over d depth (ratios_of x)) then Some (sides_of (span_over d depth (ratios_of x) ∷ [])) else None)
    → Kept d depth (items ++ ends) (take (i + 1) xs)
kept_more d depth items ends xs i x below is above divides so_far given =
    let more = over-more d depth xs i x below is in
    let here = chosen _ ends given in
    record {
      ends = ap (λ l. l ++ ends) so_far.ends ∙ ap (λ l. sides_of (over d depth (take i xs)) ++ l) here.1 ∙ sym (sides_of-append (over d depth (take i xs)) _) ∙ ap sides_of (sym more);
      narrow = rw more (all_narrow (over d depth (take i xs)) (span_over d depth (ratios_of x)) so_far.narrow here.0);
      spans = rw more (AreSpans-append (over d depth (take i xs)) (span_over d depth (ratios_of x)) so_far.spans (is_span d depth (ratios_of x) above (ratio_is x) divides here.0));
    }

wide_at : (d depth : ℕ) (xs : List code.Interval) (i : ℕ) (x : code.Interval) → i < length xs → is_narrow (span_over d depth (ratios_of (get_or xs i x))) ≡ false → list_all is_narrow (over d depth xs) ≡ false
wide_at d depth [] i x h wide = absurd (omega arith)
wide_at d depth (y ∷ xs) zero x h wide = rw wide refl
wide_at d depth (y ∷ xs) (suc i) x h wide = rw (wide_at d depth xs i x (omega arith) wide) (and-false (is_narrow (span_over d depth (ratios_of y))))

-- an interval that isn't narrow over the grid makes it all Wide
pub spans_over-wide : (d depth : ℕ) (xs : List code.Interval) (i : ℕ) (x : code.Interval) → i < length xs → x ≡ get_or xs i x
    → None ≡ (if is_narrow (span_over d depth (ratios_of x)) then Some (sides_of (span_over d depth (ratios_of x) ∷ [])) else None) → spans_over d depth (map ratios_of xs) ≡ Err Wide
unfolding spans_over
spans_over-wide d depth xs i x below is none =
    let P : code.Interval → Type 0 = λ y. is_narrow (span_over d depth (ratios_of y)) ≡ false in
    let wide : list_all is_narrow (over d depth xs) ≡ false = wide_at d depth xs i x below (subst P is (refused (span_over d depth (ratios_of x)) none)) in
    rw wide refl

-- all intervals over the grid
pub spans_over-all : (d depth : ℕ) (items : List ℤ) (xs : List code.Interval) (n : ℕ) (r : Spans) → length xs ≤ n → Kept d depth items (take n xs) → r ≡ spans_of items → spans_over d depth (map ratios_of xs) ≡ Ok r
unfolding spans_over
spans_over-all d depth items xs n r enough so_far is =
    let all : take n xs ≡ xs = take_all n xs enough in
    let narrow : list_all is_narrow (over d depth xs) ≡ true = rw all at so_far.narrow in
    let spans : r ≡ over d depth xs = is ∙ ap spans_of so_far.ends ∙ spans_of-sides_of (over d depth (take n xs)) ∙ ap (over d depth) all in
    rw (narrow, spans) refl

get_or-map : (xs : List code.Interval) (i : ℕ) (x : code.Interval) → get_or (map ratios_of xs) i (ratios_of x) ≡ ratios_of (get_or xs i x)
get_or-map [] i x = refl
get_or-map (y ∷ xs) zero x = refl
get_or-map (y ∷ xs) (suc i) x = get_or-map xs i x

-- an interval by its place
pub divides_at : (d : ℕ) (xs : List code.Interval) (i : ℕ) (x : code.Interval) → All (Divides d) (map ratios_of xs) → i < length xs → x ≡ get_or xs i x → Divides d (ratios_of x)
divides_at d xs i x all below is =
    let P : Interval → Type 0 = λ y. Divides d y in
    subst P (get_or-map xs i x ∙ ap ratios_of (sym is)) (all i (ratios_of x) (omega (arith, length-map xs ratios_of)))

grows : LcmIsAtLeast → (is : List Interval) (d : ℕ) → AreIntervals is → d ≤ fold (λ d i. lcm (lcm d (unsigned_abs i.low.den)) (unsigned_abs i.high.den)) d is
grows at_least [] d are = omega arith
grows at_least (i ∷ is) d are =
    let low : 0 < unsigned_abs i.low.den = omega (arith, ints, are.0.low) in
    let high : 0 < unsigned_abs i.high.den = omega (arith, ints, are.0.high) in
    let first = at_least d (unsigned_abs i.low.den) low in
    let second = at_least (lcm d (unsigned_abs i.low.den)) (unsigned_abs i.high.den) high in
    let rest = grows at_least is (lcm (lcm d (unsigned_abs i.low.den)) (unsigned_abs i.high.den)) are.1 in
    grind arith

-- the least common denominator isn't 0
pub common-positive : LcmIsAtLeast → (is : List Interval) → AreIntervals is → 0 < common_denominator is
common-positive at_least is are = omega (arith, grows at_least is 1 are)

-- below the limit nothing was cut off
pub not_cut : (limit r c depth : ℕ) → r ≡ min limit c → r * 2 ^ depth < limit → r ≡ c
not_cut limit r c depth is below =
    let some = pow_pos depth in
    let less : r ≤ r * 2 ^ depth = grind (arith, mul-le-mul_left r some) in
    omega arith

-- an error of a call is one of the caller, where it is passed on
pub gives_err : {X Y : Type 0} (view : X → Y) (result : Result X RegionError) (e : RegionError) (r : Result Y RegionError) → IsErr result → IsErrAnd result (λ f. f ≡ e) → Fails e r → Gives view result r
gives_err view (Ok x) e r bad is fails = absurd (cc)
gives_err view (Err f) e r bad is fails = subst (λ (x : RegionError). Fails x r) (sym is) fails

Fails-bind : {A B : Type 0} (e : RegionError) (r : Result A RegionError) (f : A → Result B RegionError) → Fails e r → Fails e (r >>= f)
Fails-bind Syntax r f h = rw h refl
Fails-bind UnknownName r f h = rw h refl
Fails-bind Repeated r f h = rw h refl
Fails-bind Missing r f h = rw h refl
Fails-bind EmptyInterval r f h = rw h refl
Fails-bind Wide r f h = rw h refl
Fails-bind Memory r f h = tt

-- what the intervals over the grid fail with
pub over_grid-fails : (depth r : ℕ) (is : List Interval) (e : RegionError) → r ≡ common_denominator is → r * 2 ^ depth < size_limit → Fails e (spans_over r depth is) → Fails e (over_grid depth is)
unfolding over_grid
over_grid-fails depth r is e same below fails =
    let small : nat_lt (common_denominator is * 2 ^ depth) (size_limit) ≡ true = rw (← same) (grind arith) in
    let fails_there : Fails e (spans_over (common_denominator is) depth is) = rw same at fails in
    rw small (Fails-bind e (spans_over (common_denominator is) depth is) _ fails_there)

multiples_of : (d depth : ℕ) (is : List Interval) → AreMultiples (2 ^ depth) (map (span_over d depth) is)
multiples_of d depth [] = tt
multiples_of d depth (i ∷ is) = (
  (
    (i.low.num *ℤ pos (d / unsigned_abs i.low.den), number-multiple i.low.num (d / unsigned_abs i.low.den) (2 ^ depth)),
    (i.high.num *ℤ pos (d / unsigned_abs i.high.den), number-multiple i.high.num (d / unsigned_abs i.high.den) (2 ^ depth)),
  ),
  multiples_of d depth is,
)

-- what is answered after a test
tested_so : {A : Type 0} (P : A → Type 0) (b : Bool) (r s : Result A RegionError) → (b ≡ true → IfOk r P) → (b ≡ false → IfOk s P) → IfOk (if b then r else s) P
tested_so P true r s f g = f refl
tested_so P false r s f g = g refl

are_spans : (d depth : ℕ) (is : List Interval) → 0 < d → AreIntervals is → ((n : ℕ) (x : Interval) → n < length is → Divides d (get_or is n x)) → list_all is_narrow (map (span_over d depth) is) ≡ true
    → AreSpans (map (span_over d depth) is)
are_spans d depth [] above are divides narrow = tt
are_spans d depth (i ∷ is) above are divides narrow =
    let parts = both (is_narrow (span_over d depth i)) (list_all is_narrow (map (span_over d depth) is)) narrow in
    (is_span d depth i above are.0 (divides 0 i (omega arith)) parts.0, are_spans d depth is above are.1 (λ n x lt. divides (suc n) x (omega arith)) parts.1)

on_grid : (common depth : ℕ) (is : List Interval) → 0 < common → common * 2 ^ depth < size_limit → IsOnGrid (pos (common * 2 ^ depth)) depth (length is) (map (span_over common depth) is)
on_grid common depth is above below = record {
  positive = omega (arith, ints, mul-pos above (pow_pos depth));
  small = below;
  one_each = length-map is (span_over common depth);
  multiples = multiples_of common depth is;
}

-- a rectangle with so many spans over that grid
abbrev IsOver : ℕ → ℕ → ℕ → Spans → Type 0
IsOver common depth count ss = AreSpans ss × IsOnGrid (pos (common * 2 ^ depth)) depth count ss

spans_over_on : (common depth : ℕ) (is : List Interval) → 0 < common → common * 2 ^ depth < size_limit → AreIntervals is → ((n : ℕ) (x : Interval) → n < length is → Divides common (get_or is n x))
    → IfOk (spans_over common depth is) (IsOver common depth (length is))
unfolding spans_over
spans_over_on common depth is above below are divides =
    let spans : Spans = map (span_over common depth) is in
    tested_so (IsOver common depth (length is)) (list_all is_narrow spans) (Ok spans) (Err Wide)
    (λ narrow. (are_spans common depth is above are divides narrow, on_grid common depth is above below)) (λ wide. tt)

-- a region with so many spans, on its grid
abbrev IsOnOwn : ℕ → ℕ → Region → Type 0
IsOnOwn depth count r = AreSpans r.spans × IsOnGrid r.d r.depth count r.spans × (r.depth ≡ depth)

over_grid_on : LcmIsMultiple → LcmIsAtLeast → (depth : ℕ) (is : List Interval) → AreIntervals is → IfOk (over_grid depth is) (IsOnOwn depth (length is))
unfolding over_grid
over_grid_on multiple at_least depth is are =
    let common : ℕ = common_denominator is in
    let P : Region → Type 0 = IsOnOwn depth (length is) in
    tested_so P (nat_lt (common * 2 ^ depth) size_limit) _ (Err Wide)
    (λ small.
    and_then (IsOver common depth (length is)) P (spans_over common depth is) _
    (spans_over_on common depth is (common-positive at_least is are) (grind (arith, small)) are (each-divides multiple is))
    (λ spans on. (on.0, on.1, refl)))
    (λ large. tt)

ordered_on : LcmIsMultiple → LcmIsAtLeast → (names : List (List ℕ)) (depth : ℕ) (ordered : List Interval) → AreSoMany (length names) ordered → IfOk (over_grid depth ordered) (IsRegionOf names depth)
ordered_on multiple at_least names depth ordered so =
    IfOk-weaker (over_grid depth ordered) (IsOnOwn depth (length ordered)) (IsRegionOf names depth)
    (λ r on. record { spans = on.0; grid = rw so.1 at on.1; depth_is = on.2 }) (over_grid_on multiple at_least depth ordered so.0)

region_on : LowestIsFraction → ValueIsFraction → LcmIsMultiple → LcmIsAtLeast → (names : List (List ℕ)) (depth : ℕ) (text : List ℕ) → IfOk (region names depth text) (IsRegionOf names depth)
unfolding region
region_on quotients literals multiple at_least names depth text =
    and_then AreIntervals (IsRegionOf names depth) (intervals_of names text) _ (intervals_are quotients literals names text)
    (λ is are.
    and_then (AreSoMany (length names)) (IsRegionOf names depth) (in_order is (length names)) _ (in_order_are is (length names) are) (λ ordered so. ordered_on multiple at_least names depth ordered so))

-- a text that names a region names one on its grid
pub named_on : LowestIsFraction → ValueIsFraction → LcmIsMultiple → LcmIsAtLeast → NamedRegionsAreOnGrid
named_on quotients literals multiple at_least names depth text r e = IfOk-at_ok (IsRegionOf names depth) e (region_on quotients literals multiple at_least names depth text)

-- so what is read from a text is on its grid
pub read_grid : NamedRegionsAreOnGrid → (names : List (List ℕ)) (depth : ℕ) (text : List ℕ) (result : Result (Grid × Spans) RegionError) → Gives region_of result (region names depth text)
    → IfOk result (λ p. IsOnGrid p.0.d depth (length names) p.1)
read_grid law names depth text (Ok p) gives = let is = law names depth text (region_of p) gives in rw is.depth_is at is.grid
read_grid law names depth text (Err e) gives = tt

pub read_depth : NamedRegionsAreOnGrid → (names : List (List ℕ)) (depth : ℕ) (text : List ℕ) (result : Result (Grid × Spans) RegionError) → Gives region_of result (region names depth text)
    → IfOk result (λ p. p.0.depth ≡ depth)
read_depth law names depth text (Ok p) gives = (law names depth text (region_of p) gives).depth_is
read_depth law names depth text (Err e) gives = tt
