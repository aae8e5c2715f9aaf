-- The intervals that a text gives: each has two ends with denominators above 0, the low one below the high one.
use Prim.Native.Char.{code}
use Rattle.std.proofs.Common.{◌≡◌, ◌≢◌, ◌<◌, ◌==◌, ℕ, zero, suc, List, [], ◌∷◌, ◌++◌, ℤ, pos, ◌*ℤ◌, ◌<ℤ◌, Bool, true, false, cond, Option, None, Some, Result, Ok, Err, map, length, refl, ap, arith, mul-pos, length-append}
use Rattle.std.specs.Prelude.{codes, unsigned_abs, is_some, position, ◌||◌, if◌then◌else◌, IfOk, IfSome}
use Rattle.std.specs.List.{AllByRecursion, list_all, slice_split}
use Rattle.std.specs.Option.{ok_or}
use Rattle.std.specs.Result.{result_ok}
use Rattle.std.specs.Char.{is_ascii_digit}
use Rattle.std.specs.Str.{bytes_eq}
use Rattle.std.specs.Cmp.{int_ranks}
use Rattle.std.specs.Ordering.{int_cmp, MatchOrdering}
use Rattle.std.specs.declared.cmp.Ordering.{Ordering}
use Rattle.std.specs.declared.cmp.Ordering.TheVariants.{Less, Equal, Greater}
use Rattle.std.proofs.lemmas.Int.{ints, unsigned_abs-mul}
use Rattle.lift_bytes.specs.Bytes as byte
use Rattle.lift_frac.specs.Gcd.{gcd}
use Rattle.lift_frac.specs.Laws.{LowestIsFraction, ValueIsFraction}
use Rattle.lift_frac.specs.Literal as literal
use Rattle.lift_frac.specs.Ratio.{Ratio, IsFraction, fraction}
use Rattle.lift_frac.specs.declared.error.FracError.TheVariants as frac
use Rattle.lift_grid.specs.Region.{◌>>=◌, behind_mark, Number, literal_at, sign_at, divisor_at, signed, quotient, end_at, name_at, Clause, behind_at_most, clause_at, Interval, has_zero_divisor, rising, given, interval_of, interval_at, intervals_from, intervals_of, in_order}
use Rattle.lift_grid.specs.Parts.{ratios_of}
use Rattle.lift_grid.specs.declared.interval.Interval as code
use Rattle.lift_grid.specs.declared.error.RegionError.{RegionError}
use Rattle.lift_grid.specs.declared.error.RegionError.TheVariants.{Syntax, UnknownName, Repeated, Missing, EmptyInterval, Wide}

-- ---- steps that may fail

-- what holds of a step's value and of what follows holds of both behind each other
pub and_then : {A B : Type 0} (P : A → Type 0) (Q : B → Type 0) (r : Result A RegionError) (f : A → Result B RegionError) → IfOk r P → ((x : A) → P x → IfOk (f x) Q) → IfOk (r >>= f) Q
and_then P Q (Ok x) f p next = next x p
and_then P Q (Err e) f p next = tt

-- nothing need hold of the step's value
after : {A B : Type 0} (Q : B → Type 0) (r : Result A RegionError) (f : A → Result B RegionError) → ((x : A) → IfOk (f x) Q) → IfOk (r >>= f) Q
after Q (Ok x) f next = next x
after Q (Err e) f next = tt

if_ok : {A E : Type 0} (P : A → Type 0) (r : Result A E) → ((x : A) → r ≡ Ok x → P x) → IfOk r P
if_ok P (Ok x) h = h x refl
if_ok P (Err e) h = tt

pub tested : {A E : Type 0} (P : A → Type 0) (b : Bool) (r s : Result A E) → IfOk r P → IfOk s P → IfOk (cond b r s) P
tested P true r s h k = h
tested P false r s h k = k

-- ---- ends

-- a number, where it is given, is a fraction
abbrev IsWorth : Number → Type 0
IsWorth number = IfOk number IsFraction

-- and so is the first of two answers
abbrev IsWorthFirst : Number × List ℕ → Type 0
IsWorthFirst p = IsWorth p.0

divisor_by : List ℕ → Option (List ℕ) → Result (Number × List ℕ) RegionError
divisor_by text None = Ok (Ok (record { num = pos 1; den = pos 1 }), text)
divisor_by text (Some rest) = literal_at rest

quotient_by : Bool → Ratio → Ratio → Bool → Number
quotient_by negative a b true = Err frac.Zero
quotient_by negative a b false = fraction (signed negative a.num *ℤ b.den) (a.den *ℤ b.num)

wide_by : Bool → Number
wide_by true = Err frac.Zero
wide_by false = Err frac.Wide

size_some : (n : ℕ) → (n == 0) ≡ false → 0 < n
size_some zero some = absurd (cc)
size_some (suc n) some = omega arith

not_zero : (a b : ℤ) → pos 0 <ℤ a → (unsigned_abs b == 0) ≡ false → a *ℤ b ≢ pos 0
not_zero a b above some = λ e.
    let size : 0 < unsigned_abs a = omega (arith, ints, above) in
    omega (arith, unsigned_abs-mul a b, ap unsigned_abs e, mul-pos size (size_some (unsigned_abs b) some))

-- ---- what an interval is

pub record IsInterval (i : Interval) : Type 0 where
  pub low : pos 0 <ℤ i.low.den
  pub high : pos 0 <ℤ i.high.den
  pub rising : (i.low.num *ℤ i.high.den) <ℤ (i.high.num *ℤ i.low.den)

abbrev pub AreIntervals : List Interval → Type 0
AreIntervals is = AllByRecursion IsInterval is

one_more : (front : List Interval) (i : Interval) → AreIntervals front → IsInterval i → AreIntervals (front ++ i ∷ [])
one_more [] i h is = (is, tt)
one_more (x ∷ front) i h is = (h.0, one_more front i h.1 is)

-- the code's intervals are some
pub ratio_is : (x : code.Interval) → IsInterval (ratios_of x)
ratio_is x = record { low = x.low.positive_den; high = x.high.positive_den; rising = x.rising }

pub ratios_are : (xs : List code.Interval) → AreIntervals (map ratios_of xs)
ratios_are [] = tt
ratios_are (x ∷ xs) = (ratio_is x, ratios_are xs)

rising_by : Interval → Ordering → Result Interval RegionError
rising_by i Less = Ok i
rising_by i Equal = Err EmptyInterval
rising_by i Greater = Err EmptyInterval

abbrev Ranked : Interval → Ordering → Type 0
Ranked i o =
    let low = i.low.num *ℤ i.high.den in
    let high = i.high.num *ℤ i.low.den in
    MatchOrdering o (low <ℤ high) (low ≡ high) (high <ℤ low)

rises_by : (i : Interval) (o : Ordering) → Ranked i o → pos 0 <ℤ i.low.den → pos 0 <ℤ i.high.den → IfOk (rising_by i o) IsInterval
unfolding rising_by
rises_by i Less ranked low high = record { low = low; high = high; rising = ranked }
rises_by i Equal ranked low high = tt
rises_by i Greater ranked low high = tt

rises : (i : Interval) → pos 0 <ℤ i.low.den → pos 0 <ℤ i.high.den → IfOk (rising i) IsInterval
unfolding rising_by
rises i low high = rises_by i (int_cmp (i.low.num *ℤ i.high.den) (i.high.num *ℤ i.low.den)) (int_ranks (i.low.num *ℤ i.high.den) (i.high.num *ℤ i.low.den)) low high

narrow_worth : (number : Number) → IsWorth number → IfOk (ok_or (result_ok number) Wide) IsFraction
narrow_worth (Err e) h = tt
narrow_worth (Ok q) h = h

module _ (quotients : LowestIsFraction) (literals : ValueIsFraction) where
  value_worth : (l : literal.Literal) → IsWorth (literal.value_of l)
  value_worth l = if_ok IsFraction (literal.value_of l) (literals l)

  literal_worth : (text : List ℕ) → IfOk (literal_at text) IsWorthFirst
  unfolding literal_at
  literal_worth text =
      tested IsWorthFirst (byte.first_passes is_ascii_digit (byte.behind byte.is_blank text)) (Ok (literal.value_of (literal.literal_at (byte.behind byte.is_blank text)).0, (literal.literal_at (byte.behind byte.is_blank text)).1)) (Err Syntax)
      (value_worth (literal.literal_at (byte.behind byte.is_blank text)).0) tt

  one_worth : IsFraction (record { num = pos 1; den = pos 1 })
  unfolding gcd
  one_worth = record { positive = omega (arith, ints); num = omega arith; den = omega arith; lowest = refl }

  divisor_worth_by : (text : List ℕ) (mark : Option (List ℕ)) → IfOk (divisor_by text mark) IsWorthFirst
  unfolding divisor_by
  divisor_worth_by text None = one_worth
  divisor_worth_by text (Some rest) = literal_worth rest

  divisor_worth : (text : List ℕ) → IfOk (divisor_at text) IsWorthFirst
  unfolding divisor_at divisor_by
  divisor_worth text = divisor_worth_by text (behind_mark (codes "/") text)

  quotient_worth_by : (negative : Bool) (a b : Ratio) (zero : Bool) → (unsigned_abs b.num == 0) ≡ zero → IsFraction a → IsWorth (quotient_by negative a b zero)
  unfolding quotient_by
  quotient_worth_by negative a b true e p = tt
  quotient_worth_by negative a b false e p =
      if_ok IsFraction (fraction (signed negative a.num *ℤ b.den) (a.den *ℤ b.num)) (λ q. quotients (signed negative a.num *ℤ b.den) (a.den *ℤ b.num) q (not_zero a.den b.num p.positive e))

  none_worth_by : (zero : Bool) → IsWorth (wide_by zero)
  unfolding wide_by
  none_worth_by true = tt
  none_worth_by false = tt

  quotient_worth : (negative : Bool) (above below : Number) → IsWorth above → IsWorth (quotient negative above below)
  unfolding quotient quotient_by wide_by
  quotient_worth negative above (Err e) p = tt
  quotient_worth negative (Err e) (Ok b) p = none_worth_by (unsigned_abs b.num == 0)
  quotient_worth negative (Ok a) (Ok b) p = quotient_worth_by negative a b (unsigned_abs b.num == 0) refl p

  end_worth : (text : List ℕ) → IfOk (end_at text) IsWorthFirst
  unfolding end_at
  end_worth text =
      and_then IsWorthFirst IsWorthFirst (literal_at (sign_at text).1) _ (literal_worth (sign_at text).1)
      (λ above is. after IsWorthFirst (divisor_at above.1) _ (λ below. quotient_worth (sign_at text).0 above.0 below.0 is))

  -- ---- clauses

  abbrev AreEnds : Clause × List ℕ → Type 0
  AreEnds p = IsWorth p.0.low × IsWorth p.0.high

  clause_worth : (text : List ℕ) → IfOk (clause_at text) AreEnds
  unfolding clause_at
  clause_worth text =
      and_then IsWorthFirst AreEnds (end_at text) _ (end_worth text)
      (λ low is_low.
      after AreEnds (behind_at_most low.1) _
      (λ name_text.
      after AreEnds (name_at name_text) _
      (λ name.
      after AreEnds (behind_at_most name.1) _ (λ high_text. and_then IsWorthFirst AreEnds (end_at high_text) _ (end_worth high_text) (λ high is_high. (is_low, is_high))))))

  -- ---- intervals

  interval_is : (names : List (List ℕ)) (before : List Interval) (c : Clause) → IsWorth c.low → IsWorth c.high → IfOk (interval_of names before c) IsInterval
  unfolding interval_of
  interval_is names before c low high =
      after IsInterval (if has_zero_divisor c.low || has_zero_divisor c.high then Err Syntax else Ok c) _
      (λ checked.
      and_then IsFraction IsInterval (ok_or (result_ok c.low) Wide) _ (narrow_worth c.low low)
      (λ q is_q.
      and_then IsFraction IsInterval (ok_or (result_ok c.high) Wide) _ (narrow_worth c.high high)
      (λ r is_r.
      after IsInterval (ok_or (position (bytes_eq c.name) names) UnknownName) _
      (λ parameter.
      after IsInterval (if is_some (given before parameter) then Err Repeated else Ok parameter) _
      (λ first. rises (record { parameter = parameter; low = q; high = r }) is_q.positive is_r.positive)))))

  interval_at_is : (names : List (List ℕ)) (before : List Interval) (text : List ℕ) → IfOk (interval_at names before text) IsInterval
  unfolding interval_at
  interval_at_is names before text =
      and_then AreEnds IsInterval (clause_at text) _ (clause_worth text)
      (λ clause ends.
      and_then IsInterval IsInterval (interval_of names before clause.0) _ (interval_is names before clause.0 ends.0 ends.1)
      (λ i is. tested IsInterval (list_all byte.is_blank clause.1) (Ok i) (Err Syntax) is tt))

  intervals_from_are : (names : List (List ℕ)) (before : List Interval) (pieces : List (List ℕ)) → AreIntervals before → IfOk (intervals_from names before pieces) AreIntervals
  intervals_from_are names before [] h = h
  intervals_from_are names before (text ∷ pieces) h =
      and_then IsInterval AreIntervals (interval_at names before text) _ (interval_at_is names before text)
      (λ i is. intervals_from_are names (before ++ i ∷ []) pieces (one_more before i h is))

  pub intervals_are : (names : List (List ℕ)) (text : List ℕ) → IfOk (intervals_of names text) AreIntervals
  unfolding intervals_of
  intervals_are names text =
      let pieces = slice_split (λ b. b == code ",") text in
      tested AreIntervals (list_all byte.is_blank text) (Ok []) (intervals_from names [] pieces) tt (intervals_from_are names [] pieces tt)

-- ---- in declared order

some_tested : (b : Bool) (i : Interval) (o : Option Interval) → IsInterval i → IfSome o IsInterval → IfSome (cond b (Some i) o) IsInterval
some_tested true i o h k = h
some_tested false i o h k = k

given_is : (is : List Interval) (parameter : ℕ) → AreIntervals is → IfSome (given is parameter) IsInterval
given_is [] parameter h = tt
given_is (i ∷ is) parameter h = some_tested (i.parameter == parameter) i (given is parameter) h.0 (given_is is parameter h.1)

given_or_missing : (o : Option Interval) → IfSome o IsInterval → IfOk (ok_or o Missing) IsInterval
given_or_missing None h = tt
given_or_missing (Some i) h = h

-- so many intervals
abbrev pub AreSoMany : ℕ → List Interval → Type 0
AreSoMany n is = AreIntervals is × (length is ≡ n)

pub in_order_are : (is : List Interval) (n : ℕ) → AreIntervals is → IfOk (in_order is n) (AreSoMany n)
in_order_are is zero h = (tt, refl)
in_order_are is (suc n) h =
    and_then (AreSoMany n) (AreSoMany (suc n)) (in_order is n) _ (in_order_are is n h)
    (λ front so.
    and_then IsInterval (AreSoMany (suc n)) (ok_or (given is n) Missing) _ (given_or_missing (given is n) (given_is is n h))
    (λ i here. (one_more front i so.0 here, omega (arith, length-append front (i ∷ []), so.1))))
