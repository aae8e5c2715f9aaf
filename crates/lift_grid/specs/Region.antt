-- The text that names a region, and what it stands for:
--     region = nothing | clause { "," clause }
--     clause = end "<=" name "<=" end
--     end    = [ "-" ] literal [ "/" literal ]
-- Blanks may stand between any two of these parts and at both ends. A text is read as its pieces between commas.
use Prim.Native.Char.{code}
use Rattle.std.specs.Prelude.{◌≡◌, ℕ, zero, suc, ◌*◌, ◌/◌, ◌^◌, Bool, true, false, ◌==◌, ◌||◌, ◌&&◌, List, [], ◌∷◌, ◌++◌, ℤ, pos, ◌*ℤ◌, neg_ℤ, unsigned_abs, nat_lt, length, take, drop, map, fold, position, codes, Option, Some, None, is_some, Result, Ok, Err, if◌then◌else◌}
use Rattle.std.specs.List.{prefix_len, list_all, find, slice_split}
use Rattle.std.specs.Option.{ok_or}
use Rattle.std.specs.Result.{result_ok}
use Rattle.std.specs.Char.{is_ascii_digit}
use Rattle.std.specs.Int.{◌∣◌}
use Rattle.std.specs.Str.{bytes_eq}
use Rattle.std.specs.Ordering.{int_cmp}
use Rattle.std.specs.declared.cmp.Ordering.TheVariants.{Less, Equal, Greater}
use Rattle.lift_bytes.specs.Bytes as byte
use Rattle.lift_frac.specs.Gcd.{lcm}
use Rattle.lift_frac.specs.Limits.{size_limit}
use Rattle.lift_frac.specs.Literal as literal
use Rattle.lift_frac.specs.Ratio.{Ratio, fraction}
use Rattle.lift_frac.specs.declared.error.FracError.{FracError}
use Rattle.lift_frac.specs.declared.error.FracError.TheVariants as frac
use Rattle.lift_grid.specs.Rectangle.{Spans}
use Rattle.lift_grid.specs.declared.error.RegionError.{RegionError}
use Rattle.lift_grid.specs.declared.error.RegionError.TheVariants.{Syntax, UnknownName, Repeated, Missing, EmptyInterval, Wide, Memory}

infixl 10 ◌>>=◌
-- one step behind another; the first refusal is told
abbrev pub ◌>>=◌ : {A B E : Type 0} → Result A E → (A → Result B E) → Result B E
(Ok x) >>= f = f x
(Err e) >>= f = Err e

-- What stands behind a mark at the front. Here and below blanks before a part are passed over.
abbrev pub behind_mark : List ℕ → List ℕ → Option (List ℕ)
behind_mark mark text =
    let rest = byte.behind byte.is_blank text in if bytes_eq (take (length mark) rest) mark then Some (drop (length mark) rest) else None

-- a number that is written, or that it is too wide
abbrev pub Number : Type 0
Number = Result Ratio FracError

-- the literal at the front, the longest one, and what stands behind it; Syntax where there is none
unfoldable pub literal_at : List ℕ → Result (Number × List ℕ) RegionError
literal_at text = let rest = byte.behind byte.is_blank text in
    if byte.first_passes is_ascii_digit rest then Ok (literal.value_of (literal.literal_at rest).0, (literal.literal_at rest).1) else Err Syntax

-- whether a minus stands at the front, and what stands behind it
unfoldable pub sign_at : List ℕ → Bool × List ℕ
sign_at text = elim (behind_mark (codes "-") text) [ None ↦ (false, text) | Some rest ↦ (true, rest) ]

-- the literal behind a slash at the front, and what stands behind that; 1 where no slash stands there
unfoldable pub divisor_at : List ℕ → Result (Number × List ℕ) RegionError
divisor_at text = elim (behind_mark (codes "/") text) [ None ↦ Ok (Ok (record { num = pos 1; den = pos 1 }), text) | Some rest ↦ literal_at rest ]

-- the number with the other sign, where there is a minus
abbrev pub signed : Bool → ℤ → ℤ
signed negative n = if negative then neg_ℤ n else n

-- One number over another in lowest terms: Zero where the divisor is 0, and else Wide where a number or the result is too wide.
unfoldable pub quotient : Bool → Number → Number → Number
quotient negative above (Err e) = Err frac.Wide
quotient negative (Err e) (Ok b) = elim (unsigned_abs b.num == 0) [ true ↦ Err frac.Zero | false ↦ Err frac.Wide ]
quotient negative (Ok a) (Ok b) = elim (unsigned_abs b.num == 0) [ true ↦ Err frac.Zero | false ↦ fraction (signed negative a.num *ℤ b.den) (a.den *ℤ b.num) ]

-- the end at the front, and what stands behind it
unfoldable pub end_at : List ℕ → Result (Number × List ℕ) RegionError
end_at text = do
  above ← literal_at (sign_at text).1
  below ← divisor_at above.1
  Ok (quotient (sign_at text).0 above.0 below.0, below.1)

-- the name at the front, the longest one, and what stands behind it
unfoldable pub name_at : List ℕ → Result (List ℕ × List ℕ) RegionError
name_at text = let rest = byte.behind byte.is_blank text in
    let len = prefix_len byte.is_name_byte rest in
    if byte.first_passes byte.begins_name rest then Ok (take len rest, drop len rest) else Err Syntax

-- a clause as it is written
pub record Clause : Type 0 where
  pub low : Number
  pub name : List ℕ
  pub high : Number

-- what stands behind `<=` at the front
abbrev pub behind_at_most : List ℕ → Result (List ℕ) RegionError
behind_at_most text = ok_or (behind_mark (codes "<=") text) Syntax

-- the clause at the front, and what stands behind it
unfoldable pub clause_at : List ℕ → Result (Clause × List ℕ) RegionError
clause_at text = do
  low ← end_at text
  name_text ← behind_at_most low.1
  name ← name_at name_text
  high_text ← behind_at_most name.1
  high ← end_at high_text
  Ok (record { low = low.0; name = name.0; high = high.0 }, high.1)

-- a parameter, by its place among the declared ones, and the two ends of its interval
pub record Interval : Type 0 where
  pub parameter : ℕ
  pub low : Ratio
  pub high : Ratio

-- the divisor of an end is 0
abbrev pub has_zero_divisor : Number → Bool
has_zero_divisor number = elim number [ Err frac.Zero ↦ true | _ ↦ false ]

-- an interval is refused where its low end isn't below its high end
abbrev pub rising : Interval → Result Interval RegionError
rising i = elim (int_cmp (i.low.num *ℤ i.high.den) (i.high.num *ℤ i.low.den)) [ Less ↦ Ok i | Equal ↦ Err EmptyInterval | Greater ↦ Err EmptyInterval ]

-- the interval of a parameter, where there is one
abbrev pub given : List Interval → ℕ → Option Interval
given intervals parameter = find (λ i. i.parameter == parameter) intervals

-- the interval that a clause gives, or its first refusal, where these intervals were given before
unfoldable pub interval_of : List (List ℕ) → List Interval → Clause → Result Interval RegionError
interval_of names before c = do
  checked ← if has_zero_divisor c.low || has_zero_divisor c.high then Err Syntax else Ok c
  low ← ok_or (result_ok c.low) Wide
  high ← ok_or (result_ok c.high) Wide
  parameter ← ok_or (position (bytes_eq c.name) names) UnknownName
  first ← if is_some (given before parameter) then Err Repeated else Ok parameter
  rising (record { parameter = parameter; low = low; high = high })

-- the interval that a piece of the text gives; where more than blanks stands behind its clause, Syntax comes after the clause's own refusals
unfoldable pub interval_at : List (List ℕ) → List Interval → List ℕ → Result Interval RegionError
interval_at names before text = do
  clause ← clause_at text
  interval ← interval_of names before clause.0
  if list_all byte.is_blank clause.1 then Ok interval else Err Syntax

-- the intervals so far, and those of the pieces, from the left; or the first refusal
abbrev pub intervals_from : List (List ℕ) → List Interval → List (List ℕ) → Result (List Interval) RegionError
intervals_from names before [] = Ok before
intervals_from names before (text ∷ pieces) = interval_at names before text >>= λ interval. intervals_from names (before ++ interval ∷ []) pieces

-- the intervals that a text gives; a text of blanks alone gives none
unfoldable pub intervals_of : List (List ℕ) → List ℕ → Result (List Interval) RegionError
intervals_of names text = if list_all byte.is_blank text then Ok [] else intervals_from names [] (slice_split (λ b. b == code ",") text)

-- the intervals of the first n parameters, in declared order; Missing where one has none
abbrev pub in_order : List Interval → ℕ → Result (List Interval) RegionError
in_order intervals zero = Ok []
in_order intervals (suc n) = in_order intervals n >>= λ front. ok_or (given intervals n) Missing >>= λ interval. Ok (front ++ interval ∷ [])

-- the least common denominator of all ends, 1 where there is none
abbrev pub common_denominator : List Interval → ℕ
common_denominator intervals = fold (λ d i. lcm (lcm d (unsigned_abs i.low.den)) (unsigned_abs i.high.den)) 1 intervals

-- an interval's denominators divide a number
pub record Divides (d : ℕ) (i : Interval) : Type 0 where
  pub low : unsigned_abs i.low.den ∣ d
  pub high : unsigned_abs i.high.den ∣ d

-- A fraction's number over the grid d · 2^depth, where its denominator divides d.
abbrev pub number_over : ℕ → ℕ → Ratio → ℤ
number_over d depth q = q.num *ℤ pos (d / unsigned_abs q.den * 2 ^ depth)

-- an interval's two ends over that grid
abbrev pub span_over : ℕ → ℕ → Interval → ℤ × ℤ
span_over d depth i = (number_over d depth i.low, number_over d depth i.high)

-- both ends are below the limit in size
abbrev pub is_narrow : ℤ × ℤ → Bool
is_narrow s = nat_lt (unsigned_abs s.0) size_limit && nat_lt (unsigned_abs s.1) size_limit

-- the intervals over the grid; Wide where the size of an end is the limit or more
unfoldable pub spans_over : ℕ → ℕ → List Interval → Result Spans RegionError
spans_over d depth intervals = let spans = map (span_over d depth) intervals in if list_all is_narrow spans then Ok spans else Err Wide

-- a rectangle over its grid
pub record Region : Type 0 where
  pub d : ℤ
  pub depth : ℕ
  pub spans : Spans

-- the intervals over the grid that they and the depth call for; Wide where its size, or that of an end over it, is the limit or more
unfoldable pub over_grid : ℕ → List Interval → Result Region RegionError
over_grid depth intervals = let common = common_denominator intervals in
    if nat_lt (common * 2 ^ depth) size_limit
    then (spans_over common depth intervals >>= λ spans. Ok (record { d = pos (common * 2 ^ depth); depth = depth; spans = spans })) else Err Wide

-- the region that a text names, or its first refusal: the clauses from the left, then a parameter without a clause, then a number that is too large
unfoldable pub region : List (List ℕ) → ℕ → List ℕ → Result Region RegionError
region names depth text = do
  intervals ← intervals_of names text
  ordered ← in_order intervals (length names)
  over_grid depth ordered

-- a function's error is what the definition gives, unless memory ran out
abbrev pub Fails : {Y : Type 0} → RegionError → Result Y RegionError → Type 0
Fails Memory r = Unit {0}
Fails e r = r ≡ Err e

-- what a function returned, seen by view, is what the definition gives, unless memory ran out
abbrev pub Gives : {X Y : Type 0} → (X → Y) → Result X RegionError → Result Y RegionError → Type 0
Gives view (Ok x) r = r ≡ Ok (view x)
Gives view (Err e) r = Fails e r
