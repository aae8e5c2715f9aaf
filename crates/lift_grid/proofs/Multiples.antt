-- Least common multiples and the denominators that divide them.
use Rattle.std.proofs.Common.{◌≡◌, ◌<◌, ◌+◌, ℕ, zero, suc, List, [], ◌∷◌, ◌++◌, min, map, take, fold, length, get_or, refl, sym, ap, ◌∙◌, arith}
use Rattle.std.specs.Prelude.{unsigned_abs}
use Rattle.std.specs.Int.{◌∣◌}
use Rattle.std.proofs.lemmas.Nat.Gcd.{dvd_trans}
use Rattle.lift_frac.specs.Gcd.{lcm}
use Rattle.lift_frac.specs.Laws.{LcmIsMultiple, LcmIsAtLeast}
use Rattle.std.proofs.lemmas.List.{map-append, take_more}
use Rattle.std.proofs.lemmas.List.Sums.{fold-append}
use Rattle.lift_grid.specs.Region.{Divides, Interval, common_denominator}
use Rattle.lift_grid.specs.Parts.{ratios_of}
use Rattle.lift_grid.specs.declared.interval.Interval as code

-- the least common multiple with what was cut off at a limit, cut off there
lcm-min : LcmIsAtLeast → (limit a b : ℕ) → 0 < b → min limit (lcm (min limit a) b) ≡ min limit (lcm a b)
lcm-min at_least limit a b above =
    let first = at_least limit b above in
    let second = at_least a b above in
    grind arith

-- two denominators more, each step cut off at the limit
pub two_more : LcmIsAtLeast → (limit d c low high one two : ℕ) → d ≡ min limit c → one ≡ min limit (lcm d low) → two ≡ min limit (lcm one high) → 0 < low → 0 < high → two ≡ min limit (lcm (lcm c low) high)
two_more at_least limit d c low high one two so_far first second above_low above_high =
    let inner : one ≡ min limit (lcm c low) = first ∙ ap (λ x. min limit (lcm x low)) so_far ∙ lcm-min at_least limit c low above_low in
    second ∙ ap (λ x. min limit (lcm x high)) inner ∙ lcm-min at_least limit (lcm c low) high above_high

-- the least common denominator with one interval more
pub common-more : (xs : List code.Interval) (i : ℕ) (x : code.Interval) → i < length xs → x ≡ get_or xs i x
    → common_denominator (map ratios_of (take (i + 1) xs)) ≡ lcm (lcm (common_denominator (map ratios_of (take i xs))) (unsigned_abs x.low.den)) (unsigned_abs x.high.den)
common-more xs i x below is =
    let parts : take (i + 1) xs ≡ take i xs ++ x ∷ [] = take_more xs i x below ∙ ap (λ y. take i xs ++ y ∷ []) (sym is) in
    rw (parts, map-append ratios_of (take i xs) (x ∷ []), fold-append) refl

-- what divides a number divides each least common multiple made of it
kept : LcmIsMultiple → (x : ℕ) (is : List Interval) (d : ℕ) → x ∣ d → x ∣ fold (λ d i. lcm (lcm d (unsigned_abs i.low.den)) (unsigned_abs i.high.den)) d is
kept multiple x [] d h = h
kept multiple x (i ∷ is) d h =
    let low : ℕ = unsigned_abs i.low.den in
    kept multiple x is (lcm (lcm d low) (unsigned_abs i.high.den)) (dvd_trans x (dvd_trans x h (multiple d low).0) (multiple (lcm d low) (unsigned_abs i.high.den)).0)

each_from : LcmIsMultiple → (is : List Interval) (d n : ℕ) (x : Interval) → n < length is → Divides (fold (λ d i. lcm (lcm d (unsigned_abs i.low.den)) (unsigned_abs i.high.den)) d is) (get_or is n x)
each_from multiple [] d n x h = absurd (omega arith)
each_from multiple (i ∷ is) d zero x h =
    let low : ℕ = unsigned_abs i.low.den in
    let high : ℕ = unsigned_abs i.high.den in
    record {
      low = kept multiple low is (lcm (lcm d low) high) (dvd_trans low (multiple d low).1 (multiple (lcm d low) high).0);
      high = kept multiple high is (lcm (lcm d low) high) (multiple (lcm d low) high).1;
    }
each_from multiple (i ∷ is) d (suc n) x h = each_from multiple is (lcm (lcm d (unsigned_abs i.low.den)) (unsigned_abs i.high.den)) n x (omega arith)

-- each denominator divides the least common one
pub each-divides : LcmIsMultiple → (is : List Interval) (n : ℕ) (x : Interval) → n < length is → Divides (common_denominator is) (get_or is n x)
each-divides multiple is n x h = each_from multiple is 1 n x h
