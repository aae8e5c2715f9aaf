-- Comparing numbers of any length.
use Rattle.std.proofs.Common.{◌≡◌, ℕ, zero, suc, ◌+◌, ◌-◌, ◌*◌, ◌^◌, ◌<◌, ◌≤◌, Bool, true, false, cond, List, [], ◌∷◌, length, take, get_or, refl, sym, ap, ap₂, ◌∙◌, arith}
use Rattle.std.specs.Prelude.{ℤ, pos, negsuc, nat_lt, int_lt, ◌==◌}
use Rattle.std.proofs.Common.{Less, Equal, Greater}
use Rattle.std.proofs.lemmas.Bool.{eqb-true, eqb-false}
use Rattle.std.specs.Ordering.{nat_cmp, ordering_then, is_lt, MatchOrdering}
use Rattle.std.specs.Cmp.{nat_cmp_is}
use Rattle.std.specs.List.{list_all}
use Rattle.std.specs.Char.{is_ascii_digit, digit_value}
use Rattle.std.specs.Str.Parse.{digits_value}
use Rattle.std.proofs.Math.Nat.{mul-le-mul_right, pow-le-pow_right}
use Rattle.std.proofs.lemmas.Bool.{lt-ltb, le-ltb, ltb-true, ltb-false}
use Rattle.std.proofs.lemmas.Int.Digits.{digits_value-lt}
use Rattle.line_text.specs.Words.{are_digits}
use Rattle.line_text.specs.Shown.{signed}
use Rattle.std.specs.Bool.{one_answer}
use Rattle.std.specs.Int.{IsInRange}
use Rattle.std.proofs.lemmas.Bool.Decides.{Decides-eqb, Decides-ltb}
use Rattle.line_text.proofs.Digits.{digits_in, digit_in}
use Rattle.line_text.proofs.LongNumbers.{all_digits, digit_at, digit_is, least_after, first_some, value_next}

-- one digit more
order_more : (a b d e : ℕ) → d < 10 → e < 10 → ordering_then (nat_cmp a b) (nat_cmp d e) ≡ nat_cmp (a * 10 + d) (b * 10 + e)
order_more a b d e hd he = nat_cmp_is (a * 10 + d) (b * 10 + e) (ordering_then (nat_cmp a b) (nat_cmp d e)) (by_tests (nat_lt a b) refl (a == b) refl (nat_lt d e) refl (d == e) refl)
  where
    by_tests : (t : Bool) → nat_lt a b ≡ t → (u : Bool) → (a == b) ≡ u → (v : Bool) → nat_lt d e ≡ v → (w : Bool) → (d == e) ≡ w → MatchOrdering (ordering_then (cond t Less (cond u Equal Greater)) (cond v Less (cond w Equal Greater))) (a * 10 + d < b * 10 + e) (a * 10 + d ≡ b * 10 + e) (b * 10 + e < a * 10 + d)
    by_tests true t u j v k w l = omega (arith, ltb-true a b t, hd)
    by_tests false t true j true k w l = omega (arith, eqb-true a b j, ltb-true d e k)
    by_tests false t true j false k true l = omega (arith, eqb-true a b j, eqb-true d e l)
    by_tests false t true j false k false l = let apart = eqb-false d e l in let least = ltb-false d e k in let same = eqb-true a b j in grind (arith, apart, least, same)
    by_tests false t false j v k w l = let apart = eqb-false a b j in let least = ltb-false a b t in grind (arith, apart, least, he)

pub order_next : (ds es : List ℕ) (i : ℕ) → list_all is_ascii_digit ds ≡ true → list_all is_ascii_digit es ≡ true → i < length ds → i < length es → ordering_then (nat_cmp (digits_value 10 (take i ds)) (digits_value 10 (take i es))) (nat_cmp (get_or ds i 0) (get_or es i 0)) ≡ nat_cmp (digits_value 10 (take (i + 1) ds)) (digits_value 10 (take (i + 1) es))
order_next ds es i p q h k =
    let a = digit_is ds i p h in
    let b = digit_is es i q k in
    ap (ordering_then (nat_cmp (digits_value 10 (take i ds)) (digits_value 10 (take i es)))) (by_bytes (get_or ds i 0) (get_or es i 0) (digit_in (get_or ds i 0) (digit_at ds i p h)) (digit_in (get_or es i 0) (digit_at es i q k)))
    ∙ order_more (digits_value 10 (take i ds)) (digits_value 10 (take i es)) (get_or ds i 0 - 48) (get_or es i 0 - 48) (omega (arith, a)) (omega (arith, b))
    ∙ ap₂ nat_cmp (value_next ds i (digits_value 10 (take i ds)) p h refl) (value_next es i (digits_value 10 (take i es)) q k refl)
  where
    by_bytes : (x y : ℕ) → IsInRange 48 57 x → IsInRange 48 57 y → nat_cmp x y ≡ nat_cmp (x - 48) (y - 48)
    by_bytes x y r s = ap₂ (λ t u. cond t Less (cond u Equal Greater)) (one_answer (nat_lt x y) (nat_lt (x - 48) (y - 48)) (Decides-ltb x y) ((λ t. omega (arith, r, s, ltb-true (x - 48) (y - 48) t)), (λ f. lt-ltb (x - 48) (y - 48) (omega (arith, r, s, f))))) (one_answer (x == y) (x - 48 == y - 48) (Decides-eqb x y) ((λ t. omega (arith, r, s, eqb-true (x - 48) (y - 48) t)), (λ f. (Decides-eqb (x - 48) (y - 48)).1 (ap (λ n. n - 48) f))))

pub below_by_order : (a b : ℕ) → is_lt (nat_cmp a b) ≡ nat_lt a b
below_by_order a b = by_tests (nat_lt a b) (a == b)
  where
    by_tests : (t u : Bool) → is_lt (cond t Less (cond u Equal Greater)) ≡ t
    by_tests true u = refl
    by_tests false true = refl
    by_tests false false = refl

-- fewer digits write a number below
fewer_less : (ds es : List ℕ) → are_digits ds ≡ true → are_digits es ≡ true → length ds < length es → digits_value 10 ds < digits_value 10 es
fewer_less [] es p q h = absurd cc
fewer_less (d ∷ ds) [] p q h = absurd (omega (arith, h))
fewer_less (d ∷ ds) (e ∷ []) p q h = absurd (omega (arith, h))
fewer_less (d ∷ ds) (e ∷ f ∷ es) p q h =
    let top = digits_value-lt 10 (d ∷ ds) (digits_in (d ∷ ds) (all_digits (d ∷ ds) p)) in
    let least = least_after (0 * 10 + digit_value e) (f ∷ es) in
    let some : 1 ≤ 0 * 10 + digit_value e = omega (arith, first_some e f es q) in
    let one : 1 * 10 ^ length (f ∷ es) ≤ (0 * 10 + digit_value e) * 10 ^ length (f ∷ es) = mul-le-mul_right (10 ^ length (f ∷ es)) some in
    let up : 10 ^ length (d ∷ ds) ≤ 10 ^ length (f ∷ es) = pow-le-pow_right {n = 10} (omega arith) (omega (arith, h)) in
    omega (arith, top, least, one, up)

-- how many digits there are tells which number is below, where there aren't as many
pub length_tells : (ds es : List ℕ) → are_digits ds ≡ true → are_digits es ≡ true → (length ds ≡ length es → ⊥) → nat_lt (length ds) (length es) ≡ nat_lt (digits_value 10 ds) (digits_value 10 es)
length_tells ds es p q other = by_test (nat_lt (length ds) (length es)) refl
  where
    by_test : (t : Bool) → nat_lt (length ds) (length es) ≡ t → t ≡ nat_lt (digits_value 10 ds) (digits_value 10 es)
    by_test true e = sym (lt-ltb (digits_value 10 ds) (digits_value 10 es) (fewer_less ds es p q (ltb-true (length ds) (length es) e)))
    by_test false e =
        let least = ltb-false (length ds) (length es) e in
        let fewer : length es < length ds = grind (arith, other, least) in
        let less = fewer_less es ds q p fewer in
        sym (le-ltb (digits_value 10 ds) (digits_value 10 es) (omega (arith, less)))

-- ---- by signs

lt_suc : (a b : ℕ) → nat_lt a b ≡ nat_lt (suc a) (suc b)
lt_suc a b = by_test (nat_lt (suc a) (suc b)) refl
  where
    by_test : (t : Bool) → nat_lt (suc a) (suc b) ≡ t → nat_lt a b ≡ t
    by_test true e = lt-ltb a b (omega (arith, ltb-true (suc a) (suc b) e))
    by_test false e = le-ltb a b (omega (arith, ltb-false (suc a) (suc b) e))

not_below_zero : (n : ℕ) → int_lt (pos n) (pos 0) ≡ true → ⊥
not_below_zero n e = absurd (omega (arith, ltb-true n 0 e))

pub both_below : (p q : Bool) (a b : ℕ) (x y : ℤ) → signed p a ≡ x → signed q b ≡ y → true ≡ int_lt x (pos 0) → true ≡ int_lt y (pos 0) → nat_lt b a ≡ int_lt x y
both_below p q a b x y e f h k = by_signs p q a b (h ∙ ap (λ z. int_lt z (pos 0)) (sym e)) (k ∙ ap (λ z. int_lt z (pos 0)) (sym f)) ∙ ap₂ int_lt e f
  where
    by_signs : (p q : Bool) (a b : ℕ) → true ≡ int_lt (signed p a) (pos 0) → true ≡ int_lt (signed q b) (pos 0) → nat_lt b a ≡ int_lt (signed p a) (signed q b)
    by_signs false q a b h k = absurd (not_below_zero a (sym h))
    by_signs true false a b h k = absurd (not_below_zero b (sym k))
    by_signs true true zero b h k = absurd (not_below_zero 0 (sym h))
    by_signs true true (suc a) zero h k = absurd (not_below_zero 0 (sym k))
    by_signs true true (suc a) (suc b) h k = sym (lt_suc b a)

pub neither_below : (p q : Bool) (a b : ℕ) (x y : ℤ) → signed p a ≡ x → signed q b ≡ y → false ≡ int_lt x (pos 0) → false ≡ int_lt y (pos 0) → nat_lt a b ≡ int_lt x y
neither_below p q a b x y e f h k = by_signs p q a b (h ∙ ap (λ z. int_lt z (pos 0)) (sym e)) (k ∙ ap (λ z. int_lt z (pos 0)) (sym f)) ∙ ap₂ int_lt e f
  where
    by_signs : (p q : Bool) (a b : ℕ) → false ≡ int_lt (signed p a) (pos 0) → false ≡ int_lt (signed q b) (pos 0) → nat_lt a b ≡ int_lt (signed p a) (signed q b)
    by_signs false false a b h k = refl
    by_signs true q (suc a) b h k = absurd cc
    by_signs true true zero (suc b) h k = absurd cc
    by_signs true true zero zero h k = refl
    by_signs true false zero b h k = refl
    by_signs false true a (suc b) h k = absurd cc
    by_signs false true a zero h k = refl

pub apart : (x y : ℤ) → true ≡ int_lt x (pos 0) → false ≡ int_lt y (pos 0) → true ≡ int_lt x y
apart (pos n) y h k = absurd (not_below_zero n (sym h))
apart (negsuc n) (pos m) h k = refl
apart (negsuc n) (negsuc m) h k = absurd cc

pub apart_above : (x y : ℤ) → false ≡ int_lt x (pos 0) → true ≡ int_lt y (pos 0) → false ≡ int_lt x y
apart_above x (pos m) h k = absurd (not_below_zero m (sym k))
apart_above (pos n) (negsuc m) h k = refl
apart_above (negsuc n) (negsuc m) h k = absurd cc
