-- A word that writes a number is that number's decimal text.
use Rattle.std.proofs.Common.{◌≡◌, ◌≢◌, ℕ, zero, suc, ◌+◌, ◌*◌, ◌/◌, ◌%◌, ◌^◌, ◌<◌, ◌≤◌, Bool, true, false, cond, not, ◌&&◌, List, [], ◌∷◌, ◌++◌, get_or, Option, Some, None, refl, sym, ap, subst, ◌∙◌, append_assoc, arith}
use Rattle.std.specs.Prelude.{ℤ, pos, negsuc, unsigned_abs, ◌==◌}
use Rattle.std.specs.List.{list_all}
use Rattle.std.specs.Char.{is_ascii_digit, digit_value}
use Rattle.std.specs.Int.{IsInRange}
use Rattle.std.specs.Str.Parse.{AllDigits, digits_value, digits_value_after}
use Rattle.std.specs.Fmt.{decimal, signed_decimal}
use Rattle.std.proofs.lemmas.Fmt.{decimal_is_IsNumeral_wide, decimal_step_wide, decimal_digit, decimal_by_steps_wide}
use Rattle.std.proofs.lemmas.Bool.{eqb-true}
use Rattle.std.proofs.lemmas.List.Folds.{list_all-append}
use Rattle.std.specs.Option.{option_map}
use Rattle.std.proofs.lemmas.List.{append-nil}
use Rattle.std.proofs.lemmas.Str.{digit_value_digit}
use Rattle.std.proofs.lemmas.Str.Parse.{digit_from_value}
use Rattle.line_text.specs.Words.{are_digits, natural_of, number_of, below_zero}

-- ---- digits

digit_in : (c : ℕ) → is_ascii_digit c ≡ true → IsInRange 48 57 c
digit_in c e = grind (arith, e)

digit_of : (c : ℕ) → digit_value c < 10 → is_ascii_digit c ≡ true
digit_of c h = grind (arith, digit_from_value c h)

and_left : (a b : Bool) → (a && b) ≡ true → a ≡ true
and_left true b e = refl
and_left false b e = absurd cc

pub and_right : (a b : Bool) → (a && b) ≡ true → b ≡ true
and_right true b e = e
and_right false b e = absurd cc

digits_in : (ds : List ℕ) → list_all is_ascii_digit ds ≡ true → AllDigits 10 ds
digits_in [] e = tt
digits_in (d ∷ ds) e =
    let r = digit_in d (and_left _ _ e) in
    (omega (arith, digit_value_digit d r, r), digits_in ds (and_right _ _ e))

digits_from : (ds : List ℕ) → AllDigits 10 ds → list_all is_ascii_digit ds ≡ true
digits_from [] d = refl
digits_from (c ∷ cs) d = rw (digit_of c d.0, digits_from cs d.1) refl

-- ---- from digits to a number and back

le_value_after : (n : ℕ) (ds : List ℕ) → n ≤ digits_value_after 10 n ds
le_value_after n [] = omega arith
le_value_after n (c ∷ cs) = omega (arith, le_value_after (n * 10 + digit_value c) cs)

value_after : (n : ℕ) (ds : List ℕ) → 0 < n → AllDigits 10 ds → digits_value_after 10 n ds < 10 ^ 64 → decimal (digits_value_after 10 n ds) ≡ decimal n ++ ds
value_after n [] some d small = sym (append-nil (decimal n))
value_after n (c ∷ cs) some d small =
    let m : ℕ = n * 10 + digit_value c in
    let k = digit_value_digit c (digit_from_value c d.0) in
    let front : m / 10 ≡ n = omega (arith, d.0) in
    let end : 48 + m % 10 ≡ c = omega (arith, d.0) in
    value_after m cs (omega arith) d.1 small
    ∙ ap (λ x. x ++ cs) (decimal_step_wide m (omega arith) (omega (arith, le_value_after m cs)) ∙ (λ i. decimal (front i) ++ (end i ∷ [])))
    ∙ append_assoc (decimal n) (c ∷ []) cs

not_zero : (d : ℕ) → not (d == 48) ≡ true → d ≡ 48 → ⊥
not_zero d e refl = absurd cc

pub natural_back : (w : List ℕ) → are_digits w ≡ true → digits_value 10 w < 10 ^ 64 → decimal (digits_value 10 w) ≡ w
natural_back [] e small = absurd cc
natural_back (c ∷ []) e small =
    let r : IsInRange 48 57 c = digit_in c e in
    let k = digit_value_digit c r in
    decimal_digit (0 * 10 + digit_value c) (omega (arith, r)) ∙ ap (λ x. x ∷ []) (omega arith)
natural_back (c ∷ d ∷ ds) e small =
    let a : is_ascii_digit c && list_all is_ascii_digit (d ∷ ds) ≡ true = and_right (not (c == 48)) (is_ascii_digit c && list_all is_ascii_digit (d ∷ ds)) e in
    let r : IsInRange 48 57 c = digit_in c (and_left (is_ascii_digit c) (list_all is_ascii_digit (d ∷ ds)) a) in
    let k = digit_value_digit c r in
    let no : c ≡ 48 → ⊥ = not_zero c (and_left (not (c == 48)) (is_ascii_digit c && list_all is_ascii_digit (d ∷ ds)) e) in
    let is : 48 + (0 * 10 + digit_value c) ≡ c = omega arith in
    let some : 0 < 0 * 10 + digit_value c = grind (arith, k, no) in
    value_after (0 * 10 + digit_value c) (d ∷ ds) some (digits_in (d ∷ ds) (and_right (is_ascii_digit c) (list_all is_ascii_digit (d ∷ ds)) a)) small
    ∙ ap (λ x. x ++ (d ∷ ds)) (decimal_digit (0 * 10 + digit_value c) (omega (arith, r)) ∙ ap (λ x. x ∷ []) is)

-- one digit more
more_digits : (ds : List ℕ) (c : ℕ) → are_digits ds ≡ true → get_or ds 0 0 ≢ 48 → is_ascii_digit c ≡ true → are_digits (ds ++ c ∷ []) ≡ true
more_digits [] c e other d = absurd cc
more_digits (b ∷ []) c e other d = let n : (b == 48) ≡ false = grind (arith, other) in rw (n, e, d) refl
more_digits (b ∷ a ∷ ds) c e other d =
    let n : (b == 48) ≡ false = grind (arith, other) in
    let all : list_all is_ascii_digit (b ∷ a ∷ ds) ≡ true = and_right (not (b == 48)) (list_all is_ascii_digit (b ∷ a ∷ ds)) e in
    let more : list_all is_ascii_digit ((b ∷ a ∷ ds) ++ c ∷ []) ≡ true = list_all-append is_ascii_digit (b ∷ a ∷ ds) (c ∷ []) ∙ rw (all, d) refl in
    rw (n, more) refl

record Plain (n : ℕ) (ds : List ℕ) : Type 0 where
  digits : are_digits ds ≡ true
  above : 0 < n → get_or ds 0 0 ≢ 48

plain_one : (n : ℕ) → n < 10 → Plain n ((48 + n) ∷ [])
plain_one n h = record { digits = digit_from (48 + n) (omega arith) (omega arith); above = λ some e. omega (arith, e, some) }
  where
    digit_from : (c : ℕ) → 48 ≤ c → c ≤ 57 → is_ascii_digit c ≡ true
    digit_from c a b = grind arith

plain_more : (n : ℕ) (ds : List ℕ) → 10 ≤ n → Plain (n / 10) ds → Plain n (ds ++ (48 + n % 10) ∷ [])
plain_more n [] h p = let e = p.digits in absurd cc
plain_more n (d ∷ ds) h p = record {
  digits = more_digits (d ∷ ds) (48 + n % 10) p.digits (p.above (omega arith)) (digit_from (48 + n % 10) (omega arith) (omega arith));
  above = λ some. p.above (omega arith);
}
  where
    digit_from : (c : ℕ) → 48 ≤ c → c ≤ 57 → is_ascii_digit c ≡ true
    digit_from c a b = grind arith

pub decimal_digits : (n : ℕ) → n < 10 ^ 64 → are_digits (decimal n) ≡ true
decimal_digits n small = (decimal_by_steps_wide Plain plain_one plain_more n small).digits

-- ---- naturals

pub natural_is : (w : List ℕ) (n : ℕ) → natural_of w ≡ Some n → (are_digits w ≡ true) × (digits_value 10 w ≡ n)
natural_is w n e = by_test (are_digits w) (digits_value 10 w) n e
  where
    by_test : (b : Bool) (v n : ℕ) → cond b (Some v) None ≡ Some n → (b ≡ true) × (v ≡ n)
    by_test true v n e = (refl, cc)
    by_test false v n e = absurd cc

-- ---- numbers

below_is : (o : Option ℕ) (z : ℤ) → below_zero o ≡ Some z → (n : ℕ) × (o ≡ Some (suc n)) × (z ≡ negsuc n)
below_is None z e = absurd cc
below_is (Some zero) z e = absurd cc
below_is (Some (suc n)) z e = (n, refl, cc)

map_is : (o : Option ℕ) (z : ℤ) → option_map pos o ≡ Some z → (n : ℕ) × (o ≡ Some n) × (z ≡ pos n)
map_is None z e = absurd cc
map_is (Some n) z e = (n, refl, cc)

back_by : (b : ℕ) (ds : List ℕ) (z : ℤ) (t : Bool) → (b == 45) ≡ t → cond t (below_zero (natural_of ds)) (option_map pos (natural_of (b ∷ ds))) ≡ Some z → unsigned_abs z < 10 ^ 64 → signed_decimal z ≡ b ∷ ds
back_by b ds z true t e small =
    let m = below_is (natural_of ds) z e in
    let n = natural_is ds (suc m.0) m.1 in
    let same : b ≡ 45 = eqb-true b 45 t in
    let limit : suc m.0 < 10 ^ 64 = subst (λ y. unsigned_abs y < 10 ^ 64) m.2 small in
    ap signed_decimal m.2 ∙ ap (λ k. 45 ∷ decimal k) (sym n.1) ∙ ap (λ k. 45 ∷ k) (natural_back ds n.0 (subst (λ k. k < 10 ^ 64) (sym n.1) limit)) ∙ ap (λ k. k ∷ ds) (sym same)
back_by b ds z false t e small =
    let m = map_is (natural_of (b ∷ ds)) z e in
    let n = natural_is (b ∷ ds) m.0 m.1 in
    let limit : m.0 < 10 ^ 64 = subst (λ y. unsigned_abs y < 10 ^ 64) m.2 small in
    ap signed_decimal m.2 ∙ ap decimal (sym n.1) ∙ natural_back (b ∷ ds) n.0 (subst (λ k. k < 10 ^ 64) (sym n.1) limit)

pub number_back : (w : List ℕ) (z : ℤ) → number_of w ≡ Some z → unsigned_abs z < 10 ^ 64 → signed_decimal z ≡ w
number_back [] z e small = absurd cc
number_back (b ∷ ds) z e small = back_by b ds z (b == 45) refl e small

pub digits_first : (b : ℕ) (ds : List ℕ) → are_digits (b ∷ ds) ≡ true → (b == 45) ≡ false
digits_first b [] e = let r = digit_in b e in grind (arith, r)
digits_first b (d ∷ ds) e =
    let r : IsInRange 48 57 b = digit_in b (and_left (is_ascii_digit b) (list_all is_ascii_digit (d ∷ ds)) (and_right (not (b == 48)) (is_ascii_digit b && list_all is_ascii_digit (d ∷ ds)) e)) in
    grind (arith, r)

-- digits write a number from 0 on
number_natural : (w : List ℕ) → are_digits w ≡ true → number_of w ≡ Some (pos (digits_value 10 w))
number_natural [] e = absurd cc
number_natural (b ∷ ds) e = rw (digits_first b ds e, e) refl

pub number_again : (z : ℤ) → unsigned_abs z < 10 ^ 64 → number_of (signed_decimal z) ≡ Some z
number_again (pos n) small = number_natural (decimal n) (decimal_digits n small) ∙ ap (λ k. Some (pos k)) (decimal_is_IsNumeral_wide n small).1
number_again (negsuc n) small = rw (decimal_digits (suc n) small, (decimal_is_IsNumeral_wide (suc n) small).1) refl
