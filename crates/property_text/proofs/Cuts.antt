-- What stands at the front of a text, and before and behind a byte.
use Rattle.std.proofs.Common.{◌≡◌, ◌+◌, ◌-◌, ◌<◌, ◌≤◌, ◌==◌, ◌&&◌, ◌||◌, ℕ, suc, Bool, true, false, not, cond, List, [], ◌∷◌, ◌++◌, length, take, drop, get_or, Option, Some, None, refl, sym, ap, ap₂, ◌∙◌, arith, length-drop, length-append, append_assoc, append-nil}
use Rattle.std.specs.List.{list_all, list_any, prefix_len, position_or_len, take_while, before_first, after_first}
use Rattle.std.specs.Option.{unwrap_or}
use Rattle.std.proofs.Math.Seq.{take-append_seam, drop-append_seam}
use Rattle.std.proofs.lemmas.Bool.Decides.{nat_tests}
use Rattle.std.proofs.lemmas.List.Sums.{split_at_first, passes_at_first}
use Rattle.std.proofs.lemmas.List.{take_all, take-append-drop}
use Rattle.lift_bytes.specs.Bytes.{first_passes, behind}
use Rattle.lift_frac.specs.Written.{cut_at}

there_step : (b rest : Bool) (n l : ℕ) → (n < l → rest ≡ true) → cond (not b) (1 + n) 0 < suc l → (b || rest) ≡ true
there_step true rest n l more h = refl
there_step false rest n l more h = more (omega arith)

-- whether a byte stands there, by how many stand before it
there : (p : ℕ → Bool) (xs : List ℕ) → position_or_len p xs < length xs → list_any p xs ≡ true
there p [] h = absurd (omega arith)
there p (x ∷ xs) h = there_step (p x) (list_any p xs) (position_or_len p xs) (length xs) (there p xs) h

nowhere_step : (b rest : Bool) (n l : ℕ) → (l ≤ n → rest ≡ false) → suc l ≤ cond (not b) (1 + n) 0 → (b || rest) ≡ false
nowhere_step true rest n l more h = absurd (omega arith)
nowhere_step false rest n l more h = more (omega arith)

nowhere : (p : ℕ → Bool) (xs : List ℕ) → length xs ≤ position_or_len p xs → list_any p xs ≡ false
nowhere p [] h = refl
nowhere p (x ∷ xs) h = nowhere_step (p x) (list_any p xs) (position_or_len p xs) (length xs) (nowhere p xs) h

-- as the code cuts
pub cut_there : (c : ℕ) (xs : List ℕ) (n : ℕ) → n ≡ position_or_len (λ b. b == c) xs → n < length xs → Some (take n xs, take (length xs - (n + 1)) (drop (n + 1) xs)) ≡ cut_at c xs
cut_there c xs n e h =
    let all : take (length xs - (n + 1)) (drop (n + 1) xs) ≡ drop (n + 1) xs = take_all (length xs - (n + 1)) (drop (n + 1) xs) (omega (arith, length-drop (n + 1) xs)) in
    let some : list_any (λ b. b == c) xs ≡ true = there (λ b. b == c) xs (omega (arith, h, e)) in
    rw some (ap (λ (r : List ℕ). Some (take n xs, r)) all ∙ ap (λ k. Some (take k xs, drop (k + 1) xs)) e)

pub cut_nowhere : (c : ℕ) (xs : List ℕ) (n : ℕ) → n ≡ position_or_len (λ b. b == c) xs → length xs ≤ n → None ≡ cut_at c xs
cut_nowhere c xs n e h =
    let none : list_any (λ b. b == c) xs ≡ false = nowhere (λ b. b == c) xs (omega (arith, h, e)) in
    rw none refl

-- ---- texts that are put together

front_step : (b rest : Bool) (n l : ℕ) → (rest ≡ true → n ≡ l) → (b && rest) ≡ true → cond b (1 + n) 0 ≡ suc l
front_step true rest n l more h = omega (arith, more h)
front_step false rest n l more h = cc

-- a front that passes is the longest one where what follows fails
pub front_len : (p : ℕ → Bool) (xs ys : List ℕ) → list_all p xs ≡ true → first_passes p ys ≡ false → prefix_len p (xs ++ ys) ≡ length xs
front_len p [] [] h e = refl
front_len p [] (y ∷ ys) h e = rw e refl
front_len p (x ∷ xs) ys h e = front_step (p x) (list_all p xs) (prefix_len p (xs ++ ys)) (length xs) (λ k. front_len p xs ys k e) h

pub behind_front : (p : ℕ → Bool) (xs ys : List ℕ) → list_all p xs ≡ true → first_passes p ys ≡ false → behind p (xs ++ ys) ≡ ys
behind_front p xs ys h e = ap (λ n. drop n (xs ++ ys)) (front_len p xs ys h e) ∙ drop-append_seam xs ys

pub front_is : (p : ℕ → Bool) (xs ys : List ℕ) → list_all p xs ≡ true → first_passes p ys ≡ false → take_while p (xs ++ ys) ≡ xs
front_is p xs ys h e = ap (λ n. take n (xs ++ ys)) (front_len p xs ys h e) ∙ take-append_seam xs ys

all_step : (b : Bool) (x : ℕ) (xs : List ℕ) (p : ℕ → Bool) → p x ≡ b → list_all p (take (prefix_len p xs) xs) ≡ true → list_all p (take (cond b (1 + prefix_len p xs) 0) (x ∷ xs)) ≡ true
all_step true x xs p e more =
    let next : 1 + prefix_len p xs ≡ suc (prefix_len p xs) = omega arith in
    ap (λ n. list_all p (take n (x ∷ xs))) next ∙ (rw e more)
all_step false x xs p e more = refl

-- the longest front that passes does
pub front_passes : (p : ℕ → Bool) (xs : List ℕ) → list_all p (take_while p xs) ≡ true
front_passes p [] = refl
front_passes p (x ∷ xs) = all_step (p x) x xs p refl (front_passes p xs)

pub parted : (p : ℕ → Bool) (xs : List ℕ) → xs ≡ take_while p xs ++ behind p xs
parted p xs = sym (take-append-drop (prefix_len p xs) xs)

-- a text is cut at its first byte c
pub cut_first : (c : ℕ) (xs ys : List ℕ) → list_all (λ b. not (b == c)) xs ≡ true → (c == c) ≡ true → cut_at c (xs ++ c ∷ ys) ≡ Some (xs, ys)
cut_first c xs ys h same =
    let fails : first_passes (λ b. not (b == c)) (c ∷ ys) ≡ false = rw same refl in
    let len = front_len (λ b. not (b == c)) xs (c ∷ ys) h fails in
    let some : list_any (λ b. b == c) (xs ++ c ∷ ys) ≡ true = there (λ b. b == c) (xs ++ c ∷ ys) (omega (arith, len, length-append xs (c ∷ ys))) in
    let next : length xs + 1 ≡ length (xs ++ c ∷ []) = omega (arith, length-append xs (c ∷ [])) in
    rw some (ap (λ n. Some (take n (xs ++ c ∷ ys), drop (n + 1) (xs ++ c ∷ ys))) len ∙ ap₂ (λ a b. Some (a, b)) (take-append_seam xs (c ∷ ys)) (ap (λ n. drop n (xs ++ c ∷ ys)) next ∙ ap (drop (length (xs ++ c ∷ []))) (sym (append_assoc xs (c ∷ []) ys)) ∙ drop-append_seam (xs ++ c ∷ []) ys))

pub cut_none : (c : ℕ) (xs : List ℕ) → list_all (λ b. not (b == c)) xs ≡ true → cut_at c xs ≡ None
cut_none c xs h =
    let len = front_len (λ b. not (b == c)) xs [] h refl in
    let none : list_any (λ b. b == c) xs ≡ false = nowhere (λ b. b == c) xs (omega (arith, sym (ap (prefix_len (λ b. not (b == c))) (append-nil xs)) ∙ len)) in
    rw none refl

any_step : (b rest : Bool) (n l : ℕ) → (rest ≡ true → n < l) → (b || rest) ≡ true → cond (not b) (1 + n) 0 < suc l
any_step true rest n l more h = omega arith
any_step false rest n l more h = omega (arith, more h)

place_within : (p : ℕ → Bool) (xs : List ℕ) → list_any p xs ≡ true → position_or_len p xs < length xs
place_within p [] h = cc
place_within p (x ∷ xs) h = any_step (p x) (list_any p xs) (position_or_len p xs) (length xs) (place_within p xs) h

cut_cases : (b : Bool) (ls rs us vs : List ℕ) → cond {A = Option (List ℕ × List ℕ)} b (Some (us, vs)) None ≡ Some (ls, rs) → (b ≡ true) × (us ≡ ls) × (vs ≡ rs)
cut_cases true ls rs us vs h = (refl, ap (λ (o : Option (List ℕ × List ℕ)). (unwrap_or o ([], [])).0) h, ap (λ (o : Option (List ℕ × List ℕ)). (unwrap_or o ([], [])).1) h)
cut_cases false ls rs us vs h = cc

same_byte : (x c : ℕ) → (x == c) ≡ true → x ≡ c
same_byte x c e = grind (arith, nat_tests)

-- what was cut, put together
pub cut_back : (c : ℕ) (xs ls rs : List ℕ) → cut_at c xs ≡ Some (ls, rs) → xs ≡ ls ++ c ∷ rs
cut_back c xs ls rs h =
    let p : ℕ → Bool = λ b. b == c in
    let is = cut_cases (list_any p xs) ls rs (before_first p xs) (after_first p xs) h in
    let within = place_within p xs is.0 in
    split_at_first p xs 0 within ∙ ap₂ (λ a b. a ++ b) is.1 (ap₂ ◌∷◌ (same_byte (get_or xs (position_or_len p xs) 0) c (passes_at_first p xs 0 within)) is.2)
