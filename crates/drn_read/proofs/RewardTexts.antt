-- A text before and behind its first `/`, as the code cuts it.
use Rattle.std.proofs.Common.{◌≡◌, ◌+◌, ◌-◌, ◌<◌, ◌≤◌, ◌==◌, ◌||◌, ℕ, suc, Bool, true, false, not, cond, List, [], ◌∷◌, length, take, drop, Some, None, refl, ap, ◌∙◌, arith, length-drop}
use Rattle.std.specs.List.{list_any, position_or_len}
use Rattle.std.proofs.lemmas.List.{take_all}
use Rattle.lift_frac.specs.Written.{cut_at}

there_step : (b rest : Bool) (n l : ℕ) → (n < l → rest ≡ true) → cond (not b) (1 + n) 0 < suc l → (b || rest) ≡ true
there_step true rest n l more h = refl
there_step false rest n l more h = more (omega arith)

-- whether a byte stands there, by how many stand before it
there : (p : ℕ → Bool) (xs : List ℕ) → position_or_len p xs < length xs → list_any p xs ≡ true
there p [] h = absurd (omega arith)
there p (x ∷ xs) h = there_step (p x) (list_any p xs) (position_or_len p xs) (length xs) (there p xs) h

nowhere_step : (b rest : Bool) (n l : ℕ) → (l ≤ n → rest ≡ false) → suc l ≤ cond (not b) (1 + n) 0 → (b || rest) ≡ false
nowhere_step true rest n l more h = absurd (omega arith)
nowhere_step false rest n l more h = more (omega arith)

nowhere : (p : ℕ → Bool) (xs : List ℕ) → length xs ≤ position_or_len p xs → list_any p xs ≡ false
nowhere p [] h = refl
nowhere p (x ∷ xs) h = nowhere_step (p x) (list_any p xs) (position_or_len p xs) (length xs) (nowhere p xs) h

pub cut_there : (c : ℕ) (xs : List ℕ) (n : ℕ) → n ≡ position_or_len (λ b. b == c) xs → n < length xs → Some (take n xs, take (length xs - (n + 1)) (drop (n + 1) xs)) ≡ cut_at c xs
cut_there c xs n e h =
    let all : take (length xs - (n + 1)) (drop (n + 1) xs) ≡ drop (n + 1) xs = take_all (length xs - (n + 1)) (drop (n + 1) xs) (omega (arith, length-drop (n + 1) xs)) in
    let some : list_any (λ b. b == c) xs ≡ true = there (λ b. b == c) xs (omega (arith, h, e)) in
    rw some (ap (λ (r : List ℕ). Some (take n xs, r)) all ∙ ap (λ k. Some (take k xs, drop (k + 1) xs)) e)

pub cut_nowhere : (c : ℕ) (xs : List ℕ) (n : ℕ) → n ≡ position_or_len (λ b. b == c) xs → length xs ≤ n → None ≡ cut_at c xs
cut_nowhere c xs n e h =
    let none : list_any (λ b. b == c) xs ≡ false = nowhere (λ b. b == c) xs (omega (arith, h, e)) in
    rw none refl
