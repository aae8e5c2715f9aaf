-- How the lines of a tree for a number of steps are written.
use Rattle.std.proofs.Common.{◌≡◌, ℕ, suc, ◌+◌, ◌-◌, ◌<◌, List, [], ◌∷◌, ◌++◌, ℤ, map, codes, refl, sym, ap, ◌∙◌, arith, append_assoc}
use Rattle.std.specs.List.{flat_map}
use Rattle.std.specs.Fmt.{decimal, signed_decimal}
use Prim.Native.Char.{code}
use Rattle.cert_text.specs.Report.{line, mark_word}
use Rattle.lift_bounded.specs.Steps.{nth, LowersData}
use Rattle.lift_bounded.specs.Text.{for_steps, lower_text, numbers_line, choices_line, reject_line}

line-words : {X : Type 0} (f : X → List ℕ) (word : List ℕ) (xs : List X) → line (word ∷ map f xs) ≡ word ++ (flat_map (λ x. code " " ∷ f x) xs ++ codes "\n")
line-words f word [] = refl
line-words f word (x ∷ xs) = ap (λ (r : List ℕ). word ++ (code " " ∷ r)) (line-words f (f x) xs ∙ sym (append_assoc (f x) (flat_map (λ x. code " " ∷ f x) xs) (codes "\n")))

-- a line for n steps
pub step-line : {X : Type 0} (f : X → List ℕ) (key : List ℕ) (n : ℕ) (xs : List X) → line (key ∷ decimal n ∷ map f xs) ≡ key ++ (codes " " ++ (decimal n ++ (flat_map (λ x. code " " ∷ f x) xs ++ codes "\n")))
step-line f key n xs = ap (λ (r : List ℕ). key ++ (codes " " ++ r)) (line-words f (decimal n) xs)

-- the next one of the texts for steps, and those behind it
pub next_step : (text : ℕ → List ℕ) (n h : ℕ) → n < h → for_steps text (n + 1) (h - n) ≡ text (n + 1) ++ for_steps text (n + 1 + 1) (h - (n + 1))
next_step text n h lt = let more : h - n ≡ suc (h - (n + 1)) = omega (arith, lt) in ap (for_steps text (n + 1)) more

-- the choices for n steps, as they are written
pub picks-line : (n : ℕ) (picks : List ℕ) → choices_line n picks ≡ (codes "choice " ++ decimal n) ++ (flat_map (λ m. code " " ∷ mark_word m) picks ++ codes "\n")
picks-line n picks = step-line mark_word (codes "choice") n picks ∙ sym (append_assoc (codes "choice ") (decimal n) (flat_map (λ m. code " " ∷ mark_word m) picks ++ codes "\n"))

-- the first line of a rejecting leaf, as it is written
pub reached-line : (y : ℤ) (z : ℕ) → reject_line y z ≡ codes "reject b " ++ (signed_decimal y ++ (codes "/" ++ (decimal z ++ codes "\n")))
reached-line y z = ap (λ (rest : List ℕ). codes "reject b " ++ rest) (append_assoc (signed_decimal y) (codes "/" ++ decimal z) (codes "\n"))

-- the lower vector of n + 1 steps with its choices
pub lower-text : (r : LowersData) (n : ℕ) → lower_text r (n + 1) ≡ numbers_line (codes "y") (n + 1) (nth r.numbers (n + 1)) ++ choices_line (n + 1) (nth r.picks n)
lower-text r n = let same : n + 1 - 1 ≡ n = omega arith in ap (λ i. numbers_line (codes "y") (n + 1) (nth r.numbers (n + 1)) ++ choices_line (n + 1) (nth r.picks i)) same
