-- What the marks of states stay below, state by state.
use Rattle.std.proofs.Common.{◌≡◌, ℕ, zero, suc, ◌<◌, ◌≤◌, List, [], ◌∷◌, length, get_or, Option, Some, None, refl, arith}
use Rattle.std.proofs.lemmas.List.{get_or-map, length-map}
use Rattle.cert_text.specs.Left.{ends_of}

pub ends_count : {A : Type 0} (limit : Option ℕ) (states : List (List A)) → length (ends_of limit states) ≡ length states
ends_count None states = length-map states length
ends_count (Some n) states = length-map states (λ _. n)

past : (xs : List ℕ) (i : ℕ) → length xs ≤ i → get_or xs i 0 ≡ 0
past [] zero h = refl
past [] (suc i) h = refl
past (x ∷ xs) zero h = absurd (omega (arith, h))
past (x ∷ xs) (suc i) h = past xs i (omega (arith, h))

pub end_past : {A : Type 0} (limit : Option ℕ) (states : List (List A)) (i : ℕ) → length (ends_of limit states) ≤ i → get_or (ends_of limit states) i 0 ≡ 0
end_past limit states i h = past (ends_of limit states) i h

pub end_choices : {A : Type 0} (states : List (List A)) (i : ℕ) → i < length states → get_or (ends_of None states) i 0 ≡ length (get_or states i [])
end_choices states i h = get_or-map length states i [] 0 h

pub end_limit : {A : Type 0} (n : ℕ) (states : List (List A)) (i : ℕ) → i < length states → get_or (ends_of (Some n) states) i 0 ≡ n
end_limit n states i h = get_or-map (λ _. n) states i [] 0 h
