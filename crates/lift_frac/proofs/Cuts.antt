-- Texts that are cut at a byte.
use Rattle.std.proofs.Common.{◌≡◌, ◌==◌, ◌||◌, ◌<◌, ℕ, List, [], ◌∷◌, length, Option, Some, None, Bool, true, false, refl, ap₂, arith, option_map}
use Rattle.std.specs.Prelude.{MatchOption}
use Rattle.std.specs.Borrow.{Bor}
use Rattle.std.specs.List.{list_any, position_or_len, before_first, after_first}
use Rattle.lift_frac.specs.Written.{cut_at}

neither : (a b : Bool) → (a || b) ≡ false → (a ≡ false) × (b ≡ false)
neither false b e = (refl, e)
neither true b e = absurd (cc)

-- where a text has the byte, and where it doesn't
cut_within : (c : ℕ) (text : List ℕ) → list_any (λ b. b == c) text ≡ true → position_or_len (λ b. b == c) text < length text
cut_within c [] e = absurd (cc)
cut_within c (b ∷ text) e = go (cut_within c text) (b == c) refl
  where
    go : (list_any (λ b. b == c) text ≡ true → position_or_len (λ b. b == c) text < length text) → (t : Bool) → (b == c) ≡ t
        → position_or_len (λ b. b == c) (b ∷ text) < length (b ∷ text)
    go rest true is = rw is (omega arith)
    go rest false is = let h = rest (rw is at e) in rw is (omega arith)

cut_nowhere : (c : ℕ) (text : List ℕ) → list_any (λ b. b == c) text ≡ false → position_or_len (λ b. b == c) text ≡ length text
cut_nowhere c [] e = refl
cut_nowhere c (b ∷ text) e =
    let parts = neither (b == c) _ e in
    let rest = cut_nowhere c text parts.1 in
    rw parts.0 (omega arith)

-- what a text split at its first such byte says
pub cut_from : (c : ℕ) (text : List ℕ) (r : Option (Bor (List ℕ) × Bor (List ℕ)))
    → MatchOption r (position_or_len (λ b. b == c) text ≡ length text)
    (λ x. (x.0.now ≡ before_first (λ b. b == c) text) × (x.1.now ≡ after_first (λ b. b == c) text) × (position_or_len (λ b. b == c) text < length text))
    → option_map (λ parts. (parts.0.now, parts.1.now)) r ≡ cut_at c text
cut_from c text r h = go (list_any (λ b. b == c) text) refl r h
  where
    go : (t : Bool) → list_any (λ b. b == c) text ≡ t → (r : Option (Bor (List ℕ) × Bor (List ℕ))) → MatchOption r (position_or_len (λ b. b == c) text ≡ length text)
        (λ x. (x.0.now ≡ before_first (λ b. b == c) text) × (x.1.now ≡ after_first (λ b. b == c) text) × (position_or_len (λ b. b == c) text < length text))
        → option_map (λ parts. (parts.0.now, parts.1.now)) r ≡ cut_at c text
    go true is None h = absurd (omega (arith, h, cut_within c text is))
    go true is (Some x) h = rw is (ap₂ (λ (a b : List ℕ). Some (a, b)) h.0 h.1)
    go false is None h = rw is refl
    go false is (Some x) h = absurd (omega (arith, h.2, cut_nowhere c text is))
