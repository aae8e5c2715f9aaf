-- Picks, written one by one.
use Rattle.std.proofs.Common.{◌≡◌, ◌≢◌, ℕ, ◌+◌, ◌<◌, ◌≤◌, List, length, set, refl, sym, subst, arith, ◌⊎◌, ⊎_elim, get_or-set_same, get_or-set_other}
use Rattle.corner_lift.specs.Certificate.{mark}
use Rattle.lift_dual.proofs.Inside.{in_or_past}

-- what holds so far holds of one more
pub one_more : (P : ℕ → Type 0) (n : ℕ) → ((b : ℕ) → b < n → P b) → P n → (b : ℕ) → b < n + 1 → P b
one_more P n before here b lt = ⊎_elim (λ (less : b < n). before b less) (λ (le : n ≤ b). subst P (let e : n ≡ b = omega (arith, lt, le) in e) here) (in_or_past b n)

-- what holds of each mark so far, where one more is written
pub written : (P : ℕ → ℕ → Type 0) (marks : List ℕ) (s v : ℕ) → s < length marks → ((t : ℕ) → t < s → P t (mark marks t)) → P s v → (t : ℕ) → t < s + 1 → P t (mark (set marks s v) t)
written P marks s v lt before here t less = ⊎_elim
    (λ (earlier : t < s).
    let ne : t ≢ s = λ e. absurd (omega (arith, e, earlier)) in
    let at : mark (set marks s v) t ≡ mark marks t = rw get_or-set_other refl in
    subst (P t) (sym at) (before t earlier))
    (λ (le : s ≤ t).
    let at : mark (set marks s v) s ≡ v = rw get_or-set_same refl in
    subst (λ i. P i (mark (set marks s v) i)) (let e : s ≡ t = omega (arith, less, le) in e) (subst (P s) (sym at) here))
    (in_or_past t s)
