-- The two halves of a rectangle: how often they can be halved, and that they tile it.
use Rattle.std.proofs.Common.{◌≡◌, ℕ, zero, suc, ◌+◌, ◌^◌, ◌<◌, ◌≤◌, [], ◌∷◌, length, get_or, ℤ, pos, ◌+ℤ◌, ◌*ℤ◌, ◌≤ℤ◌, ◌<ℤ◌, unsigned_abs, refl, ◌∙◌, arith, pow-suc, inl, inr}
use Rattle.std.specs.Prelude.{All, Any, ◌⊎◌}
use Rattle.std.specs.List.{AllPairs}
use Rattle.std.proofs.lemmas.Int.{ints, by_lt_z}
use Rattle.std.proofs.lemmas.Nat.{pow_pos}
use Rattle.lift_frac.specs.Limits.{size_limit}
use Rattle.lift_poly.specs.Polynomial.{Valuation}
use Rattle.lift_poly.proofs.Ring.{linear, as_diff, diffs, diff-same, mul-comm, mul-le}
use Rattle.lift_grid.specs.Rectangle.{Spans, Inside, IsSpan, AreSpans, IsMultiple, AreMultiples}
use Rattle.lift_grid.specs.Splitting.{IsHalvable, HasHalvings}
use Rattle.lift_grid.specs.Tree.{Apart, Tiles, middle, lower_half, upper_half}

-- ---- midpoints

middle_is : (low high m : ℤ) → low <ℤ high → low +ℤ high ≡ m *ℤ pos 2 → middle (low, high) ≡ m
middle_is low high m h e = omega (arith, ints)

between : (low high : ℤ) → (low +ℤ pos 2) ≤ℤ high → (low <ℤ middle (low, high)) × (middle (low, high) <ℤ high)
between low high h = (omega (arith, ints), omega (arith, ints))

pub middle_within : (low high : ℤ) → low <ℤ high → (low ≤ℤ middle (low, high)) × (middle (low, high) ≤ℤ high)
middle_within low high h = (omega (arith, ints), omega (arith, ints))

small_middle : (low high m : ℤ) (n : ℕ) → low <ℤ m → m <ℤ high → unsigned_abs low < n → unsigned_abs high < n → unsigned_abs m < n
small_middle low high m n h k a b = omega (arith, ints)

twice_middle : (low high k : ℤ) → (low +ℤ pos 2) ≤ℤ high → low +ℤ high ≡ k *ℤ pos 2 → middle (low, high) +ℤ middle (low, high) ≡ low +ℤ high
twice_middle low high k h e = omega (arith, ints)

-- twice the midpoint of a span that can be halved is the sum of its ends
pub exact : (axis : ℕ) (ss : Spans) → IsHalvable axis ss → let s = get_or ss axis (pos 0, pos 0) in middle s +ℤ middle s ≡ s.0 +ℤ s.1
exact axis ss can = twice_middle _ _ can.even.0 can.apart can.even.1

-- ---- spans

pub length-lower_half : (axis : ℕ) (ss : Spans) → length (lower_half axis ss) ≡ length ss
length-lower_half axis [] = refl
length-lower_half zero (s ∷ ss) = refl
length-lower_half (suc axis) (s ∷ ss) = omega (arith, length-lower_half axis ss)

pub length-upper_half : (axis : ℕ) (ss : Spans) → length (upper_half axis ss) ≡ length ss
length-upper_half axis [] = refl
length-upper_half zero (s ∷ ss) = refl
length-upper_half (suc axis) (s ∷ ss) = omega (arith, length-upper_half axis ss)

halvable-rest : (axis : ℕ) (s : ℤ × ℤ) (ss : Spans) → IsHalvable (suc axis) (s ∷ ss) → IsHalvable axis ss
halvable-rest axis s ss h = record { some = omega (arith, h.some); even = h.even; apart = h.apart }

lower_span : (s : ℤ × ℤ) → IsSpan s → (s.0 +ℤ pos 2) ≤ℤ s.1 → IsSpan (s.0, middle s)
lower_span s h apart =
    let b = between s.0 s.1 apart in
    record { rising = b.0; low = h.low; high = small_middle s.0 s.1 (middle s) size_limit b.0 b.1 h.low h.high }

upper_span : (s : ℤ × ℤ) → IsSpan s → (s.0 +ℤ pos 2) ≤ℤ s.1 → IsSpan (middle s, s.1)
upper_span s h apart =
    let b = between s.0 s.1 apart in
    record { rising = b.1; low = small_middle s.0 s.1 (middle s) size_limit b.0 b.1 h.low h.high; high = h.high }

AreSpans-lower_half : (axis : ℕ) (ss : Spans) → IsHalvable axis ss → AreSpans ss → AreSpans (lower_half axis ss)
AreSpans-lower_half axis [] can h = h
AreSpans-lower_half zero (s ∷ ss) can h = (lower_span s h.0 can.apart, h.1)
AreSpans-lower_half (suc axis) (s ∷ ss) can h = (h.0, AreSpans-lower_half axis ss (halvable-rest axis s ss can) h.1)

AreSpans-upper_half : (axis : ℕ) (ss : Spans) → IsHalvable axis ss → AreSpans ss → AreSpans (upper_half axis ss)
AreSpans-upper_half axis [] can h = h
AreSpans-upper_half zero (s ∷ ss) can h = (upper_span s h.0 can.apart, h.1)
AreSpans-upper_half (suc axis) (s ∷ ss) can h = (h.0, AreSpans-upper_half axis ss (halvable-rest axis s ss can) h.1)

-- ---- multiples

double : (a b p : ℤ) → a *ℤ (pos 2 *ℤ p) +ℤ b *ℤ (pos 2 *ℤ p) ≡ ((a +ℤ b) *ℤ p) *ℤ pos 2
double a b p = rw (as_diff a, as_diff b, as_diff p) (simp diffs (diff-same _ _ _ _ (omega arith)))

twice : (a p : ℤ) → a *ℤ (pos 2 *ℤ p) ≡ (a *ℤ pos 2) *ℤ p
twice a p = rw (as_diff a, as_diff p) (simp diffs (diff-same _ _ _ _ (omega arith)))

times_next : (a q : ℤ) → q *ℤ (a +ℤ pos 1) ≡ a *ℤ q +ℤ q
times_next a q = rw (as_diff a, as_diff q) (simp diffs (diff-same _ _ _ _ (omega arith)))

two_powers : (n : ℕ) → pos (2 ^ suc n) ≡ pos 2 *ℤ pos (2 ^ n)
two_powers n = rw pow-suc (omega (arith, ints))

module _ (n : ℕ) where
  multiple_sum : (low high : ℤ) → IsMultiple (2 ^ suc n) low → IsMultiple (2 ^ suc n) high → (m : ℤ) × (low +ℤ high ≡ (m *ℤ pos (2 ^ n)) *ℤ pos 2)
  multiple_sum low high a b =
      let p = pos (2 ^ n) in
      let l : low ≡ a.0 *ℤ (pos 2 *ℤ p) = rw (two_powers n) at a.1 in
      let h : high ≡ b.0 *ℤ (pos 2 *ℤ p) = rw (two_powers n) at b.1 in
      (a.0 +ℤ b.0, rw (l, h) (double a.0 b.0 p))

  multiple_down : (z : ℤ) → IsMultiple (2 ^ suc n) z → IsMultiple (2 ^ n) z
  multiple_down z a = (a.0 *ℤ pos 2, (let e : z ≡ a.0 *ℤ (pos 2 *ℤ pos (2 ^ n)) = rw (two_powers n) at a.1 in e ∙ twice a.0 (pos (2 ^ n))))

  multiple_apart : (low high : ℤ) → low <ℤ high → IsMultiple (2 ^ suc n) low → IsMultiple (2 ^ suc n) high → (low +ℤ pos 2) ≤ℤ high
  multiple_apart low high rising a b =
      let q = pos (2 ^ suc n) in
      let one : 1 ≤ 2 ^ n = pow_pos n in
      let two : 2 ≤ 2 ^ suc n = rw pow-suc (omega arith) in
      by_lt_z a.0 b.0
      (λ lt. let step = mul-le q (a.0 +ℤ pos 1) b.0 (omega (arith, linear)) (omega (arith, linear, lt)) in
      omega (arith, linear, a.1, b.1, step, times_next a.0 q, mul-comm q b.0, two))
      (λ le. absurd (let step = mul-le q b.0 a.0 (omega (arith, linear)) le in
      omega (arith, linear, a.1, b.1, step, rising, mul-comm q b.0, mul-comm q a.0)))

  down : (ss : Spans) → AreMultiples (2 ^ suc n) ss → AreMultiples (2 ^ n) ss
  down [] h = tt
  down (s ∷ ss) h = ((multiple_down s.0 h.0.0, multiple_down s.1 h.0.1), down ss h.1)

  multiple_middle : (s : ℤ × ℤ) → (s.0 +ℤ pos 2) ≤ℤ s.1 → IsMultiple (2 ^ suc n) s.0 → IsMultiple (2 ^ suc n) s.1 → IsMultiple (2 ^ n) (middle s)
  multiple_middle s apart a b =
      let m = multiple_sum s.0 s.1 a b in
      (m.0, middle_is s.0 s.1 (m.0 *ℤ pos (2 ^ n)) (omega (arith, linear, apart)) m.1)

  multiples-lower_half : (axis : ℕ) (ss : Spans) → IsHalvable axis ss → AreMultiples (2 ^ suc n) ss → AreMultiples (2 ^ n) (lower_half axis ss)
  multiples-lower_half axis [] can h = tt
  multiples-lower_half zero (s ∷ ss) can h = ((multiple_down s.0 h.0.0, multiple_middle s can.apart h.0.0 h.0.1), down ss h.1)
  multiples-lower_half (suc axis) (s ∷ ss) can h =
      ((multiple_down s.0 h.0.0, multiple_down s.1 h.0.1), multiples-lower_half axis ss (halvable-rest axis s ss can) h.1)

  multiples-upper_half : (axis : ℕ) (ss : Spans) → IsHalvable axis ss → AreMultiples (2 ^ suc n) ss → AreMultiples (2 ^ n) (upper_half axis ss)
  multiples-upper_half axis [] can h = tt
  multiples-upper_half zero (s ∷ ss) can h = ((multiple_middle s can.apart h.0.0 h.0.1, multiple_down s.1 h.0.1), down ss h.1)
  multiples-upper_half (suc axis) (s ∷ ss) can h =
      ((multiple_down s.0 h.0.0, multiple_down s.1 h.0.1), multiples-upper_half axis ss (halvable-rest axis s ss can) h.1)

  all_halvable : (axis : ℕ) (ss : Spans) → axis < length ss → AreSpans ss → AreMultiples (2 ^ suc n) ss → IsHalvable axis ss
  all_halvable axis [] lt spans h = absurd (omega arith)
  all_halvable zero (s ∷ ss) lt spans h =
      let m = multiple_sum s.0 s.1 h.0.0 h.0.1 in
      record { some = lt; even = (m.0 *ℤ pos (2 ^ n), m.1); apart = multiple_apart s.0 s.1 spans.0.rising h.0.0 h.0.1 }
  all_halvable (suc axis) (s ∷ ss) lt spans h =
      let rest = all_halvable axis ss (omega arith) spans.1 h.1 in
      record { some = lt; even = rest.even; apart = rest.apart }

next_power : (n : ℕ) (ss : Spans) → HasHalvings (n + 1) ss → AreMultiples (2 ^ suc n) ss
next_power n ss h = let e : n + 1 ≡ suc n = omega arith in rw e at h.multiples

-- where a halving is left, each span can be halved
pub halvable : (n axis : ℕ) (ss : Spans) → HasHalvings (n + 1) ss → axis < length ss → IsHalvable axis ss
halvable n axis ss h below = all_halvable n axis ss below h.spans (next_power n ss h)

-- the halves have one halving less
pub halved : (n axis : ℕ) (ss : Spans) → HasHalvings (n + 1) ss → axis < length ss → HasHalvings n (lower_half axis ss) × HasHalvings n (upper_half axis ss)
halved n axis ss h below =
    let can = halvable n axis ss h below in (
      record { spans = AreSpans-lower_half axis ss can h.spans; multiples = multiples-lower_half n axis ss can (next_power n ss h) },
      record { spans = AreSpans-upper_half axis ss can h.spans; multiples = multiples-upper_half n axis ss can (next_power n ss h) },
    )

-- ---- tiling

-- a factor above 0 on the right keeps the order
times : (a b c : ℤ) → pos 0 <ℤ c → a ≤ℤ b → (a *ℤ c) ≤ℤ (b *ℤ c)
times a b c above h = omega (arith, linear, mul-le c a b (omega (arith, linear, above)) h, mul-comm c a, mul-comm c b)

-- a valuation inside the rectangle lies in one of the halves
in_a_half : (d : ℤ) (axis : ℕ) (ss : Spans) (v : Valuation) → Inside d ss v → Inside d (lower_half axis ss) v ⊎ Inside d (upper_half axis ss) v
in_a_half d axis [] v h = inl h
in_a_half d axis (s ∷ ss) [] h = absurd h
in_a_half d zero (s ∷ ss) (x ∷ v) h =
    by_lt_z (x.0 *ℤ d) (middle s *ℤ x.1)
    (λ lt. inl (h.0, h.1, omega (arith, linear, lt), h.3))
    (λ le. inr (h.0, le, h.2, h.3))
in_a_half d (suc axis) (s ∷ ss) (x ∷ v) h =
    elim (in_a_half d axis ss v h.3) [ inl a ↦ inl (h.0, h.1, h.2, a) | inr b ↦ inr (h.0, h.1, h.2, b) ]

lower_inside : (d : ℤ) (axis : ℕ) (ss : Spans) → AreSpans ss → (v : Valuation) → Inside d (lower_half axis ss) v → Inside d ss v
lower_inside d axis [] spans v h = h
lower_inside d zero (s ∷ ss) spans [] h = absurd h
lower_inside d (suc axis) (s ∷ ss) spans [] h = absurd h
lower_inside d zero (s ∷ ss) spans (x ∷ v) h =
    let most = times (middle s) s.1 x.1 h.0 (middle_within s.0 s.1 spans.0.rising).1 in
    (h.0, h.1, omega (arith, linear, h.2, most), h.3)
lower_inside d (suc axis) (s ∷ ss) spans (x ∷ v) h = (h.0, h.1, h.2, lower_inside d axis ss spans.1 v h.3)

upper_inside : (d : ℤ) (axis : ℕ) (ss : Spans) → AreSpans ss → (v : Valuation) → Inside d (upper_half axis ss) v → Inside d ss v
upper_inside d axis [] spans v h = h
upper_inside d zero (s ∷ ss) spans [] h = absurd h
upper_inside d (suc axis) (s ∷ ss) spans [] h = absurd h
upper_inside d zero (s ∷ ss) spans (x ∷ v) h =
    let least = times s.0 (middle s) x.1 h.0 (middle_within s.0 s.1 spans.0.rising).0 in
    (h.0, omega (arith, linear, h.1, least), h.2, h.3)
upper_inside d (suc axis) (s ∷ ss) spans (x ∷ v) h = (h.0, h.1, h.2, upper_inside d axis ss spans.1 v h.3)

-- the lower half ends where the upper one begins
halves_apart : (axis : ℕ) (ss : Spans) → axis < length ss → Apart (lower_half axis ss) (upper_half axis ss)
halves_apart axis [] below = absurd (omega arith)
halves_apart zero (s ∷ ss) below = inl (omega (arith, linear))
halves_apart (suc axis) (s ∷ ss) below = inr (inr (halves_apart axis ss (omega arith)))

-- what holds of two holds of a list of the two
module _ {X : Type 0} where
  any_of_two : (P : X → Type 0) (a b : X) → P a ⊎ P b → Any P (a ∷ b ∷ [])
  any_of_two P a b h = elim h [ inl p ↦ (0, a, omega arith, refl, p) | inr p ↦ (1, b, omega arith, refl, p) ]

  all_of_two : (P : X → Type 0) (a b : X) → P a → P b → All P (a ∷ b ∷ [])
  all_of_two P a b p q zero d h = p
  all_of_two P a b p q (suc zero) d h = q
  all_of_two P a b p q (suc (suc i)) d h = absurd (omega arith)

  pair_of_two : (R : X → X → Type 0) (a b : X) → R a b → AllPairs R (a ∷ b ∷ [])
  pair_of_two R a b r zero zero d h k = absurd (omega arith)
  pair_of_two R a b r zero (suc zero) d h k = r
  pair_of_two R a b r zero (suc (suc j)) d h k = absurd (omega arith)
  pair_of_two R a b r (suc i) zero d h k = absurd (omega arith)
  pair_of_two R a b r (suc i) (suc j) d h k = absurd (omega arith)

-- the two halves tile the rectangle
pub tiled : (d : ℤ) (axis : ℕ) (ss : Spans) → AreSpans ss → axis < length ss → Tiles d ss (lower_half axis ss ∷ upper_half axis ss ∷ [])
tiled d axis ss spans below =
    record {
      cover = λ v h. any_of_two (λ half. Inside d half v) (lower_half axis ss) (upper_half axis ss) (in_a_half d axis ss v h);
      within = all_of_two (λ half. (v : Valuation) → Inside d half v → Inside d ss v) (lower_half axis ss) (upper_half axis ss) (lower_inside d axis ss spans) (upper_inside d axis ss spans);
      apart = pair_of_two Apart (lower_half axis ss) (upper_half axis ss) (halves_apart axis ss below);
    }
