-- Rows of two entries in the table of a rectangle: what their blocks have at each corner.
use Rattle.std.proofs.Common.{◌≡◌, ℕ, suc, ◌+◌, ◌-◌, ◌*◌, ◌<◌, ◌≤◌, List, [], ◌∷◌, length, take, drop, get_or, slice_range, ℤ, pos, refl, sym, ap, ap₂, ◌∙◌, arith, drop-cons, mul-le-mul_left}
use Rattle.std.proofs.lemmas.List.{get_or-take, get_or-drop, length-take-le, length-drop}
use Rattle.lift_model.specs.declared.layout.RowPlace.{RowPlace}
use Rattle.corner_lift.specs.Case.{number}
use Rattle.corner_lift.specs.Dot.{corner_part}
use Rattle.corner_lift.specs.Pairs.{HasPair}

-- a list of two
pub two_of : (ts : List ℕ) → length ts ≡ 2 → ts ≡ get_or ts 0 0 ∷ get_or ts 1 0 ∷ []
two_of [] size = absurd (omega (arith, size))
two_of (a ∷ []) size = absurd (omega (arith, size))
two_of (a ∷ b ∷ []) size = refl
two_of (a ∷ b ∷ c ∷ ts) size = absurd (omega (arith, size))

room_at : (c corners : ℕ) → c < corners → 2 * c + 2 ≤ 2 * corners
room_at c corners lt = let more : 2 * suc c ≤ 2 * corners = mul-le-mul_left 2 (let e : suc c ≤ corners = omega (arith, lt) in e) in omega (arith, more)

module _ (weights : List ℤ) (place : RowPlace) (count : place.count ≡ 2) (ends : place.weights + place.count * place.corners ≤ length weights) (block : List ℤ) (is : block ≡ slice_range weights place.weights (place.weights + place.count * place.corners)) where
  size : length block ≡ 2 * place.corners
  size =
      let some : place.weights + place.count * place.corners - place.weights ≤ length (drop place.weights weights) = omega (arith, ends, length-drop place.weights weights) in
      ap length is ∙ length-take-le (place.weights + place.count * place.corners - place.weights) (drop place.weights weights) some ∙ omega (arith, ap (λ n. n * place.corners) count)

  pub corner_inside : (c : ℕ) → HasPair block c → c < place.corners
  corner_inside c has = omega (arith, has, size)

  pub corner_has : (c : ℕ) → c < place.corners → HasPair block c
  corner_has c lt = omega (arith, room_at c place.corners lt, size)

  -- a number of the block is one of the table
  at_block : (j : ℕ) → j < 2 * place.corners → number block j ≡ number weights (place.weights + j)
  at_block j lt =
      let end : j < place.weights + place.count * place.corners - place.weights = omega (arith, lt, ap (λ n. n * place.corners) count) in
      ap (λ (b : List ℤ). number b j) is
      ∙ get_or-take (place.weights + place.count * place.corners - place.weights) (drop place.weights weights) j (pos 0) end
      ∙ get_or-drop place.weights weights j (pos 0)

  pub corner_of_block : (c : ℕ) → c < place.corners → corner_part weights place c ≡ number block (2 * c) ∷ number block (2 * c + 1) ∷ []
  corner_of_block c lt =
      let at = place.weights + 2 * c in
      let inside : at + 2 ≤ length weights = omega (arith, room_at c place.corners lt, ends, ap (λ n. n * place.corners) count) in
      let first : number weights at ≡ number block (2 * c) = sym (at_block (2 * c) (omega (arith, room_at c place.corners lt))) in
      let place_of_next : place.weights + (2 * c + 1) ≡ suc at = omega arith in
      let second : number weights (suc at) ≡ number block (2 * c + 1) = sym (at_block (2 * c + 1) (omega (arith, room_at c place.corners lt)) ∙ ap (number weights) place_of_next) in
      let cut : drop at weights ≡ number weights at ∷ number weights (suc at) ∷ drop (suc (suc at)) weights =
      drop-cons weights at (pos 0) (omega (arith, inside)) ∙ ap (λ rest. number weights at ∷ rest) (drop-cons weights (suc at) (pos 0) (omega (arith, inside))) in
      ap (λ n. take n (drop (place.weights + n * c) weights)) count ∙ ap (take 2) cut ∙ ap₂ (λ (x y : ℤ). x ∷ y ∷ []) first second
