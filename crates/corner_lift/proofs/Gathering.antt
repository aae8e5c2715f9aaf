-- The ends that a corner chooses, parameter by parameter, and the products that they make.
use Rattle.std.proofs.Common.{◌≡◌, ◌==◌, cond, ℕ, zero, suc, ◌+◌, ◌-◌, ◌*◌, ◌/◌, ◌%◌, ◌^◌, ◌<◌, ◌≤◌, max, List, [], ◌∷◌, ◌++◌, length, drop, get_or, ℤ, pos, ◌*ℤ◌, ◌<ℤ◌, unsigned_abs, FitsSigned, refl, sym, ap, ap₂, subst, ◌∙◌, arith, ◌⊎◌, ⊎_elim, bit_or, add-one, pow-suc, drop-cons, append_assoc, length-append, length-drop, mul-le-mul_left, mul-le-mul_right, mul-le-mul, mul_assoc, mul_comm, le_trans}
use Rattle.std.proofs.Math.Nat.{div-div-eq-div-mul, one-le-pow, pow-zero}
use Rattle.std.proofs.Math.Pow.{pow_mono}
use Rattle.std.proofs.lemmas.Int.{fits_signed_from_abs, unsigned_abs-mul, ints}
use Rattle.std.proofs.lemmas.List.{drop_all}
use mir.Syntax.{w128}
use Rattle.lift_poly.specs.Polynomial.{factor, monomial}
use Rattle.lift_poly.proofs.Ring.{mul-assoc, mul-comm, one-mul}
use Rattle.lift_grid.specs.Rectangle.{Spans, spans_of, end_of}
use Rattle.corner_lift.specs.Corner.{corner, parameter_count}
use Rattle.corner_lift.specs.Case.{greatest_size}
use Rattle.corner_lift.specs.Ends.{End, product_at, StandFor, IsPair, greatest_end, ends_from}
use Rattle.corner_lift.proofs.CornerBound.{parity, corner-in, corner-out, halved, even_part}

ends-out : (k : ℕ) (s : ℤ × ℤ) (ss : Spans) (set c : ℕ) → set % 2 ≡ 0 → ends_from k (s ∷ ss) set c ≡ ends_from (k + 1) ss (set / 2) c
ends-out k s ss set c e = ap (λ b. cond (b == 0) (ends_from (k + 1) ss (set / 2) c) ((k, end_of (c % 2) s) ∷ ends_from (k + 1) ss (set / 2) (c / 2))) e

ends-in : (k : ℕ) (s : ℤ × ℤ) (ss : Spans) (set c : ℕ) → set % 2 ≡ 1 → ends_from k (s ∷ ss) set c ≡ (k, end_of (c % 2) s) ∷ ends_from (k + 1) ss (set / 2) (c / 2)
ends-in k s ss set c e = ap (λ b. cond (b == 0) (ends_from (k + 1) ss (set / 2) c) ((k, end_of (c % 2) s) ∷ ends_from (k + 1) ss (set / 2) (c / 2))) e

ends-none : (k : ℕ) (ss : Spans) (set c : ℕ) → set ≡ 0 → ends_from k ss set c ≡ []
ends-none k [] set c e = refl
ends-none k (s ∷ ss) set c e = ends-out k s ss set c (omega arith) ∙ ends-none (k + 1) ss (set / 2) c (omega arith)

next_half : (t k : ℕ) → t / 2 ^ k / 2 ≡ t / 2 ^ (k + 1)
next_half t k = div-div-eq-div-mul t (2 ^ k) 2 ∙ ap (λ n. t / n) (let e : 2 ^ k * 2 ≡ 2 ^ (k + 1) = rw (add-one) (omega arith) in e)

product_ends : (d : ℤ) (k : ℕ) (ss : Spans) (set c t : ℕ) → bit_or (t / 2 ^ k) set ≡ set → product_at d (ends_from k ss set c) t ≡ monomial (corner d ss set c) (t / 2 ^ k)
product_ends d k [] set c t part = refl
product_ends d k (s ∷ ss) set c t part =
    let later : bit_or (t / 2 ^ (k + 1)) (set / 2) ≡ set / 2 = rw (← next_half t k) (halved (t / 2 ^ k) set part) in
    ⊎_elim
    (λ (e : set % 2 ≡ 0).
    let rest = monomial (corner d ss (set / 2) c) (t / 2 ^ k / 2) in
    let even : t / 2 ^ k % 2 ≡ 0 = even_part (t / 2 ^ k) set part e in
    ap (λ ends. product_at d ends t) (ends-out k s ss set c e)
    ∙ product_ends d (k + 1) ss (set / 2) c t later
    ∙ ap (monomial (corner d ss (set / 2) c)) (sym (next_half t k))
    ∙ sym (ap (λ v. monomial v (t / 2 ^ k)) (corner-out d s ss set c e) ∙ ap (λ b. factor b (pos 0, pos 1) *ℤ rest) even ∙ one-mul rest))
    (λ (e : set % 2 ≡ 1).
    let f = factor (t / 2 ^ k % 2) (end_of (c % 2) s, d) in
    ap (λ ends. product_at d ends t) (ends-in k s ss set c e)
    ∙ ap (λ z. f *ℤ z) (product_ends d (k + 1) ss (set / 2) (c / 2) t later ∙ ap (monomial (corner d ss (set / 2) (c / 2))) (sym (next_half t k)))
    ∙ sym (ap (λ v. monomial v (t / 2 ^ k)) (corner-in d s ss set c e)))
    (parity set)

-- the ends of a corner stand for it
pub ends_stand : (d : ℤ) (ss : Spans) (set c : ℕ) → StandFor d (ends_from 0 ss set c) (corner d ss set c) set
ends_stand d ss set c t part =
    let whole : t / 2 ^ 0 ≡ t = omega arith in
    let part_lem : bit_or (t / 2 ^ 0) set ≡ set = ap (λ n. bit_or n set) whole ∙ part in
    product_ends d 0 ss set c t part_lem ∙ ap (monomial (corner d ss set c)) whole

end_size : (b : ℕ) (s : ℤ × ℤ) → unsigned_abs (end_of b s) ≤ max (unsigned_abs s.0) (unsigned_abs s.1)
end_size zero s = omega arith
end_size (suc b) s = omega arith

pub ends_sizes : (d : ℤ) (k : ℕ) (ss : Spans) (set c : ℕ) → greatest_end d (ends_from k ss set c) ≤ greatest_size d ss
ends_sizes d k [] set c = omega arith
ends_sizes d k (s ∷ ss) set c =
    ⊎_elim
    (λ (e : set % 2 ≡ 0). rw (ends-out k s ss set c e) (omega (arith, ends_sizes d (k + 1) ss (set / 2) c)))
    (λ (e : set % 2 ≡ 1). rw (ends-in k s ss set c e) (omega (arith, end_size (c % 2) s, ends_sizes d (k + 1) ss (set / 2) (c / 2))))
    (parity set)

pub ends_count : (k : ℕ) (ss : Spans) (set c : ℕ) → length (ends_from k ss set c) ≡ parameter_count ss set
ends_count k [] set c = refl
ends_count k (s ∷ ss) set c =
    ⊎_elim
    (λ (e : set % 2 ≡ 0). rw (ends-out k s ss set c e, ends_count (k + 1) ss (set / 2) c, e) (omega arith))
    (λ (e : set % 2 ≡ 1). rw (ends-in k s ss set c e) (omega (arith, ends_count (k + 1) ss (set / 2) (c / 2))))
    (parity set)

-- ---- the loop that gathers them

-- what the loop keeps: the ends so far, those that are left, and how many there are
pub record AreGathered (ss : Spans) (support c : ℕ) (ends : List End) (left bits parameter : ℕ) : Type 0 where
  pub parts : ends ++ ends_from parameter (drop parameter ss) left bits ≡ ends_from 0 ss support c
  pub within : left < 2 ^ length (drop parameter ss)
  pub small : left * 2 ^ parameter ≤ support

pub gathered_none : (ss : Spans) (support c : ℕ) → support < 2 ^ length ss → AreGathered ss support c [] support c 0
gathered_none ss support c lt = record { parts = refl; within = lt; small = omega arith }

module _ (ss : Spans) (support c : ℕ) (ends : List End) (left bits parameter : ℕ) (h : AreGathered ss support c ends left bits parameter) (some : left ≡ 0 → ⊥) where
  -- a span is left
  pub span_left : parameter < length ss
  span_left = more (length ss - parameter) refl (subst (λ n. left < 2 ^ n) (length-drop parameter ss) h.within)
    where
      more : (n : ℕ) → n ≡ length ss - parameter → left < 2 ^ n → parameter < length ss
      more zero e lt = absurd (some (omega arith))
      more (suc n) e lt = omega arith

  pub below_16 : support < 2 ^ 16 → parameter < 16
  below_16 lt = less parameter (le_trans (mul-le-mul_right (2 ^ parameter) one) h.small)
    where
      one : 1 ≤ left
      one = grind (arith, some)

      less : (k : ℕ) → 1 * 2 ^ k ≤ support → k < 16
      less k le = ⊎_elim (λ (a : k < 16). a) (λ (far : 16 ≤ k). absurd (omega (arith, pow_mono far))) (order k)
        where
          order : (k : ℕ) → (k < 16) ⊎ (16 ≤ k)
          order k = grind arith

  rest_is : drop parameter ss ≡ get_or ss parameter (pos 0, pos 0) ∷ drop (parameter + 1) ss
  rest_is = drop-cons ss parameter (pos 0, pos 0) span_left ∙ ap (λ k. get_or ss parameter (pos 0, pos 0) ∷ drop k ss) (let e : suc parameter ≡ parameter + 1 = omega arith in e)

  within_next : left / 2 < 2 ^ length (drop (parameter + 1) ss)
  within_next =
      let lt : left < 2 ^ suc (length (drop (parameter + 1) ss)) = subst (λ rest. left < 2 ^ length rest) rest_is h.within in
      let power : 2 ^ suc (length (drop (parameter + 1) ss)) ≡ 2 * 2 ^ length (drop (parameter + 1) ss) = omega arith in
      omega arith

  small_next : left / 2 * 2 ^ (parameter + 1) ≤ support
  small_next =
      let half : left / 2 * 2 ≤ left = omega arith in
      let power : 2 ^ (parameter + 1) ≡ 2 * 2 ^ parameter = rw (add-one) (omega arith) in
      rw (power, ← mul_assoc (left / 2) 2 (2 ^ parameter)) (le_trans (mul-le-mul_right (2 ^ parameter) half) h.small)

  pub gathered_out : left % 2 ≡ 0 → AreGathered ss support c ends (left / 2) bits (parameter + 1)
  gathered_out e = record {
    parts = sym (ap (λ more. ends ++ more) (ap (λ rest. ends_from parameter rest left bits) rest_is ∙ ends-out parameter (get_or ss parameter (pos 0, pos 0)) (drop (parameter + 1) ss) left bits e)) ∙ h.parts;
    within = within_next;
    small = small_next;
  }

  pub gathered_in : (end : ℤ) → left % 2 ≡ 1 → end ≡ end_of (bits % 2) (get_or ss parameter (pos 0, pos 0)) → AreGathered ss support c (ends ++ (parameter, end) ∷ []) (left / 2) (bits / 2) (parameter + 1)
  gathered_in end e is =
      let later = ends_from (parameter + 1) (drop (parameter + 1) ss) (left / 2) (bits / 2) in
      record {
        parts =
            append_assoc ends ((parameter, end) ∷ []) later
            ∙ ap (λ n. ends ++ ((parameter, n) ∷ later)) is
            ∙ sym (ap (λ more. ends ++ more) (ap (λ rest. ends_from parameter rest left bits) rest_is ∙ ends-in parameter (get_or ss parameter (pos 0, pos 0)) (drop (parameter + 1) ss) left bits e))
            ∙ h.parts;
        within = within_next;
        small = small_next;
      }

  -- one more fits
  pub room_left : left % 2 ≡ 1 → length ends + 1 ≤ parameter_count ss support
  room_left e =
      let s = get_or ss parameter (pos 0, pos 0) in
      let later = ends_from (parameter + 1) (drop (parameter + 1) ss) (left / 2) (bits / 2) in
      let shape : ends_from parameter (drop parameter ss) left bits ≡ (parameter, end_of (bits % 2) s) ∷ later = ap (λ rest. ends_from parameter rest left bits) rest_is ∙ ends-in parameter s (drop (parameter + 1) ss) left bits e in
      omega (arith, ends_count 0 ss support c, ap length h.parts, length-append ends (ends_from parameter (drop parameter ss) left bits), ap length shape)

-- spans and their ends in a row
pub two_each : (sides : List ℤ) → 2 * length (spans_of sides) ≤ length sides
two_each [] = omega arith
two_each (low ∷ []) = omega arith
two_each (low ∷ high ∷ sides) = omega (arith, two_each sides)

append-nil : {X : Type 0} (xs : List X) → xs ++ [] ≡ xs
append-nil [] = refl
append-nil (x ∷ xs) = ap (λ ys. x ∷ ys) (append-nil xs)

pub gathered_all : (ss : Spans) (support c : ℕ) (ends : List End) (left bits parameter : ℕ) → left ≡ 0 → AreGathered ss support c ends left bits parameter → ends ≡ ends_from 0 ss support c
gathered_all ss support c ends left bits parameter e h = sym (append-nil ends) ∙ sym (ap (λ more. ends ++ more) (ends-none parameter (drop parameter ss) left bits e)) ∙ h.parts

-- ---- the product over the ends

-- what the loop of a product keeps, with the ends that are left
pub record IsMultiplied (d : ℤ) (ends : List End) (set : ℕ) (coefficient product : ℤ) (i : ℕ) : Type 0 where
  pub same : product *ℤ product_at d (drop i ends) set ≡ coefficient *ℤ product_at d ends set
  pub room : unsigned_abs product * greatest_end d ends ^ length (drop i ends) < 2 ^ 126

factor_size : (b : ℕ) (end d : ℤ) (size : ℕ) → unsigned_abs end ≤ size → unsigned_abs d ≤ size → unsigned_abs (factor b (end, d)) ≤ size
factor_size zero end d size h g = g
factor_size (suc b) end d size h g = h

pub grid_size : (d : ℤ) (ends : List End) → unsigned_abs d ≤ greatest_end d ends
grid_size d [] = omega arith
grid_size d (end ∷ ends) = omega (arith, grid_size d ends)

one_size : (d : ℤ) (ends : List End) (i : ℕ) (x : End) → i < length ends → unsigned_abs (get_or ends i x).1 ≤ greatest_end d ends
one_size d [] i x lt = absurd (omega arith)
one_size d (end ∷ ends) zero x lt = omega arith
one_size d (end ∷ ends) (suc i) x lt = omega (arith, one_size d ends i x (omega arith))

pub grid_least : (d : ℤ) (ends : List End) → pos 0 <ℤ d → 1 ≤ greatest_end d ends
grid_least d ends h = le_trans (abs-pos d h) (grid_size d ends)
  where
    abs-pos : (d : ℤ) → pos 0 <ℤ d → 1 ≤ unsigned_abs d
    abs-pos d h = omega (arith, ints)

-- the product so far and one more factor
smaller : (p f : ℤ) (size k : ℕ) → unsigned_abs f ≤ size → unsigned_abs p * size ^ suc k < 2 ^ 126 → unsigned_abs (p *ℤ f) * size ^ k < 2 ^ 126
smaller p f size k h lt =
    let a : unsigned_abs (p *ℤ f) ≡ unsigned_abs p * unsigned_abs f = unsigned_abs-mul p f in
    let power : size ^ suc k ≡ size * size ^ k = pow-suc size k ∙ mul_comm (size ^ k) size in
    let b : unsigned_abs p * (unsigned_abs f * size ^ k) ≤ unsigned_abs p * (size * size ^ k) = mul-le-mul_left (unsigned_abs p) (mul-le-mul_right (size ^ k) h) in
    let c : unsigned_abs p * (size * size ^ k) < 2 ^ 126 = rw (← power) lt in
    rw (a, mul_assoc) (omega arith)

pub multiplied_none : (d : ℤ) (ends : List End) (set : ℕ) (coefficient : ℤ) → unsigned_abs coefficient * greatest_end d ends ^ length ends < 2 ^ 126 → IsMultiplied d ends set coefficient coefficient 0
multiplied_none d ends set coefficient lt = record { same = refl; room = lt }

module _ (d : ℤ) (ends : List End) (set : ℕ) (coefficient product : ℤ) (i : ℕ) (x : End) (lt : i < length ends) (h : IsMultiplied d ends set coefficient product i) where
  next_factor : ℤ
  next_factor = factor (set / 2 ^ (get_or ends i x).0 % 2) ((get_or ends i x).1, d)

  next_size : unsigned_abs (factor (set / 2 ^ (get_or ends i x).0 % 2) ((get_or ends i x).1, d)) ≤ greatest_end d ends
  next_size = factor_size (set / 2 ^ (get_or ends i x).0 % 2) (get_or ends i x).1 d (greatest_end d ends) (one_size d ends i x lt) (grid_size d ends)

  ends_left : drop i ends ≡ get_or ends i x ∷ drop (i + 1) ends
  ends_left = drop-cons ends i x lt ∙ ap (λ k. get_or ends i x ∷ drop k ends) (let e : suc i ≡ i + 1 = omega arith in e)

  pub multiplied_more : IsMultiplied d ends set coefficient (product *ℤ factor (set / 2 ^ (get_or ends i x).0 % 2) ((get_or ends i x).1, d)) (i + 1)
  multiplied_more =
      let f : ℤ = factor (set / 2 ^ (get_or ends i x).0 % 2) ((get_or ends i x).1, d) in
      record {
        same = mul-assoc product f (product_at d (drop (i + 1) ends) set) ∙ sym (ap (λ rest. product *ℤ product_at d rest set) ends_left) ∙ h.same;
        room = smaller product f (greatest_end d ends) (length (drop (i + 1) ends)) next_size (subst (λ rest. unsigned_abs product * greatest_end d ends ^ length rest < 2 ^ 126) ends_left h.room);
      }

  pub multiplied_fits : pos 0 <ℤ d → FitsSigned w128 (product *ℤ factor (set / 2 ^ (get_or ends i x).0 % 2) ((get_or ends i x).1, d))
  multiplied_fits positive =
      let f : ℤ = factor (set / 2 ^ (get_or ends i x).0 % 2) ((get_or ends i x).1, d) in
      let more = multiplied_more in
      let least : 1 ≤ greatest_end d ends ^ length (drop (i + 1) ends) = one-le-pow (length (drop (i + 1) ends)) (greatest_end d ends) (grid_least d ends positive) in
      let a : unsigned_abs (product *ℤ f) * 1 ≤ unsigned_abs (product *ℤ f) * greatest_end d ends ^ length (drop (i + 1) ends) = mul-le-mul_left (unsigned_abs (product *ℤ f)) least in
      fits_signed_from_abs w128 (product *ℤ f) (omega (arith, a, more.room))

pub multiplied_all : (d : ℤ) (ends : List End) (set : ℕ) (coefficient product : ℤ) (i : ℕ) → length ends ≤ i → IsMultiplied d ends set coefficient product i → product ≡ coefficient *ℤ product_at d ends set
multiplied_all d ends set coefficient product i le h =
    sym (ap (λ rest. product *ℤ product_at d rest set) (drop_all i ends le) ∙ mul-comm product (pos 1) ∙ one-mul product) ∙ h.same

-- a product of so many factors
pub product_size : (d : ℤ) (ends : List End) (set : ℕ) → unsigned_abs (product_at d ends set) ≤ greatest_end d ends ^ length ends
product_size d ends set = up_to (greatest_end d ends) ends (omega arith) (grid_size d ends)
  where
    up_to : (size : ℕ) (ends : List End) → greatest_end d ends ≤ size → unsigned_abs d ≤ size → unsigned_abs (product_at d ends set) ≤ size ^ length ends
    up_to size [] le g = rw (pow-zero size) (omega arith)
    up_to size (end ∷ ends) le g =
        let f = factor (set / 2 ^ end.0 % 2) (end.1, d) in
        let power : size ^ suc (length ends) ≡ size * size ^ length ends = pow-suc size (length ends) ∙ mul_comm (size ^ length ends) size in
        rw (unsigned_abs-mul f (product_at d ends set), power) (mul-le-mul (factor_size (set / 2 ^ end.0 % 2) end.1 d size (omega arith) g) (up_to size ends (omega arith) g))

-- ---- two corners that differ in the first parameter

pub pair_from : (k : ℕ) (ss : Spans) (set c : ℕ) → 1 ≤ parameter_count ss set → IsPair (ends_from k ss set (2 * c)) (ends_from k ss set (2 * c + 1))
pair_from k [] set c some = absurd (omega (arith, some))
pair_from k (s ∷ ss) set c some =
    ⊎_elim
    (λ (e : set % 2 ≡ 0). rw (ends-out k s ss set (2 * c) e, ends-out k s ss set (2 * c + 1) e) (pair_from (k + 1) ss (set / 2) c (omega (arith, some, e))))
    (λ (e : set % 2 ≡ 1).
    let low : 2 * c % 2 ≡ 0 = omega arith in
    let low_half : 2 * c / 2 ≡ c = omega arith in
    let high : (2 * c + 1) % 2 ≡ 1 = omega arith in
    let high_half : (2 * c + 1) / 2 ≡ c = omega arith in
    record {
      parameter = k;
      ends = s;
      rest = ends_from (k + 1) ss (set / 2) c;
      low_is = ends-in k s ss set (2 * c) e ∙ ap₂ (λ (b n : ℕ). (k, end_of b s) ∷ ends_from (k + 1) ss (set / 2) n) low low_half;
      high_is = ends-in k s ss set (2 * c + 1) e ∙ ap₂ (λ (b n : ℕ). (k, end_of b s) ∷ ends_from (k + 1) ss (set / 2) n) high high_half;
    })
    (parity set)
