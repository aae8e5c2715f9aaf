-- Rectangles over a finer grid, whose ends are small.
use Rattle.std.proofs.Common.{◌≡◌, ◌∙◌, ℕ, zero, suc, ◌+◌, ◌-◌, ◌^◌, ◌<◌, ◌≤◌, Bool, true, false, ◌&&◌, List, [], ◌∷◌, ◌++◌, ℤ, pos, ◌*ℤ◌, ◌<ℤ◌, Some, None, length, map, take, get_or, refl, sym, ap, subst, le_refl, arith}
use Rattle.std.specs.Prelude.{unsigned_abs, if◌then◌else◌}
use Rattle.std.specs.List.{list_all}
use Rattle.std.proofs.lemmas.Nat.{pow-add, pow_pos, pow_below}
use Rattle.std.proofs.lemmas.Bool.{ltb-true, lt-ltb}
use Rattle.std.proofs.lemmas.List.{map-append, take_more, length-map}
use Rattle.std.proofs.lemmas.List.Folds.{list_all-append}
use Rattle.std.proofs.Math.Bool.{and-false}
use Rattle.lift_frac.specs.Limits.{size_limit}
use Rattle.lift_poly.proofs.Ring.{linear, mul-comm, mul-assoc, mul-zero, mul-lt}
use Rattle.lift_grid.specs.Rectangle.{Spans, AreSpans, AreSides, IsMultiple, AreMultiples, IsOnGrid, most_halvings, sides_of, spans_of}
use Rattle.lift_grid.specs.Region.{is_narrow}
use Rattle.lift_finer.specs.Finer.{finer_spans, finer_number, finer_sides, is_small, most_finer}

abbrev times : ℕ → ℤ → ℤ
times n z = z *ℤ pos n

-- ---- a row of ends, one by one

-- what a loop over the ends keeps
pub record Kept (n : ℕ) (items : List ℤ) (sides : List ℤ) : Type 0 where
  pub ends : items ≡ map (times n) sides
  pub small : list_all is_small (map (times n) sides) ≡ true

chosen_by : (b : Bool) (z finer : ℤ) → Some z ≡ (if b then Some finer else None) → (b ≡ true) × (z ≡ finer)
chosen_by true z finer is = (refl, cc)
chosen_by false z finer is = absurd (cc)

refused_by : (b : Bool) (finer : ℤ) → None ≡ (if b then Some finer else None) → b ≡ false
refused_by true finer is = absurd (cc)
refused_by false finer is = refl

pub kept_more : (n : ℕ) (items sides : List ℤ) (i : ℕ) (side number : ℤ) → i < length sides → side ≡ get_or sides i (pos 0) → Kept n items (take i sides) → Some number ≡ finer_number n side → Kept n (items ++ number ∷ []) (take (i + 1) sides)
kept_more n items sides i side number below is so_far given =
    let here = chosen_by (is_small (times n side)) number (times n side) given in
    let parts : take (i + 1) sides ≡ take i sides ++ side ∷ [] = take_more sides i (pos 0) below ∙ ap (λ (y : ℤ). take i sides ++ y ∷ []) (sym is) in
    let all : map (times n) (take (i + 1) sides) ≡ map (times n) (take i sides) ++ times n side ∷ [] = ap (map (times n)) parts ∙ map-append (times n) (take i sides) (side ∷ []) in
    record {
      ends = ap (λ (l : List ℤ). l ++ number ∷ []) so_far.ends ∙ ap (λ (z : ℤ). map (times n) (take i sides) ++ z ∷ []) here.1 ∙ sym all;
      small = rw all (rw (list_all-append is_small (map (times n) (take i sides)) (times n side ∷ []), so_far.small, here.0) refl);
    }

large_at : (n : ℕ) (sides : List ℤ) (i : ℕ) → i < length sides → is_small (times n (get_or sides i (pos 0))) ≡ false → list_all is_small (map (times n) sides) ≡ false
large_at n [] i below large = absurd (omega arith)
large_at n (z ∷ sides) zero below large = rw large refl
large_at n (z ∷ sides) (suc i) below large = rw (large_at n sides i (omega arith) large) (and-false (is_small (times n z)))

-- an end that is too large leaves none
pub sides_large : (n : ℕ) (sides : List ℤ) (i : ℕ) (side : ℤ) → i < length sides → side ≡ get_or sides i (pos 0) → None ≡ finer_number n side → None ≡ finer_sides n sides
sides_large n sides i side below is none =
    let P : ℤ → Type 0 = λ z. is_small (times n z) ≡ false in
    let large : list_all is_small (map (times n) sides) ≡ false = large_at n sides i below (subst P is (refused_by (is_small (times n side)) (times n side) none)) in
    rw large refl

-- ---- rectangles

and_both : (a b : Bool) → (a && b) ≡ true → (a ≡ true) × (b ≡ true)
and_both true b h = (refl, h)
and_both false b h = absurd (cc)

-- the ends of a rectangle are small
pub ends_small : (ss : Spans) → AreSpans ss → list_all is_small (sides_of ss) ≡ true
ends_small [] all = refl
ends_small (s ∷ ss) (one, all) =
    let low : is_small s.0 ≡ true = lt-ltb (unsigned_abs s.0) size_limit one.low in
    let high : is_small s.1 ≡ true = lt-ltb (unsigned_abs s.1) size_limit one.high in
    rw (low, high, ends_small ss all) refl

-- the ends over a finer grid are those of the rectangle over it
sides_finer : (n : ℕ) (ss : Spans) → map (times n) (sides_of ss) ≡ sides_of (finer_spans n ss)
sides_finer n [] = refl
sides_finer n (s ∷ ss) = ap (λ (rest : List ℤ). times n s.0 ∷ times n s.1 ∷ rest) (sides_finer n ss)

narrow_by : (a b c : Bool) → (a && (b && c)) ≡ ((a && b) && c)
narrow_by true b c = refl
narrow_by false b c = refl

narrow_is : (ss : Spans) → list_all is_small (sides_of ss) ≡ list_all is_narrow ss
narrow_is [] = refl
narrow_is (s ∷ ss) = ap (λ (rest : Bool). is_small s.0 && (is_small s.1 && rest)) (narrow_is ss) ∙ narrow_by (is_small s.0) (is_small s.1) (list_all is_narrow ss)

pub spans_back : (ss : Spans) → spans_of (sides_of ss) ≡ ss
spans_back [] = refl
spans_back (s ∷ ss) = ap (λ (rest : Spans). s ∷ rest) (spans_back ss)

finer_rising : (n : ℕ) (s : ℤ × ℤ) → 1 ≤ n → s.0 <ℤ s.1 → times n s.0 <ℤ times n s.1
finer_rising n s le rising = let scaled = mul-lt (pos n) s.0 s.1 (omega (arith, linear, le)) rising in omega (arith, linear, scaled, mul-comm s.0 (pos n), mul-comm s.1 (pos n))

finer_are_spans : (n : ℕ) (ss : Spans) → 1 ≤ n → AreSpans ss → list_all is_narrow (finer_spans n ss) ≡ true → AreSpans (finer_spans n ss)
finer_are_spans n [] le all narrow = tt
finer_are_spans n (s ∷ ss) le (one, all) narrow =
    let parts = and_both (is_narrow (times n s.0, times n s.1)) (list_all is_narrow (finer_spans n ss)) narrow in
    let ends = and_both (is_small (times n s.0)) (is_small (times n s.1)) parts.0 in (
      record { rising = finer_rising n s le one.rising; low = ltb-true (unsigned_abs (times n s.0)) size_limit ends.0; high = ltb-true (unsigned_abs (times n s.1)) size_limit ends.1 },
      finer_are_spans n ss le all parts.1,
    )

some_by : (b : Bool) (x y : List ℤ) → Some x ≡ (if b then Some y else None) → (b ≡ true) × (x ≡ y)
some_by true x y is = (refl, cc)
some_by false x y is = absurd (cc)

none_by : (b : Bool) (y : List ℤ) → None ≡ (if b then Some y else None) → b ≡ false
none_by true y is = absurd (cc)
none_by false y is = refl

-- ends that were made make the rectangle
pub record IsMade (n : ℕ) (ss : Spans) (items : List ℤ) : Type 0 where
  pub narrow : list_all is_narrow (finer_spans n ss) ≡ true
  pub items_are : items ≡ sides_of (finer_spans n ss)

pub made : (n : ℕ) (ss : Spans) (sides items : List ℤ) → sides ≡ sides_of ss → Some items ≡ finer_sides n sides → IsMade n ss items
made n ss sides items is given =
    let found = some_by (list_all is_small (map (times n) (sides_of ss))) items (map (times n) (sides_of ss)) (given ∙ ap (finer_sides n) is) in
    record { narrow = sym (narrow_is (finer_spans n ss)) ∙ ap (list_all is_small) (sym (sides_finer n ss)) ∙ found.0; items_are = found.1 ∙ sides_finer n ss }

pub made_sides : (n : ℕ) (ss : Spans) (items : List ℤ) → 1 ≤ n → AreSpans ss → IsMade n ss items → AreSides items
made_sides n ss items le all m =
    let back : spans_of items ≡ finer_spans n ss = ap spans_of m.items_are ∙ spans_back (finer_spans n ss) in
    record { paired = ap sides_of back ∙ sym m.items_are; spans = subst AreSpans (sym back) (finer_are_spans n ss le all m.narrow) }

pub made_rect : (n : ℕ) (ss : Spans) (items : List ℤ) (r : Spans) → IsMade n ss items → r ≡ spans_of items → Some r ≡ (if list_all is_narrow (finer_spans n ss) then Some (finer_spans n ss) else None)
made_rect n ss items r m is =
    let back : r ≡ finer_spans n ss = is ∙ ap spans_of m.items_are ∙ spans_back (finer_spans n ss) in
    rw (m.narrow, back) refl

pub not_made : (n : ℕ) (ss : Spans) (sides : List ℤ) → sides ≡ sides_of ss → None ≡ finer_sides n sides → None ≡ (if list_all is_narrow (finer_spans n ss) then Some (finer_spans n ss) else None)
not_made n ss sides is none =
    let large = none_by (list_all is_small (map (times n) (sides_of ss))) (map (times n) (sides_of ss)) (none ∙ ap (finer_sides n) is) in
    let wide : list_all is_narrow (finer_spans n ss) ≡ false = sym (narrow_is (finer_spans n ss)) ∙ ap (list_all is_small) (sym (sides_finer n ss)) ∙ large in
    rw wide refl

-- ---- regions

times_powers : (k : ℤ) (depth more : ℕ) → (k *ℤ pos (2 ^ depth)) *ℤ pos (2 ^ more) ≡ k *ℤ pos (2 ^ (depth + more))
times_powers k depth more = mul-assoc k (pos (2 ^ depth)) (pos (2 ^ more)) ∙ ap (λ (p : ℕ). k *ℤ pos p) (sym (pow-add 2 depth more))

finer_multiple : (depth more : ℕ) (z : ℤ) → IsMultiple (2 ^ depth) z → IsMultiple (2 ^ (depth + more)) (times (2 ^ more) z)
finer_multiple depth more z (k, is) = (k, ap (times (2 ^ more)) is ∙ times_powers k depth more)

finer_multiples : (depth more : ℕ) (ss : Spans) → AreMultiples (2 ^ depth) ss → AreMultiples (2 ^ (depth + more)) (finer_spans (2 ^ more) ss)
finer_multiples depth more [] all = tt
finer_multiples depth more (s ∷ ss) ((low, high), all) = ((finer_multiple depth more s.0 low, finer_multiple depth more s.1 high), finer_multiples depth more ss all)

pub finer_on_grid : (d : ℤ) (first depth count : ℕ) (ss : Spans) → first ≤ depth → IsOnGrid d first count ss → is_small (d *ℤ pos (2 ^ (depth - first))) ≡ true → IsOnGrid (d *ℤ pos (2 ^ (depth - first))) depth count (finer_spans (2 ^ (depth - first)) ss)
finer_on_grid d first depth count ss le on small =
    let n : ℕ = 2 ^ (depth - first) in
    let sum : first + (depth - first) ≡ depth = omega (arith, le) in
    let some : 0 < n = pow_pos (depth - first) in
    let scaled = mul-lt (pos n) (pos 0) d (omega (arith, linear, some)) on.positive in
    record {
      positive = omega (arith, linear, scaled, mul-zero (pos n), mul-comm d (pos n));
      small = ltb-true (unsigned_abs (d *ℤ pos n)) size_limit small;
      one_each = length-map ss (λ (s : ℤ × ℤ). (s.0 *ℤ pos n, s.1 *ℤ pos n)) ∙ on.one_each;
      multiples = subst (λ (k : ℕ). AreMultiples (2 ^ k) (finer_spans n ss)) sum (finer_multiples first (depth - first) ss on.multiples);
    }

number_by : (b : Bool) (x y : ℤ) → Some x ≡ (if b then Some y else None) → (b ≡ true) × (x ≡ y)
number_by true x y is = (refl, cc)
number_by false x y is = absurd (cc)

rect_by : (b : Bool) (x y : Spans) → Some x ≡ (if b then Some y else None) → (b ≡ true) × (x ≡ y)
rect_by true x y is = (refl, cc)
rect_by false x y is = absurd (cc)

-- a grid can't be finer than that, as far as a region may be halved
grows : (k e : ℕ) → 2 ^ k ≤ 2 ^ (k + e)
grows k zero = let none : k ≡ k + 0 = omega arith in subst (λ (m : ℕ). 2 ^ k ≤ 2 ^ m) none (le_refl (2 ^ k))
grows k (suc e) = let less = pow_below k (k + suc e) (omega arith) in omega (arith, less)

pub fine_enough : (k n : ℕ) → k ≤ most_halvings → n ≡ 2 ^ k → (1 ≤ n) × (n ≤ most_finer)
fine_enough k n le is =
    let sum : k + (most_halvings - k) ≡ most_halvings = omega (arith, le) in
    let below = subst (λ (m : ℕ). 2 ^ k ≤ 2 ^ m) sum (grows k (most_halvings - k)) in
    subst (λ (m : ℕ). (1 ≤ m) × (m ≤ most_finer)) (sym is) (pow_pos k, below)

pub found_on_grid : (d : ℤ) (first depth count : ℕ) (ss rect : Spans) (number : ℤ) → first ≤ depth → IsOnGrid d first count ss → Some number ≡ finer_number (2 ^ (depth - first)) d
    → Some rect ≡ (if list_all is_narrow (finer_spans (2 ^ (depth - first)) ss) then Some (finer_spans (2 ^ (depth - first)) ss) else None) → IsOnGrid number depth count rect
found_on_grid d first depth count ss rect number le on given made =
    let n : ℕ = 2 ^ (depth - first) in
    let (small, d_is) = number_by (is_small (d *ℤ pos n)) number (d *ℤ pos n) given in
    let (_, ss_is) = rect_by (list_all is_narrow (finer_spans n ss)) rect (finer_spans n ss) made in
    subst (λ (z : ℤ). IsOnGrid z depth count rect) (sym d_is) (subst (λ (r : Spans). IsOnGrid (d *ℤ pos n) depth count r) (sym ss_is) (finer_on_grid d first depth count ss le on small))
