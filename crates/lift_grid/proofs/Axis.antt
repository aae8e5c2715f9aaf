-- How the axis of the split rule is found.
use Rattle.std.proofs.Common.{◌≡◌, ◌≢◌, ◌<◌, ◌≤◌, ◌+◌, ◌*◌, ◌/◌, ◌^◌, ℕ, List, ℤ, pos, refl, ap, sym, ◌∙◌, subst, length, get_or, set, arith, IsBitSet, bit_and, Bool, true, false, nat_lt, ltb-true, ltb-false, Option, Some, None, unsigned_abs, ◌-ℤ◌, ◌↔◌, IsNone, IfSome}
use Rattle.std.proofs.lemmas.Nat.{bit_set_by_shift}
use Rattle.std.proofs.lemmas.Nat.Bits.{shr_and_one, same_from_bits, bit_at-zero}
use Rattle.std.specs.Int.{bit_at}
use Rattle.lift_grid.specs.Rectangle.{Spans, spans_of}
use Rattle.lift_poly.specs.Limits.{parameter_limit, set_limit}
use Rattle.lift_grid.specs.Splitting.{span_length, IsAxisAmong, IsAxisBelow, IsSplitAxis}
use Rattle.lift_grid.proofs.Sides.{end_in_row, below_16}

-- the length of a span, in the row
pub length_in_row : (sides : List ℤ) (i : ℕ) → 2 * i + 1 < length sides → unsigned_abs (get_or sides (2 * i + 1) (pos 0) -ℤ get_or sides (2 * i) (pos 0)) ≡ span_length (spans_of sides) i
length_in_row sides i h =
    let low : get_or sides (2 * i) (pos 0) ≡ (get_or (spans_of sides) i (pos 0, pos 0)).0 = ap (λ n. get_or sides n (pos 0)) (omega arith) ∙ end_in_row sides i 0 (omega arith) h in
    let high : get_or sides (2 * i + 1) (pos 0) ≡ (get_or (spans_of sides) i (pos 0, pos 0)).1 = end_in_row sides i 1 (omega arith) h in
    rw (low, high) refl

either : {P : Type 0} (b : Bool) → (b ≡ true → P) → (b ≡ false → P) → P
either true f g = f refl
either false f g = g refl

same_or_before : {P : Type 0} (j n : ℕ) → j < n + 1 → (j < n → P) → (j ≡ n → P) → P
same_or_before j n h f g = either (nat_lt j n) (λ a. f (ltb-true j n a)) (λ a. g (let past = ltb-false j n a in omega arith))

-- a parameter that isn't live is passed over
pub passed_over : (n live : ℕ) (ss : Spans) (best : Option ℕ) → IsAxisBelow n live ss best → (IsBitSet live n → ⊥) → IsAxisBelow (n + 1) live ss best
passed_over n live ss None h out = λ j bit. either (nat_lt j (n + 1)) (λ a. absurd (same_or_before j n (ltb-true j (n + 1) a) (λ l. let past = h j bit in omega arith) (λ e. out (subst (λ m. IsBitSet live m) e bit)))) (λ a. ltb-false j (n + 1) a)
passed_over n live ss (Some i) h out =
    record {
      below = omega (arith, h.below);
      is_live = h.is_live;
      longest = λ j bit l. same_or_before j n l (λ k. h.longest j bit k) (λ e. absurd (out (subst (λ m. IsBitSet live m) e bit)));
      first = h.first;
    }

-- a span that isn't longer leaves the axis
pub kept_axis : (n live : ℕ) (ss : Spans) (i : ℕ) → IsAxisAmong n live ss i → span_length ss n ≤ span_length ss i → IsAxisAmong (n + 1) live ss i
kept_axis n live ss i h short =
    record {
      below = omega (arith, h.below);
      is_live = h.is_live;
      longest = λ j bit l. same_or_before j n l (λ k. h.longest j bit k) (λ e. subst (λ m. span_length ss m ≤ span_length ss i) (sym e) short);
      first = h.first;
    }

-- the first live parameter is the axis
pub first_axis : (n live : ℕ) (ss : Spans) → IsAxisBelow n live ss None → IsBitSet live n → IsAxisAmong (n + 1) live ss n
first_axis n live ss h bit =
    record {
      below = omega arith;
      is_live = bit;
      longest = λ j b l. same_or_before j n l (λ k. absurd (let past = h j b in omega arith)) (λ e. subst (λ m. span_length ss m ≤ span_length ss n) (sym e) (omega arith));
      first = λ j b l. absurd (let past = h j b in omega arith);
    }

-- a longer span is the axis
pub next_axis : (n live : ℕ) (ss : Spans) (i : ℕ) → IsAxisAmong n live ss i → IsBitSet live n → span_length ss i < span_length ss n → IsAxisAmong (n + 1) live ss n
next_axis n live ss i h bit more =
    record {
      below = omega arith;
      is_live = bit;
      longest = λ j b l. same_or_before j n l (λ k. let most = h.longest j b k in omega arith) (λ e. subst (λ m. span_length ss m ≤ span_length ss n) (sym e) (omega arith));
      first = λ j b l. let most = h.longest j b l in omega arith;
    }

-- the axis among all
pub whole_axis : (live : ℕ) (ss : Spans) (i : ℕ) → live < set_limit → IsAxisAmong parameter_limit live ss i → IsSplitAxis live ss i
whole_axis live ss i small h = record { is_live = h.is_live; longest = λ j bit. h.longest j bit (below_16 live j small bit); first = h.first }

-- a bit is set or isn't, by the test that the code makes
pub bit_unset : (set i : ℕ) → bit_and (set / 2 ^ i) 1 ≡ 0 → IsBitSet set i → ⊥
bit_unset set i off bit = let one = (bit_set_by_shift set i).1 bit in omega arith

pub bit_set : (set i : ℕ) → bit_and (set / 2 ^ i) 1 ≢ 0 → IsBitSet set i
bit_set set i some = (bit_set_by_shift set i).0 (let e = shr_and_one set i in let small : bit_at set i < 2 = omega arith in omega (arith, e, small, some))

true-not_false : true ≡ false → ⊥
true-not_false e = cc

-- no bit of a set is set, so it is 0
pub no_bits : (set : ℕ) → set < set_limit → ((j : ℕ) → IsBitSet set j → parameter_limit ≤ j) → set ≡ 0
no_bits all small none =
    same_from_bits all 0 (λ i. either (nat_lt (bit_at all i) 1)
    (λ e. (let l = ltb-true (bit_at all i) 1 e in omega arith) ∙ sym (bit_at-zero i))
    (λ e. absurd (outside i (ltb-false (bit_at all i) 1 e))))
  where
    outside : (i : ℕ) → 1 ≤ bit_at all i → ⊥
    outside i one =
        let bit = bit_set all i (λ (off : bit_and (all / 2 ^ i) 1 ≡ 0). let same = shr_and_one all i in omega arith) in
        let far = none i bit in
        let near = below_16 all i small bit in
        omega arith

pub no_axis : (live : ℕ) (ss : Spans) (best : Option ℕ) → live < set_limit → IsAxisBelow parameter_limit live ss best → IsNone best ↔ (live ≡ 0)
no_axis live ss None small h = ((λ _. no_bits live small h), (λ _. refl))
no_axis live ss (Some i) small h = ((λ e. absurd (true-not_false e)), (λ e. absurd (bit_unset live i (rw e (zero_bit i)) h.is_live)))
  where
    zero_bit : (i : ℕ) → bit_and (0 / 2 ^ i) 1 ≡ 0
    zero_bit i = shr_and_one 0 i ∙ bit_at-zero i

pub some_axis : (live : ℕ) (ss : Spans) (best : Option ℕ) → live < set_limit → IsAxisBelow parameter_limit live ss best → IfSome best (λ i. IsSplitAxis live ss i)
some_axis live ss None small h = tt
some_axis live ss (Some i) small h = whole_axis live ss i small h
