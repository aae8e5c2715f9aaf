-- The first line feed, and what stands at the front.
use Rattle.std.proofs.Common.{◌≡◌, ◌≤◌, ◌<◌, ◌+◌, ◌∙◌, ◌⊎◌, ap, sym, subst, refl, ℕ, List, [], length, ◌++◌, None, Some, arith, length-append, length-drop, length-take, take, drop, ◌-◌, true, Bool, not, inl, inr}
use Rattle.std.specs.List.{after_first, before_first, slice_range}
use Rattle.lift_base.specs.declared.pieces.Front.{Front}
use Rattle.std.proofs.Math.Bool.{cond}
use Rattle.std.proofs.Math.Nat.{eq-or-lt_of_le}
use Rattle.std.proofs.lemmas.Bool.{false_from_ne_true, eq-eqb, eqb-true}
use Rattle.std.proofs.lemmas.List.Sums.{position_or_len_is, prefix_len-le-length}
use Rattle.std.proofs.lemmas.List.{append-nil, take-take}
use Rattle.std.proofs.lemmas.List.Folds.{prefix_len-append}
use Rattle.memchr.specs.Find.{IsFirstByte, is_byte}
use Rattle.lift_base.specs.declared.pieces.Front.TheVariants as front
use Rattle.lift_base.specs.Lines.{LinesData, FrontIs, IsFront, is_feed, feed_at, most_line_bytes}

pub no_feed : (bytes : List ℕ) → IsFirstByte (is_byte 10) bytes None → feed_at bytes ≡ length bytes
no_feed bytes h = position_or_len_is is_feed bytes (length bytes) 0 (omega arith) (λ i below. false_from_ne_true _ (h i (omega arith) below)) (λ bad. absurd (omega (arith, bad)))

pub first_feed : (bytes : List ℕ) (k : ℕ) → IsFirstByte (is_byte 10) bytes (Some k) → feed_at bytes ≡ k
first_feed bytes k h = position_or_len_is is_feed bytes k 0 (omega (arith, h.0.high)) (λ i below. false_from_ne_true _ (h.0.before i (omega arith) below)) (λ _. h.1)

-- ---- the first line feed of two texts

-- where the first one has none, it is in the second one
pub longer : (xs ys : List ℕ) → feed_at xs ≡ length xs → feed_at (xs ++ ys) ≡ length xs + feed_at ys
longer xs ys bare =
    prefix_len-append (λ b. not (is_feed b)) xs ys
    ∙ ap (λ (b : Bool). cond b (length xs + feed_at ys) (feed_at xs)) (eq-eqb (feed_at xs) (length xs) bare)

-- where the first one has one, it is that
pub kept : (xs ys : List ℕ) → feed_at xs < length xs → feed_at (xs ++ ys) ≡ feed_at xs
kept xs ys there =
    prefix_len-append (λ b. not (is_feed b)) xs ys
    ∙ ap (λ (b : Bool). cond b (length xs + feed_at ys) (feed_at xs)) (false_from_ne_true _ (λ same. let e : feed_at xs ≡ length xs = eqb-true (feed_at xs) (length xs) same in absurd (omega (arith, there, e))))

-- at most all bytes stand before it
pub within : (xs : List ℕ) → feed_at xs ≤ length xs
within xs = prefix_len-le-length (λ b. not (is_feed b)) xs

-- it comes no earlier with more behind
pub no_earlier : (xs ys : List ℕ) → feed_at xs ≤ feed_at (xs ++ ys)
no_earlier xs ys = by (eq-or-lt_of_le (within xs)) where
  by : (feed_at xs ≡ length xs) ⊎ (feed_at xs < length xs) → feed_at xs ≤ feed_at (xs ++ ys)
  by (inl bare) = omega (arith, bare, longer xs ys bare)
  by (inr there) = omega (arith, kept xs ys there)

-- ---- what stands at the front, whatever may follow

pub line_ahead : (l : LinesData) → feed_at l.held ≤ most_line_bytes → feed_at l.held < length l.held → FrontIs l front.Line
line_ahead l few there later may =
    let same = kept l.held later there in
    (omega (arith, same, few), omega (arith, same, there, length-append l.held later))

pub long_ahead : (l : LinesData) → most_line_bytes < feed_at l.held → FrontIs l front.Long
long_ahead l long later may = omega (arith, long, no_earlier l.held later)

pub cut_ahead : (l : LinesData) → l.ended ≡ true → feed_at l.held ≤ most_line_bytes → feed_at l.held ≡ length l.held → 0 < length l.held → FrontIs l front.Cut
cut_ahead l ended few bare some later may =
    subst (λ (rest : List ℕ). IsFront front.Cut rest) (sym (ap (λ (t : List ℕ). l.held ++ t) (may ended) ∙ append-nil l.held)) (few, bare, some)

pub end_ahead : (l : LinesData) → l.ended ≡ true → length l.held ≡ 0 → FrontIs l front.End
end_ahead l ended none later may =
    ap length (ap (λ (t : List ℕ). l.held ++ t) (may ended) ∙ append-nil l.held) ∙ none

-- ---- giving the line at the front

-- each line that is given had a byte at least
pub counted : (held : List ℕ) (given taken : ℕ) → feed_at held < length held → given + length held ≤ taken → given + 1 + length (after_first is_feed held) ≤ taken
counted held given taken there before = omega (arith, there, before, length-drop (feed_at held + 1) held)

-- what stands at the front whatever may follow stands at the front of what is held
pub front_now : (l : LinesData) (f : Front) → FrontIs l f → IsFront f l.held
front_now l f is = subst (λ (rest : List ℕ). IsFront f rest) (append-nil l.held) (is [] (λ _. refl))

-- the line at the front, as a part of the buffer
pub line_part : (xs : List ℕ) (from k : ℕ) → k ≡ feed_at (drop from xs) → slice_range xs from (from + k) ≡ before_first is_feed (drop from xs)
line_part xs from k at = ap (λ (n : ℕ). take n (drop from xs)) (let e : from + k - from ≡ k = omega arith in e) ∙ ap (λ (n : ℕ). take n (drop from xs)) at
