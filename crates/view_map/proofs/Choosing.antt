-- Choosing parameters one after the other.
use Rattle.std.proofs.Common.{◌≡◌, ℕ, zero, suc, ◌+◌, ◌-◌, ◌<◌, Bool, true, false, List, [], ◌∷◌, ◌++◌, Option, Some, None, refl, ◌+ℤ◌, FitsSigned, w64, arith}
use Rattle.std.proofs.lemmas.Int.{ints}
use Rattle.lift_grid.specs.Rectangle.{Spans, AreSpans}
use Rattle.cert_text.specs.Head.{HeadData}
use Rattle.view_map.specs.Slice.{CutData, span_at}
use Rattle.view_map.specs.Choice.{cut_on, cuts_below, first_from}

one_more : (i n : ℕ) → i < n → n - i ≡ suc (n - (i + 1))
one_more i n h = omega (arith, h)

none_left : (n : ℕ) → n - n ≡ zero
none_left n = omega arith

-- a number that passes is the first
pub first_here : (test : ℕ → Bool) (i n : ℕ) → i < n → test i ≡ true → first_from test i (n - i) ≡ Some i
unfolding first_from
first_here test i n h e = rw (one_more i n h, e) refl

-- one that doesn't is passed over
pub first_next : (test : ℕ → Bool) (i n : ℕ) → i < n → test i ≡ false → first_from test i (n - i) ≡ first_from test (i + 1) (n - (i + 1))
unfolding first_from
first_next test i n h e = rw (one_more i n h, e) refl

pub first_none : (test : ℕ → Bool) (n : ℕ) → first_from test n (n - n) ≡ None
unfolding first_from
first_none test n = rw (none_left n) refl

-- one parameter more
pub cuts_next : (h : HeadData) (axes : Option ℕ × Option ℕ) (given : List CutData) (n : ℕ) → cuts_below h axes given (n + 1) ≡ cuts_below h axes given n ++ cut_on h axes given n
cuts_next h axes given n = let e : n + 1 ≡ suc n = omega arith in rw e refl

-- the two ends of a parameter's span can be added
pub ends_fit : (ss : Spans) (i : ℕ) → AreSpans ss → FitsSigned w64 ((span_at ss i).0 +ℤ (span_at ss i).1)
ends_fit [] i h = omega (arith, ints)
ends_fit (s ∷ ss) zero h = let low = h.0.low in let high = h.0.high in omega (arith, ints, low, high)
ends_fit (s ∷ ss) (suc i) h = ends_fit ss i h.1
