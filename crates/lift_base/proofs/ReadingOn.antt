-- Reading on, and what it leaves.
use Rattle.std.proofs.Common.{◌≡◌, ◌⊎◌, ◌≤◌, ◌<◌, ◌+◌, ◌-◌, ◌∙◌, ap, sym, subst, refl, ℕ, List, [], ◌∷◌, length, take, drop, ◌++◌, None, Some, Ok, Err, Result, IsTrue, arith, length-append, append_assoc, true, false, Bool, inl, inr, true≢false}
use Rattle.std.specs.declared.option.Option.{Option}
use Rattle.std.specs.Io.KnownBytes.{IsAtEnd}
use Rattle.std.proofs.KnownBytes.{Consumes-nil, Consumes-trans}
use Rattle.std.proofs.lemmas.List.{append-nil}
use Rattle.std.proofs.Math.Seq.{drop-append_seam, take-append_seam}
use Rattle.std.specs.List.{slice_range}
use Rattle.lift_base.specs.declared.pieces.Front.TheVariants as front
use Rattle.lift_base.specs.declared.pieces.LineError.{LineError}
use Rattle.lift_base.specs.Outside.{Rose}
use Rattle.std.specs.Result.{IsErrAnd}
use Rattle.std.specs.Prelude.{is_some}
use Rattle.lift_base.specs.declared.pieces.LineError.TheVariants as why
use Rattle.lift_base.specs.Lines.{LinesData, CountsFault, ReadOn, Waits, FrontIs, KeepsLimit, Needed, feed_at, most_line_bytes, most_read_bytes}
use Rattle.lift_base.proofs.Fronts.{longer, within, cut_ahead}

-- all of a list
whole_taken : (xs : List ℕ) → take (length xs) xs ≡ xs
whole_taken xs = ap (λ (l : List ℕ). take (length xs) l) (sym (append-nil xs)) ∙ take-append_seam xs []

-- it can't be told what stands at the front
pub waits_from : (l : LinesData) (len n : ℕ) → l.failure ≡ None → l.ended ≡ false → len ≡ feed_at l.held → n ≡ length l.held → len ≤ most_line_bytes → n ≤ len → Waits l
waits_from l len n none running at size few full = record {
  none = none;
  running = running;
  bare = omega (arith, at, size, full, within l.held);
  few = omega (arith, at, size, few, full, within l.held);
}

-- it is a part of a line
pub cut_from : (l : LinesData) (len n : ℕ) → l.ended ≡ true → len ≡ feed_at l.held → n ≡ length l.held → len ≤ most_line_bytes → n ≤ len → 0 < len → FrontIs l front.Cut
cut_from l len n ended at size few full some =
    cut_ahead l ended (omega (arith, at, few)) (omega (arith, at, size, full, within l.held)) (omega (arith, at, some, within l.held))

-- where the first line feed is, behind a read
pub scanned : (old new whole bytes : List ℕ) (len k : ℕ) → feed_at old ≡ length old → len ≡ length old → new ≡ old ++ bytes → whole ≡ new → k ≡ feed_at (slice_range whole len (length whole)) → len + k ≡ feed_at new
scanned old new whole bytes len k bare size is same at =
    let all : whole ≡ old ++ bytes = same ∙ is in
    let behind : drop len whole ≡ bytes = ap (λ (n : ℕ). drop n whole) size ∙ ap (λ (l : List ℕ). drop (length old) l) all ∙ drop-append_seam old bytes in
    let rest : slice_range whole len (length whole) ≡ bytes =
    ap (λ (l : List ℕ). take (length whole - len) l) behind ∙ ap (λ (n : ℕ). take n bytes) (let e : length whole - len ≡ length bytes = omega (arith, size, ap length all, length-append old bytes) in e) ∙ whole_taken bytes in
    let there : k ≡ feed_at bytes = at ∙ ap (λ (l : List ℕ). feed_at l) rest in
    let both : feed_at new ≡ length old + feed_at bytes = ap (λ (l : List ℕ). feed_at l) is ∙ longer old bytes bare in
    omega (arith, size, there, both)

-- no more than the limit was taken before a read
pub before_limit : (failure : Option LineError) (limit taken : ℕ) → failure ≡ None → KeepsLimit failure limit taken → taken ≤ limit
before_limit failure limit taken none keeps = subst (λ (f : Option LineError). KeepsLimit f limit taken) none keeps

-- nor before it waits
pub room_left : (l : LinesData) → Waits l → KeepsLimit l.failure l.limit l.taken → l.taken ≤ l.limit
room_left l w keeps = before_limit l.failure l.limit l.taken w.none keeps

-- nor is it behind it
pub behind_limit : (failure : Option LineError) (limit taken : ℕ) → failure ≡ None → taken ≤ limit → KeepsLimit failure limit taken
behind_limit failure limit taken none keeps = subst (λ (f : Option LineError). KeepsLimit f limit taken) (sym none) keeps

-- ---- calls in turn

-- one read was needed
pub needed_now : (l : LinesData) (bytes : List ℕ) → Waits l → length bytes ≤ most_read_bytes → l.taken ≤ l.limit → Needed l bytes
needed_now l bytes w few within = record {
  first = [];
  last = bytes;
  parts = refl;
  few = few;
  waits = subst (λ (held : List ℕ). Waits (record l { held = held })) (sym (append-nil l.held)) w;
  within = omega (arith, within);
}

-- the reads of a second call were needed behind those of the first
needed_then : {S : Type 0} (left : S → Option (List ℕ)) (a b : LinesData) (s t : S) (xs ys : List ℕ) → ReadOn left a b s t xs → a.failure ≡ None → a.ended ≡ false → Needed b ys → Needed a (xs ++ ys)
needed_then left a b s t xs ys x none running n =
    let held : b.held ++ n.first ≡ a.held ++ (xs ++ n.first) = ap (λ (l : List ℕ). l ++ n.first) x.held ∙ append_assoc a.held xs n.first in record {
      first = xs ++ n.first;
      last = n.last;
      parts = ap (λ (l : List ℕ). xs ++ l) n.parts ∙ sym (append_assoc xs n.first n.last);
      few = n.few;
      waits = record {
        none = none;
        running = running;
        bare = subst (λ (l : List ℕ). feed_at l ≡ length l) held n.waits.bare;
        few = subst (λ (l : List ℕ). length l ≤ most_line_bytes) held n.waits.few;
      };
      within = omega (arith, x.taken, x.limit, n.within, length-append xs n.first);
    }

-- a list that nothing is added to by this one
none_added : (xs ys : List ℕ) → xs ≡ xs ++ ys → ys ≡ []
none_added xs [] e = refl
none_added xs (y ∷ ys) e = absurd (omega (arith, ap length e, length-append xs (y ∷ ys)))

-- where nothing was read behind them, the reads of the first call were the last ones
needed_still : (a : LinesData) (xs ys : List ℕ) → ys ≡ [] → Needed a xs → Needed a (xs ++ ys)
needed_still a xs ys none n = subst (λ (l : List ℕ). Needed a l) (sym (ap (λ (l : List ℕ). xs ++ l) none ∙ append-nil xs)) n

-- no call reads nothing
pub read_nothing : {S : Type 0} (left : S → Option (List ℕ)) (l : LinesData) (s : S) → ReadOn left l l s s []
read_nothing left l s = record {
  consumed = Consumes-nil (left s);
  held = sym (append-nil l.held);
  taken = omega arith;
  given = refl;
  limit = refl;
  closed = λ ended. (ended, refl);
  end = λ ended. inl ended;
  lazy = inr (refl, refl);
}

-- two calls read what both read
pub read_more : {S : Type 0} (left : S → Option (List ℕ)) (a b c : LinesData) (s t u : S) (xs ys : List ℕ) → ReadOn left a b s t xs → ReadOn left b c t u ys → ReadOn left a c s u (xs ++ ys)
read_more {S} left a b c s t u xs ys x y = record {
  consumed = Consumes-trans (left s) (left t) (left u) xs ys x.consumed y.consumed;
  held = y.held ∙ ap (λ (l : List ℕ). l ++ ys) x.held ∙ append_assoc a.held xs ys;
  taken = omega (arith, x.taken, y.taken, length-append xs ys);
  given = y.given ∙ x.given;
  limit = y.limit ∙ x.limit;
  closed = λ ended. let first = x.closed ended in let second = y.closed first.0 in (second.0, ap (λ (l : List ℕ). l ++ ys) first.1 ∙ second.1);
  end = λ ended. by_end (y.end ended);
  lazy = by_lazy x.lazy;
} where
  still : IsTrue b.ended → Needed b ys ⊎ ((c ≡ b) × (u ≡ t)) → u ≡ t
  still ended (inl n) = absurd (true≢false (sym ended ∙ n.waits.running))
  still ended (inr same) = same.1

  by_first : IsTrue b.ended → IsTrue a.ended ⊎ IsAtEnd (left t) → IsTrue a.ended ⊎ IsAtEnd (left u)
  by_first ended (inl first) = inl first
  by_first ended (inr at_end) = inr (subst (λ (v : S). IsAtEnd (left v)) (sym (still ended y.lazy)) at_end)

  by_end : IsTrue b.ended ⊎ IsAtEnd (left u) → IsTrue a.ended ⊎ IsAtEnd (left u)
  by_end (inl ended) = by_first ended (x.end ended)
  by_end (inr at_end) = inr at_end

  unread : c ≡ b → ys ≡ []
  unread same = none_added b.held ys (sym (ap (λ (l : LinesData). l.held) same) ∙ y.held)

  by_first_only : Needed a xs → Needed b ys ⊎ ((c ≡ b) × (u ≡ t)) → Needed a (xs ++ ys)
  by_first_only n (inl m) = needed_then left a b s t xs ys x n.waits.none n.waits.running m
  by_first_only n (inr same) = needed_still a xs ys (unread same.0) n

  by_second : b ≡ a → t ≡ s → Needed b ys ⊎ ((c ≡ b) × (u ≡ t)) → Needed a (xs ++ ys) ⊎ ((c ≡ a) × (u ≡ s))
  by_second same_l same_s (inl m) = inl (needed_then left a b s t xs ys x (sym (ap (λ (l : LinesData). l.failure) same_l) ∙ m.waits.none) (sym (ap (λ (l : LinesData). l.ended) same_l) ∙ m.waits.running) m)
  by_second same_l same_s (inr both) = inr (both.0 ∙ same_l, both.1 ∙ same_s)

  by_lazy : Needed a xs ⊎ ((b ≡ a) × (t ≡ s)) → Needed a (xs ++ ys) ⊎ ((c ≡ a) × (u ≡ s))
  by_lazy (inl n) = inl (by_first_only n y.lazy)
  by_lazy (inr same) = by_second same.0 same.1 y.lazy

-- how many more reads there may be at most before it can be told what stands at the front
abbrev pub reads_left : Bool → ℕ → ℕ
reads_left true held = 0
reads_left false held = most_line_bytes + 2 - held

-- a read leaves fewer reads
pub fewer_left : (a b : LinesData) → Waits a → IsTrue b.ended ⊎ (length a.held < length b.held) → reads_left b.ended (length b.held) < reads_left a.ended (length a.held)
fewer_left a b w grows = subst (λ (e : Bool). reads_left b.ended (length b.held) < reads_left e (length a.held)) (sym w.running) (by b.ended grows) where
  by : (e : Bool) → IsTrue e ⊎ (length a.held < length b.held) → reads_left e (length b.held) < most_line_bytes + 2 - length a.held
  by true _ = omega (arith, w.few)
  by false (inl bad) = absurd (true≢false (sym bad))
  by false (inr more) = omega (arith, w.few, more)

-- an error that is handed on
pub at_error : {A S : Type 0} (faults : S → ℕ) (first mid : Option LineError) (s t u : S) (e : LineError) (r : Result A LineError)
    → IsErrAnd r (λ x. x ≡ e) → mid ≡ None → faults t ≡ faults s → CountsFault {A = Unit {0}} faults mid t u (Err e) → CountsFault faults first s u r
at_error faults first mid s t u e (Ok x) is none calm now = absurd is
at_error faults first mid s t u e (Err why.TooLong) is none calm now = subst (λ (x : LineError). CountsFault {A = Unit {0}} faults mid t u (Err x)) (sym is) now ∙ calm
at_error faults first mid s t u e (Err why.Fault) is none calm now = by (subst (λ (x : LineError). CountsFault {A = Unit {0}} faults mid t u (Err x)) (sym is) now) where
  by_rise : (mid ≡ Some why.Fault) ⊎ Rose (faults t) (faults u) → (first ≡ Some why.Fault) ⊎ Rose (faults s) (faults u)
  by_rise (inl bad) = absurd (true≢false (sym (ap is_some bad) ∙ ap is_some none))
  by_rise (inr rose) = inr (subst (λ (n : ℕ). Rose n (faults u)) calm rose)

  by : (faults t ≤ faults u) × ((mid ≡ Some why.Fault) ⊎ Rose (faults t) (faults u)) → (faults s ≤ faults u) × ((first ≡ Some why.Fault) ⊎ Rose (faults s) (faults u))
  by both = (omega (arith, both.0, calm), by_rise both.1)
