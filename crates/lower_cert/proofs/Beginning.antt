-- A part that is begun anew stays at or above every lower vector.
use Rattle.std.proofs.Common.{slice_index_or, ◌≡◌, ◌≢◌, ℕ, ◌+◌, ◌^◌, ◌<◌, ◌≤◌, inl, inr, ⊎_elim, Bool, true, false, not, ◌&&◌, List, Option, Some, None, length, set, ℤ, pos, ◌*ℤ◌, ◌≤ℤ◌, refl, sym, ap, subst, ◌∙◌, arith, nat_lt, true≢false, lt-ltb, ltb-true, ltb-false, length-set, get_or-set_same, get_or-set_other}
use Rattle.std.proofs.lemmas.List.Elements.{All-set}
use Rattle.std.proofs.lemmas.Int.{by_lt_z}
use Rattle.lift_poly.proofs.Ring.{linear}
use Rattle.lift_grid.specs.Rectangle.{Spans}
use Rattle.lift_grid.specs.Tree.{RejectData}
use Rattle.lift_model.specs.Process.{power}
use Rattle.lift_model.specs.Model.{is_goal, row_at, support}
use Rattle.lift_model.specs.Links.{LinksData, position}
use Rattle.corner_lift.specs.Corner.{whole, parameter_count}
use Rattle.corner_lift.specs.Case.{CaseData, IsCase, IsInside, IsLeast, number, row_value, row_whole, corner_count}
use Rattle.corner_lift.specs.Certificate.{AreNumbers, AtMost, IsLower}
use Rattle.corner_lift.specs.Laws.{NumbersAreInRange, ParametersAreTheRoots}
use Rattle.float_guess.specs.Part.{StandsAt, is_open, KeepsOthers}
use Rattle.lower_cert.specs.Laws.{ClosedIsAbove, GuessIsAbove}
use Rattle.lower_cert.specs.Lowering.{IsHigh, IsHighUnder, from_guess}
use Rattle.float_guess.specs.Notes.{low_word, noted_word}
use Rattle.lower_cert.specs.Beginning.{IsNotedAt, IsNotedPart, IsOtherAt, AreOther, IsFilledAt, IsClosedChoice, IsClosedPosition, IsClosedPart, AreAll}
use Rattle.lower_cert.proofs.Means.{either_way, same_or_less, same_or_not}
use Rattle.lower_cert.proofs.Heights.{below-no}

-- ---- which states are those of a part

pub open_of : (k : CaseData) (l : LinksData) (low high at s : ℕ) → low ≤ at → at < high → StandsAt k l at s → is_open k l low high s ≡ true
open_of k l low high at s from to h =
    let inside = lt-ltb s (length k.model.states) h.state in
    let after : nat_lt (position l s) low ≡ false = below-no (position l s) low (omega (arith, from, h.is)) in
    let before : nat_lt (position l s) high ≡ true = lt-ltb (position l s) high (omega (arith, to, h.is)) in
    rw (h.goal, inside, after, before) refl

parts : (g a b c : Bool) → (not g && (a && (not b && c))) ≡ true → (g ≡ false) × (a ≡ true) × (b ≡ false) × (c ≡ true)
parts true a b c e = cc
parts false false b c e = cc
parts false true true c e = cc
parts false true false false e = cc
parts false true false true e = (refl, refl, refl, refl)

-- where a state of a part stands
pub record IsOpen (k : CaseData) (l : LinksData) (low high s : ℕ) : Type 0 where
  pub at : StandsAt k l (position l s) s
  pub from : low ≤ position l s
  pub to : position l s < high

pub of_open : (k : CaseData) (l : LinksData) (low high s : ℕ) → is_open k l low high s ≡ true → IsOpen k l low high s
of_open k l low high s e =
    let p = parts (is_goal k.model s) (nat_lt s (length k.model.states)) (nat_lt (position l s) low) (nat_lt (position l s) high) e in
    record {
      at = record { state = ltb-true s (length k.model.states) p.1; goal = p.0; is = refl };
      from = ltb-false (position l s) low p.2;
      to = ltb-true (position l s) high p.3;
    }

-- the state at a position is one
pub some_same : (s t : ℕ) → Some s ≡ Some t → t ≡ s
some_same s t e = ap (λ (o : Option ℕ). elim o [ Some n ↦ n | None ↦ 0 ]) (sym e)

-- ---- what is written

pub keeps_same : (k : CaseData) (l : LinksData) (low high : ℕ) (x : List ℤ) → AreNumbers k x → KeepsOthers k l low high x x
keeps_same k l low high x numbers = record { numbers = numbers; others = λ s e. refl }

pub keeps_both : (k : CaseData) (l : LinksData) (low high : ℕ) (x y z : List ℤ) → KeepsOthers k l low high x y → KeepsOthers k l low high y z → KeepsOthers k l low high x z
keeps_both k l low high x y z f g = record { numbers = g.numbers; others = λ s e. g.others s e ∙ f.others s e }

-- where only the number of the state at a position changed, and not if it is a goal state
pub keeps_at : (k : CaseData) (l : LinksData) (at s : ℕ) (x y : List ℤ) → AreNumbers k y → position l s ≡ at → s < length k.model.states → (is_goal k.model s ≡ true → number y s ≡ number x s) → ((t : ℕ) → t ≢ s → number y t ≡ number x t) → KeepsOthers k l at (at + 1) x y
keeps_at k l at s x y numbers is state goal other = record {
  numbers = numbers;
  others = λ t closed. ⊎_elim
      (λ (e : t ≡ s). either_way (is_goal k.model s)
      (λ (g : is_goal k.model s ≡ true). subst (λ i. number y i ≡ number x i) (sym e) (goal g))
      (λ (g : is_goal k.model s ≡ false). absurd (true≢false (sym (open_of k l at (at + 1) at s (omega arith) (omega arith) (record { state = state; goal = g; is = is })) ∙ subst (λ i. is_open k l at (at + 1) i ≡ false) e closed))))
      (λ (ne : t ≢ s). other t ne)
      (same_or_not t s);
}

-- a part that lies in another
pub keeps_wider : (k : CaseData) (l : LinksData) (low high at : ℕ) (x y : List ℤ) → low ≤ at → at < high → KeepsOthers k l at (at + 1) x y → KeepsOthers k l low high x y
keeps_wider k l low high at x y from to h = record {
  numbers = h.numbers;
  others = λ t closed. either_way (is_open k l at (at + 1) t)
      (λ (e : is_open k l at (at + 1) t ≡ true).
      let o = of_open k l at (at + 1) t e in
      absurd (true≢false (sym (open_of k l low high (position l t) t (omega (arith, from, o.from)) (omega (arith, to, o.to)) o.at) ∙ closed)))
      (λ (e : is_open k l at (at + 1) t ≡ false). h.others t e);
}

module _ (k : CaseData) (l : LinksData) (low high at s : ℕ) (x : List ℤ) (v : ℤ) (numbers : AreNumbers k x) (from : low ≤ at) (to : at < high) (stands : StandsAt k l at s) (least : pos 0 ≤ℤ v) (most : v ≤ℤ pos (2 ^ k.w)) where
  in_lane : s < length x
  in_lane = omega (arith, stands.state, numbers.size)

  same : number (set x s v) s ≡ v
  same = let lt = in_lane in rw get_or-set_same refl

  other : (t : ℕ) → t ≢ s → number (set x s v) t ≡ number x t
  other t ne = rw get_or-set_other refl

  pub keeps_set : KeepsOthers k l low high x (set x s v)
  keeps_set = record {
    numbers = record { size = length-set x s v ∙ numbers.size; range = All-set (λ n. (pos 0 ≤ℤ n) × (n ≤ℤ pos (2 ^ k.w))) x s v (least, most) numbers.range };
    others = λ t closed. other t (λ e. absurd (true≢false (sym (open_of k l low high at s from to stands) ∙ subst (λ i. is_open k l low high i ≡ false) e closed)));
  }

  pub filled_some : ((t : ℕ) → StandsAt k l at t → t ≡ s) → IsFilledAt k l low high at v x (set x s v)
  filled_some only = record {
    kept = keeps_set;
    each = λ t. ⊎_elim (λ (e : t ≡ s). inr (ap (λ i. number (set x s v) i) e ∙ same)) (λ (ne : t ≢ s). inl (other t ne)) (same_or_not t s);
    here = λ t h. ap (λ i. number (set x s v) i) (only t h) ∙ same;
  }

pub filled_none : (k : CaseData) (l : LinksData) (low high at : ℕ) (x : List ℤ) (v : ℤ) → AreNumbers k x → ((t : ℕ) → StandsAt k l at t → ⊥) → IsFilledAt k l low high at v x x
filled_none k l low high at x v numbers none = record { kept = keeps_same k l low high x numbers; each = λ t. inl refl; here = λ t h. absurd (none t h) }

-- one position more
pub filled_more : (k : CaseData) (l : LinksData) (low high at : ℕ) (x y : List ℤ) (v : ℤ) → AreAll k l x v low at → IsFilledAt k l low high at v x y → AreAll k l y v low (at + 1)
filled_more k l low high at x y v all one p from to t stands =
    ⊎_elim
    (λ (less : p < at). ⊎_elim (λ (e : number y t ≡ number x t). e ∙ all p from less t stands) (λ (e : number y t ≡ v). e) (one.each t))
    (λ (e : p ≡ at). one.here t (subst (λ i. StandsAt k l i t) e stands))
    (same_or_less p at to)

-- a state's number that is noted
pub noted_some : (k : CaseData) (l : LinksData) (x : List ℤ) (at s v : ℕ) (noted : List ℕ) → s < length noted → noted_word v ≡ low_word (number x s) → ((t : ℕ) → StandsAt k l at t → t ≡ s) → IsNotedAt k l x at noted (set noted s v)
noted_some k l x at s v noted lt is only = record {
  each = λ t. ⊎_elim (λ (e : t ≡ s). inr (same t e)) (λ (ne : t ≢ s). inl (rw get_or-set_other refl)) (same_or_not t s);
  here = λ t h. same t (only t h);
}
  where
    same : (t : ℕ) → t ≡ s → noted_word (slice_index_or (set noted s v) t 0) ≡ low_word (number x t)
    same t e = ap (λ i. noted_word (slice_index_or (set noted s v) i 0)) e ∙ (rw get_or-set_same is) ∙ ap (λ i. low_word (number x i)) (sym e)

pub noted_none : (k : CaseData) (l : LinksData) (x : List ℤ) (at : ℕ) (noted : List ℕ) → ((t : ℕ) → StandsAt k l at t → ⊥) → IsNotedAt k l x at noted noted
noted_none k l x at noted none = record { each = λ t. inl refl; here = λ t h. absurd (none t h) }

pub noted_more : (k : CaseData) (l : LinksData) (x : List ℤ) (low at : ℕ) (old new : List ℕ) → IsNotedPart k l x old low at → IsNotedAt k l x at old new → IsNotedPart k l x new low (at + 1)
noted_more k l x low at old new all one p from to t stands =
    ⊎_elim
    (λ (less : p < at). ⊎_elim (λ (e : slice_index_or new t 0 ≡ slice_index_or old t 0). ap noted_word e ∙ all p from less t stands) (λ (e : noted_word (slice_index_or new t 0) ≡ low_word (number x t)). e) (one.each t))
    (λ (e : p ≡ at). one.here t (subst (λ i. StandsAt k l i t) e stands))
    (same_or_less p at to)

pub closed_more : (k : CaseData) (l : LinksData) (spans : Spans) (x : List ℤ) (low at : ℕ) → IsClosedPart k l spans x low at → IsClosedPosition k l spans x at → IsClosedPart k l spans x low (at + 1)
closed_more k l spans x low at all one p from to =
    ⊎_elim
    (λ (less : p < at). all p from less)
    (λ (e : p ≡ at). subst (λ i. IsClosedPosition k l spans x i) (sym e) one)
    (same_or_less p at to)

-- ---- what no choice lets rise

-- the least sum tells it
pub closed_of : ParametersAreTheRoots → (k : CaseData) (spans : Spans) (x : List ℤ) (s a : ℕ) (m : ℤ) → IsInside k.root spans → IsLeast (row_value k spans s a x) (corner_count k s a) m
    → m ≤ℤ (number x s *ℤ row_whole k s a) → IsClosedChoice k spans x s a
closed_of parameters k spans x s a m within least le =
    let row = row_at k.model s a in
    let same : parameter_count spans (support row) ≡ parameter_count k.root (support row) = parameters k spans row within.within in
    let wholes : number x s *ℤ whole k.model k.d spans row ≡ number x s *ℤ row_whole k s a = ap (λ n. number x s *ℤ (k.model.common *ℤ power k.d n)) same in
    (least.attained.0, (subst (λ n. least.attained.0 < 2 ^ n) (sym same) least.attained.1.0, omega (arith, linear, le, least.attained.1.1, wholes)))

-- ---- what stays above

module _ (ranges : NumbersAreInRange) (k : CaseData) (l : LinksData) (spans : Spans) (low high : ℕ) (old new : List ℤ) (is : IsCase k) (within : IsInside k.root spans) (high_old : IsHigh k spans old) (kept : KeepsOthers k l low high old new) where
  goal_is_not_open : (s : ℕ) → is_goal k.model s ≡ true → is_open k l low high s ≡ false
  goal_is_not_open s g = rw g refl

  open_is_no_goal : (s : ℕ) → is_open k l low high s ≡ true → is_goal k.model s ≡ false
  open_is_no_goal s e = (of_open k l low high s e).at.goal

  most : (q : RejectData) → IsLower k spans q → (t : ℕ) → number q.numbers t ≤ℤ pos (2 ^ k.w)
  most q lower t = (ranges k q.numbers t lower.numbers).1

  -- a vector that no choice lets rise in the part
  pub closed_high : ClosedIsAbove → IsClosedPart k l spans new low high → IsHigh k spans new
  closed_high start all = record {
    numbers = kept.numbers;
    goal = λ s g. kept.others s (goal_is_not_open s g) ∙ high_old.goal s g;
    above = λ y h under. start k spans (is_open k l low high) (number new) is within open_is_no_goal
        (λ s. (ranges k new s kept.numbers).0)
        (λ q lower s shut. omega (arith, linear, high_old.above q lower (most q lower) s, kept.others s shut))
        (λ s a yes choice. let o = of_open k l low high s yes in all (position l s) o.from o.to s o.at a choice)
        y h;
  }

  -- 1 in the part
  pub top_high : AreAll k l new (pos (2 ^ k.w)) low high → IsHigh k spans new
  top_high all = record {
    numbers = kept.numbers;
    goal = λ s g. kept.others s (goal_is_not_open s g) ∙ high_old.goal s g;
    above = λ y h under s. either_way (is_open k l low high s)
        (λ e. let o = of_open k l low high s e in omega (arith, linear, all (position l s) o.from o.to s o.at, (ranges k y.numbers s h.numbers).1))
        (λ e. omega (arith, linear, high_old.above y h under s, kept.others s e));
  }

  -- ---- from a guess

  -- what is guessed in the part is at or above every lower vector at or below it
  pub guess_high : IsHighUnder k (from_guess spans new) new
  guess_high = record { numbers = kept.numbers; goal = λ s g. kept.others s (goal_is_not_open s g) ∙ high_old.goal s g; above = λ y h under. under }

  -- where each state of the part fell below the guess, or stands at 2 ^ w, what it fell to is at or above every lower vector
  pub fallen_high : GuessIsAbove → (z : List ℤ) (noted : List ℕ) → IsHighUnder k (from_guess spans new) z → AtMost z new → IsNotedPart k l new noted low high → AreOther k l z noted low high → IsHigh k spans z
  fallen_high guess z noted fallen below notes others = record {
    numbers = fallen.numbers;
    goal = fallen.goal;
    above = λ y h under. guess k spans (number new) (number z) is within
        (λ s. (ranges k z s fallen.numbers).0)
        (λ s g. omega (arith, linear, fallen.goal s g))
        fallen.above
        (λ s. either_way (is_open k l low high s)
        (λ e. let o = of_open k l low high s e in
        ⊎_elim
        (λ (other : noted_word (slice_index_or noted s 0) ≢ low_word (number z s)).
        let differs : number z s ≡ number new s → ⊥ = λ same. other (notes (position l s) o.from o.to s o.at ∙ ap low_word (sym same)) in
        inl (by_lt_z (number z s) (number new s) (λ lt. lt) (λ le. absurd (differs (omega (arith, linear, le, below s))))))
        (λ (full : number z s ≡ pos (2 ^ k.w)). inr (λ q lower. omega (arith, linear, (ranges k q.numbers s lower.numbers).1, below s, full)))
        (others (position l s) o.from o.to s o.at))
        (λ e. inr (λ q lower. omega (arith, linear, high_old.above q lower (most q lower) s, kept.others s e))))
        y h;
  }

pub others_more : (k : CaseData) (l : LinksData) (x : List ℤ) (noted : List ℕ) (low at : ℕ) → AreOther k l x noted low at → IsOtherAt k l x noted at → AreOther k l x noted low (at + 1)
others_more k l x noted low at all one p from to =
    ⊎_elim
    (λ (less : p < at). all p from less)
    (λ (e : p ≡ at). subst (λ i. IsOtherAt k l x noted i) (sym e) one)
    (same_or_less p at to)
