-- How a set of states with the same number is lowered to its best exit.
use Rattle.std.proofs.Common.{◌≡◌, ℕ, ◌+◌, ◌^◌, ◌<◌, ◌≤◌, inl, inr, ⊎_elim, true, false, List, length, ℤ, pos, ◌+ℤ◌, ◌≤ℤ◌, ◌<ℤ◌, sym, subst, ◌∙◌, arith, nat_lt, true≢false, ltb-true, ltb-false}
use Rattle.lift_poly.proofs.Ring.{linear}
use Rattle.lift_grid.specs.Rectangle.{Spans}
use Rattle.lift_model.specs.Model.{is_goal, choices}
use Rattle.corner_lift.specs.Case.{CaseData, IsCase, IsInside, number}
use Rattle.corner_lift.specs.Certificate.{unmarked, mark}
use Rattle.corner_lift.specs.Laws.{NumbersAreInRange}
use Rattle.lower_cert.specs.Capping.{marked}
use Rattle.lower_cert.specs.Lowering.{IsHigh, IsLowered, from_top}
use Rattle.lower_cert.specs.Exits.{AreLevel, ExitsAtMost, ChoicesExitAtMost, StatesExitAtMost, AreLoweredTo}
use Rattle.lower_cert.specs.Laws.{CappingKeepsUnder}
use Rattle.lower_cert.proofs.Means.{Place, either_way, same_or_less}
use Rattle.lower_cert.proofs.Capped.{caps_more}
use Rattle.lower_cert.proofs.Lowering.{all_from, total_most}
use Rattle.lower_cert.proofs.Heights.{mark-beyond}

module _ (k : CaseData) (spans : Spans) (place : Place k spans) (x : List ℤ) (marks : List ℕ) (m : ℤ) where
  more : (s a : ℕ) (r q : ℤ) → a < length (choices k.model s) → r ≤ℤ q → ExitsAtMost k spans x marks m s a r → ExitsAtMost k spans x marks m s a q
  more s a r q choice le h =
      λ low. let one = h (omega (arith, linear, le, low)) in
      (one.0, (one.1.0, caps_more place.laws k spans (marked marks) (number x) (r +ℤ pos 1) (q +ℤ pos 1) s a one.0 place.case place.within choice one.1.0 (omega (arith, linear, le)) one.1.1))

  pub choices_next : (s a : ℕ) (r h q : ℤ) → ChoicesExitAtMost k spans x marks m s a r → ExitsAtMost k spans x marks m s a h → r ≤ℤ q → h ≤ℤ q → ChoicesExitAtMost k spans x marks m s (a + 1) q
  choices_next s a r h q old one r_le h_le =
      record {
        least = omega (arith, linear, old.least, r_le);
        each = λ b lt choice.
            ⊎_elim
            (λ (l : b < a). more s b r q choice r_le (old.each b l choice))
            (λ (e : b ≡ a). more s b h q choice h_le (subst (λ i. ExitsAtMost k spans x marks m s i h) (sym e) one))
            (same_or_less b a lt);
      }

  pub states_next : (s : ℕ) (r h q : ℤ) → StatesExitAtMost k spans x marks m s r → (marked marks s ≡ true → ChoicesExitAtMost k spans x marks m s (length (choices k.model s)) h) → r ≤ℤ q → h ≤ℤ q → StatesExitAtMost k spans x marks m (s + 1) q
  states_next s r h q old one r_le h_le =
      record {
        least = omega (arith, linear, old.least, r_le);
        each = λ t a lt inside choice.
            ⊎_elim
            (λ (l : t < s). more t a r q choice r_le (old.each t a l inside choice))
            (λ (e : t ≡ s). more t a h q choice h_le (subst (λ i. ExitsAtMost k spans x marks m i a h) (sym e) (at_state (subst (λ i. marked marks i ≡ true) e inside) a (subst (λ i. a < length (choices k.model i)) e choice))))
            (same_or_less t s lt);
      }
    where
      at_state : marked marks s ≡ true → (a : ℕ) → a < length (choices k.model s) → ExitsAtMost k spans x marks m s a h
      at_state inside a choice = (one inside).each a choice choice

pub choices_all : (k : CaseData) (spans : Spans) (x : List ℤ) (marks : List ℕ) (n m : ℤ) (s a : ℕ) (r : ℤ) → n ≡ m → length (choices k.model s) ≤ a → ChoicesExitAtMost k spans x marks n s a r → ChoicesExitAtMost k spans x marks m s (length (choices k.model s)) r
choices_all k spans x marks n m s a r e all h = subst (λ i. ChoicesExitAtMost k spans x marks i s (length (choices k.model s)) r) e (record { least = h.least; each = λ b lt choice. h.each b (omega (arith, lt, all)) choice })

pub states_all : (k : CaseData) (spans : Spans) (x : List ℤ) (marks : List ℕ) (n m : ℤ) (s count : ℕ) (r : ℤ) → n ≡ m → count ≤ s → StatesExitAtMost k spans x marks n s r → StatesExitAtMost k spans x marks m count r
states_all k spans x marks n m s count r e all h = subst (λ i. StatesExitAtMost k spans x marks i count r) e (record { least = h.least; each = λ t a lt inside choice. h.each t a (omega (arith, lt, all)) inside choice })

module _ (keeps : CappingKeepsUnder) (ranges : NumbersAreInRange) (k : CaseData) (spans : Spans) (old new : List ℤ) (marks ranks : List ℕ) (m r : ℤ) (is : IsCase k) (within : IsInside k.root spans) (high : IsHigh k spans old) (size : length marks ≡ length k.model.states) (goal : (s : ℕ) → unmarked ≤ mark ranks s → is_goal k.model s ≡ false) (level : AreLevel marks old ranks m) (exits : StatesExitAtMost k spans old marks m (length k.model.states) r) (less : r <ℤ m) (low : AreLoweredTo old new marks r) where
  bounds : (t : ℕ) → (pos 0 ≤ℤ number new t) × (number new t ≤ℤ number old t)
  bounds t =
      let range = ranges k old t high.numbers in
      ⊎_elim
      (λ (e : number new t ≡ number old t). (omega (arith, linear, e, range.0), omega (arith, linear, e)))
      (λ (d : (marked marks t ≡ true) × (number new t ≡ r)). let at = (level t d.0).1 in (omega (arith, linear, d.1, exits.least), omega (arith, linear, d.1, at, less)))
      (low.each t)

  no_goal : (s : ℕ) → marked marks s ≡ true → is_goal k.model s ≡ false
  no_goal s e = goal s (level s e).0

  state_of : (s : ℕ) → marked marks s ≡ true → s < length k.model.states
  state_of s e =
      let small = ltb-true (mark marks s) 1 e in
      either_way (nat_lt s (length k.model.states))
      (λ b. ltb-true s (length k.model.states) b)
      (λ b. absurd (omega (arith, small, mark-beyond marks s (omega (arith, size, ltb-false s (length k.model.states) b)))))

  pub exit_lowers : IsLowered k (from_top k spans) old new false
  exit_lowers = record {
    high = record {
      numbers = record { size = low.size ∙ high.numbers.size; range = all_from (λ i. (pos 0 ≤ℤ i) × (i ≤ℤ pos (2 ^ k.w))) new (λ t lt. let b = bounds t in (b.0, omega (arith, linear, b.1, (ranges k old t high.numbers).1))) };
      goal = λ s g. ⊎_elim
          (λ (e : number new s ≡ number old s). e ∙ high.goal s g)
          (λ (d : (marked marks s ≡ true) × (number new s ≡ r)). absurd (true≢false (sym g ∙ no_goal s d.0)))
          (low.each s);
      above = keeps k spans (marked marks) (λ s. pos (2 ^ k.w)) (number old) (r +ℤ pos 1) (number new) is within no_goal (omega (arith, linear, exits.least)) high.above
          (λ s a e choice. exits.each s a (state_of s e) e choice less)
          (λ s. ⊎_elim
          (λ (e : number new s ≡ number old s). inl (omega (arith, linear, e)))
          (λ (d : (marked marks s ≡ true) × (number new s ≡ r)). inr (d.0, omega (arith, linear, d.1)))
          (low.each s));
    };
    below = λ t. (bounds t).1;
    most = total_most old new low.size bounds;
    less = λ b. absurd (true≢false (sym b));
  }
