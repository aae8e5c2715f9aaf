-- Calls in turn.
use Rattle.std.proofs.Common.{◌≡◌, ◌⊎◌, ◌∙◌, ap, sym, subst, refl, ℕ, List, [], ◌++◌, None, Some, IsTrue, arith, length-append, inl, inr, true≢false}
use Rattle.std.specs.declared.option.Option.{Option}
use Rattle.std.specs.Prelude.{is_some}
use Rattle.std.specs.Io.KnownBytes.{IsAtEnd}
use Rattle.std.proofs.KnownBytes.{Consumes-nil, Consumes-trans}
use Rattle.lift_base.specs.Outside.{Rose}
use Rattle.lift_base.specs.declared.pieces.LineError.{LineError}
use Rattle.lift_base.specs.declared.pieces.LineError.TheVariants as why
use Rattle.lift_base.specs.Lines.{LinesData, MayFollow}
use Rattle.line_text.specs.Follow.{Took, Ran, Went, CountsFault}
use Rattle.line_text.specs.Laws.{BeginsAnywhere, GoesOn}

-- what both calls took
took_more : {S : Type 0} (left : S → Option (List ℕ)) (a b c : LinesData) (s t u : S) (xs ys : List ℕ) → Took left a b s t xs → Took left b c t u ys → Took left a c s u (xs ++ ys)
took_more {S} left a b c s t u xs ys x y = record {
  consumed = Consumes-trans (left s) (left t) (left u) xs ys x.consumed y.consumed;
  taken = omega (arith, x.taken, y.taken, length-append xs ys);
  limit = y.limit ∙ x.limit;
  closed = λ ended. let first = x.closed ended in let second = y.closed first.0 in (second.0, ap (λ (l : List ℕ). l ++ ys) first.1 ∙ second.1, second.2 ∙ first.2);
  end = λ ended. by_end (y.end ended);
} where
  by_first : IsTrue b.ended → IsTrue a.ended ⊎ IsAtEnd (left t) → IsTrue a.ended ⊎ IsAtEnd (left u)
  by_first ended (inl first) = inl first
  by_first ended (inr at_end) = inr (subst (λ (v : S). IsAtEnd (left v)) (sym ((y.closed ended).2)) at_end)

  by_end : IsTrue b.ended ⊎ IsAtEnd (left u) → IsTrue a.ended ⊎ IsAtEnd (left u)
  by_end (inl ended) = by_first ended (x.end ended)
  by_end (inr at_end) = inr at_end

-- what may follow the second call may follow the first, behind what the second one took
follows_first : {S : Type 0} (left : S → Option (List ℕ)) (b c : LinesData) (t u : S) (ys later : List ℕ) → Took left b c t u ys → MayFollow c later → MayFollow b (ys ++ later)
follows_first left b c t u ys later y may ended = let last = y.closed ended in ap (λ (l : List ℕ). l ++ later) last.1 ∙ may last.0

-- faults of both
fault_more : {S : Type 0} (faults : S → ℕ) (a b : LinesData) (s t u : S) (failure : Option LineError)
    → (b.failure ≡ None) ⊎ (b ≡ a) → faults t ≡ faults s → CountsFault faults b.failure t u failure → CountsFault faults a.failure s u failure
fault_more faults a b s t u None clean calm now = now ∙ calm
fault_more faults a b s t u (Some why.TooLong) clean calm now = now ∙ calm
fault_more faults a b s t u (Some why.Fault) clean calm now = (omega (arith, now.0, calm), by clean now.1) where
  by : (b.failure ≡ None) ⊎ (b ≡ a) → (b.failure ≡ Some why.Fault) ⊎ Rose (faults t) (faults u) → (a.failure ≡ Some why.Fault) ⊎ Rose (faults s) (faults u)
  by (inl none) (inl bad) = absurd (true≢false (sym (ap is_some bad) ∙ ap is_some none))
  by (inr same) (inl bad) = inl (sym (ap (λ (l : LinesData). l.failure) same) ∙ bad)
  by _ (inr rose) = inr (subst (λ (n : ℕ). Rose n (faults u)) calm rose)

pub begins : {S : Type 0} (left : S → Option (List ℕ)) (faults : S → ℕ) → BeginsAnywhere left faults
begins left faults l s = record {
  took = record { consumed = Consumes-nil (left s); taken = omega arith; limit = refl; closed = λ ended. (ended, refl, refl); end = λ ended. inl ended };
  calm = refl;
  clean = inr refl;
}

pub goes : {S : Type 0} (left : S → Option (List ℕ)) (faults : S → ℕ) → GoesOn left faults
goes left faults a b c s t u xs ys failure w r = (
  record {
    took = took_more left a b c s t u xs ys w.took r.took;
    left_with = r.left_with;
    fault = fault_more faults a b s t u failure w.clean w.calm r.fault;
  },
  λ later may. follows_first left b c t u ys later r.took may,
)
