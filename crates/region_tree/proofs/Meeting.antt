-- What the rectangles that are noted tell of another one.
use Rattle.std.proofs.Common.{◌≡◌, ℕ, zero, suc, ◌+◌, ◌<◌, ◌≤◌, List, [], ◌∷◌, length, get_or, drop, ℤ, pos, ◌*ℤ◌, ◌≤ℤ◌, ◌<ℤ◌, Option, Some, None, refl, sym, ap, ◌∙◌, subst, arith}
use Rattle.std.proofs.lemmas.Int.{by_lt_z}
use Rattle.std.proofs.lemmas.List.{drop_more, length-drop}
use Rattle.lift_poly.specs.Polynomial.{Valuation}
use Rattle.lift_poly.proofs.Ring.{linear, mul-comm, mul-le}
use Rattle.lift_grid.specs.Rectangle.{Spans, Inside, AreSpans, spans_of}
use Rattle.lift_grid.specs.Tree.{RejectData}
use Rattle.lift_cert.specs.Certificate.{IsAccepting, IsRejecting, NoneAccepts}
use Rattle.lift_cert.specs.Laws.{NotBothKindsAtAValuation}
use Rattle.lift_cert.specs.declared.bound.Bound.{Bound}
use Rattle.corner_lift.specs.Case.{CaseData, IsCase, IsInside}
use Rattle.lower_cert.specs.AnyRanks.{RanksFit}
use Rattle.region_tree.specs.Laws.{MeetingRectanglesShare}
use Rattle.region_tree.specs.Recent.{RecentData, DecidedData, Meet, sides_at, IsNoted, Notes, NotesAccepted, NotesRejected, IsInferred, forgotten}
use Rattle.region_tree.specs.Right.{NoneRejects}
use Rattle.region_tree.specs.Sides.{AreApart, AreKnown, Certificates, HoldsWhereMet, IsSoundFor, IsTold}
use Rattle.region_tree.specs.declared.decided.Outlook.{Outlook}
use Rattle.region_tree.specs.declared.pools.Pools.{Pools}
use Rattle.region_tree.specs.declared.side.Side.{Side}
use Rattle.region_tree.specs.declared.side.Side.TheVariants.{Above, Below}
use Rattle.region_tree.proofs.AnyHeight.{none_at_any_height}

-- ---- the sides of two rectangles, span by span

pub spans_step : (xs : List ℤ) (i : ℕ) → i + 1 < length xs → spans_of (drop i xs) ≡ (get_or xs i (pos 0), get_or xs (i + 1) (pos 0)) ∷ spans_of (drop (i + 2) xs)
spans_step xs i lt =
    let first = drop_more xs i (pos 0) (omega (arith, lt)) in
    let second = drop_more xs (i + 1) (pos 0) lt in
    let next : i + 1 + 1 ≡ i + 2 = omega arith in
    ap spans_of (first ∙ ap (λ l. get_or xs i (pos 0) ∷ l) (second ∙ ap (λ n. get_or xs (i + 1) (pos 0) ∷ drop n xs) next))

pub spans_end : (xs : List ℤ) (i : ℕ) → length xs ≤ i + 1 → spans_of (drop i xs) ≡ []
spans_end xs i le = short (drop i xs) (omega (arith, le, length-drop i xs))
  where
    short : (ys : List ℤ) → length ys ≤ 1 → spans_of ys ≡ []
    short [] h = refl
    short (y ∷ []) h = refl
    short (y ∷ z ∷ ys) h = absurd (omega (arith, h))

-- ---- a valuation that they share

scaled : (d a b : ℤ) → pos 0 <ℤ d → a ≤ℤ b → (a *ℤ d) ≤ℤ (b *ℤ d)
scaled d a b positive le = let f = mul-le d a b (omega (arith, linear, positive)) le in omega (arith, linear, f, mul-comm d a, mul-comm d b)

shared_value : (s t : ℤ × ℤ) → s.0 <ℤ s.1 → t.0 <ℤ t.1 → s.0 ≤ℤ t.1 → t.0 ≤ℤ s.1 → (m : ℤ) × ((s.0 ≤ℤ m) × (m ≤ℤ s.1) × (t.0 ≤ℤ m) × (m ≤ℤ t.1))
shared_value s t rising others a b =
    by_lt_z s.0 t.0
    (λ lt. (t.0, (omega (arith, linear, lt), b, omega (arith, linear), omega (arith, linear, others))))
    (λ le. (s.0, (omega (arith, linear), omega (arith, linear, rising), le, a)))

shared_valuation : (d : ℤ) (ss ts : Spans) → pos 0 <ℤ d → AreSpans ss → AreSpans ts → Meet ss ts → (v : Valuation) × (Inside d ss v × Inside d ts v)
shared_valuation d [] [] positive are others meet = ([], (tt, tt))
shared_valuation d (s ∷ ss) (t ∷ ts) positive are others meet =
    let rest = shared_valuation d ss ts positive are.1 others.1 meet.2 in
    let m = shared_value s t are.0.rising others.0.rising meet.0 meet.1 in
    let within = m.1 in (
      (m.0, d) ∷ rest.0,
      (
        (positive, scaled d s.0 m.0 positive within.0, scaled d m.0 s.1 positive within.1, rest.1.0),
        (positive, scaled d t.0 m.0 positive within.2, scaled d m.0 t.1 positive within.3, rest.1.1),
      ),
    )
shared_valuation d [] (t ∷ ts) positive are others meet = absurd meet
shared_valuation d (s ∷ ss) [] positive are others meet = absurd meet

pub meeting_rectangles_share : MeetingRectanglesShare
meeting_rectangles_share k spans others is inside there meet = shared_valuation k.d spans others is.asked.grid.positive inside.rectangle there.rectangle meet

-- a rectangle shares valuations with itself
pub meets_itself : (ss : Spans) → AreSpans ss → Meet ss ss
meets_itself [] are = tt
meets_itself (s ∷ ss) are = (omega (arith, linear, are.0.rising), omega (arith, linear, are.0.rising), meets_itself ss are.1)

-- ---- what rectangles tell of those that they share a valuation with

module _ (one_kind : NotBothKindsAtAValuation) (share : MeetingRectanglesShare) (k : CaseData) (is : IsCase k) (bound : Bound) (spans others : Spans) (inside : IsInside k.root spans) (there : IsInside k.root others) (meet : Meet spans others) where
  pub accepting_rejects_none : RanksFit → (x : List ℤ) → IsAccepting k spans bound x → NoneRejects k others bound
  accepting_rejects_none fit x accepting =
      let v = share k spans others is inside there meet in
      none_at_any_height fit k others bound is (λ r rejecting. one_kind k spans others bound x r v.0 is inside there v.1.0 v.1.1 accepting rejecting)

  pub rejecting_accepts_none : (r : RejectData) → IsRejecting k spans bound r → NoneAccepts k others bound
  rejecting_accepts_none r rejecting x accepting =
      let v = share k spans others is inside there meet in
      one_kind k others spans bound x r v.0 is there inside v.1.1 v.1.0 accepting rejecting

-- what is noted says what is to be looked for
pub inferred_is_sound : (s : Certificates) (k : CaseData) (d : DecidedData) (spans : Spans) (o : Outlook) → AreKnown s k d → IsInside k.root spans → IsInferred d spans o → IsSoundFor s k spans o
inferred_is_sound s k d spans o known inside inferred = record {
  accepts = λ no. let meets = inferred.accepts.0 no in known.rejected meets.0 meets.1.0 spans inside meets.1.1;
  rejects = λ no. let meets = inferred.rejects.0 no in known.accepted meets.0 meets.1.0 spans inside meets.1.1;
}

-- ---- what is noted has its certificate

pub by_eq : {P : Type 0} (i j : ℕ) → (i ≡ j → P) → ((i ≡ j → ⊥) → P) → P
by_eq zero zero same other = same refl
by_eq zero (suc j) same other = other (λ e. omega (arith, e))
by_eq (suc i) zero same other = other (λ e. omega (arith, e))
by_eq (suc i) (suc j) same other = by_eq i j (λ e. same (ap suc e)) (λ n. other (λ e. n (omega (arith, e))))

noted_too : (P : List ℤ → Type 0) (sides : List ℤ) (old new : RecentData) → IsNoted sides old new → P sides → ((i : ℕ) → i < old.count → P (sides_at old i)) → (i : ℕ) → i < new.count → P (sides_at new i)
noted_too P sides old new noted here all i lt =
    by_eq i noted.0
    (λ same. subst P (sym (ap (λ n. sides_at new n) same ∙ noted.1.noted)) here)
    (λ other. let at = noted.1.others i lt other in subst P (sym at.1) (all i at.0))

module _ (s : Certificates) (k : CaseData) (sides : List ℤ) (old new : DecidedData) (known : AreKnown s k old) where
  pub accepted_too : HoldsWhereMet s.none_below k sides → NotesAccepted sides old new → AreKnown s k new
  accepted_too here notes = record {
    accepted = noted_too (HoldsWhereMet s.none_below k) sides old.accepted new.accepted notes.0 here known.accepted;
    rejected = rw notes.1 known.rejected;
  }

  pub rejected_too : HoldsWhereMet s.none_above k sides → NotesRejected sides old new → AreKnown s k new
  rejected_too here notes = record {
    accepted = rw notes.1 known.accepted;
    rejected = noted_too (HoldsWhereMet s.none_above k) sides old.rejected new.rejected notes.0 here known.rejected;
  }

  -- what was told of a rectangle is noted
  pub known_too : AreApart s k → IsInside k.root (spans_of sides) → (p : Pools) (found : Option Side) → IsTold s k (spans_of sides) p found → Notes sides found old new → AreKnown s k new
  known_too apart inside p (Some Above) told notes = accepted_too (λ others there meet. apart.above (spans_of sides) others p inside there meet told) notes
  known_too apart inside p (Some (Below rate)) told notes = rejected_too (λ others there meet. apart.below (spans_of sides) others p rate.e rate.k inside there meet told) notes
  known_too apart inside p None told notes = rw notes known

-- where none is noted, nothing is said
pub none_known : (s : Certificates) (k : CaseData) (d : DecidedData) → AreKnown s k (forgotten d)
none_known s k d = record { accepted = λ i lt. absurd (omega (arith, lt)); rejected = λ i lt. absurd (omega (arith, lt)) }
