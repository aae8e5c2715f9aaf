-- The search for the least precision that decides, for whatever is sought.
use Rattle.std.proofs.Common.{◌≡◌, ℕ, ◌≤◌, true, false, true≢false, Option, Some, None, MatchOption, sym, ◌∙◌, arith}
use Rattle.std.specs.Prelude.{is_some}
use Rattle.lift_grid.specs.Rectangle.{Spans}
use Rattle.lift_range.specs.Range.{Between}
use Rattle.corner_lift.specs.Case.{CaseData, IsInside, at}
use Rattle.region_tree.specs.Recent.{LooksFrom}
use Rattle.region_tree.specs.Sides.{AgreeAtPrecisions, AreApart, Certificates, IsDecidedFrom, IsSoundFor, IsTold, IsUndecided}
use Rattle.region_tree.specs.declared.decided.Outlook.{Outlook}
use Rattle.region_tree.specs.declared.pools.Pools.{Pools}
use Rattle.region_tree.specs.declared.side.Side.{Side}
use Rattle.region_tree.specs.declared.side.Side.TheVariants.{Above, Below}
use Rattle.region_tree.proofs.Meeting.{meets_itself}

-- the outlook holds at each precision up to the case's
abbrev pub IsSoundBelow : Certificates → CaseData → Spans → Outlook → Type 0
IsSoundBelow s k ss o = (u : ℕ) → Between 1 k.w u → IsSoundFor s (at k u) ss o

module _ (s : Certificates) (k : CaseData) (ss : Spans) (agree : AgreeAtPrecisions s k) where
  -- what decides a precision isn't missing there
  pub decided_at : (u : ℕ) (p : Pools) (side : Side) → IsDecidedFrom s (at k u) ss p side → IsUndecided s (at k u) ss → ⊥
  decided_at u p Above h none = agree.above ss u p h none.0
  decided_at u p (Below rate) h none = agree.below ss u p rate.e rate.k h none.1

  pub some_at : (u : ℕ) (p : Pools) (found : Option Side) → is_some found ≡ true → IsTold s (at k u) ss p found → IsUndecided s (at k u) ss → ⊥
  some_at u p (Some side) e told = decided_at u p side told
  some_at u p None e told = absurd (true≢false (sym e))

  -- where a precision doesn't decide, none below it does
  pub undecided_below : (t u : ℕ) → 1 ≤ t → t ≤ u → u ≤ k.w → IsUndecided s (at k u) ss → IsUndecided s (at k t) ss
  undecided_below t u positive le most none = (agree.none_above ss t u positive le most none.0, agree.none_below ss t u positive le most none.1)

  -- what was found at the case's precision says what is looked for below
  pub sound_below : AreApart s k → IsInside k.root ss → (p : Pools) (side : Side) (o : Outlook) → IsDecidedFrom s k ss p side → LooksFrom side o → IsSoundBelow s k ss o
  sound_below apart inside p Above o h looks u between = record {
    accepts = λ no. absurd (true≢false (sym looks ∙ no));
    rejects = λ no. agree.none_below ss u k.w between.0 between.1 (omega arith) (apart.above ss ss p inside inside (meets_itself ss inside.rectangle) h);
  }
  sound_below apart inside p (Below rate) o h looks u between = record {
    accepts = λ no. agree.none_above ss u k.w between.0 between.1 (omega arith) (apart.below ss ss p rate.e rate.k inside inside (meets_itself ss inside.rectangle) h);
    rejects = λ no. absurd (true≢false (sym looks ∙ no));
  }

module _ (s : Certificates) (k : CaseData) (ss : Spans) where
  pub none_at : (u : ℕ) (p : Pools) (found : Option Side) → is_some found ≡ false → IsTold s (at k u) ss p found → IsUndecided s (at k u) ss
  none_at u p (Some side) e told = absurd (true≢false e)
  none_at u p None e told = told

  -- what was found stands in the lanes, if something was
  pub held_of : (p : Pools) (found : Option Side) → IsTold s k ss p found → MatchOption found (Unit {0}) (IsDecidedFrom s k ss p)
  held_of p (Some side) h = h
  held_of p None h = tt

  pub held_not : (p : Pools) (found : Option Side) → is_some found ≡ false → MatchOption found (Unit {0}) (IsDecidedFrom s k ss p)
  held_not p (Some side) e = absurd (true≢false e)
  held_not p None e = tt
