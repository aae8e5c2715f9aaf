-- Lanes that are ready for a decision, and what stays of them.
use Rattle.std.proofs.Common.{arith}
use Rattle.lift_model.specs.Links.{LinksData, AreLinks}
use Rattle.corner_lift.specs.Case.{CaseData}
use Rattle.lift_cert.specs.declared.bound.Bound.{Bound}
use Rattle.property_text.specs.declared.op.Op.{Op}
use Rattle.region_tree.specs.Laws.{ForgettingKeepsShape, LanesAreKept, ShapesChain, ShapesStay}
use Rattle.region_tree.specs.Recent.{DecidedData, forgotten}
use Rattle.region_tree.specs.Rooms.{LanesData, HasLanes, KeepsShape}
use Rattle.region_tree.specs.Sides.{AreKnown}
use Rattle.property_tree.specs.Decided.{sought_of}
use Rattle.property_tree.specs.Ready.{AreReadyFor}

-- where nothing is noted, nothing is said
none_known : (k : CaseData) (op : Op) (bound : Bound) (d : DecidedData) → AreKnown (sought_of op bound) k (forgotten d)
none_known k op bound d = record { accepted = λ i lt. absurd (omega (arith, lt)); rejected = λ i lt. absurd (omega (arith, lt)) }

module _ (kept : LanesAreKept) (chain : ShapesChain) (k : CaseData) (l : LinksData) (op : Op) (bound : Bound) where
  -- a decision that keeps the shape of the lanes, and notes what it tells, leaves them ready
  pub still_ready : (made a b : LanesData) → KeepsShape a b → AreKnown (sought_of op bound) k b.decided → AreReadyFor k l op bound made a → AreReadyFor k l op bound made b
  still_ready made a b h known ready = record { links = ready.links; has = kept k.model l a b h ready.has; shape = chain made a b ready.shape h; known = known }

  module _ (forgetting : ForgettingKeepsShape) (a : LanesData) where
    -- where nothing is noted, lanes that are made for a case are ready
    pub ready_at_first : ShapesStay → AreLinks k.model l → HasLanes k.model l a → let b : LanesData = record a { decided = forgotten a.decided } in AreReadyFor k l op bound b b
    ready_at_first stays links has =
        let b : LanesData = record a { decided = forgotten a.decided } in
        record { links = links; has = kept k.model l a b (forgetting a) has; shape = stays b; known = none_known k op bound a.decided }

    -- after a walk they have the shape that they had before it
    pub kept_since : (b : LanesData) → AreReadyFor k l op bound (record a { decided = forgotten a.decided }) b → KeepsShape a b
    kept_since b ready = chain a (record a { decided = forgotten a.decided }) b (forgetting a) ready.shape
