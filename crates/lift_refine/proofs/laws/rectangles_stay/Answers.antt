use Rattle.lift_refine.specs.Laws.{UnboundedLowersStay, NoneRejectsStays, OpenAtStays, FirstStays}
use Rattle.lift_refine.proofs.Rectangles.{unbounded_lowers_stay, none_rejects_stays, open_at_stays, open_stays, first_stays, accepted_stays, rejected_stays}
use Rattle.lift_refine.proofs.laws.rectangles_stay.Goals as goal

pub returns : goal.returns
returns c =
    let weights = c.weights_are_homogeneous.ensures in
    let vectors = c.vectors_stay.ensures in
    let certificates = c.certificates_stay.ensures in
    let lowers : UnboundedLowersStay = unbounded_lowers_stay weights.least weights.shares in
    let none : NoneRejectsStays = none_rejects_stays lowers in
    let open_at : OpenAtStays = open_at_stays certificates.none none in
    let first : FirstStays = first_stays open_at in
    record {
      lowers = lowers;
      none = none;
      open_at = open_at;
      is_open = open_stays open_at;
      first = first;
      accepted = accepted_stays first certificates.accepting vectors.least;
      rejected = rejected_stays first certificates.none certificates.rejecting vectors.greatest;
    }
