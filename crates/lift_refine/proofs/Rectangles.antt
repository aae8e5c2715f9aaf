-- Whether a rectangle is open, accepted or rejected, over a finer grid.
use Rattle.std.proofs.Common.{ℕ, ◌^◌, List, ℤ, pos, ◌*ℤ◌, ◌≤ℤ◌}
use Rattle.lift_grid.specs.Rectangle.{Spans}
use Rattle.lift_model.specs.declared.entry.Entry.{Entry}
use Rattle.lift_model.specs.Model.{row_at}
use Rattle.corner_lift.specs.Corner.{AtCorners, corner_sum, whole}
use Rattle.corner_lift.specs.Case.{CaseData, at, number}
use Rattle.corner_lift.specs.Certificate.{MeansAtLeast}
use Rattle.lift_cert.specs.declared.bound.Bound.{Bound}
use Rattle.lower_cert.specs.AnyRanks.{UnboundedReject, IsUnboundedLower, some_below}
use Rattle.region_tree.specs.Right.{IsRejectingAtAnyHeight}
use Rattle.lift_finer.specs.Finer.{finer_spans, finer_case, KnowsNoGrid}
use Rattle.lift_finer.specs.Laws.{LeastMeansStay, SharesStay, LeastUppersStay, GreatestLowersStay, AcceptingStays, RejectingStays, NoneAcceptsStays}
use Rattle.lift_refine.specs.Laws.{UnboundedLowersStay, NoneRejectsStays, OpenAtStays, OpenStays, FirstStays, AcceptedStays, RejectedStays}

-- ---- lower vectors whose ranks have no bound

abbrev moved : CaseData → Spans → ℤ → ℕ → CaseData
moved k root d depth = record k { root = root; d = d; depth = depth }

abbrev IsEnough : List Entry → (ℕ → ℤ) → ℤ → CaseData → Spans → Type 0
IsEnough row y n k spans = AtCorners spans row (λ c. whole k.model k.d spans row ≤ℤ (corner_sum k.d spans row c y *ℤ n))

module _ (k : CaseData) (root : Spans) (d : ℤ) (depth : ℕ) (spans others : Spans)
    (means : (row : List Entry) (y : ℕ → ℤ) (n : ℤ) → MeansAtLeast k spans row y n → MeansAtLeast (moved k root d depth) others row y n)
    (shares : (row : List Entry) (y : ℕ → ℤ) (n : ℤ) → IsEnough row y n k spans → IsEnough row y n (moved k root d depth) others) where
  unbounded_there : (u : UnboundedReject) → IsUnboundedLower k spans u → IsUnboundedLower (moved k root d depth) others u
  unbounded_there u h = record {
    numbers = record { size = h.numbers.size; range = h.numbers.range };
    bounds = h.bounds;
    goal = h.goal;
    unranked = h.unranked;
    held = λ s r is ranked. let held = h.held s r is ranked in record {
      range = held.range;
      choice = held.choice;
      is_choice = held.is_choice;
      in_range = held.in_range;
      means = means (row_at k.model s held.choice) (number u.numbers) (number u.numbers s) held.means;
      rates = shares (row_at k.model s held.choice) (some_below u.rank r) (pos (2 ^ u.e)) held.rates;
    };
  }

pub unbounded_lowers_stay : LeastMeansStay → SharesStay → UnboundedLowersStay
unbounded_lowers_stay least shares u k spans root n depth le = (
  unbounded_there k root (k.d *ℤ pos n) depth spans (finer_spans n spans) (λ row y m. (least row y m k spans root n depth le).0) (λ row y m. (shares row y m k spans root n depth le).0) u,
  unbounded_there (finer_case n root depth k) k.root k.d k.depth (finer_spans n spans) spans (λ row y m. (least row y m k spans root n depth le).1) (λ row y m. (shares row y m k spans root n depth le).1) u,
)

any_height_stays : UnboundedLowersStay → (bound : Bound) (u : UnboundedReject) → KnowsNoGrid (λ k spans. IsRejectingAtAnyHeight k spans bound u)
any_height_stays lowers bound u k spans root n depth le =
    let stays = lowers u k spans root n depth le in
    (λ h. record { holds = stays.0 h.holds; limit = h.limit }, λ h. record { holds = stays.1 h.holds; limit = h.limit })

pub none_rejects_stays : UnboundedLowersStay → NoneRejectsStays
none_rejects_stays lowers bound k spans root n depth le =
    (λ none u h. none u ((any_height_stays lowers bound u k spans root n depth le).1 h), λ none u h. none u ((any_height_stays lowers bound u k spans root n depth le).0 h))

-- ---- what is decided, and what is open

pub open_at_stays : NoneAcceptsStays → NoneRejectsStays → OpenAtStays
open_at_stays none_accepts none_rejects bound u k spans root n depth le =
    let accepts = none_accepts bound (at k u) spans root n depth le in
    let rejects = none_rejects bound (at k u) spans root n depth le in
    (λ h. record { accepts = accepts.0 h.accepts; rejects = rejects.0 h.rejects }, λ h. record { accepts = accepts.1 h.accepts; rejects = rejects.1 h.rejects })

pub open_stays : OpenAtStays → OpenStays
open_stays open_at v bound k spans root n depth le =
    (λ h u between. (open_at bound u k spans root n depth le).0 (h u between), λ h u between. (open_at bound u k spans root n depth le).1 (h u between))

pub first_stays : OpenAtStays → FirstStays
first_stays open_at v bound u k spans root n depth le = (
  λ h. record { between = h.between; before = λ t above lt. (open_at bound t k spans root n depth le).0 (h.before t above lt) },
  λ h. record { between = h.between; before = λ t above lt. (open_at bound t k spans root n depth le).1 (h.before t above lt) },
)

pub accepted_stays : FirstStays → AcceptingStays → LeastUppersStay → AcceptedStays
accepted_stays firsts accepting leasts v bound u x k spans root n depth le =
    let first = firsts v bound u k spans root n depth le in
    let certificate = accepting bound x (at k u) spans root n depth le in
    let least = leasts x (at k u) spans root n depth le in (
      λ h. record { first = first.0 h.first; accepting = certificate.0 h.accepting; least = least.0 h.least },
      λ h. record { first = first.1 h.first; accepting = certificate.1 h.accepting; least = least.1 h.least },
    )

pub rejected_stays : FirstStays → NoneAcceptsStays → RejectingStays → GreatestLowersStay → RejectedStays
rejected_stays firsts none_accepts rejecting greatests v bound u r k spans root n depth le =
    let first = firsts v bound u k spans root n depth le in
    let none = none_accepts bound (at k u) spans root n depth le in
    let certificate = rejecting bound r (at k u) spans root n depth le in
    let greatest = greatests r (at k u) spans root n depth le in (
      λ h. record { first = first.0 h.first; none = none.0 h.none; rejecting = certificate.0 h.rejecting; greatest = greatest.0 h.greatest },
      λ h. record { first = first.1 h.first; none = none.1 h.none; rejecting = certificate.1 h.rejecting; greatest = greatest.1 h.greatest },
    )
