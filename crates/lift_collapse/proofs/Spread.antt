-- What is found on a collapsed model holds of the whole one.
use Rattle.std.proofs.Common.{◌≡◌, ℕ, List, length, ℤ, pos, ◌≤ℤ◌, ◌<ℤ◌, sym, ap, ◌∙◌, arith}
use Rattle.lift_poly.proofs.Ring.{linear}
use Rattle.lift_grid.specs.Rectangle.{Spans}
use Rattle.lift_grid.specs.Tree.{RejectData}
use Rattle.corner_lift.specs.Case.{CaseData, number}
use Rattle.corner_lift.specs.Certificate.{IsUpper, IsLower}
use Rattle.lift_collapse.specs.Collapse.{CollapseData, place, collapsed, spread}
use Rattle.lift_collapse.specs.Laws.{UpperSpreads, LowerSpreads, HighSpreads, NoneSpreads}
use Rattle.lift_collapse.proofs.Scene.{Premises, Scene, scene_of, below_or_past, past, spread_at, spread_past, spread_numbers, spread_goal}
use Rattle.lift_collapse.proofs.Upper as upper
use Rattle.lift_collapse.proofs.Lower as lower

module _ (k : CaseData) (spans : Spans) (c : CollapseData) (scene : Scene k spans c) where
  -- the initial state's number is read at the collapsed model's initial state
  first_at : (z : List ℤ) → number (spread c z) k.model.init ≡ number z c.model.init
  first_at z = spread_at k spans c scene z k.model.init scene.case.asked.model.first ∙ ap (number z) (sym scene.is.init)

  first_above : (limit : ℤ) → ((z : List ℤ) → IsUpper (collapsed k c) spans z → limit <ℤ number z c.model.init) → (x : List ℤ) → IsUpper k spans x → limit <ℤ number x k.model.init
  first_above limit each x h =
      let z = upper.gathered k spans c scene x h in
      let here = each z (upper.gathered_is_upper k spans c scene x h) in
      let below = upper.place_below k spans c scene x h k.model.init scene.case.asked.model.first in
      omega (arith, linear, here, below, ap (number z) scene.is.init)

  none_above : (limit : ℤ) → ((r : RejectData) → IsLower (collapsed k c) spans r → number r.numbers c.model.init ≤ℤ limit) → (r : RejectData) → IsLower k spans r → number r.numbers k.model.init ≤ℤ limit
  none_above limit each r h =
      let q = lower.gathered k spans c scene r h in
      let here = each q (lower.gathered_is_lower k spans c scene r h) in
      let above = lower.place_above k spans c scene r h k.model.init scene.case.asked.model.first in
      omega (arith, linear, here, above, ap (number q.numbers) scene.is.init)

  -- no lower vector is above one that no lower vector of the collapsed model is above, read at the places
  above_lower : (z : List ℤ) → ((r : RejectData) → IsLower (collapsed k c) spans r → (i : ℕ) → number r.numbers i ≤ℤ number z i) → (r : RejectData) → IsLower k spans r → (s : ℕ) → number r.numbers s ≤ℤ number (spread c z) s
  above_lower z each r h s =
      below_or_past s (length k.model.states)
      (λ lt. let here = each (lower.gathered k spans c scene r h) (lower.gathered_is_lower k spans c scene r h) (place c s) in
      omega (arith, linear, here, lower.place_above k spans c scene r h s lt, spread_at k spans c scene z s lt))
      (λ le. omega (arith, linear, past r.numbers s (pos 0) (omega (arith, le, h.numbers.size)), spread_past k spans c scene z s le))

pub upper_spreads : Premises → UpperSpreads
upper_spreads laws k spans c limit z within case inside is h =
    let scene = scene_of laws k spans c case inside is in
    record {
      least = λ e. upper.least_spreads k spans c scene z (h.least e);
      first = λ e. let here = h.first e in omega (arith, linear, here, first_at k spans c scene z);
      past = λ e. first_above k spans c scene limit (h.past e);
    }

pub lower_spreads : Premises → LowerSpreads
lower_spreads laws k spans c r case inside is h =
    let scene = scene_of laws k spans c case inside is in
    record {
      numbers = spread_numbers k spans c scene r.numbers h.holds.numbers;
      goal = spread_goal k spans c scene r.numbers (λ i g. (h.holds.goal i g).0);
      above = λ y lower_there most s. above_lower k spans c scene r.numbers h.greatest y lower_there s;
    }

pub high_spreads : Premises → HighSpreads
high_spreads laws k spans c z case inside is h =
    let scene = scene_of laws k spans c case inside is in
    record {
      numbers = spread_numbers k spans c scene z h.numbers;
      goal = spread_goal k spans c scene z h.goal;
      above = λ y lower_there most s. above_lower k spans c scene z (λ r low i. h.above r low (λ t. (laws.numbers (collapsed k c) r.numbers t low.numbers).1) i) y lower_there s;
    }

pub none_spreads : Premises → NoneSpreads
none_spreads laws k spans c limit case inside is h = none_above k spans c (scene_of laws k spans c case inside is) limit h
