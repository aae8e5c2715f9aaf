use Rattle.std.proofs.Common.{arith, rules, SFits, w64, to_z, of_z, to_z-of_z, ◌<ℤ◌}
use Rattle.lift_poly.proofs.Ring.{linear}
use Rattle.corner_lift.specs.Case.{number}
use Rattle.lower_cert.proofs.Exits.{lt_from_test}
use Rattle.lower_cert.proofs.Holding.{unheld_high, saved_above}
use Rattle.lower_cert.proofs.descent.Descent.keep.Goals as goal

pub is_enough-enough-requires : goal.is_enough-enough-requires
is_enough-enough-requires g c =
    let k = c.args.self.now.rows.now.case in
    let f = c.args.search.now.held.state in
    let fits : SFits w64 (number c.args.lane.now f) = search rules in
    let less : number c.args.lane.now f <ℤ c.args.value = omega (arith, linear, lt_from_test (to_z w64 (of_z w64 c.args.value)) (to_z w64 (of_z w64 (number c.args.lane.now f))) c.if-value-to.false, to_z-of_z fits, to_z-of_z c.ranges.value) in (
      record {
        table = c.requires.0;
        high = unheld_high c.vectors_are_lowered.ensures.fell c.rows_at_corners.ensures.numbers k g.run f c.args.value c.args.lane.now c.w.ensures.case c.requires.0.inside c.requires.1.0.place.stands.goal less c.requires.1.1.0;
      },
      (c.requires.1.0.place, c.requires.1.1.1.1),
    )

pub returns-then-enough-clause-search : goal.returns-then-enough-clause-search
returns-then-enough-clause-search g c = record {
  place = c.requires.1.0.place;
  low = c.requires.1.0.low;
  room = (omega (arith, c.save.auto.saved, c.requires.1.0.room.0), c.requires.1.0.room.1);
  base_range = c.save.ensures.range;
  settled_range = c.requires.1.0.settled_range;
  base = saved_above c.args.self.now.rows.now.case c.args.self.now.rows.now.links g.run c.is_enough-enough.new.lane c.args.search.now.held.part.low c.args.search.now.held.part.high c.save.new.saved
      (λ s y h under. c.is_enough-enough.ensures.high.above y h under s)
      c.save.ensures.saved;
  settled = c.requires.1.0.settled;
}

pub returns-else-enough-clause-search : goal.returns-else-enough-clause-search
returns-else-enough-clause-search g c = record {
  place = c.requires.1.0.place;
  low = c.requires.1.0.low;
  room = (omega (arith, c.save.auto.saved, c.requires.1.0.room.0), c.requires.1.0.room.1);
  base_range = c.save.ensures.range;
  settled_range = c.requires.1.0.settled_range;
  base = saved_above c.args.self.now.rows.now.case c.args.self.now.rows.now.links g.run c.is_enough-enough.new.lane c.args.search.now.held.part.low c.args.search.now.held.part.high c.save.new.saved
      (λ s y h under. c.is_enough-enough.ensures.high.above y h under s)
      c.save.ensures.saved;
  settled = c.requires.1.0.settled;
}
