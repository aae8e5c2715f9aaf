use Rattle.std.proofs.Common.{rules, arith, pos}
use Rattle.std.proofs.lemmas.List.{get_or-replicate}
use Rattle.lift_poly.proofs.Ring.{linear}
use Rattle.lift_rows.proofs.sums.sums_in.Goals as goal

pub loop-entry-init : goal.loop-entry-init
loop-entry-init c = record {
  size = search rules;
  same = λ i lt. rw (get_or-replicate 256 i (pos 0) (pos 0) lt) (omega (arith, linear));
  room = λ i lt. rw (get_or-replicate 256 i (pos 0) (pos 0) lt) (omega arith);
}
