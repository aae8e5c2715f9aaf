use Rattle.lift_base.proofs.Writing.{wrote_nothing, wrote_then, stopped, at_first, next_piece, stops_there, all_written}
use Rattle.lift_base.proofs.laws.writes_in_turn.Goals as goal

pub returns : goal.returns
returns g c = record {
  nothing = λ out. wrote_nothing _ _ out tt;
  both = λ old mid new result front back p q. wrote_then p q;
  stopped = λ old new fault front back result bad p. stopped front back result bad p;
  begins = λ out text. at_first _ _ out text;
  next = λ old mid new text rest piece more so_far is p. next_piece piece more so_far is p;
  stops = λ old mid new fault text rest piece more result bad so_far is p. stops_there piece more result bad so_far is p;
  ends = λ old new text so_far. all_written so_far;
}
