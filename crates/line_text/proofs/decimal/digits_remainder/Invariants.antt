use Rattle.std.proofs.Common.{◌≡◌, ◌%◌, ◌<◌, take}
use Rattle.std.specs.Str.Parse.{digits_value}
use Rattle.line_text.proofs.decimal.digits_remainder.Given as goal

abbrev pub invariant-loop-digit : goal.invariant-loop-digit
invariant-loop-digit l = record {
  small : l.rest < l.by;
  same : l.rest ≡ digits_value 10 (take l.digit-index l.digits) % l.by;
}
