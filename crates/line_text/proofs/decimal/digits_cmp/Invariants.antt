use Rattle.std.proofs.Common.{◌≡◌, take}
use Rattle.std.specs.Ordering.{nat_cmp}
use Rattle.std.specs.Str.Parse.{digits_value}
use Rattle.line_text.proofs.decimal.digits_cmp.Given as goal

abbrev pub invariant-loop-i : goal.invariant-loop-i
invariant-loop-i l = l.order ≡ nat_cmp (digits_value 10 (take l.i l.digits)) (digits_value 10 (take l.i l.others))
