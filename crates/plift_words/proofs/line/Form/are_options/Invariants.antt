use Rattle.std.proofs.Common.{◌≡◌, length, map, string_bytes}
use Rattle.plift_words.specs.Line.{options, are_options}
use Rattle.plift_words.specs.Given.{must_of, may_of}
use Rattle.plift_words.proofs.line.Form.are_options.Given as goal

abbrev pub invariant-loop-setting : goal.invariant-loop-setting
invariant-loop-setting l = are_options (must_of l.self) (may_of l.self) (options (map string_bytes l.rest)) ≡ are_options (must_of l.self) (may_of l.self) (options (map string_bytes l.words))

abbrev pub decreases-loop-setting : goal.decreases-loop-setting
decreases-loop-setting l = length l.rest
