use Rattle.std.proofs.Common.{◌≡◌, length}
use Rattle.cert_text.specs.Shown.{terms_of}
use Rattle.cert_text.proofs.EntryTerms.{terms_left}
use Rattle.cert_text.proofs.entry_line.terms_of.Given as goal

-- what is left, behind what was read, comes to what all comes to
abbrev pub invariant-loop-rest : goal.invariant-loop-rest
invariant-loop-rest l = terms_left l.fault l.terms.items l.parameters l.seen l.before l.rest ≡ terms_of l.parameters l.fn.words

abbrev pub decreases-loop-rest : goal.decreases-loop-rest
decreases-loop-rest l = length l.rest
