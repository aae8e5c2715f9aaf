-- Reports of the second version, by computation: what is read, and what is refused.
use Rattle.std.proofs.Common.{◌≡◌, refl, [], ◌∷◌, ◌++◌, set, Ok}
use Rattle.std.specs.Prelude.{codes, pos, Some}
use Rattle.std.specs.List.{concat}
use Rattle.line_text.specs.declared.error.TextCause.TheVariants.{Syntax, Limit, Truncated}
use Rattle.line_text.specs.Reading.{due, line_at, fault}
use Rattle.lift_frac.specs.Gcd.{gcd}
use Rattle.std.specs.Fmt.{digits}
use Rattle.lift_grid.specs.Tree.Tree.{accept as accepted}
use Rattle.cert_text.specs.Head.{HeadData, head_at, from_at, state_at, states_at, behind_first, row_at, entries_at, further_at}
use Rattle.cert_text.specs.Nodes.{accept, node_at, second_by, decided_by, reported_at, accept_at, unknown_at}
use Rattle.cert_text.specs.Report.{size_lines, row_line, asked_lines, scale_lines, report_text}
use Rattle.cert_text.proofs.ReadSamples.{coin, coin_lines}

-- the coin of the other samples, whose leaves have precisions from 2 to 4
unfoldable ranged : HeadData
ranged = record coin { from = Some 2 }

text_is : report_text ranged.asked ranged.from ranged.bound (accepted 3 (pos 4 ∷ pos 8 ∷ pos 0 ∷ []))
    ≡ concat (set (set coin_lines 0 (codes "plift 2\n")) 15 (codes "precision 4\nfrom 2\n")) ++ codes "at 3\naccept 4 8 0\n"
unfolding ranged coin_lines coin size_lines row_line asked_lines scale_lines digits
text_is = refl

head_read : head_at (1, concat (set (set coin_lines 0 (codes "plift 2\n")) 15 (codes "precision 4\nfrom 2\n"))) ≡ Ok (ranged, (21, []))
unfolding ranged coin_lines coin gcd head_at from_at state_at states_at behind_first row_at entries_at further_at due line_at lib.Count.ones
head_read = refl

from_missing : head_at (1, concat (set coin_lines 0 (codes "plift 2\n"))) ≡ fault 17 Syntax
unfolding coin_lines gcd head_at from_at state_at states_at behind_first row_at entries_at further_at due line_at lib.Count.ones
from_missing = refl

from_in_the_first_version : head_at (1, concat (set coin_lines 15 (codes "precision 4\nfrom 4\n"))) ≡ fault 17 Syntax
unfolding coin_lines gcd head_at from_at state_at states_at behind_first row_at entries_at further_at due line_at lib.Count.ones
from_in_the_first_version = refl

from_above : head_at (1, concat (set (set coin_lines 0 (codes "plift 2\n")) 15 (codes "precision 4\nfrom 5\n"))) ≡ fault 17 Limit
unfolding coin_lines gcd head_at from_at state_at states_at behind_first row_at entries_at further_at due line_at lib.Count.ones
from_above = refl

leaf_read : node_at ranged (21, codes "at 3\naccept 4 8 0\n") ≡ Ok (accept 3 (pos 4 ∷ pos 8 ∷ pos 0 ∷ []), (23, []))
unfolding ranged coin node_at second_by reported_at decided_by accept_at due line_at
leaf_read = refl

at_missing : node_at ranged (21, codes "accept 4 8 0\n") ≡ fault 21 Syntax
unfolding ranged coin node_at second_by unknown_at due line_at
at_missing = refl

at_below : node_at ranged (21, codes "at 1\naccept 1 2 0\n") ≡ fault 21 Limit
unfolding ranged coin node_at second_by reported_at due line_at
at_below = refl

at_above : node_at ranged (21, codes "at 5\naccept 4 8 0\n") ≡ fault 21 Limit
unfolding ranged coin node_at second_by reported_at due line_at
at_above = refl

unknown_at_a_precision : node_at ranged (21, codes "at 3\nunknown\n") ≡ fault 22 Syntax
unfolding ranged coin node_at second_by reported_at decided_by due line_at
unknown_at_a_precision = refl

number_above_its_precision : node_at ranged (21, codes "at 3\naccept 4 9 0\n") ≡ fault 22 Limit
unfolding ranged coin node_at second_by reported_at decided_by accept_at due line_at
number_above_its_precision = refl

cut_behind_at : node_at ranged (21, codes "at 3\n") ≡ fault 22 Truncated
unfolding ranged coin node_at second_by reported_at due line_at
cut_behind_at = refl
