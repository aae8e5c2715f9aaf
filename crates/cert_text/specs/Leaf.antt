-- How what the code reads is seen: the first line of a rejecting leaf, and a node.
use Rattle.std.specs.Prelude.{◌≡◌, ℕ, List, [], Vec, Option, Result, Ok, Err}
use Rattle.std.specs.declared.alloc.Global.{Global}
use Rattle.std.specs.List.{before_first}
use Rattle.lift_base.specs.Lines.{LinesData, is_feed}
use Rattle.line_text.specs.declared.error.FileError.{FileError}
use Rattle.line_text.specs.Reading.{due}
use Rattle.line_text.specs.Follow.{Follows, IsDue}
use Rattle.cert_text.specs.declared.rejected.Rejected.{Rejected as Held}
use Rattle.cert_text.specs.declared.node_reader.Node.{Node as Given}
use Rattle.cert_text.specs.declared.node_reader.Node.TheVariants as given
use Rattle.cert_text.specs.Lines.{Rejected}
use Rattle.cert_text.specs.Nodes.{Node, split, accept, reject, unknown}

-- what a rejecting leaf's first line tells, as its numbers
abbrev pub rejected_of : Held → Rejected
rejected_of r = record { e = r.e; k = r.k; m = r.m; y = r.y; z = r.z }

-- a node of a report
abbrev pub node_of : Given → Node
node_of (given.Split axis) = split axis
node_of (given.Accept u x) = accept u x
node_of (given.Reject u e k y picks ranks) = reject u (record { numbers = y; picks = picks; ranks = ranks; e = e; k = k })
node_of given.Unknown = unknown

-- the line that is due came to the front, and is copied; else there is none, or memory ran out
abbrev pub Copies : {S : Type 0} → (S → Option (List ℕ)) → (S → ℕ) → LinesData → LinesData → S → S → Result (Vec ℕ Global) FileError → Type 0
Copies left faults old new before after (Ok copy) = IsDue left faults old new before after × (copy.items ≡ before_first is_feed new.held)
Copies left faults old new before after (Err e) = Follows {X = Unit {0}} left faults (λ _. []) due old new before after (Err e)
