-- Sound files: texts of reports whose rows are admitted and whose certificates hold.
use Rattle.std.specs.Prelude.{◌≡◌, ℕ, ◌+◌, List}
use Rattle.lift_grid.specs.Rectangle.{Spans}
use Rattle.lift_grid.specs.Tree.{Tree}
use Rattle.lift_grid.specs.Tree.Tree.{split, accept, reject, unknown}
use Rattle.corner_lift.specs.Case.{CaseData, IsAdmitted}
use Rattle.lift_cert.specs.declared.bound.Bound.{Bound}
pub use Rattle.lift_finer.specs.Refined.{MayBeHalved}
use Rattle.lift_finer.specs.Refined.{IsCertified}
use Rattle.cert_text.specs.Head.{HeadData, version}
use Rattle.cert_text.specs.Forms.{IsReport}
use Rattle.cert_text.specs.Laws.{text_of}
use Rattle.cert_check.specs.declared.summary.Summary.{Summary}

-- A sound tree over a rectangle at a depth is certified: an accepting or a rejecting leaf holds such a certificate of its rectangle for the bound, at its own precision; a split stands where one may; and an unknown leaf stands at the greatest depth.
abbrev pub IsSoundTree : CaseData → Bound → Spans → ℕ → Tree → Type 0
IsSoundTree k bound spans depth t = IsCertified k bound spans depth t

-- a sound report: its head's case is admitted, and its tree is sound over the root
pub record IsSound (h : HeadData) (t : Tree) : Type 0 where
  pub report : IsReport h t
  pub admitted : IsAdmitted h.asked
  pub tree : IsSoundTree h.asked h.bound h.asked.root 0 t

-- how many accepting leaves a tree has
abbrev pub accept_count : Tree → ℕ
accept_count (split axis lower upper) = accept_count lower + accept_count upper
accept_count (accept u x) = 1
accept_count (reject u r) = 0
accept_count unknown = 0

-- how many rejecting leaves
abbrev pub reject_count : Tree → ℕ
reject_count (split axis lower upper) = reject_count lower + reject_count upper
reject_count (accept u x) = 0
reject_count (reject u r) = 1
reject_count unknown = 0

-- how many unknown leaves
abbrev pub unknown_count : Tree → ℕ
unknown_count (split axis lower upper) = unknown_count lower + unknown_count upper
unknown_count (accept u x) = 0
unknown_count (reject u r) = 0
unknown_count unknown = 1

-- the numbers of a tree's leaves, by kind, in a report of that version
abbrev pub leaf_counts : ℕ → Tree → Summary
leaf_counts version t = record { accept = accept_count t; reject = reject_count t; unknown = unknown_count t; version = version }

-- a sound file with so many leaves: the text of a sound report of that version whose tree has them
pub record IsSoundFile (bytes : List ℕ) (leaves : Summary) : Type 0 where
  pub head : HeadData
  pub tree : Tree
  pub sound : IsSound head tree
  pub text : bytes ≡ text_of head tree
  pub counts : leaves ≡ leaf_counts (version head) tree
