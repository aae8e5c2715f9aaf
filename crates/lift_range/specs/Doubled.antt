-- The numbers of a certificate over another power of two.
use Rattle.std.specs.Prelude.{ℕ, ◌^◌, List, ℤ, pos, ◌*ℤ◌, map}
use Rattle.lift_grid.specs.Tree.{RejectData}
use Rattle.lower_cert.specs.AnyRanks.{UnboundedReject}

-- numbers over 2 ^ u as numbers over 2 ^ (u + s): doubled, s times
abbrev pub doubled : ℕ → List ℤ → List ℤ
doubled s x = map (λ n. n *ℤ pos (2 ^ s)) x

-- what a rejecting certificate consists of, with its numbers doubled, s times; its choices, its ranks, e and k stay
abbrev pub doubled_data : ℕ → RejectData → RejectData
doubled_data s r = record r { numbers = doubled s r.numbers }

-- the same of one whose ranks have no bound
abbrev pub doubled_unbounded : ℕ → UnboundedReject → UnboundedReject
doubled_unbounded s r = record r { numbers = doubled s r.numbers }
