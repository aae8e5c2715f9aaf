-- What is asked, with its bound.
use Rattle.std.specs.Prelude.{ℕ, Bool, true, false, Option, Some, None}
use Rattle.lift_cert.specs.declared.bound.Bound.{Bound}
use Rattle.plift_words.specs.declared.query.Query.{Query}
use Rattle.plift_words.specs.declared.query.Query.TheVariants as query

-- the bound on reaching the goal; there is none where it is asked what is paid
abbrev pub query_bound : Query → Option Bound
query_bound (query.Whole bound from) = Some bound
query_bound (query.Within bound h) = Some bound
query_bound (query.Lumped bound) = Some bound
query_bound (query.Property bound op from) = Some bound
query_bound (query.Cost limits) = None

-- the number of steps, where one is told
abbrev pub query_steps : Query → Option ℕ
query_steps (query.Within bound h) = Some h
query_steps _ = None

-- the least precision of a range, where one is told
abbrev pub query_from : Query → Option ℕ
query_from (query.Whole bound from) = from
query_from (query.Property bound op from) = from
query_from _ = None

-- the cap, where one is told
abbrev pub query_cap : Query → Option ℕ
query_cap (query.Cost limits) = Some limits.cap
query_cap _ = None

-- it is answered by a report that can be checked
abbrev pub is_reported : Query → Bool
is_reported (query.Whole bound from) = true
is_reported (query.Lumped bound) = true
is_reported _ = false

-- it is asked what is paid
abbrev pub is_cost : Query → Bool
is_cost (query.Cost limits) = true
is_cost _ = false
