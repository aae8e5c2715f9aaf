-- What the form of a claim says of its chosen rows and ranks.
use Rattle.std.proofs.Common.{◌≡◌, ◌<◌, ℕ, List, length, Some, None, refl, sym, subst}
use denote.Ref.{Bor}
use Rattle.lift_grid.specs.Tree.{RejectData}
use Rattle.corner_lift.specs.Case.{CaseData}
use Rattle.lift_model.specs.Model.{choices}
use Rattle.corner_lift.specs.Certificate.{mark}
use Rattle.audit_cert.specs.Claim.{IsTested}
use Rattle.audit_cert.specs.Form.{HasPicks, HasRanks, HasForm}
use Rattle.audit_cert.specs.Held.{claim_of, ranking_of}
use Rattle.audit_cert.specs.declared.claim.Claim.{Claim}
use Rattle.audit_cert.specs.declared.claim.Ranking.{Ranking}

-- what a ranking's form says, whatever the numbers beside it
pub ranks_only : (k : CaseData) (r q : RejectData) → r.ranks ≡ q.ranks → r.e ≡ q.e → r.k ≡ q.k → HasRanks k r → HasRanks k q
ranks_only k r q ranks e height has = record { size = rw (← ranks) has.size; bounds = rw (← e, ← height) has.bounds; goal = rw (← ranks) has.goal; others = rw (← ranks, ← height) has.others }

pub ranks_some : (k : CaseData) (c : Claim) (r : Ranking) → c.ranking ≡ Some r → HasForm k (claim_of c) → HasRanks k (ranking_of c.numbers.now r)
ranks_some k c r is form = rw is at form.ranking

pub picks_some : (k : CaseData) (c : Claim) (picks : Bor (List ℕ)) → c.picks ≡ Some picks → HasForm k (claim_of c) → HasPicks k picks.now
picks_some k c picks is form = rw is at form.picks

-- ---- the rows that are tested

-- each, where none is picked
pub each_tested : (k : CaseData) (c : Claim) (s : ℕ) (Row : ℕ → Type 0) → c.picks ≡ None → ((a : ℕ) → a < length (choices k.model s) → Row a) → (a : ℕ) → IsTested k (claim_of c).picks s a → Row a
each_tested k c s Row none all a tested = all a (rw none at tested)

pub tested_each : (k : CaseData) (c : Claim) (s : ℕ) (Row : ℕ → Type 0) → c.picks ≡ None → ((a : ℕ) → IsTested k (claim_of c).picks s a → Row a) → (a : ℕ) → a < length (choices k.model s) → Row a
tested_each k c s Row none all a lt = all a (rw none lt)

-- the picked one
pub pick_tested : (k : CaseData) (c : Claim) (picks : Bor (List ℕ)) (s : ℕ) (Row : ℕ → Type 0) → c.picks ≡ Some picks → Row (mark picks.now s) → (a : ℕ) → IsTested k (claim_of c).picks s a → Row a
pick_tested k c picks s Row is row a tested = let e : a ≡ mark picks.now s = rw is at tested in subst Row (sym e) row

pub tested_pick : (k : CaseData) (c : Claim) (picks : Bor (List ℕ)) (s : ℕ) (Row : ℕ → Type 0) → c.picks ≡ Some picks → ((a : ℕ) → IsTested k (claim_of c).picks s a → Row a) → Row (mark picks.now s)
tested_pick k c picks s Row is all = all (mark picks.now s) (rw is refl)
