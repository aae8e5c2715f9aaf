-- What the code holds of a claim while it tests it.
use Rattle.std.specs.Prelude.{◌≡◌, ℕ, ◌<◌, false, ℤ, List, [], length}
use Rattle.std.specs.Option.{option_map, option_copied}
use Rattle.lift_grid.specs.Rectangle.{Spans}
use Rattle.lift_grid.specs.Tree.{RejectData}
use Rattle.lift_model.specs.Model.{is_goal}
use Rattle.corner_lift.specs.Case.{CaseData}
use Rattle.lift_cert.specs.declared.miss.Miss.{Miss}
use Rattle.audit_cert.specs.Claim.{Kind, LimitData, ClaimData, lacks_rank}
use Rattle.audit_cert.specs.Claim.Kind.{upper, lower, priced}
use Rattle.audit_cert.specs.Miss.{IsMiss, place}
use Rattle.audit_cert.specs.declared.claim.Kind as held
use Rattle.audit_cert.specs.declared.claim.Kind.TheVariants.{Upper, Lower, Priced}
use Rattle.audit_cert.specs.declared.claim.Ranking.{Ranking}
use Rattle.audit_cert.specs.declared.claim.Claim.{Claim}
use Rattle.audit_cert.specs.declared.limit.Limit.{Limit}

-- ---- the parts of a claim

-- its kind
abbrev pub kind_of : held.Kind → Kind
kind_of Upper = upper
kind_of Lower = lower
kind_of (Priced t) = priced t.costs.now t.cap

-- its limit
abbrev pub limit_of : Limit → LimitData
limit_of l = record { relation = l.relation; scale = l.scale; level = l.level }

-- its ranks and its rate
abbrev pub ranking_of : List ℤ → Ranking → RejectData
ranking_of numbers r = record { numbers = numbers; picks = []; ranks = r.ranks.now; e = r.e; k = r.k }

-- the claim
abbrev pub claim_of : Claim → ClaimData
claim_of c = record {
  kind = kind_of c.kind;
  numbers = c.numbers.now;
  targets = c.targets.now;
  picks = option_copied c.picks;
  ranking = option_map (ranking_of c.numbers.now) c.ranking;
  limit = option_map limit_of c.limit;
}

-- ---- for the contracts of single tests

-- a test that fails at that state
abbrev pub IsMissAt : CaseData → Spans → ClaimData → ℕ → Miss → Type 0
IsMissAt k spans c s m = (place k m ≡ s) × IsMiss k spans c m

-- a state whose rows are tested: no goal state, and one with a rank where there are ranks
pub record IsToBeTested (k : CaseData) (c : ClaimData) (s : ℕ) : Type 0 where
  pub state : s < length k.model.states
  pub inner : is_goal k.model s ≡ false
  pub ranked : lacks_rank c.ranking s ≡ false
