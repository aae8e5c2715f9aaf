use Rattle.audit_cert.proofs.First.{first_miss_is_one}
use Rattle.audit_cert.proofs.Misses.{passing_misses_none}
use Rattle.audit_cert.proofs.laws.first_miss_is_one.Goals as goal

pub returns : goal.returns
returns c = record { one = first_miss_is_one; none = passing_misses_none }
