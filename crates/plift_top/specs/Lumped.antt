-- What `lumped` writes of a chain: the report of its quotient, and what the leaves of that report say of the chain itself.
use Rattle.std.specs.Prelude.{◌≡◌, ⊤, None, ℕ, ◌-◌, ◌*◌, ◌^◌, ◌<◌, pos, ℤ, ◌+ℤ◌, ◌*ℤ◌, ◌≤ℤ◌, length}
use Rattle.lift_poly.specs.Polynomial.{Valuation}
use Rattle.lift_grid.specs.Rectangle.{Spans, Inside}
use Rattle.lift_grid.specs.Tree.{Tree, Leaf, RejectData}
use Rattle.lift_grid.specs.Tree.Tree.{accept, reject}
use Rattle.lift_model.specs.declared.kind.Kind.TheVariants.{Dtmc}
use Rattle.lift_model.specs.Process.{power}
use Rattle.lift_model.specs.Model.{ModelData, process_at}
use Rattle.corner_lift.specs.Case.{CaseData, IsCase, number}
use Rattle.lift_cert.specs.Bounded.{IsBoundedAt}
use Rattle.lift_cert.specs.Certificate.{IsBeyond}
use Rattle.lift_cert.specs.declared.bound.Bound.{Bound}
use Rattle.lift_rows.specs.Admitted.{HasWeightsFromZero, HasSumsOfTotal}
use Rattle.lift_lump.specs.Quotient.{block, hold}
use Rattle.lift_lump.specs.LumpedData.{LumpedData}
use Rattle.lift_lump.specs.Lumped.{IsLumped}
use Rattle.cert_check.specs.Trust.{LeafHolds}
use Rattle.plift_top.specs.Reported.{CaseQuestion, whole_question}

-- the case of a chain's quotient: over the same root and grid, and at the same precision
abbrev pub lumped_case : CaseData → LumpedData → CaseData
lumped_case k l = record k { model = l.model }

-- At the valuation the chain reaches the goal from the initial state within k j steps with probability at least b - (1 - 2 ^ -m) ^ j, for every j, where b is y over 2 ^ w, and m is e k. A chain has one scheduler. Multiplied out, with N the total: y times 2 ^ (m j) N ^ (k j) is at most 2 ^ w times the sum of 2 ^ (m j) times what is reached and (2 ^ m - 1) ^ j N ^ (k j).
abbrev pub IsHeldAt : ModelData → Valuation → ℕ → ℤ → RejectData → Type 0
IsHeldAt model v w y r =
    (j : ℕ) → let total = power (process_at model v).total (r.k * j) in
    let m = r.e * r.k in
    (y *ℤ (pos (2 ^ (m * j)) *ℤ total)) ≤ℤ (pos (2 ^ w) *ℤ (pos (2 ^ (m * j)) *ℤ hold model v (r.k * j) model.init +ℤ pos ((2 ^ m - 1) ^ j) *ℤ total))

-- What a node of the quotient's tree says of the chain at every valuation inside its rectangle: where it accepts, every scheduler reaches the goal with probability at most the bound; where it rejects, the chain reaches it with at least what the node tells, and this is above the bound. Other nodes say nothing.
abbrev pub HoldsOfChain : CaseData → LumpedData → Bound → Spans → Tree → Type 0
HoldsOfChain k l bound spans (accept u x) = (v : Valuation) → Inside k.d spans v → IsBoundedAt k.model v bound
HoldsOfChain k l bound spans (reject u r) =
    let y = number r.numbers (block l.blocks k.model.init) in
    ((v : Valuation) → Inside k.d spans v → IsHeldAt k.model v u y r) × IsBeyond bound u y
HoldsOfChain k l bound spans _ = ⊤

-- what a leaf says of the chain holds everywhere inside its rectangle
abbrev pub ChainLeafHolds : CaseData → LumpedData → Bound → Leaf → Type 0
ChainLeafHolds k l bound leaf = HoldsOfChain k l bound leaf.spans leaf.node

-- at every valuation each state of the chain reaches what its block reaches, within any number of steps
abbrev pub BlocksHold : ModelData → LumpedData → Type 0
BlocksHold m l = (v : Valuation) (n s : ℕ) → s < length m.states → hold l.model v n (block l.blocks s) ≡ hold m v n s

-- A chain, in which each row is a distribution at each valuation inside the root, and its quotient by the coarsest right partition.
pub record IsLumpedCase (k : CaseData) (l : LumpedData) : Type 0 where
  pub case : IsCase k
  pub weights : HasWeightsFromZero k
  pub sums : HasSumsOfTotal k
  pub chain : k.model.kind ≡ Dtmc
  pub lumped : IsLumped k.model l
  pub same : BlocksHold k.model l

-- Asked of the quotient of a chain for a bound: as of any case, and what each leaf says holds of the quotient and of the chain.
abbrev pub lumped_question : CaseData → LumpedData → Bound → CaseQuestion
lumped_question k l bound = record (whole_question (lumped_case k l) None bound) { Holds = λ leaf. LeafHolds (lumped_case k l) bound leaf × ChainLeafHolds k l bound leaf }
