-- What is said of a chain's quotient is said of the chain.
use Rattle.std.proofs.Common.{◌≡◌, ◌⊎◌, inl, inr, ℕ, zero, suc, ◌-◌, ◌*◌, ◌^◌, ◌<◌, ◌≤◌, List, [], length, get_or, ℤ, pos, ◌+ℤ◌, ◌*ℤ◌, ◌≤ℤ◌, All, None, Ok, Err, Result, refl, sym, ap, ◌∙◌, subst, arith}
use Rattle.std.specs.declared.option.Option.{Option}
use Rattle.std.proofs.lemmas.List.{get_or_past}
use Rattle.lift_poly.proofs.Ring.{linear, mul-comm, mul-assoc, mul-le, mul-nonneg, one-mul}
use Rattle.lift_poly.specs.Polynomial.{Valuation}
use Rattle.lift_grid.specs.Rectangle.{Spans}
use Rattle.lift_grid.specs.Tree.{Tree, Leaf, RejectData}
use Rattle.lift_grid.specs.Tree.Tree.{accept, reject, unknown, split}
use Rattle.lift_model.specs.declared.kind.Kind.{Kind}
use Rattle.lift_model.specs.declared.kind.Kind.TheVariants.{Dtmc}
use Rattle.lift_model.specs.Process.{power}
use Rattle.lift_model.specs.Reach.{reach}
use Rattle.lift_model.specs.Model.{ModelData, choices, process_at}
use Rattle.lift_model.specs.Valid.{IsModel}
use Rattle.lift_grid.specs.declared.rect.Grid.{Grid}
use Rattle.lift_grid.specs.Parts.{region_of}
use Rattle.corner_lift.specs.Case.{CaseData, IsCase, case_of, number}
use Rattle.corner_lift.specs.Certificate.{mark}
use Rattle.lift_cert.specs.Bounded.{IsBoundedAt}
use Rattle.lift_cert.specs.Reached.{IsReachedAt}
use Rattle.lift_cert.specs.Certificate.{IsBeyond}
use Rattle.lift_cert.specs.declared.bound.Bound.{Bound}
use Rattle.lift_lump.specs.Quotient.{block, hold}
use Rattle.lift_lump.specs.LumpedData.{LumpedData}
use Rattle.lift_lump.specs.Lumped.{IsLumped, IsWide}
use Rattle.lift_lump.specs.Laws.{ChainsHaveOnePlan, ChainsHaveAPlan, QuotientsAreCases, HasSmallCoefficients}
use Rattle.lift_rows.specs.Laws.{CasesHaveWeights, CasesHaveSums}
use Rattle.cert_check.specs.Trust.{HoldsInside, LeafHolds}
use Rattle.plift_words.specs.declared.query.Query.TheVariants as query
use Rattle.plift_top.specs.Lumped.{lumped_case, IsHeldAt, HoldsOfChain, ChainLeafHolds, BlocksHold, IsLumpedCase}
use Rattle.plift_top.specs.Asked.{AskedModel}
use Rattle.plift_top.specs.Steps.{IsTestedCase, AnswersCase}
use Rattle.plift_top.specs.declared.refusal.Refusal.{Refusal}
use Rattle.plift_top.specs.declared.refusal.Refusal.TheVariants as refusal

-- ---- powers

power-mul : (a b : ℤ) (n : ℕ) → power (a *ℤ b) n ≡ power a n *ℤ power b n
power-mul a b zero = refl
power-mul a b (suc n) =
    ap (λ z. (a *ℤ b) *ℤ z) (power-mul a b n)
    ∙ mul-assoc a b (power a n *ℤ power b n)
    ∙ ap (λ z. a *ℤ z) (sym (mul-assoc b (power a n) (power b n)) ∙ ap (λ z. z *ℤ power b n) (mul-comm b (power a n)) ∙ mul-assoc (power a n) b (power b n))
    ∙ sym (mul-assoc a (power a n) (b *ℤ power b n))

power-one : (n : ℕ) → power (pos 1) n ≡ pos 1
power-one zero = refl
power-one (suc n) = one-mul (power (pos 1) n) ∙ power-one n

power-nonneg : (q n : ℕ) → pos 0 ≤ℤ power (pos q) n
power-nonneg q zero = omega (arith, linear)
power-nonneg q (suc n) = mul-nonneg (pos q) (power (pos q) n) (omega (arith, linear)) (power-nonneg q n)

between : (a b c d : ℤ) → a ≡ c → b ≡ d → c ≤ℤ d → a ≤ℤ b
between a b c d p q h = subst (λ z. z ≤ℤ b) (sym p) (subst (λ z. c ≤ℤ z) (sym q) h)

-- ---- the quotient's size

-- the quotient that was made isn't too wide
pub not_wide : {m : ModelData} {l : LumpedData} → IsLumped m l → IsModel l.model → IsWide m → ⊥
not_wide {m} {l} is valid wide =
    let small : HasSmallCoefficients l.model = λ s c h a r g e d i. ((valid.rows s c h a r g).entries e d i).sizes in
    wide.wide l.blocks is.coarsest is.numbered (subst HasSmallCoefficients is.model small)

-- and is a case
pub quotient_is_case : QuotientsAreCases → (k : CaseData) (l : LumpedData) → IsCase k → k.model.kind ≡ Dtmc → IsLumped k.model l → HasSmallCoefficients l.model → IsCase (lumped_case k l)
quotient_is_case law k l case chain is small =
    subst (λ (q : ModelData). IsCase (record k { model = q })) (sym is.model) (law k l.blocks case chain is.coarsest.right is.numbered (subst HasSmallCoefficients is.model small))

-- ---- what the leaves say

module _ (plans : ChainsHaveOnePlan) (some : ChainsHaveAPlan) (k : CaseData) (l : LumpedData) (is : IsLumpedCase k l) (valid : IsModel l.model) where
  abbrev m : ModelData
  m = k.model

  old : IsModel m
  old = is.case.asked.model

  kind : l.model.kind ≡ Dtmc
  kind = ap (λ (q : ModelData). q.kind) is.lumped.model ∙ is.chain

  init : l.model.init ≡ block l.blocks m.init
  init = ap (λ (q : ModelData). q.init) is.lumped.model

  module _ (v : Valuation) where
    total : (process_at l.model v).total ≡ (process_at m v).total
    total = ap (λ (q : ModelData). (process_at q v).total) is.lumped.model

    held : (n : ℕ) → hold l.model v n l.model.init ≡ hold m v n m.init
    held n = ap (hold l.model v n) init ∙ is.same v n m.init old.first

    -- what bounds every scheduler of the quotient bounds every one of the chain
    bounded : (bound : Bound) → IsBoundedAt l.model v bound → IsBoundedAt m v bound
    bounded bound h q n p one fits =
        let c = power (pos q) n in
        let x = hold m v n m.init in
        let t = power (process_at m v).total n in
        let p1 = some l.model v n l.model.init valid kind valid.first in
        let of_p1 : reach (process_at l.model v) 1 n l.model.init p1.0 ≡ x =
        plans l.model v 1 n l.model.init p1.0 valid kind valid.first p1.1 ∙ ap (λ z. z *ℤ hold l.model v n l.model.init) (power-one n) ∙ one-mul (hold l.model v n l.model.init) ∙ held n in
        let of_t : power (pos 1 *ℤ (process_at l.model v).total) n ≡ t = ap (λ z. power z n) (one-mul (process_at l.model v).total ∙ total) in
        let here : (x *ℤ pos bound.den) ≤ℤ (pos bound.num *ℤ t) =
        between (x *ℤ pos bound.den) (pos bound.num *ℤ t) (reach (process_at l.model v) 1 n l.model.init p1.0 *ℤ pos bound.den) (pos bound.num *ℤ power (pos 1 *ℤ (process_at l.model v).total) n)
        (ap (λ z. z *ℤ pos bound.den) (sym of_p1)) (ap (λ z. pos bound.num *ℤ z) (sym of_t)) (h 1 n p1.0 (omega arith) p1.1) in
        between (reach (process_at m v) q n m.init p *ℤ pos bound.den) (pos bound.num *ℤ power (pos q *ℤ (process_at m v).total) n) (c *ℤ (x *ℤ pos bound.den)) (c *ℤ (pos bound.num *ℤ t))
        (ap (λ z. z *ℤ pos bound.den) (plans m v q n m.init p old is.chain old.first fits) ∙ mul-assoc c x (pos bound.den))
        (ap (λ z. pos bound.num *ℤ z) (power-mul (pos q) (process_at m v).total n) ∙ sym (mul-assoc (pos bound.num) c t) ∙ ap (λ z. z *ℤ t) (mul-comm (pos bound.num) c) ∙ mul-assoc c (pos bound.num) t)
        (mul-le c (x *ℤ pos bound.den) (pos bound.num *ℤ t) (power-nonneg q n) here)

    -- a state of the quotient has no other choice than the first
    one_choice : (s : ℕ) → length (choices l.model s) ≤ 1
    one_choice s = by (side s)
      where
        side : (s : ℕ) → (s < length l.model.states) ⊎ (length l.model.states ≤ s)
        side s = grind arith

        by : (s < length l.model.states) ⊎ (length l.model.states ≤ s) → length (choices l.model s) ≤ 1
        by (inl lt) = omega (arith, valid.one_choice kind s [] lt)
        by (inr past) = omega (arith, ap length (get_or_past l.model.states s [] past))

    abbrev Claim : ℕ → RejectData → ℕ → ℤ → ℤ → ℤ → Type 0
    Claim w r j y t x = (y *ℤ (pos (2 ^ (r.e * r.k * j)) *ℤ power t (r.k * j))) ≤ℤ (pos (2 ^ w) *ℤ (pos (2 ^ (r.e * r.k * j)) *ℤ x +ℤ pos ((2 ^ (r.e * r.k) - 1) ^ j) *ℤ power t (r.k * j)))

    -- what the schedulers of the quotient reach that make the printed choices, the chain reaches
    reached : (w : ℕ) (r : RejectData) → IsReachedAt l.model v w r → IsHeldAt m v w (number r.numbers (block l.blocks m.init)) r
    reached w r h j =
        subst (λ i. Claim w r j (number r.numbers i) (process_at m v).total (hold m v (r.k * j) m.init)) init
        (subst (λ t. Claim w r j (number r.numbers l.model.init) t (hold m v (r.k * j) m.init)) total
        (subst (λ x. Claim w r j (number r.numbers l.model.init) (process_at l.model v).total x) (held (r.k * j))
        (h (λ s. 0) j (λ s printed. (let one = one_choice s in let e : 0 ≡ mark r.picks s = omega (arith, printed, one) in e)))))

  holds_of_chain : (bound : Bound) (spans : Spans) (t : Tree) → HoldsInside (lumped_case k l) bound spans t → HoldsOfChain k l bound spans t
  holds_of_chain bound spans (accept u x) h = λ v inside. bounded v bound (h v inside)
  holds_of_chain bound spans (reject u r) h = (λ v inside. reached v u r (h.0 v inside), subst (λ i. IsBeyond bound u (number r.numbers i)) init h.1)
  holds_of_chain bound spans unknown h = tt
  holds_of_chain bound spans (split axis lower upper) h = tt

  leaves_say : (bound : Bound) (leaves : List Leaf) → All (LeafHolds (lumped_case k l) bound) leaves → All (λ leaf. LeafHolds (lumped_case k l) bound leaf × ChainLeafHolds k l bound leaf) leaves
  leaves_say bound leaves h i d lt = (h i d lt, holds_of_chain bound (get_or leaves i d).spans (get_or leaves i d).node (h i d lt))

  -- what comes of the quotient answers the chain's case
  pub of_quotient : {K T : Type 0} (taken : K → Option (List ℕ)) (counts : K → ℕ) (bound : Bound) (a : AskedModel) (out out' : K) (result : Result T Refusal)
      → AnswersCase taken counts (query.Whole bound None) a (lumped_case k l) out out' result → AnswersCase taken counts (query.Lumped bound) a k out out' result
  of_quotient taken counts bound a out out' (Ok x) h =
      (l, is, record { tree = h.tree; fits = h.fits; case = h.case; weights = h.weights; sums = h.sums; right = h.right; tiles = h.tiles; schedulers = leaves_say bound _ h.schedulers; text = h.text })
  of_quotient taken counts bound a out out' (Err refusal.WriteFault) (h, rose) = ((l, is, record { fits = h.fits; case = h.case; weights = h.weights; sums = h.sums; front = h.front }), rose)
  of_quotient taken counts bound a out out' (Err refusal.Memory) h = h
  of_quotient taken counts bound a out out' (Err refusal.TooWide) h = absurd (let e = h.0.0 in cc)
  of_quotient taken counts bound a out out' (Err _) h = absurd h

-- ---- the quotient's case

-- the case that is made of the quotient over the chain's root and grid
pub same_case : (k : CaseData) (l : LumpedData) (q : ModelData) (grid : Grid) (root : Spans) (w : ℕ) → q ≡ l.model → root ≡ k.root → grid.d ≡ k.d → grid.depth ≡ k.depth → w ≡ k.w → case_of q (region_of (grid, root)) w ≡ lumped_case k l
same_case k l q grid root w a b c d e = rw (a, b, c, d, e) refl

-- in which each row is a distribution
pub tested_quotient : QuotientsAreCases → CasesHaveWeights → CasesHaveSums → (k : CaseData) (l : LumpedData) (m : ModelData) → IsTestedCase k → k.model.kind ≡ Dtmc → m ≡ k.model → IsLumped m l → HasSmallCoefficients l.model → IsTestedCase (lumped_case k l)
tested_quotient law weights sums k l m tested chain same is small =
    let case = quotient_is_case law k l tested.case chain (subst (λ (q : ModelData). IsLumped q l) same is) small in
    record { case = case; weights = weights (lumped_case k l) case; sums = sums (lumped_case k l) case }

pub is_lumped_case : (k : CaseData) (l : LumpedData) (m : ModelData) → IsTestedCase k → k.model.kind ≡ Dtmc → m ≡ k.model → IsLumped m l → BlocksHold m l → IsLumpedCase k l
is_lumped_case k l m tested chain same is holds = record {
  case = tested.case;
  weights = tested.weights;
  sums = tested.sums;
  chain = chain;
  lumped = subst (λ (q : ModelData). IsLumped q l) same is;
  same = subst (λ (q : ModelData). BlocksHold q l) same holds;
}
