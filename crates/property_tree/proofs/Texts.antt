-- The lines of leaves, as they are written.
use Rattle.std.proofs.Common.{◌≡◌, ℕ, ◌*◌, ⊎_elim, Bool, true, false, not, if◌then◌else◌, List, [], ◌∷◌, ◌++◌, ℤ, map, codes, refl, sym, ap, ◌∙◌, append_assoc}
use Rattle.std.specs.List.{flat_map}
use Rattle.std.specs.Fmt.{decimal, signed_decimal}
use Prim.Native.Char.{code}
use Rattle.corner_lift.specs.Case.{CaseData}
use Rattle.cert_text.specs.Report.{line}
use Rattle.property_text.specs.declared.op.Op.{Op}
use Rattle.lift_dual.specs.Property.{is_upper}
use Rattle.region_tree.specs.Decided.{lane, reject_in}
use Rattle.region_tree.specs.declared.pools.Pools.{Pools}
use Rattle.property_tree.specs.Decided.{lower_all_in, lower_in, upper_in}
use Rattle.property_tree.specs.Leaves.{PropertyLeaf, holds_by}
use Rattle.property_tree.specs.Text.{certificate_text, leaf_text, lower_line, verdict_line}
use Rattle.property_tree.proofs.Single.{true_or_false}

-- ---- lines

pub line-words : {X : Type 0} (f : X → List ℕ) (word : List ℕ) (xs : List X) → line (word ∷ map f xs) ≡ word ++ (flat_map (λ x. code " " ∷ f x) xs ++ codes "\n")
line-words f word [] = refl
line-words f word (x ∷ xs) = ap (λ (r : List ℕ). word ++ (code " " ∷ r)) (line-words f (f x) xs ∙ sym (append_assoc (f x) (flat_map (λ x. code " " ∷ f x) xs) (codes "\n")))

-- a lower vector's first line, as it is written
pub rate_line : (e k : ℕ) (y : ℤ) (z : ℕ) → lower_line e k y z ≡ codes "lower e " ++ (decimal e ++ (codes " k " ++ (decimal k ++ (codes " m " ++ (decimal (e * k) ++ (codes " b " ++ (signed_decimal y ++ (codes "/" ++ (decimal z ++ codes "\n")))))))))
rate_line e k y z = ap (λ (rest : List ℕ). codes "lower e " ++ (decimal e ++ (codes " k " ++ (decimal k ++ (codes " m " ++ (decimal (e * k) ++ (codes " b " ++ rest))))))) (append_assoc (signed_decimal y) (codes "/" ++ decimal z) (codes "\n"))

-- ---- what stands in the lanes

module _ (k : CaseData) (op : Op) (p : Pools) where
  upper_is : is_upper op ≡ true → upper_in op p ≡ PropertyLeaf.upper (lane p.values)
  upper_is e = ap (λ (b : Bool). if b then PropertyLeaf.upper (lane p.values) else PropertyLeaf.upper_one (lane p.values) (lane p.picks)) e

  upper_one_is : is_upper op ≡ false → upper_in op p ≡ PropertyLeaf.upper_one (lane p.values) (lane p.picks)
  upper_one_is e = ap (λ (b : Bool). if b then PropertyLeaf.upper (lane p.values) else PropertyLeaf.upper_one (lane p.values) (lane p.picks)) e

  lower_is : (e h : ℕ) → is_upper op ≡ true → lower_in op p e h ≡ PropertyLeaf.lower (reject_in p e h)
  lower_is e h same = ap (λ (b : Bool). if b then PropertyLeaf.lower (reject_in p e h) else PropertyLeaf.lower_all (lower_all_in p e h)) same

  lower_all_is : (e h : ℕ) → is_upper op ≡ false → lower_in op p e h ≡ PropertyLeaf.lower_all (lower_all_in p e h)
  lower_all_is e h same = ap (λ (b : Bool). if b then PropertyLeaf.lower (reject_in p e h) else PropertyLeaf.lower_all (lower_all_in p e h)) same

  -- a leaf's lines, where it is told whether the property holds
  by_verdict : (leaf : PropertyLeaf) (holds : Bool) → holds_by op leaf ≡ holds → leaf_text k op leaf ≡ verdict_line holds ++ certificate_text k leaf
  by_verdict leaf holds same = ap (λ (b : Bool). verdict_line b ++ certificate_text k leaf) same

  upper_holds : holds_by op (upper_in op p) ≡ is_upper op
  upper_holds = ⊎_elim
      (λ (e : is_upper op ≡ true). ap (λ (l : PropertyLeaf). holds_by op l) (upper_is e))
      (λ (e : is_upper op ≡ false). ap (λ (l : PropertyLeaf). holds_by op l) (upper_one_is e))
      (true_or_false (is_upper op))

  lower_holds : (e h : ℕ) → holds_by op (lower_in op p e h) ≡ not (is_upper op)
  lower_holds e h = ⊎_elim
      (λ (same : is_upper op ≡ true). ap (λ (l : PropertyLeaf). holds_by op l) (lower_is e h same))
      (λ (same : is_upper op ≡ false). ap (λ (l : PropertyLeaf). holds_by op l) (lower_all_is e h same))
      (true_or_false (is_upper op))

  pub above_text : leaf_text k op (upper_in op p) ≡ verdict_line (is_upper op) ++ certificate_text k (upper_in op p)
  above_text = by_verdict (upper_in op p) (is_upper op) upper_holds

  pub below_text : (e h : ℕ) → leaf_text k op (lower_in op p e h) ≡ verdict_line (not (is_upper op)) ++ certificate_text k (lower_in op p e h)
  below_text e h = by_verdict (lower_in op p e h) (not (is_upper op)) (lower_holds e h)

  pub upper_text : is_upper op ≡ true → leaf_text k op (upper_in op p) ≡ verdict_line true ++ certificate_text k (PropertyLeaf.upper (lane p.values))
  upper_text e = ap (leaf_text k op) (upper_is e) ∙ by_verdict (PropertyLeaf.upper (lane p.values)) true e

  pub upper_one_text : is_upper op ≡ false → leaf_text k op (upper_in op p) ≡ verdict_line false ++ certificate_text k (PropertyLeaf.upper_one (lane p.values) (lane p.picks))
  upper_one_text e = ap (leaf_text k op) (upper_one_is e) ∙ by_verdict (PropertyLeaf.upper_one (lane p.values) (lane p.picks)) false e

  pub lower_text_is : (e h : ℕ) → is_upper op ≡ true → leaf_text k op (lower_in op p e h) ≡ verdict_line false ++ certificate_text k (PropertyLeaf.lower (reject_in p e h))
  lower_text_is e h same = ap (leaf_text k op) (lower_is e h same) ∙ by_verdict (PropertyLeaf.lower (reject_in p e h)) false (ap not same)

  pub lower_all_text : (e h : ℕ) → is_upper op ≡ false → leaf_text k op (lower_in op p e h) ≡ verdict_line true ++ certificate_text k (PropertyLeaf.lower_all (lower_all_in p e h))
  lower_all_text e h same = ap (leaf_text k op) (lower_all_is e h same) ∙ by_verdict (PropertyLeaf.lower_all (lower_all_in p e h)) true (ap not same)
