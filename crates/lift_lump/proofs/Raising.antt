-- Marks that are added, one arrow after another.
use Rattle.std.proofs.Common.{◌≡◌, ℕ, ◌+◌, ◌%◌, ◌<◌, List, [], ◌++◌, get_or, All, cond, eqb, refl, sym, ap, ◌∙◌, arith}
use Rattle.std.proofs.Math.Nat.{mod-add-mod, mod-eq_of_lt}
use Rattle.std.proofs.lemmas.List.Sums.{sum_by-append}
use Rattle.lift_lump.specs.declared.arrows.Arrow.{Arrow}
use Rattle.lift_lump.specs.Search.{modulus, marks_from, AreRaised}

pub marks-append : (s : ℕ) (xs ys : List Arrow) → marks_from s (xs ++ ys) ≡ marks_from s xs + marks_from s ys
marks-append s xs ys = sum_by-append (λ (arrow : Arrow). cond (eqb arrow.source s) arrow.mark 0) xs ys

pub raised_none : (ns : List ℕ) → All (λ n. n < modulus) ns → AreRaised ns ns []
raised_none ns below = record {
  count = refl;
  below = below;
  numbers = λ s lt. sym (ap (λ n. n % modulus) (let e : get_or ns s 0 + 0 ≡ get_or ns s 0 = omega arith in e) ∙ mod-eq_of_lt (below s 0 lt));
}

pub raised_more : (a b c : List ℕ) (xs ys : List Arrow) → AreRaised a b xs → AreRaised b c ys → AreRaised a c (xs ++ ys)
raised_more a b c xs ys first next = record {
  count = next.count ∙ first.count;
  below = next.below;
  numbers = λ s lt.
      let x = first.numbers s lt in
      let y = next.numbers s (omega (arith, lt, first.count)) in
      y
      ∙ ap (λ n. (n + marks_from s ys) % modulus) x
      ∙ mod-add-mod (get_or a s 0 + marks_from s xs) modulus (marks_from s ys)
      ∙ ap (λ n. n % modulus) (let sum = marks-append s xs ys in let e : get_or a s 0 + marks_from s xs + marks_from s ys ≡ get_or a s 0 + marks_from s (xs ++ ys) = omega (arith, sum) in e);
}
