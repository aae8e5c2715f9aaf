-- One more state is counted in.
use Rattle.std.proofs.Common.{◌≡◌, ◌≢◌, ◌⊎◌, inl, inr, ⊎_elim, ℕ, ◌+◌, ◌*◌, ◌/◌, ◌%◌, ◌<◌, ◌≤◌, Bool, true, false, cond, List, [], ◌∷◌, ◌++◌, length, get_or, set, take, ℤ, pos, ◌+ℤ◌, ◌*ℤ◌, neg_ℤ, All, nat_eq, refl, sym, ap, ap₂, ◌∙◌, subst, arith}
use Rattle.std.proofs.Math.Nat.{div-add-mod}
use Rattle.std.proofs.lemmas.List.{get_or-set_same, get_or-set_other, get_or_past, length-set, get_or-take, length-take-le}
use Rattle.std.proofs.lemmas.Bool.Decides.{nat_tests}
use Rattle.lift_poly.proofs.Ring.{linear, mul-comm, mul-neg, add-mul}
use Rattle.lift_poly.specs.Polynomial.{Valuation, weight}
use Rattle.lift_model.specs.declared.entry.Entry.{Entry}
use Rattle.lift_model.specs.Model.{row_at}
use Rattle.lift_lump.specs.declared.arrows.Arrow.{Arrow}
use Rattle.lift_lump.specs.Lumping.{terms_into}
use Rattle.lift_lump.specs.Search.{modulus, marks_from, IsCongruent, AreNumbersOf, AreRaised, AreMarked, marked, IsCountedIn}
use Rattle.lift_lump.proofs.Holding.{weight-append}
use Rattle.lift_lump.proofs.Sides.{side, same_or_not}

-- ---- congruence

-- a remainder differs by a multiple
pub remainder : (a n : ℕ) → pos (a % n) ≡ pos a +ℤ neg_ℤ (pos (a / n)) *ℤ pos n
remainder a n =
    let e = mul-comm (neg_ℤ (pos (a / n))) (pos n) ∙ mul-neg (pos n) (pos (a / n)) in
    let f : pos n *ℤ pos (a / n) ≡ pos (n * (a / n)) = refl in
    omega (arith, linear, e, f, div-add-mod a n)

sum_at : (n x y : ℕ) (a b i j k : ℤ) → pos x ≡ a +ℤ i *ℤ pos n → pos y ≡ b +ℤ j *ℤ pos n → pos ((x + y) % n) ≡ pos (x + y) +ℤ k *ℤ pos n → pos ((x + y) % n) ≡ (a +ℤ b) +ℤ ((i +ℤ j) +ℤ k) *ℤ pos n
sum_at n x y a b i j k p q r = omega (arith, linear, p, q, r, add-mul (i +ℤ j) k (pos n), add-mul i j (pos n))

congruent_sum : (x y : ℕ) (a b : ℤ) → IsCongruent x a → IsCongruent y b → IsCongruent ((x + y) % modulus) (a +ℤ b)
congruent_sum x y a b p q =
    ((p.0 +ℤ q.0) +ℤ neg_ℤ (pos ((x + y) / modulus)), sum_at modulus x y a b p.0 q.0 (neg_ℤ (pos ((x + y) / modulus))) p.1 q.1 (remainder (x + y) modulus))

pub congruent_none : (x : ℕ) → x ≡ 0 → IsCongruent x (pos 0)
congruent_none x e = (pos 0, ap pos e)

-- ---- terms

-- a set and one more state
module _ (old new : ℕ → Bool) (t : ℕ) (without : old t ≡ false) (grows : (u : ℕ) → new u ≡ cond (nat_eq u t) true (old u)) (v : Valuation) where
  grown-weight : (row : List Entry) → weight v (terms_into new row) ≡ weight v (terms_into old row) +ℤ weight v (terms_into (λ u. nat_eq u t) row)
  grown-weight [] = omega (arith, linear)
  grown-weight (e ∷ row) =
      let a = weight-append v (cond (new e.target) e.poly []) (terms_into new row) in
      let b = weight-append v (cond (old e.target) e.poly []) (terms_into old row) in
      let c = weight-append v (cond (nat_eq e.target t) e.poly []) (terms_into (λ u. nat_eq u t) row) in
      let here = one (nat_eq e.target t) refl in
      omega (arith, linear, a, b, c, here, grown-weight row)
    where
      one : (b : Bool) → nat_eq e.target t ≡ b → weight v (cond (new e.target) e.poly []) ≡ weight v (cond (old e.target) e.poly []) +ℤ weight v (cond (nat_eq e.target t) e.poly [])
      one true is =
          let same : e.target ≡ t = grind (arith, nat_tests) in
          let was : old e.target ≡ false = ap old same ∙ without in
          let now : new e.target ≡ true = grows e.target ∙ ap (λ b. cond b true (old e.target)) is in
          rw (now, was, is) (omega (arith, linear))
      one false not =
          let now : new e.target ≡ old e.target = grows e.target ∙ ap (λ b. cond b true (old e.target)) not in
          rw (now, not) (omega (arith, linear))

-- ---- numbers

none-weight : (v : Valuation) (marks : ℕ → Bool) → ((u : ℕ) → marks u ≡ false) → (row : List Entry) → weight v (terms_into marks row) ≡ pos 0
none-weight v marks none [] = refl
none-weight v marks none (e ∷ row) = ap (λ b. weight v (cond b e.poly [] ++ terms_into marks row)) (none e.target) ∙ none-weight v marks none row

pub numbers_none : (into : ℕ → List Arrow) (marks : List Bool) (ns : List ℕ) → ((u : ℕ) → marked marks u ≡ false) → All (λ n. n < modulus) ns → ((s : ℕ) → get_or ns s 0 ≡ 0) → AreNumbersOf into marks ns
numbers_none into marks ns none below zeros m v count arrows = record {
  count = sym count;
  below = below;
  goals = λ s goal. zeros s;
  numbers = λ s lt not. subst (IsCongruent (get_or ns s 0)) (sym (none-weight v (marked marks) none (row_at m s 0))) (congruent_none (get_or ns s 0) (zeros s));
}

pub numbers_more : (into : ℕ → List Arrow) (old new : List Bool) (a b : List ℕ) (t : ℕ) → t < length a → marked old t ≡ false → ((u : ℕ) → marked new u ≡ cond (nat_eq u t) true (marked old u)) → AreNumbersOf into old a → AreRaised a b (into t) → AreNumbersOf into new b
numbers_more into old new a b t t_in without grows are raised m v count arrows =
    let before = are m v (count ∙ raised.count) arrows in
    let in_model : t < length m.states = omega (arith, t_in, count, raised.count) in
    record {
      count = sym count;
      below = raised.below;
      goals = λ s goal. by s (side s (length a)) (before.goals s goal) (arrows.goals s t in_model goal);
      numbers = λ s lt not.
          let inside : s < length a = omega (arith, lt, count, raised.count) in
          subst (λ n. IsCongruent n (weight v (terms_into (marked new) (row_at m s 0)))) (sym (raised.numbers s inside))
          (subst (IsCongruent ((get_or a s 0 + marks_from s (into t)) % modulus)) (sym (grown-weight (marked old) (marked new) t without grows v (row_at m s 0)))
          (congruent_sum (get_or a s 0) (marks_from s (into t)) (weight v (terms_into (marked old) (row_at m s 0))) (weight v (terms_into (λ u. nat_eq u t) (row_at m s 0))) (before.numbers s lt not) (arrows.marks s t in_model not)));
    }
  where
    by : (s : ℕ) → (s < length a) ⊎ (length a ≤ s) → get_or a s 0 ≡ 0 → marks_from s (into t) ≡ 0 → get_or b s 0 ≡ 0
    by s (inl lt) x y = raised.numbers s lt ∙ ap₂ (λ i j. (i + j) % modulus) x y
    by s (inr past) x y = get_or_past b s 0 (omega (arith, past, raised.count))

-- ---- marks

-- the marks with one more
pub marked_more : (marks : List Bool) (t : ℕ) → t < length marks → (u : ℕ) → marked (set marks t true) u ≡ cond (nat_eq u t) true (marked marks u)
marked_more marks t t_in u = by (same_or_not u t)
  where
    by : (u ≡ t) ⊎ (u ≢ t) → get_or (set marks t true) u false ≡ cond (nat_eq u t) true (get_or marks u false)
    by (inl e) =
        let test : nat_eq u t ≡ true = grind (arith, nat_tests) in
        rw (test, e) (get_or-set_same marks t true false t_in)
    by (inr ne) =
        let test : nat_eq u t ≡ false = grind (arith, nat_tests) in
        rw test (get_or-set_other marks t u true false ne)

-- one state more was looked at: it is marked now, or isn't of the block
pub looked_more : (labels : List ℕ) (b : ℕ) (states : List ℕ) (i : ℕ) (old new : List Bool) → i < length states → AreMarked labels b (take i states) old
    → ((u : ℕ) → marked new u ≡ true → (marked old u ≡ true) ⊎ (get_or labels u 0 ≡ b)) → ((u : ℕ) → marked old u ≡ true → marked new u ≡ true)
    → (get_or labels (get_or states i 0) 0 ≡ b → marked new (get_or states i 0) ≡ true) → AreMarked labels b (take (i + 1) states) new
looked_more labels b states i old new i_in are only kept here = record {
  only = λ u is_set. ⊎_elim (λ (was : marked old u ≡ true). are.only u was) (λ (is : get_or labels u 0 ≡ b). is) (only u is_set);
  all = λ k k_in of_block. at k k_in of_block (side k i);
}
  where
    at : (k : ℕ) → k < length (take (i + 1) states) → get_or labels (get_or (take (i + 1) states) k 0) 0 ≡ b → (k < i) ⊎ (i ≤ k) → marked new (get_or (take (i + 1) states) k 0) ≡ true
    at k k_in of_block (inl before) =
        let same : get_or (take (i + 1) states) k 0 ≡ get_or (take i states) k 0 = get_or-take (i + 1) states k 0 (omega (arith, before)) ∙ sym (get_or-take i states k 0 before) in
        let inside : k < length (take i states) = omega (arith, before, length-take-le i states (omega (arith, i_in))) in
        ap (marked new) same ∙ kept (get_or (take i states) k 0) (are.all k inside (ap (λ s. get_or labels s 0) (sym same) ∙ of_block))
    at k k_in of_block (inr from) =
        let e : k ≡ i = omega (arith, from, k_in, length-take-le (i + 1) states (omega (arith, i_in))) in
        let same : get_or (take (i + 1) states) k 0 ≡ get_or states i 0 = get_or-take (i + 1) states k 0 (omega (arith, e)) ∙ ap (λ j. get_or states j 0) e in
        ap (marked new) same ∙ here (ap (λ s. get_or labels s 0) (sym same) ∙ of_block)

-- nothing is looked at
pub looked_none : (labels : List ℕ) (b : ℕ) (states : List ℕ) (marks : List Bool) → ((u : ℕ) → marked marks u ≡ false) → AreMarked labels b (take 0 states) marks
looked_none labels b states marks none = record {
  only = λ u is_set. absurd (let e = sym (none u) ∙ is_set in cc);
  all = λ i lt. absurd (omega (arith, lt));
}

-- a state that isn't of the block, or was marked before
pub counted_not : (into : ℕ → List Arrow) (labels : List ℕ) (b t : ℕ) (marks : List Bool) (ns : List ℕ) → All (λ n. n < modulus) ns → (get_or labels t 0 ≡ b → marked marks t ≡ true) → IsCountedIn into labels b t marks marks ns ns
counted_not into labels b t marks ns below here = record {
  sizes = (refl, refl);
  below = below;
  only = λ u is_set. inl is_set;
  kept = λ u is_set. is_set;
  here = here;
  numbers = λ are. are;
}

-- a state of the block that wasn't marked
pub counted_more : (into : ℕ → List Arrow) (labels : List ℕ) (b t : ℕ) (marks : List Bool) (before after : List ℕ) → t < length marks → t < length before → get_or labels t 0 ≡ b → marked marks t ≡ false → AreRaised before after (into t)
    → IsCountedIn into labels b t marks (set marks t true) before after
counted_more into labels b t marks before after t_in n_in of_block without raised = record {
  sizes = (length-set marks t true, raised.count);
  below = raised.below;
  only = λ u is_set. only u is_set (same_or_not u t);
  kept = λ u is_set. marked_more marks t t_in u ∙ kept u is_set (nat_eq u t);
  here = λ is. get_or-set_same marks t true false t_in;
  numbers = λ are. numbers_more into marks (set marks t true) before after t n_in without (marked_more marks t t_in) are raised;
}
  where
    only : (u : ℕ) → marked (set marks t true) u ≡ true → (u ≡ t) ⊎ (u ≢ t) → (marked marks u ≡ true) ⊎ (get_or labels u 0 ≡ b)
    only u is_set (inl e) = inr (ap (λ i. get_or labels i 0) e ∙ of_block)
    only u is_set (inr ne) = inl (sym (get_or-set_other marks t u true false ne) ∙ is_set)

    kept : (u : ℕ) → marked marks u ≡ true → (test : Bool) → cond test true (marked marks u) ≡ true
    kept u is_set true = refl
    kept u is_set false = is_set

-- the loop's step
pub counted_step : (into : ℕ → List Arrow) (labels : List ℕ) (b : ℕ) (states : List ℕ) (i : ℕ) (old new : List Bool) (before after : List ℕ) → i < length states → AreMarked labels b (take i states) old
    → IsCountedIn into labels b (get_or states i 0) old new before after → AreMarked labels b (take (i + 1) states) new
counted_step into labels b states i old new before after i_in are counted = looked_more labels b states i old new i_in are counted.only counted.kept counted.here
