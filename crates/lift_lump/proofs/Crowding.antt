-- Blocks more than half of whose states are touched, and states that are left in the others.
use Rattle.std.proofs.Common.{◌≡◌, ◌≢◌, ◌⊎◌, inl, inr, ⊎_elim, ℕ, zero, suc, ◌+◌, ◌-◌, ◌*◌, ◌/◌, ◌^◌, ◌<◌, ◌≤◌, Bool, true, false, cond, List, [], ◌∷◌, ◌++◌, length, get_or, set, take, drop, All, Contains, nat_eq, refl, sym, ap, ◌∙◌, subst, arith}
use Rattle.std.proofs.lemmas.List.{get_or-set_same, get_or-set_other, length-set, take_all}
use Rattle.std.proofs.lemmas.List.Elements.{All-push, Contains-append_left, Contains-push}
use Rattle.std.proofs.lemmas.List.Sums.{sum_by-set, sum_by-cons, count_by_more_yes, count_by_more_no, get_or-le-sum_by}
use Rattle.std.proofs.lemmas.Bool.Decides.{nat_tests}
use Rattle.lift_lump.specs.Search.{number_at}
use Rattle.lift_lump.specs.declared.touch.Touched.{Touched}
use Rattle.lift_lump.specs.Renaming.{no_touched, block_at, state_at, StandsIn, AreSortedKeys, AreKeyed, touched_in, IsCrowded}
use Rattle.lift_lump.specs.Splitting.{list_of, how_many, AreInside, HaveRest, IsLeft}
use Rattle.lift_lump.proofs.Holders.{here_same, here_other}
use Rattle.lift_lump.proofs.Renaming.{stands}
use Rattle.lift_lump.proofs.Regrouping.{BeginsBlock, blocks_rise}
use Rattle.lift_lump.proofs.Sides.{side, same_or_not}

-- ---- how many are touched

-- one, where the touched state is of the block
abbrev of_block : ℕ → Touched → ℕ
of_block b t = cond (nat_eq (t.key / 2 ^ 64) b) 1 0

of_same : (b : ℕ) (t : Touched) → t.key / 2 ^ 64 ≡ b → of_block b t ≡ 1
of_same b t e = here_same b (t.key / 2 ^ 64) e

none_touched : (touched : List Touched) (b : ℕ) → ((j : ℕ) → j < length touched → block_at touched j ≢ b) → touched_in touched b ≡ 0
none_touched [] b none = refl
none_touched (t ∷ ts) b none =
    let first = here_other b (t.key / 2 ^ 64) (none 0 (omega arith)) in
    let rest = none_touched ts b (λ j lt. none (suc j) (omega (arith, lt))) in
    omega (arith, first, rest, sum_by-cons (of_block b) t ts)

one_more : (touched : List Touched) (b i : ℕ) → i < length touched → block_at touched i ≡ b → touched_in (take (i + 1) touched) b ≡ touched_in (take i touched) b + 1
one_more touched b i lt e = count_by_more_yes (λ (t : Touched). nat_eq (t.key / 2 ^ 64) b) touched i no_touched lt (grind (arith, nat_tests, e))

no_more : (touched : List Touched) (b i : ℕ) → i < length touched → block_at touched i ≢ b → touched_in (take (i + 1) touched) b ≡ touched_in (take i touched) b
no_more touched b i lt ne = count_by_more_no (λ (t : Touched). nat_eq (t.key / 2 ^ 64) b) touched i no_touched lt (grind (arith, nat_tests, ne))

none_in : (touched : List Touched) (b i : ℕ) → i ≤ length touched → ((j : ℕ) → j < i → block_at touched j ≢ b) → touched_in (take i touched) b ≡ 0
none_in touched b zero le none = refl
none_in touched b (suc i) le none = ap (λ n. touched_in (take n touched) b) (let e : suc i ≡ i + 1 = omega arith in e) ∙ no_more touched b i (omega (arith, le)) (none i (omega arith)) ∙ none_in touched b i (omega (arith, le)) (λ j lt. none j (omega (arith, lt)))

-- none of those from a place on is of the block
none_behind : (touched : List Touched) (b i n : ℕ) → i + n ≡ length touched → ((j : ℕ) → i ≤ j → j < length touched → block_at touched j ≢ b) → touched_in touched b ≡ touched_in (take i touched) b
none_behind touched b i zero e none = ap (λ (ts : List Touched). touched_in ts b) (sym (take_all i touched (omega (arith, e))))
none_behind touched b i (suc n) e none =
    none_behind touched b (i + 1) n (omega (arith, e)) (λ j le lt. none j (omega (arith, le)) lt)
    ∙ no_more touched b i (omega (arith, e)) (none i (omega arith) (omega (arith, e)))

some_touched : (touched : List Touched) (b i : ℕ) → i < length touched → block_at touched i ≡ b → 1 ≤ touched_in touched b
some_touched touched b i lt e =
    let one = of_same b (get_or touched i no_touched) e in
    let most = get_or-le-sum_by (of_block b) touched i no_touched lt in
    omega (arith, one, most)

-- ---- the blocks one after another

module _ (touched : List Touched) (sizes : List ℕ) where
  -- what holds once the first places, so many, were looked at
  pub record AreNoted (i count : ℕ) (blocks : List ℕ) : Type 0 where
    pub only : All (IsCrowded sizes touched) blocks
    pub all : (b : ℕ) → IsCrowded sizes touched b → Contains blocks b ⊎ ((j : ℕ) × (i ≤ j) × (j < length touched) × (block_at touched j ≡ b))
    pub most : count ≤ i
    pub so_far : (j : ℕ) → j + 1 ≡ i → count ≡ touched_in (take i touched) (block_at touched j)

module _ (touched : List Touched) (sizes : List ℕ) (sorted : AreSortedKeys touched) where
  rise : (i j : ℕ) → i ≤ j → j < length touched → block_at touched i ≤ block_at touched j
  rise i j le lt = blocks_rise touched sorted i j le lt

  -- a crowded block has a touched state
  found : (b : ℕ) → IsCrowded sizes touched b → (j : ℕ) × (0 ≤ j) × (j < length touched) × (block_at touched j ≡ b)
  found b is = at (length touched) (omega arith) (search_in (length touched))
    where
      Found : ℕ → Type 0
      Found n = ((j : ℕ) × (j < n) × (block_at touched j ≡ b)) ⊎ ((j : ℕ) → j < n → block_at touched j ≢ b)

      search_in : (n : ℕ) → Found n
      search_in zero = inr (λ j lt. absurd (omega (arith, lt)))
      search_in (suc n) = by (same_or_not (block_at touched n) b) (search_in n)
        where
          by : (block_at touched n ≡ b) ⊎ (block_at touched n ≢ b) → Found n → Found (suc n)
          by (inl e) _ = inl (n, omega arith, e)
          by (inr ne) (inl a) = inl (a.0, (let lt = a.1 in omega (arith, lt)), a.2)
          by (inr ne) (inr none) = inr (λ j lt e. last j lt e (same_or_not j n))
            where
              last : (j : ℕ) → j < suc n → block_at touched j ≡ b → (j ≡ n) ⊎ (j ≢ n) → ⊥
              last j lt e (inl same) = ne (ap (block_at touched) (sym same) ∙ e)
              last j lt e (inr other) = none j (grind (arith, lt, other)) e

      at : (n : ℕ) → n ≡ length touched → Found n → (j : ℕ) × (0 ≤ j) × (j < length touched) × (block_at touched j ≡ b)
      at n e (inl a) = (a.0, omega arith, (let lt = a.1 in omega (arith, lt, e)), a.2)
      at n e (inr none) = absurd (let zero_is = none_touched touched b (λ j lt. none j (omega (arith, lt, e))) in omega (arith, is, zero_is))

  pub noted_none : AreNoted touched sizes 0 0 []
  noted_none = record {
    only = λ k d lt. absurd (let f : k < 0 = lt in omega (arith, f));
    all = λ b is. inr (found b is);
    most = omega arith;
    so_far = λ j e. absurd (omega (arith, e));
  }

  pub noted_more : (i before count : ℕ) (old new : List ℕ) (block size : ℕ) (is_due : Bool) → i < length touched → AreNoted touched sizes i before old → block ≡ block_at touched i → size ≡ number_at sizes block
      → (BeginsBlock touched i → count ≡ 1) → ((0 < i) → block_at touched (i - 1) ≡ block_at touched i → count ≡ before + 1)
      → (is_due ≡ true → (j : ℕ) → i + 1 ≡ j → j < length touched → block_at touched i ≢ block_at touched j) → (is_due ≡ true → size < 2 * count)
      → (is_due ≡ false → ((i + 1 < length touched) × (block_at touched i ≡ block_at touched (i + 1))) ⊎ (2 * count ≤ size))
      → (is_due ≡ true → new ≡ old ++ block ∷ []) → (is_due ≡ false → new ≡ old) → AreNoted touched sizes (i + 1) count new
  noted_more i before count old new block size is_due lt are block_is size_is first other last enough skipped due same = record {
    only = only is_due refl;
    all = λ b is. all b is (are.all b is);
    most = most (kind i refl);
    so_far = λ j e. counted ∙ ap (λ k. touched_in (take (i + 1) touched) (block_at touched k)) (let f : i ≡ j = omega (arith, e) in f);
  }
    where
      kind : (k : ℕ) → k ≡ i → BeginsBlock touched i ⊎ ((0 < i) × (block_at touched (i - 1) ≡ block_at touched i))
      kind zero is = inl (λ j f. absurd (omega (arith, f, is)))
      kind (suc k) is = of (same_or_not (block_at touched k) (block_at touched i))
        where
          of : (block_at touched k ≡ block_at touched i) ⊎ (block_at touched k ≢ block_at touched i) → BeginsBlock touched i ⊎ ((0 < i) × (block_at touched (i - 1) ≡ block_at touched i))
          of (inl e) = inr (omega (arith, is), ap (block_at touched) (let f : i - 1 ≡ k = omega (arith, is) in f) ∙ e)
          of (inr ne) = inl (λ j f e. ne (ap (block_at touched) (let g : k ≡ j = omega (arith, f, is) in g) ∙ e))

      most : BeginsBlock touched i ⊎ ((0 < i) × (block_at touched (i - 1) ≡ block_at touched i)) → count ≤ i + 1
      most (inl b) = let e = first b in omega (arith, e)
      most (inr c) = let e = other c.0 c.1 in let m = are.most in omega (arith, e, m)

      none_before : BeginsBlock touched i → (j : ℕ) → j < i → block_at touched j ≢ block_at touched i
      none_before b j j_lt e =
          let low = rise j (i - 1) (omega (arith, j_lt)) (omega (arith, lt)) in
          let high = rise (i - 1) i (omega arith) lt in
          b (i - 1) (omega (arith, j_lt)) (omega (arith, low, high, e))

      counted : count ≡ touched_in (take (i + 1) touched) (block_at touched i)
      counted = by (kind i refl)
        where
          by : BeginsBlock touched i ⊎ ((0 < i) × (block_at touched (i - 1) ≡ block_at touched i)) → count ≡ touched_in (take (i + 1) touched) (block_at touched i)
          by (inl b) =
              let none = none_in touched (block_at touched i) i (omega (arith, lt)) (none_before b) in
              let more = one_more touched (block_at touched i) i lt refl in
              let e = first b in
              omega (arith, none, more, e)
          by (inr c) =
              let positive = c.0 in
              let was = are.so_far (i - 1) (omega (arith, positive)) ∙ ap (touched_in (take i touched)) c.1 in
              let more = one_more touched (block_at touched i) i lt refl in
              let e = other positive c.1 in
              omega (arith, was, more, e)

      -- all of the block were counted where it ends
      whole : ((j : ℕ) → i + 1 ≡ j → j < length touched → block_at touched i ≢ block_at touched j) → touched_in touched (block_at touched i) ≡ count
      whole ends = none_behind touched (block_at touched i) (i + 1) (length touched - (i + 1)) (omega (arith, lt)) (λ j le j_lt. behind j le j_lt) ∙ sym counted
        where
          behind : (j : ℕ) → i + 1 ≤ j → j < length touched → block_at touched j ≢ block_at touched i
          behind j le j_lt e =
              let low = rise i (i + 1) (omega arith) (omega (arith, le, j_lt)) in
              let high = rise (i + 1) j le j_lt in
              ends (i + 1) refl (omega (arith, le, j_lt)) (omega (arith, low, high, e))

      of_i : touched_in touched block ≡ touched_in touched (block_at touched i)
      of_i = ap (touched_in touched) block_is

      crowded : is_due ≡ true → IsCrowded sizes touched block
      crowded d = let less = enough d in let count_is = whole (last d) in omega (arith, less, count_is, of_i, size_is)

      only : (d : Bool) → is_due ≡ d → All (IsCrowded sizes touched) new
      only true d = subst (All (IsCrowded sizes touched)) (sym (due d)) (All-push (IsCrowded sizes touched) old block are.only (crowded d))
      only false d = subst (All (IsCrowded sizes touched)) (sym (same d)) are.only

      kept : (b : ℕ) → Contains old b → (d : Bool) → is_due ≡ d → Contains new b
      kept b there true d = subst (λ (xs : List ℕ). Contains xs b) (sym (due d)) (Contains-append_left old (block ∷ []) b there)
      kept b there false d = subst (λ (xs : List ℕ). Contains xs b) (sym (same d)) there

      Later : ℕ → Type 0
      Later b = (j : ℕ) × (i + 1 ≤ j) × (j < length touched) × (block_at touched j ≡ b)

      now : (b : ℕ) → IsCrowded sizes touched b → block_at touched i ≡ b → (d : Bool) → is_due ≡ d → Contains new b ⊎ Later b
      now b is e true d = inl (subst (λ (xs : List ℕ). Contains xs b) (sym (due d)) (subst (Contains (old ++ block ∷ [])) (block_is ∙ e) (Contains-push old block)))
      now b is e false d = at (skipped d) (last_or_not (side (i + 1) (length touched)))
        where
          Ends : Type 0
          Ends = (j : ℕ) → i + 1 ≡ j → j < length touched → block_at touched i ≢ block_at touched j

          last_or_not : (i + 1 < length touched) ⊎ (length touched ≤ i + 1) → Ends ⊎ ((i + 1 < length touched) × (block_at touched i ≡ block_at touched (i + 1)))
          last_or_not (inr past) = inl (λ j f j_lt. absurd (omega (arith, past, f, j_lt)))
          last_or_not (inl more) = of (same_or_not (block_at touched i) (block_at touched (i + 1)))
            where
              of : (block_at touched i ≡ block_at touched (i + 1)) ⊎ (block_at touched i ≢ block_at touched (i + 1)) → Ends ⊎ ((i + 1 < length touched) × (block_at touched i ≡ block_at touched (i + 1)))
              of (inl f) = inr (more, f)
              of (inr ne) = inl (λ j f j_lt g. ne (g ∙ ap (block_at touched) (sym f)))

          at : ((i + 1 < length touched) × (block_at touched i ≡ block_at touched (i + 1))) ⊎ (2 * count ≤ size) → Ends ⊎ ((i + 1 < length touched) × (block_at touched i ≡ block_at touched (i + 1))) → Contains new b ⊎ Later b
          at (inl more) _ = inr (i + 1, omega arith, more.0, sym more.1 ∙ e)
          at (inr le) (inr more) = inr (i + 1, omega arith, more.0, sym more.1 ∙ e)
          at (inr le) (inl ends) = absurd (
              let count_is = whole ends in
              let b_is : touched_in touched b ≡ touched_in touched (block_at touched i) = ap (touched_in touched) (sym e) in
              let s_is : number_at sizes b ≡ size = ap (number_at sizes) (sym e ∙ sym block_is) ∙ sym size_is in
              omega (arith, le, count_is, b_is, s_is, is)
              )

      all : (b : ℕ) → IsCrowded sizes touched b → Contains old b ⊎ ((j : ℕ) × (i ≤ j) × (j < length touched) × (block_at touched j ≡ b)) → Contains new b ⊎ Later b
      all b is (inl there) = inl (kept b there is_due refl)
      all b is (inr a) = at (same_or_not a.0 i)
        where
          at : (a.0 ≡ i) ⊎ (a.0 ≢ i) → Contains new b ⊎ Later b
          at (inl e) = now b is (ap (block_at touched) (sym e) ∙ a.3) is_due refl
          at (inr ne) = inr (a.0, (let le = a.1 in grind (arith, le, ne)), a.2, a.3)

  pub noted_all : (i count : ℕ) (blocks : List ℕ) → length touched ≤ i → AreNoted touched sizes i count blocks → (b : ℕ) → IsCrowded sizes touched b → Contains blocks b
  noted_all i count blocks past are b is = ⊎_elim (λ (there : Contains blocks b). there) (λ (a : (j : ℕ) × (i ≤ j) × (j < length touched) × (block_at touched j ≡ b)). absurd (let le = a.1 in let lt = a.2 in omega (arith, past, le, lt))) (are.all b is)

-- ---- states that are left

-- where all states of a label are among these, there are no more than these
covered : (b : ℕ) (touched : List Touched) (labels : List ℕ) → ((i : ℕ) → i < length touched → state_at touched i < length labels → number_at labels (state_at touched i) ≡ b → block_at touched i ≡ b)
    → ((u : ℕ) → u < length labels → number_at labels u ≡ b → StandsIn touched u) → how_many labels b ≤ touched_in touched b
covered b [] labels keyed all = none labels (λ u lt e. let there = all u lt e in let f : there.0 < 0 = there.1 in omega (arith, f))
  where
    none : (ls : List ℕ) → ((u : ℕ) → u < length ls → number_at ls u ≡ b → ⊥) → how_many ls b ≤ 0
    none [] not_one = omega arith
    none (l ∷ ls) not_one =
        let first = here_other b l (not_one 0 (omega arith)) in
        let rest = none ls (λ u lt e. not_one (suc u) (omega (arith, lt)) e) in
        omega (arith, first, rest, sum_by-cons (λ k. cond (nat_eq k b) 1 0) l ls)
covered b (t ∷ ts) labels keyed all = by (covered b ts) (side t.state (length labels)) (same_or_not (number_at labels t.state) b)
  where
    Rest : Type 0
    Rest = (ls : List ℕ) → ((i : ℕ) → i < length ts → state_at ts i < length ls → number_at ls (state_at ts i) ≡ b → block_at ts i ≡ b) → ((u : ℕ) → u < length ls → number_at ls u ≡ b → StandsIn ts u) → how_many ls b ≤ touched_in ts b

    cons : touched_in (t ∷ ts) b ≡ of_block b t + touched_in ts b
    cons = sum_by-cons (of_block b) t ts

    standing : (u : ℕ) → u ≢ t.state → StandsIn (t ∷ ts) u → StandsIn ts u
    standing u ne there = at there.0 there.1 there.2
      where
        at : (i : ℕ) → i < length (t ∷ ts) → state_at (t ∷ ts) i ≡ u → StandsIn ts u
        at zero lt e = absurd (ne (sym e))
        at (suc i) lt e = (i, omega (arith, lt), e)

    without : Rest → (t.state < length labels → number_at labels t.state ≢ b) → how_many labels b ≤ touched_in (t ∷ ts) b
    without rest_of other =
        let rest = rest_of labels (λ i lt. keyed (suc i) (omega (arith, lt))) (λ u lt e. standing u (λ is. other (subst (λ x. x < length labels) is lt) (ap (number_at labels) (sym is) ∙ e)) (all u lt e)) in
        omega (arith, rest, cons)

    by : Rest → (t.state < length labels) ⊎ (length labels ≤ t.state) → (number_at labels t.state ≡ b) ⊎ (number_at labels t.state ≢ b) → how_many labels b ≤ touched_in (t ∷ ts) b
    by rest_of (inr past) _ = without rest_of (λ lt. absurd (omega (arith, lt, past)))
    by rest_of (inl lt) (inr ne) = without rest_of (λ _. ne)
    by rest_of (inl lt) (inl e) =
        let other : b + 1 ≢ b = λ f. absurd (omega (arith, f)) in
        let size = length-set labels t.state (b + 1) in
        let moved = sum_by-set (λ k. cond (nat_eq k b) 1 0) labels t.state (b + 1) 0 lt in
        let one = here_same b (number_at labels t.state) e in
        let none = here_other b (b + 1) other in
        let first = of_same b t (keyed 0 (omega arith) lt e) in
        let rest = rest_of (set labels t.state (b + 1))
        (λ i i_lt inside is. keyed (suc i) (omega (arith, i_lt)) (omega (arith, inside, size)) (was (state_at ts i) is (same_or_not (state_at ts i) t.state)).0)
        (λ u u_lt is. let w = was u is (same_or_not u t.state) in standing u w.1 (all u (omega (arith, u_lt, size)) w.0)) in
        omega (arith, rest, cons, moved, one, none, first)
      where
        was : (u : ℕ) → number_at (set labels t.state (b + 1)) u ≡ b → (u ≡ t.state) ⊎ (u ≢ t.state) → (number_at labels u ≡ b) × (u ≢ t.state)
        was u is (inl same) = absurd (let f : b + 1 ≡ b = sym (ap (number_at (set labels t.state (b + 1))) same ∙ get_or-set_same labels t.state (b + 1) 0 lt) ∙ is in omega (arith, f))
        was u is (inr ne) = (sym (get_or-set_other labels t.state u (b + 1) 0 ne) ∙ is, ne)

-- a state of the label is left, or all are touched
left_or_all : (labels : List ℕ) (touched : List Touched) (b n : ℕ) → n ≤ length labels → IsLeft labels touched b ⊎ ((u : ℕ) → u < n → number_at labels u ≡ b → StandsIn touched u)
left_or_all labels touched b zero le = inr (λ u lt. absurd (omega (arith, lt)))
left_or_all labels touched b (suc n) le = by (left_or_all labels touched b n (omega (arith, le))) (same_or_not (number_at labels n) b) (stands touched n (length touched))
  where
    last : ((u : ℕ) → u < n → number_at labels u ≡ b → StandsIn touched u) → (number_at labels n ≡ b → StandsIn touched n) → (u : ℕ) → u < suc n → number_at labels u ≡ b → StandsIn touched u
    last all own u lt e = at (same_or_not u n)
      where
        at : (u ≡ n) ⊎ (u ≢ n) → StandsIn touched u
        at (inl same) = subst (StandsIn touched) (sym same) (own (ap (number_at labels) (sym same) ∙ e))
        at (inr ne) = all u (grind (arith, lt, ne)) e

    by : IsLeft labels touched b ⊎ ((u : ℕ) → u < n → number_at labels u ≡ b → StandsIn touched u) → (number_at labels n ≡ b) ⊎ (number_at labels n ≢ b) → StandsIn touched n ⊎ ((i : ℕ) → i < length touched → state_at touched i ≢ n)
        → IsLeft labels touched b ⊎ ((u : ℕ) → u < suc n → number_at labels u ≡ b → StandsIn touched u)
    by (inl left) _ _ = inl left
    by (inr all) (inr ne) _ = inr (last all (λ e. absurd (ne e)))
    by (inr all) (inl e) (inl there) = inr (last all (λ _. there))
    by (inr all) (inl e) (inr none) = inl (record { state = n; inside = omega (arith, le); label = e; untouched = λ there. none there.0 there.1 there.2 })

-- in a block that isn't crowded a state is left
pub some_left : (labels sizes : List ℕ) (members : List (List ℕ)) (touched : List Touched) (b : ℕ) → AreInside labels sizes members → AreKeyed labels touched → (s : ℕ) → StandsIn touched s → number_at labels s ≡ b
    → IsCrowded sizes touched b ⊎ IsLeft labels touched b
some_left labels sizes members touched b are keyed s there is = by (side (number_at sizes b) (2 * touched_in touched b)) (left_or_all labels touched b (length labels) (omega arith))
  where
    by : (number_at sizes b < 2 * touched_in touched b) ⊎ (2 * touched_in touched b ≤ number_at sizes b) → IsLeft labels touched b ⊎ ((u : ℕ) → u < length labels → number_at labels u ≡ b → StandsIn touched u) → IsCrowded sizes touched b ⊎ IsLeft labels touched b
    by (inl crowded) _ = inl crowded
    by (inr le) (inl left) = inr left
    by (inr le) (inr all) = absurd (
        let count = are.counted b in
        let most = covered b touched labels (λ i lt inside e. keyed i lt ∙ e) all in
        let some = some_touched touched b there.0 there.1 (keyed there.0 there.1 ∙ ap (number_at labels) there.2 ∙ is) in
        omega (arith, le, count, most, some)
        )

-- ---- lists that are taken away

-- where a state is touched, the list of its label is gone, a state with that label is left, or the label is among these
abbrev pub HaveRestBut : List ℕ → List ℕ → List (List ℕ) → List Touched → Type 0
HaveRestBut blocks labels members touched = (s : ℕ) → StandsIn touched s → Contains blocks (number_at labels s) ⊎ ((list_of members (number_at labels s) ≡ []) ⊎ IsLeft labels touched (number_at labels s))

pub rest_begins : (labels sizes blocks : List ℕ) (members : List (List ℕ)) (touched : List Touched) → AreInside labels sizes members → AreKeyed labels touched → ((b : ℕ) → IsCrowded sizes touched b → Contains blocks b) → HaveRestBut blocks labels members touched
rest_begins labels sizes blocks members touched are keyed all s there =
    ⊎_elim (λ (crowded : IsCrowded sizes touched (number_at labels s)). inl (all (number_at labels s) crowded)) (λ (left : IsLeft labels touched (number_at labels s)). inr (inr left)) (some_left labels sizes members touched (number_at labels s) are keyed s there refl)

pub rest_more : (labels blocks : List ℕ) (members new : List (List ℕ)) (old touched : List Touched) (i : ℕ) → i < length blocks → get_or blocks i 0 < length members → new ≡ set members (get_or blocks i 0) []
    → ((t : ℕ) → StandsIn touched t → StandsIn old t ⊎ (number_at labels t ≡ get_or blocks i 0)) → HaveRestBut (drop i blocks) labels members old → HaveRestBut (drop (i + 1) blocks) labels new touched
rest_more labels blocks members new old touched i lt b_in is only rest s there = by (same_or_not (number_at labels s) b) (only s there)
  where
    b : ℕ
    b = get_or blocks i 0

    Goal : Type 0
    Goal = Contains (drop (i + 1) blocks) (number_at labels s) ⊎ ((list_of new (number_at labels s) ≡ []) ⊎ IsLeft labels touched (number_at labels s))

    of : number_at labels s ≢ b → Contains (drop i blocks) (number_at labels s) ⊎ ((list_of members (number_at labels s) ≡ []) ⊎ IsLeft labels old (number_at labels s)) → Goal
    of ne (inl listed) = inl (subst (λ n. Contains (drop n blocks) (number_at labels s)) (let e : suc i ≡ i + 1 = omega arith in e) (later blocks i lt refl listed))
      where
        later : (xs : List ℕ) (k : ℕ) → k < length xs → get_or xs k 0 ≡ b → Contains (drop k xs) (number_at labels s) → Contains (drop (suc k) xs) (number_at labels s)
        later [] k k_in e c = absurd (omega (arith, k_in))
        later (x ∷ xs) zero k_in e c = at c.0 c.1 c.2
          where
            at : (j : ℕ) → j < length (x ∷ xs) → get_or (x ∷ xs) j (number_at labels s) ≡ number_at labels s → Contains xs (number_at labels s)
            at zero j_in f = absurd (ne (sym f ∙ e))
            at (suc j) j_in f = (j, omega (arith, j_in), f)
        later (x ∷ xs) (suc k) k_in e c = later xs k (omega (arith, k_in)) e c
    of ne (inr (inl gone)) = inr (inl (ap (λ (ms : List (List ℕ)). list_of ms (number_at labels s)) is ∙ get_or-set_other members b (number_at labels s) [] [] ne ∙ gone))
    of ne (inr (inr left)) = inr (inr (record {
      state = left.state;
      inside = left.inside;
      label = left.label;
      untouched = λ t. ⊎_elim (λ (was : StandsIn old left.state). left.untouched was) (λ (e : number_at labels left.state ≡ b). ne (sym left.label ∙ e)) (only left.state t);
    }))

    by : (number_at labels s ≡ b) ⊎ (number_at labels s ≢ b) → StandsIn old s ⊎ (number_at labels s ≡ b) → Goal
    by (inl e) _ = inr (inl (ap (λ (ms : List (List ℕ)). list_of ms (number_at labels s)) is ∙ ap (list_of (set members b [])) e ∙ get_or-set_same members b [] [] b_in))
    by (inr ne) (inr e) = absurd (ne e)
    by (inr ne) (inl was) = of ne (rest s was)

pub rest_ends : (labels blocks : List ℕ) (members : List (List ℕ)) (touched : List Touched) (i : ℕ) → length blocks ≤ i → HaveRestBut (drop i blocks) labels members touched → HaveRest labels members touched
rest_ends labels blocks members touched i past rest s there =
    ⊎_elim (λ (listed : Contains (drop i blocks) (number_at labels s)). absurd (none blocks i past listed)) (λ (h : (list_of members (number_at labels s) ≡ []) ⊎ IsLeft labels touched (number_at labels s)). h) (rest s there)
  where
    none : (xs : List ℕ) (k : ℕ) → length xs ≤ k → Contains (drop k xs) (number_at labels s) → ⊥
    none [] zero le c = let lt = c.1 in let f : c.0 < 0 = lt in omega (arith, f)
    none [] (suc k) le c = let lt = c.1 in let f : c.0 < 0 = lt in omega (arith, f)
    none (x ∷ xs) zero le c = omega (arith, le)
    none (x ∷ xs) (suc k) le c = none xs k (omega (arith, le)) c
