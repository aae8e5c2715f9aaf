-- How many states have a label, and labels that states have.
use Rattle.std.proofs.Common.{◌≡◌, ◌≢◌, ◌⊎◌, inl, inr, ℕ, zero, suc, ◌+◌, ◌-◌, ◌<◌, ◌≤◌, true, false, cond, List, [], ◌∷◌, ◌++◌, length, get_or, set, All, Contains, nat_eq, refl, sym, ap, ◌∙◌, arith}
use Rattle.std.proofs.lemmas.List.{get_or-set_same, get_or-set_other, get_or_default, get_or_past, get_or_append_left, get_or_push, length-set, length_push}
use Rattle.std.proofs.lemmas.List.Sums.{sum_by-set, get_or-le-sum_by, sum_by-cons, count_by-le-length}
use Rattle.std.proofs.lemmas.Bool.Decides.{nat_tests}
use Rattle.lift_lump.specs.Search.{number_at}
use Rattle.lift_lump.specs.Splitting.{AreUsed, AreFew, how_many}
use Rattle.lift_lump.proofs.Sides.{side, same_or_not}

-- one, where the label is that one
abbrev pub here : ℕ → ℕ → ℕ
here l k = cond (nat_eq k l) 1 0

pub here_same : (l k : ℕ) → k ≡ l → here l k ≡ 1
here_same l k e =
    let test : nat_eq k l ≡ true = grind (arith, nat_tests, e) in
    rw test refl

pub here_other : (l k : ℕ) → k ≢ l → here l k ≡ 0
here_other l k ne =
    let test : nat_eq k l ≡ false = grind (arith, nat_tests, ne) in
    rw test refl

-- a state has the label, so some do
pub some_have : (labels : List ℕ) (l : ℕ) → Contains labels l → 1 ≤ how_many labels l
some_have labels l there =
    let is : get_or labels there.0 0 ≡ l = get_or_default labels there.0 0 l there.1 ∙ there.2 in
    let one = here_same l (get_or labels there.0 0) is in
    let most = get_or-le-sum_by (here l) labels there.0 0 there.1 in
    omega (arith, one, most)

pub not_more : (labels : List ℕ) (l : ℕ) → how_many labels l ≤ length labels
not_more labels l = count_by-le-length (λ k. nat_eq k l) labels

-- what a state's new label changes
pub moved : (labels : List ℕ) (s name l : ℕ) → s < length labels → how_many (set labels s name) l + here l (number_at labels s) ≡ how_many labels l + here l name
moved labels s name l s_in = sum_by-set (here l) labels s name 0 s_in

-- a label that is kept by another state, or given
pub contains_set : (labels : List ℕ) (s name l : ℕ) → s < length labels → Contains labels l → (number_at labels s ≡ l → Contains (set labels s name) l) → Contains (set labels s name) l
contains_set labels s name l s_in there own = by (same_or_not there.0 s)
  where
    is : get_or labels there.0 0 ≡ l
    is = get_or_default labels there.0 0 l there.1 ∙ there.2

    by : (there.0 ≡ s) ⊎ (there.0 ≢ s) → Contains (set labels s name) l
    by (inl e) = own (ap (number_at labels) (sym e) ∙ is)
    by (inr ne) = (there.0, omega (arith, there.1, length-set labels s name), get_or_default (set labels s name) there.0 l 0 (omega (arith, there.1, length-set labels s name)) ∙ get_or-set_other labels s there.0 name 0 ne ∙ is)

pub contains_at : (labels : List ℕ) (s l : ℕ) → s < length labels → number_at labels s ≡ l → Contains labels l
contains_at labels s l s_in is = (s, s_in, get_or_default labels s l 0 s_in ∙ is)

-- ---- a state is moved

module _ (labels sizes : List ℕ) (s name : ℕ) (s_in : s < length labels) (counted : (l : ℕ) → number_at sizes l ≡ how_many labels l) (below : All (λ l. l < length sizes) labels) (name_in : name < length sizes) where
  abbrev old : ℕ
  old = number_at labels s

  abbrev left : List ℕ
  left = set sizes old (number_at sizes old - 1)

  old_in : old < length sizes
  old_in = below s 0 s_in

  pub old_some : 1 ≤ number_at sizes old
  old_some = let some = some_have labels old (contains_at labels s old s_in refl) in omega (arith, some, counted old)

  left_at : (l : ℕ) → number_at left l + here l old ≡ how_many labels l
  left_at l = by (same_or_not l old)
    where
      by : (l ≡ old) ⊎ (l ≢ old) → number_at left l + here l old ≡ how_many labels l
      by (inl e) =
          let one = here_same l old (sym e) in
          let at : number_at left l ≡ number_at sizes old - 1 = ap (number_at left) e ∙ get_or-set_same sizes old (number_at sizes old - 1) 0 old_in in
          let is : number_at sizes old ≡ how_many labels l = counted old ∙ ap (how_many labels) (sym e) in
          omega (arith, one, at, is, old_some)
      by (inr ne) =
          let none = here_other l old (λ e. ne (sym e)) in
          let at : number_at left l ≡ number_at sizes l = get_or-set_other sizes old l (number_at sizes old - 1) 0 ne in
          omega (arith, none, at, counted l)

  pub left_room : number_at left name ≤ length labels
  left_room = let at = left_at name in let most = not_more labels name in omega (arith, at, most)

  pub moved_counted : (l : ℕ) → number_at (set left name (number_at left name + 1)) l ≡ how_many (set labels s name) l
  moved_counted l = by (same_or_not l name)
    where
      name_there : name < length left
      name_there = omega (arith, name_in, length-set sizes old (number_at sizes old - 1))

      by : (l ≡ name) ⊎ (l ≢ name) → number_at (set left name (number_at left name + 1)) l ≡ how_many (set labels s name) l
      by (inl e) =
          let at : number_at (set left name (number_at left name + 1)) l ≡ number_at left name + 1 = ap (number_at (set left name (number_at left name + 1))) e ∙ get_or-set_same left name (number_at left name + 1) 0 name_there in
          let was : number_at left name + here l old ≡ how_many labels l = ap (λ k. number_at left k + here l old) (sym e) ∙ left_at l in
          let one = here_same l name (sym e) in
          omega (arith, at, was, one, moved labels s name l s_in)
      by (inr ne) =
          let at : number_at (set left name (number_at left name + 1)) l ≡ number_at left l = get_or-set_other left name l (number_at left name + 1) 0 ne in
          let none = here_other l name (λ e. ne (sym e)) in
          omega (arith, at, left_at l, none, moved labels s name l s_in)

-- ---- an empty label more

pub opened_counted : (sizes : List ℕ) (l : ℕ) → number_at (sizes ++ 0 ∷ []) l ≡ number_at sizes l
opened_counted sizes l = by (side l (length sizes)) (same_or_not l (length sizes))
  where
    by : (l < length sizes) ⊎ (length sizes ≤ l) → (l ≡ length sizes) ⊎ (l ≢ length sizes) → number_at (sizes ++ 0 ∷ []) l ≡ number_at sizes l
    by (inl lt) _ = get_or_append_left sizes (0 ∷ []) 0 l lt
    by (inr past) (inl e) = get_or_push sizes 0 0 l (sym e) ∙ sym (get_or_past sizes l 0 past)
    by (inr past) (inr ne) = get_or_past (sizes ++ 0 ∷ []) l 0 (grind (arith, past, ne, length_push sizes 0)) ∙ sym (get_or_past sizes l 0 past)

-- ---- there are few labels

-- how many states have one of the first labels, so many
abbrev all_have : List ℕ → ℕ → ℕ
all_have labels zero = 0
all_have labels (suc n) = all_have labels n + how_many labels n

none_have : (n : ℕ) → all_have [] n ≡ 0
none_have zero = refl
none_have (suc n) = let rest = none_have n in omega (arith, rest)

one_more : (x : ℕ) (xs : List ℕ) (n : ℕ) → (x < n → all_have (x ∷ xs) n ≡ all_have xs n + 1) × (n ≤ x → all_have (x ∷ xs) n ≡ all_have xs n)
one_more x xs zero = (λ lt. absurd (omega (arith, lt)), λ le. refl)
one_more x xs (suc n) = (λ lt. less (one_more x xs n) lt (same_or_not x n), λ le. past (one_more x xs n) le)
  where
    Before : Type 0
    Before = (x < n → all_have (x ∷ xs) n ≡ all_have xs n + 1) × (n ≤ x → all_have (x ∷ xs) n ≡ all_have xs n)

    count : how_many (x ∷ xs) n ≡ here n x + how_many xs n
    count = sum_by-cons (here n) x xs

    less : Before → x < suc n → (x ≡ n) ⊎ (x ≢ n) → all_have (x ∷ xs) (suc n) ≡ all_have xs (suc n) + 1
    less before lt (inl e) = let a = before.1 (omega (arith, e)) in let one = here_same n x e in omega (arith, a, one, count)
    less before lt (inr ne) = let a = before.0 (grind (arith, lt, ne)) in let none = here_other n x ne in omega (arith, a, none, count)

    past : Before → suc n ≤ x → all_have (x ∷ xs) (suc n) ≡ all_have xs (suc n)
    past before le = let a = before.1 (omega (arith, le)) in let none = here_other n x (λ e. absurd (omega (arith, e, le))) in omega (arith, a, none, count)

all_few : (labels : List ℕ) (n : ℕ) → all_have labels n ≤ length labels
all_few [] n = let none = none_have n in omega (arith, none)
all_few (x ∷ xs) n = by (all_few xs n) (side x n)
  where
    by : all_have xs n ≤ length xs → (x < n) ⊎ (n ≤ x) → all_have (x ∷ xs) n ≤ length (x ∷ xs)
    by rest (inl lt) = let a = (one_more x xs n).0 lt in omega (arith, a, rest)
    by rest (inr le) = let a = (one_more x xs n).1 le in omega (arith, a, rest)

all_enough : (labels : List ℕ) (spare n : ℕ) → ((l : ℕ) → l < n → l ≢ spare → Contains labels l) → (spare < n → n ≤ all_have labels n + 1) × (n ≤ spare → n ≤ all_have labels n)
all_enough labels spare zero used = (λ lt. absurd (omega (arith, lt)), λ le. omega arith)
all_enough labels spare (suc n) used = (λ lt. less (all_enough labels spare n (λ l lt ne. used l (omega (arith, lt)) ne)) lt (same_or_not spare n), λ le. past (all_enough labels spare n (λ l lt ne. used l (omega (arith, lt)) ne)) le)
  where
    Before : Type 0
    Before = (spare < n → n ≤ all_have labels n + 1) × (n ≤ spare → n ≤ all_have labels n)

    less : Before → spare < suc n → (spare ≡ n) ⊎ (spare ≢ n) → suc n ≤ all_have labels (suc n) + 1
    less before lt (inl e) = let a = before.1 (omega (arith, e)) in omega (arith, a)
    less before lt (inr ne) = let a = before.0 (grind (arith, lt, ne)) in let some = some_have labels n (used n (omega arith) (λ e. ne (sym e))) in omega (arith, a, some)

    past : Before → suc n ≤ spare → suc n ≤ all_have labels (suc n)
    past before le = let a = before.1 (omega (arith, le)) in let some = some_have labels n (used n (omega arith) (λ e. absurd (omega (arith, e, le)))) in omega (arith, a, some)

pub few_labels : (labels : List ℕ) (count : ℕ) → AreUsed labels count → AreFew labels count
few_labels labels count are = by (side are.spare count)
  where
    most : all_have labels count ≤ length labels
    most = all_few labels count

    by : (are.spare < count) ⊎ (count ≤ are.spare) → count ≤ length labels + 1
    by (inl lt) = let a = (all_enough labels are.spare count are.used).0 lt in omega (arith, a, most)
    by (inr le) = let a = (all_enough labels are.spare count are.used).1 le in omega (arith, a, most)
