-- Listing the states before each state, in parts of one flat list.
use Rattle.std.proofs.Common.{◌≡◌, ◌≢◌, ℕ, zero, suc, ◌+◌, ◌-◌, ◌<◌, ◌≤◌, ◌==◌, List, [], ◌∷◌, ◌++◌, length, take, drop, set, get_or, slice_range, refl, sym, ap, subst, ◌∙◌, arith, ◌⊎◌, ⊎_elim, inl, inr, length-append, length-set, cond, get_or-set_same, get_or-set_other, Contains, nat_lt, sum_by, count_by}
use Rattle.std.proofs.lemmas.List.{take_more, take_all, append-nil, drop_all, take_more_set, take-set-le, get_or-take, get_or_default}
use Rattle.std.proofs.lemmas.List.Sums.{sum_by-append, sum_by-cons, sum_by-take-le, sum_by_more, count_by_more_yes, count_by-le-length}
use Rattle.std.proofs.lemmas.List.Elements.{Contains-append_left, Contains-append_right, Contains-append_cases, Contains-push, Contains-push_cases}
use Rattle.lift_model.specs.Before.{at, count_of, part, AreSums, ArePlaced, HaveRoom, HasLast, IsUpTo, IsListed, IsNoted, AreEntered, AreListed, targets_from}

pub none_in : {X : Type 0} (x : X) → Contains [] x → ⊥
none_in x (k, lt, e) = absurd (omega (arith, lt))

-- ---- prefixes and parts

pub in_first : {X : Type 0} (xs ys : List X) (i : ℕ) (d : X) → i < length xs → get_or (xs ++ ys) i d ≡ get_or xs i d
in_first [] ys i d lt = absurd (omega arith)
in_first (x ∷ xs) ys zero d lt = refl
in_first (x ∷ xs) ys (suc i) d lt = in_first xs ys i d (omega arith)

pub at_seam : {X : Type 0} (xs : List X) (y d : X) → get_or (xs ++ (y ∷ [])) (length xs) d ≡ y
at_seam [] y d = refl
at_seam (x ∷ xs) y d = at_seam xs y d

-- one more sum
pub sums_more : (starts counts : List ℕ) (i s n : ℕ) → n ≡ s + at counts i → at starts i ≡ s → AreSums starts counts i → AreSums (starts ++ (n ∷ [])) counts (i + 1) × (at (starts ++ (n ∷ [])) (i + 1) ≡ n)
sums_more starts counts i s n is last h =
    let seam : at (starts ++ (n ∷ [])) (i + 1) ≡ n = ap (λ k. get_or (starts ++ (n ∷ [])) k 0) (sym h.count) ∙ at_seam starts n 0 in
    let kept : (u : ℕ) → u ≤ i → at (starts ++ (n ∷ [])) u ≡ at starts u = λ u le. in_first starts (n ∷ []) u 0 (omega (arith, le, h.count)) in (
      record {
        count = length-append starts (n ∷ []) ∙ omega (arith, h.count);
        sums = λ u lt. ⊎_elim
            (λ (before : u < i). omega (arith, kept (u + 1) (omega (arith, before)), kept u (omega (arith, before)), h.sums u before))
            (λ (here : u ≡ i). rw here (omega (arith, seam, kept i (omega arith), last, is)))
            (let split : (u < i) ⊎ (u ≡ i) = grind (arith, lt) in split);
      },
      seam,
    )

-- a part, one longer
grown : (xs : List ℕ) (a n i y : ℕ) → i ≡ a + n → i < length xs → take (n + 1) (drop a (set xs i y)) ≡ take n (drop a xs) ++ (y ∷ [])
grown [] a n i y e lt = absurd (omega (arith, lt))
grown (x ∷ xs) zero n i y e lt = let f : i ≡ n = omega (arith, e) in let within : n < length (x ∷ xs) = omega (arith, e, lt) in rw f (take_more_set (x ∷ xs) n y within)
grown (x ∷ xs) (suc a) n zero y e lt = absurd (omega (arith, e))
grown (x ∷ xs) (suc a) n (suc i) y e lt = grown xs a n i y (omega (arith, e)) (omega (arith, lt))

-- a part that ends before a write, or begins behind it
kept_before : (xs : List ℕ) (a n i y : ℕ) → a + n ≤ i → take n (drop a (set xs i y)) ≡ take n (drop a xs)
kept_before xs zero n i y le = take-set-le n xs i y (omega (arith, le))
kept_before [] (suc a) n i y le = refl
kept_before (x ∷ xs) (suc a) n zero y le = absurd (omega (arith, le))
kept_before (x ∷ xs) (suc a) n (suc i) y le = kept_before xs a n i y (omega (arith, le))

kept_behind : (xs : List ℕ) (a n i y : ℕ) → i < a → take n (drop a (set xs i y)) ≡ take n (drop a xs)
kept_behind xs zero n i y lt = absurd (omega (arith, lt))
kept_behind [] (suc a) n i y lt = refl
kept_behind (x ∷ xs) (suc a) n zero y lt = refl
kept_behind (x ∷ xs) (suc a) n (suc i) y lt = kept_behind xs a n i y (omega (arith, lt))

pub get_or-part : (xs : List ℕ) (a n k d : ℕ) → k < n → get_or (take n (drop a xs)) k d ≡ get_or xs (a + k) d
get_or-part xs zero n k d lt = get_or-take n xs k d lt ∙ ap (λ i. get_or xs i d) (let e : k ≡ 0 + k = omega arith in e)
get_or-part [] (suc a) zero k d lt = absurd (omega (arith, lt))
get_or-part [] (suc a) (suc n) k d lt = refl
get_or-part (x ∷ xs) (suc a) n k d lt = get_or-part xs a n k d lt ∙ ap (λ i. get_or (x ∷ xs) i d) (let e : suc (a + k) ≡ suc a + k = omega arith in e)

pub length-part : (xs : List ℕ) (a n : ℕ) → a + n ≤ length xs → length (take n (drop a xs)) ≡ n
length-part xs zero n le = size n xs (omega (arith, le))
  where
    size : (n : ℕ) (xs : List ℕ) → n ≤ length xs → length (take n xs) ≡ n
    size zero xs le = refl
    size (suc n) [] le = absurd (omega (arith, le))
    size (suc n) (x ∷ xs) le = ap suc (size n xs (omega (arith, le)))
length-part [] (suc a) n le = absurd (omega (arith, le))
length-part (x ∷ xs) (suc a) n le = length-part xs a n (omega (arith, le))

-- a prefix, and the part behind it
pub take_then : {X : Type 0} (xs : List X) (a b : ℕ) → a ≤ b → take b xs ≡ take a xs ++ slice_range xs a b
take_then xs zero b le = ap (λ n. take n xs) (let e : b ≡ b - 0 = omega arith in e)
take_then [] (suc a) zero le = absurd (omega (arith, le))
take_then [] (suc a) (suc b) le = sym (nothing (suc b - suc a))
  where
    nothing : {X : Type 0} (n : ℕ) → take {A = X} n [] ≡ []
    nothing zero = refl
    nothing (suc n) = refl
take_then (x ∷ xs) (suc a) zero le = absurd (omega (arith, le))
take_then (x ∷ xs) (suc a) (suc b) le = ap (λ l. x ∷ l) (take_then xs a b (omega (arith, le)) ∙ ap (λ n. take a xs ++ take n (drop a xs)) (let e : b - a ≡ suc b - suc a = omega arith in e))

-- ---- one list

-- the last of a list that isn't s
listed_push : (list : List ℕ) (s : ℕ) → ((k : ℕ) → k + 1 ≡ length list → get_or list k 0 ≢ s) → IsListed list (list ++ (s ∷ [])) s
listed_push list s last = record {
  kept = λ t h. Contains-append_left list (s ∷ []) t h;
  listed = Contains-push list s;
  only = λ t h. ⊎_elim (λ (old : Contains list t). inl old) (λ (e : s ≡ t). inr (sym e)) (Contains-push_cases list s t h);
  ascending = λ h. (λ k lt. rising h k lt, λ i d lt. bounded h i d lt);
}
  where
    either : (k : ℕ) → k + 1 < length (list ++ (s ∷ [])) → (k + 1 < length list) ⊎ (k + 1 ≡ length list)
    either k lt = let e = length-append list (s ∷ []) in grind (arith, e)

    rising : IsUpTo s list → (k : ℕ) → k + 1 < length (list ++ (s ∷ [])) → get_or (list ++ (s ∷ [])) k 0 < get_or (list ++ (s ∷ [])) (k + 1) 0
    rising h k lt = ⊎_elim
        (λ (inner : k + 1 < length list). rw (in_first list (s ∷ []) k 0 (omega (arith, inner)), in_first list (s ∷ []) (k + 1) 0 inner) (h.0 k inner))
        (λ (e : k + 1 ≡ length list).
        let le : get_or list k 0 ≤ s = h.1 k 0 (omega (arith, e)) in
        let ne = last k e in
        let lt : get_or list k 0 < s = grind (arith, le, ne) in
        rw (in_first list (s ∷ []) k 0 (omega (arith, e)), e, at_seam list s 0) lt)
        (either k lt)

    side : (i : ℕ) → i < length (list ++ (s ∷ [])) → (i < length list) ⊎ (i ≡ length list)
    side i lt = let e = length-append list (s ∷ []) in grind (arith, e)

    bounded : IsUpTo s list → (i d : ℕ) → i < length (list ++ (s ∷ [])) → get_or (list ++ (s ∷ [])) i d ≤ s
    bounded h i d lt = ⊎_elim
        (λ (inner : i < length list). rw (in_first list (s ∷ []) i d inner) (h.1 i d inner))
        (λ (e : i ≡ length list). rw (e, at_seam list s d) (omega arith))
        (side i lt)

-- ---- the lists of some targets

same_or_not : (i j : ℕ) → (i ≡ j) ⊎ (i ≢ j)
same_or_not i j = grind arith

only_one : (x y : ℕ) → Contains (x ∷ []) y → x ≡ y
only_one x y g = ⊎_elim (λ (none : Contains [] y). absurd (none_in y none)) (λ (e : x ≡ y). e) (Contains-push_cases [] x y g)

-- s stands at the end of its target's list already
noted_already : (n : ℕ) (lists : ℕ → List ℕ) (s target : ℕ) → Contains (lists target) s → IsNoted n lists lists s (target ∷ [])
noted_already n lists s target there = record {
  kept = λ i t lt h. h;
  listed = λ i lt h. subst (λ j. Contains (lists j) s) (only_one target i h) there;
  only = λ i t lt h. inl h;
  ascending = λ i lt h. h;
}

noted_one : (n : ℕ) (old new : ℕ → List ℕ) (s target : ℕ) → IsListed (old target) (new target) s → ((i : ℕ) → i < n → i ≢ target → new i ≡ old i) → IsNoted n old new s (target ∷ [])
noted_one n old new s target here others = record {
  kept = λ i t lt h. ⊎_elim
      (λ (e : i ≡ target). subst (λ j. Contains (new j) t) (sym e) (here.kept t (subst (λ j. Contains (old j) t) e h)))
      (λ (ne : i ≢ target). subst (λ l. Contains l t) (sym (others i lt ne)) h)
      (same_or_not i target);
  listed = λ i lt h. subst (λ j. Contains (new j) s) (only_one target i h) here.listed;
  only = λ i t lt h. ⊎_elim
      (λ (e : i ≡ target).
      ⊎_elim
      (λ (was : Contains (old target) t). inl (subst (λ j. Contains (old j) t) (sym e) was))
      (λ (is : t ≡ s). inr (is, subst (λ j. Contains (target ∷ []) j) (sym e) (Contains-push [] target)))
      (here.only t (subst (λ j. Contains (new j) t) e h)))
      (λ (ne : i ≢ target). inl (subst (λ l. Contains l t) (others i lt ne) h))
      (same_or_not i target);
  ascending = λ i lt h. ⊎_elim
      (λ (e : i ≡ target). subst (λ j. IsUpTo s (new j)) (sym e) (here.ascending (subst (λ j. IsUpTo s (old j)) e h)))
      (λ (ne : i ≢ target). subst (IsUpTo s) (sym (others i lt ne)) h)
      (same_or_not i target);
}

noted_then : (n : ℕ) (a b c : ℕ → List ℕ) (s : ℕ) (xs ys : List ℕ) → IsNoted n a b s xs → IsNoted n b c s ys → IsNoted n a c s (xs ++ ys)
noted_then n a b c s xs ys h g = record {
  kept = λ i t lt old. g.kept i t lt (h.kept i t lt old);
  listed = λ i lt there. ⊎_elim
      (λ (first : Contains xs i). g.kept i s lt (h.listed i lt first))
      (λ (second : Contains ys i). g.listed i lt second)
      (Contains-append_cases xs ys i there);
  only = λ i t lt new. ⊎_elim
      (λ (old : Contains (b i) t). ⊎_elim
      (λ (older : Contains (a i) t). inl older)
      (λ (here : (t ≡ s) × Contains xs i). inr (here.0, Contains-append_left xs ys i here.1))
      (h.only i t lt old))
      (λ (here : (t ≡ s) × Contains ys i). inr (here.0, Contains-append_right xs ys i here.1))
      (g.only i t lt new);
  ascending = λ i lt old. g.ascending i lt (h.ascending i lt old);
}

-- ---- entering

-- the last of a part is in it
last_in : (states : List ℕ) (start end s : ℕ) → end ≤ length states → HasLast states start end s → Contains (slice_range states start end) s
last_in states start end s le h =
    let some = h.some in (
      end - start - 1,
      (let size = length-part states start (end - start) (omega (arith, le, some)) in omega (arith, size, some)),
      get_or-part states start (end - start) (end - start - 1) s (omega (arith, some))
          ∙ ap (λ i. get_or states i s) (let e : start + (end - start - 1) ≡ end - 1 = omega (arith, some) in e)
          ∙ get_or_default states (end - 1) s 0 (omega (arith, some, le))
          ∙ h.last (end - 1) (omega (arith, some)),
    )

pub entered_already : (starts ends states : List ℕ) (n target s : ℕ) → ArePlaced starts ends (length states) n → target < n → HasLast states (at starts target) (at ends target) s → AreEntered starts ends states ends states n s (target ∷ [])
entered_already starts ends states n target s placed inside last = record {
  placed = placed;
  grown = λ u lt. omega arith;
  noted = noted_already n (part starts ends states) s target (last_in states (at starts target) (at ends target) s (end_inside target inside) last);
}
  where
    end_inside : (u : ℕ) → u < n → at ends u ≤ length states
    end_inside u lt = omega (arith, (placed.parts u lt).1, placed.rising (u + 1) n (omega (arith, lt)) (omega arith), placed.inside)

count_of-one : (t : ℕ) → count_of t (t ∷ []) ≡ 1
count_of-one t = count_by_more_yes (λ u. u == t) (t ∷ []) 0 0 (omega arith) (grind arith)

pub entered_new : (starts ends states : List ℕ) (n target s : ℕ) → ArePlaced starts ends (length states) n → target < n → at ends target < at starts (target + 1) → (HasLast states (at starts target) (at ends target) s → ⊥)
    → AreEntered starts ends states (set ends target (at ends target + 1)) (set states (at ends target) s) n s (target ∷ [])
entered_new starts ends states n target s placed inside room other = record {
  placed = record {
    counts = (placed.counts.0, rw length-set placed.counts.1);
    rising = placed.rising;
    inside = rw length-set placed.inside;
    parts = λ u lt. ⊎_elim
        (λ (e : u ≡ target). rw (e, here) (omega (arith, (placed.parts target inside).0), omega (arith, room)))
        (λ (ne : u ≢ target). rw (elsewhere u ne) (placed.parts u lt))
        (same_or_not u target);
  };
  grown = λ u lt. ⊎_elim
      (λ (e : u ≡ target). rw (e, here, count_of-one target) (omega arith))
      (λ (ne : u ≢ target). rw (elsewhere u ne) (omega arith))
      (same_or_not u target);
  noted = noted_one n (part starts ends states) (part starts (set ends target (at ends target + 1)) (set states (at ends target) s)) s target listed others;
}
  where
    sized : target < length ends
    sized = omega (arith, inside, placed.counts.1)

    here : at (set ends target (at ends target + 1)) target ≡ at ends target + 1
    here = let lt = sized in rw get_or-set_same refl

    elsewhere : (u : ℕ) → u ≢ target → at (set ends target (at ends target + 1)) u ≡ at ends u
    elsewhere u ne = rw get_or-set_other refl

    end_inside : at ends target < length states
    end_inside = omega (arith, room, placed.rising (target + 1) n (omega (arith, inside)) (omega arith), placed.inside)

    new_part : part starts (set ends target (at ends target + 1)) (set states (at ends target) s) target ≡ part starts ends states target ++ (s ∷ [])
    new_part =
        let low = (placed.parts target inside).0 in
        ap (λ n. take n (drop (at starts target) (set states (at ends target) s))) (let e : at (set ends target (at ends target + 1)) target - at starts target ≡ at ends target - at starts target + 1 = omega (arith, here, low) in e)
        ∙ grown states (at starts target) (at ends target - at starts target) (at ends target) s (omega (arith, low)) end_inside

    listed : IsListed (part starts ends states target) (part starts (set ends target (at ends target + 1)) (set states (at ends target) s) target) s
    listed =
        let low = (placed.parts target inside).0 in
        let size = length-part states (at starts target) (at ends target - at starts target) (omega (arith, low, end_inside)) in
        rw new_part (listed_push (part starts ends states target) s (λ k e is. other (record {
          some = omega (arith, size, e, low);
          last = λ i end. ap (λ j. at states j) (let same : i ≡ at starts target + k = omega (arith, size, e, low, end) in same) ∙ sym (get_or-part states (at starts target) (at ends target - at starts target) k 0 (omega (arith, size, e))) ∙ is;
        })))

    others : (u : ℕ) → u < n → u ≢ target → part starts (set ends target (at ends target + 1)) (set states (at ends target) s) u ≡ part starts ends states u
    others u lt ne =
        let mine = placed.parts u lt in
        let its = placed.parts target inside in
        rw (elsewhere u ne) (⊎_elim
        (λ (less : u < target). kept_before states (at starts u) (at ends u - at starts u) (at ends target) s (omega (arith, mine.0, mine.1, its.0, placed.rising (u + 1) target (omega (arith, less)) (omega (arith, inside)))))
        (λ (more : target < u). kept_behind states (at starts u) (at ends u - at starts u) (at ends target) s (omega (arith, room, placed.rising (target + 1) u (omega (arith, more)) (omega (arith, lt)))))
        (apart u ne))
      where
        apart : (u : ℕ) → u ≢ target → (u < target) ⊎ (target < u)
        apart u ne = grind arith

pub entered_then : (starts e0 x0 e1 x1 e2 x2 : List ℕ) (n s : ℕ) (xs ys : List ℕ) → AreEntered starts e0 x0 e1 x1 n s xs → AreEntered starts e1 x1 e2 x2 n s ys → AreEntered starts e0 x0 e2 x2 n s (xs ++ ys)
entered_then starts e0 x0 e1 x1 e2 x2 n s xs ys h g = record {
  placed = g.placed;
  grown = λ u lt. omega (arith, h.grown u lt, g.grown u lt, sum_by-append (λ (t : ℕ). cond (t == u) 1 0) xs ys);
  noted = noted_then n (part starts e0 x0) (part starts e1 x1) (part starts e2 x2) s xs ys h.noted g.noted;
}

-- a loop's step: one target more
pub entered_more : (starts e0 x0 e1 x1 e2 x2 : List ℕ) (n s i t : ℕ) (targets : List ℕ) → i < length targets → t ≡ get_or targets i 0 → AreEntered starts e0 x0 e1 x1 n s (take i targets) → AreEntered starts e1 x1 e2 x2 n s (t ∷ []) → AreEntered starts e0 x0 e2 x2 n s (take (i + 1) targets)
entered_more starts e0 x0 e1 x1 e2 x2 n s i t targets lt is h g =
    rw (take_more targets i 0 lt, ← is) (entered_then starts e0 x0 e1 x1 e2 x2 n s (take i targets) (t ∷ []) h g)

-- so far there was room for one more
pub room_left : (u i : ℕ) (targets : List ℕ) → i < length targets → get_or targets i 0 ≡ u → count_of u (take i targets) + 1 ≤ count_of u targets
room_left u i targets lt is =
    omega (arith, count_by_more_yes (λ t. t == u) targets i 0 lt (grind (arith, is)), sum_by-take-le (λ (t : ℕ). cond (t == u) 1 0) targets (i + 1))

-- ---- all states

-- what is counted before a state's targets, with these
pub counted_then : (u a b : ℕ) (targets : List ℕ) → a ≤ b → count_of u (take b targets) ≡ count_of u (take a targets) + count_of u (slice_range targets a b)
counted_then u a b targets le = rw (take_then targets a b le) (sum_by-append (λ (t : ℕ). cond (t == u) 1 0) (take a targets) (slice_range targets a b))

pub counted_most : (u b : ℕ) (targets : List ℕ) → count_of u (take b targets) ≤ count_of u targets
counted_most u b targets = sum_by-take-le (λ (t : ℕ). cond (t == u) 1 0) targets b

pub listed_none : (n : ℕ) (targets cuts starts ends states : List ℕ) → ((u : ℕ) → u < n → at ends u ≡ at starts u) → AreListed n targets cuts (part starts ends states) 0
listed_none n targets cuts starts ends states empty = record {
  ascending = λ i lt. rw (none i lt) (λ k less. absurd (omega (arith, less)), λ k d less. absurd (omega (arith, less)));
  only = λ i t lt there. absurd (none_in t (subst (λ list. Contains list t) (none i lt) there));
  all = λ i t lt before there. absurd (omega (arith, before));
}
  where
    none : (i : ℕ) → i < n → part starts ends states i ≡ []
    none i lt = ap (λ m. take m (drop (at starts i) states)) (let e : at ends i - at starts i ≡ 0 = omega (arith, empty i lt) in e)

pub listed_state : (n : ℕ) (targets cuts : List ℕ) (old new : ℕ → List ℕ) (s : ℕ) → AreListed n targets cuts old s → IsNoted n old new s (targets_from targets cuts s) → AreListed n targets cuts new (s + 1)
listed_state n targets cuts old new s h g = record {
  ascending = λ i lt. let up = g.ascending i lt ((h.ascending i lt).0, λ j d less. omega (arith, (h.ascending i lt).1 j d less)) in (up.0, λ j d less. omega (arith, up.1 j d less));
  only = λ i t lt there. ⊎_elim
      (λ (was : Contains (old i) t). let before = h.only i t lt was in (omega (arith, before.0), before.1))
      (λ (here : (t ≡ s) × Contains (targets_from targets cuts s) i). (omega (arith, here.0), subst (λ u. Contains (targets_from targets cuts u) i) (sym here.0) here.1))
      (g.only i t lt there);
  all = λ i t lt before leads. ⊎_elim
      (λ (less : t < s). g.kept i t lt (h.all i t lt less leads))
      (λ (here : t ≡ s). rw here (g.listed i lt (subst (λ u. Contains (targets_from targets cuts u) i) here leads)))
      (split t before);
}
  where
    split : (t : ℕ) → t < s + 1 → (t < s) ⊎ (t ≡ s)
    split t lt = grind arith

-- a vector's elements where a slice of all of them was written back
pub written_back : {X : Type 0} (len : ℕ) (new items : List X) → length items ≡ length new → len ≡ length new → take len (new ++ drop (length new) items) ≡ new
written_back len new items same size =
    ap (λ rest. take len (new ++ rest)) (drop_all (length new) items (omega (arith, same))) ∙ ap (take len) (append-nil new) ∙ take_all len new (omega (arith, size))

-- ---- rooms

-- how many numbers are less
abbrev less : ℕ → List ℕ → ℕ
less u targets = count_by (λ t. nat_lt t u) targets

less_more : (u : ℕ) (targets : List ℕ) → less (u + 1) targets ≡ less u targets + count_of u targets
less_more u [] = refl
less_more u (t ∷ targets) = rw (sum_by-cons (λ (t : ℕ). cond (nat_lt t (u + 1)) 1 0) t targets, sum_by-cons (λ (t : ℕ). cond (nat_lt t u) 1 0) t targets, sum_by-cons (λ (t : ℕ). cond (t == u) 1 0) t targets) (omega (arith, less_more u targets, here))
  where
    here : cond {A = ℕ} (nat_lt t (u + 1)) 1 0 ≡ cond (nat_lt t u) 1 0 + cond (t == u) 1 0
    here = grind arith

none_less : (targets : List ℕ) → less 0 targets ≡ 0
none_less [] = refl
none_less (t ∷ targets) = rw (sum_by-cons (λ (t : ℕ). cond (nat_lt t 0) 1 0) t targets) (omega (arith, none_less targets, here))
  where
    here : cond {A = ℕ} (nat_lt t 0) 1 0 ≡ 0
    here = grind arith

-- the counts of all numbers together
pub counted_all : (counts targets : List ℕ) → ((u : ℕ) → u < length counts → at counts u ≡ count_of u targets) → sum_by (λ (c : ℕ). c) counts ≤ length targets
counted_all counts targets counted =
    omega (arith, ap (sum_by (λ (c : ℕ). c)) (let all : take (length counts) counts ≡ counts = take_all (length counts) counts (omega arith) in all), so_far (length counts) (omega arith), count_by-le-length (λ t. nat_lt t (length counts)) targets)
  where
    so_far : (n : ℕ) → n ≤ length counts → sum_by (λ (c : ℕ). c) (take n counts) ≡ less n targets
    so_far zero le = sym (none_less targets)
    so_far (suc n) le =
        let lt : n < length counts = omega (arith, le) in
        let next : suc n ≡ n + 1 = omega arith in
        rw next (omega (arith, sum_by_more (λ (c : ℕ). c) counts n 0 lt, so_far n (omega (arith, le)), less_more n targets, counted n lt))

module _ (starts counts : List ℕ) (n : ℕ) (sums : AreSums starts counts n) where
  sums_rising : (u v : ℕ) → u ≤ v → v ≤ n → at starts u ≤ at starts v
  sums_rising u zero le inside = let e : u ≡ 0 = omega (arith, le) in rw e (omega arith)
  sums_rising u (suc v) le inside = ⊎_elim
      (λ (less : u ≤ v). omega (arith, sums_rising u v less (omega (arith, inside)), next v (omega (arith, inside))))
      (λ (same : u ≡ suc v). rw same (omega arith))
      (split u v le)
    where
      split : (u v : ℕ) → u ≤ suc v → (u ≤ v) ⊎ (u ≡ suc v)
      split u v le = grind arith

      next : (v : ℕ) → v < n → at starts v ≤ at starts (suc v)
      next v lt = omega (arith, sums.sums v lt, ap (at starts) (let e : suc v ≡ v + 1 = omega arith in e))

  pub sources_placed : (ends : List ℕ) (size : ℕ) → ends ≡ take n starts → at starts n ≤ size → ArePlaced starts ends size n
  sources_placed ends size is inside = record {
    counts = (omega (arith, sums.count), ap (length {A = ℕ}) is ∙ length-part starts 0 n (omega (arith, sums.count)));
    rising = sums_rising;
    inside = inside;
    parts = λ u lt. (omega (arith, same u lt), omega (arith, same u lt, sums_rising u (u + 1) (omega arith) (omega (arith, lt))));
  }
    where
      same : (u : ℕ) → u < n → at ends u ≡ at starts u
      same u lt = ap (λ l. at l u) is ∙ get_or-take n starts u 0 lt

  pub sources_room : (ends targets : List ℕ) → ends ≡ take n starts → ((u : ℕ) → u < n → at counts u ≡ count_of u targets) → HaveRoom starts ends n targets
  sources_room ends targets is counted = λ u lt. omega (arith, ap (λ l. at l u) is, get_or-take n starts u 0 lt, counted u lt, sums.sums u lt)
