-- Touched states that get their labels, one after another.
use Rattle.std.proofs.Common.{◌≡◌, ◌≢◌, ◌⊎◌, inl, inr, ⊎_elim, ℕ, zero, suc, ◌+◌, ◌-◌, ◌/◌, ◌^◌, ◌<◌, ◌≤◌, Bool, true, false, List, [], ◌∷◌, ◌++◌, length, set, All, Contains, refl, sym, ap, ◌∙◌, subst, arith}
use Rattle.std.proofs.Math.Nat.{div-mul-le_self}
use Rattle.std.proofs.lemmas.Nat.{le-div}
use Rattle.std.proofs.lemmas.List.{length-set, length_push, get_or-set_same, get_or-set_other, get_or_append_left, get_or_push, get_or_past, get_or_default}
use Rattle.std.proofs.lemmas.List.Elements.{Contains-append_left, Contains-push}
use Rattle.lift_lump.specs.Search.{number_at}
use Rattle.lift_lump.specs.declared.touch.Touched.{Touched}
use Rattle.lift_lump.specs.Renaming.{no_touched, key_at, block_at, state_at, StandsIn, AreSortedKeys, HaveOneKey, AreKeyed, AreRenamed, IsRun}
use Rattle.lift_lump.specs.Splitting.{list_of, AreUsed, AreListed, AreListedBut, HaveRest, IsLeft, IsBegun}
use Rattle.lift_lump.proofs.Holders.{contains_set, contains_at}
use Rattle.lift_lump.proofs.Renaming.{renamed_more, renamed_none, last_more, stands}
use Rattle.lift_lump.proofs.Sides.{side, same_or_not}

pub blocks_rise : (touched : List Touched) → AreSortedKeys touched → (i j : ℕ) → i ≤ j → j < length touched → block_at touched i ≤ block_at touched j
blocks_rise touched sorted i j le lt =
    let rises = sorted i j le lt in
    let floor = div-mul-le_self (key_at touched i) (2 ^ 64) in
    le-div (block_at touched i) (key_at touched j) (2 ^ 64) (omega arith) (omega (arith, rises, floor))

-- a run begins at a place
abbrev pub Begins : List Touched → ℕ → Type 0
Begins touched i = (j : ℕ) → j + 1 ≡ i → key_at touched j ≢ key_at touched i

-- a block begins at a place
abbrev pub BeginsBlock : List Touched → ℕ → Type 0
BeginsBlock touched i = (j : ℕ) → j + 1 ≡ i → block_at touched j ≢ block_at touched i

-- the state at a place is of the run before it
abbrev pub Follows : List Touched → ℕ → Type 0
Follows touched i = (0 < i) × (key_at touched (i - 1) ≡ key_at touched i)

-- the run that keeps the label of the block of a place
pub record IsKeeper (touched : List Touched) (labels : List ℕ) (j name keeper : ℕ) : Type 0 where
  pub inside : keeper < length touched
  pub block : block_at touched keeper ≡ block_at touched j
  pub begins : Begins touched keeper
  pub label : number_at labels (state_at touched keeper) ≡ block_at touched j
  pub run : key_at touched j ≡ key_at touched keeper → name ≡ block_at touched j

-- how a name comes about at a place
pub record IsName (touched : List Touched) (members opened : List (List ℕ)) (i keeper own last name : ℕ) (is_new : Bool) : Type 0 where
  pub new : is_new ≡ true → (i ≢ keeper) × Begins touched i × (name ≡ length members) × (opened ≡ members ++ [] ∷ [])
  pub other : is_new ≡ false → (i ≢ keeper → Follows touched i) × (Begins touched i → name ≡ own) × (Follows touched i → name ≡ last) × (opened ≡ members)

module _ (touched : List Touched) (old : List ℕ) (before : List (List ℕ)) where
  -- what holds once the states at the first places, so many, have their labels
  pub record AreRegrouped (i name keeper : ℕ) (labels : List ℕ) (members : List (List ℕ)) : Type 0 where
    pub renamed : AreRenamed touched old labels i
    pub last : (j : ℕ) → j + 1 ≡ i → number_at labels (state_at touched j) ≡ name
    pub name_in : 0 < i → name < length members
    pub grown : length before ≤ length members
    pub new_used : (l : ℕ) → length before ≤ l → l < length members → Contains labels l
    pub gone_used : (b : ℕ) → b < length before → list_of before b ≡ [] → Contains old b → Contains labels b
    pub kept : (l s : ℕ) → Contains (list_of before l) s → Contains (list_of members l) s
    pub here : (j : ℕ) → j < i → Contains (list_of members (number_at labels (state_at touched j))) (state_at touched j)
    pub whose : (j : ℕ) → j + 1 ≡ i → (name ≡ block_at touched j) ⊎ (length before ≤ name)
    pub lists : (b : ℕ) → b < length before → ((j : ℕ) → j < i → block_at touched j ≢ b) → list_of members b ≡ list_of before b
    pub keeper_is : (j : ℕ) → j + 1 ≡ i → list_of before (block_at touched j) ≡ [] → IsKeeper touched labels j name keeper
    pub more : 0 < i → IsBegun touched old before → length before < length members

  pub regrouped_none : (name keeper : ℕ) → AreRegrouped 0 name keeper old before
  regrouped_none name keeper = record {
    renamed = renamed_none touched old;
    last = λ j e. absurd (omega (arith, e));
    name_in = λ lt. absurd (omega (arith, lt));
    grown = omega arith;
    new_used = λ l le lt. absurd (omega (arith, le, lt));
    gone_used = λ b lt gone there. there;
    kept = λ l s there. there;
    here = λ j lt. absurd (omega (arith, lt));
    whose = λ j e. absurd (omega (arith, e));
    lists = λ b lt none. refl;
    keeper_is = λ j e. absurd (omega (arith, e));
    more = λ lt. absurd (omega (arith, lt));
  }

module _ (touched : List Touched) (old : List ℕ) (before : List (List ℕ)) (sorted : AreSortedKeys touched) (keys : HaveOneKey touched) (keyed : AreKeyed old touched) (states : All (λ (t : Touched). t.state < length old) touched) (below : All (λ l. l < length before) old)
    (used : AreUsed old (length before)) (rest : HaveRest old before touched) (listed : AreListedBut touched old before) where
  state_in : (i : ℕ) → i < length touched → state_at touched i < length old
  state_in i lt = states i no_touched lt

  block_in : (i : ℕ) → i < length touched → block_at touched i < length before
  block_in i lt = subst (λ b. b < length before) (sym (keyed i lt)) (below (state_at touched i) 0 (state_in i lt))

  -- two runs that begin with one key are one
  one_run : (i k : ℕ) → i < length touched → k < length touched → Begins touched i → Begins touched k → key_at touched i ≡ key_at touched k → i ≡ k
  one_run i k i_in k_in i_begins k_begins e = by (side i k) (side k i)
    where
      no : (a b : ℕ) → a < b → b < length touched → Begins touched b → key_at touched a ≡ key_at touched b → ⊥
      no a zero lt b_in begins same = omega (arith, lt)
      no a (suc b) lt b_in begins same =
          let low = sorted a b (omega (arith, lt)) (omega (arith, b_in)) in
          let high = sorted b (suc b) (omega arith) b_in in
          begins b (omega arith) (omega (arith, low, high, same))

      by : (i < k) ⊎ (k ≤ i) → (k < i) ⊎ (i ≤ k) → i ≡ k
      by (inl lt) _ = absurd (no i k lt k_in k_begins e)
      by (inr le) (inl lt) = absurd (no k i lt i_in i_begins (sym e))
      by (inr le) (inr ge) = omega (arith, le, ge)

  -- where a run begins, its states weren't met before
  is_fresh : (i k : ℕ) → k < length touched → i ≤ k → Begins touched k → (j : ℕ) → j < i → state_at touched j ≢ state_at touched k
  is_fresh i zero k_in le begins j lt e = omega (arith, lt, le)
  is_fresh i (suc k) k_in le begins j lt e =
      let same : key_at touched j ≡ key_at touched (suc k) = keys j (suc k) (omega (arith, lt, le, k_in)) k_in e in
      let low = sorted j k (omega (arith, lt, le)) (omega (arith, k_in)) in
      let high = sorted k (suc k) (omega arith) k_in in
      begins k (omega arith) (omega (arith, low, high, same))

  module _ (i name keeper : ℕ) (labels : List ℕ) (members : List (List ℕ)) (i_le : i ≤ length touched) (are : AreRegrouped touched old before i name keeper labels members) where
    -- each label but the spare one is still used
    pub still_used : AreUsed labels (length members)
    still_used = record { spare = used.spare; used = λ l lt ne. by l lt ne (side l (length before)) }
      where
        other : (l s : ℕ) → number_at old s ≡ l → s < length old → StandsIn touched s ⊎ ((j : ℕ) → j < length touched → state_at touched j ≢ s) → l < length before → Contains labels l
        other l s is s_in (inr none) lt = contains_at labels s l (omega (arith, s_in, are.renamed.size)) (are.renamed.others s (λ j j_in. none j (omega (arith, j_in, i_le))) ∙ is)
        other l s is s_in (inl there) lt = rest_of (rest s there)
          where
            rest_of : (list_of before (number_at old s) ≡ []) ⊎ IsLeft old touched (number_at old s) → Contains labels l
            rest_of (inl gone) = are.gone_used l lt (ap (list_of before) (sym is) ∙ gone) (contains_at old s l s_in is)
            rest_of (inr left) =
                let same : number_at labels left.state ≡ number_at old left.state = are.renamed.others left.state (λ j j_in e. left.untouched (j, omega (arith, j_in, i_le), e)) in
                contains_at labels left.state l (let inside = left.inside in omega (arith, inside, are.renamed.size)) (same ∙ left.label ∙ is)

        by : (l : ℕ) → l < length members → l ≢ used.spare → (l < length before) ⊎ (length before ≤ l) → Contains labels l
        by l lt ne (inr new) = are.new_used l new lt
        by l lt ne (inl less) =
            let there = used.used l less ne in
            other l there.0 (get_or_default old there.0 0 l there.1 ∙ there.2) there.1 (stands touched there.0 (length touched)) less

  module _ (i name keeper : ℕ) (labels : List ℕ) (members : List (List ℕ)) (i_in : i < length touched) (are : AreRegrouped touched old before i name keeper labels members) where
    abbrev s : ℕ
    s = state_at touched i

    pub s_in : s < length labels
    s_in = omega (arith, state_in i i_in, are.renamed.size)

    -- the list of the block is as it was, where the block begins
    pub own_list : BeginsBlock touched i → list_of members (block_at touched i) ≡ list_of before (block_at touched i)
    own_list begins = are.lists (block_at touched i) (block_in i i_in) (λ j lt e. later i begins i_in j lt e)
      where
        later : (k : ℕ) → BeginsBlock touched k → k < length touched → (j : ℕ) → j < k → block_at touched j ≢ block_at touched k
        later zero b k_in j lt e = omega (arith, lt)
        later (suc k) b k_in j lt e =
            let low = blocks_rise touched sorted j k (omega (arith, lt)) (omega (arith, k_in)) in
            let high = blocks_rise touched sorted k (suc k) (omega arith) k_in in
            b k (omega arith) (omega (arith, low, high, e))

    -- the state's own label, before it gets its name: that of its block, or the name, if it was met before
    own_label : (number_at labels s ≡ block_at touched i) ⊎ (Follows touched i × (number_at labels s ≡ name))
    own_label = by (stands touched s i)
      where
        visited : (j : ℕ) → j < i → state_at touched j ≡ s → (k : ℕ) → k + 1 ≡ i → Follows touched i × (number_at labels s ≡ name)
        visited j lt e k is =
            let same : key_at touched j ≡ key_at touched i = keys j i (omega (arith, lt, i_in)) i_in e in
            let low = sorted j k (omega (arith, lt, is)) (omega (arith, i_in, is)) in
            let high = sorted k i (omega (arith, is)) i_in in
            let last_same : key_at touched k ≡ key_at touched i = omega (arith, low, high, same) in (
              (omega (arith, is), ap (key_at touched) (let f : i - 1 ≡ k = omega (arith, is) in f) ∙ last_same),
              ap (number_at labels) (sym e) ∙ are.renamed.same j k lt (omega (arith, is)) (same ∙ sym last_same) ∙ are.last k is,
            )

        by : ((j : ℕ) × (j < i) × (state_at touched j ≡ s)) ⊎ ((j : ℕ) → j < i → state_at touched j ≢ s) → (number_at labels s ≡ block_at touched i) ⊎ (Follows touched i × (number_at labels s ≡ name))
        by (inr none) = inl (are.renamed.others s none ∙ sym (keyed i i_in))
        by (inl a) = inr (visited a.0 a.1 a.2 (i - 1) (let lt = a.1 in omega (arith, lt)))

    -- the state's own label at the beginning of a run is its block
    pub fresh_label : Begins touched i → number_at labels s ≡ block_at touched i
    fresh_label begins = are.renamed.others s (is_fresh i i i_in (omega arith) begins) ∙ sym (keyed i i_in)

    module _ (next next_keeper own : ℕ) (opened : List (List ℕ)) (is_new : Bool) (own_is : own ≡ number_at labels s) (named : IsName touched members opened i next_keeper own name next is_new)
        (same_keeper : (0 < i) → block_at touched (i - 1) ≡ block_at touched i → next_keeper ≡ keeper)
        (gone_keeper : BeginsBlock touched i → list_of members own ≡ [] → IsRun touched i next_keeper)
        (there_keeper : BeginsBlock touched i → 0 < length (list_of members own) → next_keeper ≡ length touched) where
      abbrev new : List ℕ
      new = set labels s next

      abbrev after : List (List ℕ)
      after = set opened next (list_of opened next ++ s ∷ [])

      -- ---- the name

      -- a new label, the block's for the run that keeps it, or that of the state before in a run
      abbrev Cases : Type 0
      Cases =
          (Begins touched i × (i ≢ next_keeper) × (next ≡ length members) × (opened ≡ members ++ [] ∷ []))
          ⊎ ((Begins touched i × (i ≡ next_keeper) × (next ≡ block_at touched i) × (opened ≡ members)) ⊎ (Follows touched i × (next ≡ name) × (opened ≡ members)))

      begins_or_follows : (k : ℕ) → k ≡ i → Begins touched i ⊎ Follows touched i
      begins_or_follows zero is = inl (λ j f. absurd (omega (arith, f, is)))
      begins_or_follows (suc k) is = of (same_or_not (key_at touched k) (key_at touched i))
        where
          of : (key_at touched k ≡ key_at touched i) ⊎ (key_at touched k ≢ key_at touched i) → Begins touched i ⊎ Follows touched i
          of (inl same) = inr (omega (arith, is), ap (key_at touched) (let f : i - 1 ≡ k = omega (arith, is) in f) ∙ same)
          of (inr ne) = inl (λ j f same. ne (ap (key_at touched) (let g : k ≡ j = omega (arith, f, is) in g) ∙ same))

      not_both : Begins touched i → Follows touched i → ⊥
      not_both begins follows = begins (i - 1) (let lt = follows.0 in omega (arith, lt)) follows.1

      cases : Cases
      cases = by is_new refl
        where
          other : (i ≡ next_keeper) ⊎ (i ≢ next_keeper) → Begins touched i ⊎ Follows touched i → is_new ≡ false → Cases
          other _ (inr follows) e = let n = named.other e in inr (inr (follows, n.2 follows, n.3))
          other (inl is) (inl begins) e = let n = named.other e in inr (inl (begins, is, n.1 begins ∙ own_is ∙ fresh_label begins, n.3))
          other (inr ne) (inl begins) e = let n = named.other e in absurd (not_both begins (n.0 ne))

          by : (b : Bool) → is_new ≡ b → Cases
          by true e = let n = named.new e in inl (n.1, n.0, n.2, n.3)
          by false e = other (same_or_not i next_keeper) (begins_or_follows i refl) e

      pub next_in : next < length opened
      next_in = by cases
        where
          by : Cases → next < length opened
          by (inl n) = let is = n.2 in let made = ap (length {A = List ℕ}) n.3 in omega (arith, is, made, length_push members [])
          by (inr (inl n)) = let is = n.2 in let made = ap (length {A = List ℕ}) n.3 in let low = block_in i i_in in let grown = are.grown in omega (arith, is, made, low, grown)
          by (inr (inr n)) = let is = n.1 in let made = ap (length {A = List ℕ}) n.2 in let low = are.name_in n.0.0 in omega (arith, is, made, low)

      opened_grown : length members ≤ length opened
      opened_grown = by cases
        where
          by : Cases → length members ≤ length opened
          by (inl n) = let made = ap (length {A = List ℕ}) n.3 in omega (arith, made, length_push members [])
          by (inr (inl n)) = let made = ap (length {A = List ℕ}) n.3 in omega (arith, made)
          by (inr (inr n)) = let made = ap (length {A = List ℕ}) n.2 in omega (arith, made)

      -- the lists of labels that were there
      opened_list : (l : ℕ) → list_of opened l ≡ list_of members l
      opened_list l = by cases
        where
          pushed : (l < length members) ⊎ (length members ≤ l) → list_of (members ++ [] ∷ []) l ≡ list_of members l
          pushed (inl lt) = get_or_append_left members ([] ∷ []) [] l lt
          pushed (inr past) = empty (same_or_not l (length members))
            where
              empty : (l ≡ length members) ⊎ (l ≢ length members) → list_of (members ++ [] ∷ []) l ≡ list_of members l
              empty (inl e) = get_or_push members [] [] l (sym e) ∙ sym (get_or_past members l [] past)
              empty (inr ne) = get_or_past (members ++ [] ∷ []) l [] (grind (arith, past, ne, length_push members [])) ∙ sym (get_or_past members l [] past)

          by : Cases → list_of opened l ≡ list_of members l
          by (inl n) = ap (λ (ms : List (List ℕ)). list_of ms l) n.3 ∙ pushed (side l (length members))
          by (inr (inl n)) = ap (λ (ms : List (List ℕ)). list_of ms l) n.3
          by (inr (inr n)) = ap (λ (ms : List (List ℕ)). list_of ms l) n.2

      -- ---- the lists

      put : list_of after next ≡ list_of opened next ++ s ∷ []
      put = get_or-set_same opened next (list_of opened next ++ s ∷ []) [] next_in

      stays : (l : ℕ) → l ≢ next → list_of after l ≡ list_of members l
      stays l ne = get_or-set_other opened next l (list_of opened next ++ s ∷ []) [] ne ∙ opened_list l

      still_there : (l x : ℕ) → Contains (list_of members l) x → Contains (list_of after l) x
      still_there l x there = by (same_or_not l next)
        where
          by : (l ≡ next) ⊎ (l ≢ next) → Contains (list_of after l) x
          by (inr ne) = subst (λ (xs : List ℕ). Contains xs x) (sym (stays l ne)) there
          by (inl e) =
              subst (λ (xs : List ℕ). Contains xs x) (sym (ap (list_of after) e ∙ put))
              (Contains-append_left (list_of opened next) (s ∷ []) x (subst (λ (xs : List ℕ). Contains xs x) (ap (list_of members) e ∙ sym (opened_list next)) there))

      after_length : length after ≡ length opened
      after_length = length-set opened next (list_of opened next ++ s ∷ [])

      -- ---- labels

      given : number_at new s ≡ next
      given = get_or-set_same labels s next 0 s_in

      label_stays : (x : ℕ) → x ≢ s → number_at new x ≡ number_at labels x
      label_stays x ne = get_or-set_other labels s x next 0 ne

      -- the keeper of the state's block
      keeper_now : list_of before (block_at touched i) ≡ [] → IsKeeper touched labels i next next_keeper
      keeper_now gone = by (begins_block i refl)
        where
          begins_block : (k : ℕ) → k ≡ i → BeginsBlock touched i ⊎ ((0 < i) × (block_at touched (i - 1) ≡ block_at touched i))
          begins_block zero is = inl (λ j f. absurd (omega (arith, f, is)))
          begins_block (suc k) is = of (same_or_not (block_at touched k) (block_at touched i))
            where
              of : (block_at touched k ≡ block_at touched i) ⊎ (block_at touched k ≢ block_at touched i) → BeginsBlock touched i ⊎ ((0 < i) × (block_at touched (i - 1) ≡ block_at touched i))
              of (inl same) = inr (omega (arith, is), ap (block_at touched) (let f : i - 1 ≡ k = omega (arith, is) in f) ∙ same)
              of (inr ne) = inl (λ j f same. ne (ap (block_at touched) (let g : k ≡ j = omega (arith, f, is) in g) ∙ same))

          -- the name in the keeper's run is the block's label
          in_run : Begins touched next_keeper → next_keeper < length touched → key_at touched i ≡ key_at touched next_keeper → (Follows touched i → name ≡ block_at touched i) → next ≡ block_at touched i
          in_run k_begins k_in same last = of cases
            where
              of : Cases → next ≡ block_at touched i
              of (inl n) = absurd (n.1 (one_run i next_keeper i_in k_in n.0 k_begins same))
              of (inr (inl n)) = n.2
              of (inr (inr n)) = n.1 ∙ last n.0

          first : BeginsBlock touched i → IsKeeper touched labels i next next_keeper
          first b =
              let begins : Begins touched i = λ j f same. b j f (ap (λ k. k / 2 ^ 64) same) in
              let own_block : own ≡ block_at touched i = own_is ∙ fresh_label begins in
              let run = gone_keeper b (ap (list_of members) own_block ∙ own_list b ∙ gone) in
              record {
                inside = run.inside;
                block = run.block;
                begins = run.begins;
                label = are.renamed.others (state_at touched next_keeper) (is_fresh i next_keeper run.inside run.behind run.begins) ∙ sym (keyed next_keeper run.inside) ∙ run.block;
                run = λ same. in_run run.begins run.inside same (λ follows. absurd (not_both begins follows));
              }

          later : (0 < i) × (block_at touched (i - 1) ≡ block_at touched i) → IsKeeper touched labels i next next_keeper
          later before_is =
              let positive = before_is.0 in
              let same = before_is.1 in
              let k_is = same_keeper positive same in
              let k = are.keeper_is (i - 1) (omega (arith, positive)) (ap (list_of before) same ∙ gone) in
              let k_in : next_keeper < length touched = subst (λ n. n < length touched) (sym k_is) k.inside in
              let k_begins : Begins touched next_keeper = subst (Begins touched) (sym k_is) k.begins in
              record {
                inside = k_in;
                block = ap (block_at touched) k_is ∙ k.block ∙ same;
                begins = k_begins;
                label = ap (λ n. number_at labels (state_at touched n)) k_is ∙ k.label ∙ same;
                run = λ key. in_run k_begins k_in key (λ follows. k.run (follows.1 ∙ key ∙ ap (key_at touched) k_is) ∙ same);
              }

          by : BeginsBlock touched i ⊎ ((0 < i) × (block_at touched (i - 1) ≡ block_at touched i)) → IsKeeper touched labels i next next_keeper
          by (inl b) = first b
          by (inr c) = later c

      pub regrouped_more : AreRegrouped touched old before (i + 1) next next_keeper new after
      regrouped_more = record {
        renamed = renamed_more touched sorted keys old labels i next i_in s_in are.renamed before_same;
        last = last_more touched sorted keys old labels i next i_in s_in are.renamed before_same;
        name_in = λ _. omega (arith, next_in, after_length);
        grown = let grown = are.grown in omega (arith, grown, opened_grown, after_length);
        new_used = λ l le lt. new_used l le (omega (arith, lt, after_length)) cases;
        gone_used = λ b b_in gone there. contains_set labels s next b s_in (are.gone_used b b_in gone there) (λ is. gone_used b gone is own_label);
        kept = λ l x there. still_there l x (are.kept l x there);
        here = λ j lt. here j lt (same_or_not (state_at touched j) s);
        whose = λ j e. subst (λ k. (next ≡ block_at touched k) ⊎ (length before ≤ next)) (let f : i ≡ j = omega (arith, e) in f) (whose cases);
        lists = λ b b_in none. stays b (λ e. not_next b b_in (λ f. none i (omega arith) (sym f)) (sym e) (whose cases)) ∙ are.lists b b_in (λ j lt. none j (omega (arith, lt)));
        keeper_is = λ j e gone. subst (λ k. IsKeeper touched new k next next_keeper) (let f : i ≡ j = omega (arith, e) in f) (keeper_new (subst (λ k. list_of before (block_at touched k) ≡ []) (let f : j ≡ i = omega (arith, e) in f) gone));
        more = λ _ begun. more begun (same_or_not i 0);
      }
        where
          before_same : (j : ℕ) → j + 1 ≡ i → key_at touched j ≡ key_at touched i → number_at labels (state_at touched j) ≡ next
          before_same j e same = of cases
            where
              of : Cases → number_at labels (state_at touched j) ≡ next
              of (inl n) = absurd (n.0 j e same)
              of (inr (inl n)) = absurd (n.0 j e same)
              of (inr (inr n)) = are.last j e ∙ sym n.1

          whose : Cases → (next ≡ block_at touched i) ⊎ (length before ≤ next)
          whose (inl n) = inr (let is = n.2 in let grown = are.grown in omega (arith, is, grown))
          whose (inr (inl n)) = inl n.2
          whose (inr (inr n)) =
              let positive = n.0.0 in
              ⊎_elim (λ (is : name ≡ block_at touched (i - 1)). inl (n.1 ∙ is ∙ ap (λ k. k / 2 ^ 64) n.0.1)) (λ (le : length before ≤ name). inr (let is = n.1 in omega (arith, is, le))) (are.whose (i - 1) (omega (arith, positive)))

          not_next : (b : ℕ) → b < length before → b ≢ block_at touched i → next ≡ b → (next ≡ block_at touched i) ⊎ (length before ≤ next) → ⊥
          not_next b b_in ne is (inl block) = ne (sym is ∙ block)
          not_next b b_in ne is (inr le) = omega (arith, b_in, is, le)

          new_used : (l : ℕ) → length before ≤ l → l < length opened → Cases → Contains new l
          new_used l le lt c = of c (same_or_not l next)
            where
              old_one : l < length members → Contains new l
              old_one l_in = contains_set labels s next l s_in (are.new_used l le l_in) (λ is. of_own is own_label)
                where
                  of_own : number_at labels s ≡ l → (number_at labels s ≡ block_at touched i) ⊎ (Follows touched i × (number_at labels s ≡ name)) → Contains new l
                  of_own is (inl block) = absurd (let low = block_in i i_in in let e : l ≡ block_at touched i = sym is ∙ block in omega (arith, le, low, e))
                  of_own is (inr follows) = of_name c
                    where
                      of_name : Cases → Contains new l
                      of_name (inl n) = absurd (not_both n.0 follows.0)
                      of_name (inr (inl n)) = absurd (not_both n.0 follows.0)
                      of_name (inr (inr n)) = contains_at new s l (omega (arith, s_in, length-set labels s next)) (given ∙ n.1 ∙ sym follows.1 ∙ is)

              of : Cases → (l ≡ next) ⊎ (l ≢ next) → Contains new l
              of _ (inl e) = contains_at new s l (omega (arith, s_in, length-set labels s next)) (given ∙ sym e)
              of (inl n) (inr ne) = old_one (let is = n.2 in let made = ap (length {A = List ℕ}) n.3 in grind (arith, is, made, lt, ne, length_push members []))
              of (inr (inl n)) (inr ne) = old_one (let made = ap (length {A = List ℕ}) n.3 in omega (arith, made, lt))
              of (inr (inr n)) (inr ne) = old_one (let made = ap (length {A = List ℕ}) n.2 in omega (arith, made, lt))

          gone_used : (b : ℕ) → list_of before b ≡ [] → number_at labels s ≡ b → (number_at labels s ≡ block_at touched i) ⊎ (Follows touched i × (number_at labels s ≡ name)) → Contains new b
          gone_used b gone is (inr follows) = of cases
            where
              of : Cases → Contains new b
              of (inl n) = absurd (not_both n.0 follows.0)
              of (inr (inl n)) = absurd (not_both n.0 follows.0)
              of (inr (inr n)) = contains_at new s b (omega (arith, s_in, length-set labels s next)) (given ∙ n.1 ∙ sym follows.1 ∙ is)
          gone_used b gone is (inl block) =
              let b_is : b ≡ block_at touched i = sym is ∙ block in
              of (keeper_now (ap (list_of before) (sym b_is) ∙ gone)) b_is
            where
              of : IsKeeper touched labels i next next_keeper → b ≡ block_at touched i → Contains new b
              of k b_is = kept (same_or_not (key_at touched i) (key_at touched next_keeper))
                where
                  kept : (key_at touched i ≡ key_at touched next_keeper) ⊎ (key_at touched i ≢ key_at touched next_keeper) → Contains new b
                  kept (inl same) = contains_at new s b (omega (arith, s_in, length-set labels s next)) (given ∙ k.run same ∙ sym b_is)
                  kept (inr ne) =
                      let inside : state_at touched next_keeper < length old = state_in next_keeper k.inside in
                      contains_at new (state_at touched next_keeper) b (omega (arith, inside, are.renamed.size, length-set labels s next))
                      (label_stays (state_at touched next_keeper) (λ e. ne (keys i next_keeper i_in k.inside (sym e))) ∙ k.label ∙ sym b_is)

          here : (j : ℕ) → j < i + 1 → (state_at touched j ≡ s) ⊎ (state_at touched j ≢ s) → Contains (list_of after (number_at new (state_at touched j))) (state_at touched j)
          here j lt (inl e) =
              subst (λ x. Contains (list_of after (number_at new x)) x) (sym e)
              (subst (λ l. Contains (list_of after l) s) (sym given) (subst (λ (xs : List ℕ). Contains xs s) (sym put) (Contains-push (list_of opened next) s)))
          here j lt (inr ne) =
              let less : j < i = grind (arith, lt, other j ne) in
              subst (λ l. Contains (list_of after l) (state_at touched j)) (sym (label_stays (state_at touched j) ne))
              (still_there (number_at labels (state_at touched j)) (state_at touched j) (are.here j less))
            where
              other : (k : ℕ) → state_at touched k ≢ s → k ≢ i
              other k differs e = differs (ap (state_at touched) e)

          keeper_new : list_of before (block_at touched i) ≡ [] → IsKeeper touched new i next next_keeper
          keeper_new gone = of (keeper_now gone)
            where
              of : IsKeeper touched labels i next next_keeper → IsKeeper touched new i next next_keeper
              of k = record { inside = k.inside; block = k.block; begins = k.begins; label = label (same_or_not (state_at touched next_keeper) s); run = k.run }
                where
                  label : (state_at touched next_keeper ≡ s) ⊎ (state_at touched next_keeper ≢ s) → number_at new (state_at touched next_keeper) ≡ block_at touched i
                  label (inl e) = ap (number_at new) e ∙ given ∙ k.run (keys i next_keeper i_in k.inside (sym e))
                  label (inr ne) = label_stays (state_at touched next_keeper) ne ∙ k.label

          more : IsBegun touched old before → (i ≡ 0) ⊎ (i ≢ 0) → length before < length after
          more begun (inr ne) = let less = are.more (grind (arith, ne)) begun in omega (arith, less, opened_grown, after_length)
          more begun (inl e) = of cases
            where
              b : BeginsBlock touched i
              b j f = absurd (omega (arith, f, e))

              begins : Begins touched i
              begins j f = absurd (omega (arith, f, e))

              list_is : list_of members own ≡ list_of before (number_at old (state_at touched 0))
              list_is =
                  ap (list_of members) (own_is ∙ fresh_label begins) ∙ own_list b ∙ ap (list_of before) (keyed i i_in ∙ ap (λ k. number_at old (state_at touched k)) e)

              keeper_out : next_keeper ≡ length touched
              keeper_out = there_keeper b (let some = begun.listed in let same = ap (length {A = ℕ}) list_is in omega (arith, some, same))

              of : Cases → length before < length after
              of (inl n) = let made = ap (length {A = List ℕ}) n.3 in let grown = are.grown in omega (arith, made, grown, after_length, length_push members [])
              of (inr (inl n)) = absurd (let is = n.1 in omega (arith, is, keeper_out, i_in))
              of (inr (inr n)) = absurd (not_both begins n.0)

  -- ---- at the end

  module _ (name keeper : ℕ) (labels : List ℕ) (members : List (List ℕ)) (are : AreRegrouped touched old before (length touched) name keeper labels members) where
    pub listed_again : AreListed labels members
    listed_again x lt = by (stands touched x (length touched)) (listed x (omega (arith, lt, are.renamed.size)))
      where
        by : StandsIn touched x ⊎ ((j : ℕ) → j < length touched → state_at touched j ≢ x) → Contains (list_of before (number_at old x)) x ⊎ StandsIn touched x → Contains (list_of members (number_at labels x)) x
        by (inl a) _ = subst (λ u. Contains (list_of members (number_at labels u)) u) a.2 (are.here a.0 a.1)
        by (inr none) (inl there) = subst (λ l. Contains (list_of members l) x) (sym (are.renamed.others x none)) (are.kept (number_at old x) x there)
        by (inr none) (inr a) = absurd (none a.0 a.1 a.2)
