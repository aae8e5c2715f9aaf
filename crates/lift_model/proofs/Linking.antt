-- The parts of the links of a model, put together.
use Rattle.std.proofs.Common.{◌≡◌, ℕ, zero, suc, ◌+◌, ◌-◌, ◌<◌, ◌≤◌, List, [], ◌∷◌, length, map, take, drop, slice_range, sum_by, slice_index_or, replicate, All, Contains, refl, sym, ap, subst, ◌∙◌, arith, ◌⊎◌, ⊎_elim, inl}
use Rattle.std.specs.List.{concat}
use Rattle.std.proofs.lemmas.List.{take_all, get_or_past, length-replicate, get_or-replicate}
use Rattle.std.proofs.lemmas.List.Elements.{All-contains}
use Rattle.std.proofs.lemmas.List.Sums.{sum_by_more, sum_by_more_le}
use Rattle.lift_model.specs.declared.layout.RowPlace.{RowPlace}
use Rattle.lift_model.specs.declared.layout.Layout.{Layout}
use Rattle.lift_model.specs.Model.{ModelData, choices}
use Rattle.lift_model.specs.Order.{IsOrder}
use Rattle.lift_model.specs.Links.{LinksData, ArePlaces, AreLinks, AreBefore, state_count, row_number, targets_of, position}
use Rattle.lift_model.specs.Layout.{IsLaid, AreRowStarts, AreCut}
use Rattle.lift_model.specs.Before.{at, part, AreCuts, AreSources, AreListed, AreFirst}
use Rattle.lift_model.specs.Stored.{AreStored}
use Rattle.lift_model.proofs.Listing.{none_in}

-- ---- the cuts

pub cuts_of : (m : ModelData) (starts targets : List ℕ) → AreCut m starts targets (length m.states) → AreCuts starts (length m.states) (length targets)
cuts_of m starts targets cut = record {
  count = cut.count;
  rising = λ s lt. ((cut.parts s lt).0, rises (length m.states - (s + 1)) (s + 1) (omega (arith, lt)));
}
  where
    rises : (n t : ℕ) → t + n ≡ length m.states → at starts t ≤ length targets
    rises zero t e = omega (arith, cut.last, ap (at starts) (let same : t ≡ length m.states = omega (arith, e) in same))
    rises (suc n) t e = omega (arith, (cut.parts t (omega (arith, e))).0, rises n (t + 1) (omega (arith, e)))

-- ---- the states before each state

listed_all : (m : ModelData) (starts targets : List ℕ) (lists : ℕ → List ℕ) → AreCut m starts targets (length m.states) → AreListed (length m.states) targets starts lists (length m.states) → (s : ℕ) → s < length m.states → AreBefore m s (lists s)
listed_all m starts targets lists cut listed s lt = record {
  ascending = (listed.ascending s lt).0;
  only = λ t there. let leads = listed.only s t lt there in subst (λ l. Contains l s) (cut.parts t leads.0).1 leads.1;
  all = λ t leads. ⊎_elim
      (λ (inside : t < length m.states). listed.all s t lt inside (subst (λ l. Contains l s) (sym (cut.parts t inside).1) leads))
      (λ (past : length m.states ≤ t). absurd (none_in s (subst (λ rows. Contains (concat (map targets_of rows)) s) (get_or_past m.states t [] past) leads)))
      (split t);
}
  where
    split : (t : ℕ) → (t < length m.states) ⊎ (length m.states ≤ t)
    split t = grind arith

take_mapped : {X Y : Type 0} (f : X → Y) (n : ℕ) (xs : List X) → take n (map f xs) ≡ map f (take n xs)
take_mapped f zero xs = refl
take_mapped f (suc n) [] = refl
take_mapped f (suc n) (x ∷ xs) = ap (λ l. f x ∷ l) (take_mapped f n xs)

drop_mapped : {X Y : Type 0} (f : X → Y) (n : ℕ) (xs : List X) → drop n (map f xs) ≡ map f (drop n xs)
drop_mapped f zero xs = refl
drop_mapped f (suc n) [] = refl
drop_mapped f (suc n) (x ∷ xs) = drop_mapped f n xs

count_mapped : {X Y : Type 0} (f : X → Y) (xs : List X) → length (map f xs) ≡ length xs
count_mapped f [] = refl
count_mapped f (x ∷ xs) = ap suc (count_mapped f xs)

mapped_at : {X Y : Type 0} (f : X → Y) (xs : List X) (i : ℕ) (x : X) → slice_index_or (map f xs) i (f x) ≡ f (slice_index_or xs i x)
mapped_at f [] i x = refl
mapped_at f (y ∷ xs) zero x = refl
mapped_at f (y ∷ xs) (suc i) x = mapped_at f xs i x

mapped_there : {X Y : Type 0} (f : X → Y) (xs : List X) (x : X) → Contains xs x → Contains (map f xs) (f x)
mapped_there f xs x there = (there.0, omega (arith, there.1, count_mapped f xs), mapped_at f xs there.0 x ∙ ap f there.2)

all_mapped : {X Y : Type 0} (P : Y → Type 0) (f : X → Y) (xs : List X) → All P (map f xs) → (x : X) → Contains xs x → P (f x)
all_mapped P f xs all x there = All-contains P (map f xs) (f x) all (mapped_there f xs x there)

-- ---- the rows

rows_all : (m : ModelData) → row_number m (length m.states) 0 ≡ sum_by length m.states
rows_all m = omega (arith, ap (sum_by length) (let all : take (length m.states) m.states ≡ m.states = take_all (length m.states) m.states (omega arith) in all))

next_row : (m : ModelData) (s : ℕ) → s < length m.states → row_number m (s + 1) 0 ≡ row_number m s 0 + length (choices m s)
next_row m s lt = omega (arith, sum_by_more length m.states s [] lt)

rows_inside : (m : ModelData) (s : ℕ) → s < length m.states → row_number m (s + 1) 0 ≤ row_number m (length m.states) 0
rows_inside m s lt = omega (arith, rows_all m, next_row m s lt, sum_by_more_le length m.states s [] lt)

-- ---- the places of the rows

module _ (m : ModelData) (l : LinksData) (layout : Layout) (states : state_count l ≡ length m.states)
    (rows : l.rows ≡ layout.rows.items) (targets : l.targets ≡ layout.targets.items) (firsts : l.firsts ≡ layout.blocks.firsts.items) (weights : l.weights ≡ layout.blocks.weights)
    (laid : IsLaid m layout (length m.states) 0) (numbered : AreRowStarts m l.row_starts (length m.states)) where
  pub places_built : ArePlaces m l
  places_built = record {
    states = states;
    choices = λ s lt. omega (arith, numbered.numbers s (omega (arith, lt)), numbered.numbers (s + 1) (omega (arith, lt)), next_row m s lt);
    numbers = λ s lt. numbered.numbers s (omega (arith, lt));
    places = λ s a has.
        let number : at l.row_starts s + a ≡ row_number m s a = omega (arith, numbered.numbers s (omega (arith, has.state))) in
        rw (rows, targets, firsts, number) (laid.places s a (inl (has.state, has.choice)));
    firsts = rw firsts (laid.blocks.rows);
    weights = rw (weights, firsts) (laid.blocks.total);
  }

  rows_stored : (s : ℕ) → s < state_count l → (at l.row_starts s ≤ at l.row_starts (s + 1)) × (at l.row_starts (s + 1) ≤ length l.rows)
  rows_stored s lt =
      let inside : s < length m.states = omega (arith, lt, states) in
      (omega (arith, numbered.numbers s (omega (arith, inside)), numbered.numbers (s + 1) (omega (arith, inside)), next_row m s inside), omega (arith, numbered.numbers (s + 1) (omega (arith, inside)), rows_inside m s inside, laid.count, ap (length {A = RowPlace}) rows))

  -- with nothing before any state
  pub places_stored : l.starts ≡ replicate (length m.states) 0 → l.ends ≡ replicate (length m.states) 0 → length l.before_positions ≡ length l.before → l.order ≡ replicate (length m.states) 0 → l.component_ends ≡ replicate (length m.states) 0 → AreStored l
  places_stored starts ends positions order component_ends = record {
    row_starts = omega (arith, states, numbered.count);
    rows = rows_stored;
    lists = (omega (arith, states, size l.starts starts), omega (arith, states, size l.ends ends));
    parts = λ s lt. let inside : s < length m.states = omega (arith, lt, states) in (omega (arith, none l.starts starts s inside), omega (arith, none l.ends ends s inside));
    positions = positions;
    order = (omega (arith, states, size l.order order), omega (arith, states, size l.component_ends component_ends));
  }
    where
      size : (list : List ℕ) → list ≡ replicate (length m.states) 0 → length list ≡ length m.states
      size list is = ap (length {A = ℕ}) is ∙ length-replicate (length m.states) 0

      none : (list : List ℕ) → list ≡ replicate (length m.states) 0 → (s : ℕ) → s < length m.states → at list s ≡ 0
      none list is s lt = ap (λ l. at l s) is ∙ get_or-replicate (length m.states) s 0 0 lt

-- ---- all

module _ (m : ModelData) (l : LinksData) (layout : Layout) (starts : List ℕ)
    (rows : l.rows ≡ layout.rows.items) (targets : l.targets ≡ layout.targets.items) (firsts : l.firsts ≡ layout.blocks.firsts.items) (weights : l.weights ≡ layout.blocks.weights)
    (laid : IsLaid m layout (length m.states) 0) (numbered : AreRowStarts m l.row_starts (length m.states)) (cut : AreCut m starts layout.targets.items (length m.states))
    (sources : AreSources (length m.states) layout.targets.items starts l.starts l.ends l.before)
    (ordered : IsOrder l.order l.positions (length m.states)) (placed : l.before_positions ≡ map (position l) l.before)
    (first : AreFirst l.positions (part l.starts l.ends l.before_positions) l.lone) where
  before_placed : (s : ℕ) → part l.starts l.ends l.before_positions s ≡ map (position l) (part l.starts l.ends l.before s)
  before_placed s = ap (λ list. slice_range list (at l.starts s) (at l.ends s)) placed ∙ ap (take (at l.ends s - at l.starts s)) (drop_mapped (position l) (at l.starts s) l.before) ∙ take_mapped (position l) (at l.ends s - at l.starts s) (drop (at l.starts s) l.before)

  pub links_built : AreLinks m l
  links_built = record {
    laid = places_built m l layout ordered.counts.1 rows targets firsts weights laid numbered;
    before = listed_all m starts layout.targets.items (part l.starts l.ends l.before) cut sources.listed;
    before_positions = λ s lt. before_placed s;
    order = ordered;
    lone = λ s lt is t leads. all_mapped (λ p. at l.positions s ≤ p) (position l) (part l.starts l.ends l.before s) (subst (All (λ p. at l.positions s ≤ p)) (before_placed s) (first s is)) t ((listed_all m starts layout.targets.items (part l.starts l.ends l.before) cut sources.listed s lt).all t leads);
  }

  pub links_stored : length l.component_ends ≡ length m.states → AreStored l
  links_stored ends = record {
    row_starts = omega (arith, ordered.counts.1, numbered.count);
    rows = rows_stored m l layout ordered.counts.1 rows targets firsts weights laid numbered;
    lists = (omega (arith, ordered.counts.1, sources.placed.counts.0), omega (arith, ordered.counts.1, sources.placed.counts.1));
    parts = λ s lt.
        let inside : s < length m.states = omega (arith, lt, ordered.counts.1) in
        ((sources.placed.parts s inside).0, omega (arith, (sources.placed.parts s inside).1, sources.placed.rising (s + 1) (length m.states) (omega (arith, inside)) (omega arith), sources.placed.inside));
    positions = ap (length {A = ℕ}) placed ∙ count_mapped (position l) l.before;
    order = (omega (arith, ordered.counts.0, ordered.counts.1), omega (arith, ends, ordered.counts.1));
  }
