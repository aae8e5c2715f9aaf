-- Laying out the rows of a model one by one.
use Rattle.std.proofs.Common.{◌≡◌, ℕ, zero, suc, ◌+◌, ◌-◌, ◌^◌, ◌<◌, ◌≤◌, List, [], ◌∷◌, ◌++◌, length, map, take, drop, get_or, slice_range, sum_by, count_ones, All, refl, sym, ap, ap₂, subst, ◌∙◌, arith, ◌⊎◌, ⊎_elim, inl, inr, length-append, append_assoc}
use Rattle.std.specs.List.{concat}
use Rattle.std.proofs.lemmas.List.{take-append-le, take_all, take_more, map_more, map-append, append-nil}
use Rattle.std.proofs.lemmas.List.Elements.{All-nil, All-append, All-map}
use Rattle.std.proofs.lemmas.List.Folds.{concat-append}
use Rattle.std.proofs.lemmas.List.Sums.{sum_by_more, sum_by-cons}
use Rattle.lift_model.specs.declared.entry.Entry.{Entry}
use Rattle.lift_model.specs.declared.blocks.FirstRow.{FirstRow}
use Rattle.lift_model.specs.declared.blocks.Blocks.{Blocks}
use Rattle.lift_model.specs.declared.layout.RowPlace.{RowPlace}
use Rattle.lift_model.specs.declared.layout.Layout.{Layout}
use Rattle.lift_model.specs.Model.{ModelData, support, choices, row_at}
use Rattle.lift_model.specs.Links.{HasChoice, HasBlock, Firsts, IsRowPlace, row_number, block_place, weight_count, targets_of, all_targets, first_row, no_first, no_place}
use Rattle.lift_model.specs.Layout.{AreBlocks, IsPlaced, Comes, IsLaid, AreRowStarts, AreCut}
use Rattle.lift_model.proofs.Listing.{in_first, at_seam}

pub length-targets : (row : List Entry) → length (targets_of row) ≡ length row
length-targets [] = refl
length-targets (e ∷ row) = ap suc (length-targets row)

-- ---- prefixes

slice_first : {X : Type 0} (xs ys : List X) (e n : ℕ) → e + n ≤ length xs → take n (drop e (xs ++ ys)) ≡ take n (drop e xs)
slice_first [] ys zero zero le = refl
slice_first [] ys zero (suc n) le = absurd (omega arith)
slice_first [] ys (suc e) n le = absurd (omega arith)
slice_first (x ∷ xs) ys zero n le = take-append-le n (x ∷ xs) ys (omega arith)
slice_first (x ∷ xs) ys (suc e) n le = slice_first xs ys e n (omega arith)

slice_seam : {X : Type 0} (xs ys : List X) → take (length ys) (drop (length xs) (xs ++ ys)) ≡ ys
slice_seam [] ys = take_all (length ys) ys (omega arith)
slice_seam (x ∷ xs) ys = slice_seam xs ys

-- a part of the first list, and the part that is the second
pub range_first : {X : Type 0} (xs ys : List X) (a b : ℕ) → a ≤ b → b ≤ length xs → slice_range (xs ++ ys) a b ≡ slice_range xs a b
range_first xs ys a b le inside = slice_first xs ys a (b - a) (omega (arith, le, inside))

pub range_seam : {X : Type 0} (xs ys : List X) (a b : ℕ) → a ≡ length xs → b ≡ a + length ys → slice_range (xs ++ ys) a b ≡ ys
range_seam xs ys a b e f =
    let size : b - a ≡ length ys = omega (arith, f) in
    rw (size, e) (slice_seam xs ys)

-- ---- blocks

pub blocks_none : (m : ModelData) (blocks : Blocks) → blocks.firsts.items ≡ [] → blocks.places.items ≡ [] → blocks.weights ≡ 0 → AreBlocks m blocks
blocks_none m blocks firsts places weights = record {
  rows = λ b lt. absurd (omega (arith, lt, ap (length {A = FirstRow}) firsts));
  count = rw (firsts, places) refl;
  begins = λ b lt. absurd (omega (arith, lt, ap (length {A = FirstRow}) firsts));
  total = rw firsts weights;
}

-- with more blocks behind it a block keeps its place
pub place_grown : (m : ModelData) (firsts more : Firsts) (b : ℕ) → b ≤ length firsts → block_place m (firsts ++ more) b ≡ block_place m firsts b
place_grown m firsts more b le = ap (sum_by (λ (first : FirstRow). weight_count (first_row m first))) (take-append-le b firsts more le)

pub has_grown : (m : ModelData) (firsts more : Firsts) (row : List Entry) (place : ℕ) → HasBlock m firsts row place → HasBlock m (firsts ++ more) row place
has_grown m firsts more row place h = record {
  block = h.block;
  inside = omega (arith, h.inside, length-append firsts more);
  same = rw (in_first firsts more h.block no_first h.inside) h.same;
  begins = h.begins ∙ sym (place_grown m firsts more h.block (omega (arith, h.inside)));
}

place_next : (m : ModelData) (firsts : Firsts) (first : FirstRow) → block_place m (firsts ++ (first ∷ [])) (length (firsts ++ (first ∷ []))) ≡ block_place m firsts (length firsts) + weight_count (first_row m first)
place_next m firsts first =
    let all = firsts ++ (first ∷ []) in
    let size : length all ≡ length firsts + 1 = length-append firsts (first ∷ []) in
    let more = sum_by_more (λ (first : FirstRow). weight_count (first_row m first)) all (length firsts) no_first (omega (arith, size)) in
    rw (size, more, at_seam firsts first no_first, place_grown m firsts (first ∷ []) (length firsts) (omega arith)) refl

either : (b n size : ℕ) → b < size → size ≡ n + 1 → (b < n) ⊎ (b ≡ n)
either b n size lt e = grind arith

-- a block more, of a row that has none yet
pub placed_new : (m : ModelData) (old new : Blocks) (first : FirstRow) → AreBlocks m old → HasChoice m first.state first.choice → new.firsts.items ≡ old.firsts.items ++ (first ∷ []) → new.places.items ≡ old.places.items ++ (old.weights ∷ []) → new.weights ≡ old.weights + weight_count (first_row m first)
    → IsPlaced m old new (first_row m first) old.weights
placed_new m old new first are has firsts places weights =
    let firsts_size : length (old.firsts.items ++ (first ∷ [])) ≡ length old.firsts.items + 1 = length-append old.firsts.items (first ∷ []) in
    record {
      blocks = record {
        rows = rw firsts (λ b lt. ⊎_elim
            (λ (before : b < length old.firsts.items). rw (in_first old.firsts.items (first ∷ []) b no_first before) (are.rows b before))
            (λ (here : b ≡ length old.firsts.items). rw (here, at_seam old.firsts.items first no_first) has)
            (either b (length old.firsts.items) _ lt firsts_size));
        count = rw (firsts, places, length-append, length-append) (omega (arith, are.count));
        begins = rw (firsts, places) (λ b lt. ⊎_elim
            (λ (before : b < length old.firsts.items). rw (in_first old.places.items (old.weights ∷ []) b 0 (omega (arith, before, are.count)), place_grown m old.firsts.items (first ∷ []) b (omega (arith, before))) (are.begins b before))
            (λ (here : b ≡ length old.firsts.items).
            let at : b ≡ length old.places.items = here ∙ sym are.count in
            ap (λ i. get_or (old.places.items ++ (old.weights ∷ [])) i 0) at ∙ at_seam old.places.items old.weights 0 ∙ are.total ∙ sym (place_grown m old.firsts.items (first ∷ []) (length old.firsts.items) (omega arith)) ∙ ap (block_place m (old.firsts.items ++ (first ∷ []))) (sym here))
            (either b (length old.firsts.items) _ lt firsts_size));
        total = rw firsts (weights ∙ ap (λ n. n + weight_count (first_row m first)) are.total ∙ sym (place_next m old.firsts.items first));
      };
      grows = (first ∷ [], firsts);
      has = rw firsts (record {
        block = length old.firsts.items;
        inside = omega (arith, firsts_size);
        same = rw (at_seam old.firsts.items first no_first) refl;
        begins = are.total ∙ sym (place_grown m old.firsts.items (first ∷ []) (length old.firsts.items) (omega arith));
      });
    }

-- ---- numbers of rows

-- the sum over a prefix and one element is within a longer prefix's
prefix_le : {X : Type 0} (f : X → ℕ) (xs : List X) (t s : ℕ) (d : X) → t < s → t < length xs → sum_by f (take t xs) + f (get_or xs t d) ≤ sum_by f (take s xs)
prefix_le f [] t s d lt in_range = absurd (omega arith)
prefix_le f (x ∷ xs) t zero d lt in_range = absurd (omega arith)
prefix_le f (x ∷ xs) zero (suc s) d lt in_range = rw (sum_by-cons f x (take s xs)) (omega arith)
prefix_le f (x ∷ xs) (suc t) (suc s) d lt in_range = rw (sum_by-cons f x (take s xs), sum_by-cons f x (take t xs)) (omega (arith, prefix_le f xs t s d (omega arith) (omega arith)))

-- a row that comes before has a lower number
row_number-lt : (m : ModelData) (t b s a : ℕ) → t < length m.states → Comes m t b s a → row_number m t b < row_number m s a
row_number-lt m t b s a lt (inl h) = omega (arith, h.1, prefix_le length m.states t s [] h.0 lt)
row_number-lt m t b s a lt (inr h) = rw (h.0) (omega (arith, h.1))

-- ---- the loops

pub laid_none : (m : ModelData) (layout : Layout) → layout.rows.items ≡ [] → layout.targets.items ≡ [] → AreBlocks m layout.blocks → IsLaid m layout 0 0
laid_none m layout rows targets blocks = record { count = rw rows refl; entries = rw targets refl; states = rw targets (All-nil (λ t. t < length m.states)); blocks = blocks; places = λ t b comes. absurd (none t b comes) }
  where
    none : (t b : ℕ) → Comes m t b 0 0 → ⊥
    none t b (inl h) = absurd (omega (arith, h.0))
    none t b (inr h) = absurd (omega (arith, h.1))

-- the choices of a state that comes before, or of this one
comes_more : (m : ModelData) (t b s a : ℕ) → Comes m t b s (a + 1) → Comes m t b s a ⊎ ((t ≡ s) × (b ≡ a))
comes_more m t b s a (inl h) = inl (inl h)
comes_more m t b s a (inr h) = ⊎_elim (λ (lt : b < a). inl (inr (h.0, lt))) (λ (e : b ≡ a). inr (h.0, e)) (split b h.1)
  where
    split : (b : ℕ) → b < a + 1 → (b < a) ⊎ (b ≡ a)
    split b lt = grind arith

in_model : (m : ModelData) (t b s a : ℕ) → s < length m.states → Comes m t b s a → t < length m.states
in_model m t b s a lt (inl h) = omega (arith, h.0)
in_model m t b s a lt (inr h) = rw (h.0) lt

place_kept : (m : ModelData) (targets more : List ℕ) (firsts blocks : Firsts) (row : List Entry) (place : RowPlace) → IsRowPlace m targets firsts row place → IsRowPlace m (targets ++ more) (firsts ++ blocks) row place
place_kept m targets more firsts blocks row place h = record {
  count = h.count;
  corners = h.corners;
  room = omega (arith, h.room, length-append targets more);
  entries = range_first targets more place.entries (place.entries + place.count) (omega arith) h.room ∙ h.entries;
  block = has_grown m firsts blocks row place.weights h.block;
}

pub laid_row : (m : ModelData) (old new : Layout) (s a : ℕ) (place : RowPlace) → HasChoice m s a → IsLaid m old s a → IsPlaced m old.blocks new.blocks (row_at m s a) place.weights
    → place.entries ≡ length old.targets.items → place.count ≡ length (row_at m s a) → place.corners ≡ 2 ^ count_ones (support (row_at m s a)) → All (λ (entry : Entry). entry.target < length m.states) (row_at m s a)
    → new.rows.items ≡ old.rows.items ++ (place ∷ []) → new.targets.items ≡ old.targets.items ++ targets_of (row_at m s a) → IsLaid m new s (a + 1)
laid_row m old new s a place has h placed entries count corners inside rows targets =
    let row = row_at m s a in
    let size : length (old.targets.items ++ targets_of row) ≡ length old.targets.items + length row = length-append old.targets.items (targets_of row) ∙ ap (λ n. length old.targets.items + n) (length-targets row) in
    record {
      count = rw rows (length-append old.rows.items (place ∷ []) ∙ omega (arith, h.count));
      entries = rw targets (omega (arith, h.entries, size, sum_by_more length (choices m s) a [] has.choice));
      states = rw targets (All-append (λ t. t < length m.states) old.targets.items (targets_of row) h.states (All-map (λ t. t < length m.states) (λ (entry : Entry). entry.target) row inside));
      blocks = placed.blocks;
      places = λ t b comes. rw (rows, targets, placed.grows.1) (⊎_elim
          (λ (before : Comes m t b s a).
          let lt : row_number m t b < length old.rows.items = omega (arith, h.count, row_number-lt m t b s a (in_model m t b s a has.state before) before) in
          rw (in_first old.rows.items (place ∷ []) (row_number m t b) no_place lt) (place_kept m old.targets.items (targets_of row) old.blocks.firsts.items placed.grows.0 (row_at m t b) _ (h.places t b before)))
          (λ (here : (t ≡ s) × (b ≡ a)).
          let at : row_number m t b ≡ length old.rows.items = ap₂ (row_number m) here.0 here.1 ∙ sym h.count in
          rw (at, at_seam old.rows.items place no_place, here.0, here.1) this)
          (comes_more m t b s a comes));
    }
  where
    this : IsRowPlace m (old.targets.items ++ targets_of (row_at m s a)) (old.blocks.firsts.items ++ placed.grows.0) (row_at m s a) place
    this = record {
      count = count;
      corners = corners;
      room = omega (arith, entries, count, length-append old.targets.items (targets_of (row_at m s a)), length-targets (row_at m s a));
      entries = range_seam old.targets.items (targets_of (row_at m s a)) place.entries (place.entries + place.count) entries (omega (arith, count, length-targets (row_at m s a)));
      block = subst (λ firsts. HasBlock m firsts (row_at m s a) place.weights) placed.grows.1 placed.has;
    }

pub laid_state : (m : ModelData) (layout : Layout) (s a : ℕ) → s < length m.states → a ≡ length (choices m s) → IsLaid m layout s a → IsLaid m layout (s + 1) 0
laid_state m layout s a state is h = record {
  count = h.count ∙ omega (arith, is, sum_by_more length m.states s [] state);
  entries = h.entries ∙ (let all : take a (choices m s) ≡ choices m s = take_all a (choices m s) (omega (arith, is)) in omega (arith, ap (sum_by length) all, sum_by_more (sum_by length) m.states s [] state));
  states = h.states;
  blocks = h.blocks;
  places = λ t b comes. h.places t b (earlier t b comes);
}
  where
    split : (t : ℕ) → t < s + 1 → (t < s) ⊎ (t ≡ s)
    split t lt = grind arith

    earlier : (t b : ℕ) → Comes m t b (s + 1) 0 → Comes m t b s a
    earlier t b (inl h) = ⊎_elim
        (λ (lt : t < s). inl (lt, h.1))
        (λ (e : t ≡ s). inr (e, omega (arith, h.1, is, ap (λ i. length (choices m i)) e)))
        (split t h.0)
    earlier t b (inr h) = absurd (omega (arith, h.1))

-- the targets of one choice more
pub targets_more : (m : ModelData) (s a : ℕ) (old now next : List ℕ) → a < length (choices m s) → now ≡ old ++ concat (map targets_of (take a (choices m s))) → next ≡ now ++ targets_of (row_at m s a) → next ≡ old ++ concat (map targets_of (take (a + 1) (choices m s)))
targets_more m s a old now next lt h is =
    let rows = choices m s in
    let more : concat (map targets_of (take (a + 1) rows)) ≡ concat (map targets_of (take a rows)) ++ targets_of (row_at m s a) =
    ap (λ r. concat (map targets_of r)) (take_more rows a [] lt) ∙ ap concat (map-append targets_of (take a rows) (get_or rows a [] ∷ [])) ∙ concat-append (map targets_of (take a rows)) (targets_of (get_or rows a []) ∷ [])
    ∙ ap (λ ts. concat (map targets_of (take a rows)) ++ ts) (append-nil (targets_of (row_at m s a))) in
    is ∙ ap (λ l. l ++ targets_of (row_at m s a)) h ∙ append_assoc old (concat (map targets_of (take a rows))) (targets_of (row_at m s a)) ∙ ap (λ l. old ++ l) (sym more)

pub targets_all : (m : ModelData) (s a : ℕ) (old now : List ℕ) → length (choices m s) ≤ a → now ≡ old ++ concat (map targets_of (take a (choices m s))) → now ≡ old ++ all_targets m s
targets_all m s a old now le h = h ∙ ap (λ rows. old ++ concat (map targets_of rows)) (take_all a (choices m s) le)

-- the target of one more entry
pub target_more : (old so_far : List ℕ) (row : List Entry) (i : ℕ) (e : Entry) → i < length row → e ≡ get_or row i e → so_far ≡ old ++ targets_of (take i row) → so_far ++ (e.target ∷ []) ≡ old ++ targets_of (take (i + 1) row)
target_more old so_far row i e lt is h =
    let more : targets_of (take (i + 1) row) ≡ targets_of (take i row) ++ (e.target ∷ []) = map_more (λ (x : Entry). x.target) row i e lt ∙ ap (λ (x : Entry). targets_of (take i row) ++ (x.target ∷ [])) (sym is) in
    ap (λ l. l ++ (e.target ∷ [])) h ∙ append_assoc old (targets_of (take i row)) (e.target ∷ []) ∙ ap (λ l. old ++ l) (sym more)

split_last : (t s : ℕ) → t < s + 1 → (t < s) ⊎ (t ≡ s)
split_last t s lt = grind arith

split_le : (t s : ℕ) → t ≤ s + 1 → (t ≤ s) ⊎ (t ≡ s + 1)
split_le t s le = grind arith

pub row_starts_none : (m : ModelData) (starts : List ℕ) → starts ≡ 0 ∷ [] → AreRowStarts m starts 0
row_starts_none m starts is = record { count = rw is refl; numbers = λ s le. let e : s ≡ 0 = omega (arith, le) in rw (is, e) refl }

pub row_starts_more : (m : ModelData) (starts : List ℕ) (s n : ℕ) → n ≡ row_number m (s + 1) 0 → AreRowStarts m starts s → AreRowStarts m (starts ++ (n ∷ [])) (s + 1)
row_starts_more m starts s n is h = record {
  count = length-append starts (n ∷ []) ∙ omega (arith, h.count);
  numbers = λ t le. ⊎_elim
      (λ (before : t ≤ s). in_first starts (n ∷ []) t 0 (omega (arith, before, h.count)) ∙ h.numbers t before)
      (λ (here : t ≡ s + 1). ap (λ i. get_or (starts ++ (n ∷ [])) i 0) (here ∙ sym h.count) ∙ at_seam starts n 0 ∙ is ∙ ap (λ i. row_number m i 0) (sym here))
      (split_le t s le);
}

pub cut_none : (m : ModelData) (starts targets : List ℕ) → starts ≡ 0 ∷ [] → targets ≡ [] → AreCut m starts targets 0
cut_none m starts targets is none = record { count = rw is refl; last = rw (is, none) refl; parts = λ s lt. absurd (omega (arith, lt)) }

pub cut_more : (m : ModelData) (starts targets new : List ℕ) (s n : ℕ) → new ≡ targets ++ all_targets m s → n ≡ length new → AreCut m starts targets s → AreCut m (starts ++ (n ∷ [])) new (s + 1)
cut_more m starts targets new s n is size h =
    let all : length (targets ++ all_targets m s) ≡ length targets + length (all_targets m s) = length-append targets (all_targets m s) in
    let last : n ≡ length targets + length (all_targets m s) = size ∙ ap (length {A = ℕ}) is ∙ all in
    let seam : get_or (starts ++ (n ∷ [])) (s + 1) 0 ≡ n = ap (λ i. get_or (starts ++ (n ∷ [])) i 0) (sym h.count) ∙ at_seam starts n 0 in
    let kept : (t : ℕ) → t ≤ s → get_or (starts ++ (n ∷ [])) t 0 ≡ get_or starts t 0 = λ t le. in_first starts (n ∷ []) t 0 (omega (arith, le, h.count)) in
    record {
      count = length-append starts (n ∷ []) ∙ omega (arith, h.count);
      last = seam ∙ size;
      parts = λ t lt. ⊎_elim
          (λ (before : t < s).
          let part = h.parts t before in
          rw (is, kept t (omega (arith, before)), kept (t + 1) (omega (arith, before))) (part.0, range_first targets (all_targets m s) (get_or starts t 0) (get_or starts (t + 1) 0) part.0 (ends t before) ∙ part.1))
          (λ (here : t ≡ s).
          rw (is, here, seam, kept s (omega arith), h.last) (omega (arith, last), range_seam targets (all_targets m s) (length targets) n refl last))
          (split_last t s lt);
    }
  where
    -- each cut lies in the list
    rises : (n t : ℕ) → t + n ≡ s → get_or starts t 0 ≤ length targets
    rises zero t e = omega (arith, h.last, ap (λ i. get_or starts i 0) (let same : t ≡ s = omega (arith, e) in same))
    rises (suc n) t e = omega (arith, (h.parts t (omega (arith, e))).0, rises n (t + 1) (omega (arith, e)))

    ends : (t : ℕ) → t < s → get_or starts (t + 1) 0 ≤ length targets
    ends t lt = rises (s - (t + 1)) (t + 1) (omega (arith, lt))
