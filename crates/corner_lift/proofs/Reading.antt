-- Reading a row's weights from a table.
use Rattle.std.proofs.Common.{◌≡◌, ◌==◌, ℕ, zero, suc, ◌+◌, ◌-◌, ◌*◌, ◌^◌, ◌<◌, ◌≤◌, List, [], ◌∷◌, ◌++◌, length, map, take, drop, get_or, ℤ, pos, ◌*ℤ◌, ◌≤ℤ◌, ◌<ℤ◌, unsigned_abs, count_ones, refl, sym, ap, ap₂, subst, ◌∙◌, arith, ◌⊎◌, ⊎_elim, All, length-append, mul-le-mul_left, bit_or, Bool, true, false, cond, nat_lt}
use Rattle.std.proofs.lemmas.List.{take_all, take-append-drop}
use Rattle.std.proofs.Math.Seq.{take-append_seam}
use Rattle.std.proofs.lemmas.List.Elements.{All-map}
use Rattle.std.proofs.lemmas.Int.{unsigned_abs-mul, ints}
use Rattle.std.proofs.lemmas.Nat.{pow_pos}
use Rattle.lift_poly.specs.Polynomial.{Term, weight}
use Rattle.lift_poly.specs.Arithmetic as polynomial
use Rattle.lift_poly.proofs.Ring.{linear}
use Rattle.lift_grid.specs.Rectangle.{Spans, AreSpans, spans_of, sides_of}
use Rattle.lift_model.specs.declared.entry.Entry.{Entry}
use Rattle.lift_model.specs.declared.layout.RowPlace.{RowPlace}
use Rattle.lift_model.specs.Process.{power}
use Rattle.lift_model.specs.Model.{support, union, choices, row_at}
use Rattle.lift_model.specs.Links.{place as place_in_links}
use Rattle.lift_model.specs.Links.{LinksData, IsRowPlace, polynomials, first_row, no_first, targets_of, weight_count, block_place}
use Rattle.corner_lift.specs.Corner.{corner, parameter_count, corner_sum, whole}
use Rattle.corner_lift.specs.Certificate.{AreNumbers, ranked_below}
use Rattle.corner_lift.specs.Case.{CaseData, IsCase, IsRowOf, IsInside, AreSidesInside, Within, BoundsAbove, BoundsBelow, IsGreatest, IsLeast, number, corner_count, row_value, row_whole, row_parameters, engine_limit}
use Rattle.corner_lift.specs.Premises.{Premises}
use Rattle.corner_lift.specs.Table.{corner_weights, first_corners, block, blocks, CanRead, IsWhole}
use Rattle.corner_lift.specs.Dot.{dot, total, corner_part, only_at, CanSum, CanCompare, FitsLane, FitsLaneAtCorners}
use Rattle.corner_lift.proofs.CornerBound.{mul-pos_lem}
use Rattle.corner_lift.proofs.RowBound.{power-pos}
use Rattle.corner_lift.proofs.Rows.{number_range}
use Rattle.corner_lift.proofs.Cases.{row_of_case, parameter_count-within, parameters_in_root, corner_sum_range, corner_least, corner_total, number_room, bounds_above, bounds_below, greatest_range}
use Rattle.corner_lift.proofs.Sums.{Least, dot_row, total_row, lane_room}
use Rattle.corner_lift.proofs.Filling.{blocks_append, blocks_more, place_more, block_inside}

-- ---- parts of lists

drop_nil : {X : Type 0} (n : ℕ) → drop {A = X} n [] ≡ []
drop_nil zero = refl
drop_nil (suc n) = refl

drop_add : {X : Type 0} (p q : ℕ) (xs : List X) → drop (p + q) xs ≡ drop q (drop p xs)
drop_add zero q xs = ap (λ n. drop n xs) (let e : 0 + q ≡ q = omega arith in e)
drop_add (suc p) q [] = drop_nil (suc p + q) ∙ sym (drop_nil q)
drop_add (suc p) q (x ∷ xs) = ap (λ n. drop n (x ∷ xs)) (let e : suc p + q ≡ suc (p + q) = omega arith in e) ∙ drop_add p q xs

part_of : {X : Type 0} (q n size : ℕ) (xs : List X) → q + n ≤ size → take n (drop q (take size xs)) ≡ take n (drop q xs)
part_of zero zero size xs le = refl
part_of zero (suc n) zero xs le = absurd (omega (arith, le))
part_of zero (suc n) (suc size) [] le = refl
part_of zero (suc n) (suc size) (x ∷ xs) le = ap (λ l. x ∷ l) (part_of zero n size xs (omega (arith, le)))
part_of (suc q) n zero xs le = absurd (omega (arith, le))
part_of (suc q) n (suc size) [] le = refl
part_of (suc q) n (suc size) (x ∷ xs) le = part_of q n size xs (omega (arith, le))

slice_first : {X : Type 0} (xs ys : List X) (e n : ℕ) → e + n ≤ length xs → take n (drop e (xs ++ ys)) ≡ take n (drop e xs)
slice_first [] ys zero zero le = refl
slice_first [] ys zero (suc n) le = absurd (omega (arith, le))
slice_first [] ys (suc e) n le = absurd (omega (arith, le))
slice_first (x ∷ xs) ys zero zero le = refl
slice_first (x ∷ xs) ys zero (suc n) le = ap (λ l. x ∷ l) (slice_first xs ys zero n (omega (arith, le)))
slice_first (x ∷ xs) ys (suc e) n le = slice_first xs ys e n (omega (arith, le))

slice_seam : {X : Type 0} (xs ys : List X) → take (length ys) (drop (length xs) (xs ++ ys)) ≡ ys
slice_seam [] ys = take_all (length ys) ys (omega arith)
slice_seam (x ∷ xs) ys = slice_seam xs ys

count_mapped : {X Y : Type 0} (f : X → Y) (xs : List X) → length (map f xs) ≡ length xs
count_mapped f [] = refl
count_mapped f (x ∷ xs) = ap suc (count_mapped f xs)

-- a row has as many targets as entries
pub targets_count : (row : List Entry) → length row ≡ length (targets_of row)
targets_count row = sym (count_mapped (λ (entry : Entry). entry.target) row)

last_or_before : (c m : ℕ) → c < suc m → (c < m) ⊎ (c ≡ m)
last_or_before c m lt = grind arith

-- ---- blocks

length_corners : (d : ℤ) (spans : Spans) (row : List Entry) (c : ℕ) → length (first_corners d spans row c) ≡ length row * c
length_corners d spans row zero = omega arith
length_corners d spans row (suc c) =
    length-append (first_corners d spans row c) (corner_weights d spans row c) ∙ omega (arith, length_corners d spans row c, count_mapped (λ (entry : Entry). weight (corner d spans (support row) c) entry.poly) row)

corner_room : (n c m : ℕ) → c < m → n * c + n ≤ n * m
corner_room n c m less = let most : n * suc c ≤ n * m = mul-le-mul_left n (let e : suc c ≤ m = omega (arith, less) in e) in let next : n * suc c ≡ n * c + n = omega arith in omega (arith, most, next)

-- a corner of a block
corner_in_block : (d : ℤ) (spans : Spans) (row : List Entry) (c m : ℕ) → c < m → take (length row) (drop (length row * c) (first_corners d spans row m)) ≡ corner_weights d spans row c
corner_in_block d spans row c zero lt = absurd (omega (arith, lt))
corner_in_block d spans row c (suc m) lt = ⊎_elim
    (λ (less : c < m).
    let room : length row * c + length row ≤ length row * m = corner_room (length row) c m less in
    slice_first (first_corners d spans row m) (corner_weights d spans row m) (length row * c) (length row) (omega (arith, room, length_corners d spans row m)) ∙ corner_in_block d spans row c m less)
    (λ (e : c ≡ m).
    let size = count_mapped (λ (entry : Entry). weight (corner d spans (support row) m) entry.poly) row in
    rw (e, ← length_corners d spans row m, ← size) (slice_seam (first_corners d spans row m) (corner_weights d spans row m)))
    (last_or_before c m lt)

-- the polynomials give the parameters and the weights
support_by : (row : List Entry) → support row ≡ union (map polynomial.support (polynomials row))
support_by [] = refl
support_by (e ∷ row) = ap (bit_or (polynomial.support e.poly)) (support_by row)

weights_by : (f : List Term → ℤ) (row : List Entry) → map (λ (entry : Entry). f entry.poly) row ≡ map f (polynomials row)
weights_by f [] = refl
weights_by f (e ∷ row) = ap (λ l. f e.poly ∷ l) (weights_by f row)

module _ (d : ℤ) (spans : Spans) (one other : List Entry) (same : polynomials one ≡ polynomials other) where
  same_support : support one ≡ support other
  same_support = support_by one ∙ ap (λ polys. union (map polynomial.support polys)) same ∙ sym (support_by other)

  same_corner : (c : ℕ) → corner_weights d spans one c ≡ corner_weights d spans other c
  same_corner c =
      ap (λ set. map (λ (entry : Entry). weight (corner d spans set c) entry.poly) one) same_support
      ∙ weights_by (weight (corner d spans (support other) c)) one ∙ ap (map (weight (corner d spans (support other) c))) same ∙ sym (weights_by (weight (corner d spans (support other) c)) other)

  same_corners : (m : ℕ) → first_corners d spans one m ≡ first_corners d spans other m
  same_corners zero = refl
  same_corners (suc m) = ap₂ (λ xs ys. xs ++ ys) (same_corners m) (same_corner m)

  same_block : block d spans one ≡ block d spans other
  same_block = ap (λ set. first_corners d spans one (2 ^ parameter_count spans set)) same_support ∙ same_corners (2 ^ parameter_count spans (support other))

  same_length : length one ≡ length other
  same_length = sym (count_mapped (λ (entry : Entry). entry.poly) one) ∙ ap (length {A = List Term}) same ∙ count_mapped (λ (entry : Entry). entry.poly) other

  same_size : weight_count one ≡ weight_count other
  same_size = ap₂ (λ n set. n * 2 ^ count_ones set) same_length same_support

-- ---- a row of a case

module _ (laws : Premises) (k : CaseData) (l : LinksData) (spans : Spans) (weights : List ℤ) (s a : ℕ) (is : IsCase k) (can : CanRead k l spans weights s a) (place : RowPlace) (placed : IsRowPlace k.model l.targets l.firsts (row_at k.model s a) place) where
  abbrev row : List Entry
  row = row_at k.model s a

  of : IsRowOf k (row_at k.model s a)
  of = row_of_case k s a is can.row.state can.row.choice

  -- in the rectangle a row has as many parameters as bits are set
  counted : parameter_count spans (support row) ≡ count_ones (support row)
  counted = parameter_count-within spans k.root (support row) can.table.inside.within ∙ sym (parameters_in_root k s a is can.row.state can.row.choice)

  pub corners_all : place.corners ≡ corner_count k s a
  corners_all = placed.corners ∙ ap (λ n. 2 ^ n) (parameters_in_root k s a is can.row.state can.row.choice)

  size_of : place.count * place.corners ≡ weight_count row
  size_of = ap₂ (λ n c. n * c) placed.count placed.corners

  -- the lengths of all blocks before one
  blocks_length : (b : ℕ) → b ≤ length l.firsts → length (blocks k.model k.d spans (take b l.firsts)) ≡ block_place k.model l.firsts b
  blocks_length zero le = refl
  blocks_length (suc b) le =
      let lt : b < length l.firsts = omega (arith, le) in
      let next : suc b ≡ b + 1 = omega arith in
      let first = first_row k.model (get_or l.firsts b no_first) in
      let has = can.places.firsts b lt in
      let wide : parameter_count spans (support first) ≡ count_ones (support first) = parameter_count-within spans k.root (support first) can.table.inside.within ∙ sym (parameters_in_root k _ _ is has.state has.choice) in
      let size : length (block k.d spans first) ≡ weight_count first = length_corners k.d spans first (2 ^ parameter_count spans (support first)) ∙ ap (λ n. length first * 2 ^ n) wide in
      rw (next, blocks_more k.model k.d spans l.firsts b lt, length-append, place_more k.model l.firsts b lt) (omega (arith, blocks_length b (omega (arith, lt)), size))

  table_length : length weights ≡ block_place k.model l.firsts (length l.firsts)
  table_length = ap (length {A = ℤ}) (can.table.same ∙ sym (ap (blocks k.model k.d spans) (take_all (length l.firsts) l.firsts (omega arith)))) ∙ blocks_length (length l.firsts) (omega arith)

  -- the row's weights end before the table does
  pub block_ends : place.weights + place.count * place.corners ≤ length weights
  block_ends =
      let b = placed.block.block in
      omega (arith, size_of, placed.block.begins, table_length, block_inside k.model l.firsts b placed.block.inside, same_size k.d spans (first_row k.model (get_or l.firsts b no_first)) row placed.block.same)

  pub corner_ends : (c : ℕ) → c < corner_count k s a → place.weights + place.count * c + place.count ≤ length weights
  corner_ends c lt = omega (arith, corner_room place.count c place.corners (omega (arith, corners_all, lt)), block_ends)

  -- the row's block stands at its place
  block_stands : take (weight_count row) (drop place.weights weights) ≡ block k.d spans row
  block_stands =
      let b = placed.block.block in
      let firsts = l.firsts in
      let lt = placed.block.inside in
      let first = first_row k.model (get_or firsts b no_first) in
      let before = blocks k.model k.d spans (take b firsts) in
      let here = block k.d spans first in
      let same = same_block k.d spans first row placed.block.same in
      let count : length here ≡ weight_count row = length_corners k.d spans first (2 ^ parameter_count spans (support first)) ∙ ap (λ set. length first * 2 ^ parameter_count spans set) (same_support k.d spans first row placed.block.same) ∙ ap (λ n. length first * 2 ^ n) counted ∙ ap (λ n. n * 2 ^ count_ones (support row)) (same_length k.d spans first row placed.block.same) in
      let start : length before ≡ place.weights = blocks_length b (omega (arith, lt)) ∙ sym placed.block.begins in
      let all : take (block_place k.model firsts (b + 1)) weights ≡ before ++ here = prefix b lt ∙ blocks_more k.model k.d spans firsts b lt in
      sym (part_of place.weights (weight_count row) (block_place k.model firsts (b + 1)) weights (omega (arith, place_more k.model firsts b lt, placed.block.begins, same_size k.d spans first row placed.block.same)))
      ∙ ap (λ xs. take (weight_count row) (drop place.weights xs)) all ∙ (let p = start in let q = count in rw (← p, ← q) (slice_seam before here)) ∙ same
    where
      prefix : (b : ℕ) → b < length l.firsts → take (block_place k.model l.firsts (b + 1)) weights ≡ blocks k.model k.d spans (take (b + 1) l.firsts)
      prefix b lt =
          let first_blocks = blocks k.model k.d spans (take (b + 1) l.firsts) in
          let all : weights ≡ first_blocks ++ blocks k.model k.d spans (drop (b + 1) l.firsts) =
          can.table.same ∙ ap (blocks k.model k.d spans) (sym (take-append-drop (b + 1) l.firsts)) ∙ blocks_append k.model k.d spans (take (b + 1) l.firsts) (drop (b + 1) l.firsts) in
          rw (← blocks_length (b + 1) (omega (arith, lt)), all) (take-append_seam first_blocks (blocks k.model k.d spans (drop (b + 1) l.firsts)))

  -- the weights of a corner
  pub corner_stands : (c : ℕ) → c < corner_count k s a → corner_part weights place c ≡ corner_weights k.d spans row c
  corner_stands c lt =
      let inside : c < 2 ^ parameter_count spans (support row) = subst (λ n. c < 2 ^ n) (sym (parameter_count-within spans k.root (support row) can.table.inside.within)) lt in
      let space : length row * c + length row ≤ weight_count row = corner_room (length row) c (2 ^ count_ones (support row)) (omega (arith, ap (λ n. 2 ^ n) counted, inside)) in
      rw placed.count
      (ap (take (length row)) (drop_add place.weights (length row * c) weights)
      ∙ sym (part_of (length row * c) (length row) (weight_count row) (drop place.weights weights) space)
      ∙ ap (λ ws. take (length row) (drop (length row * c) ws)) block_stands
      ∙ corner_in_block k.d spans row c (2 ^ parameter_count spans (support row)) inside)

  weights_least : (c : ℕ) → All Least (corner_weights k.d spans row c)
  weights_least c = All-map Least (λ (entry : Entry). weight (corner k.d spans (support row) c) entry.poly) row (corner_least laws k row spans is.asked.grid.positive is.asked.spans can.table.inside.rectangle can.table.inside.within of.admitted c)

  sum_by_row : (c : ℕ) (z : ℕ → ℤ) → dot z (corner_weights k.d spans row c) (targets_of row) ≡ corner_sum k.d spans row c z
  sum_by_row c z = dot_row z (corner k.d spans (support row) c) row

  -- what the table's weights sum to, each times its target's number
  pub sum_stands : (c : ℕ) → c < corner_count k s a → (z : ℕ → ℤ) → dot z (corner_part weights place c) (targets_of row) ≡ corner_sum k.d spans row c z
  sum_stands c lt z = ap (λ ws. dot z ws (targets_of row)) (corner_stands c lt) ∙ sum_by_row c z

  -- numbers up to 2 ^ w can be summed
  pub can_sum : (c : ℕ) → c < corner_count k s a → (z : ℕ → ℤ) (top : ℕ) → top ≤ 2 ^ k.w → ((t : ℕ) → (pos 0 ≤ℤ z t) × (z t ≤ℤ pos top)) → CanSum z (corner_part weights place c) (targets_of row)
  can_sum c lt z top le range =
      let bound = corner_sum_range laws k row spans is.asked.grid.positive is.asked.spans can.table.inside.rectangle can.table.inside.within of.admitted c z (pos top) range in
      let size : unsigned_abs (pos top *ℤ whole k.model k.d k.root row) ≡ top * unsigned_abs (whole k.model k.d k.root row) = unsigned_abs-mul (pos top) (whole k.model k.d k.root row) in
      let room = number_room k row top le of.admitted in
      rw (corner_stands c lt) (record {
        sizes = count_mapped (λ (entry : Entry). weight (corner k.d spans (support row) c) entry.poly) row ∙ sym (count_mapped (λ (entry : Entry). entry.target) row);
        weights_least = weights_least c;
        numbers_least = λ t. (range t).0;
        room = rw (sum_by_row c z) (below (corner_sum k.d spans row c z) (pos top *ℤ whole k.model k.d k.root row) bound.0 bound.1 (omega (arith, size, room)));
      })
    where
      below : (a b : ℤ) → pos 0 ≤ℤ a → a ≤ℤ b → unsigned_abs b < engine_limit → a <ℤ pos engine_limit
      below a b least most small = omega (arith, ints, least, most, small)

  -- a vector has numbers up to 2 ^ w, and each target has one
  pub can_compare : (x : List ℤ) → AreNumbers k x → CanCompare (number x) weights (targets_of row) place
  can_compare x numbers = record {
    some = let some : 0 < corner_count k s a = pow_pos (row_parameters k row) in omega (arith, corners_all, some);
    ends = block_ends;
    sums = λ c lt. can_sum c (omega (arith, lt, corners_all)) (number x) (2 ^ k.w) (omega arith) (number_range k x numbers);
  }

  pub targets_inside : (n : ℕ) → n ≡ length k.model.states → All (λ t. t < n) (targets_of row)
  targets_inside n size = All-map (λ t. t < n) (λ (entry : Entry). entry.target) row (λ i d lt. let entry = of.valid.entries i d lt in omega (arith, entry.target, size))

  -- what is counted counts as 1, and the rest as 0
  count_range : (b : Bool) → (pos 0 ≤ℤ cond b (pos 1) (pos 0)) × (cond b (pos 1) (pos 0) ≤ℤ pos 1)
  count_range true = (omega (arith, linear), omega (arith, linear))
  count_range false = (omega (arith, linear), omega (arith, linear))

  pub can_count : (c : ℕ) → c < corner_count k s a → (rank : ℕ → ℕ) (below : ℕ) → CanSum (ranked_below rank below) (corner_part weights place c) (targets_of row)
  can_count c lt rank below = can_sum c lt (ranked_below rank below) 1 (pow_pos k.w) (λ t. count_range (nat_lt (rank t) below))

  pub can_count_only : (c : ℕ) → c < corner_count k s a → (u : ℕ) → CanSum (only_at u) (corner_part weights place c) (targets_of row)
  can_count_only c lt u = can_sum c lt (only_at u) 1 (pow_pos k.w) (λ t. count_range (t == u))

  -- ---- the whole

  pub whole_stands : (c : ℕ) → c < corner_count k s a → total (corner_part weights place c) ≡ row_whole k s a
  whole_stands c lt = ap total (corner_stands c lt) ∙ total_row (corner k.d spans (support row) c) row ∙ corner_total laws k row spans is.asked.grid.positive is.asked.spans can.table.inside.rectangle can.table.inside.within of.admitted c

  pub corner_least_at : (c : ℕ) → c < corner_count k s a → All Least (corner_part weights place c)
  corner_least_at c lt = rw (corner_stands c lt) (weights_least c)

  pub whole_positive : pos 1 ≤ℤ row_whole k s a
  whole_positive =
      let common : pos 0 <ℤ k.model.common = omega (arith, linear, is.asked.model.denominator.0) in
      omega (arith, linear, mul-pos_lem k.model.common (power k.d (row_parameters k row)) common (power-pos k.d (row_parameters k row) is.asked.grid.positive))

  pub whole_numbers : (n : ℕ) → n ≤ 2 ^ k.w → n * unsigned_abs (row_whole k s a) < engine_limit
  whole_numbers n le = number_room k row n le of.admitted

  pub whole_size : unsigned_abs (row_whole k s a) < engine_limit
  whole_size = let room = whole_numbers 1 (pow_pos k.w) in omega (arith, room)

  pub whole_below : row_whole k s a <ℤ pos engine_limit
  whole_below = below (row_whole k s a) whole_size
    where
      below : (a : ℤ) → unsigned_abs a < engine_limit → a <ℤ pos engine_limit
      below a small = omega (arith, ints, small)

  pub is_whole : (z : ℤ) → z ≡ row_whole k s a → IsWhole k s a z
  is_whole z is = record { value = is; positive = rw is whole_positive; size = rw is whole_size; room = rw is whole_numbers }

  -- ---- numbers of 64 bits

  pub first_total : total (corner_part weights place 0) ≡ row_whole k s a
  first_total = whole_stands 0 (pow_pos (row_parameters k row))

  -- where the whole is little, numbers of 64 bits hold each corner's sum
  pub lane_at : (x : List ℤ) → AreNumbers k x → row_whole k s a <ℤ pos (2 ^ (63 - k.w)) → (c : ℕ) → c < corner_count k s a → FitsLane (number x) (corner_part weights place c) (targets_of row)
  lane_at x numbers small c lt =
      let most = corner_sum_range laws k row spans is.asked.grid.positive is.asked.spans can.table.inside.rectangle can.table.inside.within of.admitted c (number x) (pos (2 ^ k.w)) (number_range k x numbers) in
      let room = lane_room k.w (row_whole k s a) (corner_sum k.d spans row c (number x)) (omega (arith, is.asked.precision.1)) small most.1 in
      record {
        weights_fit = rw (whole_stands c lt) room.0;
        sum_fits = rw (sum_stands c lt (number x)) room.1;
      }

  pub lane_at_corners : (x : List ℤ) → AreNumbers k x → row_whole k s a <ℤ pos (2 ^ (63 - k.w)) → FitsLaneAtCorners (number x) weights (targets_of row) place
  lane_at_corners x numbers small c lt = lane_at x numbers small c (omega (arith, lt, corners_all))

-- ---- bounds in a rectangle that is given by its spans

spans_back : (ss : Spans) → spans_of (sides_of ss) ≡ ss
spans_back [] = refl
spans_back (s ∷ ss) = ap (λ rest. s ∷ rest) (spans_back ss)

sides_inside : (root ss : Spans) → IsInside root ss → AreSidesInside root (sides_of ss)
sides_inside root ss inside = record {
  rectangle = record { paired = ap sides_of (spans_back ss); spans = subst AreSpans (sym (spans_back ss)) inside.rectangle };
  within = subst (λ (ss : Spans). Within ss root) (sym (spans_back ss)) inside.within;
}

module _ (laws : Premises) (k : CaseData) (s a : ℕ) (spans : Spans) (x : List ℤ) (is : IsCase k) (inside : IsInside k.root spans) (z : ℤ) where
  pub above : IsGreatest (row_value k spans s a x) (corner_count k s a) z → BoundsAbove k spans s a x z
  above = subst (λ (ss : Spans). IsGreatest (row_value k ss s a x) (corner_count k s a) z → BoundsAbove k ss s a x z) (spans_back spans) (bounds_above laws.affine k s a (sides_of spans) x is (sides_inside k.root spans inside) z)

  pub beneath : IsLeast (row_value k spans s a x) (corner_count k s a) z → BoundsBelow k spans s a x z
  beneath = subst (λ (ss : Spans). IsLeast (row_value k ss s a x) (corner_count k s a) z → BoundsBelow k ss s a x z) (spans_back spans) (bounds_below laws.affine k s a (sides_of spans) x is (sides_inside k.root spans inside) z)

  pub in_range : (n : ℕ) → s < length k.model.states → a < length (choices k.model s) → AreNumbers k x → IsGreatest (row_value k spans s a x) n z → (pos 0 ≤ℤ z) × (z ≤ℤ (pos (2 ^ k.w) *ℤ row_whole k s a))
  in_range n state choice numbers =
      subst (λ (ss : Spans). IsGreatest (row_value k ss s a x) n z → (pos 0 ≤ℤ z) × (z ≤ℤ (pos (2 ^ k.w) *ℤ row_whole k s a))) (spans_back spans) (greatest_range laws k s a n (sides_of spans) x z is (sides_inside k.root spans inside) state choice numbers)

-- the links know where a row stands
pub row_placed : (k : CaseData) (l : LinksData) (spans : Spans) (weights : List ℤ) (s a : ℕ) (p : RowPlace) → CanRead k l spans weights s a → p ≡ place_in_links l s a → IsRowPlace k.model l.targets l.firsts (row_at k.model s a) p
row_placed k l spans weights s a p can e = rw e (can.places.places s a can.row)
