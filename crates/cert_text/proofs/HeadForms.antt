-- What the lines of a head tell, and what may be asked to be admitted: the same, both ways.
use Rattle.std.proofs.Common.{◌≡◌, ◌≢◌, ℕ, zero, suc, ◌+◌, ◌-◌, ◌*◌, ◌/◌, ◌%◌, ◌^◌, ◌<◌, ◌≤◌, Bool, true, false, List, [], ◌∷◌, length, map, All, refl, sym, ap, subst, ◌∙◌, arith}
use Rattle.std.specs.Prelude.{Option, Some, None}
use Rattle.std.specs.Option.{unwrap_or}
use Rattle.std.specs.Prelude.{ℤ, pos, negsuc, ◌<ℤ◌, ◌≤ℤ◌, unsigned_abs, bit_or, count_ones, sum_by, int_lt, AllPairs, slice_index, slice_index_or, T, neg_ℤ}
use Rattle.std.specs.List.{AllByRecursion}
use Rattle.std.specs.Int.Signed.{lt_z_yes}
use Rattle.std.specs.List.Sorted.{IsStrictlyIncreasing}
use Rattle.std.proofs.lemmas.Int.{ints, unsigned_abs-mul}
use Rattle.std.proofs.lemmas.Bool.{eqb-true, eq-eqb}
use Rattle.std.proofs.lemmas.Nat.{or_lt, pow_pos}
use Rattle.std.proofs.lemmas.List.Elements.{All-from_recursion, recursion_from_All}
use Rattle.std.proofs.lemmas.List.Sums.{sum_by-cons}
use Rattle.lift_poly.proofs.Ring.{mul-comm, mul-neg}
use Rattle.std.proofs.Math.Nat.{mul-mod_left}
use Rattle.lift_poly.specs.Arithmetic as polynomial
use Rattle.lift_poly.specs.Polynomial.{Term}
use Rattle.lift_grid.specs.Rectangle.{Spans, AreSpans, IsMultiple, AreMultiples}
use Rattle.lift_model.specs.declared.entry.Entry.{Entry}
use Rattle.lift_model.specs.declared.kind.Kind.{Kind}
use Rattle.lift_model.specs.declared.kind.Kind.TheVariants.{Dtmc}
use Rattle.lift_model.specs.Valid.{IsEntry, IsRow}
use Rattle.cert_text.specs.Report.{goal_states}
use Rattle.lift_bytes.specs.Bytes.{is_name}
use Rattle.cert_text.specs.Head.{HeadData}
use Rattle.line_text.specs.Parts.{Words}
use Rattle.cert_text.specs.Lines.{is_multiple}
use Rattle.cert_text.specs.Forms.{IsShortName, IsSmallEntry, IsHead}
use Rattle.cert_text.proofs.Ones.{ones_within, first_within, last_within, regrouped, grouped, none_within, zero_within}
use Rattle.cert_text.proofs.FirstLines.{Fresh, Named, AreTerms}
use Rattle.cert_text.proofs.LaterLines.{AreBoxed}
use Rattle.cert_text.proofs.RowLaws.{AreEntries, AreRows, AreStates}
use Rattle.cert_text.proofs.HeadLaws.{HeadForm, Ranged}
use Rattle.cert_text.proofs.ModelOf.{model_of}

-- ---- names

pairs_head : {A : Type 0} (R : A → A → Type 0) (x : A) (xs : List A) → AllPairs R (x ∷ xs) → AllByRecursion (R x) xs
pairs_head R x xs h = recursion_from_All (R x) xs (λ j d lt. h 0 (suc j) d (omega arith) (omega arith))

pairs_tail : {A : Type 0} (R : A → A → Type 0) (x : A) (xs : List A) → AllPairs R (x ∷ xs) → AllPairs R xs
pairs_tail R x xs h = λ i j d lt low. h (suc i) (suc j) d (omega arith) (omega arith)

short_names : (before names : Words) → AllByRecursion (λ n. is_name n ≡ true) names → Named before names → AllByRecursion IsShortName names
short_names before [] f h = tt
short_names before (n ∷ names) f h = (record { form = f.0; short = h.1 }, short_names (n ∷ before) names f.1 h.2)

name_forms : (names : Words) → AllByRecursion IsShortName names → AllByRecursion (λ n. is_name n ≡ true) names
name_forms [] h = tt
name_forms (n ∷ names) h = (h.0.form, name_forms names h.1)

-- what is fresh behind some stays so behind one more that differs
fresh_more : {A : Type 0} (x : A) (before xs : List A) → AllByRecursion (λ y. Fresh y before) xs → AllByRecursion (λ y. x ≢ y) xs → AllByRecursion (λ y. Fresh y (x ∷ before)) xs
fresh_more x before [] h g = tt
fresh_more x before (y ∷ xs) h g = (((λ e. g.0 (sym e)), h.0), fresh_more x before xs h.1 g.1)

all_fresh : {A : Type 0} (xs : List A) → AllByRecursion (λ y. Fresh y []) xs
all_fresh [] = tt
all_fresh (x ∷ xs) = (tt, all_fresh xs)

named_from : (before names : Words) → AllByRecursion (λ n. Fresh n before) names → AllPairs (λ a b. a ≢ b) names → AllByRecursion IsShortName names → Named before names
named_from before [] f p h = tt
named_from before (n ∷ names) f p h = (f.0, h.0.short, named_from (n ∷ before) names (fresh_more n before names f.1 (pairs_head (λ a b. a ≢ b) n names p)) (pairs_tail (λ a b. a ≢ b) n names p) h.1)

-- ---- goal states

some_goals : (s : ℕ) (goal : List Bool) (k : ℕ) → k < length goal → slice_index_or goal k true ≡ true → 0 < length (goal_states s goal)
some_goals s [] k low e = absurd (omega (arith, low))
some_goals s (true ∷ goal) k low e = omega arith
some_goals s (false ∷ goal) zero low e = absurd cc
some_goals s (false ∷ goal) (suc k) low e = some_goals (s + 1) goal k (omega (arith, low)) e

-- ---- terms

-- ascending sets from that number on
abbrev Rising : ℕ → List Term → Type 0
Rising least [] = Unit {0}
Rising least (t ∷ terms) = (least ≤ t.0) × Rising (t.0 + 1) terms

rising_behind : (t : Term) (terms : List Term) → IsStrictlyIncreasing (map (λ term. term.0) (t ∷ terms)) → Rising (t.0 + 1) terms
rising_behind t [] h = tt
rising_behind t (u ∷ terms) h = (omega (arith, h 0 (omega arith)), rising_behind u terms (λ k lt. let next : suc k + 1 ≡ suc (k + 1) = omega arith in subst (λ j. slice_index (map (λ term. term.0) (t ∷ u ∷ terms)) (suc k) < slice_index (map (λ term. term.0) (t ∷ u ∷ terms)) j) next (h (suc k) (omega (arith, lt)))))

rising : (terms : List Term) → IsStrictlyIncreasing (map (λ term. term.0) terms) → Rising 0 terms
rising [] h = tt
rising (t ∷ terms) h = (omega arith, rising_behind t terms h)

sets_below : (parameters : ℕ) (terms : List Term) → AllByRecursion (λ term. term.0 < 2 ^ parameters) terms → polynomial.support terms < 2 ^ parameters
sets_below parameters [] h = pow_pos parameters
sets_below parameters (t ∷ terms) h = or_lt parameters t.0 (polynomial.support terms) h.0 (sets_below parameters terms h.1)

terms_from : (parameters seen least : ℕ) (terms : List Term) → seen < 2 ^ parameters → Rising least terms → AllByRecursion (λ term. term.0 < 2 ^ parameters) terms → AllByRecursion (λ term. term.1 ≢ pos 0) terms → AllByRecursion (λ term. unsigned_abs term.1 < 2 ^ 100) terms
    → count_ones (bit_or seen (polynomial.support terms)) ≤ 4 → AreTerms parameters seen least terms
terms_from parameters seen least [] within up low other small few = tt
terms_from parameters seen least (t ∷ terms) within up low other small few =
    let s = polynomial.support terms in
    let s_low = sets_below parameters terms low.1 in
    let st : bit_or seen t.0 < 2 ^ parameters = or_lt parameters seen t.0 within low.0 in
    let all : bit_or seen (bit_or t.0 s) < 2 ^ parameters = or_lt parameters seen (bit_or t.0 s) within (or_lt parameters t.0 s low.0 s_low) in
    let both : bit_or (bit_or seen t.0) s < 2 ^ parameters = or_lt parameters (bit_or seen t.0) s st s_low in
    let more : count_ones (bit_or (bit_or seen t.0) s) ≤ 4 = omega (arith, few, ones_within parameters (bit_or (bit_or seen t.0) s) (bit_or seen (bit_or t.0 s)) both all (regrouped seen t.0 s)) in
    (up.0, low.0, omega (arith, more, ones_within parameters (bit_or seen t.0) (bit_or (bit_or seen t.0) s) st both (first_within (bit_or seen t.0) s)), other.0, small.0, terms_from parameters (bit_or seen t.0) (t.0 + 1) terms st up.1 low.1 other.1 small.1 more)

terms_sets : (parameters seen least : ℕ) (terms : List Term) → AreTerms parameters seen least terms → AllByRecursion (λ term. term.0 < 2 ^ parameters) terms
terms_sets parameters seen least [] h = tt
terms_sets parameters seen least (t ∷ terms) h = (h.1, terms_sets parameters (bit_or seen t.0) (t.0 + 1) terms h.5)

terms_few : (parameters seen least : ℕ) (terms : List Term) → seen < 2 ^ parameters → count_ones seen ≤ 4 → AreTerms parameters seen least terms → count_ones (bit_or seen (polynomial.support terms)) ≤ 4
terms_few parameters seen least [] within few h = omega (arith, few, ones_within parameters (bit_or seen 0) seen (or_lt parameters seen 0 within (pow_pos parameters)) within (none_within seen))
terms_few parameters seen least (t ∷ terms) within few h =
    let s = polynomial.support terms in
    let s_low = sets_below parameters terms (terms_sets parameters (bit_or seen t.0) (t.0 + 1) terms h.5) in
    let st : bit_or seen t.0 < 2 ^ parameters = or_lt parameters seen t.0 within h.1 in
    let all : bit_or seen (bit_or t.0 s) < 2 ^ parameters = or_lt parameters seen (bit_or t.0 s) within (or_lt parameters t.0 s h.1 s_low) in
    let both : bit_or (bit_or seen t.0) s < 2 ^ parameters = or_lt parameters (bit_or seen t.0) s st s_low in
    omega (arith, terms_few parameters (bit_or seen t.0) (t.0 + 1) terms st h.2 h.5, ones_within parameters (bit_or seen (bit_or t.0 s)) (bit_or (bit_or seen t.0) s) all both (grouped seen t.0 s))

no_ones : count_ones 0 ≡ 0
unfolding lib.Count.ones
no_ones = refl

support_few : (parameters : ℕ) (terms : List Term) → AreTerms parameters 0 0 terms → count_ones (polynomial.support terms) ≤ 4
support_few parameters terms h =
    let s = polynomial.support terms in
    let s_low = sets_below parameters terms (terms_sets parameters 0 0 terms h) in
    omega (arith, terms_few parameters 0 0 terms (pow_pos parameters) (omega (arith, no_ones)) h, ones_within parameters s (bit_or 0 s) s_low (or_lt parameters 0 s (pow_pos parameters) s_low) (last_within 0 s))

few_support : (parameters : ℕ) (terms : List Term) → AllByRecursion (λ term. term.0 < 2 ^ parameters) terms → count_ones (polynomial.support terms) ≤ 4 → count_ones (bit_or 0 (polynomial.support terms)) ≤ 4
few_support parameters terms low few =
    let s = polynomial.support terms in
    let s_low = sets_below parameters terms low in
    omega (arith, few, ones_within parameters (bit_or 0 s) s (or_lt parameters 0 s (pow_pos parameters) s_low) s_low (zero_within s))

-- ---- entries and rows

-- an entry of a valid model, with few terms and parameters
record EntryForm (states parameters : ℕ) (e : Entry) : Type 0 where
  entry : IsEntry states parameters e
  small : IsSmallEntry e

record RowForm (states parameters : ℕ) (row : List Entry) : Type 0 where
  entries : AllByRecursion (EntryForm states parameters) row
  distinct : AllPairs (λ a b. a.target ≢ b.target) row

entry_terms : (states parameters : ℕ) (e : Entry) → EntryForm states parameters e → AreTerms parameters 0 0 e.poly
entry_terms states parameters e f =
    let sets = recursion_from_All (λ term. term.0 < 2 ^ parameters) e.poly f.entry.sets in
    terms_from parameters 0 0 e.poly (pow_pos parameters) (rising e.poly f.entry.polynomial.ascending) sets
    (recursion_from_All (λ term. term.1 ≢ pos 0) e.poly f.entry.polynomial.coefficients)
    (recursion_from_All (λ term. unsigned_abs term.1 < 2 ^ 100) e.poly f.entry.sizes)
    (few_support parameters e.poly sets f.small.parameters)

target_fresh : (t : ℕ) (before : List ℕ) (es : List Entry) → AllByRecursion (λ x. Fresh x.target before) es → AllByRecursion (λ x. t ≢ x.target) es → AllByRecursion (λ x. Fresh x.target (t ∷ before)) es
target_fresh t before [] h g = tt
target_fresh t before (x ∷ es) h g = (((λ e. g.0 (sym e)), h.0), target_fresh t before es h.1 g.1)

entries_from : (states parameters : ℕ) (before : List ℕ) (es : List Entry) → AllByRecursion (λ x. Fresh x.target before) es → AllPairs (λ a b. a.target ≢ b.target) es → AllByRecursion (EntryForm states parameters) es → AreEntries states parameters before es
entries_from states parameters before [] fresh apart h = tt
entries_from states parameters before (e ∷ es) fresh apart h =
    (h.0.entry.target, fresh.0, h.0.small.terms, entry_terms states parameters e h.0, entries_from states parameters (e.target ∷ before) es (target_fresh e.target before es fresh.1 (pairs_head (λ (a : Entry) (b : Entry). a.target ≢ b.target) e es apart)) (pairs_tail (λ (a : Entry) (b : Entry). a.target ≢ b.target) e es apart) h.1)

fresh_targets : (es : List Entry) → AllByRecursion (λ x. Fresh x.target []) es
fresh_targets [] = tt
fresh_targets (e ∷ es) = (tt, fresh_targets es)

rows_from : (states parameters choices transitions : ℕ) (rows : List (List Entry)) → length rows ≤ choices → sum_by length rows ≤ transitions → AllByRecursion (RowForm states parameters) rows → AreRows states parameters choices transitions rows
rows_from states parameters choices transitions [] few less h = tt
rows_from states parameters choices transitions (row ∷ rows) few less h =
    let all = sum_by-cons length row rows in (
      (omega (arith, few), omega (arith, less, all), entries_from states parameters [] row (fresh_targets row) h.0.distinct h.0.entries),
      rows_from states parameters (choices - 1) (transitions - length row) rows (omega (arith, few)) (omega (arith, less, all)) h.1,
    )

states_from : (kind : Kind) (states parameters choices transitions : ℕ) (all : List (List (List Entry))) → sum_by length all ≤ choices → sum_by (sum_by length) all ≤ transitions → AllByRecursion (λ rows. 1 ≤ length rows) all → (kind ≡ Dtmc → AllByRecursion (λ rows. length rows ≡ 1) all)
    → AllByRecursion (AllByRecursion (RowForm states parameters)) all → AreStates kind states parameters choices transitions all
states_from kind states parameters choices transitions [] few less some one h = tt
states_from kind states parameters choices transitions (rows ∷ all) few less some one h =
    let a = sum_by-cons length rows all in
    let b = sum_by-cons (sum_by length) rows all in (
      record { some = omega (arith, some.0); one = λ chain. (one chain).0; rows_fit = rows_from states parameters choices transitions rows (omega (arith, few, a)) (omega (arith, less, b)) h.0 },
      states_from kind states parameters (choices - length rows) (transitions - sum_by length rows) all (omega (arith, few, a)) (omega (arith, less, b)) some.1 (λ chain. (one chain).1) h.1,
    )

-- ---- small entries

small_entries : (states parameters : ℕ) (before : List ℕ) (es : List Entry) → AreEntries states parameters before es → AllByRecursion IsSmallEntry es
small_entries states parameters before [] h = tt
small_entries states parameters before (e ∷ es) (low, fresh, few, terms, more) = (record { terms = few; parameters = support_few parameters e.poly terms }, small_entries states parameters (e.target ∷ before) es more)

small_rows : (states parameters choices transitions : ℕ) (rows : List (List Entry)) → AreRows states parameters choices transitions rows → AllByRecursion (All IsSmallEntry) rows
small_rows states parameters choices transitions [] h = tt
small_rows states parameters choices transitions (row ∷ rows) h = (All-from_recursion IsSmallEntry row (small_entries states parameters [] row h.0.2), small_rows states parameters (choices - 1) (transitions - length row) rows h.1)

small_states : (kind : Kind) (states parameters choices transitions : ℕ) (all : List (List (List Entry))) → AreStates kind states parameters choices transitions all → AllByRecursion (All (All IsSmallEntry)) all
small_states kind states parameters choices transitions [] h = tt
small_states kind states parameters choices transitions (rows ∷ all) h =
    (All-from_recursion (All IsSmallEntry) rows (small_rows states parameters choices transitions rows h.0.rows_fit), small_states kind states parameters (choices - length rows) (transitions - sum_by length rows) all h.1)

row_forms : (states parameters : ℕ) (row : List Entry) → IsRow states parameters row → All IsSmallEntry row → RowForm states parameters row
row_forms states parameters row r s = record { entries = recursion_from_All (EntryForm states parameters) row (λ i d low. record { entry = r.entries i d low; small = s i d low }); distinct = r.distinct }

all_forms : (states parameters : ℕ) (all : List (List (List Entry))) → All (All (IsRow states parameters)) all → All (All (All IsSmallEntry)) all → AllByRecursion (AllByRecursion (RowForm states parameters)) all
all_forms states parameters all r s = recursion_from_All (AllByRecursion (RowForm states parameters)) all (λ i d low. recursion_from_All (RowForm states parameters) (slice_index_or all i d) (λ j f below. row_forms states parameters (slice_index_or (slice_index_or all i d) j f) (r i d low j f below) (s i d low j f below)))

-- ---- the box

is_below : (a b : ℤ) → int_lt a b ≡ true → a <ℤ b
is_below a b e = lt_z_yes (subst T (sym e) tt)

below_is : (a b : ℤ) → a <ℤ b → int_lt a b ≡ true
below_is a b h = yes_of (int_lt a b) h.lt
  where
    yes_of : (t : Bool) → T t → t ≡ true
    yes_of true h = refl
    yes_of false h = absurd h

multiple_of : (n : ℕ) (z : ℤ) → 0 < n → is_multiple n z ≡ true → IsMultiple n z
multiple_of n (pos m) some e = let none : m % n ≡ 0 = eqb-true (m % n) 0 e in (pos (m / n), ap pos (whole m n some none))
  where
    whole : (m n : ℕ) → 0 < n → m % n ≡ 0 → m ≡ m / n * n
    whole m n some e = grind (arith, e, some)
multiple_of n (negsuc m) some e =
    let none : suc m % n ≡ 0 = eqb-true (suc m % n) 0 e in
    let q : ℕ = suc m / n in
    (neg_ℤ (pos q), ap (λ x. neg_ℤ (pos x)) (whole (suc m) n some none ∙ mul-comm-nat q n) ∙ sym (mul-neg (pos n) (pos q)) ∙ mul-comm (pos n) (neg_ℤ (pos q)))
  where
    whole : (m n : ℕ) → 0 < n → m % n ≡ 0 → m ≡ m / n * n
    whole m n some e = grind (arith, e, some)

    mul-comm-nat : (a b : ℕ) → a * b ≡ b * a
    mul-comm-nat a b = grind arith

of_multiple : (n : ℕ) (z : ℤ) → 0 < n → IsMultiple n z → is_multiple n z ≡ true
of_multiple n z some h = eq-eqb (unsigned_abs z % n) 0 (ap (λ x. unsigned_abs x % n) h.1 ∙ ap (λ x. x % n) (unsigned_abs-mul h.0 (pos n)) ∙ mul-mod_left (unsigned_abs h.0) n)

pub boxed_spans : (n : ℕ) (ss : Spans) → AreBoxed n ss → AreSpans ss
boxed_spans n [] h = tt
boxed_spans n (s ∷ ss) h = (record { rising = is_below s.0 s.1 h.0; low = h.2; high = h.4 }, boxed_spans n ss h.5)

boxed_multiples : (n : ℕ) (ss : Spans) → 0 < n → AreBoxed n ss → AreMultiples n ss
boxed_multiples n [] some h = tt
boxed_multiples n (s ∷ ss) some h = ((multiple_of n s.0 some h.1, multiple_of n s.1 some h.3), boxed_multiples n ss some h.5)

boxed_from : (n : ℕ) (ss : Spans) → 0 < n → AreSpans ss → AreMultiples n ss → AreBoxed n ss
boxed_from n [] some h g = tt
boxed_from n (s ∷ ss) some h g = (below_is s.0 s.1 h.0.rising, of_multiple n s.0 some g.0.0, h.0.low, of_multiple n s.1 some g.0.1, h.0.high, boxed_from n ss some h.1 g.1)

-- ---- the head

number_of_range : (low end : ℕ) (z : ℤ) → pos low ≤ℤ z → z <ℤ pos end → Ranged low end z
number_of_range low end (pos n) h g = (n, refl, omega (arith, ints, h), omega (arith, ints, g))
number_of_range low end (negsuc n) h g = absurd (omega (arith, ints, h))

least_some : (from : Option ℕ) (w : ℕ) → 1 ≤ unwrap_or from 1 → 1 ≤ w → 1 ≤ unwrap_or from w
least_some None w some low = low
least_some (Some v) w some low = some

reported_some : (from : Option ℕ) (w : ℕ) → 1 ≤ unwrap_or from w → 1 ≤ unwrap_or from 1
reported_some None w some = omega arith
reported_some (Some v) w some = some

pub form_head : (h : HeadData) → HeadForm h → IsHead h
form_head h k =
    let m = h.asked.model in
    let s : ℕ = length m.states in
    let p : ℕ = length m.names in
    record {
      asked = record {
        model = model_of h k;
        spans = boxed_spans (2 ^ h.asked.depth) h.asked.root k.box.spans;
        grid = record {
          positive = subst (λ z. pos 0 <ℤ z) (sym k.grid.1) (omega (arith, ints, k.grid.2));
          small = subst (λ z. unsigned_abs z < 2 ^ 62) (sym k.grid.1) k.grid.3;
          one_each = k.box.size;
          multiples = boxed_multiples (2 ^ h.asked.depth) h.asked.root (pow_pos h.asked.depth) k.box.spans;
        };
        depth = omega (arith, k.depth);
        precision = (k.w.0, omega (arith, k.w.1));
      };
      names = All-from_recursion IsShortName m.names (short_names [] m.names k.declared.forms k.declared.named);
      entries = All-from_recursion (All (All IsSmallEntry)) m.states (small_states m.kind s p 131072 262144 m.states k.rows);
      bound = record { parts = record { lowest = k.bound.lowest; most = k.bound.most; positive = k.bound.positive }; small = k.bound.small };
      range = (least_some h.from h.asked.w k.range.0 k.w.0, k.range.1);
    }

pub head_form : (h : HeadData) → IsHead h → HeadForm h
head_form h k =
    let m = h.asked.model in
    let s : ℕ = length m.states in
    let p : ℕ = length m.names in
    let v = k.asked.model in
    let names = recursion_from_All IsShortName m.names k.names in
    record {
      declared = record { few = v.parameters.0; forms = name_forms m.names names; named = named_from [] m.names (all_fresh m.names) v.parameters.1 names };
      common = number_of_range 1 (2 ^ 62) m.common v.denominator.0 (omega (arith, ints, v.denominator.1));
      states = (v.count.0, omega (arith, v.count.1));
      init = v.first;
      goals = record { size = v.goals; some = some_goals 0 m.goal v.some_goal.0 v.some_goal.1 v.some_goal.2 };
      rows = states_from m.kind s p 131072 262144 m.states v.choices v.transitions (recursion_from_All (λ rows. 1 ≤ length rows) m.states v.some_choice) (λ chain. recursion_from_All (λ rows. length rows ≡ 1) m.states (v.one_choice chain))
          (all_forms s p m.states v.rows k.entries);
      bound = record { positive = k.bound.parts.positive; lowest = k.bound.parts.lowest; most = k.bound.parts.most; small = k.bound.small };
      w = (k.asked.precision.0, omega (arith, k.asked.precision.1));
      range = (reported_some h.from h.asked.w k.range.0, k.range.1);
      depth = omega (arith, k.asked.depth);
      grid = in_grid h.asked.d k.asked.grid.positive k.asked.grid.small;
      box = record { size = k.asked.grid.one_each; spans = boxed_from (2 ^ h.asked.depth) h.asked.root (pow_pos h.asked.depth) k.asked.spans k.asked.grid.multiples };
    }
  where
    in_grid : (z : ℤ) → pos 0 <ℤ z → unsigned_abs z < 2 ^ 62 → Ranged 1 (2 ^ 62) z
    in_grid (pos n) a b = (n, refl, omega (arith, ints, a), b)
    in_grid (negsuc n) a b = absurd (omega (arith, ints, a))
