-- Nodes and heads that are cut off a text by its lines.
use Rattle.std.proofs.Common.{◌≡◌, ◌∙◌, ℕ, zero, suc, ◌+◌, ◌-◌, ◌^◌, ◌<◌, ◌≤◌, min, Ok, Bool, true, false, if◌then◌else◌, IfSome, IfNone, option_map, int_le, unsigned_abs, pos, ap₂, Option, Some, None, List, [], ◌∷◌, ◌++◌, length, take, drop, map, refl, sym, ap, subst, arith, append-nil, append_assoc, length-append, codes, nat_eq, ℤ}
use Prim.Native.Char.{code}
use Rattle.std.specs.List.{AllByRecursion, concat, flat_map, join_with_byte, position_or_len, starts_with}
use Rattle.std.specs.Fmt.{decimal, signed_decimal}
use Rattle.std.proofs.lemmas.List.Folds.{concat-append}
use Rattle.lift_base.specs.Lines.{LinesData, KeepsLimit, fresh, is_feed}
use Rattle.lift_base.specs.declared.pieces.LineError.{LineError}
use Rattle.lift_grid.specs.Tree.{RejectData}
use Rattle.lift_model.specs.Valid.{most_parameters}
use Rattle.line_text.specs.Words.{number_of, words}
use Rattle.line_text.specs.Parts.{first}
use Rattle.line_text.specs.Shown.{first_of}
use Rattle.lift_poly.proofs.Ring.{linear, test_from_le}
use Rattle.line_text.specs.Reading.{Cursor}
use Rattle.line_text.specs.Follow.{Follows, place}
use Rattle.line_text.specs.Laws.{EndsWithin}
use Rattle.cert_text.specs.Report.{line, version_words, model_lines, asked_lines, from_lines, scale_lines, top_lines, region_lines, number_words, numbers_words, reject_words, mark_word, split_line, at_line, at_lines, accept_line, reject_lines, unknown_line}
use Rattle.std.specs.Prelude.{is_some}
use Rattle.corner_lift.specs.Case.{CaseData, number}
use Rattle.cert_text.specs.Head.{HeadData, head_at}
use Rattle.cert_text.specs.Forms.{IsHead, IsNode}
use Rattle.cert_text.specs.Laws.{reported_lines}
use Rattle.cert_text.specs.Nodes.{Node, split, accept, reject, unknown, node_lines}
use Rattle.cert_text.specs.Migrated.{lines_of}
use Rattle.cert_text.specs.Cut.{node_bytes, IsSplitOn, IsAcceptOf, IsRejectOf, IsOpenLeaf, CutsHead, HeadsAreCut, IsBehind, lines_ahead, top_bytes}
use Rattle.cert_text.proofs.ReportLaws.{heads_back}
use Rattle.cert_text.proofs.Steps.{ok_is}
use Rattle.cert_text.proofs.Decimals.{number_again}
use Rattle.cert_text.proofs.CutLines.{every_back, every_front, feed_at, line_join, no_feeds, words_join}
use Rattle.cert_text.proofs.Fits.{key_fits, number_line}
use Rattle.cert_text.proofs.Lines.{line-names}
use Rattle.cert_text.proofs.HeadForms.{head_form}
use Rattle.cert_text.proofs.HeadLaws.{inverts_head}
use Rattle.cert_text.proofs.NodeLaws.{inverts_node}
use Rattle.cert_text.proofs.SecondLines.{line_ended, head_ended}
use Rattle.cert_text.proofs.TextLines.{IsEnded, IsTextLine, one_each, lines_ahead_reported, concat_lines}

abbrev Lines : Type 0
Lines = List (List ℕ)

-- ---- lists

take_front : {A : Type 0} (xs ys : List A) → take (length xs) (xs ++ ys) ≡ xs
take_front [] ys = refl
take_front (x ∷ xs) ys = ap (λ zs. x ∷ zs) (take_front xs ys)

drop_front : {A : Type 0} (xs ys : List A) → drop (length xs) (xs ++ ys) ≡ ys
drop_front [] ys = refl
drop_front (x ∷ xs) ys = drop_front xs ys

take_and_drop : {A : Type 0} (n : ℕ) (xs : List A) → take n xs ++ drop n xs ≡ xs
take_and_drop zero xs = refl
take_and_drop (suc n) [] = refl
take_and_drop (suc n) (x ∷ xs) = ap (λ zs. x ∷ zs) (take_and_drop n xs)

drop_one_more : {A : Type 0} (n : ℕ) (xs : List A) → drop 1 (drop n xs) ≡ drop (suc n) xs
drop_one_more zero xs = refl
drop_one_more (suc n) [] = refl
drop_one_more (suc n) (x ∷ xs) = drop_one_more n xs

-- ---- what stands behind lines

pub behind_none : (text : List ℕ) → length text ≡ 0 → IsBehind 1 text text
behind_none [] none = refl
behind_none (b ∷ text) none = absurd (omega (arith, none))

pub behind_next : (n m : ℕ) (text rest behind : List ℕ) → m ≡ n + 1 → IsBehind n text rest → IsBehind 1 rest behind → IsBehind m text behind
behind_next n m text rest behind is first next =
    let more : m ≡ suc n = omega (arith, is) in
    next ∙ ap (drop 1) first ∙ drop_one_more n (lines_of text) ∙ ap (λ (k : ℕ). drop k (lines_of text)) (sym more)

-- a text is its first lines and what stands behind them
parted : (n : ℕ) (text behind : List ℕ) → IsBehind n text behind → text ≡ concat (take n (lines_of text)) ++ behind
parted n text behind is =
    let ls = lines_of text in
    sym (concat_lines text) ∙ ap concat (sym (take_and_drop n ls)) ∙ concat-append (take n ls) (drop n ls)
    ∙ ap (λ (x : List ℕ). concat (take n ls) ++ x) (ap concat (sym is) ∙ concat_lines behind)

pub behind_shorter : (n : ℕ) (text behind : List ℕ) → IsBehind n text behind → length behind ≤ length text
behind_shorter n text behind is = let front = concat (take n (lines_of text)) in omega (arith, ap length (parted n text behind is), length-append front behind)

pub front_is : (n : ℕ) (text behind : List ℕ) (len : ℕ) → IsBehind n text behind → len + length behind ≡ length text → take len text ≡ concat (take n (lines_of text))
front_is n text behind len is sum =
    let front = concat (take n (lines_of text)) in
    let whole = parted n text behind is in
    let len_is : len ≡ length front = omega (arith, sum, ap length whole, length-append front behind) in
    ap (λ (k : ℕ). take k text) len_is ∙ ap (take (length front)) whole ∙ take_front front behind

-- told lines that begin a text are cut off, as many as they are
cut_all : (ls : Lines) (n : ℕ) (text rest front back : List ℕ) → AllByRecursion IsTextLine ls → n ≡ length ls → text ≡ concat ls ++ rest → front ≡ concat (take n (lines_of text)) → IsBehind n text back → (front ≡ concat ls) × (back ≡ rest)
cut_all ls n text rest front back all count is before behind =
    let whole : lines_of text ≡ ls ++ lines_of rest = ap lines_of is ∙ lines_ahead_reported ls rest all in
    let first : take n (lines_of text) ≡ ls = ap (take n) whole ∙ ap (λ (k : ℕ). take k (ls ++ lines_of rest)) count ∙ take_front ls (lines_of rest) in
    let last : lines_of back ≡ lines_of rest = behind ∙ ap (drop n) whole ∙ ap (λ (k : ℕ). drop k (ls ++ lines_of rest)) count ∙ drop_front ls (lines_of rest) in
    (before ∙ ap concat first, sym (concat_lines back) ∙ ap concat last ∙ concat_lines rest)

-- so is what stands behind them
left_all : (ls : Lines) (n : ℕ) (text rest back : List ℕ) → AllByRecursion IsTextLine ls → n ≡ length ls → text ≡ concat ls ++ rest → IsBehind n text back → back ≡ rest
left_all ls n text rest back all count is behind = (cut_all ls n text rest (concat (take n (lines_of text))) back all count is refl behind).1

-- ---- the lines of nodes and heads

reported_ended : (from : Option ℕ) (u : ℕ) (more : Lines) → AllByRecursion IsEnded more → AllByRecursion IsEnded (at_lines from u ++ more)
reported_ended None u more all = all
reported_ended (Some v) u more all = (line_ended (number_words (codes "at") u), all)

node_ended : (from : Option ℕ) (init : ℕ) (node : Node) → AllByRecursion IsEnded (node_lines from init node)
node_ended from init (split axis) = (line_ended (number_words (codes "split") axis), tt)
node_ended from init (accept u x) = reported_ended from u (accept_line x ∷ []) (line_ended (numbers_words (codes "accept") x), tt)
node_ended from init (reject u r) =
    reported_ended from u (reject_lines init u r)
    (line_ended (reject_words r.e r.k (number r.numbers init) (2 ^ u)), (line_ended (numbers_words (codes "y") r.numbers), (line_ended (codes "choice" ∷ map mark_word r.picks), (line_ended (codes "rank" ∷ map mark_word r.ranks), tt))))
node_ended from init unknown = (line_ended (codes "unknown" ∷ []), tt)

node_reported : (h : HeadData) (node : Node) → IsHead h → IsNode h node → AllByRecursion IsTextLine (node_lines h.from h.asked.model.init node)
node_reported h node is fit =
    let ls = node_lines h.from h.asked.model.init node in
    one_each ls (node_ended h.from h.asked.model.init node) ((inverts_node h (head_form h is)).feeds node ls (refl, fit))

head_reported : (h : HeadData) → IsHead h → AllByRecursion IsTextLine (reported_lines h)
head_reported h is = one_each (reported_lines h) (head_ended h.asked h.from h.bound) (inverts_head.feeds h (reported_lines h) (refl, head_form h is))

-- ---- with what a node begins

-- the first bytes of a leaf that decides, and of a node
leaf_key : List ℕ → Option ℕ → List ℕ
leaf_key word None = word
leaf_key word (Some v) = codes "at "

first_key : Option ℕ → Node → List ℕ
first_key from (split axis) = codes "split"
first_key from (accept u x) = leaf_key (codes "accept") from
first_key from (reject u r) = leaf_key (codes "reject") from
first_key from unknown = codes "unknown"

accept_begins : (x : List ℤ) (rest : List ℕ) → (more : List ℕ) × (concat (accept_line x ∷ []) ++ rest ≡ codes "accept" ++ more)
accept_begins x rest =
    let behind : List ℕ = flat_map (λ word. code " " ∷ word) (map signed_decimal x) ++ codes "\n" in
    ((behind ++ []) ++ rest, ap (λ (t : List ℕ). (t ++ []) ++ rest) (line-names (codes "accept") (map signed_decimal x)))

reject_begins : (init u : ℕ) (r : RejectData) (rest : List ℕ) → (more : List ℕ) × (concat (reject_lines init u r) ++ rest ≡ codes "reject" ++ more)
reject_begins init u r rest = (_, refl)

node_begins : (from : Option ℕ) (init : ℕ) (node : Node) (rest : List ℕ) → (more : List ℕ) × (concat (node_lines from init node) ++ rest ≡ first_key from node ++ more)
unfolding first_key leaf_key
node_begins from init (split axis) rest = (_, refl)
node_begins None init (accept u x) rest = accept_begins x rest
node_begins (Some v) init (accept u x) rest = (_, refl)
node_begins None init (reject u r) rest = reject_begins init u r rest
node_begins (Some v) init (reject u r) rest = (_, refl)
node_begins from init unknown rest = (_, refl)

abbrev begins : List ℕ → List ℕ → Bool
begins text key = starts_with nat_eq text key

is_split : Node → Bool
is_split (split axis) = true
is_split _ = false

is_open : Node → Bool
is_open unknown = true
is_open _ = false

split_test : (from : Option ℕ) (node : Node) (more : List ℕ) → begins (first_key from node ++ more) (codes "split") ≡ is_split node
unfolding first_key leaf_key is_split
split_test from (split axis) more = refl
split_test None (accept u x) more = refl
split_test (Some v) (accept u x) more = refl
split_test None (reject u r) more = refl
split_test (Some v) (reject u r) more = refl
split_test from unknown more = refl

open_test : (from : Option ℕ) (node : Node) (more : List ℕ) → begins (first_key from node ++ more) (codes "unknown") ≡ is_open node
unfolding first_key leaf_key is_open
open_test from (split axis) more = refl
open_test None (accept u x) more = refl
open_test (Some v) (accept u x) more = refl
open_test None (reject u r) more = refl
open_test (Some v) (reject u r) more = refl
open_test from unknown more = refl

split_reported : (h : HeadData) (node : Node) (text rest : List ℕ) → text ≡ node_bytes h node ++ rest → begins text (codes "split") ≡ is_split node
split_reported h node text rest e =
    let (more, is) = node_begins h.from h.asked.model.init node rest in
    ap (λ (t : List ℕ). begins t (codes "split")) (e ∙ is) ∙ split_test h.from node more

open_reported : (h : HeadData) (node : Node) (text rest : List ℕ) → text ≡ node_bytes h node ++ rest → begins text (codes "unknown") ≡ is_open node
open_reported h node text rest e =
    let (more, is) = node_begins h.from h.asked.model.init node rest in
    ap (λ (t : List ℕ). begins t (codes "unknown")) (e ∙ is) ∙ open_test h.from node more

-- ---- a node

pub cut_split : (h : HeadData) (node : Node) (rest text : List ℕ) (i : ℕ) (back : List ℕ) → IsHead h → IsNode h node → text ≡ node_bytes h node ++ rest → begins text (codes "split") ≡ true
    → ((axis : ℕ) (more : List ℕ) → axis < most_parameters → text ≡ split_line axis ++ more → i ≡ axis) → IsBehind 1 text back → IsSplitOn node i × (back ≡ rest)
unfolding is_split
cut_split h (split axis) rest text i back is fit e begun reported behind = (
  reported axis rest (omega (arith, fit, (head_form h is).declared.few)) (e ∙ ap (λ (t : List ℕ). t ++ rest) (append-nil (split_line axis))),
  left_all (split_line axis ∷ []) 1 text rest back (node_reported h (split axis) is fit) refl e behind,
)
cut_split h (accept u x) rest text i back is fit e begun reported behind = let no : true ≡ false = sym begun ∙ split_reported h (accept u x) text rest e in absurd cc
cut_split h (reject u r) rest text i back is fit e begun reported behind = let no : true ≡ false = sym begun ∙ split_reported h (reject u r) text rest e in absurd cc
cut_split h unknown rest text i back is fit e begun reported behind = let no : true ≡ false = sym begun ∙ split_reported h unknown text rest e in absurd cc

pub cut_open : (h : HeadData) (node : Node) (rest text back : List ℕ) → IsHead h → IsNode h node → text ≡ node_bytes h node ++ rest → begins text (codes "unknown") ≡ true → IsBehind 1 text back → IsOpenLeaf node × (back ≡ rest)
unfolding is_open
cut_open h (split axis) rest text back is fit e begun behind = let no : true ≡ false = sym begun ∙ open_reported h (split axis) text rest e in absurd cc
cut_open h (accept u x) rest text back is fit e begun behind = let no : true ≡ false = sym begun ∙ open_reported h (accept u x) text rest e in absurd cc
cut_open h (reject u r) rest text back is fit e begun behind = let no : true ≡ false = sym begun ∙ open_reported h (reject u r) text rest e in absurd cc
cut_open h unknown rest text back is fit e begun behind = (tt, left_all (unknown_line ∷ []) 1 text rest back (node_reported h unknown is fit) refl e behind)

-- ---- a leaf that decides

-- the lines of a leaf, behind that of its precision
module _ (h : HeadData) (u : ℕ) (leaf : Lines) (text rest : List ℕ) (e : text ≡ concat (at_lines h.from u ++ leaf) ++ rest) (all : AllByRecursion IsTextLine (at_lines h.from u ++ leaf)) where
  behind_reported : (ahead : ℕ) (b : List ℕ) → ahead ≡ length (at_lines h.from u) → IsBehind ahead text b → b ≡ concat leaf ++ rest
  behind_reported ahead b count behind =
      let first = at_lines h.from u in
      left_all first ahead text (concat leaf ++ rest) b (every_front IsTextLine first leaf all) count (e ∙ ap (λ (t : List ℕ). t ++ rest) (concat-append first leaf) ∙ append_assoc (concat first) (concat leaf) rest) behind

  cut_reported : (n : ℕ) (front back : List ℕ) → n ≡ length (at_lines h.from u) + length leaf → front ≡ concat (take n (lines_of text)) → IsBehind n text back → (front ≡ concat (at_lines h.from u ++ leaf)) × (back ≡ rest)
  cut_reported n front back count before behind = cut_all (at_lines h.from u ++ leaf) n text rest front back all (omega (arith, count, length-append (at_lines h.from u) leaf)) e before behind

accept_ahead : (from : Option ℕ) (u : ℕ) (x : List ℤ) (more : List ℕ) → lines_ahead (first_key from (accept u x) ++ more) ≡ length (at_lines from u)
unfolding first_key leaf_key
accept_ahead None u x more = refl
accept_ahead (Some v) u x more = refl

reject_ahead : (from : Option ℕ) (u : ℕ) (r : RejectData) (more : List ℕ) → lines_ahead (first_key from (reject u r) ++ more) ≡ length (at_lines from u)
unfolding first_key leaf_key
reject_ahead None u r more = refl
reject_ahead (Some v) u r more = refl

accept_counted : (h : HeadData) (u : ℕ) (x : List ℤ) (text rest : List ℕ) → text ≡ node_bytes h (accept u x) ++ rest → lines_ahead text ≡ length (at_lines h.from u)
accept_counted h u x text rest e = let (more, is) = node_begins h.from h.asked.model.init (accept u x) rest in ap lines_ahead (e ∙ is) ∙ accept_ahead h.from u x more

reject_counted : (h : HeadData) (u : ℕ) (r : RejectData) (text rest : List ℕ) → text ≡ node_bytes h (reject u r) ++ rest → lines_ahead text ≡ length (at_lines h.from u)
reject_counted h u r text rest e = let (more, is) = node_begins h.from h.asked.model.init (reject u r) rest in ap lines_ahead (e ∙ is) ∙ reject_ahead h.from u r more

pub few_ahead : (text : List ℕ) → lines_ahead text ≤ 1
few_ahead text = by (begins text (codes "at "))
  where
    by : (b : Bool) → (if b then 1 else 0) ≤ 1
    by true = omega arith
    by false = omega arith

-- the text of a leaf begins neither with a split nor with an unknown leaf
pub record IsLeafText (text : List ℕ) (ahead : ℕ) (b : List ℕ) (accepts : Bool) : Type 0 where
  pub split : begins text (codes "split") ≡ false
  pub unknown : begins text (codes "unknown") ≡ false
  pub ahead_is : ahead ≡ lines_ahead text
  pub behind : IsBehind ahead text b
  pub accepts_is : begins b (codes "accept") ≡ accepts

pub cut_accept : (h : HeadData) (node : Node) (rest text : List ℕ) (ahead n : ℕ) (b front back : List ℕ) → IsHead h → IsNode h node → text ≡ node_bytes h node ++ rest → IsLeafText text ahead b true → n ≡ ahead + 1
    → front ≡ concat (take n (lines_of text)) → IsBehind n text back → IsAcceptOf h node front × (back ≡ rest)
unfolding is_split is_open
cut_accept h (split axis) rest text ahead n b front back is fit e leaf count before behind = let no : false ≡ true = sym leaf.split ∙ split_reported h (split axis) text rest e in absurd cc
cut_accept h unknown rest text ahead n b front back is fit e leaf count before behind = let no : false ≡ true = sym leaf.unknown ∙ open_reported h unknown text rest e in absurd cc
cut_accept h (accept u x) rest text ahead n b front back is fit e leaf count before behind =
    let one : length (accept_line x ∷ []) ≡ 1 = refl in
    cut_reported h u (accept_line x ∷ []) text rest e (node_reported h (accept u x) is fit) n front back (omega (arith, count, leaf.ahead_is, accept_counted h u x text rest e, one)) before behind
cut_accept h (reject u r) rest text ahead n b front back is fit e leaf count before behind =
    let ls = reject_lines h.asked.model.init u r in
    let b_is = behind_reported h u ls text rest e (node_reported h (reject u r) is fit) ahead b (leaf.ahead_is ∙ reject_counted h u r text rest e) leaf.behind in
    let (more, begun) = reject_begins h.asked.model.init u r rest in
    let no : true ≡ false = sym leaf.accepts_is ∙ ap (λ (t : List ℕ). begins t (codes "accept")) (b_is ∙ begun) in absurd cc

pub cut_reject : (h : HeadData) (node : Node) (rest text : List ℕ) (ahead n : ℕ) (b front back : List ℕ) → IsHead h → IsNode h node → text ≡ node_bytes h node ++ rest → IsLeafText text ahead b false → n ≡ ahead + 4
    → front ≡ concat (take n (lines_of text)) → IsBehind n text back → IsRejectOf h node front × (back ≡ rest)
unfolding is_split is_open
cut_reject h (split axis) rest text ahead n b front back is fit e leaf count before behind = let no : false ≡ true = sym leaf.split ∙ split_reported h (split axis) text rest e in absurd cc
cut_reject h unknown rest text ahead n b front back is fit e leaf count before behind = let no : false ≡ true = sym leaf.unknown ∙ open_reported h unknown text rest e in absurd cc
cut_reject h (accept u x) rest text ahead n b front back is fit e leaf count before behind =
    let ls = accept_line x ∷ [] in
    let b_is = behind_reported h u ls text rest e (node_reported h (accept u x) is fit) ahead b (leaf.ahead_is ∙ accept_counted h u x text rest e) leaf.behind in
    let (more, begun) = accept_begins x rest in
    let no : false ≡ true = sym leaf.accepts_is ∙ ap (λ (t : List ℕ). begins t (codes "accept")) (b_is ∙ begun) in absurd cc
cut_reject h (reject u r) rest text ahead n b front back is fit e leaf count before behind =
    let four : length (reject_lines h.asked.model.init u r) ≡ 4 = refl in
    cut_reported h u (reject_lines h.asked.model.init u r) text rest e (node_reported h (reject u r) is fit) n front back (omega (arith, count, leaf.ahead_is, reject_counted h u r text rest e, four)) before behind

-- ---- the parameter of a split

-- the line of a split, without its line feed, and its words
pub split_words : (axis : ℕ) (rest text : List ℕ) (len : ℕ) → axis < most_parameters → text ≡ split_line axis ++ rest → len ≡ position_or_len is_feed text → words (take len text) ≡ number_words (codes "split") axis
split_words axis rest text len low e is =
    let ws = number_words (codes "split") axis in
    let fits = number_line (codes "split") axis (key_fits 22 (codes "split") refl refl) (omega (arith, low)) in
    let t = join_with_byte 32 ws in
    let whole : text ≡ t ++ 10 ∷ rest = e ∙ ap (λ (x : List ℕ). x ++ rest) (line_join ws fits.some) ∙ append_assoc t (10 ∷ []) rest in
    let at : len ≡ length t = is ∙ ap (position_or_len is_feed) whole ∙ feed_at t rest (no_feeds ws fits.words) in
    ap words (ap (λ (k : ℕ). take k text) at ∙ ap (take (length t)) whole ∙ take_front t (10 ∷ rest)) ∙ words_join ws fits.some fits.words

-- the words behind the first one begin with the number
second_given : (key : List ℕ) (n : ℕ) (ws behind : List (List ℕ)) (word : List ℕ) → n < most_parameters → ws ≡ number_words key n → first ws ≡ Ok (word, behind) → first_of number_of behind ≡ Some (pos n, [])
second_given key n ws behind word low is reported =
    let parts : (word, behind) ≡ (key, decimal n ∷ []) = ok_is (word, behind) (key, decimal n ∷ []) (sym reported ∙ ap first is) in
    let behind_is : behind ≡ decimal n ∷ [] = ap (λ (p : List ℕ × List (List ℕ)). p.1) parts in
    ap (first_of number_of) behind_is ∙ ap (option_map (λ (z : ℤ). (z, []))) (number_again (pos n) (omega (arith, low)))

some_is : {A : Type 0} (x y : A) → Some x ≡ Some y → x ≡ y
some_is x y e = cc

pub second_is : (key : List ℕ) (n : ℕ) (ws behind : List (List ℕ)) (word : List ℕ) (z : ℤ) (more : List (List ℕ)) (number : Option ℤ) → n < most_parameters → ws ≡ number_words key n → first ws ≡ Ok (word, behind) → Some (z, more) ≡ first_of number_of behind
    → IfSome number (λ m. m ≡ z) → IfNone number (2 ^ 100 ≤ unsigned_abs z) → number ≡ Some (pos n)
second_is key n ws behind word z more number low is reported given some none = by number some none
  where
    z_is : z ≡ pos n
    z_is = ap (λ (p : ℤ × List (List ℕ)). p.0) (some_is (z, more) (pos n, []) (given ∙ second_given key n ws behind word low is reported))

    by : (number : Option ℤ) → IfSome number (λ m. m ≡ z) → IfNone number (2 ^ 100 ≤ unsigned_abs z) → number ≡ Some (pos n)
    by (Some m) some none = ap (λ (y : ℤ). Some y) (some ∙ z_is)
    by None some none = let size : unsigned_abs z ≡ n = ap unsigned_abs z_is in absurd (omega (arith, none, size, low))

pub second_lost : (key : List ℕ) (n : ℕ) (ws behind : List (List ℕ)) (word : List ℕ) → n < most_parameters → ws ≡ number_words key n → first ws ≡ Ok (word, behind) → None ≡ first_of number_of behind → ⊥
second_lost key n ws behind word low is reported given = let no : ◌≡◌ {A = Option (ℤ × List (List ℕ))} None (Some (pos n, [])) = given ∙ second_given key n ws behind word low is reported in absurd cc

-- what was found on the line of a split
pub axis_reported : (text : List ℕ) (len : ℕ) (number : Option ℤ) (axis : ℕ) (rest : List ℕ) → len ≡ position_or_len is_feed text → ((key : List ℕ) (n : ℕ) → n < most_parameters → words (take len text) ≡ number_words key n → number ≡ Some (pos n)) → axis < most_parameters
    → text ≡ split_line axis ++ rest → number ≡ Some (pos axis)
axis_reported text len number axis rest is reported low e = reported (codes "split") axis low (split_words axis rest text len low e is)

pub axis_is : (z : ℤ) (axis : ℕ) (number : Option ℤ) → number ≡ Some z → number ≡ Some (pos axis) → z ≡ pos axis
axis_is z axis number is reported = some_is z (pos axis) (sym is ∙ reported)

pub never_lost : (axis : ℕ) (number : Option ℤ) → number ≡ None → number ≡ Some (pos axis) → ⊥
never_lost axis number none reported = let no : None ≡ Some (pos axis) = sym none ∙ reported in absurd cc

pub never_below : (z : ℤ) (axis : ℕ) → z ≡ pos axis → int_le (pos 0) z ≡ false → ⊥
never_below z axis is test = let no : true ≡ false = sym (test_from_le (pos 0) (pos axis) (omega (arith, linear))) ∙ ap (int_le (pos 0)) (sym is) ∙ test in absurd cc

pub never_above : (z top : ℤ) (axis : ℕ) → z ≡ pos axis → top ≡ pos (2 ^ 32 - 1) → axis < most_parameters → int_le z top ≡ false → ⊥
never_above z top axis is top_is low test = let no : true ≡ false = sym (test_from_le (pos axis) (pos (2 ^ 32 - 1)) (omega (arith, linear, low))) ∙ ap₂ int_le (sym is) (sym top_is) ∙ test in absurd cc

-- ---- the head

-- the lines of a head are those of its top, and those that tell the region
head_parted : (h : HeadData) → reported_lines h ≡ top_lines h.asked h.from h.bound ++ region_lines h.asked
head_parted h =
    let model = model_lines h.asked.model in
    let asked = asked_lines h.asked h.bound in
    let from = from_lines h.from in
    let region = region_lines h.asked in
    ap (λ (ls : Lines). line (version_words (is_some h.from)) ∷ ls) (ap (λ (ls : Lines). model ++ ls) (sym (append_assoc asked from region)) ∙ sym (append_assoc model (asked ++ from) region))

three_lines : (k : CaseData) → length (region_lines k) ≡ 3
unfolding scale_lines
three_lines k = refl

-- a head that begins a text is cut into its top and its region
pub head_behind : (h : HeadData) (n : ℕ) (text rest top region left : List ℕ) → IsHead h → text ≡ concat (reported_lines h) ++ rest → n ≡ length (reported_lines h) → top ≡ concat (take (n - 3) (lines_of text)) → IsBehind (n - 3) text region → IsBehind 3 region left
    → (top ≡ top_bytes h) × (left ≡ rest)
head_behind h n text rest top region left is e count top_is below behind =
    let first = top_lines h.asked h.from h.bound in
    let last = region_lines h.asked in
    let three = three_lines h.asked in
    let reported = subst (λ (ls : Lines). AllByRecursion IsTextLine ls) (head_parted h) (head_reported h is) in
    let whole : text ≡ concat first ++ (concat last ++ rest) = e ∙ ap (λ (ls : Lines). concat ls ++ rest) (head_parted h) ∙ ap (λ (t : List ℕ). t ++ rest) (concat-append first last) ∙ append_assoc (concat first) (concat last) rest in
    let lines : n ≡ length first + length last = count ∙ ap (λ (ls : Lines). length ls) (head_parted h) ∙ length-append first last in
    let cut = cut_all first (n - 3) text (concat last ++ rest) top region (every_front IsTextLine first last reported) (omega (arith, lines, three)) whole top_is below in
    (cut.0, left_all last 3 region rest left (every_back IsTextLine first last reported) (sym three) cut.1 behind)

-- what was read of a text's head, and as many lines as were given
head_cut : EndsWithin {S = List ℕ} (λ s. Some s) (λ _. 0) → (text window : List ℕ) (c : LinesData) (u : List ℕ) (head : HeadData) (n : ℕ) (top region left : List ℕ) → length text < 2 ^ 32
    → Follows {S = List ℕ} (λ s. Some s) (λ _. 0) (λ (h : HeadData). h) head_at (fresh (length text) window) c text u (Ok head) → KeepsLimit c.failure c.limit c.taken → c.given + length c.held ≤ c.taken → n ≡ min c.given (2 ^ 32 - 1)
    → top ≡ concat (take (n - 3) (lines_of text)) → IsBehind (n - 3) text region → IsBehind 3 region left → CutsHead text head top left
head_cut within text window c u head n top region left small f keeps counted given top_is below behind h rest is e =
    let ends = within (length text) window c text u f.bytes f.ran keeps in
    let whole : text ≡ f.bytes ++ u = f.ran.took.consumed in
    let read : head_at (1, f.bytes ++ u) ≡ Ok (head, place c u) = f.agrees u ends.1 in
    let same : (head, place c u) ≡ (h, (1 + length (reported_lines h), rest)) = ok_is (head, place c u) (h, (1 + length (reported_lines h), rest)) (sym read ∙ ap (λ (t : List ℕ). head_at (1, t)) (sym whole ∙ e) ∙ heads_back h 1 rest is) in
    let least : c.taken ≤ c.limit = subst (λ (o : Option LineError). KeepsLimit o c.limit c.taken) f.ran.left_with keeps in
    let most = f.ran.took.limit in
    let count : c.given + 1 ≡ 1 + length (reported_lines h) = ap (λ (y : HeadData × Cursor). y.1.0) same in
    let parts = head_behind h n text rest top region left is e (omega (arith, given, least, counted, most, small, count)) top_is below behind in
    (ap (λ (y : HeadData × Cursor). y.0) same, parts.0, parts.1)

-- the same of a head that was read
pub heads_cut : EndsWithin {S = List ℕ} (λ s. Some s) (λ _. 0) → HeadsAreCut
heads_cut within text window head count top region left small f = head_cut within text window f.lines f.after head count top region left small f.read f.limit f.counted f.given
