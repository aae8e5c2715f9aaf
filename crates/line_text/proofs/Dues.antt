-- The line that is due, and the end.
use Rattle.std.proofs.Common.{◌≡◌, ◌≢◌, ◌⊎◌, ◌≤◌, ◌<◌, ◌+◌, ◌^◌, ◌∙◌, ap, sym, subst, refl, ℕ, List, [], ◌∷◌, length, take, drop, ◌++◌, None, Some, Ok, Err, IsTrue, arith, length-append, append_assoc, cond, not, Bool, true, false, inl, inr, true≢false}
use Rattle.std.specs.Prelude.{nat_lt, ◌==◌}
use Rattle.std.specs.declared.option.Option.{Option}
use Rattle.std.specs.declared.result.Result.{Result}
use Rattle.std.specs.List.{position_or_len, before_first, after_first}
use Rattle.std.proofs.lemmas.Bool.{false_from_ne_true, true_from_ne_false, eqb-true, ne_eqb, le-ltb, lt-ltb}
use Rattle.std.proofs.lemmas.List.{take-append-le, drop-append-le}
use Rattle.std.proofs.lemmas.List.Sums.{prefix_len-le-length}
use Rattle.std.proofs.lemmas.List.Folds.{prefix_len-append}
use Rattle.lift_base.specs.declared.pieces.Front.{Front}
use Rattle.lift_base.specs.declared.pieces.Front.TheVariants as front
use Rattle.lift_base.specs.declared.pieces.LineError.{LineError}
use Rattle.lift_base.specs.declared.pieces.LineError.TheVariants as why
use Rattle.lift_base.specs.Lines.{LinesData, MayFollow, Needed, ReadOn, IsFront, FrontIs, passed, feed_at, Tells, CountsFault as Counts}
use Rattle.line_text.specs.declared.error.TextCause.{TextCause}
use Rattle.line_text.specs.declared.error.TextCause.TheVariants.{Limit, Truncated, Memory}
use Rattle.line_text.specs.declared.error.TextError.{TextError}
use Rattle.line_text.specs.Reading.{Cursor, due, fault, is_feed}
use Rattle.line_text.specs.declared.error.FileError.{FileError}
use Rattle.line_text.specs.declared.error.FileError.TheVariants as file
use Rattle.line_text.specs.Follow.{Took, Ran, Follows, IsDue, SeesEnd, place, reported_fault}

-- ---- what is due, by what stands at the front

due_limit : (n : ℕ) (rest : List ℕ) → IsFront front.Long rest → due (n, rest) ≡ fault n Limit
unfolding due
due_limit n rest long =
    let high : nat_lt (2 ^ 20) (position_or_len is_feed rest) ≡ true = lt-ltb (2 ^ 20) (position_or_len is_feed rest) long in
    rw high refl

due_truncated : (n : ℕ) (rest : List ℕ) → feed_at rest ≤ 2 ^ 20 → feed_at rest ≡ length rest → due (n, rest) ≡ fault n Truncated
unfolding due
due_truncated n rest few bare =
    let low : nat_lt (2 ^ 20) (position_or_len is_feed rest) ≡ false = le-ltb (2 ^ 20) (position_or_len is_feed rest) few in
    let none : nat_lt (position_or_len is_feed rest) (length rest) ≡ false = le-ltb (position_or_len is_feed rest) (length rest) (omega (arith, bare)) in
    rw (low, none) refl

due_line : (n : ℕ) (rest : List ℕ) → IsFront front.Line rest → due (n, rest) ≡ Ok (before_first is_feed rest, (n + 1, after_first is_feed rest))
unfolding due
due_line n rest is =
    let low : nat_lt (2 ^ 20) (position_or_len is_feed rest) ≡ false = le-ltb (2 ^ 20) (position_or_len is_feed rest) is.0 in
    let there : nat_lt (position_or_len is_feed rest) (length rest) ≡ true = lt-ltb (position_or_len is_feed rest) (length rest) is.1 in
    rw (low, there) refl

-- ---- a line with more behind it

kept : (xs ys : List ℕ) → feed_at xs < length xs → feed_at (xs ++ ys) ≡ feed_at xs
kept xs ys there =
    prefix_len-append (λ b. not (is_feed b)) xs ys
    ∙ ap (λ (b : Bool). cond b (length xs + feed_at ys) (feed_at xs)) (false_from_ne_true _ (λ same. let e : feed_at xs ≡ length xs = eqb-true (feed_at xs) (length xs) same in absurd (omega (arith, there, e))))

same_line : (held later : List ℕ) → IsFront front.Line held → before_first is_feed (held ++ later) ≡ before_first is_feed held
same_line held later is =
    ap (λ (n : ℕ). take n (held ++ later)) (kept held later is.1) ∙ take-append-le (feed_at held) held later (omega (arith, is.1))

same_rest : (held later : List ℕ) → IsFront front.Line held → after_first is_feed (held ++ later) ≡ after_first is_feed held ++ later
same_rest held later is =
    ap (λ (n : ℕ). drop (n + 1) (held ++ later)) (kept held later is.1) ∙ drop-append-le (feed_at held + 1) held later (omega (arith, is.1))

line_more : (held later : List ℕ) → IsFront front.Line held → IsFront front.Line (held ++ later)
line_more held later is = let same : feed_at (held ++ later) ≡ feed_at held = kept held later is.1 in (omega (arith, same, is.0), omega (arith, same, is.1, length-append held later))

due_held : (n : ℕ) (held later : List ℕ) → IsFront front.Line held → due (n, held ++ later) ≡ Ok (before_first is_feed held, (n + 1, after_first is_feed held ++ later))
due_held n held later is =
    due_line n (held ++ later) (line_more held later is)
    ∙ ap (λ (t : List ℕ). Ok (t, (n + 1, after_first is_feed (held ++ later)))) (same_line held later is)
    ∙ ap (λ (t : List ℕ). Ok (before_first is_feed held, (n + 1, t))) (same_rest held later is)

-- ---- what was taken while it was read on

took_of : {S : Type 0} (left : S → Option (List ℕ)) (a b : LinesData) (s t : S) (bytes : List ℕ) → ReadOn left a b s t bytes → Took left a b s t bytes
took_of {S} left a b s t bytes r = record {
  consumed = r.consumed;
  taken = r.taken;
  limit = r.limit;
  closed = λ ended. let last = r.closed ended in (last.0, last.1, by ended r.lazy);
  end = r.end;
} where
  by : IsTrue a.ended → Needed a bytes ⊎ ((b ≡ a) × (t ≡ s)) → t ≡ s
  by ended (inl n) = absurd (true≢false (sym ended ∙ n.waits.running))
  by ended (inr same) = same.1

-- where reading goes on, by what was read
place_is : {S : Type 0} (left : S → Option (List ℕ)) (a b : LinesData) (s t : S) (bytes later : List ℕ) → ReadOn left a b s t bytes → place a (bytes ++ later) ≡ (b.given + 1, b.held ++ later)
place_is left a b s t bytes later r =
    ap (λ (l : List ℕ). (a.given + 1, l)) (sym (append_assoc a.held bytes later) ∙ ap (λ (l : List ℕ). l ++ later) (sym r.held))
    ∙ ap (λ (n : ℕ). (n + 1, b.held ++ later)) (sym r.given)

-- ---- the line is at the front

ran_of : {S : Type 0} (left : S → Option (List ℕ)) (faults : S → ℕ) (a b : LinesData) (s t : S) (bytes : List ℕ) → ReadOn left a b s t bytes → b.failure ≡ None → faults t ≡ faults s → Ran left faults a b s t bytes None
ran_of left faults a b s t bytes r none calm = record { took = took_of left a b s t bytes r; left_with = none; fault = calm }

pub is_due : {S : Type 0} (left : S → Option (List ℕ)) (faults : S → ℕ) (a b : LinesData) (s t : S) (bytes : List ℕ) → ReadOn left a b s t bytes → b.failure ≡ None → faults t ≡ faults s → IsFront front.Line b.held → IsDue left faults a b s t
is_due left faults a b s t bytes r none calm is = record {
  bytes = bytes;
  ran = ran_of left faults a b s t bytes r none calm;
  front = is;
  given = r.given;
  same = λ later. place_is left a b s t bytes later r;
  line = λ later. due_held (b.given + 1) b.held later is;
}

-- ---- no line is due

pub due_fails : {S : Type 0} (left : S → Option (List ℕ)) (faults : S → ℕ) (a b : LinesData) (s t : S) (bytes : List ℕ) (cause : TextCause) (e : FileError)
    → ReadOn left a b s t bytes → b.failure ≡ None → faults t ≡ faults s
    → ((later : List ℕ) → MayFollow b later → due (b.given + 1, b.held ++ later) ≡ fault (b.given + 1) cause)
    → e ≡ file.Text (reported_fault (record { line = b.given + 1; cause = cause }))
    → Follows {X = Unit {0}} left faults (λ _. []) due a b s t (Err e)
due_fails {S} left faults a b s t bytes cause e r none calm is reported = subst (λ (e : FileError). Follows {X = Unit {0}} left faults (λ _. []) due a b s t (Err e)) (sym reported) (record {
  bytes = bytes;
  ran = ran_of left faults a b s t bytes r none calm;
  agrees = λ _ later may. (record { line = b.given + 1; cause = cause }, ap (λ (c : Cursor). due c) (place_is left a b s t bytes later r) ∙ is later may, refl);
})

pub is_long : (b : LinesData) → FrontIs b front.Long → (later : List ℕ) → MayFollow b later → due (b.given + 1, b.held ++ later) ≡ fault (b.given + 1) Limit
is_long b is later may = due_limit (b.given + 1) (b.held ++ later) (is later may)

pub is_cut : (b : LinesData) → FrontIs b front.Cut → (later : List ℕ) → MayFollow b later → due (b.given + 1, b.held ++ later) ≡ fault (b.given + 1) Truncated
is_cut b is later may = let here = is later may in due_truncated (b.given + 1) (b.held ++ later) here.0 here.1

pub is_end : (b : LinesData) → FrontIs b front.End → (later : List ℕ) → MayFollow b later → due (b.given + 1, b.held ++ later) ≡ fault (b.given + 1) Truncated
is_end b is later may =
    let rest : List ℕ = b.held ++ later in
    let none : length rest ≡ 0 = is later may in
    let low : feed_at rest ≤ length rest = prefix_len-le-length (λ b. not (is_feed b)) rest in
    due_truncated (b.given + 1) rest (omega (arith, none, low)) (omega (arith, none, low))

-- ---- a source that fails

pub source_fails : {S : Type 0} (left : S → Option (List ℕ)) (faults : S → ℕ) (a b : LinesData) (s t : S) (bytes : List ℕ) (e : LineError) → ReadOn left a b s t bytes → Tells {A = Front} (Err e) b.failure → Counts {A = Front} faults a.failure s t (Err e)
    → Ran left faults a b s t bytes (Some e)
source_fails left faults a b s t bytes why.Fault r tells counts = record { took = took_of left a b s t bytes r; left_with = tells; fault = counts }
source_fails left faults a b s t bytes why.TooLong r tells counts = record { took = took_of left a b s t bytes r; left_with = tells; fault = counts }

-- ---- whether nothing is left

ended_now : (c : LinesData) → FrontIs c front.End → IsTrue c.ended
ended_now c is = true_from_ne_false c.ended (λ no. let none : length (c.held ++ 0 ∷ []) ≡ 0 = is (0 ∷ []) (λ e. absurd (true≢false (sym e ∙ no))) in absurd (omega (arith, none, length-append c.held (0 ∷ []))))

none_left : (n : ℕ) → n ≡ 0 → (n == 0) ≡ true
none_left n e = ap (λ (k : ℕ). k == 0) e

some_left : (n : ℕ) → 0 < n → (n == 0) ≡ false
some_left n h = ne_eqb n 0 (λ e. omega (arith, h, e))

front_some : (f : Front) (rest : List ℕ) → (f ≡ front.End → ⊥) → IsFront f rest → 0 < length rest
front_some front.Line rest other is = omega (arith, is.1)
front_some front.Cut rest other is = is.2
front_some front.Long rest other is = let low : feed_at rest ≤ length rest = prefix_len-le-length (λ b. not (is_feed b)) rest in omega (arith, low, is)
front_some front.End rest other is = absurd (other refl)

pub at_end : {S : Type 0} (left : S → Option (List ℕ)) (faults : S → ℕ) (a b : LinesData) (s t : S) (bytes : List ℕ) → ReadOn left a b s t bytes → b.failure ≡ None → faults t ≡ faults s → FrontIs b front.End → SeesEnd left faults a b s t true
at_end left faults a b s t bytes r none calm is = record {
  bytes = bytes;
  ran = ran_of left faults a b s t bytes r none calm;
  same = λ later. place_is left a b s t bytes later r;
  rest = λ later may. none_left (length (b.held ++ later)) (is later may);
  ended = λ _. ended_now b is;
}

pub not_at_end : {S : Type 0} (left : S → Option (List ℕ)) (faults : S → ℕ) (a b : LinesData) (s t : S) (bytes : List ℕ) (f : Front) → ReadOn left a b s t bytes → b.failure ≡ None → faults t ≡ faults s → (f ≡ front.End → ⊥) → FrontIs b f → SeesEnd left faults a b s t false
not_at_end left faults a b s t bytes f r none calm other is = record {
  bytes = bytes;
  ran = ran_of left faults a b s t bytes r none calm;
  same = λ later. place_is left a b s t bytes later r;
  rest = λ later may. some_left (length (b.held ++ later)) (front_some f (b.held ++ later) other (is later may));
  ended = λ bad. absurd (true≢false (sym bad));
}
