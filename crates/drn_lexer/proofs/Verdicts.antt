-- What the first line that isn't passed over gives.
use Rattle.std.proofs.Common.{◌≡◌, ◌+◌, ◌<◌, ◌≤◌, ℕ, Bool, true, false, ◌&&◌, ◌||◌, not, refl, List, [], ◌∷◌, length, sym, ◌∙◌, ap, subst, arith, Option, Some, None, Result, Ok, Err}
use Rattle.std.specs.Prelude.{if◌then◌else◌, IfSome, is_some, slice_range}
use Rattle.std.specs.List.{list_all}
use Rattle.drn_lexer.specs.Bytes.{is_text_byte}
use Rattle.drn_lexer.specs.Lines.{TextLine, lines_at, content, span_of, is_comment, is_long, own_fault, is_passed_over, behind_comments, answer_of, place_behind, place_after}
use Rattle.drn_lexer.specs.Steps.{text_line, IsAtEnd, IsFirstLine, judged}
use Rattle.drn_lexer.specs.Spans.{IsNextLine, LiesIn}
use Rattle.drn_lexer.specs.declared.error.LexError.{LexError}
use Rattle.drn_lexer.specs.declared.error.LexError.TheVariants.{NotText, LongLine}
use Rattle.drn_lexer.specs.declared.line.Line.{Line}
use Rattle.drn_lexer.specs.declared.line.Place.{Place}

-- ---- a line by its three tests: it is long, a comment, text

abbrev fault_by : Bool → Bool → Bool → Option LexError
fault_by long comment plain = if long then Some LongLine else (if comment || plain then None else Some NotText)

abbrev judged_by : Bool → Bool → Bool → Line → Result (Option Line) LexError
judged_by long comment plain span = elim (fault_by long comment plain) [ Some fault ↦ Err fault | None ↦ if comment then Ok None else Ok (Some span) ]

refused_by : (long comment plain : Bool) (span : Line) (fault : LexError) → judged_by long comment plain span ≡ Err fault
    → (fault_by long comment plain ≡ Some fault) × ((comment && not long) ≡ false)
refused_by true true plain span fault h = (cc, refl)
refused_by true false plain span fault h = (cc, refl)
refused_by false true plain span fault h = cc
refused_by false false true span fault h = cc
refused_by false false false span fault h = (cc, refl)

given_by : (long comment plain : Bool) (span line : Line) → judged_by long comment plain span ≡ Ok (Some line)
    → (fault_by long comment plain ≡ None) × ((comment && not long) ≡ false) × (line ≡ span)
given_by true comment plain span line h = cc
given_by false true plain span line h = cc
given_by false false true span line h = (refl, refl, cc)
given_by false false false span line h = cc

passed_by : (long comment plain : Bool) (span : Line) → judged_by long comment plain span ≡ Ok None → (comment && not long) ≡ true
passed_by true comment plain span h = cc
passed_by false true plain span h = refl
passed_by false false true span h = cc
passed_by false false false span h = cc

-- ---- the lines by their first one

lines_by : TextLine → List TextLine → Bool → List TextLine
lines_by line lines true = behind_comments lines
lines_by line lines false = line ∷ lines

behind_comments-cons : (line : TextLine) (lines : List TextLine) (passed : Bool) → is_passed_over line ≡ passed → behind_comments (line ∷ lines) ≡ lines_by line lines passed
unfolding behind_comments lines_by
behind_comments-cons line lines passed e = ap (lines_by line lines) e

stays : (line : TextLine) (lines : List TextLine) → is_passed_over line ≡ false → behind_comments (line ∷ lines) ≡ line ∷ lines
unfolding lines_by
stays line lines e = behind_comments-cons line lines false e

passes : (line : TextLine) (lines : List TextLine) → is_passed_over line ≡ true → behind_comments (line ∷ lines) ≡ behind_comments lines
unfolding lines_by
passes line lines e = behind_comments-cons line lines true e

abbrev answer_by : Line → Option LexError → Result (Option Line) LexError
answer_by span fault = elim fault [ Some fault ↦ Err fault | None ↦ Ok (Some span) ]

abbrev place_by : Place → Place → Option LexError → Place
place_by at next fault = elim fault [ Some fault ↦ at | None ↦ next ]

-- ---- no line is given

some_answer : (span : Line) (fault : Option LexError) → answer_by span fault ≡ Ok None → ⊥
some_answer span None h = cc
some_answer span (Some fault) h = cc

none_step : (line : TextLine) (lines : List TextLine) (passed : Bool) → is_passed_over line ≡ passed
    → (answer_of (behind_comments lines) ≡ Ok None → list_all is_passed_over lines ≡ true) × (list_all is_passed_over lines ≡ true → answer_of (behind_comments lines) ≡ Ok None)
    → (answer_of (behind_comments (line ∷ lines)) ≡ Ok None → (passed && list_all is_passed_over lines) ≡ true)
    × ((passed && list_all is_passed_over lines) ≡ true → answer_of (behind_comments (line ∷ lines)) ≡ Ok None)
none_step line lines true e (only, all) =
    let same = ap answer_of (passes line lines e) in
    (λ h. only (sym same ∙ h), λ h. same ∙ all h)
none_step line lines false e more =
    (λ h. absurd (some_answer (span_of line) (own_fault line) (sym (ap answer_of (stays line lines e)) ∙ h)), λ h. cc)

none_given : (lines : List TextLine)
    → (answer_of (behind_comments lines) ≡ Ok None → list_all is_passed_over lines ≡ true) × (list_all is_passed_over lines ≡ true → answer_of (behind_comments lines) ≡ Ok None)
unfolding behind_comments
none_given [] = (λ _. refl, λ _. refl)
none_given (line ∷ lines) = none_step line lines (is_passed_over line) refl (none_given lines)

-- none is given exactly where all are passed over
pub none_where : (lines : List TextLine) (answer : Result (Option Line) LexError) → answer ≡ answer_of (behind_comments lines)
    → (answer ≡ Ok None → list_all is_passed_over lines ≡ true) × (list_all is_passed_over lines ≡ true → answer ≡ Ok None)
none_where lines answer e = (λ h. (none_given lines).0 (sym e ∙ h), λ h. e ∙ (none_given lines).1 h)

-- ---- where the reading of a text from the place `old` has come to a place

-- the line there is refused
pub record Refuses (text : List ℕ) (old now : Place) (fault : LexError) : Type 0 where
  pub answer : Err fault ≡ answer_of (behind_comments (lines_at text old))
  pub place : now ≡ place_after text old (behind_comments (lines_at text old))
  pub left : behind_comments (lines_at text old) ≡ lines_at text now

pub refused : (text : List ℕ) (old now : Place) (raw : Line) (fault : LexError) → behind_comments (lines_at text old) ≡ behind_comments (lines_at text now)
    → IsFirstLine text now raw → judged (text_line text raw) ≡ Err fault → Refuses text old now fault
refused text old now raw fault left f j =
    let line = text_line text raw in
    let rest = lines_at text (place_behind text line) in
    let facts = refused_by (is_long line) (is_comment line) (list_all is_text_byte (content line)) (span_of line) fault j in
    let same : behind_comments (lines_at text old) ≡ line ∷ rest = left ∙ ap behind_comments f.lines_are ∙ stays line rest facts.1 in
    let here : Place = record { at = line.at; number = line.number } in
    let there : now ≡ here = ap (λ n. let p : Place = record { at = n; number = now.number } in p) (sym f.from) ∙ ap (λ n. let p : Place = record { at = raw.from; number = n } in p) (sym f.number) in
    record {
      answer = sym (ap answer_of same ∙ ap (answer_by (span_of line)) facts.0);
      place = there ∙ sym (ap (place_after text old) same ∙ ap (place_by here (place_behind text line)) facts.0);
      left = same ∙ sym f.lines_are;
    }

-- the line there is given
pub record Gives (text : List ℕ) (old next : Place) (found : Option Line) : Type 0 where
  pub answer : Ok found ≡ answer_of (behind_comments (lines_at text old))
  pub place : next ≡ place_after text old (behind_comments (lines_at text old))
  pub line : IfSome found (IsNextLine text old next)

given_line : (text : List ℕ) (old now : Place) (raw line : Line) → old.at ≤ now.at → behind_comments (lines_at text old) ≡ behind_comments (lines_at text now)
    → IsFirstLine text now raw → judged (text_line text raw) ≡ Ok (Some line) → slice_range text line.from line.to ≡ content (text_line text raw) → LiesIn line text
    → Gives text old (place_behind text (text_line text raw)) (Some line)
given_line text old now raw line forward left f j content_is lies =
    let source = text_line text raw in
    let next = place_behind text source in
    let rest = lines_at text next in
    let facts = given_by (is_long source) (is_comment source) (list_all is_text_byte (content source)) (span_of source) line j in
    let same : behind_comments (lines_at text old) ≡ source ∷ rest = left ∙ ap behind_comments f.lines_are ∙ stays source rest facts.1 in
    let here : Place = record { at = source.at; number = source.number } in
    record {
      answer = ap (λ (l : Line). let r : Result (Option Line) LexError = Ok (Some l) in r) facts.2 ∙ sym (ap answer_of same ∙ ap (answer_by (span_of source)) facts.0);
      place = sym (ap (place_after text old) same ∙ ap (place_by here next) facts.0);
      line = record { source = source; first = same; sound = facts.0; span = facts.2; content = content_is; lies = lies; forward = omega (arith, f.from, f.some, forward) };
    }

given : (text : List ℕ) (old now : Place) (raw : Line) (found : Option Line) → old.at ≤ now.at → behind_comments (lines_at text old) ≡ behind_comments (lines_at text now)
    → IsFirstLine text now raw → judged (text_line text raw) ≡ Ok found → is_some found ≡ true
    → IfSome found (λ line. slice_range text line.from line.to ≡ content (text_line text raw)) → IfSome found (λ line. LiesIn line text)
    → Gives text old (place_behind text (text_line text raw)) found
given text old now raw None forward left f j some content_is lies = cc
given text old now raw (Some line) forward left f j some content_is lies = given_line text old now raw line forward left f j content_is lies

-- the same, for the place that a call found
pub given_at : (text : List ℕ) (old now next : Place) (raw : Line) (found : Option Line) → old.at ≤ now.at → behind_comments (lines_at text old) ≡ behind_comments (lines_at text now)
    → IsFirstLine text now raw → judged (text_line text raw) ≡ Ok found → is_some found ≡ true
    → IfSome found (λ line. slice_range text line.from line.to ≡ content (text_line text raw)) → IfSome found (λ line. LiesIn line text)
    → next ≡ place_behind text (text_line text raw) → Gives text old next found
given_at text old now next raw found forward left f j some content_is lies n =
    subst (λ (p : Place). Gives text old p found) (sym n) (given text old now raw found forward left f j some content_is lies)

-- the line there is passed over
pub record Goes (text : List ℕ) (old next : Place) : Type 0 where
  pub forward : old.at ≤ next.at
  pub within : next.at ≤ length text
  pub number : next.number ≤ next.at + 1
  pub left : behind_comments (lines_at text old) ≡ behind_comments (lines_at text next)
  pub count : old.number + length (lines_at text old) ≡ next.number + length (lines_at text next)

-- a place behind a line keeps what is required of a place
number_behind : (text : List ℕ) (raw : Line) → raw.number ≤ raw.from + 1 → raw.from < length text → (place_behind text (text_line text raw)).number ≤ (place_behind text (text_line text raw)).at + 1
number_behind text raw h some = omega arith

goes : (text : List ℕ) (old now : Place) (raw : Line) (found : Option Line) → old.at ≤ now.at → behind_comments (lines_at text old) ≡ behind_comments (lines_at text now)
    → old.number + length (lines_at text old) ≡ now.number + length (lines_at text now) → now.number ≤ now.at + 1
    → IsFirstLine text now raw → judged (text_line text raw) ≡ Ok found → is_some found ≡ false
    → Goes text old (place_behind text (text_line text raw))
goes text old now raw (Some line) forward left count number f j none = cc
goes text old now raw None forward left count number f j none =
    let line = text_line text raw in
    let rest = lines_at text (place_behind text line) in
    let passed = passed_by (is_long line) (is_comment line) (list_all is_text_byte (content line)) (span_of line) j in
    record {
      forward = omega (arith, f.from, f.some, forward);
      within = omega arith;
      number = number_behind text raw (omega (arith, f.from, f.number)) f.some;
      left = left ∙ ap behind_comments f.lines_are ∙ passes line rest passed;
      count = omega (arith, count, f.number, ap length f.lines_are);
    }

pub goes_to : (text : List ℕ) (old now next : Place) (raw : Line) (found : Option Line) → old.at ≤ now.at → behind_comments (lines_at text old) ≡ behind_comments (lines_at text now)
    → old.number + length (lines_at text old) ≡ now.number + length (lines_at text now) → now.number ≤ now.at + 1
    → IsFirstLine text now raw → judged (text_line text raw) ≡ Ok found → is_some found ≡ false
    → next ≡ place_behind text (text_line text raw) → Goes text old next
goes_to text old now next raw found forward left count number f j none n = subst (λ (p : Place). Goes text old p) (sym n) (goes text old now raw found forward left count number f j none)

-- the text ends there
pub record Ends (text : List ℕ) (old now : Place) : Type 0 where
  pub answer : Ok None ≡ answer_of (behind_comments (lines_at text old))
  pub place : now ≡ place_after text old (behind_comments (lines_at text old))

nothing : behind_comments [] ≡ []
unfolding behind_comments
nothing = refl

pub ended : (text : List ℕ) (old now : Place) → behind_comments (lines_at text old) ≡ behind_comments (lines_at text now)
    → old.number + length (lines_at text old) ≡ now.number + length (lines_at text now) → IsAtEnd text now → Ends text old now
ended text old now left count e =
    let none : behind_comments (lines_at text old) ≡ [] = left ∙ ap behind_comments e.no_line ∙ nothing in
    let number : now.number ≡ old.number + length (lines_at text old) = omega (arith, count, ap length e.no_line) in
    record {
      answer = sym (ap answer_of none);
      place = ap (λ n. let p : Place = record { at = n; number = now.number } in p) e.at_end
          ∙ ap (λ n. let p : Place = record { at = length text; number = n } in p) number
          ∙ sym (ap (place_after text old) none);
    }
