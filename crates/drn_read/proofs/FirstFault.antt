-- A reader keeps what the lines before it say, and goes by the lines that aren't passed over: so it finds the first fault. What it keeps of a line, and which faults a line has, differs between readers.
use Rattle.std.proofs.Common.{◌≡◌, ℕ, Bool, true, false, not, ◌&&◌, ◌||◌, refl, List, [], ◌∷◌, ◌++◌, sym, ◌∙◌, ap, append_assoc, Option, Some, None}
use Rattle.std.specs.Prelude.{if◌then◌else◌}
use Rattle.std.specs.List.{list_all}
use Rattle.std.proofs.lemmas.List.{append-nil}
use Rattle.drn_lexer.specs.Bytes.{is_text_byte}
use Rattle.drn_lexer.specs.Lines.{TextLine, content, is_comment, is_long, own_fault, is_passed_over, behind_comments}
use Rattle.drn_lexer.specs.declared.error.LexError.{LexError}
use Rattle.drn_lexer.specs.declared.error.LexError.TheVariants.{NotText, LongLine}
use Rattle.drn_read.specs.Faults.{lexed, reported}
use Rattle.drn_read.specs.declared.error.DrnError.{DrnError}

-- ---- a way of reading

-- a line's own fault, or what the lines behind it have
unfoldable pub or_else : Option DrnError → Option DrnError → Option DrnError
or_else rest (Some fault) = Some fault
or_else rest None = rest

-- what is wrong with a line: its own fault, nothing where it is a comment, or its fault behind the lines before it
unfoldable pub judged : (number : ℕ) → Option DrnError → Option LexError → Bool → Option DrnError
judged number behind (Some own) comment = reported number (Some (lexed own))
judged number behind None true = None
judged number behind None false = behind

-- what lines say, the fault of a line behind what was said, what a line adds, and the first fault of lines behind others
pub record Semantics (S : Type 0) : Type 0 where
  pub said : List TextLine → S
  pub line_fault : S → TextLine → Option DrnError
  pub with_line : S → TextLine → S
  pub judge : List TextLine → TextLine → Option DrnError
  pub first_fault : List TextLine → List TextLine → Option DrnError
  pub no_fault : (before : List TextLine) → first_fault before [] ≡ None
  pub or_behind : (before : List TextLine) (l : TextLine) (ls : List TextLine) → first_fault before (l ∷ ls) ≡ or_else (first_fault (before ++ l ∷ []) ls) (judge before l)
  pub judges : (before : List TextLine) (l : TextLine) (own : Option LexError) (comment : Bool) → own_fault l ≡ own → is_comment l ≡ comment
      → judge before l ≡ judged l.number (line_fault (said before) l) own comment
  pub grows : (before : List TextLine) (l : TextLine) → is_comment l ≡ false → line_fault (said before) l ≡ None → said (before ++ l ∷ []) ≡ with_line (said before) l
  pub skips : (before : List TextLine) (l : TextLine) → is_comment l ≡ true → said (before ++ l ∷ []) ≡ said before

-- ---- one line

pub goes_on : {S : Type 0} (semantics : Semantics S) (before : List TextLine) (l : TextLine) (ls : List TextLine) → semantics.judge before l ≡ None
    → semantics.first_fault before (l ∷ ls) ≡ semantics.first_fault (before ++ l ∷ []) ls
unfolding or_else
goes_on semantics before l ls e = semantics.or_behind before l ls ∙ ap (or_else (semantics.first_fault (before ++ l ∷ []) ls)) e

pub ends_at : {S : Type 0} (semantics : Semantics S) (before : List TextLine) (l : TextLine) (ls : List TextLine) (fault : DrnError) → semantics.judge before l ≡ Some fault
    → semantics.first_fault before (l ∷ ls) ≡ Some fault
unfolding or_else
ends_at semantics before l ls fault e = semantics.or_behind before l ls ∙ ap (or_else (semantics.first_fault (before ++ l ∷ []) ls)) e

judged_comment : {S : Type 0} (semantics : Semantics S) (before : List TextLine) (l : TextLine) → own_fault l ≡ None → is_comment l ≡ true → semantics.judge before l ≡ None
unfolding judged
judged_comment semantics before l e f = semantics.judges before l None true e f

pub judged_plain : {S : Type 0} (semantics : Semantics S) (before : List TextLine) (l : TextLine) → own_fault l ≡ None → is_comment l ≡ false → semantics.judge before l ≡ semantics.line_fault (semantics.said before) l
unfolding judged
judged_plain semantics before l e f = semantics.judges before l None false e f

pub judged_own : {S : Type 0} (semantics : Semantics S) (before : List TextLine) (l : TextLine) (fault : LexError) → own_fault l ≡ Some fault → semantics.judge before l ≡ Some (record { line = l.number; cause = lexed fault })
unfolding judged
judged_own semantics before l fault e = semantics.judges before l (Some fault) (is_comment l) e refl

-- ---- a line by its three tests

abbrev own_by : Bool → Bool → Bool → Option LexError
own_by long comment text = if long then Some LongLine else (if comment || text then None else Some NotText)

passed_own : (long comment text : Bool) → (comment && not long) ≡ true → (own_by long comment text ≡ None) × (comment ≡ true)
passed_own long false text e = cc
passed_own true true text e = cc
passed_own false true text e = (refl, refl)

kept_own : (long comment text : Bool) → (comment && not long) ≡ false → own_by long comment text ≡ None → comment ≡ false
kept_own long false text e f = refl
kept_own true true text e f = cc
kept_own false true text e f = cc

-- a line that is passed over
passed_over : (l : TextLine) → is_passed_over l ≡ true → (own_fault l ≡ None) × (is_comment l ≡ true)
passed_over l e = passed_own (is_long l) (is_comment l) (list_all is_text_byte (content l)) e

-- a line that isn't, and has no fault of its own
no_comment : (l : TextLine) → is_passed_over l ≡ false → own_fault l ≡ None → is_comment l ≡ false
no_comment l e f = kept_own (is_long l) (is_comment l) (list_all is_text_byte (content l)) e f

-- ---- the lines that aren't passed over

-- how the comment lines before the first of these is read
record Comes {S : Type 0} (semantics : Semantics S) (before lines rest : List TextLine) : Type 0 where
  pub front : List TextLine
  pub fault : semantics.first_fault before lines ≡ semantics.first_fault front rest
  pub all : front ++ rest ≡ before ++ lines
  pub said_is : semantics.said front ≡ semantics.said before
  pub kept : (source : TextLine) (tail : List TextLine) → rest ≡ source ∷ tail → is_passed_over source ≡ false

behind_none : behind_comments [] ≡ []
unfolding behind_comments
behind_none = refl

behind_passed : (l : TextLine) (ls : List TextLine) → is_passed_over l ≡ true → behind_comments (l ∷ ls) ≡ behind_comments ls
unfolding behind_comments
behind_passed l ls e = rw (behind_comments, e) refl

behind_kept : (l : TextLine) (ls : List TextLine) → is_passed_over l ≡ false → behind_comments (l ∷ ls) ≡ l ∷ ls
unfolding behind_comments
behind_kept l ls e = rw (behind_comments, e) refl

comes_at_end : {S : Type 0} (semantics : Semantics S) (before rest : List TextLine) → [] ≡ rest → Comes semantics before [] rest
comes_at_end semantics before [] e = record { front = before; fault = refl; all = refl; said_is = refl; kept = λ source tail f. cc }
comes_at_end semantics before (l ∷ ls) e = cc

comes_here : {S : Type 0} (semantics : Semantics S) (before : List TextLine) (l : TextLine) (ls rest : List TextLine) → is_passed_over l ≡ false → l ∷ ls ≡ rest → Comes semantics before (l ∷ ls) rest
comes_here semantics before l ls rest e f = record {
  front = before;
  fault = ap (semantics.first_fault before) f;
  all = ap (λ (ls : List TextLine). before ++ ls) (sym f);
  said_is = refl;
  kept = λ source tail g. ap is_passed_over (first_same l source ls tail (sym g ∙ sym f)) ∙ e;
}
  where
    first_same : (a b : TextLine) (rest tail : List TextLine) → b ∷ tail ≡ a ∷ rest → b ≡ a
    first_same a b rest tail h = cc

comes_behind : {S : Type 0} (semantics : Semantics S) (before : List TextLine) (l : TextLine) (ls rest : List TextLine) → is_passed_over l ≡ true → Comes semantics (before ++ l ∷ []) ls rest → Comes semantics before (l ∷ ls) rest
comes_behind semantics before l ls rest e more =
    let facts = passed_over l e in
    record {
      front = more.front;
      fault = goes_on semantics before l ls (judged_comment semantics before l facts.0 facts.1) ∙ more.fault;
      all = more.all ∙ append_assoc before (l ∷ []) ls;
      said_is = more.said_is ∙ semantics.skips before l facts.1;
      kept = more.kept;
    }

comes_by : {S : Type 0} (semantics : Semantics S) (before : List TextLine) (l : TextLine) (ls rest : List TextLine) (passed : Bool) → is_passed_over l ≡ passed
    → (behind_comments ls ≡ rest → Comes semantics (before ++ l ∷ []) ls rest) → behind_comments (l ∷ ls) ≡ rest → Comes semantics before (l ∷ ls) rest
comes_by semantics before l ls rest true e more f = comes_behind semantics before l ls rest e (more (sym (behind_passed l ls e) ∙ f))
comes_by semantics before l ls rest false e more f = comes_here semantics before l ls rest e (sym (behind_kept l ls e) ∙ f)

comes : {S : Type 0} (semantics : Semantics S) (before lines rest : List TextLine) → behind_comments lines ≡ rest → Comes semantics before lines rest
comes semantics before [] rest e = comes_at_end semantics before rest (sym behind_none ∙ e)
comes semantics before (l ∷ ls) rest e = comes_by semantics before l ls rest (is_passed_over l) refl (λ f. comes semantics (before ++ l ∷ []) ls rest f) e

-- a line without fault was read, behind the comment lines before it
pub record Passed {S : Type 0} (semantics : Semantics S) (before lines rest : List TextLine) (source : TextLine) : Type 0 where
  pub earlier : List TextLine
  pub front : List TextLine
  pub front_is : front ≡ earlier ++ source ∷ []
  pub fault : semantics.first_fault before lines ≡ semantics.first_fault front rest
  pub all : front ++ rest ≡ before ++ lines
  pub said_is : semantics.said front ≡ semantics.with_line (semantics.said before) source

judged_first : {S : Type 0} (semantics : Semantics S) (before lines rest : List TextLine) (source : TextLine) (c : Comes semantics before lines (source ∷ rest)) → own_fault source ≡ None
    → semantics.judge c.front source ≡ semantics.line_fault (semantics.said before) source
judged_first semantics before lines rest source c own =
    judged_plain semantics c.front source own (no_comment source (c.kept source rest refl) own)
    ∙ ap (λ s. semantics.line_fault s source) c.said_is

pub passes : {S : Type 0} (semantics : Semantics S) (before lines rest : List TextLine) (source : TextLine) → behind_comments lines ≡ source ∷ rest → own_fault source ≡ None
    → semantics.line_fault (semantics.said before) source ≡ None → Passed semantics before lines rest source
passes semantics before lines rest source e own calm =
    let c = comes semantics before lines (source ∷ rest) e in
    let none = judged_first semantics before lines rest source c own ∙ calm in
    record {
      earlier = c.front;
      front = c.front ++ source ∷ [];
      front_is = refl;
      fault = c.fault ∙ goes_on semantics c.front source rest none;
      all = append_assoc c.front (source ∷ []) rest ∙ c.all;
      said_is = semantics.grows c.front source (no_comment source (c.kept source rest refl) own) (ap (λ s. semantics.line_fault s source) c.said_is ∙ calm)
          ∙ ap (λ s. semantics.with_line s source) c.said_is;
    }

-- a line with a fault
pub stops : {S : Type 0} (semantics : Semantics S) (before lines rest : List TextLine) (source : TextLine) (fault : DrnError) → behind_comments lines ≡ source ∷ rest → own_fault source ≡ None
    → semantics.line_fault (semantics.said before) source ≡ Some fault → semantics.first_fault before lines ≡ Some fault
stops semantics before lines rest source fault e own wrong =
    let c = comes semantics before lines (source ∷ rest) e in
    c.fault ∙ ends_at semantics c.front source rest fault (judged_first semantics before lines rest source c own ∙ wrong)

-- a line with a fault of its own
pub lexer_stops : {S : Type 0} (semantics : Semantics S) (before lines rest : List TextLine) (source : TextLine) (fault : LexError) → behind_comments lines ≡ source ∷ rest → own_fault source ≡ Some fault
    → semantics.first_fault before lines ≡ Some (record { line = source.number; cause = lexed fault })
lexer_stops semantics before lines rest source fault e own =
    let c = comes semantics before lines (source ∷ rest) e in
    c.fault ∙ ends_at semantics c.front source rest (record { line = source.number; cause = lexed fault }) (judged_own semantics c.front source fault own)

-- no line is left
pub ends : {S : Type 0} (semantics : Semantics S) (before lines : List TextLine) → behind_comments lines ≡ [] → (semantics.first_fault before lines ≡ None) × (semantics.said (before ++ lines) ≡ semantics.said before)
ends semantics before lines e =
    let c = comes semantics before lines [] e in
    (c.fault ∙ semantics.no_fault c.front, ap semantics.said (sym (sym (append-nil c.front) ∙ c.all)) ∙ c.said_is)
