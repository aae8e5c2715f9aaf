-- What a reader that goes by places keeps: it has said what the lines before its place say, and none of them has a fault.
use Rattle.std.proofs.Common.{◌≡◌, ◌+◌, ◌-◌, ℕ, refl, List, [], ◌∷◌, ◌++◌, length, sym, ◌∙◌, ap, append_assoc, Option, Some, None, Result, Ok, Err, arith, length-append}
use Rattle.std.specs.Prelude.{◌==◌, slice_range}
use Rattle.std.specs.List.{slice_split}
use Rattle.drn_lexer.specs.Lines.{TextLine, numbered, lines, lines_from, lines_at, without_empty_end, own_fault, behind_comments, span_of, answer_of, place_after, place_behind}
use Rattle.drn_lexer.specs.Spans.{IsNextLine}
use Rattle.drn_lexer.specs.declared.error.LexError.{LexError}
use Rattle.drn_lexer.specs.declared.line.Line.{Line}
use Rattle.drn_lexer.specs.declared.line.Place.{Place}
use Rattle.drn_read.specs.Faults.{lexed}
use Rattle.drn_read.specs.Reading.{last_number}
use Rattle.drn_read.specs.Shown.{rest, IsSource}
use Rattle.drn_read.specs.declared.cursor.Cursor.{Cursor}
use Rattle.drn_read.specs.declared.error.DrnError.{DrnError}
use Rattle.drn_read.proofs.Cuts.{last-append, Ends, nothing, ending}
use Rattle.drn_read.proofs.Cuts.{ends as every}
use Rattle.drn_read.proofs.FirstFault.{Semantics, Passed, passes, stops, lexer_stops, ends}

-- ---- the numbers of lines

numbered_at : (number at : ℕ) (pieces : List (List ℕ)) (before rest : List TextLine) (source : TextLine) → numbered number at pieces ≡ before ++ source ∷ rest → source.number ≡ length before + number
numbered_at number at [] [] rest source e = cc
numbered_at number at [] (l ∷ before) rest source e = cc
numbered_at number at (piece ∷ pieces) [] rest source e =
    let same : Path TextLine (record { number = number; at = at; bytes = piece }) source = cc in
    omega (arith, ap (λ (l : TextLine). l.number) same)
numbered_at number at (piece ∷ pieces) (l ∷ before) rest source e =
    let tail : numbered (number + 1) (at + length piece + 1) pieces ≡ before ++ source ∷ rest = cc in
    omega (arith, numbered_at (number + 1) (at + length piece + 1) pieces before rest source tail)

-- a line's number tells how many lines stand before it
line_number : (text : List ℕ) (before rest : List TextLine) (source : TextLine) → lines text ≡ before ++ source ∷ rest → source.number ≡ length before + 1
unfolding lines_from
line_number text before rest source e = numbered_at 1 0 (without_empty_end (slice_split (λ b. b == 10) text)) before rest source e

last_number-ends : (front : List TextLine) (l : TextLine) → last_number (front ++ l ∷ []) ≡ l.number
last_number-ends front l = rw (last_number, last-append front l) refl

last_by : (text : List ℕ) (ls : List TextLine) → Ends ls → lines text ≡ ls → last_number ls ≡ length ls
last_by text _ nothing e = refl
last_by text _ (ending front l) e = last_number-ends front l ∙ line_number text front [] l e ∙ omega (arith, length-append front (l ∷ []))

-- the last line's number tells how many lines there are
last_is_length : (text : List ℕ) → last_number (lines text) ≡ length (lines text)
last_is_length text = last_by text (lines text) (every (lines text)) refl

-- ---- places

-- what is kept at a place: what the lines before it say, of which none has a fault
pub record AtPlace {S : Type 0} (semantics : Semantics S) (text : List ℕ) (place : Place) (kept : S) : Type 0 where
  pub before : List TextLine
  pub all : before ++ lines_at text place ≡ lines text
  pub fault : semantics.first_fault [] (lines text) ≡ semantics.first_fault before (lines_at text place)
  pub said_is : kept ≡ semantics.said before
  pub number : place.number ≡ length before + 1

pub at_start : {S : Type 0} (semantics : Semantics S) (text : List ℕ) (place : Place) (kept : S) → lines_at text place ≡ lines text → place.number ≡ 1 → kept ≡ semantics.said [] → AtPlace semantics text place kept
at_start semantics text place kept e n s = record {
  before = [];
  all = e;
  fault = ap (semantics.first_fault []) (sym e);
  said_is = s;
  number = n;
}

is_source : (text : List ℕ) (old new : Place) (line : Line) (cursor : Cursor) (l : IsNextLine text old new line) → rest cursor ≡ slice_range text line.from line.to → cursor.line ≡ line → IsSource cursor l.source
is_source text old new line cursor l e f = record { says = e ∙ l.content; number = ap (λ (k : Line). k.number) (f ∙ l.span) }

place_by : (text : List ℕ) (old : Place) (ls rest : List TextLine) (source : TextLine) → ls ≡ source ∷ rest → own_fault source ≡ None → place_after text old ls ≡ place_behind text source
place_by text old ls rest source e f = rw e (rw (place_after, f) refl)

-- a line without fault was read
pub one_more : {S : Type 0} (semantics : Semantics S) (text : List ℕ) (old new : Place) (kept after : S) (line : Line) (cursor : Cursor) → AtPlace semantics text old kept → IsNextLine text old new line → rest cursor ≡ slice_range text line.from line.to → cursor.line ≡ line
    → new ≡ place_after text old (behind_comments (lines_at text old))
    → ((source : TextLine) → IsSource cursor source → semantics.line_fault kept source ≡ None) → ((source : TextLine) → IsSource cursor source → after ≡ semantics.with_line kept source)
    → AtPlace semantics text new after
one_more semantics text old new kept after line cursor h l e f p calm grown =
    let s : TextLine = l.source in
    let sp = is_source text old new line cursor l e f in
    let none : semantics.line_fault (semantics.said h.before) s ≡ None = ap (λ k. semantics.line_fault k s) (sym h.said_is) ∙ calm s sp in
    let r : Passed semantics h.before (lines_at text old) (lines_at text new) s = passes semantics h.before (lines_at text old) (lines_at text new) s l.first l.sound none in
    let whole : lines text ≡ r.earlier ++ s ∷ lines_at text new = sym (sym (append_assoc r.earlier (s ∷ []) (lines_at text new)) ∙ ap (λ ls. ls ++ lines_at text new) (sym r.front_is) ∙ r.all ∙ h.all) in
    let at : new.number ≡ s.number + 1 = ap (λ (k : Place). k.number) (p ∙ place_by text old (behind_comments (lines_at text old)) (lines_at text new) s l.first l.sound) in
    record {
      before = r.front;
      all = r.all ∙ h.all;
      fault = h.fault ∙ r.fault;
      said_is = grown s sp ∙ ap (λ k. semantics.with_line k s) h.said_is ∙ sym r.said_is;
      number = omega (arith, at, line_number text r.earlier (lines_at text new) s whole, ap length r.front_is, length-append r.earlier (s ∷ []));
    }

-- a line at fault
pub refused : {S : Type 0} (semantics : Semantics S) (text : List ℕ) (old new : Place) (kept : S) (line : Line) (cursor : Cursor) (error : DrnError) → AtPlace semantics text old kept → IsNextLine text old new line → rest cursor ≡ slice_range text line.from line.to → cursor.line ≡ line
    → ((source : TextLine) → IsSource cursor source → semantics.line_fault kept source ≡ Some error) → semantics.first_fault [] (lines text) ≡ Some error
refused semantics text old new kept line cursor error h l e f wrong =
    let s : TextLine = l.source in
    let some : semantics.line_fault (semantics.said h.before) s ≡ Some error = ap (λ k. semantics.line_fault k s) (sym h.said_is) ∙ wrong s (is_source text old new line cursor l e f) in
    h.fault ∙ stops semantics h.before (lines_at text old) (lines_at text new) s error l.first l.sound some

-- the first of these lines has a fault of its own
record Faulty (text : List ℕ) (old : Place) (ls : List TextLine) (fault : LexError) : Type 0 where
  pub source : TextLine
  pub rest : List TextLine
  pub are : ls ≡ source ∷ rest
  pub own : own_fault source ≡ Some fault
  pub place : (place_after text old ls).number ≡ source.number

faulty : (text : List ℕ) (old : Place) (ls : List TextLine) (fault : LexError) → Err fault ≡ answer_of ls → Faulty text old ls fault
faulty text old [] fault e = cc
faulty text old (l ∷ ls) fault e = by_own (own_fault l) refl e
  where
    by_own : (o : Option LexError) → own_fault l ≡ o → (Err fault ≡ (elim o as (λ o. Result (Option Line) LexError) [ Some fault ↦ Err fault | None ↦ Ok (Some (span_of l)) ])) → Faulty text old (l ∷ ls) fault
    by_own (Some other) f g = let same : other ≡ fault = cc in record { source = l; rest = ls; are = refl; own = f ∙ ap (λ (x : LexError). Some x) same; place = rw (place_after, f) refl }
    by_own None f g = cc

-- a line with a fault of its own
pub lexer_refused : {S : Type 0} (semantics : Semantics S) (text : List ℕ) (old new : Place) (kept : S) (fault : LexError) → AtPlace semantics text old kept → Err fault ≡ answer_of (behind_comments (lines_at text old))
    → new ≡ place_after text old (behind_comments (lines_at text old)) → semantics.first_fault [] (lines text) ≡ Some (record { line = new.number; cause = lexed fault })
lexer_refused semantics text old new kept fault h e p =
    let r = faulty text old (behind_comments (lines_at text old)) fault e in
    let n : r.source.number ≡ new.number = sym (ap (λ (k : Place). k.number) p ∙ r.place) in
    h.fault ∙ lexer_stops semantics h.before (lines_at text old) r.rest r.source fault r.are r.own ∙ ap (λ n. Some (record { line = n; cause = lexed fault })) n

none_left : (ls : List TextLine) → Ok None ≡ answer_of ls → ls ≡ []
none_left [] e = refl
none_left (l ∷ ls) e = by_own (own_fault l) e
  where
    by_own : (o : Option LexError) → (Ok None ≡ (elim o as (λ o. Result (Option Line) LexError) [ Some fault ↦ Err fault | None ↦ Ok (Some (span_of l)) ])) → l ∷ ls ≡ []
    by_own (Some other) g = cc
    by_own None g = cc

end_place : (text : List ℕ) (old : Place) (ls : List TextLine) → ls ≡ [] → (place_after text old ls).number ≡ old.number + length (lines_at text old)
end_place text old ls e = rw e refl

-- no line is left
pub record AllRead {S : Type 0} (semantics : Semantics S) (text : List ℕ) (number : ℕ) (kept : S) : Type 0 where
  pub fault : semantics.first_fault [] (lines text) ≡ None
  pub said_is : kept ≡ semantics.said (lines text)
  pub last : last_number (lines text) ≡ number

pub at_end : {S : Type 0} (semantics : Semantics S) (text : List ℕ) (old new : Place) (kept : S) → AtPlace semantics text old kept → Ok None ≡ answer_of (behind_comments (lines_at text old))
    → new ≡ place_after text old (behind_comments (lines_at text old)) → AllRead semantics text (new.number - 1) kept
at_end semantics text old new kept h e p =
    let left : behind_comments (lines_at text old) ≡ [] = none_left (behind_comments (lines_at text old)) e in
    let r = ends semantics h.before (lines_at text old) left in
    let n : new.number ≡ old.number + length (lines_at text old) = ap (λ (k : Place). k.number) p ∙ end_place text old (behind_comments (lines_at text old)) left in
    record {
      fault = h.fault ∙ r.0;
      said_is = h.said_is ∙ sym r.1 ∙ ap semantics.said h.all;
      last = omega (arith, n, h.number, last_is_length text, ap length h.all, length-append h.before (lines_at text old));
    }
