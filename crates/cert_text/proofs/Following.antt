-- Readers in turn over lines of a source: what the code has read so far, and what is left to be read.
use Rattle.std.proofs.Common.{◌≡◌, ◌∙◌, ◌+◌, ap, sym, subst, refl, ℕ, List, [], ◌++◌, None, Ok, Err, append_assoc, inl}
use Rattle.std.specs.declared.option.Option.{Option}
use Rattle.std.specs.declared.result.Result.{Result}
use Rattle.std.specs.Result.{IsErrAnd}
use Rattle.std.specs.List.{before_first}
use Rattle.lift_base.specs.Lines.{LinesData, MayFollow, passed, is_feed}
use Rattle.line_text.specs.declared.error.TextCause.{TextCause}
use Rattle.line_text.specs.declared.error.TextCause.TheVariants.{Memory}
use Rattle.line_text.specs.declared.error.TextError.{TextError}
use Rattle.line_text.specs.declared.error.FileError.{FileError}
use Rattle.line_text.specs.declared.error.FileError.TheVariants as file
use Rattle.line_text.specs.Words.{words}
use Rattle.line_text.specs.Parts.{Words, Read}
use Rattle.line_text.specs.Reading.{◌>>=◌, Cursor, Reader, due, line_at}
use Rattle.line_text.specs.Shown.{Says}
use Rattle.line_text.specs.Follow.{Agrees, Due, Follows, IsDue, Ran, Takes, Went, failure_of, place, reported_fault}
use Rattle.line_text.specs.Laws.{AddsUp}

-- an error that is handed on
pub handed : {X : Type 0} (P : Result X FileError → Type 0) (r : Result X FileError) (e : FileError) → IsErrAnd r (λ x. x ≡ e) → P (Err e) → P r
handed P (Ok x) e is h = absurd is
handed P (Err y) e is h = subst (λ (x : FileError). P (Err x)) (sym is) h

-- ---- so far

-- calls came from one place to another, and behind that place the rest reads what the whole reads, whatever may follow
pub record SoFar {S W : Type 0} (left : S → Option (List ℕ)) (faults : S → ℕ) (whole rest : Reader W) (a b : LinesData) (s t : S) : Type 0 where
  pub bytes : List ℕ
  pub went : Went left faults a b s t bytes
  pub goes : (later : List ℕ) → MayFollow b later → whole (place a (bytes ++ later)) ≡ rest (place b later)

pub begin : {S W : Type 0} {left : S → Option (List ℕ)} {faults : S → ℕ} → AddsUp left faults → (whole : Reader W) (l : LinesData) (s : S) → SoFar left faults whole whole l l s s
begin adds whole l s = record { bytes = []; went = adds.begins l s; goes = λ later may. refl }

-- what is read is the same by another name
pub begin_as : {S W : Type 0} {left : S → Option (List ℕ)} {faults : S → ℕ} → AddsUp left faults → (whole rest : Reader W) → ((p : Cursor) → whole p ≡ rest p) → (l : LinesData) (s : S) → SoFar left faults whole rest l l s s
begin_as adds whole rest same l s = record { bytes = []; went = adds.begins l s; goes = λ later may. same (place l later) }

-- what is left is read by another name
pub read_as : {S W A : Type 0} {left : S → Option (List ℕ)} {faults : S → ℕ} {whole : Reader W} {a b : LinesData} {s t : S} {x y : A} (rest : A → Reader W) → x ≡ y → SoFar left faults whole (rest x) a b s t → SoFar left faults whole (rest y) a b s t
read_as {left = left} {faults} {whole} {a} {b} {s} {t} rest same so = subst (λ x. SoFar left faults whole (rest x) a b s t) same so

pub goes_by : {S W : Type 0} {left : S → Option (List ℕ)} {faults : S → ℕ} → AddsUp left faults → {whole rest : Reader W} {a b c : LinesData} {s t u : S} → (next : Reader W) (ys : List ℕ)
    → SoFar left faults whole rest a b s t → Ran left faults b c t u ys None → ((later : List ℕ) → MayFollow c later → rest (place b (ys ++ later)) ≡ next (place c later))
    → SoFar left faults whole next a c s u
goes_by adds {whole} {rest} {a} {b} {c} {s} {t} {u} next ys so r step =
    let both = adds.goes a b c s t u so.bytes ys None so.went r in record {
      bytes = so.bytes ++ ys;
      went = record { took = both.0.took; calm = both.0.fault; clean = inl both.0.left_with };
      goes = λ later may. ap (λ (l : List ℕ). whole (place a l)) (append_assoc so.bytes ys later) ∙ so.goes (ys ++ later) (both.1 later may) ∙ step later may;
    }

-- a part was read
pub goes : {S X Y W : Type 0} {left : S → Option (List ℕ)} {faults : S → ℕ} → AddsUp left faults → {whole : Reader W} {a b c : LinesData} {s t u : S} {view : X → Y} {x : X} → (read : Reader Y) (next : Y → Reader W)
    → SoFar left faults whole (λ p. read p >>= λ q. next q.0 q.1) a b s t → Follows left faults view read b c t u (Ok x)
    → SoFar left faults whole (next (view x)) a c s u
goes adds {view = view} {x = x} read next so f = goes_by adds (next (view x)) f.bytes so f.ran (λ later may. ap (λ (r : Result _ TextError). r >>= λ q. next q.0 q.1) (f.agrees later may))

-- the line that is due came to the front
pub near : {S W : Type 0} {left : S → Option (List ℕ)} {faults : S → ℕ} → AddsUp left faults → {whole rest : Reader W} {a b c : LinesData} {s t u : S}
    → SoFar left faults whole rest a b s t → IsDue left faults b c t u → SoFar left faults whole rest a c s u
near adds {rest = rest} so d = goes_by adds rest d.bytes so d.ran (λ later may. ap rest (d.same later))

-- the line that is due was looked at
pub peeks : {S W : Type 0} {left : S → Option (List ℕ)} {faults : S → ℕ} → AddsUp left faults → {whole : Reader W} {a b c : LinesData} {s t u : S} (next : List ℕ → Reader W)
    → SoFar left faults whole (λ p. due p >>= λ l. next l.0 p) a b s t → IsDue left faults b c t u → SoFar left faults whole (next (before_first is_feed c.held)) a c s u
peeks adds {c = c} next so d = goes_by adds (next (before_first is_feed c.held)) d.bytes so d.ran (λ later may. ap (λ (p : Cursor). due p >>= λ l. next l.0 p) (d.same later) ∙ ap (λ (r : Result _ TextError). r >>= λ l. next l.0 (place c later)) (d.line later))

-- what the rest comes to, the whole comes to
pub tail : {S X W : Type 0} {left : S → Option (List ℕ)} {faults : S → ℕ} → AddsUp left faults → {whole rest : Reader W} {a b c : LinesData} {s t u : S} {look : X → W} (r : Result X FileError)
    → SoFar left faults whole rest a b s t → Follows left faults look rest b c t u r → Follows left faults look whole a c s u r
tail {S} {X} {W} {left} {faults} adds {whole} {rest} {a} {b} {c} {s} {t} {u} {look} r so f =
    let both = adds.goes a b c s t u so.bytes f.bytes (failure_of r) so.went f.ran in record {
      bytes = so.bytes ++ f.bytes;
      ran = both.0;
      agrees = agree both.1 r f.agrees;
    }
  where
    same : ((later : List ℕ) → MayFollow c later → MayFollow b (f.bytes ++ later)) → (later : List ℕ) → MayFollow c later → whole (place a ((so.bytes ++ f.bytes) ++ later)) ≡ rest (place b (f.bytes ++ later))
    same follows later may = ap (λ (l : List ℕ). whole (place a l)) (append_assoc so.bytes f.bytes later) ∙ so.goes (f.bytes ++ later) (follows later may)

    agree : ((later : List ℕ) → MayFollow c later → MayFollow b (f.bytes ++ later)) → (r : Result X FileError) → Agrees look rest b c f.bytes r → Agrees look whole a c (so.bytes ++ f.bytes) r
    agree follows (Ok x) now = λ later may. same follows later may ∙ now later may
    agree follows (Err (file.Text e)) now = λ some later may. let reported = now some later may in (reported.0, same follows later may ∙ reported.1, reported.2)
    agree follows (Err file.Fault) now = tt
    agree follows (Err file.TooLong) now = tt

-- what is read is the same by another name
pub as_reader : {S X W : Type 0} {left : S → Option (List ℕ)} {faults : S → ℕ} {rest : Reader W} {a b : LinesData} {s t : S} {look : X → W} (whole : Reader W) (r : Result X FileError) → ((p : Cursor) → whole p ≡ rest p)
    → Follows left faults look rest a b s t r → Follows left faults look whole a b s t r
as_reader {X = X} {rest = rest} {a} {b} {look = look} whole r same f = record { bytes = f.bytes; ran = f.ran; agrees = agree r f.agrees } where
  agree : (r : Result X FileError) → Agrees look rest a b f.bytes r → Agrees look whole a b f.bytes r
  agree (Ok x) now = λ later may. same (place a (f.bytes ++ later)) ∙ now later may
  agree (Err (file.Text e)) now = λ some later may. let reported = now some later may in (reported.0, same (place a (f.bytes ++ later)) ∙ reported.1, reported.2)
  agree (Err file.Fault) now = tt
  agree (Err file.TooLong) now = tt

-- ---- an error

-- where a part isn't read, neither is what begins with it
pub as_error : {S X Y Z W : Type 0} {left : S → Option (List ℕ)} {faults : S → ℕ} {a b : LinesData} {s t : S} {view : X → Y} {look : Z → W} {read : Reader Y} {e : FileError} (rest : Reader W)
    → ((l : List ℕ) (f : TextError) → read (place a l) ≡ Err f → rest (place a l) ≡ Err f) → Follows left faults view read a b s t (Err e) → Follows left faults look rest a b s t (Err e)
as_error {S} {X} {Y} {Z} {W} {left} {faults} {a} {b} {s} {t} {view} {look} {read} {e} rest fails f = by e f.ran f.agrees where
  by : (e : FileError) → Ran left faults a b s t f.bytes (failure_of {X = X} (Err e)) → Agrees view read a b f.bytes (Err e) → Follows left faults look rest a b s t (Err e)
  by (file.Text e) ran agrees = record {
    bytes = f.bytes;
    ran = ran;
    agrees = λ some later may. let reported = agrees some later may in (reported.0, fails (f.bytes ++ later) reported.0 reported.1, reported.2);
  }
  by file.Fault ran agrees = record { bytes = f.bytes; ran = ran; agrees = tt }
  by file.TooLong ran agrees = record { bytes = f.bytes; ran = ran; agrees = tt }

pub then_fails : {Y W : Type 0} (k : Y × Cursor → Result (W × Cursor) TextError) (r : Result (Y × Cursor) TextError) (f : TextError) → r ≡ Err f → (r >>= k) ≡ Err f
then_fails k r f e = ap (λ (q : Result _ TextError). q >>= k) e

-- a part isn't read, and the error is handed on
pub stops : {S X Y Z W : Type 0} {left : S → Option (List ℕ)} {faults : S → ℕ} → AddsUp left faults → {whole : Reader W} {a b c : LinesData} {s t u : S} {view : X → Y} {look : Z → W} {e : FileError} (read : Reader Y) (next : Y → Reader W) (r : Result Z FileError) → IsErrAnd r (λ x. x ≡ e)
    → SoFar left faults whole (λ p. read p >>= λ q. next q.0 q.1) a b s t → Follows left faults view read b c t u (Err e) → Follows left faults look whole a c s u r
stops {left = left} {faults = faults} adds {whole} {a} {b} {c} {s} {u = u} {look = look} {e} read next r is so f =
    handed (λ (r : Result _ FileError). Follows left faults look whole a c s u r) r e is (tail adds (Err e) so (as_error (λ p. read p >>= λ q. next q.0 q.1) (λ l fault bad. then_fails (λ q. next q.0 q.1) (read (place b l)) fault bad) f))

pub stops_by : {S X Y Z W : Type 0} {left : S → Option (List ℕ)} {faults : S → ℕ} → AddsUp left faults → {whole rest : Reader W} {a b c : LinesData} {s t u : S} {view : X → Y} {look : Z → W} {read : Reader Y} {e : FileError}
    → SoFar left faults whole rest a b s t → Follows left faults view read b c t u (Err e) → ((l : List ℕ) (f : TextError) → read (place b l) ≡ Err f → rest (place b l) ≡ Err f) → Follows left faults look whole a c s u (Err e)
stops_by adds {rest = rest} {e = e} so f fails = tail adds (Err e) so (as_error rest fails f)

-- what is left isn't read, and the error is handed on
pub ends : {S X Z W : Type 0} {left : S → Option (List ℕ)} {faults : S → ℕ} → AddsUp left faults → {whole rest : Reader W} {a b c : LinesData} {s t u : S} {view : X → W} {look : Z → W} {e : FileError} (r : Result Z FileError) → IsErrAnd r (λ x. x ≡ e)
    → SoFar left faults whole rest a b s t → Follows left faults view rest b c t u (Err e) → Follows left faults look whole a c s u r
ends {left = left} {faults = faults} adds {whole} {rest} {a} {c = c} {s} {u = u} {look = look} {e} r is so f =
    handed (λ (r : Result _ FileError). Follows left faults look whole a c s u r) r e is (tail adds (Err e) so (as_error rest (λ l fault bad. bad) f))

-- ---- without a call

pub ran_none : {S : Type 0} {left : S → Option (List ℕ)} {faults : S → ℕ} → AddsUp left faults → (l : LinesData) (s : S) → l.failure ≡ None → Ran left faults l l s s [] None
ran_none adds l s none = let went = adds.begins l s in record { took = went.took; left_with = none; fault = refl }

-- what is left is known
pub known : {S X W : Type 0} {left : S → Option (List ℕ)} {faults : S → ℕ} → AddsUp left faults → {look : X → W} (rest : Reader W) (l : LinesData) (s : S) (x : X) → l.failure ≡ None
    → ((later : List ℕ) → rest (place l later) ≡ Ok (look x, place l later)) → Follows left faults look rest l l s s (Ok x)
known adds rest l s x none is = record { bytes = []; ran = ran_none adds l s none; agrees = λ later may. is later }

-- what is left is refused
pub refused : {S X W : Type 0} {left : S → Option (List ℕ)} {faults : S → ℕ} → AddsUp left faults → {look : X → W} (rest : Reader W) (l : LinesData) (s : S) (e : FileError) (f : TextError) → l.failure ≡ None
    → ((later : List ℕ) → rest (place l later) ≡ Err f) → e ≡ file.Text (reported_fault f) → Follows left faults look rest l l s s (Err e)
refused {S} {X} {W} {left} {faults} adds {look} rest l s e f none is reported = subst (λ (e : FileError). Follows left faults look rest l l s s (Err e)) (sym reported) (record { bytes = []; ran = ran_none adds l s none; agrees = λ some later may. (f, is later, refl) })

-- memory ran out
pub wanting : {S X W : Type 0} {left : S → Option (List ℕ)} {faults : S → ℕ} → AddsUp left faults → {look : X → W} (rest : Reader W) (l : LinesData) (s : S) (e : FileError) (n : ℕ) → l.failure ≡ None
    → e ≡ file.Text (reported_fault (record { line = n; cause = Memory })) → Follows left faults look rest l l s s (Err e)
wanting {S} {X} {W} {left} {faults} adds {look} rest l s e n none reported = subst (λ (e : FileError). Follows left faults look rest l l s s (Err e)) (sym reported) (record { bytes = []; ran = ran_none adds l s none; agrees = λ some. absurd (some refl) })

-- memory ran out behind what was read
pub out : {S X W : Type 0} {left : S → Option (List ℕ)} {faults : S → ℕ} → AddsUp left faults → {whole rest : Reader W} {a b c : LinesData} {s t u : S} {look : X → W} (ys : List ℕ) (e : FileError) (n : ℕ)
    → SoFar left faults whole rest a b s t → Ran left faults b c t u ys None → e ≡ file.Text (reported_fault (record { line = n; cause = Memory })) → Follows left faults look whole a c s u (Err e)
out {S} {X} {W} {left} {faults} adds {whole} {rest} {a} {b} {c} {s} {t} {u} {look} ys e n so r reported =
    subst (λ (e : FileError). Follows left faults look whole a c s u (Err e)) (sym reported) (record { bytes = so.bytes ++ ys; ran = (adds.goes a b c s t u so.bytes ys None so.went r).0; agrees = λ some. absurd (some refl) })

-- all was read
pub done : {S X W : Type 0} {left : S → Option (List ℕ)} {faults : S → ℕ} → AddsUp left faults → {whole rest : Reader W} {a b : LinesData} {s t : S} {look : X → W} (x : X) → b.failure ≡ None
    → SoFar left faults whole rest a b s t → ((later : List ℕ) → rest (place b later) ≡ Ok (look x, place b later)) → Follows left faults look whole a b s t (Ok x)
done adds {rest = rest} {b = b} {t = t} x none so is = tail adds (Ok x) so (known adds rest b t x none is)

-- what was read is seen in another way
pub seen : {S X Y W : Type 0} {left : S → Option (List ℕ)} {faults : S → ℕ} {a b : LinesData} {s t : S} {view : X → W} {read : Reader W} {x : X} (look : Y → W) (y : Y) → view x ≡ look y
    → Follows left faults view read a b s t (Ok x) → Follows left faults look read a b s t (Ok y)
seen {a = a} {b} {read = read} look y same f = record { bytes = f.bytes; ran = f.ran; agrees = λ later may. f.agrees later may ∙ ap (λ (w : _). Ok (w, place b later)) same }

-- ---- one line

line_by : {Y : Type 0} (read : Words → Read Y) (n : ℕ) (rest t : List ℕ) (p : Cursor) (y : Y) → due (n, rest) ≡ Ok (t, p) → read (words t) ≡ Ok y → line_at read (n, rest) ≡ Ok (y, p)
unfolding line_at
line_by read n rest t p y d e = rw (d, e) refl

line_not : {Y : Type 0} (read : Words → Read Y) (n : ℕ) (rest t : List ℕ) (p : Cursor) (cause : TextCause) → due (n, rest) ≡ Ok (t, p) → read (words t) ≡ Err cause → line_at read (n, rest) ≡ Err (record { line = n; cause = cause })
unfolding line_at
line_not read n rest t p cause d e = rw (d, e) refl

pub line_none : {Y : Type 0} (read : Words → Read Y) (c : Cursor) (e : TextError) → due c ≡ Err e → line_at read c ≡ Err e
unfolding line_at
line_none read c e d = rw d refl

-- the line that is due, which is at the front: it is read and given, or its words are refused
pub line_is : {S X Y : Type 0} {left : S → Option (List ℕ)} {faults : S → ℕ} {a b c : LinesData} {s t : S} (view : X → Y) (read : Words → Read Y) (ws : Words) (value : Result X TextCause) (r : Result X FileError)
    → IsDue left faults a b s t → ws ≡ words (before_first is_feed b.held) → Says view value (read ws) → Takes b c value r → Follows left faults view (line_at read) a c s t r
line_is {S} {X} {Y} {left} {faults} {a} {b} {c} {s} {t} view read ws (Ok x) r d front says takes =
    subst (λ (r : Result X FileError). Follows left faults view (line_at read) a c s t r) (sym takes.0) (subst (λ (l : LinesData). Follows left faults view (line_at read) a l s t (Ok x)) (sym takes.1) (record {
      bytes = d.bytes;
      ran = let took = d.ran.took in record { took = record { consumed = took.consumed; taken = took.taken; limit = took.limit; closed = took.closed; end = took.end }; left_with = d.ran.left_with; fault = d.ran.fault };
      agrees = λ later may. ap (λ (p : Cursor). line_at read p) (d.same later) ∙ line_by read (b.given + 1) (b.held ++ later) (before_first is_feed b.held) (place (passed b) later) (view x) (d.line later) (ap read (sym front) ∙ says);
    }))
line_is {S} {X} {Y} {left} {faults} {a} {b} {c} {s} {t} view read ws (Err cause) r d front says takes =
    subst (λ (r : Result X FileError). Follows left faults view (line_at read) a c s t r) (sym takes.0) (subst (λ (l : LinesData). Follows left faults view (line_at read) a l s t (Err (file.Text (reported_fault (record { line = b.given + 1; cause = cause }))))) (sym takes.1) (record {
      bytes = d.bytes;
      ran = d.ran;
      agrees = λ some later may. (record { line = b.given + 1; cause = cause }, ap (λ (p : Cursor). line_at read p) (d.same later) ∙ line_not read (b.given + 1) (b.held ++ later) (before_first is_feed b.held) (place (passed b) later) cause (d.line later) (ap read (sym front) ∙ says some), refl);
    }))

-- memory ran out over the line at the front
pub due_wanting : {S : Type 0} {left : S → Option (List ℕ)} {faults : S → ℕ} {a b : LinesData} {s t : S} (e : FileError) (n : ℕ) → IsDue left faults a b s t → e ≡ file.Text (reported_fault (record { line = n; cause = Memory })) → Follows {X = Unit {0}} left faults (λ _. []) due a b s t (Err e)
due_wanting {S} {left} {faults} {a} {b} {s} {t} e n d reported = subst (λ (e : FileError). Follows {X = Unit {0}} left faults (λ _. []) due a b s t (Err e)) (sym reported) (record { bytes = d.bytes; ran = d.ran; agrees = λ some. absurd (some refl) })

-- no line is due
pub line_stops : {S X Y : Type 0} {left : S → Option (List ℕ)} {faults : S → ℕ} {a b : LinesData} {s t : S} {e : FileError} (view : X → Y) (read : Words → Read Y) (r : Result X FileError)
    → IsErrAnd r (λ x. x ≡ e) → Due left faults a b s t (Err e) → Follows left faults view (line_at read) a b s t r
line_stops {S} {X} {Y} {left} {faults} {a} {b} {s} {t} {e} view read r is f =
    handed (λ (r : Result X FileError). Follows left faults view (line_at read) a b s t r) r e is (as_error (line_at read) (λ l fault bad. line_none read (place a l) fault bad) f)
