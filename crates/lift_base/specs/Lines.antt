-- Lines of a source, one by one: what was taken of it and not given yet, and what calls do.
use Rattle.std.specs.Prelude.{◌≡◌, ◌⊎◌, ◌+◌, ◌<◌, ◌≤◌, ◌^◌, ◌==◌, ℕ, Bool, false, IsTrue, List, [], ◌++◌, length, Some, None, Ok, Err}
use Prim.Native.Char.{code}
use Rattle.std.specs.List.{position_or_len, before_first, after_first, slice_range}
use Rattle.std.specs.declared.option.Option.{Option}
use Rattle.std.specs.declared.result.Result.{Result}
use Rattle.std.specs.Io.KnownBytes.{Consumes, IsAtEnd}
use Rattle.lift_base.specs.Outside.{Rose}
use Rattle.lift_base.specs.declared.pieces.Front.{Front}
use Rattle.lift_base.specs.declared.pieces.Front.TheVariants as front
use Rattle.lift_base.specs.declared.pieces.Piece.{Piece}
use Rattle.lift_base.specs.declared.pieces.Piece.TheVariants as piece
use Rattle.lift_base.specs.declared.pieces.LineError.{LineError}
use Rattle.lift_base.specs.declared.pieces.LineError.TheVariants as why

-- ---- the front of what is left

-- a line feed, which ends a line
abbrev pub is_feed : ℕ → Bool
is_feed b = b == code "\n"

-- how many bytes a line has at most, its line feed not counted, by our own profile
abbrev pub most_line_bytes : ℕ
most_line_bytes = 2 ^ 20

-- how many bytes stand before the first line feed; all of them where there is none
abbrev pub feed_at : List ℕ → ℕ
feed_at rest = position_or_len is_feed rest

-- what stands at the front of what is left
abbrev pub IsFront : Front → List ℕ → Type 0
IsFront front.Line rest = (feed_at rest ≤ most_line_bytes) × (feed_at rest < length rest)
IsFront front.Cut rest = (feed_at rest ≤ most_line_bytes) × (feed_at rest ≡ length rest) × (0 < length rest)
IsFront front.Long rest = most_line_bytes < feed_at rest
IsFront front.End rest = length rest ≡ 0

-- ---- lines

-- What is seen of lines: how many bytes may be taken, the text in which spans are, the bytes that are held, which were taken and not given,
-- how many bytes were taken, how many lines were given, whether the end of input was seen, and why no more is read.
pub record LinesData : Type 0 where
  pub limit : ℕ
  pub text : List ℕ
  pub held : List ℕ
  pub taken : ℕ
  pub given : ℕ
  pub ended : Bool
  pub failure : Option LineError

-- nothing was taken yet
abbrev pub fresh : ℕ → List ℕ → LinesData
fresh limit text = record { limit = limit; text = text; held = []; taken = 0; given = 0; ended = false; failure = None }

-- more than the limit was taken where that is the failure, and nowhere else
abbrev pub KeepsLimit : Option LineError → ℕ → ℕ → Type 0
KeepsLimit (Some why.TooLong) limit taken = limit < taken
KeepsLimit _ limit taken = taken ≤ limit

-- more bytes are needed to tell what stands at the front
pub record Waits (l : LinesData) : Type 0 where
  pub none : l.failure ≡ None
  pub running : l.ended ≡ false
  pub bare : feed_at l.held ≡ length l.held
  pub few : length l.held ≤ most_line_bytes

-- what may follow the bytes that were taken: nothing where the end was seen
abbrev pub MayFollow : LinesData → List ℕ → Type 0
MayFollow l later = IsTrue l.ended → later ≡ []

-- ---- reading on

-- how many bytes one read gives at most
abbrev pub most_read_bytes : ℕ
most_read_bytes = 4096

-- Behind the first of these bytes more were needed, and no more than the limit was taken; the others are no more than one read may give.
pub record Needed (l : LinesData) (bytes : List ℕ) : Type 0 where
  pub first : List ℕ
  pub last : List ℕ
  pub parts : bytes ≡ first ++ last
  pub few : length last ≤ most_read_bytes
  pub waits : Waits (record l { held = l.held ++ first })
  pub within : l.taken + length first ≤ l.limit

-- These bytes were read, and nothing was given. Each read was needed; the source was left alone where none was, and once the end was seen.
pub record ReadOn {S : Type 0} (left : S → Option (List ℕ)) (old new : LinesData) (before after : S) (bytes : List ℕ) : Type 0 where
  pub consumed : Consumes (left before) (left after) bytes
  pub held : new.held ≡ old.held ++ bytes
  pub taken : new.taken ≡ old.taken + length bytes
  pub given : new.given ≡ old.given
  pub limit : new.limit ≡ old.limit
  pub closed : IsTrue old.ended → IsTrue new.ended × (bytes ≡ [])
  pub end : IsTrue new.ended → IsTrue old.ended ⊎ IsAtEnd (left after)
  pub lazy : Needed old bytes ⊎ ((new ≡ old) × (after ≡ before))

-- what a call answers is the failure that it leaves, or there is none
abbrev pub Tells : {A : Type 0} → Result A LineError → Option LineError → Type 0
Tells (Ok x) failure = failure ≡ None
Tells (Err e) failure = failure ≡ Some e

-- no fault was counted, but where Fault is answered; that comes only where one was, or there had been one
abbrev pub CountsFault : {A S : Type 0} → (S → ℕ) → Option LineError → S → S → Result A LineError → Type 0
CountsFault faults failure before after (Ok x) = faults after ≡ faults before
CountsFault faults failure before after (Err why.TooLong) = faults after ≡ faults before
CountsFault faults failure before after (Err why.Fault) =
    (faults before ≤ faults after) × ((failure ≡ Some why.Fault) ⊎ Rose (faults before) (faults after))

-- whatever may follow, that stands at the front of what is left
abbrev pub FrontIs : LinesData → Front → Type 0
FrontIs l front = (later : List ℕ) → MayFollow l later → IsFront front (l.held ++ later)

-- ---- giving

-- the line at the front was given
abbrev pub passed : LinesData → LinesData
passed l = record l { held = after_first is_feed l.held; given = l.given + 1 }

-- What `next` gives, behind bytes that were read: a line, whose span of the text holds its bytes, and which was given with its line feed;
-- or nothing was given.
abbrev pub Gives : Piece → LinesData → LinesData → Type 0
Gives (piece.Line from to) between new =
    FrontIs between front.Line × (from ≤ to) × (to ≤ length between.text)
    × (slice_range between.text from to ≡ before_first is_feed between.held) × (new ≡ passed between)
Gives piece.Cut between new = FrontIs between front.Cut × (new ≡ between)
Gives piece.Long between new = FrontIs between front.Long × (new ≡ between)
Gives piece.End between new = FrontIs between front.End × (new ≡ between)

-- the same at an answer: after a failure nothing was given
abbrev pub Answers : Result Piece LineError → LinesData → LinesData → Type 0
Answers (Ok piece) between new = Gives piece between new
Answers (Err e) between new = new ≡ between

-- one thing alone stands at the front of what is left
abbrev pub FrontsAreOne : Type 0
FrontsAreOne = (rest : List ℕ) (a b : Front) → IsFront a rest → IsFront b rest → a ≡ b
