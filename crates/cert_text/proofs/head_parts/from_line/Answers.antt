use Rattle.std.proofs.Common.{◌≡◌, ◌+◌, ◌∙◌, Bool, true, false, None, Some, Ok, codes, ap, refl, rules}
use Rattle.line_text.specs.Reading.{◌>>=◌, Cursor, line_at}
use Rattle.line_text.specs.Parts.{number_in}
use Rattle.line_text.specs.Follow.{place}
use Rattle.cert_text.specs.Head.{from_at}
use Rattle.cert_text.proofs.HeadRests.{from_none, from_reported}
use Rattle.cert_text.proofs.Following.{begin_as, done, goes, known, read_as, stops}
use Rattle.cert_text.proofs.head_parts.from_line.Goals as goal

pub returns-then-not-second : goal.returns-then-not-second
returns-then-not-second g c =
    let no : c.args.second ≡ false = search rules in
    known c.calls_add_up.ensures (from_at c.args.second c.args.w) c.args.lines.now c.args.src.now None c.requires.ready (λ later. ap (λ (b : Bool). from_at b c.args.w (place c.args.lines.now later)) no ∙ from_none c.args.w (place c.args.lines.now later))

pub returns-in_err-v : goal.returns-in_err-v
returns-in_err-v g c =
    let adds = c.calls_add_up.ensures in
    let yes : c.args.second ≡ true = search rules in
    let s0 = begin_as adds (from_at c.args.second c.args.w) (λ p. line_at (number_in (codes "from") 1 (c.args.w + 1)) p >>= λ v. Ok (Some v.0, v.1)) (λ p. ap (λ (b : Bool). from_at b c.args.w p) yes ∙ from_reported c.args.w p) c.args.lines.now c.args.src.now in
    let end : c.args.w + 1 ≡ c.from.result + 1 = search rules in
    let s1 = read_as (λ n. λ (p : Cursor). line_at (number_in (codes "from") 1 n) p >>= λ v. Ok (Some v.0, v.1)) end s0 in
    stops adds (line_at (number_in (codes "from") 1 (c.from.result + 1))) (λ v. λ (p : Cursor). Ok (Some v, p)) c.from_residual.result c.from_residual.ensures.1 s1 c.in_err-v.ensures.follows

pub returns : goal.returns
returns g c =
    let adds = c.calls_add_up.ensures in
    let yes : c.args.second ≡ true = search rules in
    let s0 = begin_as adds (from_at c.args.second c.args.w) (λ p. line_at (number_in (codes "from") 1 (c.args.w + 1)) p >>= λ v. Ok (Some v.0, v.1)) (λ p. ap (λ (b : Bool). from_at b c.args.w p) yes ∙ from_reported c.args.w p) c.args.lines.now c.args.src.now in
    let end : c.args.w + 1 ≡ c.from.result + 1 = search rules in
    let s1 = read_as (λ n. λ (p : Cursor). line_at (number_in (codes "from") 1 n) p >>= λ v. Ok (Some v.0, v.1)) end s0 in
    let s2 = goes adds (line_at (number_in (codes "from") 1 (c.from.result + 1))) (λ v. λ (p : Cursor). Ok (Some v, p)) s1 c.in_ok-v.ensures.follows in
    done adds (Some c.in_ok-v.v) c.in_ok-v.ensures.follows.ran.left_with s2 (λ later. refl)
