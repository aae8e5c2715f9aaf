use Rattle.std.proofs.Common.{rules, ◌≡◌, ◌≤◌, ◌-◌, ◌^◌, take, List, ℕ, length, sym, subst, arith, Result, Ok, Err, Some}
use Rattle.lift_base.specs.Lines.{LinesData, fresh}
use Rattle.std.specs.List.{concat}
use Rattle.cert_text.specs.Cut.{IsBehind, WasHeadRead}
use Rattle.cert_text.specs.Migrated.{lines_of}
use Rattle.cert_check.specs.Answer.{Answers}
use Rattle.cert_check.specs.Source.{ChecksSource}
use Rattle.cert_check.specs.Shown.{Says, leaves_in}
use Rattle.cert_check.specs.declared.text.SoundText.{SoundText}
use Rattle.cert_check.specs.declared.summary.Summary.{Summary}
use Rattle.cert_check.specs.declared.error.CheckError.{CheckError}
use Rattle.cert_check.proofs.Sources.{passes, source_of, text_says, text_reported}
use Rattle.cert_check.proofs.text.check_parts.Goals as goal

pub returns-in_err-checked-clause-answer : goal.returns-in_err-checked-clause-answer
returns-in_err-checked-clause-answer c =
    let text = c.args.text.now in
    let w = c.in_ok-walk.walk in
    let a = c.check_file-answer in
    let e = c.in_err-checked.field-0.0 in
    let is : c.from_residual-in_err-checked.result ≡ Err e = search rules in
    let checks : ChecksSource (length text) (λ (s : List ℕ). Some s) (λ _. 0) text a.new.src (Err e) =
    subst (λ (s : List ℕ). ChecksSource (length text) (λ (s : List ℕ). Some s) (λ _. 0) s a.new.src (Err e)) c.new.ensures
    (source_of {S = List ℕ} (λ s. Some s) (λ _. 0) c.readings_end.ensures.within c.readings_end.ensures.beyond (length text) w.lines.text w.lines a.new.walk.lines c.in_ok-walk.ensures.lines c.new.result a.new.src c.given.ensures.limit (Err e) c.in_err-checked.ensures.end c.sound_files_pass.ensures.sound c.sound_reports_hold.ensures c.in_err-checked.ensures.ended) in
    subst (λ (r : Result SoundText CheckError). Says {X = SoundText} {Y = Summary} (λ x. x.leaves) (Answers text) r) (sym is) (text_says (length text) text a.new.src c.sound_files_pass.ensures.pass (omega arith) (Err e) checks)

pub returns-clause-sound : goal.returns-clause-sound
returns-clause-sound c =
    let text = c.args.text.now in
    let w = c.in_ok-walk.walk in
    let a = c.check_file-answer in
    let x = c.in_ok-checked.checked in
    let checks : ChecksSource (length text) (λ (s : List ℕ). Some s) (λ _. 0) text a.new.src (Ok x.leaves) =
    subst (λ (s : List ℕ). ChecksSource (length text) (λ (s : List ℕ). Some s) (λ _. 0) s a.new.src (Ok x.leaves)) c.new.ensures
    (source_of {S = List ℕ} (λ s. Some s) (λ _. 0) c.readings_end.ensures.within c.readings_end.ensures.beyond (length text) w.lines.text w.lines a.new.walk.lines c.in_ok-walk.ensures.lines c.new.result a.new.src c.given.ensures.limit (Ok x) c.in_ok-checked.ensures.end c.sound_files_pass.ensures.sound c.sound_reports_hold.ensures c.in_ok-checked.ensures.ended) in
    passes c.sound_files_pass.ensures.sound text (Ok x.leaves) (text_says (length text) text a.new.src c.sound_files_pass.ensures.pass (omega arith) (Ok x.leaves) checks)

pub returns-clause-answer : goal.returns-clause-answer
returns-clause-answer c =
    let file = returns-clause-sound c in
    c.sound_files_pass.ensures.pass c.args.text.now c.in_ok-checked.checked.leaves file

pub returns-clause-cut : goal.returns-clause-cut
returns-clause-cut c =
    let text = c.args.text.now in
    let w = c.in_ok-walk.walk in
    let x = c.in_ok-checked.checked in
    let Was : LinesData → List ℕ → Type 0 = λ l s. WasHeadRead {S = List ℕ} (λ s. Some s) (λ _. 0) l s x.head x.head_lines in
    let read : Was (fresh (length text) w.lines.text) text = subst (Was (fresh (length text) w.lines.text)) c.new.ensures (subst (λ (l : LinesData). Was l c.new.result) c.in_ok-walk.ensures.lines c.in_ok-checked.ensures.head) in
    let cut = c.cut_lines in
    let less : c.saturating_sub.result ≡ x.head_lines - 3 = c.saturating_sub.ensures in
    let front : cut.result.0.now ≡ concat (take (x.head_lines - 3) (lines_of text)) = subst (λ (n : ℕ). cut.result.0.now ≡ concat (take n (lines_of text))) less cut.ensures.lines in
    let below : IsBehind (x.head_lines - 3) text cut.result.1.now = subst (λ (n : ℕ). IsBehind n text cut.result.1.now) less cut.ensures.behind in
    c.heads_are_cut.ensures text w.lines.text x.head x.head_lines cut.result.0.now cut.result.1.now c.behind_lines.result.now c.requires read front below c.behind_lines.ensures
