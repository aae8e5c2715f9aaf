-- What a report that was read says of an answer to `refine`.
use Rattle.std.proofs.Common.{◌≡◌, ◌∙◌, ℕ, List, [], Err, refl, sym, subst, append-nil}
use Rattle.std.specs.declared.option.Option.{Option}
use Rattle.std.specs.Io.KnownBytes.{Appends}
use Rattle.lift_grid.specs.Tree.{Tree}
use Rattle.corner_lift.specs.Case.{IsAdmitted}
use Rattle.lift_rows.specs.Laws.{AdmittedHasNoFault}
use Rattle.region_tree.specs.Right.{IsRightTree}
use Rattle.cert_text.specs.Head.{HeadData, least_precision, version}
use Rattle.cert_text.specs.Laws.{TextsTellOneReport, text_of}
use Rattle.cert_check.specs.Sound.{leaf_counts}
use Rattle.cert_check.specs.Answer.{Answers}
use Rattle.cert_check.specs.Laws.{AnswersAreOne, SoundFilesPass}
use Rattle.cert_check.specs.declared.error.CheckError.{CheckError}
use Rattle.check_notes.specs.declared.status.Status.TheVariants as status
use Rattle.plift_top.specs.Answers.{status_of}
use Rattle.plift_top.specs.Check.{IsUnsound}
use Rattle.plift_top.specs.Refine.{IsSoundText, LacksDepth, IsRefusedAtDepth, IsRefusedDeeper, deeper_head, IsFitting, IsRefinedTo, RefinesRight}
use Rattle.plift_top.specs.declared.refusal.Refusal.{Refusal}
use Rattle.plift_top.specs.declared.refusal.Refusal.TheVariants as refusal
use Rattle.plift_top.proofs.Errors.{faultless}

-- a text tells one report
module _ (same : TextsTellOneReport) (bytes : List ℕ) (h g : HeadData) (t s : Tree) (one : IsSoundText bytes h t) (other : IsSoundText bytes g s) where
  reported_once : (h ≡ g) × (t ≡ s)
  reported_once =
      let both = same h g t s [] [] one.sound.report other.sound.report (append-nil (text_of h t) ∙ sym one.text ∙ other.text ∙ sym (append-nil (text_of g s))) in
      (both.0, both.1)

-- a sound report is a sound file
pub unsound_text : (bytes : List ℕ) (h : HeadData) (t : Tree) → IsUnsound bytes → IsSoundText bytes h t → ⊥
unsound_text bytes h t bad old = bad (leaf_counts (version h) t) (record { head = h; tree = t; sound = old.sound; text = old.text; counts = refl })

-- where the bytes aren't sound, no other refusal comes
pub unsound_status : (depth : ℕ) (bytes : List ℕ) → IsUnsound bytes → (why : Refusal) → IsRefusedDeeper depth why bytes → status_of why ≡ status.NotSound
unsound_status depth bytes bad (refusal.Unsound error) r = refl
unsound_status depth bytes bad (refusal.Usage f) (h, t, old, is) = absurd (unsound_text bytes h t bad old)
unsound_status depth bytes bad (refusal.Rows error) (h, t, old, is) = absurd (unsound_text bytes h t bad old)
unsound_status depth bytes bad _ (h, t, old, is) = absurd is

-- the report that was written is the right one where that which was read is
pub refines_right : TextsTellOneReport → (old new : Option (List ℕ)) (depth : ℕ) (bytes : List ℕ) → IsRefinedTo old new depth bytes → RefinesRight old new depth bytes
refines_right same old new depth bytes r h t is right =
    let once = reported_once same bytes h r.head t r.tree is r.old in
    let there : IsRightTree r.head.asked (least_precision r.head) r.head.bound r.tree = subst (λ (s : Tree). IsRightTree r.head.asked (least_precision r.head) r.head.bound s) once.1 (subst (λ (g : HeadData). IsRightTree g.asked (least_precision g) g.bound t) once.0 right) in
    let (refined, holds, text) = r.reported in
    subst (λ (g : HeadData). (tree : Tree) × IsRightTree (deeper_head depth g).asked (least_precision g) g.bound tree × Appends old new (text_of (deeper_head depth g) tree)) (sym once.0) (refined, holds.right there, text)

-- a sound report has no first fault
never_faulty : SoundFilesPass → AnswersAreOne → (bytes : List ℕ) (h : HeadData) (t : Tree) → IsSoundText bytes h t → (error : CheckError) → Answers bytes (Err error) → ⊥
never_faulty pass one bytes h t old error = faultless pass one bytes (leaf_counts (version h) t) error (record { head = h; tree = t; sound = old.sound; text = old.text; counts = refl })

-- what refuses it is said of its own head
module _ (same : TextsTellOneReport) (depth : ℕ) (bytes : List ℕ) (h : HeadData) (t : Tree) (old : IsSoundText bytes h t) where
  at_own : (why : Refusal) → ((g : HeadData) × (s : Tree) × IsSoundText bytes g s × IsRefusedAtDepth depth g why) → IsRefusedAtDepth depth h why
  at_own why (g, s, there, is) = subst (λ (x : HeadData). IsRefusedAtDepth depth x why) (sym (reported_once same bytes h g t s old there).0) is

  -- and so is what was written
  own_fitting : (was now : Option (List ℕ)) → IsRefinedTo was now depth bytes → IsFitting depth h
  own_fitting was now r = subst (IsFitting depth) (sym (reported_once same bytes h r.head t r.tree old r.old).0) r.fitting

  pub lacking_done : (was now : Option (List ℕ)) → LacksDepth depth h → IsRefinedTo was now depth bytes → ⊥
  lacking_done was now lacks r = (own_fitting was now r).fits lacks

  pub wide_done : (was now : Option (List ℕ)) → (IsAdmitted (deeper_head depth h).asked → ⊥) → IsRefinedTo was now depth bytes → ⊥
  wide_done was now bad r = bad (own_fitting was now r).case.admitted

module _ (pass : SoundFilesPass) (one : AnswersAreOne) (same : TextsTellOneReport) where
  -- one that can be gone on from isn't refused
  pub fitting_refused : AdmittedHasNoFault → (depth : ℕ) (bytes : List ℕ) (h : HeadData) (t : Tree) → IsSoundText bytes h t → IsFitting depth h → (why : Refusal) → IsRefusedDeeper depth why bytes → ⊥
  fitting_refused none depth bytes h t old fit (refusal.Unsound error) r = never_faulty pass one bytes h t old error r
  fitting_refused none depth bytes h t old fit (refusal.Usage f) r = fit.fits (at_own same depth bytes h t old (refusal.Usage f) r).1
  fitting_refused none depth bytes h t old fit (refusal.Rows error) r = none (deeper_head depth h).asked error fit.case.admitted (at_own same depth bytes h t old (refusal.Rows error) r).1
  fitting_refused none depth bytes h t old fit _ (g, s, there, is) = is

  -- one whose depth can't be gone on to is refused for that
  pub lacking_status : (depth : ℕ) (bytes : List ℕ) (h : HeadData) (t : Tree) → IsSoundText bytes h t → LacksDepth depth h → (why : Refusal) → IsRefusedDeeper depth why bytes → status_of why ≡ status.Usage
  lacking_status depth bytes h t old lacks (refusal.Unsound error) r = absurd (never_faulty pass one bytes h t old error r)
  lacking_status depth bytes h t old lacks (refusal.Usage f) r = refl
  lacking_status depth bytes h t old lacks (refusal.Rows error) r = absurd ((at_own same depth bytes h t old (refusal.Rows error) r).0 lacks)
  lacking_status depth bytes h t old lacks _ (g, s, there, is) = absurd is

  -- and one that has a row that is too wide for that, where the depth can be gone on to
  pub wide_status : (depth : ℕ) (bytes : List ℕ) (h : HeadData) (t : Tree) → IsSoundText bytes h t → (LacksDepth depth h → ⊥) → (why : Refusal) → IsRefusedDeeper depth why bytes → status_of why ≡ status.RowsRefused
  wide_status depth bytes h t old fits (refusal.Unsound error) r = absurd (never_faulty pass one bytes h t old error r)
  wide_status depth bytes h t old fits (refusal.Usage f) r = absurd (fits (at_own same depth bytes h t old (refusal.Usage f) r).1)
  wide_status depth bytes h t old fits (refusal.Rows error) r = refl
  wide_status depth bytes h t old fits _ (g, s, there, is) = absurd is
