-- The definitions tried on samples that were worked out by hand.
use Rattle.std.proofs.Common.{◌≡◌, ℕ, List, [], ◌∷◌, codes, pos, negsuc, refl, Result}
use Rattle.std.specs.Fmt.{digits}
use Rattle.std.specs.declared.option.Option.{Option}
use Rattle.lift_grid.specs.declared.error.RegionError.TheVariants.{Missing}
use Rattle.lift_rows.specs.declared.error.RowError.TheVariants.{RowSum, Negative, RowParameters, TooWide}
use Rattle.drn_read.specs.declared.error.DrnCause.TheVariants.{Power}
use Rattle.lift_cert.specs.declared.miss.Miss.TheVariants.{Row, Rate, Limit}
use Rattle.line_text.specs.declared.error.TextCause.TheVariants.{Truncated}
use Rattle.cert_check.specs.declared.error.CheckError.TheVariants.{Text, Missed, Depth}
use Rattle.plift_words.specs.Job.{JobData}
use Rattle.plift_words.specs.declared.job.Field.{Field}
use Rattle.plift_words.specs.declared.job.Field.TheVariants.{Formula, FormulaBound}
use Rattle.property_text.specs.declared.op.Op.TheVariants.{AtLeast}
use Rattle.plift_top.specs.Property.{property_lines}
use Rattle.plift_top.specs.Answers.{note_of, HasNote}
use Rattle.check_notes.specs.declared.status.Status.TheVariants as status
use Rattle.plift_top.specs.declared.refusal.Refusal.TheVariants as refusal
use Rattle.plift_top.proofs.Acts.{never_done}

-- the notes of a text that stands for no model, of a region at fault, and of rows
refused : note_of (refusal.Model (record { line = 6; cause = Power })) ≡ codes "model: line 6: Power\n"
unfolding digits
refused = refl

unnamed : note_of (refusal.Region Missing) ≡ codes "usage: --region Missing\n"
unnamed = refl

unsummed : note_of (refusal.Rows (RowSum 0 0 0 (pos 9999))) ≡ codes "rows: state 0 choice 0: set 0 sums to 9999\n"
unfolding digits
unsummed = refl

negative : note_of (refusal.Rows (Negative 0 0 2 1 (negsuc 0))) ≡ codes "rows: state 0 choice 0: target 2 at corner 1 has weight -1\n"
unfolding digits
negative = refl

many : note_of (refusal.Rows (RowParameters 0 0 5)) ≡ codes "rows: state 0 choice 0: 5 parameters\n"
unfolding digits
many = refl

wide : note_of (refusal.Rows (TooWide 12 3)) ≡ codes "rows: state 12 choice 3: too wide\n"
unfolding digits
wide = refl

-- the notes of files that aren't sound
missed : note_of (refusal.Unsound (Missed 0 (Row 0 0 1 (pos 64) (pos 60)))) ≡ codes "not sound: node 0 state 0 choice 0 corner 1: 64 > 60\n"
unfolding digits
missed = refl

slow : note_of (refusal.Unsound (Missed 0 (Rate 0 0 0 (pos 6) 0 (pos 10)))) ≡ codes "not sound: node 0 state 0 choice 0 corner 0: weight 6 times 2^0 < 10\n"
unfolding digits
slow = refl

above : note_of (refusal.Unsound (Missed 12 (Limit (pos 18) (pos 16)))) ≡ codes "not sound: node 12 bound: 18 > 16\n"
unfolding digits
above = refl

under : note_of (refusal.Unsound (Missed 0 (Limit (pos 48) (pos 48)))) ≡ codes "not sound: node 0 bound: 48 <= 48\n"
unfolding digits
under = refl

cut_off : note_of (refusal.Unsound (Text (record { line = 20; cause = Truncated }))) ≡ codes "not sound: line 20: Truncated\n"
unfolding digits
cut_off = refl

too_deep : note_of (refusal.Unsound (Depth 3)) ≡ codes "not sound: node 3 depth\n"
unfolding digits
too_deep = refl

-- the notes of a formula, and the line that tells one
no_formula : note_of (refusal.Usage Formula) ≡ codes "usage: --formula Syntax\n"
no_formula = refl

no_bound : note_of (refusal.Usage FormulaBound) ≡ codes "usage: --formula Bound\n"
no_bound = refl

asks : property_lines AtLeast (record { num = 1; den = 2 }) ≡ codes "property >= 1/2\n" ∷ []
unfolding property_lines digits
asks = refl

-- the note of a text that is too long, whatever the words and the text are, and none of a job that is done
too_long : (asked : Result JobData Field) (old new : Option (List ℕ)) → HasNote status.TooLong asked old new (codes "too long\n")
too_long asked old new = (refusal.TooLong, refl, refl, tt)

done : (asked : Result JobData Field) (old new : Option (List ℕ)) (note : List ℕ) → HasNote status.Done asked old new note → ⊥
done asked old new note h = never_done h.0 h.1
