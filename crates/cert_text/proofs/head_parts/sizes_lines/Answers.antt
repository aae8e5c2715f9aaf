use Rattle.std.proofs.Common.{◌+◌, codes, refl, Ok}
use Rattle.lift_model.specs.Valid.{most_states, common_limit}
use Rattle.line_text.specs.Reading.{◌>>=◌, line_at}
use Rattle.line_text.specs.Parts.{number_in}
use Rattle.cert_text.specs.declared.head_parts.Sizes.{Sizes}
use Rattle.cert_text.specs.HeadParts.{sizes_at}
use Rattle.cert_text.proofs.Following.{begin_as, done, goes, stops}
use Rattle.cert_text.proofs.HeadRests.{sizes_are, behind_common, behind_states}
use Rattle.cert_text.proofs.head_parts.sizes_lines.Goals as goal

pub returns-in_err-common-clause-follows : goal.returns-in_err-common-clause-follows
returns-in_err-common-clause-follows g c =
    let adds = c.calls_add_up.ensures in
    let s0 = begin_as adds sizes_at (λ p. line_at (number_in (codes "common") 1 common_limit) p >>= λ common. behind_common common.0 common.1) sizes_are c.args.lines.now c.args.src.now in
    stops adds (line_at (number_in (codes "common") 1 common_limit)) behind_common c.from_residual.result c.from_residual.ensures.1 s0 c.in_err-common.ensures.follows

pub returns-in_err-count-clause-follows : goal.returns-in_err-count-clause-follows
returns-in_err-count-clause-follows g c =
    let adds = c.calls_add_up.ensures in
    let s0 = begin_as adds sizes_at (λ p. line_at (number_in (codes "common") 1 common_limit) p >>= λ common. behind_common common.0 common.1) sizes_are c.args.lines.now c.args.src.now in
    let s1 = goes adds (line_at (number_in (codes "common") 1 common_limit)) behind_common s0 c.in_ok-common.ensures.follows in
    stops adds (line_at (number_in (codes "states") 1 (most_states + 1))) (behind_states c.in_ok-common.common) c.from_residual-in_err-count.result c.from_residual-in_err-count.ensures.1 s1 c.in_err-count.ensures.follows

pub returns-in_err-init-clause-follows : goal.returns-in_err-init-clause-follows
returns-in_err-init-clause-follows g c =
    let adds = c.calls_add_up.ensures in
    let s0 = begin_as adds sizes_at (λ p. line_at (number_in (codes "common") 1 common_limit) p >>= λ common. behind_common common.0 common.1) sizes_are c.args.lines.now c.args.src.now in
    let s1 = goes adds (line_at (number_in (codes "common") 1 common_limit)) behind_common s0 c.in_ok-common.ensures.follows in
    let s2 = goes adds (line_at (number_in (codes "states") 1 (most_states + 1))) (behind_states c.in_ok-common.common) s1 c.in_ok-count.ensures.follows in
    stops adds (line_at (number_in (codes "init") 0 c.in_ok-count.count)) (λ init p. Ok (record { common = c.in_ok-common.common; states = c.in_ok-count.count; init = init }, p)) c.from_residual-in_err-init.result c.from_residual-in_err-init.ensures.1 s2 c.in_err-init.ensures.follows

pub returns-clause-follows : goal.returns-clause-follows
returns-clause-follows g c =
    let adds = c.calls_add_up.ensures in
    let s0 = begin_as adds sizes_at (λ p. line_at (number_in (codes "common") 1 common_limit) p >>= λ common. behind_common common.0 common.1) sizes_are c.args.lines.now c.args.src.now in
    let s1 = goes adds (line_at (number_in (codes "common") 1 common_limit)) behind_common s0 c.in_ok-common.ensures.follows in
    let s2 = goes adds (line_at (number_in (codes "states") 1 (most_states + 1))) (behind_states c.in_ok-common.common) s1 c.in_ok-count.ensures.follows in
    let s3 = goes adds (line_at (number_in (codes "init") 0 c.in_ok-count.count)) (λ init p. Ok (record { common = c.in_ok-common.common; states = c.in_ok-count.count; init = init }, p)) s2 c.in_ok-init.ensures.follows in
    let sizes : Sizes = record { common = c.in_ok-common.common; states = c.in_ok-count.count; init = c.in_ok-init.init } in
    done adds sizes c.in_ok-init.ensures.follows.ran.left_with s3 (λ later. refl)
