use Rattle.std.proofs.Common.{map, length, refl, sym}
use Rattle.cert_text.specs.declared.head_parts.Parts.{Parts}
use Rattle.lift_model.specs.Valid.{most_choices, most_transitions}
use Rattle.line_text.specs.Reading.{◌>>=◌, line_at}
use Rattle.cert_text.specs.Lines.{version_of, kind_of, parameters_of, goal_of}
use Rattle.cert_text.specs.Head.{head_at, states_at}
use Rattle.cert_text.specs.HeadParts.{sizes_at, asked_at}
use Rattle.cert_text.proofs.Following.{begin_as, done, goes, read_as, stops}
use Rattle.cert_text.proofs.HeadRests.{behind_version, behind_kind, behind_names, behind_sizes, behind_goal, behind_rows, behind_asked, head_is_read}
use Rattle.cert_text.proofs.head_parts.parts_at.Goals as goal

pub states-requires-clause-ready : goal.states-requires-clause-ready
states-requires-clause-ready g c = c.in_ok-goal.ensures.ran.left_with

pub returns-in_err-second : goal.returns-in_err-second
returns-in_err-second g c =
    let adds = c.calls_add_up.ensures in
    let s0 = begin_as adds head_at (λ p. line_at version_of p >>= λ version. behind_version version.0 version.1) head_is_read c.args.lines.now c.args.src.now in
    stops adds (line_at version_of) behind_version c.from_residual.result c.from_residual.ensures.1 s0 c.in_err-second.ensures

pub returns-in_err-kind : goal.returns-in_err-kind
returns-in_err-kind g c =
    let adds = c.calls_add_up.ensures in
    let s0 = begin_as adds head_at (λ p. line_at version_of p >>= λ version. behind_version version.0 version.1) head_is_read c.args.lines.now c.args.src.now in
    let s1 = goes adds (line_at version_of) behind_version s0 c.in_ok-second.ensures in
    stops adds (line_at kind_of) (behind_kind c.in_ok-second.second) c.from_residual-in_err-kind.result c.from_residual-in_err-kind.ensures.1 s1 c.in_err-kind.ensures

pub returns-in_err-names : goal.returns-in_err-names
returns-in_err-names g c =
    let adds = c.calls_add_up.ensures in
    let s0 = begin_as adds head_at (λ p. line_at version_of p >>= λ version. behind_version version.0 version.1) head_is_read c.args.lines.now c.args.src.now in
    let s1 = goes adds (line_at version_of) behind_version s0 c.in_ok-second.ensures in
    let s2 = goes adds (line_at kind_of) (behind_kind c.in_ok-second.second) s1 c.in_ok-kind.ensures in
    stops adds (line_at parameters_of) (λ names. behind_names c.in_ok-second.second c.in_ok-kind.kind names (length names)) c.from_residual-in_err-names.result c.from_residual-in_err-names.ensures.1 s2 c.in_err-names.ensures.value

pub returns-in_err-sizes : goal.returns-in_err-sizes
returns-in_err-sizes g c =
    let adds = c.calls_add_up.ensures in
    let s0 = begin_as adds head_at (λ p. line_at version_of p >>= λ version. behind_version version.0 version.1) head_is_read c.args.lines.now c.args.src.now in
    let s1 = goes adds (line_at version_of) behind_version s0 c.in_ok-second.ensures in
    let s2 = goes adds (line_at kind_of) (behind_kind c.in_ok-second.second) s1 c.in_ok-kind.ensures in
    let names = goes adds (line_at parameters_of) (λ names. behind_names c.in_ok-second.second c.in_ok-kind.kind names (length names)) s2 c.in_ok-names.ensures.value in
    let s3 = read_as (λ parameters. behind_names c.in_ok-second.second c.in_ok-kind.kind c.in_ok-names.names parameters) (sym c.len-parameters.ensures.len) names in
    stops adds sizes_at (behind_sizes c.in_ok-second.second c.in_ok-kind.kind c.in_ok-names.names c.len-parameters.result) c.from_residual-in_err-sizes.result c.from_residual-in_err-sizes.ensures.1 s3 c.in_err-sizes.ensures.follows

pub returns-in_err-goal : goal.returns-in_err-goal
returns-in_err-goal g c =
    let adds = c.calls_add_up.ensures in
    let s0 = begin_as adds head_at (λ p. line_at version_of p >>= λ version. behind_version version.0 version.1) head_is_read c.args.lines.now c.args.src.now in
    let s1 = goes adds (line_at version_of) behind_version s0 c.in_ok-second.ensures in
    let s2 = goes adds (line_at kind_of) (behind_kind c.in_ok-second.second) s1 c.in_ok-kind.ensures in
    let names = goes adds (line_at parameters_of) (λ names. behind_names c.in_ok-second.second c.in_ok-kind.kind names (length names)) s2 c.in_ok-names.ensures.value in
    let s3 = read_as (λ parameters. behind_names c.in_ok-second.second c.in_ok-kind.kind c.in_ok-names.names parameters) (sym c.len-parameters.ensures.len) names in
    let s4 = goes adds sizes_at (behind_sizes c.in_ok-second.second c.in_ok-kind.kind c.in_ok-names.names c.len-parameters.result) s3 c.in_ok-sizes.ensures.follows in
    stops adds (line_at (goal_of c.in_ok-sizes.sizes.states)) (behind_goal c.in_ok-second.second c.in_ok-kind.kind c.in_ok-names.names c.len-parameters.result c.in_ok-sizes.sizes) c.from_residual-in_err-goal.result c.from_residual-in_err-goal.ensures.1 s4 c.in_err-goal.ensures

pub returns-in_err-states : goal.returns-in_err-states
returns-in_err-states g c =
    let adds = c.calls_add_up.ensures in
    let s0 = begin_as adds head_at (λ p. line_at version_of p >>= λ version. behind_version version.0 version.1) head_is_read c.args.lines.now c.args.src.now in
    let s1 = goes adds (line_at version_of) behind_version s0 c.in_ok-second.ensures in
    let s2 = goes adds (line_at kind_of) (behind_kind c.in_ok-second.second) s1 c.in_ok-kind.ensures in
    let names = goes adds (line_at parameters_of) (λ names. behind_names c.in_ok-second.second c.in_ok-kind.kind names (length names)) s2 c.in_ok-names.ensures.value in
    let s3 = read_as (λ parameters. behind_names c.in_ok-second.second c.in_ok-kind.kind c.in_ok-names.names parameters) (sym c.len-parameters.ensures.len) names in
    let s4 = goes adds sizes_at (behind_sizes c.in_ok-second.second c.in_ok-kind.kind c.in_ok-names.names c.len-parameters.result) s3 c.in_ok-sizes.ensures.follows in
    let s5 = goes adds (line_at (goal_of c.in_ok-sizes.sizes.states)) (behind_goal c.in_ok-second.second c.in_ok-kind.kind c.in_ok-names.names c.len-parameters.result c.in_ok-sizes.sizes) s4 c.in_ok-goal.ensures in
    stops adds (states_at c.in_ok-kind.kind c.in_ok-sizes.sizes.states c.len-parameters.result c.in_ok-sizes.sizes.states most_choices most_transitions 0) (behind_rows c.in_ok-second.second c.in_ok-kind.kind c.in_ok-names.names c.len-parameters.result c.in_ok-sizes.sizes c.in_ok-goal.goal.items) c.from_residual-in_err-states.result c.from_residual-in_err-states.ensures.1 s5 c.in_err-states.ensures

pub returns-in_err-asked : goal.returns-in_err-asked
returns-in_err-asked g c =
    let adds = c.calls_add_up.ensures in
    let s0 = begin_as adds head_at (λ p. line_at version_of p >>= λ version. behind_version version.0 version.1) head_is_read c.args.lines.now c.args.src.now in
    let s1 = goes adds (line_at version_of) behind_version s0 c.in_ok-second.ensures in
    let s2 = goes adds (line_at kind_of) (behind_kind c.in_ok-second.second) s1 c.in_ok-kind.ensures in
    let names = goes adds (line_at parameters_of) (λ names. behind_names c.in_ok-second.second c.in_ok-kind.kind names (length names)) s2 c.in_ok-names.ensures.value in
    let s3 = read_as (λ parameters. behind_names c.in_ok-second.second c.in_ok-kind.kind c.in_ok-names.names parameters) (sym c.len-parameters.ensures.len) names in
    let s4 = goes adds sizes_at (behind_sizes c.in_ok-second.second c.in_ok-kind.kind c.in_ok-names.names c.len-parameters.result) s3 c.in_ok-sizes.ensures.follows in
    let s5 = goes adds (line_at (goal_of c.in_ok-sizes.sizes.states)) (behind_goal c.in_ok-second.second c.in_ok-kind.kind c.in_ok-names.names c.len-parameters.result c.in_ok-sizes.sizes) s4 c.in_ok-goal.ensures in
    let s6 = goes adds (states_at c.in_ok-kind.kind c.in_ok-sizes.sizes.states c.len-parameters.result c.in_ok-sizes.sizes.states most_choices most_transitions 0) (behind_rows c.in_ok-second.second c.in_ok-kind.kind c.in_ok-names.names c.len-parameters.result c.in_ok-sizes.sizes c.in_ok-goal.goal.items) s5 c.in_ok-states.ensures in
    stops adds (asked_at c.in_ok-second.second c.len-parameters.result) (behind_asked c.in_ok-kind.kind c.in_ok-names.names c.in_ok-sizes.sizes c.in_ok-goal.goal.items (map (λ v. v.items) c.in_ok-states.states.items)) c.from_residual-in_err-asked.result c.from_residual-in_err-asked.ensures.1 s6 c.in_err-asked.ensures

pub returns : goal.returns
returns g c =
    let adds = c.calls_add_up.ensures in
    let s0 = begin_as adds head_at (λ p. line_at version_of p >>= λ version. behind_version version.0 version.1) head_is_read c.args.lines.now c.args.src.now in
    let s1 = goes adds (line_at version_of) behind_version s0 c.in_ok-second.ensures in
    let s2 = goes adds (line_at kind_of) (behind_kind c.in_ok-second.second) s1 c.in_ok-kind.ensures in
    let names = goes adds (line_at parameters_of) (λ names. behind_names c.in_ok-second.second c.in_ok-kind.kind names (length names)) s2 c.in_ok-names.ensures.value in
    let s3 = read_as (λ parameters. behind_names c.in_ok-second.second c.in_ok-kind.kind c.in_ok-names.names parameters) (sym c.len-parameters.ensures.len) names in
    let s4 = goes adds sizes_at (behind_sizes c.in_ok-second.second c.in_ok-kind.kind c.in_ok-names.names c.len-parameters.result) s3 c.in_ok-sizes.ensures.follows in
    let s5 = goes adds (line_at (goal_of c.in_ok-sizes.sizes.states)) (behind_goal c.in_ok-second.second c.in_ok-kind.kind c.in_ok-names.names c.len-parameters.result c.in_ok-sizes.sizes) s4 c.in_ok-goal.ensures in
    let s6 = goes adds (states_at c.in_ok-kind.kind c.in_ok-sizes.sizes.states c.len-parameters.result c.in_ok-sizes.sizes.states most_choices most_transitions 0) (behind_rows c.in_ok-second.second c.in_ok-kind.kind c.in_ok-names.names c.len-parameters.result c.in_ok-sizes.sizes c.in_ok-goal.goal.items) s5 c.in_ok-states.ensures in
    let s7 = goes adds (asked_at c.in_ok-second.second c.len-parameters.result) (behind_asked c.in_ok-kind.kind c.in_ok-names.names c.in_ok-sizes.sizes c.in_ok-goal.goal.items (map (λ v. v.items) c.in_ok-states.states.items)) s6 c.in_ok-asked.ensures in
    let parts : Parts = record {
      kind = c.in_ok-kind.kind;
      names = c.in_ok-names.names;
      sizes = c.in_ok-sizes.sizes;
      goal = c.in_ok-goal.goal;
      states = c.in_ok-states.states;
      asked = c.in_ok-asked.asked;
    } in
    done adds parts c.in_ok-asked.ensures.ran.left_with s7 (λ later. refl)
