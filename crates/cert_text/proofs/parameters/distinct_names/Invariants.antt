use Rattle.std.proofs.Common.{◌≡◌, map, drop, take, reverse, []}
use Rattle.cert_text.specs.Lines.{names_in}
use Rattle.cert_text.proofs.parameters.distinct_names.Given as goal

abbrev pub invariant-loop-word : goal.invariant-loop-word
invariant-loop-word l = record {
  kept : l.names ≡ map (λ w. w.now) (take l.word-index l.words);
  same : names_in [] (map (λ w. w.now) l.words) ≡ names_in (reverse l.names) (map (λ w. w.now) (drop l.word-index l.words));
}
