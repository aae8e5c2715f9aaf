use Rattle.std.proofs.Common.{◌≡◌, drop, map, string_bytes}
use Rattle.std.specs.List.{list_all}
use Rattle.plift_words.specs.Line.{options, stands}
use Rattle.plift_words.proofs.line.Form.all_stand.Given as goal

abbrev pub invariant-loop-name : goal.invariant-loop-name
invariant-loop-name l =
    list_all (λ option. stands option (options (map string_bytes l.words))) (map (λ n. n.now) (drop l.name-index l.self.must.now))
    ≡ list_all (λ option. stands option (options (map string_bytes l.words))) (map (λ n. n.now) l.self.must.now)
