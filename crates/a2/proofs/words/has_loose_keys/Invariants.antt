use Rattle.std.specs.Prelude.{◌≡◌, ◌+◌, ◌≤◌, length, map, string_bytes}
use Rattle.a2.specs.Words.{HasLooseKeys}
use Rattle.a2.proofs.words.has_loose_keys.Given as goal

-- loose keys can only occur from this index on
abbrev pub invariant-loop-index : goal.invariant-loop-index
invariant-loop-index l = (1 ≤ l.index) × (l.index-end ≡ length l.words)
    × ((loose : HasLooseKeys (map string_bytes l.words)) → l.index ≤ loose.at + 1)
