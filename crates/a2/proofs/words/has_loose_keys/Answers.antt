use Rattle.std.proofs.Common.{rules, string_bytes, ◌≡◌, ◌-◌, slice_index_or}
use Rattle.a2.specs.Words.{AreLooseKeys}
use Rattle.a2.proofs.LooseKeys.{loose_behind, loose_here, none_loose}
use Rattle.a2.proofs.words.has_loose_keys.Goals as goal

pub returns-then-are_loose_keys : goal.returns-then-are_loose_keys
returns-then-are_loose_keys c =
    let option = c.index-words-index.result in
    let value = c.index-words-index-in-loop-index.result in
    let option_is : option ≡ slice_index_or c.args.words.now (c.loop-index.index - 1) option = search rules in
    let value_is : value ≡ slice_index_or c.args.words.now c.loop-index.index value = search rules in
    let are : AreLooseKeys (string_bytes option) (string_bytes value) = search rules in
    (λ _. loose_here string_bytes c.args.words.now c.loop-index.index option value (search rules) (search rules) option_is value_is are, λ _. search rules)

pub loop-index-preserved : goal.loop-index-preserved
loop-index-preserved c =
    let option = c.index-words-index.result in
    let value = c.index-words-index-in-loop-index.result in
    let option_is : option ≡ slice_index_or c.args.words.now (c.loop-index.index - 1) option = search rules in
    let value_is : value ≡ slice_index_or c.args.words.now c.loop-index.index value = search rules in
    let not : AreLooseKeys (string_bytes option) (string_bytes value) → ⊥ = λ are. search rules in (
      search rules,
      search rules,
      loose_behind string_bytes c.args.words.now c.loop-index.index option value (search rules) (search rules) option_is value_is not c.loop-index.invariant.2,
    )

pub returns : goal.returns
returns c =
    let none = none_loose string_bytes c.args.words.now c.loop-index.index (search rules) c.loop-index.invariant.2 in
    (λ is. search rules, λ loose. absurd (none loose))
