use Rattle.a2_formats.proofs.LoadingLaws.{all_read, not_all_read}
use Rattle.a2_formats.proofs.loading.read_words.Goals as goal

pub returns-in-Some-first_word : goal.returns-in-Some-first_word
returns-in-Some-first_word c =
    not_all_read _ c.loop-byte.rest.now c.args.text.now _ _ c.loop-byte.invariant c.in-Some-first_word.ensures.words c.in_default.ensures.bytes

pub returns-in-None : goal.returns-in-None
returns-in-None c = all_read _ c.loop-byte.rest.now c.args.text.now c.loop-byte.invariant c.in-None.ensures.words
