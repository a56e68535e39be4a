-- What is known of a state, for the contracts of the crate's private functions. No public clause cites this file.
use Rattle.a2_promise.specs.ReadsOfValues.{Known}
use Rattle.a2_promise_certify.specs.declared.clause_knowledge.View.{View}
use Rattle.a2_promise_certify.specs.Kept.{known_by}
use Rattle.a2_promise_certify.specs.Walking.{known_now, knows_part}

abbrev pub known_of : View → Known
known_of view = known_by (known_now view.known.now view.stored.now) (knows_part view.parts)
