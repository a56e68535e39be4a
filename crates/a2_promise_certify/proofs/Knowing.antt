-- The values of inputs become known, one after another.
use Rattle.std.specs.Prelude.{◌≡◌, ◌||◌, Bool, true, false, List, ◌∷◌, refl}
use Rattle.std.proofs.Common.{sym, ap, ◌∙◌}
use Rattle.a2_footprint.specs.declared.Part.{Part}
use Rattle.a2_footprint.specs.Parts.{is_part}
use Rattle.a2_promise_certify.specs.declared.input.Input.{Input}
use Rattle.a2_promise_certify.specs.declared.known_parts.KnownParts.{KnownParts}
use Rattle.a2_promise_certify.specs.States.{has_part, holds_part}
use Rattle.a2_promise_certify.specs.Walking.{knows_part, no_parts, with_part}
use Rattle.a2_promise_certify.proofs.Marking.{added}

-- one more part is known, or none
pub part_added : (input : Input) (found : Part) (parts new : KnownParts) → ((part : Part) → holds_part input part ≡ is_part part found)
    → new ≡ with_part found parts → (part : Part) → knows_part new part ≡ (holds_part input part || knows_part parts part)
part_added input found parts new is made part =
    ap (λ p. knows_part p part) made ∙ added found part parts ∙ ap (λ v. v || knows_part parts part) (sym (is part))

pub no_part_added : (input : Input) (parts : KnownParts) → ((part : Part) → holds_part input part ≡ false)
    → (part : Part) → knows_part parts part ≡ (holds_part input part || knows_part parts part)
no_part_added input parts is part = ap (λ v. v || knows_part parts part) (sym (is part))

move : (here left known : Bool) → (left || (here || known)) ≡ ((here || left) || known)
move true true known = refl
move true false known = refl
move false left known = refl

-- What is known together with the remaining inputs is what is known in the end.
pub one_known : (input : Input) (left : List Input) (parts new : KnownParts) (last : Part → Bool)
    → ((part : Part) → knows_part new part ≡ (holds_part input part || knows_part parts part))
    → ((part : Part) → (has_part (input ∷ left) part || knows_part parts part) ≡ last part)
    → (part : Part) → (has_part left part || knows_part new part) ≡ last part
one_known input left parts new last one before part =
    ap (λ v. has_part left part || v) (one part) ∙ move (holds_part input part) (has_part left part) (knows_part parts part) ∙ before part

pub none_known : (inputs : List Input) (parts : KnownParts) → parts ≡ no_parts
    → (part : Part) → (has_part inputs part || knows_part parts part) ≡ (has_part inputs part || knows_part no_parts part)
none_known inputs parts none part = ap (λ p. has_part inputs part || knows_part p part) none
