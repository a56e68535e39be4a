-- Services by their numbers, and adding one more service to the table of blocked ones.
use Rattle.std.specs.Prelude.{◌≡◌, ℕ, ◌+◌, ◌<◌, Bool, false, ◌&&◌, ◌||◌, nat_lt, List, map, length, slice_index_or, slice_set, refl}
use Rattle.std.specs.List.{range_with_len}
use Rattle.std.proofs.Common.{sym, ap, ◌∙◌, arith}
use Rattle.std.proofs.lemmas.Bool.Decides.{nat_tests}
use Rattle.std.proofs.lemmas.List.{get_or-map, get_or-set_same, get_or-set_other}
use Rattle.std.proofs.lemmas.List.FromFn.{get_or-range_with_len}
use denote.Enum.Declared.{tag_of}
use Rattle.a2_services.specs.contracts.Service.{the_type}
use Rattle.a2_services.specs.declared.rows.Service.{Service}
use Rattle.a2_services.specs.declared.rows.Service.TheVariants.{Cout}
use Rattle.a2_services.specs.Rows.{services}
use Rattle.a2_services.specs.Services.{reach}

-- the service at a number
abbrev service_in : ℕ → Service
service_in place = slice_index_or services place Cout

abbrev number : Service → ℕ
number service = tag_of the_type service

numbers : map number services ≡ range_with_len 0 (length services)
numbers = refl

-- the service at a number has this number
pub number_is : (i : ℕ) → i < length services → number (service_in i) ≡ i
number_is i within =
    sym (get_or-map number services i Cout 0 within) ∙ ap (λ ns. slice_index_or ns i 0) numbers
    ∙ get_or-range_with_len 0 (length services) i 0 within ∙ (let e : 0 + i ≡ i = omega arith in e)

-- and each service is at its own number
service_is : (service : Service) → service_in (number service) ≡ service
service_is Cout = refl
service_is _ = refl

-- the services before a number have been added
abbrev AreAsked : List Bool → (Service → Bool) → ℕ → ℕ → Type 0
AreAsked blocked was count address = (s : Service) → slice_index_or blocked (number s) false ≡ (was s || (nat_lt (number s) count && reach s address))

pub one_asked : (blocked : List Bool) (was : Service → Bool) (i address : ℕ) (at : ℕ) (reached : Bool) → length blocked ≡ length services → i < length services → at ≡ i
    → reached ≡ reach (service_in i) address → AreAsked blocked was i address
    → AreAsked (slice_set blocked at (slice_index_or blocked at false || reached)) was (i + 1) address
one_asked blocked was i address at reached size within here told asked s =
    let new : Bool = slice_index_or blocked at false || reached in
    let it : number s ≡ i → service_in i ≡ s = λ same. ap service_in (sym same) ∙ service_is s in
    grind (arith, nat_tests, get_or-set_same blocked at new false, get_or-set_other blocked at (number s) new false, asked s, told, here, it, size, within)
