-- A call of a service is one step of a routine in progress.
use Rattle.std.specs.Prelude.{◌≡◌, ℕ, ◌==◌, Bool, true, false, List, Some, None, MatchOption, is_some, refl}
use Rattle.std.specs.List.{list_all, list_any}
use Rattle.std.proofs.Common.{sym, ap, ◌∙◌, subst, arith, true≢false}
use Rattle.std.proofs.lemmas.Bool.Decides.{nat_tests}
use Rattle.a2_bus.specs.BusState.{BusState}
use Rattle.a2_effect.specs.Registers.{Registers}
use Rattle.a2_services.specs.declared.rows.Service.{Service}
use Rattle.a2_services.specs.Called.{IsCallExecuted}
use Rattle.a2_services.specs.Services.{reach, service_at}
use Rattle.a2_services.specs.World.{world_of}
use Rattle.a2_machine.specs.ByteRun.{bytes}
use Rattle.a2_machine.specs.Meaning.{found_at_pc, return_address, stuck}
use Rattle.a2_promise.specs.declared.promises.Changes.{Changes}
use Rattle.a2_footprint.specs.declared.Part.{Part}
use Rattle.a2_footprint.specs.Parts.{with_parts}
use Rattle.a2_footprint.specs.Reads.{Knows}
use Rattle.a2_footprint.specs.Services.{is_keyless, service_needs, service_reads, service_sets, service_stores}
use Rattle.a2_footprint.specs.Fetches.{addresses_from}
use Rattle.a2_footprint.specs.RotatedStack.{FoundOffStack, in_stack}
use Rattle.a2_footprint.proofs.Running.{IsFoundBy, calm_cause, needs_at, next_served, reads_at, sets_at, stores_at, stuck_served}
use Rattle.a2_promise_certify.specs.declared.known_parts.KnownParts.{KnownParts}
use Rattle.a2_promise_certify.specs.Kept.{code}
use Rattle.a2_promise_certify.specs.Walking.{AreMarked, IsStep, known_now, knows_part}
use Rattle.a2_promise_certify.proofs.Walking.{knows_all}

no_service_home : service_at return_address ≡ None
unfolding service_at
no_service_home = refl

-- No byte is protected, because the code is whatever is in memory.
unprotected : (service : Service) → list_any (reach service) code.protected ≡ false
unfolding bytes
unprotected service = refl

module _ (service : Service) (registers : Registers) (bus : BusState) (is : service_at registers.pc ≡ Some service)
    (keyless : is_keyless service ≡ true) where
  away : (registers.pc == return_address) ≡ false
  away = go (registers.pc == return_address) refl
    where
      go : (home : Bool) → (registers.pc == return_address) ≡ home → (registers.pc == return_address) ≡ false
      go true e =
          let at_home : registers.pc ≡ return_address = grind (arith, nat_tests, e) in
          absurd (true≢false (ap is_some (sym is ∙ ap (λ pc. service_at pc) at_home ∙ no_service_home)))
      go false e = e

  module _ (known stored new_stored : List Bool) (parts new_parts : KnownParts) (changes : Changes) (new_registers : Registers) (new_bus : BusState) (cycles : ℕ)
      (looks : list_all (knows_part parts) (service_needs service) ≡ true)
      (shown : (before : ℕ) → Knows (known_now known stored) (service_reads service (world_of registers bus before)))
      (marked : (before : ℕ) → AreMarked stored new_stored changes (service_stores service (world_of registers bus before)))
      (made : IsCallExecuted service registers bus new_registers new_bus cycles)
      (learned : (part : Part) → knows_part new_parts part ≡ with_parts (service_sets service) (knows_part parts) part) where
    going : (before : ℕ) → stuck code (world_of registers bus before) ≡ None
    going before =
        stuck_served code (world_of registers bus before) service away is
        ∙ calm_cause code.protected service (world_of registers bus before) keyless (unprotected service) made.fitting

    pub is_step : IsStep known stored new_stored parts new_parts changes registers bus new_registers new_bus cycles
    is_step = record {
      off_stack = λ before. subst (λ o. MatchOption o ((list_any in_stack (addresses_from registers.pc 3) ≡ false)
          × FoundOffStack (found_at_pc code (world_of registers bus before)) (world_of registers bus before)) (λ service. is_keyless service ≡ true))
          (sym is) keyless;
      reads = λ before. record {
        going = going before;
        found = subst (λ o. IsFoundBy code (known_now known stored) (world_of registers bus before) o) (sym is) keyless;
        reads = subst (λ ns. Knows (known_now known stored) ns) (sym (reads_at code (world_of registers bus before) (Some service) is)) (shown before);
      };
      needs = λ before.
          subst (λ ps. Knows (knows_part parts) ps) (sym (needs_at code (world_of registers bus before) (Some service) is))
          (knows_all (knows_part parts) (service_needs service) looks);
      world = λ before. made.served before ∙ sym (next_served code (world_of registers bus before) service is);
      stores = λ before.
          subst (λ ns. AreMarked stored new_stored changes ns) (sym (stores_at code (world_of registers bus before) (Some service) is)) (marked before);
      parts = λ before part.
          learned part ∙ sym (ap (λ ps. with_parts ps (knows_part parts) part) (sets_at code (world_of registers bus before) (Some service) is));
    }
