-- Single steps: of an instruction, and of a service.
use Rattle.std.specs.Prelude.{◌≡◌, ◌==◌, false, Option, Some, None, Ok, Err, if◌then◌else◌}
use Rattle.std.specs.List.{list_any}
use Rattle.std.proofs.Common.{ap, ◌∙◌}
use Rattle.a2_text.specs.Bytes.{is_among}
use Rattle.a2_bus.specs.Memory.{memory_access}
use Rattle.a2_cpu.specs.BusStep.{refusal_of}
use Rattle.a2_effect.specs.Instruction.{performed}
use Rattle.a2_cpu.specs.Stores.{stores_of}
use Rattle.a2_services.specs.declared.rows.Service.{Service}
use Rattle.a2_services.specs.World.{World}
use Rattle.a2_services.specs.Services.{service_at, served}
use Rattle.a2_machine.specs.declared.causes.Cause.TheVariants.{Returned, CodeWrite}
use Rattle.a2_machine.specs.Meaning.{Code, Decoded, service_cause, instruction_cause, cause_of_cpu_error, return_address, found_at_pc, stuck, stuck_at, next, next_at}
use Rattle.a2_machine.proofs.Walks.{walked}

-- a world that is not stuck continues with the next one
goes : (code : Code) (w v : World) → stuck code w ≡ None → next code w ≡ v → walked code w 1 ≡ Some v
unfolding walked
goes code w v free is = ap (λ o. let r : Option World = elim o [ Some cause ↦ None | None ↦ Some (next code w) ] in r) free ∙ ap Some is

-- an instruction is at PC, which is not the return address and not the address of a service
pub record IsAtPc (code : Code) (w : World) (decoded : Decoded) : Type 0 where
  pub found : found_at_pc code w ≡ Ok decoded
  pub no_return : (w.registers.pc == return_address) ≡ false
  pub no_service : service_at w.registers.pc ≡ None

-- the instruction is executed, if nothing stops it and it does not store into code
pub step : (code : Code) (w : World) (decoded : Decoded) → IsAtPc code w decoded → refusal_of decoded.row.mnemonic w.registers.flags ≡ None
    → list_any (is_among code.protected) (stores_of memory_access decoded.row decoded.value w) ≡ false
    → walked code w 1 ≡ Some (performed memory_access decoded.row decoded.value w)
unfolding stuck stuck_at next next_at
step code w decoded stands allowed free = goes code w _ is_free is_next
  where
    is_free : stuck code w ≡ None
    is_free =
        (λ i. if stands.no_return i then Some Returned
        else elim (stands.no_service i) [
          | Some service ↦ service_cause code.protected service w
          | None ↦ elim (stands.found i) [ Err cause ↦ Some cause | Ok d ↦ instruction_cause code.protected d w ]
        ])
        ∙ (λ i. elim (allowed i) [
          | Some why ↦ Some (cause_of_cpu_error why)
          | None ↦ if free i then Some CodeWrite else None
        ])

    is_next : next code w ≡ performed memory_access decoded.row decoded.value w
    is_next = λ i.
        elim (stands.no_service i) as (λ _. World) [
          | Some service ↦ served service w
          | None ↦ elim (stands.found i) as (λ _. World) [ Err cause ↦ w | Ok d ↦ performed memory_access d.row d.value w ]
        ]

-- a service is executed when it is called
pub serve : (code : Code) (w : World) (service : Service) → service_at w.registers.pc ≡ Some service
    → (w.registers.pc == return_address) ≡ false → service_cause code.protected service w ≡ None → walked code w 1 ≡ Some (served service w)
unfolding stuck stuck_at next next_at
serve code w service here away free = goes code w _ is_free is_next
  where
    is_free : stuck code w ≡ None
    is_free =
        (λ i. if away i then Some Returned
        else elim (here i) [
          | Some s ↦ service_cause code.protected s w
          | None ↦ elim (found_at_pc code w) [ Err cause ↦ Some cause | Ok d ↦ instruction_cause code.protected d w ]
        ])
        ∙ free

    is_next : next code w ≡ served service w
    is_next = λ i.
        elim (here i) as (λ _. World) [
          | Some s ↦ served s w
          | None ↦ elim (found_at_pc code w) as (λ _. World) [ Err cause ↦ w | Ok d ↦ performed memory_access d.row d.value w ]
        ]
