use Rattle.std.specs.Prelude.{◌≡◌, ◌||◌, ◌&&◌, nat_lt, length}
use denote.Enum.Declared.{tag_of}
use Rattle.a2_services.specs.contracts.Service.{the_type}
use Rattle.a2_services.specs.declared.rows.Service.{Service}
use Rattle.a2_services.specs.Rows.{services}
use Rattle.a2_services.specs.Services.{reach}
use Rattle.a2_machine.specs.CodeGuards.{is_blocked}
use Rattle.a2_machine.proofs.code_guard.block.Given as goal

-- the services before this one are blocked correctly
abbrev pub invariant-loop-service : goal.invariant-loop-service
invariant-loop-service l = record {
  size : length l.blocked ≡ length services;
  done : (s : Service) → is_blocked l.blocked s ≡ (is_blocked l.fn.blocked s || (nat_lt (tag_of the_type s) l.service-index && reach s l.address));
}
