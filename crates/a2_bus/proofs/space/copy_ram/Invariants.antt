use Rattle.std.specs.Prelude.{◌≡◌, ◌*◌, take}
use Rattle.a2_bus.proofs.space.copy_ram.Given as goal

-- the pieces copied so far are equal to the other's
abbrev pub invariant-loop-piece : goal.invariant-loop-piece
invariant-loop-piece l = take (l.piece * 3072) l.ram ≡ take (l.piece * 3072) l.other
