use Rattle.std.proofs.Common.{◌-◌, length, ◌∙◌, sym, arith, length-take}
use Rattle.a2_debug_script.specs.Held.{unguarded}
use Rattle.a2_debug_script.proofs.Rings.{front_of_map, moved}
use Rattle.a2_debug_script.proofs.checkpoints.Checkpoints.truncate.Goals as goal

pub loop-self-preserved-in-Some : goal.loop-self-preserved-in-Some
loop-self-preserved-in-Some g c = rw c.in-Some.ensures.items (record {
  capacity = c.loop-self.invariant.capacity;
  eight = omega (arith, length-take (length c.loop-self.self-inside.ring.items - 1) c.loop-self.self-inside.ring.items);
  room = omega (arith, c.push_reserved.ensures.capacity, c.loop-self.invariant.room);
  held = front_of_map (λ b. unguarded b.value.state) c.loop-self.self-inside.ring.items c.args.most (omega arith) ∙ c.loop-self.invariant.held;
  made = rw c.push_reserved.ensures.items (moved (λ b. b.value.made) c.loop-self.self-inside.ring.items c.loop-self.self-inside.spare.items c.in-Some.machine (sym c.in-Some.ensures.value)
      ∙ c.loop-self.invariant.made);
})
