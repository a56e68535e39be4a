use Rattle.std.proofs.Common.{◌+◌, ◌≤◌, length, arith, ap}
use Rattle.a2_debug_script.proofs.Places.{places_typed}
use Rattle.a2_debug_script.proofs.Steps.{typed_is, typed_on}
use Rattle.a2_debug_script.proofs.Sessions.{logged_typed, session_typed}
use Rattle.a2_debug_script.proofs.debugger.Debugger.type_keys.Goals as goal

pub invariant_of-self : goal.invariant_of-self
invariant_of-self g c =
    let kept = c.self.invariant.0 in
    let fits : length c.self.inside.log.items + length c.args.keys.now ≤ 4096 = omega (arith, ap length c.bytes-bytes.ensures.keys) in
    rw (c.note_keys.ensures.items, c.bytes-bytes.ensures.keys) (
      record {
        current = typed_on _ c.self.inside.machine _ c.args.keys.now _ kept.current fits c.type_keys.ensures.room c.type_keys.ensures.typed;
        logged = logged_typed _ _ _ c.args.keys.now kept.logged fits c.bytes-bytes.ensures.codes;
        few = kept.few;
      },
      omega (arith, c.note_keys.ensures.capacity, c.self.invariant.1),
      places_typed _ _ _ _ _ c.self.invariant.2 c.args.keys.now,
    )

pub returns : goal.returns
returns g c =
    let fits : length c.self.inside.log.items + length c.args.keys.now ≤ 4096 = omega (arith, ap length c.bytes-bytes.ensures.keys) in
    let typed = typed_is _ c.self.inside.machine _ c.args.keys.now _ c.self.invariant.0.current fits c.type_keys.ensures.room c.type_keys.ensures.typed in (
      rw (← c.self.view_is) fits,
      rw (← c.self.view_is, c.note_keys.ensures.items, c.bytes-bytes.ensures.keys) (session_typed _ c.args.keys.now _),
      rw (← c.self.view_is, c.note_keys.ensures.items, c.bytes-bytes.ensures.keys, typed),
    )
