use Rattle.std.proofs.Common.{arith}
use Rattle.a2_bus.specs.View.{memory_of}
use Rattle.a2_film.specs.Rows.{no_address}
use Rattle.a2_film.proofs.Appending.{appends-none, listed-store, listed-skip, listed-all}
use Rattle.a2_film.proofs.rows.append_listed.Goals as goal
use Rattle.a2_film.proofs.rows.append_listed.Goals.{in-Some, in_default}

pub loop-address-init : goal.loop-address-init
loop-address-init g c = record { stores = appends-none c.args.rows.now.items no_address; room = omega arith }

pub loop-address-preserved : goal.loop-address-preserved
loop-address-preserved g c =
    let memory = memory_of c.args.machine.now.state.bus in
    elim c.match-peek.branch [
      | in-Some w ↦ rw (w.rows-is, w.next-is) (record {
        stores = listed-store c.args.rows.now.items c.loop-address.rows.items w.append_store-next.new.rows.items c.args.addresses.now memory
            c.loop-address.address-index c.loop-address.next w.in-Some.byte w.append_store-next.result c.loop-address-test.true
            w.in-Some.ensures.value c.loop-address.invariant.stores w.append_store-next.ensures.stores;
        room = omega (arith, w.append_store-next.ensures.length, c.loop-address.invariant.room);
      })
      | in_default w ↦ rw (w.rows-is, w.next-is) (record {
        stores = listed-skip c.args.rows.now.items c.loop-address.rows.items c.args.addresses.now memory c.loop-address.address-index
            c.loop-address.next c.loop-address-test.true w.in_default.ensures.value c.loop-address.invariant.stores;
        room = omega (arith, c.loop-address.invariant.room);
      })
    ]

pub returns-clause-stores : goal.returns-clause-stores
returns-clause-stores g c =
    listed-all c.args.rows.now.items c.loop-address.rows.items c.args.addresses.now (memory_of c.args.machine.now.state.bus)
    c.loop-address.address-index
    c.loop-address.next (omega (arith, c.loop-address-test.false)) c.loop-address.invariant.stores
