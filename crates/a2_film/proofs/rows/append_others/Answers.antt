use Rattle.std.proofs.Common.{◌≡◌, ℕ, ◌-◌, ◌<◌, ap, subst, ◌∙◌, unwrap_or, slice_index, arith}
use Rattle.a2_bus.specs.Memory.{ram_byte, ram_end}
use Rattle.a2_bus.specs.View.{memory_of}
use Rattle.a2_film.specs.Changes.{differing}
use Rattle.a2_film.specs.Filmed.{from_address, Appends}
use Rattle.a2_film.proofs.Parts.{peek-byte}
use Rattle.a2_film.proofs.Appending.{other-looked, appends-empty}
use Rattle.a2_film.proofs.rows.append_others.Goals as goal

pub loop-address-preserved : goal.loop-address-preserved
loop-address-preserved g c =
    let memory = memory_of c.args.machine.now.state.bus in
    let a = c.loop-address.address in
    let low : a < ram_end = omega (arith, c.loop-address-test.true, c.requires.inside) in record {
      from = omega (arith, c.loop-address.invariant.from);
      stores = other-looked (from_address c.args.first c.args.old.now) (ram_byte memory) c.args.rows.now.items
          c.loop-address.rows.items c.append_other-last.new.rows.items
          c.args.next c.loop-address.last c.append_other-last.result c.args.first a (slice_index c.args.old.now c.from.result)
          c.unwrap_or-byte.result
          c.loop-address.invariant.from (ap (λ (i : ℕ). slice_index c.args.old.now i) c.from.ensures)
          (c.unwrap_or-byte.ensures ∙ ap (λ o. unwrap_or o 0) c.peek.ensures.value ∙ peek-byte memory a low)
          c.loop-address.invariant.stores c.append_other-last.ensures.stores;
      room = omega (arith, c.append_other-last.ensures.length, c.loop-address.invariant.room, c.loop-address.invariant.from);
    }

pub loop-address-init : goal.loop-address-init
loop-address-init g c = record {
  from = omega arith;
  stores = appends-empty (from_address c.args.first c.args.old.now) (ram_byte (memory_of c.args.machine.now.state.bus))
      c.args.rows.now.items c.args.next
      c.args.first (c.args.first - c.args.first) (omega arith);
  room = omega arith;
}

pub returns-clause-stores : goal.returns-clause-stores
returns-clause-stores g c =
    let all : c.loop-address.address ≡ c.args.end =
    omega (arith, c.loop-address-test.false, c.loop-address.auto.address-end, c.requires.order) in
    subst (λ (a : ℕ). Appends c.args.rows.now.items c.args.next
    (differing (from_address c.args.first c.args.old.now) (ram_byte (memory_of c.args.machine.now.state.bus)) c.args.first
    (a - c.args.first))
    c.loop-address.rows.items c.loop-address.last) all c.loop-address.invariant.stores
