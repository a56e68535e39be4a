use Rattle.std.proofs.Common.{◌≡◌, ◌∙◌, ap, sym}
use Rattle.std.specs.Prelude.{Some}
use Rattle.a2_bus.specs.View.{memory_of}
use Rattle.a2_services.specs.Services.{after_byte}
use Rattle.a2_services.specs.Reading.{reading, first_of}
use Rattle.a2_services.proofs.Lines.{line_more, fewer_keys}
use Rattle.a2_services.proofs.line.read_line.Goals as goal

pub loop-key-preserved : goal.loop-key-preserved
loop-key-preserved g c =
    let m = memory_of c.loop-key.space in
    let first : first_of m.devices.keys ≡ Some c.in-Some.key = sym c.first_key.ensures.key ∙ c.in-Some.is in
    record {
      fits = c.after_byte-length.ensures.fits;
      same = line_more m c.loop-key.length c.in-Some.key c.byte_of_key-byte.result
          (reading (memory_of c.after_byte-length.new.space) c.after_byte-length.result) first c.byte_of_key-byte.ensures c.if-byte.false
          (c.after_byte-length.ensures.line ∙ ap (λ x. after_byte c.byte_of_key-byte.result (reading x c.loop-key.length)) c.keep.ensures.memory)
          ∙ c.loop-key.invariant.same;
    }

pub loop-key-smaller : goal.loop-key-smaller
loop-key-smaller g c =
    let m = memory_of c.loop-key.space in
    let first : first_of m.devices.keys ≡ Some c.in-Some.key = sym c.first_key.ensures.key ∙ c.in-Some.is in
    fewer_keys m c.loop-key.length c.in-Some.key c.byte_of_key-byte.result
    (reading (memory_of c.after_byte-length.new.space) c.after_byte-length.result) first
    (c.after_byte-length.ensures.line ∙ ap (λ x. after_byte c.byte_of_key-byte.result (reading x c.loop-key.length)) c.keep.ensures.memory)
