use Rattle.std.proofs.Common.{◌≡◌, ◌+◌, ◌<◌, map, drop}
use Rattle.a2_text.specs.Lines.{lines}
use Rattle.a2_hex.specs.Images.{held}
use Rattle.a2_formats.specs.Reading.{after_lines, start}
use Rattle.a2_formats.proofs.reading.read_records.Given as goal

-- reading the lines left, after what is read so far, gives what all the lines give
abbrev pub invariant-loop-i : goal.invariant-loop-i
invariant-loop-i l = record {
  read : after_lines l.records (l.i + 1) (record { image = held l.image; base = l.place.base; ended = l.place.ended }) (drop l.i (map (λ x. x.now) l.line-items))
      ≡ after_lines l.records 1 start (lines l.text);
  small : l.place.base < 0x100000000;
}
