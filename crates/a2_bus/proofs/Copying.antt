-- Bytes that are copied piece by piece.
use Rattle.std.specs.Prelude.{◌≡◌, ℕ, ◌+◌, ◌≤◌, List, length, take, drop}
use Rattle.std.proofs.Common.{ap, ◌∙◌, arith}
use Rattle.std.proofs.Math.Seq.{take-add}
use Rattle.std.proofs.lemmas.List.{length-take-le, length-drop}
use Rattle.std.proofs.lemmas.Slice.{take-put_mid}
use borrow.Rule.Slice.PartMut.{put_mid}

-- one more piece is copied, after those already copied
pub piece_copied : (ram other cells : List ℕ) (start : ℕ) → start + 3072 ≤ length ram → start + 3072 ≤ length other
    → cells ≡ take 3072 (drop start other) → take start ram ≡ take start other
    → take (start + 3072) (put_mid start 3072 ram cells) ≡ take (start + 3072) other
piece_copied ram other cells start fits there is done =
    let long : length cells ≡ 3072 = ap length is ∙ length-take-le 3072 (drop start other) (omega (arith, there, length-drop start other)) in
    take-put_mid start 3072 ram cells (start + 3072) (omega (arith, long)) (omega (arith, fits)) ∙ rw (done, is, take-add start 3072 other)
