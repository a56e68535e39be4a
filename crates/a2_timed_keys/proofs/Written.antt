-- A record, one line at a time.
use Rattle.std.specs.Prelude.{Result, Ok, Err}
use Rattle.std.proofs.Common.{◌≡◌, ℕ, ◌+◌, ◌<◌, List, [], ◌++◌, length, drop, get_or, refl, sym, ap, ◌∙◌, ◌≤◌}
use Rattle.std.proofs.lemmas.List.{append_assoc, append-nil, drop_more, drop_all}
use Rattle.a2_stream.specs.Stream.{Taker, SendsOrBreaks}
use Rattle.a2_page.proofs.Sending.{IsLeft, left_more, left_none, left_broken}
use Rattle.a2_timed_keys.specs.declared.strokes.Typed.{Typed}
use Rattle.a2_timed_keys.specs.Records.{key_line, end_line, key_lines, record_text}

-- the next key's line, and the rest
pub text-next : (log : List Typed) (end i : ℕ) (d : Typed) → i < length log
    → record_text (drop i log) end ≡ key_line (get_or log i d) ++ record_text (drop (i + 1) log) end
text-next log end i d l =
    ap (λ (ts : List Typed). record_text ts end) (drop_more log i d l)
    ∙ append_assoc (key_line (get_or log i d)) (key_lines (drop (i + 1) log)) (end_line end)

-- After all keys the line of the end remains.
pub text-last : (log : List Typed) (end i : ℕ) → length log ≤ i → record_text (drop i log) end ≡ end_line end
text-last log end i l = ap (λ (ts : List Typed). record_text ts end) (drop_all i log l)

-- What remains is written, or writing breaks off.
pub left_last : {T E : Type 0} → (a b c : Taker) (r : Result T E) (whole rest piece : List ℕ) → rest ≡ piece → IsLeft a b whole rest
    → SendsOrBreaks b c r piece → SendsOrBreaks a c r whole
left_last a b c (Ok _) whole rest piece is h p =
    left_none a c whole [] refl (left_more a b c whole rest piece [] (is ∙ sym (append-nil piece)) h p)
left_last a b c (Err _) whole rest piece is h p = left_broken a b c whole rest piece [] (is ∙ sym (append-nil piece)) h p
