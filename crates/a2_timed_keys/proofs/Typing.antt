-- Keys that are typed one after another.
use Rattle.std.proofs.Common.{◌≡◌, ℕ, ◌+◌, ◌<◌, ◌≤◌, List, [], ◌∷◌, ◌++◌, length, take, get_or, sym, ap, ◌∙◌, arith, append_assoc, length-append}
use Rattle.a2_machine.specs.State.{Device}
use Rattle.a2_timed_keys.specs.declared.strokes.Typed.{Typed}
use Rattle.a2_timed_keys.specs.Typed.{keys_at, with_keys}
use Rattle.a2_timed_keys.proofs.Keys.{keys_at-more, keys_at-front}

-- a machine at which these keys wait
waiting : Device → List ℕ → Device
waiting m keys =
    let s = m.state in
    let b = s.bus in
    let d = b.devices in
    record m { state = record s { bus = record b { devices = record d { keys = keys } } } }

with-with : (js ks : List ℕ) (m : Device) → with_keys ks (with_keys js m) ≡ with_keys (js ++ ks) m
unfolding waiting
with-with js ks m = ap (λ l. waiting m l) (append_assoc m.state.bus.devices.keys js ks)

pub typed_more : (log : List Typed) (i n : ℕ) (d : Typed) (old m new : Device) → i < length log → m ≡ with_keys (keys_at (take i log) n) old
    → new ≡ with_keys (keys_at (get_or log i d ∷ []) n) m → new ≡ with_keys (keys_at (take (i + 1) log) n) old
typed_more log i n d old m new low was is =
    is ∙ ap (λ (x : Device). with_keys (keys_at (get_or log i d ∷ []) n) x) was
    ∙ with-with (keys_at (take i log) n) (keys_at (get_or log i d ∷ []) n) old
    ∙ ap (λ (l : List ℕ). with_keys l old) (sym (keys_at-more log i n d low))

pub full_more : (log : List Typed) (i n : ℕ) (d : Typed) (old m : Device) → i < length log → m ≡ with_keys (keys_at (take i log) n) old
    → 4096 < length m.state.bus.devices.keys + length (keys_at (get_or log i d ∷ []) n)
    → 4096 < length old.state.bus.devices.keys + length (keys_at log n)
full_more log i n d old m low was full =
    let before : length m.state.bus.devices.keys ≡ length old.state.bus.devices.keys + length (keys_at (take i log) n)
    = ap (λ (x : Device). length x.state.bus.devices.keys) was ∙ length-append old.state.bus.devices.keys (keys_at (take i log) n) in
    let longer : length (keys_at (take (i + 1) log) n) ≡ length (keys_at (take i log) n) + length (keys_at (get_or log i d ∷ []) n)
    = ap (λ (l : List ℕ). length l) (keys_at-more log i n d low) ∙ length-append (keys_at (take i log) n) (keys_at (get_or log i d ∷ []) n) in
    let front : length (keys_at (take (i + 1) log) n) ≤ length (keys_at log n) = keys_at-front log (i + 1) n in
    omega (arith, before, longer, front, full)
