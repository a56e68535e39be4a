-- The cassette format of the Apple II (Apple II Reference Manual 1979, chapter 3, "The Cassette Interface"), as samples of a
-- WAV file, 40,000 in a second: a sample lasts 25 microseconds. A half cycle is a run of equal samples.
use Rattle.std.specs.Prelude.{ℕ, zero, suc, ◌+◌, ◌*◌, ◌/◌, ◌%◌, ◌==◌, List, [], ◌∷◌, ◌++◌, length, fold, replicate, bit_xor, if◌then◌else◌}

-- with a cycle after some samples
abbrev pub with_cycle : List ℕ → List ℕ → List ℕ → List ℕ
with_cycle wave high low = (wave ++ high) ++ low

-- with a tone of 770 hertz: each half cycle lasts 650 microseconds
unfoldable pub with_tone : List ℕ → ℕ → List ℕ
with_tone wave zero = wave
with_tone wave (suc n) = with_cycle (with_tone wave n) (replicate 26 224) (replicate 26 32)

-- with the cycle after which the data begins: half cycles of 200 and 250 microseconds
abbrev pub with_sync : List ℕ → List ℕ
with_sync wave = with_cycle wave (replicate 8 224) (replicate 10 32)

-- with a bit: two half cycles of 250 microseconds for 0, of 500 microseconds for 1
abbrev pub with_bit : List ℕ → ℕ → List ℕ
with_bit wave bit =
    if bit == 0 then with_cycle wave (replicate 10 224) (replicate 10 32) else with_cycle wave (replicate 20 224) (replicate 20 32)

-- with the bits of a byte, the highest one first
unfoldable pub with_byte : List ℕ → ℕ → List ℕ
with_byte wave byte =
    with_bit (with_bit (with_bit (with_bit (with_bit (with_bit (with_bit (with_bit wave
    (byte / 128)) (byte / 64 % 2)) (byte / 32 % 2)) (byte / 16 % 2)) (byte / 8 % 2)) (byte / 4 % 2)) (byte / 2 % 2)) (byte % 2)

-- the checksum: the exclusive or of $FF and all bytes
abbrev pub checksum : List ℕ → ℕ
checksum bytes = fold bit_xor 255 bytes

-- the tape of some bytes: the tone for 10 seconds, the cycle before the data, the bytes, the checksum, and a short tone
abbrev pub samples : List ℕ → List ℕ
samples bytes = with_tone (with_byte (fold with_byte (with_sync (with_tone [] 7692)) bytes) (checksum bytes)) 8

-- a number in four bytes, the lowest one first
abbrev pub long : ℕ → List ℕ
long n = n % 256 ∷ n / 256 % 256 ∷ n / 65536 % 256 ∷ n / 16777216 ∷ []

-- the front of a WAV file with this many samples of eight bits: one channel, 40,000 samples in a second (Microsoft and IBM,
-- Multimedia Programming Interface and Data Specifications 1.0, 1991)
abbrev pub head : ℕ → List ℕ
head count =
    82 ∷ 73 ∷ 70 ∷ 70 ∷ (long (count + 36) ++ 87 ∷ 65 ∷ 86 ∷ 69 ∷ 102 ∷ 109 ∷ 116 ∷ 32 ∷ 16 ∷ 0 ∷ 0 ∷ 0 ∷ 1 ∷ 0 ∷ 1 ∷ 0 ∷ 0x40 ∷ 0x9C ∷ 0 ∷ 0 ∷ 0x40 ∷ 0x9C ∷ 0 ∷ 0
    ∷ 1 ∷ 0 ∷ 8 ∷ 0 ∷ 100 ∷ 97 ∷ 116 ∷ 97 ∷ long count)

-- a WAV file with these samples, of which there are fewer than 0xF0000000
abbrev pub wav_file : List ℕ → List ℕ
wav_file wave = head (length wave % 0xF0000000) ++ wave
