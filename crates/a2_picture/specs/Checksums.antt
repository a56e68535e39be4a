-- The two checksums of a PNG file: CRC-32, as in the PNG Specification (W3C, second edition), section 5.5 and annex D, and Adler-32, as in
-- RFC 1950, section 8.2.
use Rattle.std.specs.Prelude.{ℕ, ◌+◌, ◌*◌, ◌/◌, ◌%◌, ◌==◌, List, [], ◌∷◌, bit_xor, if◌then◌else◌}
use Rattle.a2_picture.specs.declared.checksums.Sums.{Sums}

-- the CRC after one bit: the polynomial, with its bits in reverse, is taken away if bit 0 is set
unfoldable pub crc_bit : ℕ → ℕ
crc_bit crc = if crc % 2 == 1 then bit_xor (crc / 2) 0xEDB88320 else crc / 2

-- after four bits, and after a byte
unfoldable pub crc_half : ℕ → ℕ
crc_half crc = crc_bit (crc_bit (crc_bit (crc_bit crc)))

unfoldable pub crc_byte : ℕ → ℕ → ℕ
crc_byte crc byte = crc_half (crc_half (bit_xor crc byte))

-- after bytes
abbrev pub crc_after : ℕ → List ℕ → ℕ
crc_after crc [] = crc
crc_after crc (byte ∷ bytes) = crc_after (crc_byte crc byte) bytes

-- modulo the greatest prime below 65,536
unfoldable pub sum : ℕ → ℕ → ℕ
sum one other = (one + other) % 65521

-- the two sums after one byte, and after bytes
abbrev pub sums_byte : Sums → ℕ → Sums
sums_byte sums byte = record { low = sum sums.low byte; high = sum sums.high (sum sums.low byte) }

abbrev pub sums_after : Sums → List ℕ → Sums
sums_after sums [] = sums
sums_after sums (byte ∷ bytes) = sums_after (sums_byte sums byte) bytes

-- the sums of no bytes
abbrev pub first_sums : Sums
first_sums = record { low = 1; high = 0 }

-- the checksum of bytes
abbrev pub adler_of : Sums → ℕ
adler_of sums = 65536 * sums.high + sums.low
