-- The PNG file of a picture. PNG Specification (W3C, second edition), sections 5, 7 and 11; RFC 1950, section 2.2; RFC 1951, section 3.2.4.
use Rattle.std.specs.Prelude.{ℕ, ◌/◌, ◌%◌, List, [], ◌∷◌, ◌++◌, length, codes, bit_xor}
use Rattle.std.specs.List.{flat_map}
use Rattle.a2_page.specs.declared.Switches.{Switches}
use Rattle.a2_page.specs.Cells.{numbers_from}
use Rattle.a2_picture.specs.declared.checksums.Sums.{Sums}
use Rattle.a2_picture.specs.Checksums.{crc_after, first_sums, sums_after, adler_of}
use Rattle.a2_picture.specs.Colours.{colours}
use Rattle.a2_picture.specs.Dots.{dot}

-- a number of four bytes, the highest first
abbrev pub word : ℕ → List ℕ
word number = number / 0x1000000 % 256 ∷ number / 0x10000 % 256 ∷ number / 256 % 256 ∷ number % 256 ∷ []

-- the CRC of a chunk: all bits are complemented before and after
unfoldable pub crc_of_chunk : List ℕ → List ℕ → ℕ
crc_of_chunk kind body = bit_xor (crc_after (crc_after 0xFFFFFFFF kind) body) 0xFFFFFFFF

-- a chunk: the length of its data, its body, and the CRC of both
unfoldable pub chunk : List ℕ → List ℕ → List ℕ
chunk kind body = word (length body) ++ (kind ++ (body ++ word (crc_of_chunk kind body)))

-- the first bytes of a file; the width, the height, eight bits for each pixel, which is the number of a colour; and the colours
unfoldable pub signature : List ℕ
signature = 0x89 ∷ 0x50 ∷ 0x4E ∷ 0x47 ∷ 0x0D ∷ 0x0A ∷ 0x1A ∷ 0x0A ∷ []

abbrev pub header : List ℕ
header = 0 ∷ 0 ∷ 0x02 ∷ 0x30 ∷ 0 ∷ 0 ∷ 0x01 ∷ 0x80 ∷ 8 ∷ 3 ∷ 0 ∷ 0 ∷ 0 ∷ []

-- the chunks before the rows; the last one begins the stream of RFC 1950
unfoldable pub colours_text : List ℕ
colours_text = chunk (codes "PLTE") colours ++ chunk (codes "IDAT") (0x78 ∷ 0x01 ∷ [])

unfoldable pub header_text : List ℕ
header_text = chunk (codes "IHDR") header ++ colours_text

unfoldable pub head : List ℕ
head = signature ++ header_text

-- the pieces for so many numbers, from a first one on
unfoldable pub pieces : (ℕ → List ℕ) → ℕ → ℕ → List ℕ
pieces piece first count = flat_map piece (numbers_from first count)

-- a line of pixels: its filter, which changes nothing, and each dot twice
unfoldable pub pixels : List ℕ → Switches → ℕ → ℕ → List ℕ
pixels ram switches y x = dot ram switches x y ∷ dot ram switches x y ∷ []

unfoldable pub line : List ℕ → Switches → ℕ → List ℕ
line ram switches y = 0 ∷ pieces (pixels ram switches y) 0 280

-- the two equal lines of a row of dots, and the lines of all rows
unfoldable pub row_lines : List ℕ → Switches → ℕ → List ℕ
row_lines ram switches y = line ram switches y ++ line ram switches y

unfoldable pub lines : List ℕ → Switches → List ℕ
lines ram switches = pieces (row_lines ram switches) 0 192

-- the chunk of a row of dots: its lines as a stored block of 1,122 bytes; and the chunks of all rows
unfoldable pub block_text : List ℕ → List ℕ
block_text lines = chunk (codes "IDAT") (0x00 ∷ 0x62 ∷ 0x04 ∷ 0x9D ∷ 0xFB ∷ lines)

abbrev pub row_text : List ℕ → Switches → ℕ → List ℕ
row_text ram switches y = block_text (row_lines ram switches y)

unfoldable pub blocks_text : List ℕ → Switches → List ℕ
blocks_text ram switches = pieces (row_text ram switches) 0 192

-- an empty block that is the last one, and the checksum of all lines; and the end of the file
abbrev pub last_block : Sums → List ℕ
last_block sums = 0x01 ∷ 0x00 ∷ 0x00 ∷ 0xFF ∷ 0xFF ∷ word (adler_of sums)

unfoldable pub tail : Sums → List ℕ
tail sums = chunk (codes "IDAT") (last_block sums) ++ chunk (codes "IEND") []

-- the rows and what follows them, and the file
unfoldable pub body_text : List ℕ → Switches → List ℕ
body_text ram switches = blocks_text ram switches ++ tail (sums_after first_sums (lines ram switches))

unfoldable pub png : List ℕ → Switches → List ℕ
png ram switches = head ++ body_text ram switches
