-- Worked examples of the definitions, by computation.
use Rattle.std.specs.Prelude.{◌≡◌, ℕ, Bool, true, false, List, [], ◌∷◌, ◌++◌, flat_map, codes, replicate, refl}
use Rattle.a2_page.specs.declared.Switches.{Switches}
use Rattle.a2_page.specs.Grid.{Grid, scrolled}
use Rattle.a2_page.specs.Text.{plotted, block_lines, text_lines, attribute_lines}
use Rattle.a2_page.specs.Picture.{picture, attribute_rows}

-- a small screen of 4 rows of 5 columns scrolls in a window of 2 columns and 3 rows
scroll_example :
    scrolled (record { left = 1; width = 2; top = 1; bottom = 4 })
    ((1 ∷ 2 ∷ 3 ∷ 4 ∷ 5 ∷ []) ∷ (6 ∷ 7 ∷ 8 ∷ 9 ∷ 10 ∷ []) ∷ (11 ∷ 12 ∷ 13 ∷ 14 ∷ 15 ∷ []) ∷ (16 ∷ 17 ∷ 18 ∷ 19 ∷ 20 ∷ []) ∷ [])
    ≡ ((1 ∷ 2 ∷ 3 ∷ 4 ∷ 5 ∷ []) ∷ (6 ∷ 12 ∷ 13 ∷ 9 ∷ 10 ∷ []) ∷ (11 ∷ 17 ∷ 18 ∷ 14 ∷ 15 ∷ []) ∷ (16 ∷ 0xA0 ∷ 0xA0 ∷ 19 ∷ 20 ∷ []) ∷ [])
scroll_example = refl

plot_example : plotted 3 1 0xD ((0x12 ∷ 0x34 ∷ []) ∷ (0x56 ∷ 0x78 ∷ []) ∷ []) ≡ ((0x12 ∷ 0x34 ∷ []) ∷ (0x56 ∷ 0xD8 ∷ []) ∷ [])
plot_example = refl

block_example : block_lines ((0xC1 ∷ 0 ∷ []) ∷ []) ≡ codes "10\nC0\n"
block_example = refl

text_example : text_lines ((0xC1 ∷ 0xA0 ∷ 0x01 ∷ []) ∷ []) ≡ codes "A A\n"
text_example = refl

-- inverse, flashing and normal A
attribute_example : attribute_lines ((0x01 ∷ 0x41 ∷ 0xC1 ∷ []) ∷ []) ≡ codes "IF.\n"
attribute_example = refl

-- Small screens of 21 rows, whose last row shows A

abbrev small_screen : Grid
small_screen = replicate 20 (0x12 ∷ []) ++ (0xC1 ∷ []) ∷ []

abbrev switches_at : Bool → Bool → Bool → Switches
switches_at text mixed hires = record { text = text; mixed = mixed; page2 = false; hires = hires }

page_example : picture (record (switches_at true true true) { page2 = true }) small_screen ((0xC2 ∷ []) ∷ []) ≡ codes "B\n"
page_example = refl

lores_example : picture (switches_at false false false) ((0xC1 ∷ 0x10 ∷ []) ∷ []) [] ≡ codes "10\nC1\n"
lores_example = refl

mixed_example : picture (switches_at false true false) small_screen [] ≡ flat_map {X = List ℕ} (λ line. line) (replicate 20 (codes "2\n1\n")) ++ codes "A\n"
mixed_example = refl

hires_example : picture (switches_at false true true) small_screen [] ≡ codes "HI-RES NOT SHOWN\nA\n"
hires_example = refl

attributes_example : attribute_rows (switches_at false true true) small_screen [] ≡ codes ".\n"
attributes_example = refl

no_attributes_example : attribute_rows (switches_at false false false) small_screen [] ≡ []
no_attributes_example = refl
