-- What a screen shows of the two text pages, depending on the switches. Apple II Reference Manual (1979), pages 12 to
-- 20; the lines are this project's profile, and a single line replaces the hi-res picture.
use Rattle.std.specs.Prelude.{ℕ, ◌+◌, List, [], ◌++◌, slice_index, take, drop, codes, if◌then◌else◌}
use Rattle.a2_page.specs.declared.Switches.{Switches}
use Rattle.a2_page.specs.declared.View.{View}
use Rattle.a2_page.specs.Cells.{row_offset}
use Rattle.a2_page.specs.Grid.{Grid, grid_of}
use Rattle.a2_page.specs.Text.{text_lines, block_lines, attribute_lines}

-- the rows of a page's 1,024 bytes: the offset of a row in the list is its offset from the start of the page
unfoldable pub page_grid : List ℕ → Grid
page_grid bytes = grid_of (λ row column. slice_index bytes (row_offset row + column))

-- the page that is shown
abbrev pub shown_page : Switches → Grid → Grid → Grid
shown_page switches page1 page2 = if switches.page2 then page2 else page1

-- the page that a view shows
abbrev pub shown_by : View → Grid
shown_by view = shown_page view.switches (page_grid view.page1.now) (page_grid view.page2.now)

-- the first row of cells that is text: row 0 in text mode, row 20 in a mixed mode, and otherwise none (24)
abbrev pub first_text_row : Switches → ℕ
first_text_row switches = if switches.text then 0 else if switches.mixed then 20 else 24

-- the lines for rows of cells in a graphics mode
abbrev pub graphics_lines : Switches → Grid → List ℕ
graphics_lines switches rows = if switches.hires then codes "HI-RES NOT SHOWN\n" else block_lines rows

-- the lines of a page: first the graphics rows, and then the text rows
abbrev pub lines_of_page : Switches → Grid → List ℕ
lines_of_page switches rows =
    (if switches.text then [] else graphics_lines switches (take (first_text_row switches) rows))
    ++ text_lines (drop (first_text_row switches) rows)

-- the lines of the shown page
abbrev pub picture : Switches → Grid → Grid → List ℕ
picture switches page1 page2 = lines_of_page switches (shown_page switches page1 page2)

-- the attributes of the rows that are shown as text
abbrev pub attribute_rows : Switches → Grid → Grid → List ℕ
attribute_rows switches page1 page2 = attribute_lines (drop (first_text_row switches) (shown_page switches page1 page2))
