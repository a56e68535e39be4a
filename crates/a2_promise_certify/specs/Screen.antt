-- The window and the cursor as the walk reads them, for the contracts of the crate's private functions. No public
-- clause cites this file.
use Rattle.std.specs.Prelude.{◌≡◌, ◌<◌, ◌+◌}
use Rattle.a2_page.specs.Grid.{Window}
use Rattle.a2_page.specs.Window.{IsWindow}
use Rattle.a2_bus.specs.Memory.{Memory}
use Rattle.a2_services.specs.Put.{window_of, cursor_row, cursor_column}
use Rattle.a2_promise_certify.specs.declared.cursor.Cursor.{Cursor}

abbrev pub window_by : Cursor → Window
window_by cursor = record { left = cursor.left; width = cursor.width; top = cursor.top; bottom = cursor.bottom }

-- the window and the cursor are what page 0 describes
pub record IsCursor (cursor : Cursor) (memory : Memory) : Type 0 where
  pub window : window_of memory ≡ window_by cursor
  pub row : cursor_row memory ≡ cursor.row
  pub column : cursor_column memory ≡ cursor.column

-- the window and the cursor are on the screen
pub record IsOnScreen (cursor : Cursor) : Type 0 where
  pub window : IsWindow (window_by cursor)
  pub row : cursor.row < 24
  pub column : cursor.left + cursor.column < 40
