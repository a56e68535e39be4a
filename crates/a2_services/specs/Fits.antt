-- Records of the facts that window and cursor lie on the screen.
use Rattle.std.specs.Prelude.{◌<◌}
use Rattle.a2_page.specs.Grid.{Window}
use Rattle.a2_page.specs.Window.{IsWindow}
use Rattle.a2_bus.specs.Memory.{Memory}
use Rattle.a2_services.specs.declared.screen.Edges.{Edges}
use Rattle.a2_services.specs.Put.{window_of, cursor_row, screen_column}

-- the edges of the code as a window of the specification
abbrev pub window_at : Edges → Window
window_at edges = record { left = edges.left; width = edges.width; top = edges.top; bottom = edges.bottom }

-- the window and the cursor's row fit
pub record LineFits (memory : Memory) : Type 0 where
  pub window : IsWindow (window_of memory)
  pub row : cursor_row memory < 24

-- the window and the cursor fit
pub record CursorFits (memory : Memory) : Type 0 where
  pub line : LineFits memory
  pub column : screen_column memory < 40
