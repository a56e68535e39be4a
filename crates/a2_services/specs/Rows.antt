-- The table of services. The addresses come from the Apple II Reference Manual (1979), chapter 3, "Some useful Monitor
-- subroutines"; everything else is this project's profile.
use Rattle.std.specs.Prelude.{ℕ, List, [], ◌∷◌, codes}
use Rattle.a2_bus.specs.Locations as at
use Rattle.a2_services.specs.declared.rows.Service.{Service}
use Rattle.a2_services.specs.declared.rows.Service.TheVariants.{Cout, Cout1, Crout, Home, Prbyte, Prhex, Setinv, Setnorm, Vtab, Clreol, Clreop, Rdkey, Keyin, Getln, Wait, Setcol, Plot, Hline, Vline, Scrn, Clrscr}
use Rattle.a2_services.specs.declared.rows.Needs.{Needs}
use Rattle.a2_services.specs.declared.rows.Needs.TheVariants as need
use Rattle.a2_services.specs.declared.rows.Reach.{Reach}
use Rattle.a2_services.specs.declared.rows.Reach.TheVariants as reaches
use Rattle.a2_services.specs.declared.rows.Takes.{Takes}
use Rattle.a2_services.specs.declared.rows.Takes.TheVariants as span
use Rattle.a2_services.specs.declared.rows.RegisterSet.{RegisterSet}
use Rattle.a2_services.specs.declared.rows.RegisterSet.TheVariants as set
use Rattle.a2_services.specs.declared.rows.OnScreen.{OnScreen}
use Rattle.a2_services.specs.declared.rows.OnScreen.TheVariants as cells
use Rattle.a2_services.specs.declared.rows.Row.{Row}

-- a row: the service's address, what it needs, where it may store, how long it takes, the registers it reads and those it sets,
-- and what it does with cells of the screen
abbrev pub row_at : ℕ → Needs → Reach → Takes → RegisterSet → RegisterSet → OnScreen → Row
row_at address needs reach takes looks_at sets on_screen = record {
  address = address;
  needs = needs;
  reach = reach;
  takes = takes;
  looks_at = looks_at;
  sets = sets;
  on_screen = on_screen;
}

abbrev pub service_row : Service → Row
service_row Cout = row_at 0xFDED need.Nothing reaches.Nowhere span.OutputHook set.Empty set.Empty cells.Nothing
service_row Cout1 = row_at at.cout1 need.Cursor reaches.Screen span.Six set.A set.Empty cells.PutsByte
service_row Crout = row_at 0xFD8E need.Nothing reaches.Nowhere span.OutputHook set.Empty set.A cells.Nothing
service_row Home = row_at 0xFC58 need.Window reaches.Screen span.Six set.Empty set.Empty cells.ClearsWindow
service_row Prbyte = row_at 0xFDDA need.Cursor reaches.Screen span.Six set.A set.Empty cells.PutsDigits
service_row Prhex = row_at 0xFDE3 need.Cursor reaches.Screen span.Six set.A set.Empty cells.PutsDigit
service_row Setinv = row_at 0xFE80 need.Nothing reaches.Mask span.Six set.Empty set.Empty cells.Nothing
service_row Setnorm = row_at 0xFE84 need.Nothing reaches.Mask span.Six set.Empty set.Empty cells.Nothing
service_row Vtab = row_at 0xFC22 need.Cursor reaches.Base span.Six set.Empty set.Empty cells.Nothing
service_row Clreol = row_at 0xFC9C need.Cursor reaches.Page span.Six set.Empty set.Empty cells.ClearsToEnd
service_row Clreop = row_at 0xFC42 need.Cursor reaches.BaseAndPage span.Six set.Empty set.Empty cells.ClearsBelow
service_row Rdkey = row_at 0xFD0C need.Nothing reaches.Nowhere span.InputHook set.Empty set.Empty cells.Nothing
service_row Keyin = row_at at.keyin need.Key reaches.Nowhere span.Six set.Empty set.A cells.Nothing
service_row Getln = row_at 0xFD6A need.Line reaches.ScreenAndLine span.Six set.Empty set.X cells.ReadsLine
service_row Wait = row_at 0xFCA8 need.Nothing reaches.Nowhere span.Wait set.A set.A cells.Nothing
service_row Setcol = row_at 0xF864 need.Nothing reaches.Color span.Six set.A set.Empty cells.Nothing
service_row Plot = row_at 0xF800 need.Block reaches.Page span.Six set.AAndY set.Empty cells.PaintsBlock
service_row Hline = row_at 0xF819 need.Across reaches.Page span.Six set.AAndY set.Empty cells.PaintsAcross
service_row Vline = row_at 0xF828 need.Down reaches.Page span.Six set.AAndY set.Empty cells.PaintsDown
service_row Scrn = row_at 0xF871 need.Block reaches.Nowhere span.Six set.AAndY set.A cells.LooksAtBlock
service_row Clrscr = row_at 0xF832 need.Nothing reaches.Graphics span.Six set.Empty set.Empty cells.ClearsBlocks

-- all services, in order
abbrev pub services : List Service
services =
    Cout ∷ Cout1 ∷ Crout ∷ Home ∷ Prbyte ∷ Prhex ∷ Setinv ∷ Setnorm ∷ Vtab ∷ Clreol ∷ Clreop
    ∷ Rdkey ∷ Keyin ∷ Getln ∷ Wait ∷ Setcol ∷ Plot ∷ Hline ∷ Vline ∷ Scrn ∷ Clrscr ∷ []

-- the name of a service in the Monitor
abbrev pub service_name : Service → List ℕ
service_name Cout = codes "COUT"
service_name Cout1 = codes "COUT1"
service_name Crout = codes "CROUT"
service_name Home = codes "HOME"
service_name Prbyte = codes "PRBYTE"
service_name Prhex = codes "PRHEX"
service_name Setinv = codes "SETINV"
service_name Setnorm = codes "SETNORM"
service_name Vtab = codes "VTAB"
service_name Clreol = codes "CLREOL"
service_name Clreop = codes "CLREOP"
service_name Rdkey = codes "RDKEY"
service_name Keyin = codes "KEYIN"
service_name Getln = codes "GETLN"
service_name Wait = codes "WAIT"
service_name Setcol = codes "SETCOL"
service_name Plot = codes "PLOT"
service_name Hline = codes "HLINE"
service_name Vline = codes "VLINE"
service_name Scrn = codes "SCRN"
service_name Clrscr = codes "CLRSCR"
