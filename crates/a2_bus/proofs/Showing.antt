-- A view of a board's memory shows what the memory shows.
use Rattle.std.specs.Prelude.{◌≡◌}
use Rattle.a2_page.specs.declared.View.{View}
use Rattle.a2_page.specs.Picture.{page_grid, shown_by, shown_page, picture}
use Rattle.a2_bus.specs.BusState.{BusState}
use Rattle.a2_bus.specs.BoardState.{page_shown}
use Rattle.a2_bus.specs.View.{memory_of}

pub record IsView (view : View) (bus : BusState) : Type 0 where
  pub page1 : page_grid view.page1.now ≡ (memory_of bus).page1
  pub page2 : page_grid view.page2.now ≡ (memory_of bus).page2
  pub switches : view.switches ≡ bus.devices.switches

pub page_seen : (view : View) (bus : BusState) → IsView view bus → shown_by view ≡ page_shown bus
unfolding memory_of
page_seen view bus is = λ i. shown_page (is.switches i) (is.page1 i) (is.page2 i)

pub picture_seen : (view : View) (bus : BusState) → IsView view bus
    → picture view.switches (page_grid view.page1.now) (page_grid view.page2.now)
    ≡ (let memory = memory_of bus in picture memory.devices.switches memory.page1 memory.page2)
unfolding memory_of
picture_seen view bus is = λ i. picture (is.switches i) (is.page1 i) (is.page2 i)
