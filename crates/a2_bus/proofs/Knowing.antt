-- A board's bytes and devices determine the memory that it holds.
use Rattle.std.proofs.Common.{sym, ◌∙◌}
use Rattle.a2_page.specs.declared.Page.TheVariants.{One, Two}
use Rattle.a2_bus.specs.View.{EachBoardHasOneMemory}
use Rattle.a2_bus.proofs.Agreement.{same_pages}
use Rattle.a2_bus.proofs.Viewing.{memory_of-agrees}

pub each_board_has_one_memory : EachBoardHasOneMemory
each_board_has_one_memory bus size =
    let own = memory_of-agrees bus size in
    record {
      own = own;
      only = λ memory h. record {
        page1 = same_pages h own One;
        page2 = same_pages h own Two;
        devices = sym h.devices ∙ own.devices;
        plain = λ a low free. h.others a low free ∙ sym (own.others a low free);
      };
    }
