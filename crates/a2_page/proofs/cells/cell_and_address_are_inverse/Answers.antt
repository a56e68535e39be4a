use Rattle.a2_page.proofs.Finding.{finds_each_cell, finds_only_cells}
use Rattle.a2_page.proofs.cells.cell_and_address_are_inverse.Goals as goal

pub returns : goal.returns
returns c = record { each = finds_each_cell; only = finds_only_cells }
