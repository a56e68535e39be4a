-- Names for the definitions that must be unfolded to compute a text, its start and its output.
use Rattle.a2_opcode.specs.Table.{table, row, row_of}
use Rattle.a2_opcode.specs.Encoding.{encoded}
use Rattle.a2_page.specs.Cells.{cell_at}
use Rattle.a2_bus.specs.PowerOn.{first_byte, start_memory}
use Rattle.a2_services.specs.Put.{after_line_feed, after_return, after_backspace, after_character, after_put_unmasked, after_put, with_base_address}
use Rattle.a2_machine.specs.Output.{line_of_digits}
use Rattle.a2_run.specs.Meaning.{picture_of, attributes_of}
use Rattle.a2_syntax.proofs.Reader.{read_source}

-- a text is read and its bytes are placed
unfoldable pub reading : Type 1
unfolding read_source table row row_of encoded
reading = Type 0

-- the memory at the start
unfoldable pub starting : Type 1
unfolding start_memory first_byte cell_at
starting = Type 0

-- characters are printed, and the screen and the register line are written
unfoldable pub printing : Type 1
unfolding after_line_feed after_return after_backspace after_character after_put_unmasked after_put with_base_address picture_of attributes_of line_of_digits cell_at
printing = Type 0
