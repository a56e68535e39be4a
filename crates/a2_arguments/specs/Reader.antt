-- The reader, as a state of reading. No public clause cites this file.
use Rattle.a2_arguments.specs.declared.reading.Reader.{Reader}
use Rattle.a2_arguments.specs.Found.{found_of}
use Rattle.a2_arguments.specs.Reading.{State}

abbrev pub state_of : Reader → State
state_of reader = record { found = found_of reader.arguments; waiting = reader.waiting; ended = reader.ended }
