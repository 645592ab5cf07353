use Rattle.console.proofs.Reading.{commands_read, digits_read, long_is_no_row, one_reading, others_are_no_row}
use Rattle.console.proofs.laws.laws_stand.Goals as goal

pub returns : goal.returns
returns c = record { digits = digits_read; long = long_is_no_row; others = others_are_no_row; commands = commands_read; one = one_reading }
