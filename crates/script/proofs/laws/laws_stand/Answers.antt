use Rattle.script.proofs.Reading.{numbers_read, commands_read, one_reading}
use Rattle.script.proofs.laws.laws_stand.Goals as goal

pub returns : goal.returns
returns c = record { numbers = numbers_read; commands = commands_read; one = one_reading }
