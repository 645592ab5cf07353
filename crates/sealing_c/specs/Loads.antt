-- The load that the benchmark seals: from gate 1 to handheld 7.
use Rattle.std.specs.Prelude.{ℕ}
use Rattle.frame.specs.declared.message.Direction.TheVariants.{Down}
use Rattle.frame.specs.declared.message.Message.{Message}
use Rattle.frame.specs.declared.message.Message.TheVariants.{Load}

abbrev pub load_down : (counter body : ℕ) → Message
load_down c b =
    Load Down c b
    (record {
      gate = 1;
      hand = 7;
      anonce = record { kind = 0; node = 1; index = 0 };
      snonce = record { kind = 1; node = 7; index = 0 };
    })
