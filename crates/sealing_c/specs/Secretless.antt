-- SHAKE256, and noughts for secrets.
use Rattle.std.specs.Prelude.{[], replicate}
use Rattle.sponge.specs.Sponge.{shake256}
use Rattle.sealing.specs.Secrets.{Secrets}
use Rattle.sealing.specs.Sized.{length-shake256}

abbrev pub no_secrets : Secrets
no_secrets = record { hash = shake256; sized = length-shake256; shared = λ peer. replicate 32 0; own = replicate 32 0; entropy = [] }
