-- What a sponge of SHAKE256 stands for.
use Rattle.std.specs.Prelude.{◌≡◌, ℕ, List, ◌++◌}
use Rattle.sponge.specs.Sponge.{delimited, shake_suffix, absorbed, squeezed}
use Rattle.sponge.specs.Absorbing.{Absorbing}

-- the first n bytes of output, if `more` is absorbed next and the message then ends
unfoldable pub output : Absorbing → List ℕ → ℕ → List ℕ
output s more n = squeezed 136 n (absorbed 136 (delimited shake_suffix) (s.waiting ++ more) s.lanes)

-- `after` is `before` with `part` absorbed
abbrev pub Absorbs : Absorbing → List ℕ → Absorbing → Type 0
Absorbs before part after = (more : List ℕ) (n : ℕ) → output after more n ≡ output before (part ++ more) n
