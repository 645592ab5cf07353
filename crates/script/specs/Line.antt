-- A line of a script: its words, and the numbers among them. Assumes nothing.
use Rattle.std.specs.Prelude.{ℕ, zero, suc, ◌-◌, ◌^◌, min, Bool, false, cond, ◌&&◌, ◌||◌, List, [], ◌∷◌, ◌++◌, map, length, Some, None, codes, Option, ◌==◌, nat_lt, slice_index}
use Rattle.std.specs.Str.Parse.{digits_value}
use Rattle.std.specs.Str.{all_ascii_digits}

-- one digit or more, and nothing else
abbrev pub is_number : List ℕ → Bool
is_number w = nat_lt 0 (length w) && all_ascii_digits w

-- a number too large for 64 bits counts as the largest that they hold
abbrev pub amount : List ℕ → ℕ
amount w = min (digits_value 10 w) (2 ^ 64 - 1)

abbrev pub number_of : List ℕ → Option ℕ
number_of w = cond (is_number w) (Some (amount w)) None

-- whether a line goes on with a blank: a space, a tab, or a carriage return that ends it
abbrev pub starts_blank : List ℕ → Bool
starts_blank [] = false
starts_blank (b ∷ bs) = b == 32 || (b == 9 || (b == 13 && length bs == 0))

-- w stands before ws, if it is a word
abbrev pub word_then : List ℕ → List (List ℕ) → List (List ℕ)
word_then [] ws = ws
word_then (b ∷ bs) ws = (b ∷ bs) ∷ ws

-- the words of a line of which w is read, the word that has begun
abbrev pub words_after : List ℕ → List ℕ → List (List ℕ)
words_after w [] = word_then w []
words_after w (b ∷ bs) = cond (starts_blank (b ∷ bs)) (word_then w (words_after [] bs)) (words_after (w ++ b ∷ []) bs)

abbrev pub words : List ℕ → List (List ℕ)
words bs = words_after [] bs

-- words with one space between two
abbrev pub spaced : List (List ℕ) → List ℕ
spaced [] = []
spaced (w ∷ []) = w
spaced (w ∷ v ∷ ws) = w ++ (codes " " ++ spaced (v ∷ ws))

-- a word of a line: one that is a number counts as that number
pub data Part : Type 0 where
  Number : ℕ → Part
  Word : List ℕ → Part

abbrev pub part_by : List ℕ → Option ℕ → Part
part_by w (Some n) = Number n
part_by w None = Word w

abbrev pub parts : List ℕ → List Part
parts line = map (λ w. part_by w (number_of w)) (words line)

-- the k numbers of an array from its index i on
abbrev pub numbers_from : ℕ → ℕ → List ℕ → List Part
numbers_from i zero ns = []
numbers_from i (suc k) ns = Number (slice_index ns i) ∷ numbers_from (suc i) k ns
