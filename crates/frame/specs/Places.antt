-- A row gives back its places.
use Rattle.std.proofs.Common.{◌≡◌, ℕ, zero, suc, ◌≤◌, List, [], ◌∷◌, length, take, refl, ap, sym, ◌∙◌, subst}
use Rattle.std.proofs.lemmas.List.{length-take-le}
use Rattle.frame.specs.declared.row.Row.TheInside.{Inside}
use Rattle.frame.specs.Row.{padded}

pub length-padded : (n : ℕ) (xs : List ℕ) → length (padded n xs) ≡ n
length-padded zero xs = refl
length-padded (suc n) [] = ap suc (length-padded n [])
length-padded (suc n) (x ∷ xs) = ap suc (length-padded n xs)

abbrev fields : (numbers : List ℕ) → (len : ℕ) → Inside
fields xs n = record { numbers = xs; len = n }

-- what a row holds follows from its numbers
pub fields_again : (a : Inside) → a.len ≤ 12 → a.numbers ≡ padded 12 (take a.len a.numbers) → record { numbers = padded 12 (take a.len a.numbers); len = length (take a.len a.numbers) } ≡ a
fields_again a few padding =
    ap (λ (xs : List ℕ). fields xs (length (take a.len a.numbers))) (sym padding)
    ∙ ap (λ (n : ℕ). fields a.numbers n) long
  where
    twelve : length a.numbers ≡ 12
    twelve = ap length padding ∙ length-padded 12 (take a.len a.numbers)

    long : length (take a.len a.numbers) ≡ a.len
    long = length-take-le a.len a.numbers (subst (λ (n : ℕ). a.len ≤ n) (sym twelve) few)
