-- Fields joined and cut apart.
use Rattle.std.proofs.Common.{◌≡◌, ℕ, ◌+◌, ◌<◌, ◌≤◌, List, [], ◌∷◌, ◌++◌, length, get_or, take, drop, sym, refl, ap, ◌∙◌, append_assoc, append-nil, arith, length-append, length-drop, length-take-le, get_or-drop, take_all, take-add}
use lib.Seq.{take-append_seam, drop-append_seam}
use Rattle.octets.specs.Low.{low_first, from_low}
use Rattle.octets.specs.Layout.{Part, Number, Nonce, Body, SealedKey, Tag, widths, total, appended, fields_at}
use Rattle.octets.proofs.Low.{back, bytes_taken}

-- each field is as long as its width
abbrev pub Lens : List ℕ → List (List ℕ) → Type 0
Lens [] [] = Unit {0}
Lens [] (f ∷ fs) = ⊥
Lens (n ∷ ns) [] = ⊥
Lens (n ∷ ns) (f ∷ fs) = (length f ≡ n) × Lens ns fs

-- ---- joined, then cut

length-appended : (ns : List ℕ) (fs : List (List ℕ)) (x : List ℕ) → Lens ns fs → length (appended x fs) ≡ length x + total ns
length-appended [] [] x h = omega arith
length-appended [] (f ∷ fs) x h = absurd h
length-appended (n ∷ ns) [] x h = absurd h
length-appended (n ∷ ns) (f ∷ fs) x h =
    let e = length-appended ns fs (x ++ f) h.1 in let d = h.0 in let l = length-append x f in omega arith

pub long : (ns : List ℕ) (fs : List (List ℕ)) → Lens ns fs → length (appended [] fs) ≡ total ns
long ns fs h = let e = length-appended ns fs [] h in omega arith

-- what stands behind some bytes does not change them
appended_is : (fs : List (List ℕ)) (x : List ℕ) → appended x fs ≡ x ++ appended [] fs
appended_is [] x = sym (append-nil x)
appended_is (f ∷ fs) x =
    appended_is fs (x ++ f) ∙ (append_assoc x f (appended [] fs) ∙ ap (λ (l : List ℕ). x ++ l) (sym (appended_is fs f)))

fields_are : (ns : List ℕ) (fs : List (List ℕ)) (x : List ℕ) → Lens ns fs → fields_at (length x) ns (appended x fs) ≡ fs
fields_are [] [] x h = refl
fields_are [] (f ∷ fs) x h = absurd h
fields_are (n ∷ ns) [] x h = absurd h
fields_are (n ∷ ns) (f ∷ fs) x h =
    let whole : appended (x ++ f) fs ≡ x ++ (f ++ appended [] fs) = appended_is fs (x ++ f) ∙ append_assoc x f (appended [] fs) in
    let first : take n (drop (length x) (appended (x ++ f) fs)) ≡ f =
    ap (λ (l : List ℕ). take n (drop (length x) l)) whole
    ∙ ap (take n) (drop-append_seam x (f ++ appended [] fs))
    ∙ ap (λ (k : ℕ). take k (f ++ appended [] fs)) (sym h.0)
    ∙ take-append_seam f (appended [] fs) in
    let d = h.0 in
    let e = length-append x f in
    let past : length x + n ≡ length (x ++ f) = omega arith in
    let rest = ap (λ (k : ℕ). fields_at k ns (appended (x ++ f) fs)) past ∙ fields_are ns fs (x ++ f) h.1 in
    λ i. first i ∷ rest i

pub cut_apart : (ns : List ℕ) (fs : List (List ℕ)) → Lens ns fs → fields_at 0 ns (appended [] fs) ≡ fs
cut_apart ns fs h = fields_are ns fs [] h

-- ---- cut, then joined

joined_at : (ns : List ℕ) (i : ℕ) (x y : List ℕ) → i + total ns ≡ length x → y ≡ take i x → appended y (fields_at i ns x) ≡ x
joined_at [] i x y l e = e ∙ take_all i x (omega arith)
joined_at (n ∷ ns) i x y l e =
    joined_at ns (i + n) x (y ++ take n (drop i x)) (omega arith) (ap (λ (z : List ℕ). z ++ take n (drop i x)) e ∙ sym (take-add i n x))

pub joined_again : (ns : List ℕ) (x : List ℕ) → total ns ≡ length x → appended [] (fields_at 0 ns x) ≡ x
joined_again ns x l = joined_at ns 0 x [] (omega arith) refl

-- fields with their numbers read and written
abbrev pub renumbered : List Part → List (List ℕ) → List (List ℕ)
renumbered [] fs = []
renumbered (Number w ∷ ps) fs = low_first w (from_low (get_or fs 0 [])) ∷ renumbered ps (drop 1 fs)
renumbered (Nonce ∷ ps) fs = get_or fs 0 [] ∷ renumbered ps (drop 1 fs)
renumbered (Body ∷ ps) fs = get_or fs 0 [] ∷ renumbered ps (drop 1 fs)
renumbered (SealedKey ∷ ps) fs = get_or fs 0 [] ∷ renumbered ps (drop 1 fs)
renumbered (Tag ∷ ps) fs = get_or fs 0 [] ∷ renumbered ps (drop 1 fs)

module _ (x : List ℕ) (bytes : (i : ℕ) → get_or x i 0 < 256) where
  number_again : (w i : ℕ) → i + w ≤ length x → low_first w (from_low (take w (drop i x))) ≡ take w (drop i x)
  number_again w i h =
      let l : w ≤ length (drop i x) = simp length-drop (omega arith) in
      ap (λ (k : ℕ). low_first k (from_low (take w (drop i x)))) (sym (length-take-le w (drop i x) l))
      ∙ back (take w (drop i x)) (bytes_taken w (drop i x) (λ k. rw get_or-drop (bytes (i + k))))

  pub numbers_again : (ps : List Part) (i : ℕ) → i + total (widths ps) ≤ length x → renumbered ps (fields_at i (widths ps) x) ≡ fields_at i (widths ps) x
  numbers_again [] i h = refl
  numbers_again (Number w ∷ ps) i h =
      λ j. number_again w i (omega arith) j ∷ numbers_again ps (i + w) (omega arith) j
  numbers_again (Nonce ∷ ps) i h = ap (λ (fs : List (List ℕ)). take 32 (drop i x) ∷ fs) (numbers_again ps (i + 32) (omega arith))
  numbers_again (Body ∷ ps) i h = ap (λ (fs : List (List ℕ)). take 8 (drop i x) ∷ fs) (numbers_again ps (i + 8) (omega arith))
  numbers_again (SealedKey ∷ ps) i h = ap (λ (fs : List (List ℕ)). take 32 (drop i x) ∷ fs) (numbers_again ps (i + 32) (omega arith))
  numbers_again (Tag ∷ ps) i h = ap (λ (fs : List (List ℕ)). take 16 (drop i x) ∷ fs) (numbers_again ps (i + 16) (omega arith))
