-- What is written is cut, and what is cut is written.
use Rattle.std.proofs.Common.{◌≡◌, ℕ, zero, suc, ◌<◌, Bool, true, false, cond, eqb, ltb, List, [], ◌∷◌, length, get_or, take, drop, Ok, Err, sym, refl, ap, ◌∙◌, arith, ltb-true, eqb-true}
use Rattle.frame.specs.declared.message.Message.{Message}
use Rattle.frame.specs.declared.message.Message.TheVariants.{Begin, Reply, Take, Taken, Renew, Load, All}
use Rattle.frame.specs.declared.message.Refusal.TheVariants.{NoRow}
use Rattle.frame.specs.Row.{code, padded, place, nonce_row, nonce_at}
use Rattle.frame.proofs.Small.{and_left, and_right}
use Rattle.octets.specs.declared.parts.Cut.{Cut}
use Rattle.octets.specs.Low.{low_first, from_low}
use Rattle.octets.specs.Layout.{Part, Number, Nonce, Body, SealedKey, Tag, layout, widths, total, appended, fill, fields_at, octets_of_row}
use Rattle.octets.specs.Cutting.{row_in, cut_with, cut_kind, fits, cut, opened}
use Rattle.octets.specs.Laws.{FitsLayout, blank, with_body, row_of, WrittenIsCut, CutIsWritten}
use Rattle.octets.proofs.Low.{there, length_low}
use Rattle.octets.proofs.Cuts.{cut_is}
use Rattle.octets.proofs.Fields.{Lens, long, cut_apart, joined_again, renumbered, numbers_again}

-- ---- written, then cut

lens : (ps : List Part) (row : List ℕ) (ns : List (List ℕ)) (b k t : List ℕ) → FitsLayout ps row ns b k t → Lens (widths ps) (fill ps row ns b k t)
lens [] row ns b k t h = tt
lens (Number w ∷ ps) row ns b k t h = (length_low w (place row 0), lens ps (drop 1 row) ns b k t h.1)
lens (Nonce ∷ ps) row ns b k t h = (h.0, lens ps (drop 3 row) (drop 1 ns) b k t h.2)
lens (Body ∷ ps) row ns b k t h = (h.0, lens ps (drop 1 row) ns b k t h.1)
lens (SealedKey ∷ ps) row ns b k t h = (h.0, lens ps row ns b k t h.1)
lens (Tag ∷ ps) row ns b k t h = (h.0, lens ps row ns b k t h.1)

-- a row as its layout reads it, its body sealed
abbrev blank_row : List Part → List ℕ → List ℕ
blank_row [] row = []
blank_row (Number w ∷ ps) row = place row 0 ∷ blank_row ps (drop 1 row)
blank_row (Nonce ∷ ps) row = nonce_row (nonce_at row 0) (blank_row ps (drop 3 row))
blank_row (Body ∷ ps) row = 0 ∷ blank_row ps (drop 1 row)
blank_row (SealedKey ∷ ps) row = blank_row ps row
blank_row (Tag ∷ ps) row = blank_row ps row

row_there : (ps : List Part) (row : List ℕ) (ns : List (List ℕ)) (b k t : List ℕ) → FitsLayout ps row ns b k t → row_in ps (fill ps row ns b k t) ≡ blank_row ps row
row_there [] row ns b k t h = refl
row_there (Number w ∷ ps) row ns b k t h =
    λ i. there w (place row 0) h.0 i ∷ row_there ps (drop 1 row) ns b k t h.1 i
row_there (Nonce ∷ ps) row ns b k t h = λ i. nonce_row (h.1 i) (row_there ps (drop 3 row) (drop 1 ns) b k t h.2 i)
row_there (Body ∷ ps) row ns b k t h = ap (λ (l : List ℕ). 0 ∷ l) (row_there ps (drop 1 row) ns b k t h.1)
row_there (SealedKey ∷ ps) row ns b k t h = row_there ps row ns b k t h.1
row_there (Tag ∷ ps) row ns b k t h = row_there ps row ns b k t h.1

by_layout : (kind : ℕ) (row : List ℕ) (ns : List (List ℕ)) (b k t : List ℕ) → ltb kind 7 ≡ true → FitsLayout (layout kind) row ns b k t →
    get_or (appended [] (fill (layout kind) row ns b k t)) 0 7 ≡ kind →
    cut (appended [] (fill (layout kind) row ns b k t)) ≡ Ok (cut_with (layout kind) (blank_row (layout kind) row) (fill (layout kind) row ns b k t))
by_layout kind row ns b k t known h first =
    let fs : List (List ℕ) = fill (layout kind) row ns b k t in
    let l = lens (layout kind) row ns b k t h in
    let e = cut_apart (widths (layout kind)) fs l in
    cut_is kind (appended [] fs) first known (long (widths (layout kind)) fs l)
    ∙ (λ i. Ok (cut_with (layout kind) (row_in (layout kind) (e i)) (e i)))
    ∙ (λ i. Ok (cut_with (layout kind) (row_there (layout kind) row ns b k t h i) fs))

pub written_is_cut : WrittenIsCut
unfolding low_first
written_is_cut (Begin g h n) a b x k t fit = by_layout 0 (code (Begin g h n)) (a ∷ b ∷ []) x k t refl fit refl
written_is_cut (Reply p) a b x k t fit = by_layout 1 (code (Reply p)) (a ∷ b ∷ []) x k t refl fit refl
written_is_cut (Take n c p) a b x k t fit = by_layout 2 (code (Take n c p)) (a ∷ b ∷ []) x k t refl fit refl
written_is_cut (Taken p) a b x k t fit = by_layout 3 (code (Taken p)) (a ∷ b ∷ []) x k t refl fit refl
written_is_cut (Renew r n c p) a b x k t fit = by_layout 4 (code (Renew r n c p)) (a ∷ b ∷ []) x k t refl fit refl
written_is_cut (Load d c y p) a b x k t fit = by_layout 5 (code (Load d c y p)) (a ∷ b ∷ []) x k t refl fit refl
written_is_cut (All g n c y) a b x k t fit = by_layout 6 (code (All g n c y)) (a ∷ b ∷ []) x k t refl fit refl

pub opened_is : (m : Message) (y : ℕ) (row : List ℕ) → row ≡ code (blank m) → opened y row ≡ code (with_body y m)
opened_is (Begin g h n) y row e = ap (opened y) e
opened_is (Reply p) y row e = ap (opened y) e
opened_is (Take n c p) y row e = ap (opened y) e
opened_is (Taken p) y row e = ap (opened y) e
opened_is (Renew r n c p) y row e = ap (opened y) e
opened_is (Load d c x p) y row e = ap (opened y) e
opened_is (All g n c x) y row e = ap (opened y) e

-- the same in twelve places
pub padded_opened_is : (m : Message) (y : ℕ) (row : List ℕ) → row ≡ padded 12 (code (blank m)) → opened y row ≡ padded 12 (code (with_body y m))
padded_opened_is (Begin g h n) y row e = ap (opened y) e
padded_opened_is (Reply p) y row e = ap (opened y) e
padded_opened_is (Take n c p) y row e = ap (opened y) e
padded_opened_is (Taken p) y row e = ap (opened y) e
padded_opened_is (Renew r n c p) y row e = ap (opened y) e
padded_opened_is (Load d c x p) y row e = ap (opened y) e
padded_opened_is (All g n c x) y row e = ap (opened y) e

-- ---- cut, then written

first_is : (x : List ℕ) (k : ℕ) → k < 7 → get_or x 0 7 ≡ k → from_low (take 1 x) ≡ k
first_is [] k known e = let none : ⊥ = omega arith in absurd none
first_is (y ∷ ys) k known e = omega arith

abbrev again : Cut → List ℕ
again c = octets_of_row (row_of c) c.nonces.anonce c.nonces.snonce c.body c.key c.tag

abbrev refilled : (kind : ℕ) → Cut → List (List ℕ)
refilled kind c = fill (layout kind) (row_of c) (c.nonces.anonce ∷ c.nonces.snonce ∷ []) c.body c.key c.tag

module _ (x : List ℕ) (bytes : (i : ℕ) → get_or x i 0 < 256) where
  by_fields : (k : ℕ) → length x ≡ total (widths (layout k)) → refilled k (cut_kind k x) ≡ renumbered (layout k) (fields_at 0 (widths (layout k)) x) →
      place (row_of (cut_kind k x)) 0 ≡ k → again (cut_kind k x) ≡ x
  by_fields k l e first =
      ap (λ (j : ℕ). appended [] (refilled j (cut_kind k x))) first
      ∙ ap (appended []) (e ∙ numbers_again x bytes (layout k) 0 (omega arith))
      ∙ joined_again (widths (layout k)) x (sym l)

  by_kind : (k : ℕ) → k < 7 → get_or x 0 7 ≡ k → length x ≡ total (widths (layout k)) → again (cut_kind k x) ≡ x
  by_kind zero known e l = by_fields 0 l refl (first_is x 0 known e)
  by_kind (suc zero) known e l = by_fields 1 l refl (first_is x 1 known e)
  by_kind (suc (suc zero)) known e l = by_fields 2 l refl (first_is x 2 known e)
  by_kind (suc (suc (suc zero))) known e l = by_fields 3 l refl (first_is x 3 known e)
  by_kind (suc (suc (suc (suc zero)))) known e l = by_fields 4 l refl (first_is x 4 known e)
  by_kind (suc (suc (suc (suc (suc zero))))) known e l = by_fields 5 l refl (first_is x 5 known e)
  by_kind (suc (suc (suc (suc (suc (suc zero)))))) known e l = by_fields 6 l refl (first_is x 6 known e)
  by_kind (suc (suc (suc (suc (suc (suc (suc k))))))) known e l = let none : ⊥ = omega arith in absurd none

  by_fits : (good : Bool) (c : Cut) → fits (get_or x 0 7) x ≡ good → cond good (Ok (cut_kind (get_or x 0 7) x)) (Err NoRow) ≡ Ok c → again c ≡ x
  by_fits true c good e =
      let k : ℕ = get_or x 0 7 in
      let same : cut_kind k x ≡ c = cc in
      let known = ltb-true k 7 (and_left (ltb k 7) (eqb (length x) (total (widths (layout k)))) good) in
      let l = eqb-true _ _ (and_right (ltb k 7) (eqb (length x) (total (widths (layout k)))) good) in
      ap again (sym same) ∙ by_kind k known refl l
  by_fits false c good e = let none : ◌≡◌ {A = ℕ} 0 1 = cc in absurd (omega arith)

pub cut_is_written : CutIsWritten
unfolding cut
cut_is_written x c bytes e = by_fits x bytes (fits (get_or x 0 7) x) c refl e
