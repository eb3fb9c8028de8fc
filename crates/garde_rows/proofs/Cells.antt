-- The cells of a row beside the names of its columns.
use Rattle.std.proofs.Common.{◌≡◌, ◌<◌, ℕ, zero, suc, ◌+◌, length, List, [], ◌∷◌, ◌++◌, map, drop, Some, None, refl, sym, ap, ◌∙◌, arith, append_assoc, append-nil}
use Rattle.std.proofs.lemmas.List.{map-append}
use Rattle.std.specs.Prelude.{zip}
use Rattle.std.specs.Borrow.{Bor}
use Rattle.csv.specs.Records.{field_at}
use Rattle.json.specs.Json.{Json, string, object, Members, no_members, member}
use Rattle.garde_tape.specs.declared.field.FieldValue.{FieldValue}
use Rattle.garde_tape.specs.Texts.{field_json, field_members, field_list}
use Rattle.garde_rows.specs.Rows.{cell_members}

-- the cells from this place on, each with the name of its column
abbrev pub cells_from : ℕ → List (List ℕ) → List (List ℕ) → List (List ℕ × Json)
cells_from i columns cells = map (λ p. (p.0, string p.1)) (zip (drop i columns) (drop i cells))

-- a field that is there is the first of those from its place on
field_here : (fields : List (List ℕ)) (i : ℕ) (x : List ℕ) → Some x ≡ field_at fields i → drop i fields ≡ x ∷ drop (suc i) fields
unfolding field_at
field_here [] i x is = cc
field_here (f ∷ fs) zero x is = let same : x ≡ f = cc in ap (λ z. z ∷ fs) (sym same)
field_here (f ∷ fs) (suc i) x is = field_here fs i x is

-- and its place is one of theirs
pub is_within : (fields : List (List ℕ)) (i : ℕ) (x : List ℕ) → Some x ≡ field_at fields i → i < length fields
unfolding field_at
is_within [] i x is = cc
is_within (f ∷ fs) zero x is = omega arith
is_within (f ∷ fs) (suc i) x is = let below = is_within fs i x is in omega arith

-- where none is, none is left
field_end : (fields : List (List ℕ)) (i : ℕ) → None ≡ field_at fields i → drop i fields ≡ []
unfolding field_at
field_end [] zero is = refl
field_end [] (suc i) is = refl
field_end (f ∷ fs) zero is = cc
field_end (f ∷ fs) (suc i) is = field_end fs i is

no_second : (xs : List (List ℕ)) → zip {X = List ℕ} xs [] ≡ []
no_second [] = refl
no_second (x ∷ xs) = refl

-- a cell is the next one
pub cell_then : (columns cells : List (List ℕ)) (i j : ℕ) (name cell : List ℕ) → Some name ≡ field_at columns i → Some cell ≡ field_at cells i → j ≡ i + 1 → cells_from i columns cells ≡ (name, string cell) ∷ cells_from j columns cells
cell_then columns cells i j name cell named is next =
    let after : suc i ≡ j = omega (arith, next) in
    ap (λ l. map (λ p. (p.0, string p.1)) (zip l (drop i cells))) (field_here columns i name named)
    ∙ ap (λ l. map (λ p. (p.0, string p.1)) (zip (name ∷ drop (suc i) columns) l)) (field_here cells i cell is)
    ∙ ap (λ k. (name, string cell) ∷ cells_from k columns cells) after

-- no column is left, or no cell
pub no_column_left : (columns cells : List (List ℕ)) (i : ℕ) → None ≡ field_at columns i → cells_from i columns cells ≡ []
no_column_left columns cells i is = ap (λ l. map (λ p. (p.0, string p.1)) (zip l (drop i cells))) (field_end columns i is)

pub no_cell_left : (columns cells : List (List ℕ)) (i : ℕ) → None ≡ field_at cells i → cells_from i columns cells ≡ []
no_cell_left columns cells i is =
    ap (λ l. map (λ p. (p.0, string p.1)) (zip (drop i columns) l)) (field_end cells i is)
    ∙ ap (λ l. map (λ p. (p.0, string p.1)) l) (no_second (drop i columns))

-- one field more, of what is left
pub one_more : (old new : List (Bor (List ℕ) × FieldValue)) (f : Bor (List ℕ) × FieldValue) (rest left whole : List (List ℕ × Json)) → field_list old ++ left ≡ whole → left ≡ (f.0.now, field_json f.1) ∷ rest → new ≡ old ++ f ∷ [] → field_list new ++ rest ≡ whole
one_more old new f rest left whole so is one =
    ap (λ fs. field_list fs ++ rest) one
    ∙ ap (λ l. l ++ rest) (map-append (λ p. (p.0.now, field_json p.1)) old (f ∷ []))
    ∙ append_assoc (field_list old) ((f.0.now, field_json f.1) ∷ []) rest
    ∙ ap (λ l. field_list old ++ l) (sym is)
    ∙ so

-- an object of these members
abbrev listed : List (List ℕ × Json) → Members
listed [] = no_members
listed (m ∷ ms) = member m.0 m.1 (listed ms)

listed_fields : (fs : List (Bor (List ℕ) × FieldValue)) → field_members fs ≡ listed (field_list fs)
listed_fields [] = refl
listed_fields (f ∷ fs) = ap (λ ms. member f.0.now (field_json f.1) ms) (listed_fields fs)

listed_cells : (ps : List (List ℕ × List ℕ)) → cell_members ps ≡ listed (map (λ p. (p.0, string p.1)) ps)
listed_cells [] = refl
listed_cells (p ∷ ps) = ap (λ ms. member p.0 (string p.1) ms) (listed_cells ps)

-- the fields are the row, where none is left
pub all_cells : (fs : List (Bor (List ℕ) × FieldValue)) (columns cells : List (List ℕ)) (left : List (List ℕ × Json)) → field_list fs ++ left ≡ map (λ p. (p.0, string p.1)) (zip columns cells) → left ≡ [] → object (field_members fs) ≡ object (cell_members (zip columns cells))
all_cells fs columns cells left so none =
    ap object (listed_fields fs
    ∙ ap listed (sym (append-nil (field_list fs)) ∙ ap (λ l. field_list fs ++ l) (sym none) ∙ so)
    ∙ sym (listed_cells (zip columns cells)))
