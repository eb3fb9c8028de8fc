-- Items that are taken once more change nothing.
use Rattle.std.proofs.Common.{◌≡◌, ◌∙◌, sym, ap, subst, refl, ℕ, zero, suc, ◌+◌, Bool, true, false, List, [], ◌∷◌, ◌++◌, length, append_assoc, append-nil, map, inl, inr, arith}
use Rattle.std.specs.String.{string_bytes}
use Rattle.garde.specs.Tree.{Tree, bears, flat}
use Rattle.garde.specs.Handlers.{Datum}
use Rattle.garde.specs.Words.{index_part, Entry}
use Rattle.example_import.specs.Again.{RunsAgain, items_of}
use Rattle.example_import.specs.Row.{row_visits}
use Rattle.example_import.specs.Line.{Line, line_of, HasCode}
use Rattle.example_import.specs.Import.{Turn, Imports, IsReport, Takes, Tells, code_faults}
use Rattle.example_import.specs.declared.row.Row.{Row}
use Rattle.example_import.specs.declared.item.Item.{Item}
use Rattle.example_import.specs.declared.item.Item.TheVariants as item
use Rattle.example_import.proofs.Faults.{append_is_nil, flat_of_no_fault, no_fault_of_flat, not_stored}

-- lines come behind those that are there
has_more : (code : List ℕ) (lines rest : List Line) → HasCode code lines → HasCode code (lines ++ rest)
has_more code [] rest none = absurd none
has_more code (line ∷ lines) rest (inl same) = inl same
has_more code (line ∷ lines) rest (inr later) = inr (has_more code lines rest later)

has_last : (row : Row) (lines : List Line) → HasCode (string_bytes row.code) (lines ++ line_of row ∷ [])
has_last row [] = inl refl
has_last row (line ∷ lines) = inr (has_last row lines)

grows_by : (text : Datum → List ℕ) (index : ℕ) (old new : List Line) (it : Item) (report : List Entry) → Takes text index old it report new → (rest : List Line) × (new ≡ old ++ rest)
grows_by text index old new (item.Row row) [] t = (line_of row ∷ [], t.3.1)
grows_by text index old new (item.Row row) (fault ∷ more) t = ([], t.3 ∙ sym (append-nil old))
grows_by text index old new (item.Broken flaw) report t = ([], t.1 ∙ sym (append-nil old))

grows : (text : Datum → List ℕ) (index : ℕ) (old new : List Line) (turns : List Turn) → Imports text index old turns new → (rest : List Line) × (new ≡ old ++ rest)
grows text index old new [] same = ([], same ∙ sym (append-nil old))
grows text index old new (turn ∷ turns) (mid, first, more) =
    let a = grows_by text index old mid turn.0 turn.1 first in
    let b = grows text (index + 1) mid new turns more in
    (a.0 ++ b.0, b.1 ∙ ap (λ lines. lines ++ b.0) a.1 ∙ append_assoc old a.0 b.0)

-- where nothing is reported, the rules find nothing
quiet : (text : Datum → List ℕ) (index : ℕ) (row : Row) (is_stored : Bool) (report : List Entry) → IsReport text index row is_stored report → report ≡ [] → (t : Tree) → (row_visits row).trees t → bears t ≡ false
unfolding IsReport
quiet text index row is_stored report (t, visited, is) empty s there =
    let none = no_fault_of_flat text (index_part index ∷ []) t (append_is_nil _ (code_faults index is_stored) (sym is ∙ empty)).0 in
    ((row_visits row).alike s there).1 (((row_visits row).alike t visited).0 none)

-- where the rules find nothing and something is reported, the code was stored
was_stored : (text : Datum → List ℕ) (index : ℕ) (row : Row) (old : List Line) (is_stored : Bool) (fault : Entry) (more : List Entry) → IsReport text index row is_stored (fault ∷ more)
    → ((t : Tree) → (row_visits row).trees t → bears t ≡ false) → Tells (string_bytes row.code) old is_stored → HasCode (string_bytes row.code) old
unfolding IsReport
was_stored text index row old true fault more r none tells = tells
was_stored text index row old false fault more (t, visited, is) none tells =
    let nothing : flat text (index_part index ∷ []) t ≡ [] = flat_of_no_fault text (index_part index ∷ []) t (none t visited) in
    let empty = is ∙ append-nil (flat text (index_part index ∷ []) t) ∙ nothing in
    absurd (let e = empty in cc)

-- a row that was taken has its code stored, or a fault
row_again : (text : Datum → List ℕ) (index : ℕ) (row : Row) (old new whole later : List Line) (report other : List Entry) → Takes text index old (item.Row row) report new
    → ((code : List ℕ) → HasCode code old → HasCode code whole) → ((code : List ℕ) → HasCode code new → HasCode code whole)
    → Takes text index whole (item.Row row) other later → later ≡ whole
row_again text index row old new whole later report (fault ∷ more) t in_old in_new u = u.3
row_again text index row old new whole later [] [] t in_old in_new u =
    let code = string_bytes row.code in
    let missing = subst (λ b. Tells code whole b) (not_stored text row index u.0 [] u.2 refl) u.1 in
    absurd (missing (in_new code (subst (λ lines. HasCode code lines) (sym t.3.1) (has_last row old))))
row_again text index row old new whole later (fault ∷ more) [] t in_old in_new u =
    let code = string_bytes row.code in
    let missing = subst (λ b. Tells code whole b) (not_stored text row index u.0 [] u.2 refl) u.1 in
    absurd (missing (in_old code (was_stored text index row old t.0 fault more t.2 (quiet text index row u.0 [] u.2 refl) t.1)))

item_again : (text : Datum → List ℕ) (index : ℕ) (it : Item) (old new whole later : List Line) (report other : List Entry) → Takes text index old it report new
    → ((code : List ℕ) → HasCode code old → HasCode code whole) → ((code : List ℕ) → HasCode code new → HasCode code whole)
    → Takes text index whole it other later → later ≡ whole
item_again text index (item.Row row) old new whole later report other t in_old in_new u = row_again text index row old new whole later report other t in_old in_new u
item_again text index (item.Broken flaw) old new whole later report other t in_old in_new u = u.1

first_item : (x y : Item) (xs ys : List Item) → x ∷ xs ≡ y ∷ ys → x ≡ y
first_item x y xs ys e = cc

other_items : (x y : Item) (xs ys : List Item) → x ∷ xs ≡ y ∷ ys → xs ≡ ys
other_items x y xs ys e = cc

-- a table that has what the items made of it stays as it is
unchanged : (text : Datum → List ℕ) (index : ℕ) (old mid whole later : List Line) (front again : List Turn) → items_of again ≡ items_of front → Imports text index old front mid
    → ((code : List ℕ) → HasCode code mid → HasCode code whole) → Imports text index whole again later → later ≡ whole
unchanged text index old mid whole later [] [] e i has j = j
unchanged text index old mid whole later [] (turn ∷ again) e i has j = absurd (let k = e in cc)
unchanged text index old mid whole later (turn ∷ front) [] e i has j = absurd (let k = e in cc)
unchanged text index old mid whole later (turn ∷ front) (other ∷ again) e (next, first, more) has (step, second, rest) =
    let behind = grows text (index + 1) next mid front more in
    let here = grows_by text index old next turn.0 turn.1 first in
    let in_new : (code : List ℕ) → HasCode code next → HasCode code whole =
    λ code there. has code (subst (λ lines. HasCode code lines) (sym behind.1) (has_more code next behind.0 there)) in
    let in_old : (code : List ℕ) → HasCode code old → HasCode code whole =
    λ code there. in_new code (subst (λ lines. HasCode code lines) (sym here.1) (has_more code old here.0 there)) in
    let same : step ≡ whole =
    item_again text index turn.0 old next whole step turn.1 other.1 first in_old in_new
    (subst (λ it. Takes text index whole it other.1 step) (first_item other.0 turn.0 (items_of again) (items_of front) e) second) in
    unchanged text (index + 1) next mid whole later front again (other_items other.0 turn.0 (items_of again) (items_of front) e) more has
    (subst (λ lines. Imports text (index + 1) lines again later) same rest)

-- an import in two parts, and both together
parted : (text : Datum → List ℕ) (index : ℕ) (old new : List Line) (xs ys : List Turn) → Imports text index old (xs ++ ys) new → (mid : List Line) × Imports text index old xs mid × Imports text (index + length xs) mid ys new
parted text index old new [] ys i = (old, refl, subst (λ at. Imports text at old ys new) (omega arith) i)
parted text index old new (x ∷ xs) ys (next, first, more) =
    let rest = parted text (index + 1) next new xs ys more in
    (rest.0, (next, first, rest.1), subst (λ at. Imports text at rest.0 ys new) (omega arith) rest.2)

joined : (text : Datum → List ℕ) (index : ℕ) (old mid new : List Line) (xs ys : List Turn) → Imports text index old xs mid → Imports text (index + length xs) mid ys new → Imports text index old (xs ++ ys) new
joined text index old mid new [] ys same i = subst (λ lines. Imports text index lines ys new) same (subst (λ at. Imports text at mid ys new) (omega arith) i)
joined text index old mid new (x ∷ xs) ys (next, first, more) i =
    (next, first, joined text (index + 1) next mid new xs ys more (subst (λ at. Imports text at mid ys new) (omega arith) i))

same_length : (xs ys : List Turn) → items_of xs ≡ items_of ys → length xs ≡ length ys
same_length [] [] e = refl
same_length [] (y ∷ ys) e = absurd (let k = e in cc)
same_length (x ∷ xs) [] e = absurd (let k = e in cc)
same_length (x ∷ xs) (y ∷ ys) e = ap suc (same_length xs ys (other_items x.0 y.0 (items_of xs) (items_of ys) e))

pub runs_again : RunsAgain
runs_again text before mid after front again more i e j =
    let parts = parted text 0 mid after again more j in
    let same = unchanged text 0 before mid mid parts.0 front again e i (λ code has. has) parts.1 in
    let rest : Imports text (0 + length front) mid more after =
    subst (λ n. Imports text n mid more after) (omega (arith, same_length again front e)) (subst (λ lines. Imports text (0 + length again) lines more after) same parts.2) in
    joined text 0 before mid after front more i rest
