-- What is selected of the faults of a tree.
use Rattle.std.proofs.Common.{◌≡◌, ℕ, Bool, true, false, ◌&&◌, List, [], ◌∷◌, ◌++◌, map, filter, Some, refl, sym, ap, ◌∙◌}
use Rattle.std.specs.Prelude.{if◌then◌else◌}
use Rattle.std.proofs.lemmas.List.{map-append}
use Rattle.garde_i18n.specs.Datum.{Datum}
use Rattle.garde_report.specs.Part.{Part}
use Rattle.garde_report.specs.Report.{Entry, has_text, begins_with, messages_under}
use Rattle.garde.specs.Tree.{Tree, nothing, fault, under, ◌then◌, flat}
use Rattle.garde.specs.Reading.{entry_under}
use Rattle.garde.specs.Select.{part, messages, SelectGivesPart}
use Rattle.garde.proofs.Flat.{flat-then}
use Rattle.garde.proofs.Read.{flat_under}

messages_then : (text : Datum → List ℕ) (a b : Tree) → messages (flat text [] (a then b)) ≡ messages (flat text [] a) ++ messages (flat text [] b)
messages_then text a b = ap messages (flat-then text [] a b) ∙ map-append (λ (e : Entry). e.1) (flat text [] a) (flat text [] b)

-- one entry and those after it
abbrev kept : Bool → List ℕ → List (List ℕ) → List (List ℕ)
kept b message ms = if b then message ∷ ms else ms

selected_step : (b : Bool) (e : Entry) (es : List Entry) → messages (if b then e ∷ es else es) ≡ kept b e.1 (messages es)
selected_step true e es = refl
selected_step false e es = refl

kept_append : (b : Bool) (m : List ℕ) (xs ys : List (List ℕ)) → kept b m xs ++ ys ≡ kept b m (xs ++ ys)
kept_append true m xs ys = refl
kept_append false m xs ys = refl

messages_under_cons : (way : List (List ℕ)) (e : Entry) (es : List Entry) → messages_under way (e ∷ es) ≡ kept (begins_with way e.0) e.1 (messages_under way es)
messages_under_cons way e es = selected_step (begins_with way e.0) e (filter (λ (x : Entry). begins_with way x.0) es)

messages_under_append : (way : List (List ℕ)) (xs ys : List Entry) → messages_under way (xs ++ ys) ≡ messages_under way xs ++ messages_under way ys
messages_under_append way [] ys = refl
messages_under_append way (e ∷ es) ys =
    messages_under_cons way e (es ++ ys) ∙ ap (kept (begins_with way e.0) e.1) (messages_under_append way es ys)
    ∙ sym (kept_append (begins_with way e.0) e.1 (messages_under way es) (messages_under way ys))
    ∙ ap (λ l. l ++ messages_under way ys) (sym (messages_under_cons way e es))

messages_under_all : (es : List Entry) → messages_under [] es ≡ messages es
messages_under_all [] = refl
messages_under_all (e ∷ es) = ap (λ l. e.1 ∷ l) (messages_under_all es)

-- under a component with the text, and under another
abbrev if_named : Bool → List (List ℕ) → List (List ℕ)
if_named b ms = if b then ms else []

kept_named : (a b : Bool) (m : List ℕ) (ms : List (List ℕ)) → kept (a && b) m (if_named a ms) ≡ if_named a (kept b m ms)
kept_named true b m ms = refl
kept_named false b m ms = refl

none_named : (a : Bool) → [] ≡ if_named a []
none_named true = refl
none_named false = refl

messages_under_component : (text : List ℕ) (way : List (List ℕ)) (k : Part) (es : List Entry) → messages_under (text ∷ way) (map (entry_under (k ∷ [])) es) ≡ if_named (has_text text (Some k)) (messages_under way es)
messages_under_component text way k [] = none_named (has_text text (Some k))
messages_under_component text way k (e ∷ es) =
    messages_under_cons (text ∷ way) (entry_under (k ∷ []) e) (map (entry_under (k ∷ [])) es)
    ∙ ap (kept (has_text text (Some k) && begins_with way e.0) e.1) (messages_under_component text way k es)
    ∙ kept_named (has_text text (Some k)) (begins_with way e.0) e.1 (messages_under way es)
    ∙ ap (if_named (has_text text (Some k))) (sym (messages_under_cons way e es))

messages_named : (text : Datum → List ℕ) (a : Bool) (t : Tree) → if_named a (messages (flat text [] t)) ≡ messages (flat text [] (if a then t else nothing))
messages_named text true t = refl
messages_named text false t = refl

pub select_gives_part : SelectGivesPart
select_gives_part t [] text = messages_under_all (flat text [] t)
select_gives_part nothing (x ∷ way) text = refl
select_gives_part (fault f t) (x ∷ way) text = select_gives_part t (x ∷ way) text
select_gives_part (under k s t) (x ∷ way) text =
    let named = has_text x (Some k) in
    messages_under_append (x ∷ way) (flat text (k ∷ []) s) (flat text [] t)
    ∙ (λ i. messages_under (x ∷ way) (flat_under text (k ∷ []) [] s i) ++ select_gives_part t (x ∷ way) text i)
    ∙ ap (λ l. l ++ messages (flat text [] (part (x ∷ way) t)))
    (messages_under_component x way k (flat text [] s) ∙ ap (if_named named) (select_gives_part s way text) ∙ messages_named text named (part way s))
    ∙ sym (messages_then text (if named then part way s else nothing) (part (x ∷ way) t))
