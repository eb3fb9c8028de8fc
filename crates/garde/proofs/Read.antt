-- The same tree, read under a prefix and by another handler.
use Rattle.std.proofs.Common.{◌≡◌, ℕ, List, [], ◌∷◌, ◌++◌, map, refl, sym, ap, ◌∙◌, append_assoc, append-nil}
use Rattle.std.proofs.lemmas.List.{map-append}
use Rattle.garde_i18n.specs.Datum.{Datum}
use Rattle.garde_report.specs.Part.{Part}
use Rattle.garde_rules.specs.{fault_text}
use Rattle.garde.specs.Tree.{Tree, nothing, fault, under, flat}
use Rattle.garde.specs.Reading.{entry_under, ReadsUnder, faults, entry_of, ReadsByHandler}

pub flat_under : (text : Datum → List ℕ) (p q : List Part) (t : Tree) → flat text (p ++ q) t ≡ map (entry_under p) (flat text q t)
flat_under text p q nothing = refl
flat_under text p q (fault f t) = ap (λ l. (p ++ q, fault_text text f) ∷ l) (flat_under text p q t)
flat_under text p q (under k s t) =
    (λ i. flat text (append_assoc p q (k ∷ []) i) s ++ flat text (p ++ q) t)
    ∙ (λ i. flat_under text p (q ++ k ∷ []) s i ++ flat_under text p q t i)
    ∙ sym (map-append (entry_under p) (flat text (q ++ k ∷ []) s) (flat text q t))

pub reads_under : ReadsUnder
reads_under t p text = (λ i. flat text (sym (append-nil p) i) t) ∙ flat_under text p [] t

flat_entries : (text : Datum → List ℕ) (p : List Part) (t : Tree) → flat text p t ≡ map (entry_of text) (faults p t)
flat_entries text p nothing = refl
flat_entries text p (fault f t) = ap (λ l. (p, fault_text text f) ∷ l) (flat_entries text p t)
flat_entries text p (under k s t) =
    (λ i. flat_entries text (p ++ k ∷ []) s i ++ flat_entries text p t i)
    ∙ sym (map-append (entry_of text) (faults (p ++ k ∷ []) s) (faults p t))

pub reads_by_handler : ReadsByHandler
reads_by_handler t text = flat_entries text [] t
