-- Faults that name fields by their labels.
use Rattle.std.specs.Prelude.{ℕ, if◌then◌else◌, List, [], ◌∷◌, bytes_eq}
use Rattle.garde_html.specs.declared.form.Field.{Field}
use Rattle.garde_catalog.specs.Catalog.{catalog_text}
use Rattle.garde.specs.Handlers.{Datum, matches}
use Rattle.use_signup.specs.declared.labels.Labelled.{Labelled}

-- the label of the first field of this name, or the name where there is none
abbrev pub label_of : List Field → List ℕ → List ℕ
label_of [] name = name
label_of (f ∷ fs) name = if bytes_eq name f.name.now then f.label.now else label_of fs name

-- what was found, with a field by its label
abbrev pub labelled : List Field → Datum → Datum
labelled fields (matches name) = matches (label_of fields name)
labelled fields datum = datum

-- the text of what was found
abbrev pub labelled_text : Labelled → Datum → List ℕ
labelled_text it datum = catalog_text it.catalog.now (labelled it.fields.now datum)
