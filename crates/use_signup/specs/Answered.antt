-- What is answered to a request.
use Rattle.std.specs.Prelude.{◌≡◌, ⊤, ℕ, List, [], ◌∷◌, ◌++◌, codes, Option, Some, None, Result, Ok, Err}
use Rattle.json.specs.Json.{Json}
use Rattle.garde.specs.Answers.{Answers}
use Rattle.garde.specs.Handlers.{Datum}
use Rattle.garde.specs.Visits.{Visits}
use Rattle.garde.specs.declared.validate_error.ValidateError.{ValidateError}
use Rattle.garde.specs.declared.validate_error.ValidateError.TheVariants.{Report, Memory}
use Rattle.garde_catalog.specs.Catalog.{catalog_text}
use Rattle.garde_catalog.specs.Catalogs.{catalog_at, tag_at}
use Rattle.garde_catalog.specs.Forms.{catalog_form_text}
use Rattle.garde_catalog.specs.declared.catalog.Catalog.{Catalog}
use Rattle.garde_form.specs.Spelling.{OfForm}
use Rattle.garde_form.specs.WebForm.{fields_in}
use Rattle.garde_html.specs.declared.form.Form.{Form}
use Rattle.garde_html.specs.declared.style.TheConstants as style
use Rattle.garde_report.specs.Report.{Entry}
use Rattle.garde_schema.specs.Forms.{FormTexts}
use Rattle.garde_service.specs.Asked.{IsLanguage}
use Rattle.garde_service.specs.Judged.{Judging}
use Rattle.garde_service.specs.Routes.{Entry as RouteEntry, asked}
use Rattle.garde_service.specs.Said.{language_fields}
use Rattle.garde_service.specs.declared.routes.Asks.TheVariants as asks
use Rattle.garde_service.specs.declared.routes.Media.TheVariants.{WebForm}
use Rattle.garde_service.specs.declared.routes.Sites.{Sites}
use Rattle.garde_service.specs.declared.routes.Wanted.{Wanted}
use Rattle.garde_service.specs.declared.routes.Wanted.TheVariants.{Get, Post}
use Rattle.http.specs.declared.request.Parts.{Parts}
use Rattle.http1.specs.Fields.{Header}
use Rattle.http_server.specs.declared.response.Response.{Response}
use Rattle.http_server.specs.Response.{IsResponse}
use Rattle.use_signup.specs.declared.service.Page.{Page}
use Rattle.use_signup.specs.declared.service.Page.TheVariants as page
use Rattle.use_signup.specs.declared.terms.Words.{Words}
use Rattle.use_signup.specs.declared.texts.Speech.{Speech}
use Rattle.use_signup.specs.declared.texts.Texts.{Texts}
use Rattle.use_signup.specs.Labels.{labelled}
use Rattle.use_signup.specs.Shown.{IsShown, empty_page}
use Rattle.use_signup.specs.Texts.{texts_at}

-- What is said in a language: the texts of faults of form and of rules, what the program says besides, and the tag.
pub record Voice : Type 0 where
  pub form_text : FormTexts
  pub text : Datum → List ℕ
  pub texts : Texts
  pub tag : List ℕ

-- what is said by a catalog, under this tag, with these texts besides, which label the fields
abbrev pub voice : Catalog → List ℕ → Texts → Voice
voice catalog tag texts = record {
  form_text = λ fault. catalog_form_text catalog fault;
  text = λ datum. catalog_text catalog (labelled texts.form.fields.now datum);
  texts = texts;
  tag = tag;
}

-- the same in the language of this place, or in the one for where none is asked for
abbrev pub voice_at : Speech → Option ℕ → Voice
voice_at speech place =
    voice (catalog_at speech.catalogs.now place) (tag_at speech.catalogs.now place) (texts_at speech.texts.now speech.otherwise.now place)

-- what a visit of the object of a form finds, with these words
abbrev pub FormVisits : Type 1
FormVisits = Words → FormTexts → Json → Visits

-- the name and the text of each field of a form
abbrev pub FieldTexts : Type 0
FieldTexts = List (List ℕ × List ℕ)

-- this is the result of reading these fields, with these words and these texts of faults of form and of rules
abbrev pub ReadsFields : FormVisits → Words → FormTexts → (Datum → List ℕ) → FieldTexts → Result (Unit {0}) ValidateError → Type 0
ReadsFields visits words form_text text fields read =
    OfForm (codes "topics" ∷ []) fields (λ j. Answers (visits words form_text j) text read)

-- this is the result of reading the fields of this body
abbrev pub Reads : FormVisits → Voice → List ℕ → Result (Unit {0}) ValidateError → Type 0
Reads visits voice body read = ReadsFields visits voice.texts.words voice.form_text voice.text (fields_in body) read

-- what a browser does not do with a page
abbrev pub guard_fields : List Header
guard_fields =
    (codes "content-security-policy", style.POLICY.now) ∷ (codes "x-content-type-options", codes "nosniff")
    ∷ (codes "referrer-policy", codes "same-origin") ∷ (codes "cache-control", codes "no-store") ∷ []

-- the fields of a page in the language of this tag
abbrev pub page_fields : List ℕ → List Header
page_fields tag = (codes "content-type", codes "text/html; charset=utf-8") ∷ (language_fields tag ++ guard_fields)

-- How the result of reading these fields is answered, by this form and these texts, in the language of this tag: 303 where there is no
-- fault, or 422 with the page of the fields and of the report.
abbrev pub Tells : Form → (Datum → List ℕ) → List ℕ → FieldTexts → Result (Unit {0}) ValidateError → Response → Type 0
Tells form text tag fields (Ok done) response = IsResponse 303 ((codes "location", codes "/thanks") ∷ []) [] response
Tells form text tag fields (Err (Report report)) response =
    (html : List ℕ) × IsShown form text fields report html × IsResponse 422 (page_fields tag) html response
Tells form text tag fields (Err Memory) response = ⊥

-- the response tells the result of reading this body
abbrev pub Judges : FormVisits → Voice → List ℕ → Response → Type 0
Judges visits voice body response =
    (read : Result (Unit {0}) ValidateError) × Reads visits voice body read
    × Tells voice.texts.form voice.text voice.tag (fields_in body) read response

-- this holds in the language that the request asks for
abbrev pub InLanguage : Speech → Parts → (Voice → Type 0) → Type 0
InLanguage speech head holds = (place : Option ℕ) × IsLanguage speech.catalogs.now place head × holds (voice_at speech place)

-- the routes, where these sites may send forms
abbrev pub routes : Sites → List (RouteEntry Page (Unit {0}))
routes sites =
    record { path = codes "/"; get = Some page.Form; post = Some (record { media = WebForm; sites = sites; answer = tt }) }
    ∷ record { path = codes "/thanks"; get = Some page.Thanks; post = None } ∷ []

-- what is given to a request with this head and this body
abbrev pub Gives : FormVisits → Speech → Wanted Page (Unit {0}) → Parts → List ℕ → Response → Type 0
Gives visits speech (Get page.Form) head body response =
    InLanguage speech head (λ said. IsResponse 200 (page_fields said.tag) (empty_page said.texts.form) response)
Gives visits speech (Get page.Thanks) head body response =
    InLanguage speech head (λ said. IsResponse 200 (page_fields said.tag) said.texts.thanks.now response)
Gives visits speech (Post form) head body response = InLanguage speech head (λ said. Judges visits said body response)

-- Forms are judged so: a valid one is answered with 303, and one with faults with the page of its fields and of its report.
abbrev pub judging : FormVisits → Sites → Speech → Judging
judging visits sites speech = record {
  by = Option ℕ;
  asks = λ place head. (asked (routes sites) head ≡ asks.Answer (Post tt)) × IsLanguage speech.catalogs.now place head;
  is_valid = λ place body. Reads visits (voice_at speech place) body (Ok tt);
  is_accepted = λ place body status. status ≡ 303;
  report = List Entry;
  has_report = λ place body report. Reads visits (voice_at speech place) body (Err (Report report));
  is_text = λ place body report text.
      IsShown (voice_at speech place).texts.form (voice_at speech place).text (fields_in body) report text;
  is_unread = λ place body. ⊥;
  is_short = λ place body. ⊤;
  is_success = λ head status. status ≡ 303;
}
