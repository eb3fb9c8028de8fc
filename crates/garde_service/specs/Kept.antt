-- What an application promises of what it takes.
use Rattle.std.proofs.Common.{◌≡◌, ◌≢◌, ◌<◌, ◌≤◌, ◌⊎◌, ◌^◌, ◌-◌, ℕ, List, length, None, Some, Option, Ok, Err, IsSomeAnd, refl, sym, ap, ◌∙◌, codes, arith, inl, inr}
use Rattle.std.proofs.lemmas.Bool.{true≢false}
use Rattle.json.specs.Json.{Json as JsonValue, document}
use Rattle.garde.specs.Answers.{AnswersFirst}
use Rattle.garde.specs.Handlers.{Datum}
use Rattle.garde.specs.Visits.{Visits}
use Rattle.garde.specs.declared.first_error.FirstError.TheVariants as firsts
use Rattle.garde_catalog.specs.declared.catalogs.Catalogs.{Catalogs}
use Rattle.garde_report.specs.Report.{Entry}
use Rattle.garde_schema.specs.Bytes.{OfDocument, NoDocument}
use Rattle.garde_schema.specs.declared.first_read_error.FirstReadError.{FirstReadError}
use Rattle.garde_schema.specs.declared.first_read_error.FirstReadError.TheVariants.{Parse, All, First, Memory}
use Rattle.garde_tape.specs.Input.{without_mark}
use Rattle.garde_tape.specs.declared.parse_error.ParseError.{ParseError}
use Rattle.garde_tape.specs.declared.parse_error.ParseError.TheVariants as parse
use Rattle.http.specs.declared.request.Parts.{Parts}
use Rattle.http1.specs.Message as Wire
use Rattle.http_server.specs.declared.response.Response.{Response}
use Rattle.garde_service.specs.Answers.{IsAnswerOf}
use Rattle.garde_service.specs.Application.{AsksBy, By, Gives, IsAnswered, ReadsBy, Says, Taking, bytes_of, entries, judging, kind_of, status_of}
use Rattle.garde_service.specs.Fits.{Fits}
use Rattle.garde_service.specs.Json.{JudgesBody, TellsError, voice_at}
use Rattle.garde_service.specs.Judged.{IsUnjudged, Judges, JudgesBy, Promises}
use Rattle.garde_service.specs.Problems.{problem_of}
use Rattle.garde_service.specs.Routes.{asked}
use Rattle.garde_service.specs.declared.application.Answer.{Answer}
use Rattle.garde_service.specs.declared.application.Answer.TheVariants as answers
use Rattle.garde_service.specs.declared.application.Page.{Page}
use Rattle.garde_service.specs.declared.application.Page.TheVariants.{Asked, Empty, Json}
use Rattle.garde_service.specs.declared.routes.Asks.{Asks}
use Rattle.garde_service.specs.declared.routes.Asks.TheVariants as asks
use Rattle.garde_service.specs.declared.routes.Route.{Route}
use Rattle.garde_service.specs.declared.routes.Wanted.{Wanted}
use Rattle.garde_service.specs.declared.routes.Wanted.TheVariants.{Get, Post}
use Rattle.garde_service.specs.Author.{is_one_language}
use Rattle.garde_service.specs.Promised.{IsLawful, judged_stays, promised}

-- no value has a fault and none
clash : (visits : JsonValue → Visits) (text : Datum → List ℕ) (most : ℕ) (report : List Entry) (value : Option JsonValue)
    → IsSomeAnd value (λ j. AnswersFirst (visits j) text most (Ok tt))
    → IsSomeAnd value (λ j. AnswersFirst (visits j) text most (Err (firsts.All report))) → ⊥
clash visits text most report None a b = a
clash visits text most report (Some j) a b = true≢false (sym b.1.2 ∙ a b.1.0 b.1.1)

nothing_of : (P : JsonValue → Type 0) (value : Option JsonValue) → IsSomeAnd value P → value ≡ None → ⊥
nothing_of P None a is = a
nothing_of P (Some j) a is = cc

-- what is a document, and short enough, is not rejected
no_refusal : (P : JsonValue → Type 0) (bytes : List ℕ) (error : ParseError) → OfDocument bytes P → length bytes ≤ 4294967040 → NoDocument bytes error → ⊥
no_refusal P bytes (parse.NotUtf8 place) a short bad = bad.0 a.0
no_refusal P bytes (parse.NotJson place) a short bad = nothing_of P _ a.1 bad.1
no_refusal P bytes (parse.TooDeep place) a short bad = nothing_of P _ a.1 bad.1
no_refusal P bytes (parse.LoneSurrogate place) a short bad = nothing_of P _ a.1 bad.1
no_refusal P bytes parse.TooLong a short bad = omega (arith, short, bad.1)
no_refusal P bytes parse.Memory a short bad = bad

-- the status of an answer
answer_status : (answer : Answer) (r : Response) → Says answer r → r.status ≡ status_of answer
answer_status (answers.Json text) r says = says.status
answer_status answers.NoContent r says = says.status
answer_status answers.Accepted r says = says.status
answer_status answers.Unavailable r says = says.status

apart_status : (answer : Answer) → (status_of answer ≢ 422) × (status_of answer ≢ 101)
apart_status (answers.Json text) = (λ e. omega (arith, e), λ e. omega (arith, e))
apart_status answers.NoContent = (λ e. omega (arith, e), λ e. omega (arith, e))
apart_status answers.Accepted = (λ e. omega (arith, e), λ e. omega (arith, e))
apart_status answers.Unavailable = (λ e. omega (arith, e), λ e. omega (arith, e))

abbrev by_of : {B : Type 0} → Wanted (Page B) B → B → Option ℕ → Parts → By B
by_of wanted kind place head = record { wanted = wanted; kind = kind; place = place; head = head }

same_by : {B : Type 0} (by other : By B) → by.wanted ≡ other.wanted → by.kind ≡ other.kind → by.place ≡ other.place → by.head ≡ other.head → by ≡ other
same_by {B} by other w k p h =
    ap (λ (x : Wanted (Page B) B). by_of x by.kind by.place by.head) w
    ∙ ap (λ (x : B). by_of other.wanted x by.place by.head) k
    ∙ ap (λ (x : Option ℕ). by_of other.wanted other.kind x by.head) p
    ∙ ap (λ (x : Parts). by_of other.wanted other.kind other.place x) h

one_wanted : {B : Type 0} (a b : Wanted (Page B) B) (found : Asks (Wanted (Page B) B)) → found ≡ asks.Answer a → found ≡ asks.Answer b → a ≡ b
one_wanted a b found is also = let e = sym is ∙ also in cc

one_kind : {B : Type 0} (a b : B) (x y : Wanted (Page B) B) → x ≡ y → kind_of x ≡ Some a → kind_of y ≡ Some b → a ≡ b
one_kind a b x y same is also = let e = sym is ∙ (ap kind_of same ∙ also) in cc

module _ {B : Type 0} (routes : List (Route (Page B) B)) (takes : B → Taking) (title : List ℕ) (catalogs : Catalogs) where
  one : (by other : By B) (head : Parts) → AsksBy routes takes title catalogs by head → AsksBy routes takes title catalogs other head → by ≡ other
  one by other head is also =
      let wanted = one_wanted by.wanted other.wanted (asked (entries routes) head) is.1 also.1 in
      same_by by other wanted (one_kind by.kind other.kind by.wanted other.wanted wanted is.2 also.2)
      (is_one_language catalogs by.place other.place head is.3 also.3) (sym is.0 ∙ also.0)

  succeeds : (head : Parts) (status : ℕ) → (judging routes takes title catalogs).is_success head status → status < 400
  succeeds head status is =
      elim is [ inl e ↦ omega (arith, e) | inr rest ↦ elim rest [ inl e ↦ omega (arith, e) | inr shown ↦ omega (arith, shown.0) ] ]

  lawful : IsLawful (judging routes takes title catalogs)
  lawful = record {
    one = one;
    apart = λ by body report valid has. clash (λ j. (takes by.kind).spelling.visits (voice_at catalogs by.place).form_text j)
        (voice_at catalogs by.place).text (2 ^ 64 - 1) report (document (without_mark (bytes_of routes by.wanted by.head body))) valid.1 has.1;
    unread = λ by body short unread.
        (λ valid. no_refusal _ _ unread.0 valid short unread.1, λ report has. no_refusal _ _ unread.0 has short unread.1);
    answers = λ by body status is. (λ e. (apart_status is.0).0 (sym is.2 ∙ e), λ e. (apart_status is.0).1 (sym is.2 ∙ e));
    success = succeeds;
  }

  told : (by : By B) (body : List ℕ) (r : Response) (error : FirstReadError) → ReadsBy routes takes title catalogs by body (Err error)
      → TellsError title (voice_at catalogs by.place) error r → JudgesBy (judging routes takes title catalogs) by body r
  told by body r (All report) reads tells = inr (inl (report, reads, tells.status, tells.body))
  told by body r (Parse error) reads tells = inr (inr ((error, reads), tells.status))
  told by body r (First report) reads tells = absurd tells
  told by body r Memory reads tells = absurd tells

  -- an answer to the bytes that are judged judges the request
  judged_by : (by : By B) (body : List ℕ) (r : Response)
      → JudgesBody (takes by.kind).spelling title (voice_at catalogs by.place) (λ r. IsAnswered (takes by.kind) (bytes_of routes by.wanted by.head body) r)
      (bytes_of routes by.wanted by.head body) r
      → JudgesBy (judging routes takes title catalogs) by body r
  judged_by by body r judges =
      elim judges [
        | inl valid ↦ inl (valid.0, (valid.1.0, valid.1.1, answer_status valid.1.0 r valid.1.2))
        | inr error ↦ told by body r error.0 error.1 error.2
      ]

  no_success : (head : Parts) (status : ℕ) → status ≡ 200 → ((by : By B) → AsksBy routes takes title catalogs by head → ⊥)
      → (judging routes takes title catalogs).is_success head status → ⊥
  no_success head status is none either =
      elim either [ inl e ↦ omega (arith, e, is) | inr rest ↦ elim rest [ inl e ↦ omega (arith, e, is) | inr shown ↦ none shown.1.0 shown.1.1 ] ]

  -- what has no kind is not judged
  unasked : (a : Wanted (Page B) B) (head : Parts) → asked (entries routes) head ≡ asks.Answer a → kind_of a ≡ None
      → (by : By B) → AsksBy routes takes title catalogs by head → ⊥
  unasked a head is none by asks =
      let same = one_wanted a by.wanted (asked (entries routes) head) is asks.1 in
      let e = sym none ∙ (ap kind_of same ∙ asks.2) in cc

  unjudged : (a : Wanted (Page B) B) (head : Parts) (r : Response) → asked (entries routes) head ≡ asks.Answer a → kind_of a ≡ None → r.status ≡ 200
      → IsUnjudged (judging routes takes title catalogs) head r.status
  unjudged a head r is none status =
      (unasked a head is none, no_success head r.status status (unasked a head is none), λ e. omega (arith, e, status))

  judges : (a : Wanted (Page B) B) (head : Parts) (body : List ℕ) (r : Response) → asked (entries routes) head ≡ asks.Answer a
      → Gives routes takes title catalogs a head body r
      → Judges (judging routes takes title catalogs) head body r ⊎ IsUnjudged (judging routes takes title catalogs) head r.status
  judges (Get Empty) head body r is given = inr (unjudged (Get Empty) head r is refl given.status)
  judges (Get (Json text)) head body r is given = inr (unjudged (Get (Json text)) head r is refl given.status)
  judges (Get (Asked kind)) head body r is given =
      let by = by_of (Get (Asked kind)) kind given.0 head in
      inl (by, (refl, is, refl, given.1), judged_by by body r given.2)
  judges (Post kind) head body r is given =
      let by = by_of (Post kind) kind given.0 head in
      inl (by, (refl, is, refl, given.1), judged_by by body r given.2)

  -- no answer hands the connection over
  pub stays : (a : Wanted (Page B) B) (head : Parts) (body : List ℕ) (r : Response) → Gives routes takes title catalogs a head body r → r.status ≢ 101
  stays (Get Empty) head body r given = λ e. omega (arith, e, given.status)
  stays (Get (Json text)) head body r given = λ e. omega (arith, e, given.status)
  stays (Get (Asked kind)) head body r given =
      let by = by_of (Get (Asked kind)) kind given.0 head in
      judged_stays (judging routes takes title catalogs) lawful by body r (judged_by by body r given.2)
  stays (Post kind) head body r given =
      let by = by_of (Post kind) kind given.0 head in
      judged_stays (judging routes takes title catalogs) lawful by body r (judged_by by body r given.2)

  pub kept : (request : Wire.Request) (response : Wire.Response)
      → Fits (IsAnswerOf (entries routes) (Gives routes takes title catalogs) (λ why. (codes "application/problem+json", problem_of why))) request response
      → Promises (judging routes takes title catalogs) request response
  kept = promised (entries routes) (Gives routes takes title catalogs) (λ why. (codes "application/problem+json", problem_of why))
      (judging routes takes title catalogs) lawful (λ by head is. (by.wanted, is.1)) judges
