-- No answer hands the connection over, and the service keeps what it promises of forms.
use Rattle.std.proofs.Common.{◌≡◌, ◌≢◌, ◌⊎◌, ℕ, Bool, List, [], ◌∷◌, codes, map, Option, Some, None, Result, Ok, Err, refl, sym, ap, subst, ◌∙◌, arith, cond, ◌||◌, bytes_eq, inl, inr}
use Rattle.std.specs.Borrow.{Bor}
use Rattle.std.proofs.lemmas.Bool.{true≢false}
use Rattle.json.specs.Json.{Json, string, array, object, Members, no_members, member}
use Rattle.garde.specs.Answers.{Answers}
use Rattle.garde.specs.declared.validate_error.ValidateError.{ValidateError}
use Rattle.garde.specs.declared.validate_error.ValidateError.TheVariants.{Report, Memory}
use Rattle.garde_form.specs.WebForm.{fields_in, first_member, first_of_lists, form_json, is_listed, items_of_texts, members_of_fields, texts_of, value_of, without}
use Rattle.garde_report.specs.Report.{Entry}
use Rattle.garde_service.specs.Author.{is_one_language}
use Rattle.garde_service.specs.Promised.{IsLawful, judged_stays, promised}
use Rattle.garde_service.specs.Answers.{IsAnswerOf}
use Rattle.garde_service.specs.Fits.{Fits}
use Rattle.garde_service.specs.Judged.{IsUnjudged, Judges, JudgesBy, Promises}
use Rattle.garde_service.specs.Routes.{asked}
use Rattle.garde_service.specs.declared.routes.Asks.TheVariants.{Answer}
use Rattle.garde_service.specs.declared.routes.Sites.{Sites}
use Rattle.garde_service.specs.declared.routes.Wanted.{Wanted}
use Rattle.garde_service.specs.declared.routes.Wanted.TheVariants.{Get, Post}
use Rattle.http.specs.declared.request.Parts.{Parts}
use Rattle.http1.specs.Message as Wire
use Rattle.http_server.specs.declared.response.Response.{Response}
use Rattle.use_signup.specs.declared.service.Page.{Page}
use Rattle.use_signup.specs.declared.service.Page.TheVariants as page
use Rattle.use_signup.specs.declared.texts.Speech.{Speech}
use Rattle.use_signup.specs.Answered.{FormVisits, Gives, Reads, Tells, Voice, judging, routes, voice_at}
use Rattle.use_signup.specs.Refused.{page_of}

-- ---- the fields of a body are one object, whatever holds the names of the lists

abbrev Names : Type 0
Names = List (Bor (List ℕ))

abbrev texts : Names → List (List ℕ)
texts names = map (λ (name : Bor (List ℕ)). name.now) names

abbrev head_or : List (List ℕ) → List ℕ
head_or [] = []
head_or (x ∷ xs) = x

abbrev tail_or : List (List ℕ) → List (List ℕ)
tail_or [] = []
tail_or (x ∷ xs) = xs

listed_alike : (one other : Names) → texts one ≡ texts other → (text : List ℕ) → is_listed one text ≡ is_listed other text
listed_alike [] [] e text = refl
listed_alike [] (y ∷ ys) e text = cc
listed_alike (x ∷ xs) [] e text = cc
listed_alike (x ∷ xs) (y ∷ ys) e text =
    ap (λ (name : List ℕ). bytes_eq text name || is_listed xs text) (ap head_or e)
    ∙ ap (λ (b : Bool). bytes_eq text y.now || b) (listed_alike xs ys (ap tail_or e) text)

members_alike : (one other : Names) → texts one ≡ texts other → (all fields : List (List ℕ × List ℕ))
    → members_of_fields one all fields ≡ members_of_fields other all fields
members_alike one other e all [] = refl
members_alike one other e all (f ∷ fs) =
    ap (λ (b : Bool). member f.0 (cond b (array (items_of_texts (texts_of f.0 all))) (string f.1)) (members_of_fields one all fs))
    (listed_alike one other e f.0)
    ∙ ap (λ (ms : Members). member f.0 (value_of other all f.0 f.1) ms) (members_alike one other e all fs)

firsts_alike : (one other : Names) → texts one ≡ texts other → (ms : Members) → first_of_lists one ms ≡ first_of_lists other ms
firsts_alike one other e no_members = refl
firsts_alike one other e (member k j ms) =
    ap (λ (b : Bool). member k j (cond b (without k (first_of_lists one ms)) (first_of_lists one ms))) (listed_alike one other e k)
    ∙ ap (λ (rest : Members). first_member other k j rest) (firsts_alike one other e ms)

object_alike : (one other : Names) → texts one ≡ texts other → (fields : List (List ℕ × List ℕ)) → form_json one fields ≡ form_json other fields
object_alike one other e fields =
    ap (λ (ms : Members). object (first_of_lists one ms)) (members_alike one other e fields fields)
    ∙ ap (λ (ms : Members). object ms) (firsts_alike one other e (members_of_fields other fields fields))

module _ (visits : FormVisits) (sites : Sites) (speech : Speech) where
  -- a body has no fault and a report of none
  clash : (voice : Voice) (body : List ℕ) (report : List Entry) → Reads visits voice body (Ok tt) → Reads visits voice body (Err (Report report)) → ⊥
  clash voice body report none some =
      let found = subst (λ (j : Json). Answers (visits voice.texts.words voice.form_text j) voice.text (Err (Report report)))
      (object_alike some.lists none.lists (some.named ∙ sym none.named) (fields_in body)) some.is in
      true≢false (sym found.2 ∙ none.is found.0 found.1)

  lawful : IsLawful (judging visits sites speech)
  lawful = record {
    one = λ place other head is also. is_one_language speech.catalogs.now place other head is.1 also.1;
    apart = λ place body report valid has. clash (voice_at speech place) body report valid has;
    unread = λ place body short unread. absurd unread;
    answers = λ place body status is. (λ e. omega (arith, e, is), λ e. omega (arith, e, is));
    success = λ head status is. omega (arith, is);
  }

  told : (place : Option ℕ) (body : List ℕ) (r : Response) (read : Result (Unit {0}) ValidateError) → Reads visits (voice_at speech place) body read
      → Tells (voice_at speech place).texts.form (voice_at speech place).text (voice_at speech place).tag (fields_in body) read r
      → JudgesBy (judging visits sites speech) place body r
  told place body r (Ok done) reads tells = inl (reads, tells.status)
  told place body r (Err (Report report)) reads tells =
      inr (inl (report, reads, tells.2.status, (tells.1.0, tells.1.1, tells.2.body ∙ tells.1.2)))
  told place body r (Err Memory) reads tells = absurd tells

  page_status : (shown : Page) (head : Parts) (body : List ℕ) (r : Response) → Gives visits speech (Get shown) head body r → r.status ≡ 200
  page_status page.Form head body r given = given.2.status
  page_status page.Thanks head body r given = given.2.status

  judges : (wanted : Wanted Page (Unit {0})) (head : Parts) (body : List ℕ) (r : Response) → asked (routes sites) head ≡ Answer wanted
      → Gives visits speech wanted head body r
      → Judges (judging visits sites speech) head body r ⊎ IsUnjudged (judging visits sites speech) head r.status
  judges (Get shown) head body r is given =
      let status = page_status shown head body r given in
      inr (λ place asks. let e = sym is ∙ asks.0 in cc, λ e. omega (arith, e, status), λ e. omega (arith, e, status))
  judges (Post tt) head body r is given = inl (given.0, (is, given.1), told given.0 body r given.2.0 given.2.1 given.2.2)

  -- no answer hands the connection over
  pub stays : (wanted : Wanted Page (Unit {0})) (head : Parts) (body : List ℕ) (r : Response) → Gives visits speech wanted head body r → r.status ≢ 101
  stays (Get shown) head body r given = λ e. omega (arith, e, page_status shown head body r given)
  stays (Post form) head body r given =
      judged_stays (judging visits sites speech) lawful given.0 body r (told given.0 body r given.2.0 given.2.1 given.2.2)

  pub kept : (request : Wire.Request) (response : Wire.Response)
      → Fits (IsAnswerOf (routes sites) (Gives visits speech) (λ why. (codes "text/html; charset=utf-8", page_of why))) request response
      → Promises (judging visits sites speech) request response
  kept = promised (routes sites) (Gives visits speech) (λ why. (codes "text/html; charset=utf-8", page_of why)) (judging visits sites speech) lawful
      (λ place head is. (Post tt, is.0)) judges
