-- A service that judges requests keeps what it promises of them.
use Rattle.std.proofs.Common.{◌≡◌, ◌≢◌, ◌<◌, ◌⊎◌, arith, ℕ, List, refl, sym, ap, subst, ◌∙◌, inl, inr}
use Rattle.http.specs.declared.request.Parts.{Parts}
use Rattle.http1.specs.Message as Wire
use Rattle.http_server.specs.declared.response.Response.{Response}
use Rattle.garde_service.specs.Answers.{Gives, GivesAsked, IsAnswerOf}
use Rattle.garde_service.specs.Ending.{Rejects}
use Rattle.garde_service.specs.Fits.{Fits}
use Rattle.garde_service.specs.Judged.{IsPromised, IsUnjudged, Judges, JudgesBy, Judging, Promises}
use Rattle.garde_service.specs.Routes.{Entry, asked}
use Rattle.garde_service.specs.declared.routes.Asks.{Asks}
use Rattle.garde_service.specs.declared.routes.Asks.TheVariants.{Answer, Rejection}
use Rattle.garde_service.specs.declared.routes.Wanted.{Wanted}
use Rattle.garde_service.specs.Author.{is_error, rejected_status}

-- A request asks for one judgement at most. None is valid and has faults, and a short one that is unread is neither.
pub record IsLawful (j : Judging) : Type 0 where
  pub one : (by other : j.by) (head : Parts) → j.asks by head → j.asks other head → by ≡ other
  pub apart : (by : j.by) (body : List ℕ) (report : j.report) → j.is_valid by body → j.has_report by body report → ⊥
  pub unread : (by : j.by) (body : List ℕ) → j.is_short by body → j.is_unread by body
      → (j.is_valid by body → ⊥) × ((report : j.report) → j.has_report by body report → ⊥)
  pub answers : (by : j.by) (body : List ℕ) (status : ℕ) → j.is_accepted by body status → (status ≢ 422) × (status ≢ 101)
  pub success : (head : Parts) (status : ℕ) → j.is_success head status → status < 400

-- what is judged hands no connection over
pub judged_stays : (j : Judging) → IsLawful j → (by : j.by) (body : List ℕ) (r : Response) → JudgesBy j by body r → r.status ≢ 101
judged_stays j lawful by body r judged =
    elim judged [
      | inl valid ↦ (lawful.answers by body r.status valid.1).1
      | inr rest ↦ elim rest [ inl faulty ↦ λ e. omega (arith, e, faulty.2) | inr unread ↦ λ e. omega (arith, e, unread.1) ]
    ]

-- What each route gives judges the request, or the request did not ask for that.
module _ {G P : Type 0} (routes : List (Entry G P)) (gives : Gives (Wanted G P)) (rejects : Rejects) (j : Judging) (lawful : IsLawful j)
    (is_asked : (by : j.by) (head : Parts) → j.asks by head → (a : Wanted G P) × (asked routes head ≡ Answer a))
    (judges : (a : Wanted G P) (head : Parts) (body : List ℕ) (r : Response) → asked routes head ≡ Answer a → gives a head body r
    → Judges j head body r ⊎ IsUnjudged j head r.status) where
  -- what is not judged has another status
  unjudged : (head : Parts) (body : List ℕ) (r : Response) → IsUnjudged j head r.status → IsPromised j head body r.status r.body.items
  unjudged head body r apart = record {
    accepts = λ e. absurd (apart.1 e);
    reports = λ e. absurd (apart.2 e);
    accepts_each = λ by asks. absurd (apart.0 by asks);
    reports_each = λ by asks. absurd (apart.0 by asks);
  }

  judged : (head : Parts) (body : List ℕ) (r : Response) (by : j.by) → j.asks by head → JudgesBy j by body r
      → IsPromised j head body r.status r.body.items
  judged head body r by asks judged_so =
      elim judged_so [
        | inl valid ↦ record {
          accepts = λ e. record { by = by; is_asked = asks; is_valid = valid.0; is_accepted = valid.1 };
          reports = λ e. absurd ((lawful.answers by body r.status valid.1).0 e);
          accepts_each = λ other same short is. subst (λ (p : j.by). j.is_accepted p body r.status) (lawful.one by other head asks same) valid.1;
          reports_each = λ other same short report has. absurd (lawful.apart by body report valid.0
              (subst (λ (p : j.by). j.has_report p body report) (lawful.one other by head same asks) has));
        }
        | inr rest ↦ elim rest [
          | inl faulty ↦ record {
            accepts = λ e. absurd (omega (arith, lawful.success head r.status e, faulty.2));
            reports = λ e. record { by = by; is_asked = asks; report = faulty.0; is_report = faulty.1; is_text = faulty.3 };
            accepts_each = λ other same short is. absurd (lawful.apart by body faulty.0
                (subst (λ (p : j.by). j.is_valid p body) (lawful.one other by head same asks) is) faulty.1);
            reports_each = λ other same short report has. faulty.2;
          }
          | inr unread ↦ record {
            accepts = λ e. absurd (omega (arith, lawful.success head r.status e, unread.1));
            reports = λ e. absurd (omega (arith, unread.1, e));
            accepts_each = λ other same short is. absurd (
                (lawful.unread by body (subst (λ (p : j.by). j.is_short p body) (lawful.one other by head same asks) short) unread.0).0
                (subst (λ (p : j.by). j.is_valid p body) (lawful.one other by head same asks) is));
            reports_each = λ other same short report has. absurd (
                (lawful.unread by body (subst (λ (p : j.by). j.is_short p body) (lawful.one other by head same asks) short) unread.0).1 report
                (subst (λ (p : j.by). j.has_report p body report) (lawful.one other by head same asks) has));
          }
        ]
      ]

  by_asks : (asks : Asks (Wanted G P)) (given : Response) (head : Parts) (body : List ℕ) (r : Response) → asked routes head ≡ asks
      → GivesAsked gives rejects given asks head body r → IsPromised j head body r.status r.body.items
  by_asks (Answer a) given head body r is x =
      let either = judges a head body r is x in
      elim either [ inl it ↦ judged head body r it.0 it.1 it.2 | inr apart ↦ unjudged head body r apart ]
  by_asks (Rejection why offer) given head body r is x =
      let status = rejected_status (rejects why) given why offer r x in
      unjudged head body r (
        λ by asks. let e = sym is ∙ (is_asked by head asks).1 in cc,
        λ e. omega (arith, lawful.success head r.status e, status, (is_error why).0),
        λ e. (is_error why).1 (sym status ∙ e),
      )

  -- the answer with its date says the same
  answered : (head : Parts) (body : List ℕ) (r : Response) → IsAnswerOf routes gives rejects head body r
      → IsPromised j head body r.status r.body.items
  answered head body r x =
      subst (λ (n : ℕ). IsPromised j head body n r.body.items) (sym x.is_dated.0)
      (subst (λ (t : List ℕ). IsPromised j head body x.plain.status t) (ap (λ b. b.items) (sym x.is_dated.1))
      (by_asks (asked routes head) x.given head body x.plain refl x.is_given))

  pub promised : (request : Wire.Request) (response : Wire.Response) → Fits (IsAnswerOf routes gives rejects) request response
      → Promises j request response
  promised request response x = (
    x.head,
    x.are_parts,
    (
      x.answer.body.items,
      x.body,
      subst (λ (n : ℕ). IsPromised j x.head request.body.bytes n x.answer.body.items) (sym x.status)
          (answered x.head request.body.bytes x.answer x.is_answered),
    ),
  )
