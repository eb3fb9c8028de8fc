use Rattle.std.proofs.Common.{◌≡◌, ℕ, ◌⊎◌, List, [], ◌∷◌, ◌++◌, codes, Result, Ok, Err, ap, ◌∙◌, inl, inr}
use Rattle.std.specs.Prelude.{OnOk, OnErr}
use Rattle.httpdate.specs.Date.{date_text}
use Rattle.http_server.specs.Response.{fields_of}
use Rattle.garde_service.proofs.date.put_date.Goals as goal

-- what holds at an error, or what holds at success
either : {A : Type 0} {E : Type 0} (r : Result A E) (done failed : Type 0) → OnOk r done → OnErr r failed → failed ⊎ done
either (Ok _) done failed at_ok at_err = inr at_ok
either (Err _) done failed at_ok at_err = inl at_err

pub returns-in-Ok : goal.returns-in-Ok
returns-in-Ok c =
    let text : c.in-Ok.value.bytes ≡ date_text c.in-Some.date = ap (λ v. v.bytes) c.in-Ok.ensures.ok ∙ c.to_bytes.ensures in (
      c.add_header.ensures.status,
      c.add_header.ensures.body,
      elim (either c.add_header.result _ _ c.add_header.ensures.headers c.add_header.ensures.kept) [
        | inl same ↦ inl same
        | inr more ↦ inr (
          c.in-Some.date,
          c.in-Some.is,
          more ∙ ap (λ (b : List ℕ). fields_of c.args.response.now ++ (codes "date", b) ∷ []) text,
        )
      ],
    )
