use Rattle.garde_service.proofs.json_body.put_report.Goals as goal

pub returns : goal.returns
returns c = rw (c.as_str.ensures.value, c.in_ok-text.ensures) at c.put_in_language.ensures
