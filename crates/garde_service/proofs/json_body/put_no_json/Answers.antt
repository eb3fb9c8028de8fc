use Rattle.garde_service.proofs.json_body.put_no_json.Goals as goal

pub returns : goal.returns
returns c = rw (c.as_str.ensures.value, c.in_ok-detail.ensures, c.new-report.ensures) at c.put_reason.ensures
