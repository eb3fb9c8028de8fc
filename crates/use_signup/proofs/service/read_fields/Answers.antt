use Rattle.use_signup.proofs.service.read_fields.Goals as goal

pub returns-in-Ok : goal.returns-in-Ok
returns-in-Ok c known = c.in-Ok.ensures.answer (λ e. let q = e in cc)

pub returns-in-Err : goal.returns-in-Err
returns-in-Err c known = c.in-Err.ensures.answer (λ e. known (let q = e in cc))
