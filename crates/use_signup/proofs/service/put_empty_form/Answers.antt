use Rattle.use_signup.proofs.service.put_empty_form.Goals as goal

-- the page is the one of the texts that the request asks for
pub returns : goal.returns
returns c = (
  c.language_of-place.result,
  c.language_of-place.ensures,
  rw (c.tag-tag.ensures, c.as_str.ensures.value, c.in_ok-html.ensures, c.texts-texts.ensures) at c.in_ok-put_page.ensures,
)
