use Rattle.garde_html.proofs.controls.put_typed_area.Goals as goal

-- the text is the one that was typed
pub returns : goal.returns
returns c = rw c.typed_text.ensures at c.put_area.ensures
