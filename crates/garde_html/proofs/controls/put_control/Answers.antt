use Rattle.garde_html.proofs.controls.put_control.Goals as goal

-- the field is a line
pub returns-in-Line : goal.returns-in-Line
returns-in-Line c = rw c.in-Line.is c.put_typed.ensures

-- the field is a password
pub returns-in-Password : goal.returns-in-Password
returns-in-Password c = rw c.in-Password.is c.put_line.ensures
