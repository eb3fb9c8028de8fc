use Rattle.std.proofs.Common.{refl}
use Rattle.std.proofs.lemmas.Grind.{put_two}
use Rattle.garde_html.proofs.Entities.{more_text}
use Rattle.garde_html.proofs.text.write_text.Goals as goal

-- one character more is written
pub loop-c-preserved : goal.loop-c-preserved
loop-c-preserved g c = λ plain.
    let so_far = c.loop-c.invariant plain in
    put_two _ _ _ _ _ _ _ so_far (c.in_ok-write_char.ensures so_far.plain refl) (more_text c.loop-c.yielded c.in-Some.c)
