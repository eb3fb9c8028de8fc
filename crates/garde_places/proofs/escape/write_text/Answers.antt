use Rattle.std.proofs.Common.{◌++◌, [], ◌∷◌, refl, sym, ap, ◌∙◌, append-nil}
use Rattle.std.specs.List.{flat_map}
use Rattle.std.proofs.Output.{has_written_of_eq}
use Rattle.std.proofs.lemmas.Grind.{put_two, flat_map-append}
use Rattle.std.proofs.lemmas.Iterator.{YieldsList-from_chars}
use Rattle.std.proofs.lemmas.Iterator.Consumers.{YieldsList-end}
use Rattle.std.proofs.lemmas.List.{map-id}
use Rattle.garde_places.specs.Escape.{written_char}
use Rattle.garde_places.proofs.escape.write_text.Goals as goal

-- one character more is written
pub loop-c-preserved : goal.loop-c-preserved
loop-c-preserved g c = λ plain.
    let so_far = c.loop-c.invariant plain in
    put_two _ _ _ _ _ _ _ so_far (c.in_ok-write_char.ensures so_far.plain refl) (sym (
    flat_map-append (written_char c.args.escape) c.loop-c.yielded (c.in-Some.c ∷ [])
    ∙ ap (λ bs. flat_map (written_char c.args.escape) c.loop-c.yielded ++ bs) (append-nil ((written_char c.args.escape) c.in-Some.c))))

-- the characters are those of the text
pub returns : goal.returns
returns g c = λ plain ok.
    let all = YieldsList-end (YieldsList-from_chars c.args.text.now c.utf8.text cc) c.loop-c.yielded _ c.loop-c.yielded_by _ _ c.in-None.is c.next.ensures.steps in
    has_written_of_eq _ _ _ _ _ (ap (flat_map (written_char c.args.escape)) (sym (map-id c.loop-c.yielded) ∙ all.0)) (c.loop-c.invariant plain)
