-- One byte of the scan.
use Rattle.std.proofs.Common.{◌≡◌, ℕ, ◌+◌, ◌<◌, List, [], ◌∷◌, ◌++◌, length, drop, get_or, Bool, true, false, cond, sym, ap, ◌∙◌, subst, append_assoc, arith, ◌≤◌, ◌==◌}
use Rattle.std.proofs.lemmas.List.{at_drop_more}
use Rattle.garde_tape.specs.declared.place.Place.{Place}
use Rattle.garde_places.specs.declared.lex.Mode.{Mode}
use Rattle.garde_tape.specs.Place.{goes_on, past}
use Rattle.garde_places.specs.Lex.{begins_at, mode_after}
use Rattle.garde_places.specs.Scan.{put_if, spots}

put_before : (b : Bool) (here : Place) (found ps : List Place) → (found ++ put_if b here []) ++ ps ≡ found ++ put_if b here ps
put_before true here found ps = append_assoc found (here ∷ []) ps
put_before false here found ps = append_assoc found [] ps

-- a byte more is at most one line or one column more
past_if : (p : Place) (a b : Bool) (m : ℕ) → p.line ≤ m → p.column ≤ m
    → let q : Place = cond a (record { line = p.line + 1; column = 1 }) (cond b p (record { line = p.line; column = p.column + 1 })) in (q.line ≤ m + 1) × (q.column ≤ m + 1)
past_if p true b m line column = (omega (arith, line), omega arith)
past_if p false true m line column = (omega (arith, line), omega (arith, column))
past_if p false false m line column = (omega (arith, line), omega (arith, column))

pub past_within : (p q : Place) (x m : ℕ) → q ≡ past p x → p.line ≤ m → p.column ≤ m → (q.line ≤ m + 1) × (q.column ≤ m + 1)
past_within p q x m is line column = subst (λ q. (q.line ≤ m + 1) × (q.column ≤ m + 1)) (sym is) (past_if p (x == 10) (goes_on x) m line column)

-- what was found and the places of what is left, before and after a byte
pub scanned : (b : Bool) (m m' : Mode) (here here' : Place) (found found' : List Place) (bytes text : List ℕ) (i : ℕ) → bytes ≡ text → i < length bytes → begins_at m (get_or bytes i 0) ≡ b → m' ≡ mode_after m (get_or bytes i 0) → here' ≡ past here (get_or bytes i 0) → found' ≡ found ++ put_if b here [] → found' ++ spots m' here' (drop (i + 1) text) ≡ found ++ spots m here (drop i text)
scanned b m m' here here' found found' bytes text i same lt is-b is-m is-h is-f =
    let rest = drop (i + 1) text in
    let next : ℕ → List Place = λ x. found ++ put_if (begins_at m x) here (spots (mode_after m x) (past here x) rest) in
    ap (λ f. f ++ spots m' here' rest) is-f
    ∙ put_before b here found (spots m' here' rest)
    ∙ ap (λ b. found ++ put_if b here (spots m' here' rest)) (sym is-b)
    ∙ ap (λ n. found ++ put_if (begins_at m (get_or bytes i 0)) here (spots n here' rest)) is-m
    ∙ ap (λ p. found ++ put_if (begins_at m (get_or bytes i 0)) here (spots (mode_after m (get_or bytes i 0)) p rest)) is-h
    ∙ ap (λ t. next (get_or t i 0)) same
    ∙ ap (λ ps. found ++ ps) (sym (at_drop_more (λ xs. spots m here xs) text i 0 (subst (λ t. i < length t) same lt)))
