-- What is found where at most so many faults are asked for, and what is written of it.
use Rattle.std.proofs.Common.{◌≡◌, ℕ, ◌≤◌, Bool, true, false, ◌||◌, List, [], ◌∷◌, ◌++◌, length, Option, Some, None, Err, refl, ap, sym, subst, ◌∙◌, arith}
use Rattle.std.proofs.lemmas.Bool.{true≢false, lt-ltb, le-ltb}
use Rattle.std.proofs.lemmas.List.{take_all}
use Rattle.garde.specs.Fields.{Visits}
use Rattle.garde.specs.Answers.{AnswersFirst}
use Rattle.garde.specs.Words.{Entry, default_text}
use Rattle.garde.specs.Tree.{Tree, nothing, fault, under, bears, flat}
use Rattle.garde.specs.Trees.{NoneBears}
use Rattle.garde.specs.declared.first_error.FirstError.{FirstError}
use Rattle.garde.specs.declared.first_error.FirstError.TheVariants as errors
use Rattle.garde_check.specs.declared.mode.Command.{Command}
use Rattle.garde_check.specs.declared.outcome.Outcome.{Outcome}
use Rattle.garde_check.specs.declared.outcome.Outcome.TheVariants.{Valid, Faults}
use Rattle.garde_check.specs.Form.{told_text}
use Rattle.garde_check.specs.Tasks.{Finds, FindsFirst}

or_false : (x y : Bool) → (x || y) ≡ false → (x ≡ false) × (y ≡ false)
or_false true y e = absurd (true≢false e)
or_false false y e = (refl, e)

-- a tree without a fault gives none
none_in : (p : _) (t : Tree) → bears t ≡ false → flat default_text p t ≡ []
none_in p nothing e = refl
none_in p (fault f t) e = absurd (true≢false e)
none_in p (under k s t) e =
    let parts = or_false (bears s) (bears t) e in
    rw (none_in (p ++ k ∷ []) s parts.0) (none_in p t parts.1)

-- a value without a fault
pub finds_none : (visits : Visits) (most : ℕ) (report : List Entry) → report ≡ [] → NoneBears visits.trees → FindsFirst visits (Some most) Valid report None None
finds_none visits most report empty none =
    let (t, v) = visits.has_tree in
    let silent : bears t ≡ false = none t v in
    let all : flat default_text [] t ≡ [] = none_in [] t silent in
    let few : length (flat default_text [] t) ≤ most = omega (arith, ap length all) in
    (t, v, empty ∙ sym all ∙ sym (take_all most (flat default_text [] t) few), rw (le-ltb most (length (flat default_text [] t)) few) refl, refl, (λ _. silent, λ _. refl))

-- a value with no more faults than were asked for
pub finds_all : (visits : Visits) (most : ℕ) (error : FirstError) {report : _} → error ≡ errors.All report → AnswersFirst visits default_text most (Err error) → FindsFirst visits (Some most) Faults report None None
finds_all visits most error {report} is told =
    let (short, (t, v, b, same)) = subst (λ e. AnswersFirst visits default_text most (Err e)) is told in
    let few : length (flat default_text [] t) ≤ most = subst (λ (ls : List Entry). length ls ≤ most) same short in
    (t, v, same ∙ sym (take_all most (flat default_text [] t) few), rw (le-ltb most (length (flat default_text [] t)) few) refl, refl, (λ e. cc, λ e. absurd (true≢false (sym b ∙ e))))

-- a value with more
pub finds_first : (visits : Visits) (most : ℕ) (error : FirstError) {report : _} → error ≡ errors.First report → AnswersFirst visits default_text most (Err error) → FindsFirst visits (Some most) Faults report (Some most) None
finds_first visits most error {report} is told =
    let (t, v, (more, same)) = subst (λ e. AnswersFirst visits default_text most (Err e)) is told in
    (t, v, same, rw (lt-ltb most (length (flat default_text [] t)) more) refl, refl, (λ e. cc, λ e. let none = ap length (none_in [] t e) in absurd (omega (arith, none, more))))

-- what is written of the faults that were found is the output of a tree
pub written : (visits : Visits) (command : Command) (most : Option ℕ) (outcome : Outcome) (report : List Entry) (more count : Option ℕ) (text : List ℕ) → FindsFirst visits most outcome report more count → text ≡ told_text command report more count → Finds visits command most outcome text
written visits command most outcome report more count text (t, v, first, others, nodes, valid) told =
    (t, v, (told ∙ (λ i. told_text command (first i) (others i) (nodes i)), valid))
