-- What is told of a text that a parser reads which may allocate.
use Rattle.std.proofs.Common.{◌≡◌, inl, ℕ, List, Option, Some, None, Result, Ok, Err, refl, sym, ap, subst, ◌∙◌, append-nil, arith, []}
use Rattle.std.specs.Prelude.{option_and_then, OnOk}
use Rattle.std.proofs.lemmas.Option.{none-some}
use Rattle.garde_i18n.specs.Datum.{Datum}
use Rattle.garde_report.specs.Report.{Entry}
use Rattle.garde_report.specs.Trace.{Trace}
use Rattle.garde.specs.Visits.{Visits, Visited, Known, none, only, found, may_allocate, ◌and◌}
use Rattle.garde.specs.Tree.{nothing, ◌then◌}
use Rattle.garde.proofs.Author.{visited_as, visited_stop}
use Rattle.garde_schema.specs.Forms.{formed, refused, Sound}

module _ {text : Datum → List ℕ} {E : Type 0} where
  -- nothing was told, since memory ran out
  silent : {walk : Trace} {old : List Entry} (e : E) → Visited {E = E} (may_allocate none) text walk walk old old (Err e)
  unfolding may_allocate none only
  silent {old = old} e = record {
    ok = tt;
    err = record {
      tree = nothing;
      visited = refl;
      said = [];
      unsaid = [];
      cut = refl;
      report = sym (append-nil old);
      fits = omega arith;
      components = refl;
      limit = refl;
      front = omega arith;
      nodes = omega arith;
      most = omega arith;
    };
    why = inl tt;
  }

  pub no_memory : (a : Visits) {walk : Trace} {old : List Entry} (e : E) → Visited {E = E} (may_allocate a) text walk walk old old (Err e)
  unfolding may_allocate none only ◌and◌
  no_memory a e = visited_as {a = may_allocate none and a} (λ t (x, y, vx, vy, is). subst a.trees (sym (is ∙ ap (λ z. z then y) vx)) vy) (λ h. tt) (visited_stop (may_allocate none) a (silent e) refl refl)

  -- what may allocate besides
  more : (a : Visits) {before after : Trace} {old new : List Entry} {result : Result Unit E} → Visited a text before after old new result → Visited (may_allocate a) text before after old new result
  unfolding may_allocate
  more a told = visited_as {a = a} (λ t v. v) (λ h. tt) told

  module _ {A S : Type 0} (outer : List ℕ) (message : S → List ℕ) (each : A → Visits) (parsed : S → Option A) where
    -- the rules of the value were asked
    pub asked : (o : Option S) (v : A) → Some v ≡ option_and_then parsed o → {before after : Trace} {old new : List Entry} {result : Result Unit E} → Visited (each v) text before after old new result → Visited (may_allocate (formed outer (λ s. formed (message s) each (parsed s)) o)) text before after old new result
    asked None v is told = absurd (none-some v (sym is))
    asked (Some s) v is {before} {after} {old} {new} {result} told = subst (λ p. Visited {E = E} (may_allocate (formed (message s) each p)) text before after old new result) is (more (each v) told)

    -- there is no value
    pub told_none : (o : Option S) → None ≡ option_and_then parsed o → {before after : Trace} {old new : List Entry} {result : Result Unit E} → Visited (formed outer (λ s. refused (message s)) o) text before after old new result → Visited (may_allocate (formed outer (λ s. formed (message s) each (parsed s)) o)) text before after old new result
    told_none None is told = more (refused outer) told
    told_none (Some s) is {before} {after} {old} {new} {result} told = subst (λ p. Visited {E = E} (may_allocate (formed (message s) each p)) text before after old new result) is (more (refused (message s)) told)

-- a fault of form is a fault
refused_is_fault : (message : List ℕ) → Known (may_allocate (refused message)) → ⊥
unfolding Known found may_allocate
refused_is_fault message is = cc

-- of what spells no value a fault is told, and of a value the rules are known
module _ {A S : Type 0} (outer : List ℕ) (message : S → List ℕ) (each : A → Visits) (parsed : S → Option A) where
  of_parsed : (s : S) (p : Option A) → Sound (may_allocate (formed (message s) each p)) (λ v. Known (each v)) p
  unfolding Known may_allocate
  of_parsed s (Some v) = λ known. known
  of_parsed s None = refused_is_fault (message s)

  sound : (o : Option S) → Sound (may_allocate (formed outer (λ s. formed (message s) each (parsed s)) o)) (λ v. Known (each v)) (option_and_then parsed o)
  sound (Some s) = of_parsed s (parsed s)
  sound None = refused_is_fault outer

  pub sound_on : {R E : Type 0} (r : Result R E) (o : Option S) → OnOk r (Sound (may_allocate (formed outer (λ s. formed (message s) each (parsed s)) o)) (λ v. Known (each v)) (option_and_then parsed o))
  sound_on (Ok x) o = sound o
  sound_on (Err e) o = tt
