use Rattle.std.proofs.Common.{◌≡◌, ◌++◌, ◌∷◌, ◌+◌, ◌<◌, ◌∙◌, ℕ, List, [], length, take, take_all, Result, Ok, Err, IfErr, IsErrAnd, get_or, inl, inr, refl, subst, sym, ap}
use Rattle.std.specs.List.{AllZip}
use Rattle.std.proofs.lemmas.List.{take_more}
use Rattle.std.proofs.lemmas.Option.{get_or_from_slice_get, slice_get-get_or}
use Rattle.garde_catalog.specs.Catalogs.{AddsLanguage, IsOfLanguage}
use Rattle.garde_catalog.specs.declared.catalog.Catalog.{Catalog}
use Rattle.garde_catalog.specs.declared.language.Language.{Language}
use Rattle.garde_catalog.proofs.SoFar.{no_language}
use Rattle.garde_catalog.proofs.catalogs.Catalogs.new.Goals as goal

-- one more pair
zip_push : {A B : Type 0} (R : A → B → Type 0) (xs : List A) (ys : List B) (x : A) (y : B) → AllZip R xs ys → R x y
    → AllZip R (xs ++ (x ∷ [])) (ys ++ (y ∷ []))
zip_push R [] [] x y h r = (r, tt)
zip_push R [] (z ∷ ys) x y h r = absurd h
zip_push R (w ∷ xs) [] x y h r = absurd h
zip_push R (w ∷ xs) (z ∷ ys) x y h r = (h.0, zip_push R xs ys x y h.1 r)

-- the next catalog is that of the next language
next : (offered : List Language) (i : ℕ) (d : Language) (languages later : List Language) (catalogs more : List Catalog) → i < length offered
    → AddsLanguage (get_or offered i d) languages later catalogs more → languages ≡ take i offered
    → AllZip IsOfLanguage (take i offered) catalogs
    → (later ≡ take (i + 1) offered) × AllZip IsOfLanguage (take (i + 1) offered) more
next offered i d languages later catalogs more low adds is each = (
  adds.0 ∙ ap (λ l. l ++ get_or offered i d ∷ []) is ∙ sym (take_more offered i d low),
  rw (adds.1.1, take_more offered i d low) (zip_push IsOfLanguage (take i offered) catalogs (get_or offered i d) adds.1.0 each adds.1.2),
)

pub loop-language-preserved : goal.loop-language-preserved
loop-language-preserved c =
    next c.args.offered.now c.loop-language.language-index no_language c.loop-language.languages.items c.add.new.languages.items
    c.loop-language.catalogs.items c.add.new.catalogs.items c.loop-language-test.true c.in_ok-add.ensures.ok
    c.loop-language.invariant.0 c.loop-language.invariant.1

pub returns-clause-ok : goal.returns-clause-ok
returns-clause-ok c =
    let all : take c.loop-language.language-index c.args.offered.now ≡ c.args.offered.now = take_all _ _ c.loop-language-test.false in
    record {
      languages = c.loop-language.invariant.0 ∙ all;
      each = rw all at c.loop-language.invariant.1;
      otherwise_is = refl;
      other = c.in_ok-other.ensures.ok;
    }

-- what an error has it still has behind `?`
err_of : {A E : Type 0} (made : Result A E) (P : E → Type 0) (old : E) → IsErrAnd made (λ error. error ≡ old) → P old → IfErr made P
err_of (Ok value) P old is holds = tt
err_of (Err error) P old is holds = subst P (sym is) holds

pub returns-in_err-add-clause-err : goal.returns-in_err-add-clause-err
returns-in_err-add-clause-err c =
    let at = c.loop-language.language-index in
    let low = c.loop-language-test.true in
    let language = get_or c.args.offered.now at no_language in
    let there = get_or_from_slice_get c.args.offered.now at language language (slice_get-get_or c.args.offered.now at no_language low) in
    err_of _ _ _ c.from_residual-in_err-add.ensures.1 (inl (at, language, low, there, c.in_err-add.ensures.err))

pub returns-in_err-other-clause-err : goal.returns-in_err-other-clause-err
returns-in_err-other-clause-err c = err_of _ _ _ c.from_residual-in_err-other.ensures.1 (inr c.in_err-other.ensures.err)
