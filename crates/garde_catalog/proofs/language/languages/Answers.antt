use Rattle.std.proofs.Common.{◌≡◌, List, ◌∷◌, ap₂, refl}
use Rattle.garde_catalog.specs.Shipped.{Tagged}
use Rattle.garde_catalog.proofs.Shipped.{good_languages}
use Rattle.garde_catalog.proofs.language.languages.Goals as goal

then : (one two : Tagged) (some others : List Tagged) → one ≡ two → some ≡ others → one ∷ some ≡ two ∷ others
then one two some others same rest = ap₂ (λ (it : Tagged) (its : List Tagged). it ∷ its) same rest

-- each tag has its table
pub returns-clause-tables : goal.returns-clause-tables
returns-clause-tables c =
    then _ _ _ _ c.tagged.ensures (
    then _ _ _ _ c.tagged-2.ensures (
    then _ _ _ _ c.tagged-3.ensures (
    then _ _ _ _ c.tagged-4.ensures (
    then _ _ _ _ c.tagged-5.ensures (
    then _ _ _ _ c.tagged-6.ensures (
    then _ _ _ _ c.tagged-7.ensures (
    then _ _ _ _ c.tagged-8.ensures (
    then _ _ _ _ c.tagged-9.ensures (
    then _ _ _ _ c.tagged-10.ensures (
    then _ _ _ _ c.tagged-11.ensures (
    then _ _ _ _ c.tagged-12.ensures (
    then _ _ _ _ c.tagged-13.ensures (
    then _ _ _ _ c.tagged-14.ensures (
    then _ _ _ _ c.tagged-15.ensures (
    then _ _ _ _ c.tagged-16.ensures (
    then _ _ _ _ c.tagged-17.ensures (
    then _ _ _ _ c.tagged-18.ensures (
    then _ _ _ _ c.tagged-19.ensures (
    then _ _ _ _ c.tagged-20.ensures (
    then _ _ _ _ c.tagged-21.ensures (
    then _ _ _ _ c.tagged-22.ensures (
    refl))))))))))))))))))))))

pub returns-clause-good : goal.returns-clause-good
returns-clause-good c = good_languages _ (returns-clause-tables c)
