use Rattle.std.proofs.Common.{◌≡◌, IfOk, subst, sym}
use Rattle.std.specs.Cow.{cow_str_bytes}
use Rattle.garde_i18n.specs.DatumOf.{datum_of}
use Rattle.garde_catalog.specs.Catalog.{catalog_text, put_in, word_at}
use Rattle.garde_catalog.proofs.rules.CatalogTexts.text_of.Goals as goal

pub returns-in-CreditCardInvalid-clause-text : goal.returns-in-CreditCardInvalid-clause-text
returns-in-CreditCardInvalid-clause-text c =
    subst (λ datum. IfOk c.because.result (λ s. cow_str_bytes s ≡ catalog_text c.args.self.now (datum_of datum))) (sym c.in-CreditCardInvalid.is)
    (subst (λ place. IfOk c.because.result (λ s. cow_str_bytes s ≡ put_in c.args.self.now 4 (word_at c.args.self.now place))) c.place_of_card.ensures c.because.ensures)

pub returns-in-UrlInvalid-clause-text : goal.returns-in-UrlInvalid-clause-text
returns-in-UrlInvalid-clause-text c =
    subst (λ datum. IfOk c.because-in-UrlInvalid.result (λ s. cow_str_bytes s ≡ catalog_text c.args.self.now (datum_of datum))) (sym c.in-UrlInvalid.is)
    (subst (λ place. IfOk c.because-in-UrlInvalid.result (λ s. cow_str_bytes s ≡ put_in c.args.self.now 7 (word_at c.args.self.now place))) c.place_of_url.ensures c.because-in-UrlInvalid.ensures)

pub returns-in-PhoneNumberInvalid-clause-text : goal.returns-in-PhoneNumberInvalid-clause-text
returns-in-PhoneNumberInvalid-clause-text c =
    subst (λ datum. IfOk c.because-in-PhoneNumberInvalid.result (λ s. cow_str_bytes s ≡ catalog_text c.args.self.now (datum_of datum))) (sym c.in-PhoneNumberInvalid.is)
    (subst (λ place. IfOk c.because-in-PhoneNumberInvalid.result (λ s. cow_str_bytes s ≡ put_in c.args.self.now 10 (word_at c.args.self.now place))) c.place_of_phone.ensures c.because-in-PhoneNumberInvalid.ensures)
