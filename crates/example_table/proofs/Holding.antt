-- What holds of the table after a statement, and of its lines.
use Rattle.std.proofs.Common.{◌≡◌, ◌∙◌, sym, ap, subst, refl, ℕ, List, [], ◌∷◌, ◌++◌, Option, None, Some, Ok, Err, Result, OnOk, OnErr, inl, inr, IsTrue}
use Rattle.sqlite.specs.declared.error.Error.{Error}
use Rattle.std.proofs.lemmas.List.{map-append}
use Rattle.std.specs.String.{string_bytes}
use Rattle.sqlite.specs.Effect.{Database}
use Rattle.sqlite.specs.Order.{Row}
use Rattle.sqlite.specs.State.{State}
use Rattle.sqlite.specs.Tree.{put_row}
use Rattle.example_import.specs.Line.{Line, text, number_cell, text_cell, page_bytes, line_of}
use Rattle.example_import.specs.declared.row.Row as article
use Rattle.example_table.specs.Stock.{Holds, Ordered, Fails, IsUp, cell, value, lines_in, line_in, stored, stock_schema}
use Rattle.example_table.proofs.Order.{behind, still_ordered}

abbrev Is : Database → Database → Type 0
Is now committed = ((now.schema ≡ stock_schema) × (committed.schema ≡ stock_schema)) × (Ordered (now.trees 0) × Ordered (committed.trees 0))

module _ (old new : State) (holds : Holds old) (up : IsUp old) where
  -- after a failure
  pub after_failure : Fails old new → Is new.now new.committed
  after_failure (inl same) = subst (λ n. Is n new.committed) (sym same.0) (subst (λ c. Is old.now c) (sym same.1) (holds up))
  after_failure (inr back) =
      subst (λ n. Is n new.committed) (sym back.0) (subst (λ c. Is old.committed c) (sym back.1) (((holds up).0.1, (holds up).0.1), ((holds up).1.1, (holds up).1.1)))

  -- after a statement that changed no row
  pub after_nothing : new.now ≡ old.now → new.committed ≡ old.committed → Is new.now new.committed
  after_nothing now committed = subst (λ n. Is n new.committed) (sym now) (subst (λ c. Is old.now c) (sym committed) (holds up))

  pub after_commit : new.now ≡ old.now → new.committed ≡ old.now → Is new.now new.committed
  after_commit now committed =
      subst (λ n. Is n new.committed) (sym now) (subst (λ c. Is old.now c) (sym committed) (((holds up).0.0, (holds up).0.0), ((holds up).1.0, (holds up).1.0)))

  pub after_put : (line : Line) → new.now.schema ≡ stock_schema → new.now.trees 0 ≡ put_row (stored (old.now.trees 0) line) (old.now.trees 0) → new.committed ≡ old.committed → Is new.now new.committed
  after_put line schema rows committed = (
    (schema, ap (λ (d : Database). d.schema) committed ∙ (holds up).0.1),
    (
      subst Ordered (sym rows) (still_ordered (old.now.trees 0) _ (holds up).1.0),
      subst Ordered (sym (ap (λ (d : Database). d.trees 0) committed)) (holds up).1.1,
    ),
  )

pub failure_keeps : (old new : State) → Fails old new → new.committed ≡ old.committed
failure_keeps old new (inl same) = same.1
failure_keeps old new (inr back) = back.1

pub lines_are : (a b : Database) → a ≡ b → lines_in (a.trees 0) ≡ lines_in (b.trees 0)
lines_are a b same = ap (λ (d : Database). lines_in (d.trees 0)) same

number_back : (n : Option ℕ) → cell (value (number_cell n)) ≡ number_cell n
number_back None = refl
number_back (Some n) = refl

text_back : (t : Option (List ℕ)) → cell (value (text_cell t)) ≡ text_cell t
text_back None = refl
text_back (Some t) = refl

line_back : (rows : List Row) (row : article.Row) → line_in (stored rows (line_of row)) ≡ line_of row
line_back rows row = λ i. record {
  code = text (string_bytes row.code);
  name = text (string_bytes row.name);
  quantity = number_back row.quantity i;
  price = number_back row.price i;
  page = text_back (page_bytes row.page) i;
}

-- the line of the row stands behind the others
pub lines_after_put : (old new : State) (row : article.Row) → Ordered (old.now.trees 0) → new.now.trees 0 ≡ put_row (stored (old.now.trees 0) (line_of row)) (old.now.trees 0)
    → lines_in (new.now.trees 0) ≡ lines_in (old.now.trees 0) ++ line_of row ∷ []
lines_after_put old new row ordered rows =
    ap lines_in (rows ∙ behind (old.now.trees 0) _ ordered) ∙ map-append line_in (old.now.trees 0) _ ∙ ap (λ line. lines_in (old.now.trees 0) ++ line ∷ []) (line_back (old.now.trees 0) row)

pub put_holds : (old new : State) → Holds old → IsUp old → (line : Line) (r : Result ℕ Error) → OnOk r (new.now.schema ≡ stock_schema) → OnOk r (new.now.trees 0 ≡ put_row (stored (old.now.trees 0) line) (old.now.trees 0))
    → OnOk r ((new.committed ≡ old.committed) × IsTrue new.in_transaction) → OnErr r (Fails old new) → Is new.now new.committed
put_holds old new holds up line (Ok count) schema rows kept fails = after_put old new holds up line schema rows kept.0
put_holds old new holds up line (Err e) schema rows kept fails = after_failure old new holds up fails
