-- What the statements on the table do.
use Rattle.std.proofs.Common.{◌≡◌, ◌⊎◌, inl, inr, ℕ, pos, List, [], ◌∷◌, codes, Bool, true, false, cond, Option, Some, None, Ok, Err, Result, IfErr, OnOk, refl, sym, ap, subst, ◌∙◌, IsTrue}
use Rattle.sqlite.specs.declared.types.Value.{Value}
use Rattle.sqlite.specs.declared.types.Value.TheVariants.{Null, Int, Text}
use Rattle.sqlite.specs.Term.{Term, lit, col}
use Rattle.sqlite.specs.Order.{Row}
use Rattle.sqlite.specs.Ops.{unary}
use Rattle.sqlite.specs.Kind.TheVariants.{Integer}
use Rattle.sqlite.specs.Kind.TheVariants as kind
use Rattle.sqlite.specs.Source.TheVariants.{Values}
use Rattle.sqlite.specs.Command.TheVariants.{Insert, Begin, Commit, CreateTable, Rollback}
use Rattle.sqlite.specs.Compile.{table_defined_by}
use Rattle.sqlite.specs.Change.{created, next_tree}
use Rattle.sqlite.specs.Query.{page}
use Rattle.sqlite.specs.Edit.{edit_of, edited, next_rowid}
use Rattle.sqlite.specs.Cast.{cast}
use Rattle.sqlite.specs.Rowids.TheVariants.{Chosen}
use Rattle.sqlite.specs.Does.{Tally, Does, lacks_sequence}
use Rattle.sqlite.specs.Rows.{Written}
use Rattle.sqlite.specs.Tree.{Trees, put_row}
use Rattle.sqlite_tied.specs.Compute.{everything}
use Rattle.sqlite.specs.declared.error.Error.{Error}
use Rattle.sqlite.specs.Listing.{understood}
use Rattle.sqlite.specs.Effect.{Database}
use Rattle.sqlite.specs.State.{CommitsBy, Executes, HasCleanDisk, State, Survives, Writes, mode_of}
use Rattle.sqlite.proofs.Callers.{IsPlain, command_of, statement_of, runs_as, one_step}
use Rattle.example_import.specs.Line.{number_cell, text_cell}
use Rattle.example_table.specs.Stock.{FailsToCreate, HasTable, create_text, no_schema, stock, stock_schema, value}

abbrev pub insert_text : List ℕ
insert_text = codes "INSERT INTO stock (code, name, quantity, price, page) VALUES (?1, ?2, ?3, ?4, ?5)"

abbrev terms : List Term
terms = lit Null ∷ lit Null ∷ col 0 0 ∷ col 0 1 ∷ col 0 2 ∷ col 0 3 ∷ col 0 4 ∷ []

insert_is : command_of (understood stock_schema insert_text) ≡ Insert 0 (Values terms 7)
unfolding understood everything
insert_is = refl

insert_plain : IsPlain (understood stock_schema insert_text)
unfolding understood everything
insert_plain = (refl, refl)

either : (b : Bool) (x : Value) → cond b x x ≡ x
either true x = refl
either false x = refl

cast_null : cast Integer Null ≡ Null
unfolding unary
cast_null = either _ Null

cast_number : (n : Option ℕ) → cast Integer (value (number_cell n)) ≡ value (number_cell n)
unfolding unary
cast_number None = either _ Null
cast_number (Some n) = either _ (Int (pos n))

cast_text : (t : Option (List ℕ)) → cast kind.Text (value (text_cell t)) ≡ value (text_cell t)
cast_text None = refl
cast_text (Some t) = refl

-- a part that gave a value did not stop on the way
went : {B E R : Type 0} {b : B} {Stops : E → Type 0} → ((stop : E) × Stops stop × (Ok b ≡ Err stop)) ⊎ R → R
went (inl stopped) = absurd (let e = stopped.2 in cc)
went (inr on) = on

same_value : {B E : Type 0} {a b : B} → ◌≡◌ {A = Result B E} (Ok a) (Ok b) → a ≡ b
same_value e = cc

abbrev pub row_params : List ℕ → List ℕ → Option ℕ → Option ℕ → Option (List ℕ) → Row
row_params code name quantity price page = Text code ∷ Text name ∷ value (number_cell quantity) ∷ value (number_cell price) ∷ value (text_cell page) ∷ []

-- a row is put under the next rowid
pub adds : (old new : State) (code name : List ℕ) (quantity price : Option ℕ) (page : Option (List ℕ)) (count : ℕ) → HasTable old → Executes insert_text (row_params code name quantity price page) old new (Ok count)
    → (new.now.schema ≡ stock_schema) × (new.now.trees 0 ≡ put_row (Int (next_rowid (old.now.trees 0)) ∷ Null ∷ row_params code name quantity price page) (old.now.trees 0))
    × (IsTrue old.in_transaction → (new.committed ≡ old.committed) × IsTrue new.in_transaction)
adds old new code name quantity price page count table h =
    let has = table.0 in
    let params = row_params code name quantity price page in
    let db = old.now.trees in
    let command = Insert 0 (Values terms 7) in
    let w = runs_as insert_text params old new stock_schema has command insert_is insert_plain count h in
    let text = statement_of insert_text (understood stock_schema insert_text) in
    let done = went (subst (λ s. Does old.step_limit (mode_of old) params (record old.now { schema = s }) text None command (Ok (w.tally, new.now))) has w.changed) in
    let now = ap (λ (p : Tally × Database). p.1) (same_value (went (went done.2).2).2) in
    let given = went done.1 in
    let written = went (went given.2).2 in
    let counted = went written.2 in
    let trees : done.0.trees ≡ written.0 = ap (λ (it : Written). it.trees) (same_value counted.2) ∙ same_value counted.1 in
    let rows = (one_step stock_schema _ db written.0 (edit_of db stock [] Chosen 0 given.0) refl written.1).rows in
    let edit : edited db (edit_of db stock [] Chosen 0 given.0) ≡ put_row (Int (next_rowid (db 0)) ∷ Null ∷ params) (db 0) =
    ap (λ all. edited db (edit_of db stock [] Chosen 0 all)) given.1.1 ∙ rw (cast_null, cast_number quantity, cast_number price, cast_text page) in (
      ap (λ (d : Database). d.schema) now,
      ap (λ (d : Database). d.trees 0) now ∙ ap (λ (t : Trees). t 0) trees ∙ rows ∙ edit,
      λ inside. (rw inside at w.shown.committed_is, w.shown.mode ∙ inside),
    )

abbrev pub begin_text : List ℕ
begin_text = codes "BEGIN"

abbrev pub commit_text : List ℕ
commit_text = codes "COMMIT"

begin_is : command_of (understood stock_schema begin_text) ≡ Begin
unfolding understood everything
begin_is = refl

begin_plain : IsPlain (understood stock_schema begin_text)
unfolding understood everything
begin_plain = (refl, refl)

commit_is : command_of (understood stock_schema commit_text) ≡ Commit
unfolding understood everything
commit_is = refl

commit_plain : IsPlain (understood stock_schema commit_text)
unfolding understood everything
commit_plain = (refl, refl)

abbrev pub rollback_text : List ℕ
rollback_text = codes "ROLLBACK"

rollback_is : command_of (understood stock_schema rollback_text) ≡ Rollback
unfolding understood everything
rollback_is = refl

rollback_plain : IsPlain (understood stock_schema rollback_text)
unfolding understood everything
rollback_plain = (refl, refl)

pub begins : (old new : State) (count : ℕ) → HasTable old → Executes begin_text [] old new (Ok count) → (new.now ≡ old.now) × (new.committed ≡ old.committed) × IsTrue new.in_transaction
begins old new count table h =
    let ran = runs_as begin_text [] old new stock_schema table.0 Begin begin_is begin_plain count h in
    (ran.1.now_is, ran.1.committed_is, ran.1.mode)

pub commits : (old new : State) (count : ℕ) → HasTable old → Executes commit_text [] old new (Ok count) → (new.now ≡ old.now) × (new.committed ≡ old.now)
commits old new count table h =
    let ran = runs_as commit_text [] old new stock_schema table.0 Commit commit_is commit_plain count h in
    (ran.1.now_is, ran.1.committed_is)

pub undoes : (old new : State) (count : ℕ) → HasTable old → IsTrue new.is_open → Executes rollback_text [] old new (Ok count) → (new.now ≡ old.committed) × (new.committed ≡ old.committed)
undoes old new count table up h =
    let ran = runs_as rollback_text [] old new stock_schema table.0 Rollback rollback_is rollback_plain count h in
    ran.1.undone up

create_is : (command_of (understood no_schema create_text) ≡ CreateTable) × (statement_of create_text (understood no_schema create_text) ≡ create_text) × (table_defined_by create_text ≡ Ok stock)
unfolding understood everything
create_is = (refl, refl, refl)

create_plain : IsPlain (understood no_schema create_text)
unfolding understood everything
create_plain = (refl, refl)

-- outside a transaction the table is made with no rows, and is committed so
pub creates : (old new : State) (count : ℕ) → old.now.schema ≡ no_schema → old.in_transaction ≡ false → Executes create_text [] old new (Ok count)
    → (new.now.schema ≡ stock_schema) × (new.now.trees 0 ≡ []) × (new.committed ≡ new.now)
creates old new count has outside h =
    let w = subst (λ t. Writes old new None CreateTable t [] count) create_is.1 (runs_as create_text [] old new no_schema has CreateTable create_is.0 create_plain count h) in
    let all = went w.changed in
    let first = went all.1 in
    let made = first.1 in
    let both : Ok made.table ≡ Ok stock = sym made.defined ∙ create_is.2 in
    let same : made.table ≡ stock = cc in
    let schema : first.0.schema ≡ stock_schema = made.is ∙ ap (λ s. created s made.table) has ∙ ap (created no_schema) same in
    let plain : lacks_sequence first.0.schema ≡ false = ap lacks_sequence schema in
    let now : new.now ≡ first.0 = ap (λ (p : Tally × Database). p.1) (same_value all.2) ∙ same_value (rw plain at first.2) in (
      ap (λ (d : Database). d.schema) now ∙ schema,
      ap (λ (d : Database). d.trees 0) now ∙ subst (λ s. first.0.trees (next_tree s) ≡ []) has made.empty,
      rw outside at w.shown.committed_is,
    )

-- ---- the same of any answer

pub adds_if : (old new : State) (code name : List ℕ) (quantity price : Option ℕ) (page : Option (List ℕ)) (r : Result ℕ Error) → HasTable old → Executes insert_text (row_params code name quantity price page) old new r
    → OnOk r (new.now.schema ≡ stock_schema) × OnOk r (new.now.trees 0 ≡ put_row (Int (next_rowid (old.now.trees 0)) ∷ Null ∷ row_params code name quantity price page) (old.now.trees 0))
    × (IsTrue old.in_transaction → OnOk r ((new.committed ≡ old.committed) × IsTrue new.in_transaction))
adds_if old new code name quantity price page (Err e) table h = (tt, tt, λ _. tt)
adds_if old new code name quantity price page (Ok count) table h = adds old new code name quantity price page count table h

pub begins_if : (old new : State) (r : Result ℕ Error) → HasTable old → Executes begin_text [] old new r → OnOk r ((new.now ≡ old.now) × (new.committed ≡ old.committed) × IsTrue new.in_transaction)
begins_if old new (Err e) table h = tt
begins_if old new (Ok count) table h = begins old new count table h

pub commits_if : (old new : State) (r : Result ℕ Error) → HasTable old → Executes commit_text [] old new r → OnOk r ((new.now ≡ old.now) × (new.committed ≡ old.now))
commits_if old new (Err e) table h = tt
commits_if old new (Ok count) table h = commits old new count table h

pub undoes_if : (old new : State) (r : Result ℕ Error) → HasTable old → IsTrue new.is_open → Executes rollback_text [] old new r → OnOk r ((new.now ≡ old.committed) × (new.committed ≡ old.committed))
undoes_if old new (Err e) table up h = tt
undoes_if old new (Ok count) table up h = undoes old new count table up h

pub creates_if : (old new : State) (r : Result ℕ Error) → old.now.schema ≡ no_schema → old.in_transaction ≡ false → Executes create_text [] old new r
    → OnOk r (HasTable new × (new.now.trees 0 ≡ []) × (new.committed.trees 0 ≡ []))
creates_if old new (Err e) has outside h = tt
creates_if old new (Ok count) has outside h =
    let made = creates old new count has outside h in
    ((made.0, ap (λ (d : Database). d.schema) made.2 ∙ made.0), made.1, ap (λ (d : Database). d.trees 0) made.2 ∙ made.1)

pub fails_if : (old new : State) (r : Result ℕ Error) → Survives old new (CommitsBy create_text [] old) → (HasCleanDisk new → Executes create_text [] old new r) → IfErr r (FailsToCreate old new)
fails_if old new (Err e) survives runs = (survives, runs)
fails_if old new (Ok count) survives runs = tt
