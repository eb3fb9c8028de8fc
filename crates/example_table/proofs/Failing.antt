-- What a statement leaves that failed, and that it ran on an open connection.
use Rattle.std.proofs.Common.{◌⊎◌, inl, inr, ℕ, List, Some, None, Ok, Err, Result, OnErr, IsTrue, false}
use Rattle.std.proofs.lemmas.Bool.{cases_Bool}
use Rattle.sqlite.specs.Order.{Row}
use Rattle.sqlite.specs.Command.{Command}
use Rattle.sqlite.specs.Command.TheVariants.{Select, Insert, InsertOr, Update, Delete, CreateTable, CreateIndex, DropTable, DropIndex, Begin, Commit, Rollback, Savepoint as Save, Release, RollbackTo, Nothing, CreateView, DropView, Rows}
use Rattle.sqlite.specs.declared.error.Error.{Error}
use Rattle.sqlite.specs.State.{State, Runs, Executes, ExecutesIn, IsNotRun, RunsCommand, IsUnchanged, IsRolledBack, FailsToQuery, FailsToShow, Shown, ShowsRows, shows_rows, text_of}
use Rattle.sqlite.specs.Clock.{timed}
use Rattle.example_table.specs.Stock.{Fails}

module _ (old new : State) where
  -- a statement that failed left the connection as it was, or rolled back
  safe : IsTrue new.is_open → IsUnchanged old new ⊎ IsRolledBack old new → IsTrue old.is_open × Fails old new
  safe up (inl same) = (same.0.was_open, inl (same.0.now_is, same.0.committed_is, same.0.mode))
  safe up (inr back) = let u = back.undone up in (back.was_open up, inr (u.0, u.1, back.autocommit))

  not_run : (sql : List ℕ) (params : Row) (e : Error) → IsNotRun old new sql params e → IsUnchanged old new ⊎ IsRolledBack old new
  unfolding IsNotRun
  not_run sql params e (inl no_statement) = inl no_statement.1
  not_run sql params e (inr failed) = inr failed.3

  command_failed : (sql : List ℕ) (c : _) (params : Row) (e : Error) → RunsCommand old new sql c params (Err e) → IsUnchanged old new ⊎ IsRolledBack old new
  command_failed sql c params e (inl refused) = inl refused.1
  command_failed sql c params e (inr failed) = inr failed.3

  pub execute_failed : (sql : List ℕ) (params : Row) (e : Error) → IsTrue new.is_open → Executes sql params old new (Err e) → IsTrue old.is_open × Fails old new
  unfolding ExecutesIn
  execute_failed sql params e up (inl none) = safe up (not_run sql params e none)
  execute_failed sql params e up (inr h) = safe up (elim (cases_Bool (shows_rows false h.0)) [
    | inl shows ↦ inl (rw shows at h.2).1
    | inr runs ↦ command_failed sql h.0 (timed params h.0.formats h.1.now) e (rw runs at h.2)
  ])

  show_failed : (sql : List ℕ) (c : _) (params : Row) (e : Error) (returning : _) → FailsToShow old new sql c params e returning → IsUnchanged old new ⊎ IsRolledBack old new
  show_failed sql c params e None h = inl h.3
  show_failed sql c params e (Some what) h = command_failed sql c params e h

  pub query_failed : (sql : List ℕ) (params : Row) (e : Error) → IsTrue new.is_open → FailsToQuery sql params old new e → IsTrue old.is_open × Fails old new
  unfolding FailsToQuery
  query_failed sql params e up (inl none) = safe up (not_run sql params e none)
  query_failed sql params e up (inr h) = safe up (show_failed sql h.0 (timed params h.0.formats h.1.now) e h.0.returning h.2)

  ran_open : (returning : _) (command : Command) (text : List ℕ) (params : Row) (count : ℕ) → IsTrue new.is_open → Runs old new returning command text params count → IsTrue old.is_open
  ran_open returning (Select q names) text params count up h = absurd h
  ran_open returning (Insert at from) text params count up h = h.shown.was_open
  ran_open returning (InsertOr at how from clauses) text params count up h = h.shown.was_open
  ran_open returning (Update at q) text params count up h = h.shown.was_open
  ran_open returning (Delete at q) text params count up h = h.shown.was_open
  ran_open returning CreateTable text params count up h = h.shown.was_open
  ran_open returning (CreateIndex at) text params count up h = h.shown.was_open
  ran_open returning (DropTable at) text params count up h = h.shown.was_open
  ran_open returning (DropIndex at) text params count up h = h.shown.was_open
  ran_open returning Begin text params count up h = h.1.was_open
  ran_open returning Commit text params count up h = h.1.was_open
  ran_open returning Rollback text params count up h = h.1.was_open up
  ran_open returning (Save name) text params count up h = h.0.0.was_open
  ran_open returning (Release name) text params count up (at, newest, inl all, none) = all.1.0.was_open
  ran_open returning (Release name) text params count up (at, newest, inr part, none) = part.1.0.was_open
  ran_open returning (RollbackTo name) text params count up h = h.2.2.was_open
  ran_open returning (Rows values width names) text params count up h = h.0.0.was_open
  ran_open returning Nothing text params count up h = h.0.0.was_open
  ran_open returning CreateView text params count up h = h.shown.was_open
  ran_open returning (DropView at) text params count up h = h.shown.was_open

  pub execute_open : (sql : List ℕ) (params : Row) (r : Result ℕ Error) → IsTrue new.is_open → Executes sql params old new r → IsTrue old.is_open
  unfolding ExecutesIn
  execute_open sql params (Err e) up h = (execute_failed sql params e up h).0
  execute_open sql params (Ok count) up h = elim (cases_Bool (shows_rows false h.0)) [
    | inl shows ↦ (rw shows at h.2).1.0.was_open
    | inr runs ↦ ran_open h.0.returning h.0.command (text_of sql h.0) (timed params h.0.formats h.1.now) count up (rw runs at h.2)
  ]

  shown_open : (sql : List ℕ) (c : _) (params : Row) (rows : List Row) (returning : _) → ShowsRows old new sql c params rows returning → IsTrue old.is_open
  shown_open sql c params rows None h = h.3.0.was_open
  shown_open sql c params rows (Some what) h = h.1.shown.was_open

  pub query_open : (sql : List ℕ) (params : Row) (rows : List Row) → Shown sql params old new rows → IsTrue old.is_open
  unfolding Shown
  query_open sql params rows h = shown_open sql h.0 (timed params h.0.formats h.1.now) rows h.0.returning h.2

  pub execute_fails : (sql : List ℕ) (params : Row) (r : Result ℕ Error) → IsTrue new.is_open → Executes sql params old new r → OnErr r (Fails old new)
  execute_fails sql params (Ok count) up h = tt
  execute_fails sql params (Err e) up h = (execute_failed sql params e up h).1
