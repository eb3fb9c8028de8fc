-- The table of a stock list in a database.
use Rattle.std.specs.Prelude.{◌≡◌, ◌≢◌, ◌⊎◌, ℕ, ℤ, int_lt, Bool, true, false, List, [], ◌∷◌, filter, length, map, take, Some, Err, codes, All, IsTrue}
use Rattle.std.specs.List.{AllByRecursion}
use Rattle.sqlite.specs.Collation.TheVariants.{Binary}
use Rattle.sqlite.specs.declared.types.Value.{Value}
use Rattle.sqlite.specs.declared.types.Value.TheVariants.{Null, Int, Real, Text as Words, Blob}
use Rattle.sqlite.specs.Order.{Row, column}
use Rattle.sqlite.specs.Table.{Table}
use Rattle.sqlite.specs.Schema.{Schema}
use Rattle.sqlite.specs.Kind.{Kind}
use Rattle.sqlite.specs.Kind.TheVariants.{Integer, Text}
use Rattle.sqlite.specs.Change.{created}
use Rattle.sqlite.specs.Edit.{id_in, next_rowid}
use Rattle.sqlite.specs.Tree.{IsTable, rowid}
use Rattle.sqlite.specs.View.{is_int}
use Rattle.sqlite.specs.Held.{Held, state}
use Rattle.sqlite.specs.State.{State, CommitsBy, Executes, HasCleanDisk, Survives}
use Rattle.sqlite.specs.declared.error.Error.{Error}
use Rattle.sqlite_schema.specs.declared.schema.Column.{Column}
use Rattle.sqlite_schema.specs.declared.schema.Index.{Index}
use Rattle.sqlite_schema.specs.declared.schema.View.{View}
use Rattle.sqlite_trees.specs.declared.store.Store.{Ghosts}
use Rattle.example_table.specs.declared.opening.OpenError.{OpenError}
use Rattle.example_table.specs.declared.opening.OpenError.TheVariants.{OtherTable, Bound, Sqlite}
use Rattle.example_import.specs.Line.{Cell, nothing, number, text, other, Line}

-- a column of a strict table with no default
abbrev pub column_of : List ℕ → Kind → Bool → Column
column_of name kind not_null = record { name = name; kind = kind; is_strict = true; not_null = not_null; default = Null; collation = Binary }

-- the table, in this tree
abbrev pub stock_in : ℕ → Table
stock_in tree = record {
  name = codes "stock";
  tree = tree;
  columns = column_of (codes "id") Integer false ∷ column_of (codes "code") Text true ∷ column_of (codes "name") Text true
      ∷ column_of (codes "quantity") Integer true ∷ column_of (codes "price") Integer true ∷ column_of (codes "page") Text false ∷ [];
  key = Some 0;
  primary = 0 ∷ [];
  uniques = (2 ∷ []) ∷ [];
  orders = (record { digits = 0 }) ∷ [];
  checks = [];
  references = [];
  computed = [];
  stamps = record { places = []; terms = []; formats = [] };
  is_counted = false;
}

abbrev pub stock : Table
stock = stock_in 0

abbrev pub no_schema : Schema
no_schema = record { tables = []; indexes = []; views = [] }

-- the table, with the index of its codes
abbrev pub stock_schema : Schema
stock_schema = created no_schema stock

-- what a column holds, and the value that is put there
abbrev pub cell : Value → Cell
cell Null = nothing
cell (Int n) = number n
cell (Real x) = other
cell (Words t) = text t
cell (Blob b) = other

abbrev pub value : Cell → Value
value nothing = Null
value (number n) = Int n
value (text t) = Words t
value other = Null

-- the line of a row, which has its rowid in front
abbrev pub line_in : Row → Line
line_in r = record { code = cell (column r 2); name = cell (column r 3); quantity = cell (column r 4); price = cell (column r 5); page = cell (column r 6) }

abbrev pub lines_in : List Row → List Line
lines_in = map line_in

-- what the columns of a line are given
abbrev pub params_of : Line → Row
params_of line = value line.code ∷ value line.name ∷ value line.quantity ∷ value line.price ∷ value line.page ∷ []

-- the line as it is stored behind the rows, under the next rowid
abbrev pub stored : List Row → Line → Row
stored rows line = Int (next_rowid rows) ∷ Null ∷ params_of line

-- the rows stand in the order of their rowids
abbrev pub Ordered : List Row → Type 0
Ordered rows = IsTable rows × AllByRecursion (λ r. IsTrue (is_int (rowid r))) rows

-- the rows behind the one with this rowid
abbrev pub behind : ℤ → List Row → List Row
behind last = filter (λ r. int_lt last (id_in (rowid r)))

-- what a query shows of a row: its rowid and its columns
abbrev pub shown : Row → Row
shown r = rowid r ∷ column r 2 ∷ column r 3 ∷ column r 4 ∷ column r 5 ∷ column r 6 ∷ []

-- a page of the rows behind the one with this rowid: what is shown of the first thousand
abbrev pub page_behind : ℤ → List Row → List Row
page_behind last rows = take 1000 (map shown (behind last rows))

-- these rows are what is shown of the first ones behind the one with this rowid
abbrev pub IsFront : List Row → ℤ → List Row → Type 0
IsFront page last rows = page ≡ take (length page) (map shown (behind last rows))

-- the connection is open, and the disk gave back what was written to it
abbrev pub IsUp : State → Type 0
IsUp s = HasCleanDisk s × IsTrue s.is_open

-- the database has the table and nothing else, now and as it was committed
abbrev pub HasTable : State → Type 0
HasTable s = (s.now.schema ≡ stock_schema) × (s.committed.schema ≡ stock_schema)

-- the database has no table, no index and no view, and no transaction has begun
abbrev pub IsFree : State → Type 0
IsFree s = (s.now.schema ≡ no_schema) × (s.in_transaction ≡ false)

-- the database has the table alone, and no view
abbrev pub HasStockAlone : Schema → Type 0
HasStockAlone schema = (tree : ℕ) × (schema.tables ≡ stock_in tree ∷ []) × (schema.views ≡ [])

-- each row that is valid can stand in the index: it is not unique, or SQLite made it of the codes
abbrev pub IsPlainIndex : Index → Type 0
IsPlainIndex index = (index.is_unique ≡ false) ⊎ (index.name ≡ codes "sqlite_autoindex_stock_1")

-- something that is kept as it is belongs to the table, or is the table
abbrev pub IsOfStock : View → Type 0
IsOfStock view = view.foreign ≡ Some (codes "stock")

-- the database has the table with something on it that is not understood, so that it is kept as it is, and nothing else
abbrev pub HasStockBound : Schema → Type 0
HasStockBound schema = (schema.tables ≡ []) × (schema.views ≢ []) × All IsOfStock schema.views

-- the database has the table alone, and each row that is valid can be put there
abbrev pub IsReady : Schema → Type 0
IsReady schema = HasStockAlone schema × All IsPlainIndex schema.indexes

-- the database has the table, and something on it rules out rows, or is not understood
abbrev pub IsBound : Schema → Type 0
IsBound schema = HasStockBound schema ⊎ (HasStockAlone schema × ¬ (IsReady schema))

abbrev pub create_text : List ℕ
create_text = codes "CREATE TABLE stock (id INTEGER PRIMARY KEY, code TEXT NOT NULL UNIQUE, name TEXT NOT NULL, quantity INTEGER NOT NULL, price INTEGER NOT NULL, page TEXT) STRICT"

-- the statement that makes the table failed
abbrev pub FailsToCreate : State → State → Error → Type 0
FailsToCreate old new error = Survives old new (CommitsBy create_text [] old) × (HasCleanDisk new → Executes create_text [] old new (Err error))

-- why no table was made: the database is not free, or it is and the statement failed
abbrev pub IsNotMade : {S : Type 0} → Ghosts S → OpenError → Held S → Type 0
IsNotMade g OtherTable conn = ¬ (IsFree (state g conn))
IsNotMade g Bound conn = ⊥
IsNotMade {S} g (Sqlite error) conn = IsFree (state g conn) × ((after : Held S) × FailsToCreate (state g conn) (state g after) error)

-- why a database is rejected: it is not free and does not have the table, something binds the table, or none was made
abbrev pub IsRejected : {S : Type 0} → Ghosts S → OpenError → Held S → Type 0
IsRejected g OtherTable conn = IsNotMade g OtherTable conn × ¬ (IsReady conn.schema) × ¬ (IsBound conn.schema)
IsRejected g Bound conn = IsBound conn.schema
IsRejected g (Sqlite error) conn = IsNotMade g (Sqlite error) conn

abbrev pub Stays : State → State → Type 0
Stays old new = (new.now ≡ old.now) × (new.committed ≡ old.committed) × (new.in_transaction ≡ old.in_transaction)

-- a failed statement changes nothing, or it ends the transaction, and what was not committed is gone
abbrev pub Fails : State → State → Type 0
Fails old new = Stays old new ⊎ ((new.now ≡ old.committed) × (new.committed ≡ old.committed) × (new.in_transaction ≡ false))

-- what holds of the table all along: it is there, and its rows stand in order
abbrev pub Holds : State → Type 0
Holds s = IsUp s → HasTable s × (Ordered (s.now.trees 0) × Ordered (s.committed.trees 0))
